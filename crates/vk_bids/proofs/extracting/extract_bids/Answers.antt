use Rattle.std.proofs.Common.{rules, ◌≡◌, List, sym, ap, subst, ◌∙◌}
use Rattle.std.proofs.lemmas.Result.{IfErr-weaker}
use Rattle.vk_board.specs.declared.board.SealLines.{SealLines}
use Rattle.vk_board.specs.Reading.{seats_of}
use Rattle.vk_extractor.specs.Refused.{IsRefusalOf}
use Rattle.vk_bids.specs.declared.bids.OpenedBid.{OpenedBid}
use Rattle.vk_bids.specs.Bids.{opened_bids}
use Rattle.vk_bids.specs.Opening.{OpensTwice, OpensValues}
use Rattle.vk_bids.proofs.Showing.{case_gives, refusal_opens}
use Rattle.vk_bids.proofs.extracting.extract_bids.Goals as goal

pub returns-clause-opens : goal.returns-clause-opens
returns-clause-opens c =
    let s = c.args.statement.now in
    let bids : c.in_ok-bids.bids ≡ opened_bids (seats_of s.seals) c.args.zero.now c.args.one.now =
    c.in_ok-bids.ensures ∙ ap (λ (seals : List SealLines). opened_bids (seats_of seals)
    c.args.zero.now c.args.one.now) c.seals.ensures.value in
    let P : List OpenedBid → Type 0 = λ bids. OpensValues s c.args.lane bids in
    subst P (sym bids)
    ((case_gives s c.args.lane c.args.case.now c.args.zero.now c.args.one.now
    c.seals.ensures.right c.requires.first c.requires.last c.requires.case c.requires.zero
    c.requires.one).0 c.in_ok-_values.ensures.agree)

pub returns-in_err-_values-clause-opened_twice : goal.returns-in_err-_values-clause-opened_twice
returns-in_err-_values-clause-opened_twice c =
    let plan = c.args.statement.now.plan in
    let case = c.args.case.now in
    let zeros = c.args.zero.now in
    let ones = c.args.one.now in
    IfErr-weaker c.from_residual.result (λ refused. IsRefusalOf refused case zeros ones)
    (λ refused. OpensTwice refused plan case)
    (λ refused found. refusal_opens refused plan case zeros ones c.requires.zero c.requires.one
    found) (search rules)
