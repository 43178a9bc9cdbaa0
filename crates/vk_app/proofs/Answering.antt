-- What runs on one keeper leave of one auction: one board, one challenge and one reply.
use Rattle.std.proofs.Common.{◌≡◌, ℕ, zero, suc, List, [], ◌∷◌, Some, refl, sym, ap, subst, ◌∙◌, arith}
use Rattle.std.specs.Prelude.{Contains}
use Rattle.std.specs.FinMap.{get}
use Rattle.std.proofs.lemmas.Option.{same_Some}
use Rattle.vk_io.proofs.Finite.{get_own}
use Rattle.vk_reply.specs.declared.challenge.Challenge.{Challenge}
use Rattle.vk_reply.specs.Texts.{challenge_text}
use Rattle.vk_verifier.specs.Acceptance.{Accepts}
use Rattle.vk_keeper.specs.declared.auction.Auction.{Auction}
use Rattle.vk_keeper.specs.Auctions.{challenge_of}
use Rattle.vk_keeper.specs.Ledgers.{Ledger, IsLedger}
use Rattle.vk_job.specs.Published.{board_of, reply_of}
use Rattle.vk_house.specs.Once.{KeepsAnswers}
use Rattle.vk_house.proofs.Once.{HasBoard, answer_stays, board_stays, keeps_on, keeps_same}
use Rattle.vk_words.specs.Commands.{command_words}
use Rattle.vk_ceremony.specs.Acts.{HouseAct}
use Rattle.vk_app.specs.Auctions.{Answers, AreRuns, IsActIn, IsActOf, IsRun, Proves, PublishesBoard, PublishesReply, Run, orders_of}
use Rattle.vk_app.proofs.Served.{served_found, served_keeps}

-- ---- what stands in the last ledger

-- the auction of that id there, which was given this challenge and has this reply
record Replied (last : Ledger) (id given shown : List ℕ) : Type 0 where
  auction : Auction
  answered : Challenge
  stands : get last id ≡ Some auction
  answered_is : challenge_of auction.phase ≡ Some answered
  given_is : given ≡ challenge_text answered
  shown_is : shown ≡ reply_of auction answered
  accepted : Accepts (board_of auction) (challenge_text answered) (reply_of auction answered)

-- ---- acts

-- what an act publishes, where all that is kept after it is kept until the last ledger
record Lasts (act : HouseAct) (last : Ledger) : Type 0 where
  boards : PublishesBoard act
  replies : PublishesReply act
  keeps : KeepsAnswers act.kept last

proved_lasts : (act : HouseAct) (last : Ledger) (id published : List ℕ) → Lasts act last
    → Proves act id published → HasBoard (get last id) published
proved_lasts act last id published lasts proves =
    let left = lasts.boards id proves.seed proves.board proves.order_is proves.done in
    subst (HasBoard (get last id))
    (same_Some (board_of left.auction) published
    (sym (get_own act.files proves.board (board_of left.auction))
    ∙ ap (λ files. get files proves.board) (sym left.written) ∙ proves.published_is))
    (board_stays act.kept last id proves.seed left.auction lasts.keeps left.stands left.seed_is)

answered_lasts : (act : HouseAct) (last : Ledger) (id given shown : List ℕ) → Lasts act last
    → Answers act id given shown → Replied last id given shown
answered_lasts act last id given shown lasts answers =
    let left = lasts.replies id answers.challenge answers.reply answers.order_is answers.done in
    record {
      auction = left.auction;
      answered = left.answered;
      stands = answer_stays act.kept last id left.answered left.auction lasts.keeps left.stands
          left.answered_is;
      answered_is = left.answered_is;
      given_is = same_Some given (challenge_text left.answered) (sym answers.given_is ∙ left.read);
      shown_is = same_Some shown (reply_of left.auction left.answered)
          (sym answers.shown_is ∙ ap (λ files. get files answers.reply) left.written
          ∙ get_own act.files answers.reply (reply_of left.auction left.answered));
      accepted = left.accepted;
    }

-- ---- runs

run_keeps : (one : Run) → IsRun one → KeepsAnswers one.ledger one.kept
run_keeps one is = served_keeps (orders_of one.files (command_words one.words)) one.files one.ledger
    one.acts one.stop (Some one.left) one.kept is.performs

run_lasts : (one : Run) (last : Ledger) (act : HouseAct) → IsRun one → IsLedger one.ledger
    → KeepsAnswers one.kept last → IsActIn one.acts one.stop act → Lasts act last
run_lasts one last act is right keeps among = record {
  boards = is.boards right act among;
  replies = is.replies right act among;
  keeps = keeps_on act.kept one.kept last
      (served_found one.words one.files one.ledger one.acts one.stop (Some one.left) (Some one.kept)
      one.kept act is.performs refl right among).keeps keeps;
}

runs_keep : (runs : List Run) (old new : Ledger) → AreRuns runs old new → KeepsAnswers old new
runs_keep [] old new is = subst (KeepsAnswers old) (sym is) (keeps_same old)
runs_keep (one ∷ later) old new (begins, is, rest) =
    keeps_on old one.kept new
    (subst (λ ledger. KeepsAnswers ledger one.kept) begins (run_keeps one is))
    (runs_keep later one.kept new rest)

lasts : (runs : List Run) (old new : Ledger) (one : Run) (act : HouseAct) → IsLedger old
    → AreRuns runs old new → Contains runs one → IsActIn one.acts one.stop act → Lasts act new
lasts [] old new one act right are (k, below, at) among = absurd (omega arith)
lasts (first ∷ later) old new one act right (begins, is, rest) (zero, below, at) among =
    run_lasts one new act (subst IsRun at is)
    (subst (λ (r : Run). IsLedger r.ledger) at (subst IsLedger (sym begins) right))
    (subst (λ (r : Run). KeepsAnswers r.kept new) at (runs_keep later first.kept new rest)) among
lasts (first ∷ later) old new one act right (begins, is, rest) (suc k, below, at) among =
    lasts later first.kept new one act (is.ledgers (subst IsLedger (sym begins) right)) rest
    (k, omega arith, at) among

act_lasts : (runs : List Run) (old new : Ledger) (act : HouseAct) → IsLedger old
    → AreRuns runs old new → IsActOf runs act → Lasts act new
act_lasts runs old new act right are of = lasts runs old new of.0 act right are of.1 of.2

-- ---- the laws

same_auction : (last : Ledger) (id : List ℕ) (one other : Auction) → get last id ≡ Some one
    → get last id ≡ Some other → one ≡ other
same_auction last id one other here there = same_Some one other (sym here ∙ there)

pub boards_are_one : (runs : List Run) (old new : Ledger) (one other : HouseAct)
    (id published shown : List ℕ) → IsLedger old → AreRuns runs old new → IsActOf runs one
    → IsActOf runs other
    → Proves one id published → Proves other id shown → published ≡ shown
boards_are_one runs old new one other id published shown right are first second proves next =
    let here = proved_lasts one new id published (act_lasts runs old new one right are first) proves
    in
    let there = proved_lasts other new id shown (act_lasts runs old new other right are second) next
    in
    sym here.board_is ∙ ap board_of
    (same_auction new id here.auction there.auction here.stands there.stands)
    ∙ there.board_is

pub answers_are_one : (runs : List Run) (old new : Ledger) (one other : HouseAct)
    (id given shown next_given next_shown : List ℕ) → IsLedger old → AreRuns runs old new
    → IsActOf runs one → IsActOf runs other
    → Answers one id given shown → Answers other id next_given next_shown → (given ≡ next_given)
    × (shown ≡ next_shown)
answers_are_one runs old new one other id given shown next_given next_shown right are first second
    answers next =
    let here = answered_lasts one new id given shown (act_lasts runs old new one right are first)
    answers in
    let there = answered_lasts other new id next_given next_shown
    (act_lasts runs old new other right are second) next in
    let auction = same_auction new id here.auction there.auction here.stands there.stands in
    let challenges : here.answered ≡ there.answered =
    same_Some here.answered there.answered
    (sym here.answered_is ∙ ap (λ (a : Auction). challenge_of a.phase) auction
    ∙ there.answered_is) in (
      here.given_is ∙ ap challenge_text challenges ∙ sym there.given_is,
      here.shown_is ∙ ap (λ (a : Auction). reply_of a here.answered) auction
          ∙ ap (reply_of there.auction) challenges ∙ sym there.shown_is,
    )

pub answers_are_accepted : (runs : List Run) (old new : Ledger) (one other : HouseAct)
    (id published given shown : List ℕ) → IsLedger old → AreRuns runs old new → IsActOf runs one
    → IsActOf runs other
    → Proves one id published → Answers other id given shown → Accepts published given shown
answers_are_accepted runs old new one other id published given shown right are first second proves
    answers =
    let here = proved_lasts one new id published (act_lasts runs old new one right are first) proves
    in
    let there = answered_lasts other new id given shown
    (act_lasts runs old new other right are second) answers in
    let board : board_of there.auction ≡ published =
    ap board_of (same_auction new id there.auction here.auction there.stands here.stands)
    ∙ here.board_is in
    subst (λ b. Accepts b given shown) board
    (subst (λ g. Accepts (board_of there.auction) g shown) (sym there.given_is)
    (subst (Accepts (board_of there.auction) (challenge_text there.answered)) (sym there.shown_is)
    there.accepted))
