-- What is published of an auction at a store is one.
use Rattle.std.proofs.Common.{◌≡◌, ℕ, List, Some, IfSome, length, refl, sym, ap, subst, ◌∙◌}
use Rattle.std.specs.FinMap.{get}
use Rattle.std.proofs.lemmas.Option.{same_Some}
use Rattle.sqlite.specs.Store.{Ghosts}
use Rattle.sqlite.specs.Held.{Held}
use Rattle.vk_vickrey.specs.declared.sales.Sale.{Sale}
use Rattle.vk_reply.specs.declared.challenge.Challenge.{Challenge}
use Rattle.vk_reply.specs.Values.{IsChallenge}
use Rattle.vk_reply.specs.Texts.{challenge_text}
use Rattle.vk_verifier.specs.Acceptance.{Accepts}
use Rattle.vk_keeper.specs.declared.auction.Auction.{Auction}
use Rattle.vk_keeper.specs.Auctions.{IsAuction, challenge_of}
use Rattle.vk_keeper.specs.Ledgers.{Ledger, IsKeptUnder, IsLedger}
use Rattle.vk_job.specs.Jobs.{sale_in}
use Rattle.vk_job.specs.Published.{IsChallengeTo, board_of, reply_of}
use Rattle.vk_house.specs.Commands.{HouseCommand, Prove, Answer, id_of}
use Rattle.vk_house.specs.Replies.{HouseReply, Work}
use Rattle.vk_house.specs.Steps.{house_step}
use Rattle.vk_house.specs.Once.{KeepsAnswers}
use Rattle.vk_house.proofs.Once.{HasBoard, answer_stays, board_stays}
use Rattle.vk_auctioneer.specs.Lines.{reply_said}
use Rattle.vk_auctioneer.proofs.Working.{GivesWork, Worked, answer_challenges, prove_seeds, proved_from, worked}
use Rattle.vk_honest.proofs.Accepted.{answers_are_accepted}
use Rattle.vk_store_laws.specs.Runs.{Tells}
use Rattle.vk_store_laws.specs.Serving.{Served, done, Serves, Proves, Answers}
use Rattle.vk_store_laws.proofs.Runs.{IsSettled}
use Rattle.vk_store_laws.proofs.Serving.{StepsRight, led, serve}

-- ---- what was done

same_work : (one other : Auction) (sale given : Sale)
    → ◌≡◌ {A = HouseReply} (Work one sale) (Work other given) → one ≡ other
same_work one other sale given is = cc

-- a command that gave work was done on the auction of the work
gave : (old new : Ledger) (command : HouseCommand) → GivesWork command → (auction : Auction)
    (sale : Sale) → house_step old command ≡ (Work auction sale, new) → Worked old command auction
gave old new command works auction sale is =
    let reply = ap (λ (r : HouseReply × Ledger). r.0) is in
    let did = worked old command works
    (ap (λ (r : HouseReply). (reply_said command r).status) reply) in
    subst (Worked old command)
    (same_work did.0 auction (sale_in did.0) sale (sym did.1.reply ∙ reply)) did.1

-- which stands under its id afterwards
stands_after : (old new : Ledger) (command : HouseCommand) (reply : HouseReply) (auction : Auction)
    → house_step old command ≡ (reply, new) → Worked old command auction
    → get new (id_of command) ≡ Some auction
stands_after old new command reply auction is did =
    ap (λ (r : HouseReply × Ledger). get r.1 (id_of command)) (sym is) ∙ did.kept

-- ---- what lasts

-- the last ledger has this auction under the id, which answered the challenge, and whose reply is
-- accepted
record Replied (last : Ledger) (id : List ℕ) (challenge : Challenge) (auction : Auction) : Type 0
  where
    stands : get last id ≡ Some auction
    challenge_is : challenge_of auction.phase ≡ Some challenge
    accepted : Accepts (board_of auction) (challenge_text challenge) (reply_of auction challenge)

proved_lasts : (old new last : Ledger) (id seed : List ℕ) (auction : Auction) (sale : Sale)
    → house_step old (Prove id seed) ≡ (Work auction sale, new) → KeepsAnswers new last
    → HasBoard (get last id) (board_of auction)
proved_lasts old new last id seed auction sale is keeps =
    let did = gave old new (Prove id seed) (λ a. refl) auction sale is in
    let seeded = prove_seeds id seed (get old id) auction did.passes did.later in
    board_stays new last id seed auction keeps
    (stands_after old new (Prove id seed) (Work auction sale) auction is did) seeded.seed_is

asked_of : (auction : Auction) (challenge : Challenge) → IsAuction auction
    → challenge_of auction.phase ≡ Some challenge → IsChallengeTo auction challenge
asked_of auction challenge right is = record {
  right = subst (λ c. IfSome c IsChallenge) is right.held.challenge;
  one_bit_each = subst (λ c. IfSome c (λ (k : Challenge). length k.bits ≡ auction.lanes)) is
      right.held.bits;
}

answered_lasts : (old new last : Ledger) (id : List ℕ) (challenge : Challenge) (auction : Auction)
    (sale : Sale) → IsLedger new → house_step old (Answer id challenge) ≡ (Work auction sale, new)
    → KeepsAnswers new last → Replied last id challenge auction
answered_lasts old new last id challenge auction sale ledger is keeps =
    let did = gave old new (Answer id challenge) (λ a. refl) auction sale is in
    let asked = answer_challenges id challenge (get old id) auction did.passes did.later in
    let stands = stands_after old new (Answer id challenge) (Work auction sale) auction is did in
    let under : IsKeptUnder id auction =
    subst (λ answer. IfSome answer (IsKeptUnder id)) stands (ledger id) in
    let proved = proved_from auction asked.seed under.right asked.seeded.seed_is asked.seeded.tapes
    in
    record {
      stands = answer_stays new last id challenge auction keeps stands asked.challenge_is;
      challenge_is = asked.challenge_is;
      accepted = answers_are_accepted auction challenge proved
          (asked_of auction challenge under.right asked.challenge_is);
    }

published : (all : List Served) (old last : Ledger) (id : List ℕ) (auction : Auction)
    → StepsRight all old last → Proves all id auction → HasBoard (get last id) (board_of auction)
published all old last id auction steps (seed, sale, among) =
    let one = led all (done (Prove id seed) (Work auction sale)) old last steps among in
    proved_lasts one.before one.after last id seed auction sale one.steps one.keeps

replied : (all : List Served) (old last : Ledger) (id : List ℕ) (challenge : Challenge)
    (auction : Auction) → StepsRight all old last → Answers all id challenge auction
    → Replied last id challenge auction
replied all old last id challenge auction steps (sale, among) =
    let one = led all (done (Answer id challenge) (Work auction sale)) old last steps among in
    answered_lasts one.before one.after last id challenge auction sale one.right one.steps one.keeps

module _ {S : Type 0} (g : Ghosts S) (settled : IsSettled g) where
  pub answers_are_one : (all : List Served) (old new : Held S) (ledger : Ledger) (id : List ℕ)
      (one other : Challenge) (first second : Auction) → Serves g all old new
      → Tells g old ledger → Answers all id one first → Answers all id other second
      → (one ≡ other) × (first ≡ second)
  answers_are_one all old new ledger id one other first second serves tells here there =
      let it = serve g settled all old new ledger serves tells in
      let a = replied all ledger it.0 id one first it.1 here in
      let b = replied all ledger it.0 id other second it.1 there in
      let same = same_Some first second (sym a.stands ∙ b.stands) in (
        same_Some one other (sym a.challenge_is
            ∙ ap (λ (k : Auction). challenge_of k.phase) same ∙ b.challenge_is),
        same,
      )

  pub boards_are_one : (all : List Served) (old new : Held S) (ledger : Ledger) (id : List ℕ)
      (first second : Auction) → Serves g all old new → Tells g old ledger
      → Proves all id first → Proves all id second → board_of first ≡ board_of second
  boards_are_one all old new ledger id first second serves tells here there =
      let it = serve g settled all old new ledger serves tells in
      let a = published all ledger it.0 id first it.1 here in
      let b = published all ledger it.0 id second it.1 there in
      sym a.board_is ∙ ap board_of (same_Some a.auction b.auction (sym a.stands ∙ b.stands))
      ∙ b.board_is

  pub answers_accepted : (all : List Served) (old new : Held S) (ledger : Ledger) (id : List ℕ)
      (challenge : Challenge) (first second : Auction) → Serves g all old new
      → Tells g old ledger → Proves all id first → Answers all id challenge second
      → Accepts (board_of first) (challenge_text challenge) (reply_of second challenge)
  answers_accepted all old new ledger id challenge first second serves tells here there =
      let it = serve g settled all old new ledger serves tells in
      let a = published all ledger it.0 id first it.1 here in
      let b = replied all ledger it.0 id challenge second it.1 there in
      subst (λ board. Accepts board (challenge_text challenge) (reply_of second challenge))
      (ap board_of (same_Some second a.auction (sym b.stands ∙ a.stands)) ∙ a.board_is) b.accepted
