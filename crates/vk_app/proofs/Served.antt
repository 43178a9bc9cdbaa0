-- What a run does at the house, from how it ends.
use Rattle.std.proofs.Common.{◌≡◌, ℕ, zero, suc, List, [], ◌∷◌, Option, Some, None, IfSome, IsSomeAnd, Result, Ok, Err, refl, sym, ap, subst, ◌∙◌, arith, inl, inr}
use Rattle.std.specs.Prelude.{◌++◌, Contains, map, option_map}
use Rattle.std.specs.FinMap.{get, insert}
use Rattle.std.specs.List.{AllByRecursion}
use Rattle.std.specs.Result.{result_err, result_ok}
use Rattle.std.proofs.lemmas.Option.{same_Some}
use Rattle.vk_io.specs.declared.errors.OutsideErr.{OutsideErr}
use Rattle.vk_io.specs.Files.{Files}
use Rattle.vk_io.specs.Writing.{written}
use Rattle.vk_report.specs.Samples.{sample_of}
use Rattle.vk_keeper.specs.declared.auction.Auction.{Auction}
use Rattle.vk_keeper.specs.declared.auction.SealRow.{SealRow}
use Rattle.vk_keeper.specs.Ledgers.{Ledger, IsLedger}
use Rattle.vk_job.specs.Published.{board_of, reply_of}
use Rattle.vk_house.specs.Commands.{HouseCommand}
use Rattle.vk_house.specs.Commands as house
use Rattle.vk_house.specs.Once.{KeepsAnswers}
use Rattle.vk_house.specs.Replies.{HouseReply}
use Rattle.vk_house.proofs.Once.{keeps_on, keeps_same}
use Rattle.vk_honest.proofs.Accepted.{answers_are_accepted}
use Rattle.vk_words.specs.Commands.{CommandWords, Seal, House, Sample, ClaimSample, Coin, command_words}
use Rattle.vk_words.specs.Commands as commands
use Rattle.vk_words.specs.Orders.{HouseWords, SealWords, Announce, AnnounceReserve, Submit, Prove, Answer, Show}
use Rattle.vk_effect.specs.Effects.{Effect, Outside, SaidValue, outside, said_of, stores, says}
use Rattle.vk_effect.specs.Ends.{Ends}
use Rattle.vk_auctioneer.specs.Effects.{answer_effect, house_effect, prove_effect, Writes, asked, if_read, no_file, reply_file}
use Rattle.vk_auctioneer.specs.Inputs.{challenge_in, row_in}
use Rattle.vk_auctioneer.specs.Laws.{AreHouseWords, LeavesAuction}
use Rattle.vk_auctioneer.proofs.Reading.{reads_challenge, reads_row}
use Rattle.vk_auctioneer.proofs.Words.{house_bytes}
use Rattle.vk_auctioneer.proofs.Written.{boards_are_written, replies_are_written}
use Rattle.vk_ceremony.specs.Acts.{HouseAct, IsAct, Performs, PerformsSome}
use Rattle.vk_ceremony.specs.Ceremonies.{Ceremony, EndsAll, ceremony_on}
use Rattle.vk_ceremony.specs.Runs.{asked_in, orders_in}
use Rattle.vk_ceremony.proofs.Following.{ledger_by, ledger_left, order_told}
use Rattle.vk_ceremony.proofs.Performing.{act_of, ceremony_performs, command_performs}
use Rattle.vk_ceremony.proofs.Standing.{act_same, act_steps, is_act_within, keeps_within, orders_are, performs_keeps, performs_right, right_before, right_within}
use Rattle.vk_sample_parts.specs.Auctions.{DrySeed, auction_of}
use Rattle.vk_sample.specs.Samples.{effect_by, sample_on}
use Rattle.vk_job.specs.Proofs.{ProofValue}
use Rattle.vk_report.specs.declared.sample.SampleCase.{SampleCase}
use Rattle.vk_claims.specs.Claims.{claim_case, numbers_of, proof_by}
use Rattle.vk_words.specs.declared.claim.Kind.{Kind}
use Rattle.vk_words.specs.declared.claim.Kind.TheVariants.{Uniform, Matching}
use Rattle.vk_words.specs.Coins.{CoinWords}
use Rattle.vk_words.specs.Coins as coins
use Rattle.vk_coins.specs.Deeds.{coin_on}
use Rattle.vk_claims.specs.ClaimSamples.{EndsFreely, claim_sample_on, effect_with}
use Rattle.vk_claims.specs.ClaimSamples as claimed
use Rattle.vk_app.specs.Auctions.{CommandIsDone, IsActIn, KeepsToSteps, PerformsAt, PublishesBoard, PublishesReply, Serves, ServesHouse, orders_of, input_fault}
use Rattle.vk_app.specs.Commands.{Command, CommandEndsFreely, EndsWork, Script, Work, command_effect, work_of, work_on}
use Rattle.vk_app.specs.Sealing.{seal_on}

-- ---- one act

-- an act by words that may ask the house, on a ledger; what it kept is kept until the last ledger
pub record Found (act : HouseAct) (last : Ledger) : Type 0 where
  pub is : IsAct act
  pub words : AreHouseWords act.order
  pub right : IsLedger act.ledger
  pub keeps : KeepsAnswers act.kept last

-- what is said where a file couldn't be read
read_fault : {X : Type 0} (ledger : Ledger) (read : Result X SaidValue)
    (writes : X → HouseReply → Writes) (command : X → HouseCommand) (effect : Effect)
    → Some (if_read ledger (λ x. asked (writes x) ledger (command x)) read) ≡ Some effect
    → option_map command (result_ok read) ≡ None → Some (said_of effect) ≡ result_err read
read_fault ledger (Ok x) writes command effect is none = cc
read_fault ledger (Err said) writes command effect is none =
    ap (λ (e : Effect). Some (said_of e)) (sym (same_Some (says (Some ledger) said) effect is))

fault_said : (files : Files) (ledger : Ledger) (order : HouseWords) (effect : Effect)
    → house_effect (Some files) (Some ledger) order ≡ Some effect → asked_in files order ≡ None
    → Some (said_of effect) ≡ input_fault files order
fault_said files ledger (Announce id width lanes) effect is none = cc
fault_said files ledger (AnnounceReserve id width lanes reserve) effect is none = cc
fault_said files ledger (Submit id seal secret) effect is none =
    read_fault ledger (row_in files seal secret) (λ _. no_file)
    (λ (row : SealRow). house.Submit id row.seal row.secret) effect is none
    ∙ (reads_row files seal secret).said
fault_said files ledger (Prove id seed board) effect is none = cc
fault_said files ledger (Answer id challenge reply) effect is none =
    read_fault ledger (challenge_in files challenge) (reply_file reply) (house.Answer id) effect is
    none ∙ (reads_challenge files challenge).said
fault_said files ledger (Show id) effect is none = cc

keeps_to_steps : (act : HouseAct) → IsAct act → KeepsToSteps act
keeps_to_steps act is = record {
  step = λ command asks. (let step = act_steps act command is asks in
      record { kept = step.0; said = step.1 });
  unasked = λ none. ap Some is.said_is
      ∙ fault_said act.files act.ledger act.order is.effect is.effect_is none;
  refused = act_same act is;
}

-- its effect, by its order
effect_is : (act : HouseAct) (is : IsAct act) (order : HouseWords) (effect : Effect)
    → act.order ≡ order → house_effect (Some act.files) (Some act.ledger) order ≡ Some effect
    → is.effect ≡ effect
effect_is act is order effect same told =
    same_Some is.effect effect
    (sym is.effect_is ∙ ap (house_effect (Some act.files) (Some act.ledger)) same ∙ told)

status_is : (act : HouseAct) (is : IsAct act) (effect : Effect) → is.effect ≡ effect
    → act.said.status ≡ 0 → effect.status ≡ 0
status_is act is effect same done = ap (λ (e : Effect). e.status) (sym same)
    ∙ ap (λ (said : SaidValue). said.status) (sym is.said_is) ∙ done

left_is : (act : HouseAct) (is : IsAct act) (effect : Effect) (name text : List ℕ)
    → is.effect ≡ effect → effect.writes ≡ (name, text) ∷ [] → act.left ≡ insert act.files name text
left_is act is effect name text same writes =
    is.left_is ∙ ap (λ (e : Effect). written e.writes act.files) same
    ∙ ap (λ texts. written texts act.files) writes

stands : (act : HouseAct) (is : IsAct act) (effect : Effect) (id : List ℕ) (auction : Auction)
    → is.effect ≡ effect → LeavesAuction effect id auction → get act.kept id ≡ Some auction
stands act is effect id auction same leaves =
    subst (λ told. IsSomeAnd told (λ ledger. get ledger id ≡ Some auction))
    (ap (λ (e : Effect). e.ledger) (sym same) ∙ is.kept_is) leaves

publishes_board : (act : HouseAct) → IsAct act → AreHouseWords act.order → IsLedger act.ledger
    → PublishesBoard act
publishes_board act is words right id seed board order done =
    let effect = prove_effect act.ledger id seed board in
    let same = effect_is act is (Prove id seed board) effect order refl in
    let bytes = subst AreHouseWords order words in
    let wrote = boards_are_written act.ledger id seed board right bytes.0 bytes.1
    (status_is act is effect same done) in
    record {
      auction = wrote.0;
      stands = stands act is effect id wrote.0 same wrote.1.kept;
      proved = wrote.1.proved;
      seed_is = wrote.1.seed_is;
      written = left_is act is effect board (board_of wrote.0) same wrote.1.written;
    }

publishes_reply : (act : HouseAct) → IsAct act → AreHouseWords act.order → IsLedger act.ledger
    → PublishesReply act
publishes_reply act is words right id challenge reply order done =
    let effect = answer_effect act.files act.ledger id challenge reply in
    let same = effect_is act is (Answer id challenge reply) effect order refl in
    let wrote = replies_are_written act.files act.ledger id challenge reply right
    (subst AreHouseWords order words) (status_is act is effect same done) in
    let auction = wrote.0 in
    let answered = wrote.1.0 in
    let told = wrote.1.1 in
    record {
      auction = auction;
      answered = answered;
      stands = stands act is effect id auction same told.kept;
      proved = told.proved;
      answered_is = told.answered;
      read = told.read;
      written = left_is act is effect reply (reply_of auction answered) same told.written;
      accepted = answers_are_accepted auction answered told.proved told.asked;
    }

-- ---- one of the acts

words_within : (acts : List HouseAct) (act : HouseAct)
    → AllByRecursion AreHouseWords (map (λ (one : HouseAct). one.order) acts) → Contains acts act
    → AreHouseWords act.order
words_within [] act words (k, below, at) = absurd (omega arith)
words_within (first ∷ acts) act words (zero, below, at) =
    subst (λ (one : HouseAct). AreHouseWords one.order) at words.0
words_within (first ∷ acts) act words (suc k, below, at) =
    words_within acts act words.1 (k, omega arith, at)

all_first : (P : HouseWords → Type 0) (first later : List HouseWords)
    → AllByRecursion P (first ++ later) → AllByRecursion P first
all_first P [] later all = tt
all_first P (order ∷ orders) later all = (all.0, all_first P orders later all.1)

found_in : (orders : List HouseWords) (files : Files) (ledger : Ledger) (acts : List HouseAct)
    (stop : Option HouseAct) (left : Files) (kept : Ledger) (act : HouseAct)
    → AllByRecursion AreHouseWords orders → Performs orders files ledger acts stop left kept
    → IsLedger ledger → IsActIn acts stop act → Found act kept
found_in orders files ledger acts stop left kept act are performs right (inr stopped) =
    let at : Performs orders files ledger acts (Some act) left kept =
    subst (λ s. Performs orders files ledger acts s left kept) stopped performs in
    let before = right_before orders files ledger acts act left kept are at right in
    record {
      is = at.last.is;
      words = before.0;
      right = before.1;
      keeps = subst (KeepsAnswers act.kept) (sym at.last.kept_is) (keeps_same act.kept);
    }
found_in orders files ledger acts stop left kept act are performs right (inl among) =
    let between = performs.files_between in
    let ledger_between = performs.ledger_between in
    let words = all_first AreHouseWords (map (λ (one : HouseAct). one.order) acts) performs.later
    (subst (AllByRecursion AreHouseWords) performs.orders_are are) in
    let rest : Performs performs.later between ledger_between [] stop left kept =
    record {
      later = performs.later;
      orders_are = refl;
      files_between = between;
      ledger_between = ledger_between;
      done = (refl, refl);
      last = performs.last;
    } in
    record {
      is = is_act_within acts files ledger between ledger_between act performs.done among;
      words = words_within acts act words among;
      right = right_within acts files ledger between ledger_between act words performs.done among
          right;
      keeps = keeps_on act.kept ledger_between kept
          (keeps_within acts files ledger between ledger_between act performs.done among).1
          (performs_keeps performs.later between ledger_between [] stop left kept rest);
    }

-- ---- a run

-- the words of what is meant may ask the house
meant_words : (files : Files) (words : List (List ℕ)) (orders : List HouseWords)
    → orders_of files (command_words words) ≡ Some orders → AllByRecursion AreHouseWords orders
meant_words files words orders is = by_command (command_words words) refl where
  by_command : (command : Option CommandWords) → command_words words ≡ command
      → AllByRecursion AreHouseWords orders
  by_command (Some (House order)) at =
      subst (AllByRecursion AreHouseWords)
      (same_Some (order ∷ []) orders (ap (orders_of files) (sym at) ∙ is))
      (house_bytes words order at, tt)
  by_command (Some (commands.Ceremony script)) at =
      subst (AllByRecursion AreHouseWords)
      (same_Some (orders_in files script) orders (ap (orders_of files) (sym at) ∙ is))
      (orders_are files script)
  by_command command at =
      (let no : orders_of files command ≡ Some orders = ap (orders_of files) (sym at) ∙ is in cc)

-- what is kept after a run of which all that is kept is kept until the last ledger
pub served_keeps : (meant : Option (List HouseWords)) (files : Files) (ledger : Ledger)
    (acts : List HouseAct) (stop : Option HouseAct) (held : Option Files) (kept : Ledger)
    → PerformsAt meant files ledger acts stop held (Some kept) → KeepsAnswers ledger kept
served_keeps None files ledger acts stop held kept performs =
    subst (KeepsAnswers ledger) (same_Some ledger kept (sym performs.2)) (keeps_same ledger)
served_keeps (Some orders) files ledger acts stop held kept to =
    subst (KeepsAnswers ledger) (same_Some to.last kept (sym to.kept_is))
    (performs_keeps orders files ledger acts stop to.left to.last to.performs)

no_act : (acts : List HouseAct) (stop : Option HouseAct) (act : HouseAct) → acts ≡ []
    → stop ≡ None → IsActIn acts stop act → ⊥
no_act acts stop act none no_stop (inr stopped) = cc
no_act acts stop act none no_stop (inl among) =
    none_among (subst (λ (l : List HouseAct). Contains l act) none among)
  where
    none_among : Contains [] act → ⊥
    none_among (k, below, at) = omega arith

-- what is kept is modelled
kept_told : (meant : Option (List HouseWords)) (files : Files) (ledger : Ledger)
    (acts : List HouseAct) (stop : Option HouseAct) (held : Option Files) (kept : Option Ledger)
    → PerformsAt meant files ledger acts stop held kept → (last : Ledger) × (kept ≡ Some last)
kept_told None files ledger acts stop held kept performs = (ledger, performs.2)
kept_told (Some orders) files ledger acts stop held kept to = (to.last, to.kept_is)

act_is : (meant : Option (List HouseWords)) (files : Files) (ledger : Ledger) (acts : List HouseAct)
    (stop : Option HouseAct) (held : Option Files) (kept : Option Ledger) (act : HouseAct)
    → PerformsAt meant files ledger acts stop held kept → IsActIn acts stop act → IsAct act
act_is None files ledger acts stop held kept act performs among =
    absurd (no_act acts stop act performs.0 performs.1 among)
act_is (Some orders) files ledger acts stop held kept act to (inl among) =
    is_act_within acts files ledger to.performs.files_between to.performs.ledger_between act
    to.performs.done among
act_is (Some orders) files ledger acts stop held kept act to (inr stopped) =
    let at : Performs orders files ledger acts (Some act) to.left to.last =
    subst (λ s. Performs orders files ledger acts s to.left to.last) stopped to.performs in
    at.last.is

act_found : (meant : Option (List HouseWords)) (files : Files) (ledger : Ledger)
    (acts : List HouseAct) (stop : Option HouseAct) (held : Option Files) (kept : Option Ledger)
    (last : Ledger) (act : HouseAct)
    → ((orders : List HouseWords) → meant ≡ Some orders → AllByRecursion AreHouseWords orders)
    → PerformsAt meant files ledger acts stop held kept → kept ≡ Some last → IsLedger ledger
    → IsActIn acts stop act → Found act last
act_found None files ledger acts stop held kept last act words performs is right among =
    absurd (no_act acts stop act performs.0 performs.1 among)
act_found (Some orders) files ledger acts stop held kept last act words to is right among =
    subst (Found act) (same_Some to.last last (sym to.kept_is ∙ is))
    (found_in orders files ledger acts stop to.left to.last act (words orders refl) to.performs
    right among)

pub served_found : (words : List (List ℕ)) (files : Files) (ledger : Ledger) (acts : List HouseAct)
    (stop : Option HouseAct) (held : Option Files) (kept : Option Ledger) (last : Ledger)
    (act : HouseAct)
    → PerformsAt (orders_of files (command_words words)) files ledger acts stop held kept
    → kept ≡ Some last → IsLedger ledger → IsActIn acts stop act → Found act last
served_found words files ledger acts stop held kept last act performs is right among =
    act_found (orders_of files (command_words words)) files ledger acts stop held kept last act
    (meant_words files words) performs is right among

-- what is kept is a ledger
stays_right : (meant : Option (List HouseWords)) (files : Files) (ledger : Ledger)
    (acts : List HouseAct) (stop : Option HouseAct) (held : Option Files) (kept : Option Ledger)
    → ((orders : List HouseWords) → meant ≡ Some orders → AllByRecursion AreHouseWords orders)
    → PerformsAt meant files ledger acts stop held kept → IsLedger ledger → IsSomeAnd kept IsLedger
stays_right None files ledger acts stop held kept words performs right =
    subst (λ l. IsSomeAnd l IsLedger) (sym performs.2) right
stays_right (Some orders) files ledger acts stop held kept words to right =
    subst (λ l. IsSomeAnd l IsLedger) (sym to.kept_is)
    (performs_right orders files ledger acts stop to.left to.last (words orders refl) to.performs
    right)

serves_by : (words : List (List ℕ)) (files : Files) (ledger : Ledger) (acts : List HouseAct)
    (stop : Option HouseAct) (held : Option Files) (kept : Option Ledger)
    → PerformsAt (orders_of files (command_words words)) files ledger acts stop held kept
    → ServesHouse words files ledger acts stop held kept
serves_by words files ledger acts stop held kept performs =
    let meant = orders_of files (command_words words) in
    let last = kept_told meant files ledger acts stop held kept performs in
    record {
      performs = performs;
      steps = λ act among. keeps_to_steps act
          (act_is meant files ledger acts stop held kept act performs among);
      ledgers = stays_right meant files ledger acts stop held kept (meant_words files words)
          performs;
      boards = λ right act among.
          (let found = served_found words files ledger acts stop held kept last.0 act performs
          last.1 right among in publishes_board act found.is found.words found.right);
      replies = λ right act among.
          (let found = served_found words files ledger acts stop held kept last.0 act performs
          last.1 right among in publishes_reply act found.is found.words found.right);
    }

-- ---- how a run ends

ends_ledger : (result : Result ℕ OutsideErr) (effect : Effect) (old new : Outside)
    → Ends result effect old new → effect.ledger ≡ old.ledger → new.ledger ≡ old.ledger
ends_ledger (Ok status) effect old new ends same = ends.ledger_is ∙ same
ends_ledger (Err stop) effect old new (inl still) same = ap (λ (left : Outside). left.ledger) still
ends_ledger (Err stop) effect old new (inr stopped) same = stopped.0 ∙ same

-- `claim-sample` leaves the ledger, whatever it publishes
module _ (files : Files) (ledger : Ledger) where
  abbrev StaysSo : Effect → Type 0
  StaysSo effect = effect.ledger ≡ Some ledger

  claim_still_by : (kind : Kind) (number : ℕ) (case : SampleCase) (numbers : List ℕ)
      (made : Result ProofValue DrySeed)
      → IsSomeAnd (claimed.effect_by kind (Some files) (Some ledger) number case numbers made)
      StaysSo
  claim_still_by kind number case numbers (Ok proof) = refl
  claim_still_by kind number case numbers (Err dry) = refl

  claim_still : (kind : Kind) (number : ℕ) (numbers : List ℕ)
      → IsSomeAnd (effect_with kind (Some files) (Some ledger) number numbers) StaysSo
  unfolding effect_with
  claim_still kind number numbers =
      claim_still_by kind number (claim_case kind number) numbers
      (proof_by kind (claim_case kind number) numbers)

  module _ (old : Option (List ℕ)) (new : Outside) where
    ends_so : (result : Result ℕ OutsideErr) (found : Option Effect) → IsSomeAnd found StaysSo
        → IfSome found (λ effect.
        Ends result effect (outside (stores (Some files) (Some ledger)) old) new)
        → new.ledger ≡ Some ledger
    ends_so result None told ends = absurd told
    ends_so result (Some effect) told ends =
        ends_ledger result effect (outside (stores (Some files) (Some ledger)) old) new ends told

  matching_kept : (number : ℕ) (result : Result ℕ OutsideErr) (old : Option (List ℕ))
      (new : Outside) → EndsFreely Matching number result
      (outside (stores (Some files) (Some ledger)) old) new → new.ledger ≡ Some ledger
  matching_kept number (Ok status) old new (numbers, published, ends) =
      ends_so old new (Ok status) (effect_with Matching (Some files) (Some ledger) number numbers)
      (claim_still Matching number numbers) ends
  matching_kept number (Err stop) old new (inl same) = ap (λ (left : Outside). left.ledger) same
  matching_kept number (Err stop) old new (inr (numbers, published, ends)) =
      ends_so old new (Err stop) (effect_with Matching (Some files) (Some ledger) number numbers)
      (claim_still Matching number numbers) ends

module _ (files : Files) (ledger : Ledger) (result : Result ℕ OutsideErr) (old : Option (List ℕ)) (new : Outside) where
  abbrev before : Outside
  before = outside (stores (Some files) (Some ledger)) old

  abbrev EndsSo : Work → Type 0
  EndsSo work = EndsWork result work before new

  abbrev Performed : Option CommandWords → Type 0
  Performed command = (acts : List HouseAct) × ((stop : Option HouseAct)
      × PerformsAt (orders_of files command) files ledger acts stop new.files new.ledger)

  -- a command that asks nothing of the house
  still : (found : Option Effect) → IsSomeAnd found (λ effect. effect.ledger ≡ Some ledger)
      → IfSome (option_map Command found) EndsSo → (acts : List HouseAct)
      × ((stop : Option HouseAct) × ((acts ≡ []) × (stop ≡ None) × (new.ledger ≡ Some ledger)))
  still None told ends = absurd told
  still (Some effect) told ends =
      ([], (None, (refl, refl, ends_ledger result effect before new ends told)))

  from_command : (found : Option Effect) → IfSome (option_map Command found) EndsSo
      → IfSome found (λ effect. Ends result effect before new)
  from_command None ends = tt
  from_command (Some effect) ends = ends

  from_script : (found : Option Ceremony) → IfSome (option_map Script found) EndsSo
      → IfSome found (λ whole. EndsAll result whole before new)
  from_script None ends = tt
  from_script (Some whole) ends = ends

  acts_of : (orders : List HouseWords) → PerformsSome orders files ledger new.files new.ledger
      → (acts : List HouseAct) × ((stop : Option HouseAct)
      × PerformsAt (Some orders) files ledger acts stop new.files new.ledger)
  acts_of orders some = (
    some.acts,
    (
      some.stop,
      record {
        left = some.files_left;
        last = some.ledger_left;
        held_is = some.held_is;
        kept_is = some.kept_is;
        performs = some.performs;
      },
    ),
  )

  sampled : (number : ℕ) (made : Result Auction DrySeed)
      → IsSomeAnd (effect_by (Some files) (Some ledger) number (sample_of number) made)
      (λ effect. effect.ledger ≡ Some ledger)
  sampled number (Ok auction) = refl
  sampled number (Err dry) = refl

  sample_still : (number : ℕ) → IsSomeAnd (sample_on (Some files) (Some ledger) number)
      (λ effect. effect.ledger ≡ Some ledger)
  unfolding sample_on
  sample_still number = sampled number (auction_of (sample_of number))

  seal_still : (order : SealWords)
      → IsSomeAnd (seal_on (Some ledger) order) (λ effect. effect.ledger ≡ Some ledger)
  unfolding seal_on
  seal_still order = refl

  coin_still : (order : CoinWords)
      → IsSomeAnd (coin_on (Some files) (Some ledger) order) (λ effect. effect.ledger ≡ Some ledger)
  coin_still (coins.Part order) = refl
  coin_still (coins.Join names) = refl
  coin_still (coins.Board names) = refl

  performed : (command : Option CommandWords)
      → IfSome (work_of (Some files) (Some ledger) command) EndsSo
      → CommandEndsFreely command result before new → Performed command
  performed (Some (Seal order)) ends free =
      still (seal_on (Some ledger) order) (seal_still order) ends
  performed (Some (House order)) ends free =
      acts_of (order ∷ []) (command_performs files ledger order old result new
      (from_command (house_effect (Some files) (Some ledger) order) ends))
  performed (Some (ClaimSample Uniform number)) ends free =
      still (claim_sample_on (Some files) (Some ledger) Uniform number)
      (claim_still files ledger Uniform number (numbers_of number)) ends
  performed (Some (ClaimSample Matching number)) ends free =
      ([], (None, (refl, refl, matching_kept files ledger number result old new free)))
  performed (Some (Coin order)) ends free =
      still (coin_on (Some files) (Some ledger) order) (coin_still order) ends
  performed (Some (Sample number)) ends free =
      still (sample_on (Some files) (Some ledger) number) (sample_still number) ends
  performed (Some (commands.Ceremony script)) ends free =
      acts_of (orders_in files script)
      (ceremony_performs files ledger script old result new
      (from_script (ceremony_on (Some files) (Some ledger) script) ends))
  performed command ends free =
      still (command_effect (Some files) (Some ledger) command) refl ends

  pub serves : (words : List (List ℕ)) → IfSome (work_on (Some files) (Some ledger) words) EndsSo
      → CommandEndsFreely (command_words words) result before new
      → Serves words files ledger new.files new.ledger
  serves words ends free =
      let acts = performed (command_words words) ends free in
      record {
        acts = acts.0;
        stop = acts.1.0;
        serves = serves_by words files ledger acts.0 acts.1.0 new.files new.ledger acts.1.1;
      }

-- ---- one command at its end

module _ (files : Files) (ledger : Ledger) (order : HouseWords) (status : ℕ) (old : Option (List ℕ)) (new : Outside) where
  done_by : (effect : Effect) → house_effect (Some files) (Some ledger) order ≡ Some effect
      → effect.ledger ≡ Some (ledger_by (asked_in files order) ledger)
      → Ends (Ok status) effect (outside (stores (Some files) (Some ledger)) old) new
      → CommandIsDone order files ledger new.files new.ledger status old new.taken
  done_by effect is kept ends =
      let act = act_of order files ledger effect in
      let is_act : IsAct act =
      record { effect = effect; effect_is = is; said_is = refl; left_is = refl; kept_is = kept }
      in
      record {
        act = act;
        is = is_act;
        steps = keeps_to_steps act is_act;
        order_is = refl;
        found = (refl, refl);
        left = (ends.files_are, ends.ledger_is ∙ kept);
        says = (ends.status_is, ends.taken_is);
      }

  pub command_done : IfSome (work_of (Some files) (Some ledger) (Some (House order)))
      (EndsSo files ledger (Ok status) old new)
      → CommandIsDone order files ledger new.files new.ledger status old new.taken
  command_done ends =
      let told = order_told files ledger order in
      done_by told.0 told.1 (ledger_left (asked_in files order) ledger told.0 told.2)
      (subst (λ found. IfSome found
      (λ effect. Ends (Ok status) effect (outside (stores (Some files) (Some ledger)) old) new))
      told.1
      (from_command files ledger (Ok status) old new (house_effect (Some files) (Some ledger) order)
      ends))
