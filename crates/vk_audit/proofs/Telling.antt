-- What is answered is told, where it holds, and where all that settles what is said is said like
-- it; and which answers have a status.
use Rattle.std.proofs.Common.{◌≡◌, ◌≢◌, ℕ, ◌<◌, ◌≤◌, Bool, List, Option, IfSome, Result, Ok, Err, refl, sym, ap, ◌∙◌, arith}
use Rattle.std.specs.Prelude.{IfOk, IsErrOf}
use Rattle.vk_io.specs.declared.errors.OutsideErr.{OutsideErr}
use Rattle.vk_io.specs.declared.errors.OutsideErr.TheVariants.{Failed as OutsideFailed, NoMemory as OutOfMemory}
use Rattle.vk_io.specs.Files.{Files}
use Rattle.vk_io.specs.Reads.{OnlyReads}
use Rattle.vk_judge.specs.Wanting.{MemoryWasWanting}
use Rattle.vk_commit.specs.Commitment.{TwoOpeningsSeen}
use Rattle.vk_judge.specs.declared.answers.VErr.{VErr}
use Rattle.vk_judge.specs.declared.answers.VErr.TheVariants.{Missing, TooLong, Failed, NoMemory}
use Rattle.vk_bids.specs.declared.extraction.Extraction.{Extraction}
use Rattle.vk_bids.specs.declared.extraction.Extraction.TheVariants.{Refused, Same, Clash, Bids}
use Rattle.vk_effect.specs.Effects.{SaidValue, puts}
use Rattle.vk_effect.proofs.Acting.{if_some_map}
use Rattle.vk_audit.specs.Answers.{AnswerHolds, TellsAnswer}
use Rattle.vk_audit.specs.Audits.{SaysOf}
use Rattle.vk_audit.specs.Findings.{RefusesSecond}
use Rattle.vk_audit.specs.Verdicts.{PartNames, answer_said, unread_said}

pub tells : {Answer : Type 0} (Holds Settles : Answer → Type 0) (said : Answer → SaidValue)
    (answer : Answer) (taken : Option (List ℕ)) → Holds answer
    → ((other : Answer) → Settles other → Holds other → said answer ≡ said other)
    → TellsAnswer Holds Settles said (said answer).status taken (puts (said answer).text taken)
tells Holds Settles said answer taken holds same = record {
  answer = answer;
  holds = holds;
  says = (refl, refl);
  settled = λ other settles is. let one = same other settles is in
      (ap (λ (s : SaidValue). s.status) one, ap (λ (s : SaidValue). puts s.text taken) one);
}

-- a second reply isn't refused by the verdict that it is accepted
pub second_refused : {V : Type 0} {accepted : V} {of_second : V → V} {Holds : V → Type 0}
    {verdict : V} → ((fault : V) → of_second fault ≡ accepted → fault ≡ accepted)
    → RefusesSecond accepted of_second Holds verdict → verdict ≢ accepted
second_refused only fails = λ same. fails.refuses (only fails.fault (sym fails.verdict_is ∙ same))

-- ---- by the status

-- status 0 is said of no file that can't be read
pub only_value : {X : Type 0} (files : Files) (name : PartNames) (inputs : List (List ℕ))
    (Holds : X → Type 0) (said : X → SaidValue) (P : Type 0)
    → ((value : X) → Holds value → (said value).status ≡ 0 → P)
    → (answered : Result X VErr) → AnswerHolds files name inputs Holds answered
    → (answer_said said (unread_said name) answered).status ≡ 0 → P
only_value files name inputs Holds said P by (Ok value) holds zero_is = by value holds zero_is
only_value files name inputs Holds said P by (Err (Missing part)) holds zero_is =
    absurd (omega arith)
only_value files name inputs Holds said P by (Err (TooLong part)) holds zero_is =
    absurd (omega arith)
only_value files name inputs Holds said P by (Err Failed) holds zero_is = absurd holds
only_value files name inputs Holds said P by (Err NoMemory) holds zero_is = absurd holds

-- what is said of an extraction has status 7 where the challenges are the same, 3 of a clash, 0 of
-- what was found, and at most 4 of a refusal
module _ {V X : Type 0} (files : Files) (name : PartNames) (inputs : List (List ℕ)) (Holds : Extraction V X → Type 0) (said : Extraction V X → SaidValue)
    (same_is : (said Same).status ≡ 7) (clash_is : (clash : TwoOpeningsSeen) → (said (Clash clash)).status ≡ 3)
    (found_is : (found : X) → (said (Bids found)).status ≡ 0) (refused_is : (second : Bool) (verdict : V) → (said (Refused second verdict)).status ≤ 4) where
  abbrev status_of : Result (Extraction V X) VErr → ℕ
  status_of answered = (answer_said said (unread_said name) answered).status

  -- so status 7 says that the challenges are the same
  pub only_same : (answered : Result (Extraction V X) VErr)
      → AnswerHolds files name inputs Holds answered → status_of answered ≡ 7 → Holds Same
  only_same (Err (Missing part)) holds seven = absurd (omega arith)
  only_same (Err (TooLong part)) holds seven = absurd (omega arith)
  only_same (Err Failed) holds seven = absurd holds
  only_same (Err NoMemory) holds seven = absurd holds
  only_same (Ok (Refused second verdict)) holds seven = let within = refused_is second verdict in
      absurd (omega (arith, within, seven))
  only_same (Ok Same) holds seven = holds
  only_same (Ok (Clash clash)) holds seven = let is = clash_is clash in
      absurd (omega (arith, is, seven))
  only_same (Ok (Bids found)) holds seven = let is = found_is found in
      absurd (omega (arith, is, seven))

  -- and a status below 4 that is no refusal's says a clash, or what was found
  pub only_found : (P : Type 0)
      → ((second : Bool) (verdict : V) → Holds (Refused second verdict)
      → (said (Refused second verdict)).status ≢ 1
      → (said (Refused second verdict)).status < 4 → ⊥)
      → ((clash : TwoOpeningsSeen) → Holds (Clash clash) → P)
      → ((found : X) → Holds (Bids found) → P)
      → (answered : Result (Extraction V X) VErr) → AnswerHolds files name inputs Holds answered
      → status_of answered ≢ 1 → status_of answered < 4 → P
  only_found P refused clashes finds (Err (Missing part)) holds other small = absurd (omega arith)
  only_found P refused clashes finds (Err (TooLong part)) holds other small = absurd (omega arith)
  only_found P refused clashes finds (Err Failed) holds other small = absurd holds
  only_found P refused clashes finds (Err NoMemory) holds other small = absurd holds
  only_found P refused clashes finds (Ok (Refused second verdict)) holds other small =
      absurd (refused second verdict holds other small)
  only_found P refused clashes finds (Ok Same) holds other small =
      absurd (omega (arith, same_is, small))
  only_found P refused clashes finds (Ok (Clash clash)) holds other small = clashes clash holds
  only_found P refused clashes finds (Ok (Bids found)) holds other small = finds found holds

-- ---- over a shelf

-- what is said of each answer is said of that of the files that are held
pub says_by : {S : Type 0} {modelled : S → Option Files} {count : S → ℕ}
    {said_of : Files → SaidValue} {result : Result SaidValue OutsideErr} {old new : S}
    {Answered : Files → Type 0} → IfSome (modelled old) Answered
    → ((files : Files) → Answered files → IfOk result (λ said. said ≡ said_of files))
    → (IsErrOf result OutOfMemory → MemoryWasWanting)
    → OnlyReads modelled count OutsideFailed result old new
    → SaysOf modelled count said_of result old new
says_by {modelled} {said_of} {result} {old} {Answered} answered said wanting shelf = record {
  said = if_some_map Answered (λ files. IfOk result (λ value. value ≡ said_of files)) said
      (modelled old) answered;
  wanting = wanting;
  shelf = shelf;
}
