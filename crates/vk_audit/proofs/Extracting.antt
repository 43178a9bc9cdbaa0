-- What `extract` says holds of the files: of two replies that are accepted for different
-- challenges, bids or a clash, and of no others.
use Rattle.std.proofs.Common.{◌≡◌, ◌≢◌, ℕ, ◌<◌, Bool, true, false, List, Option, Some, None, Result, Ok, Err, refl, sym, ap, subst, ◌∙◌, arith, inl, inr}
use Rattle.std.specs.Prelude.{◌⊎◌}
use Rattle.vk_io.specs.Files.{Files, Modelled}
use Rattle.vk_verifier.specs.declared.answers.BoardVerdict.{BoardVerdict}
use Rattle.vk_verifier.specs.declared.answers.BoardVerdict.TheVariants as verdict
use Rattle.vk_judge.specs.declared.answers.VErr.{VErr}
use Rattle.vk_bids.specs.declared.extraction.Extraction.{Extraction as ExtractionOf}
use Rattle.vk_bids.specs.declared.extraction.Extraction.TheVariants.{Refused, Same, Clash, Bids}
use Rattle.vk_bids.specs.Extraction.{Extraction, extraction_at, extraction_on}
use Rattle.vk_bids.specs.Texts.{clash_text, extraction_text}
use Rattle.vk_bids.specs.Headline.{IsExtraction, IsExtractionClash, extraction_of_held}
use Rattle.vk_bids.specs.Extractions.{IsClashOr}
use Rattle.vk_commit.specs.Commitment.{TwoOpeningsSeen}
use Rattle.vk_bids.proofs.Boards.{accepted_are_extracted}
use Rattle.vk_bids.proofs.Named.{files_are_extracted}
use Rattle.vk_words.specs.Names.{ExtractWords}
use Rattle.vk_effect.specs.Effects.{SaidValue, puts}
use Rattle.vk_audit.specs.Answers.{ExtractHolds, SettlesExtract, TellsExtractions}
use Rattle.vk_audit.specs.Extractions.{extraction_said, extract_said}
use Rattle.vk_audit.specs.Findings.{ExtractionHolds}
use Rattle.vk_audit.specs.Inputs.{HoldsFiles, extract_inputs}
use Rattle.vk_audit.specs.Statuses.{AcceptsTwoFiles, AcceptsSameFiles, ExtractsExactly, HasExtraction, IsExtracted, PutsFound, PutsText, TellsSameExactly}
use Rattle.vk_audit.specs.Verdicts.{answer_said, name_of, unread_said}
use Rattle.vk_audit.proofs.Findings.{extraction_holds, second_accepted, unfound_found}
use Rattle.vk_audit.proofs.Answered.{IsAlone, answered_tells, extract_holds, extract_parts, files_unread}
use Rattle.vk_audit.proofs.Inputs.{NamesUnread}
use Rattle.vk_audit.proofs.Telling.{only_found, only_same, second_refused}
use Rattle.vk_audit.proofs.Verifying.{status_accepted, status_within}

-- ---- the answer

module _ (files : Files) (names : ExtractWords) where
  abbrev pub answer : Result Extraction VErr
  answer = extraction_on files names.board names.first.challenge names.first.reply
      names.second.challenge names.second.reply

  pub answer_unread : NamesUnread files (name_of names) extract_parts answer
  unfolding extraction_on
  answer_unread = files_unread extraction_at files names

  pub answer_read : (held : HoldsFiles files names) → answer ≡ Ok (extraction_of_held held)
  answer_read held =
      (files_are_extracted files names.board names.first.challenge names.first.reply
      names.second.challenge names.second.reply (extraction_of_held held)).1
      (record { held = held; is = refl })

  answer_holds : ExtractHolds files names answer
  answer_holds = extract_holds files names (HasExtraction files names) answer answer_unread
      extraction_of_held answer_read (λ held. record {
        held = held;
        holds = extraction_holds held.file_bytes held.first.challenge_bytes held.first.reply_bytes
            held.second.challenge_bytes held.second.reply_bytes;
      })

  answer_alone : IsAlone SettlesExtract (HasExtraction files names) answer
  answer_alone extraction settles has =
      let held = has.held in
      answer_read held ∙ ap (λ e. Ok e)
      (unfound_found held.file_bytes held.first.challenge_bytes held.first.reply_bytes
      held.second.challenge_bytes held.second.reply_bytes extraction settles has.holds)

abbrev said_of : ExtractWords → Result Extraction VErr → SaidValue
said_of names = answer_said (extraction_said names) (unread_said (name_of names))

pub tells_extractions : TellsExtractions
tells_extractions files names =
    answered_tells files (name_of names) extract_parts (HasExtraction files names)
    (answer files names) (answer_unread files names) (extraction_said names) SettlesExtract
    (answer_alone files names) (answer_holds files names)

-- ---- the status and the text

pub put_told : {X : Type 0} (IsSuch : X → Type 0) (text : X → List ℕ) (found : X) → IsSuch found
    → (taken : Option (List ℕ)) → Modelled (PutsText IsSuch text) taken (puts (text found) taken)
put_told IsSuch text found is None = refl
put_told IsSuch text found is (Some before) = record { found = found; is = is; put = refl }

-- what is said of an extraction that is such a thing, or such a clash
module _ {V X : Type 0} (IsClash : TwoOpeningsSeen → Type 0) (IsSuch : X → Type 0) (text : X → List ℕ) (said : ExtractionOf V X → SaidValue)
    (clash_is : (clash : TwoOpeningsSeen) → said (Clash clash) ≡ record { status = 3; text = clash_text clash }) (found_is : (found : X) → said (Bids found) ≡ record { status = 0; text = text found }) (taken : Option (List ℕ)) where
  abbrev PutsIt : SaidValue → Type 0
  PutsIt told = PutsFound (PutsText IsSuch text) (PutsText IsClash clash_text) told.status taken
      (puts told.text taken)

  pub found_said : (extraction : ExtractionOf V X) → IsClashOr IsClash IsSuch extraction
      → PutsIt (said extraction)
  found_said (Refused second refused) is = absurd is
  found_said Same is = absurd is
  found_said (Clash clash) is = subst PutsIt (sym (clash_is clash))
      (inr (refl, put_told IsClash clash_text clash is taken))
  found_said (Bids found) is = subst PutsIt (sym (found_is found))
      (inl (refl, put_told IsSuch text found is taken))

said_of_accepted : (files : Files) (names : ExtractWords) (taken : Option (List ℕ))
    (accepted : AcceptsTwoFiles files names)
    → let said = extract_said files names in
    IsExtracted accepted.two said.status taken (puts said.text taken)
said_of_accepted files names taken accepted =
    let held = accepted.held in
    let P : Result Extraction VErr → Type 0 = λ answer. let said = said_of names answer in
    IsExtracted accepted.two said.status taken
    (puts said.text taken) in
    subst P (sym (answer_read files names held))
    (found_said (IsExtractionClash accepted.two) (IsExtraction accepted.two) extraction_text
    (extraction_said names) (λ clash. refl) (λ found. refl) taken (extraction_of_held held)
    (accepted_are_extracted held.file_bytes held.first.challenge_bytes held.first.reply_bytes
    held.second.challenge_bytes held.second.reply_bytes accepted.two))

-- ---- only such files

-- no reply is refused by the verdict that it is accepted
pub refused_never : (second : Bool) (refused : BoardVerdict)
    (board first_challenge first_reply second_challenge second_reply : List ℕ)
    → ExtractionHolds (Refused second refused) board first_challenge first_reply second_challenge
    second_reply → refused ≢ verdict.Accepted
refused_never false refused board first_challenge first_reply second_challenge second_reply holds =
    holds.0
refused_never true refused board first_challenge first_reply second_challenge second_reply holds =
    second_refused second_accepted holds.1

only_said : (files : Files) (names : ExtractWords) (answered : Result Extraction VErr)
    → ExtractHolds files names answered
    → (said_of names answered).status ≢ 1 → (said_of names answered).status < 4
    → AcceptsTwoFiles files names
only_said files names =
    only_found files (name_of names) (extract_inputs names) (HasExtraction files names)
    (extraction_said names) refl (λ _. refl) (λ _. refl) (status_within (name_of names))
    (AcceptsTwoFiles files names)
    (λ second refused holds other small.
    let held = holds.held in
    refused_never second refused held.file_bytes held.first.challenge_bytes held.first.reply_bytes
    held.second.challenge_bytes held.second.reply_bytes holds.holds
    (status_accepted (name_of names) second refused other small))
    (λ clash holds. record { held = holds.held; two = holds.holds.0 })
    (λ found holds. record { held = holds.held; two = holds.holds.0 })

-- 0 and 3 are told from all other statuses that end a command
pub told_apart : (status : ℕ) → (status ≡ 0) ⊎ (status ≡ 3) → (status ≢ 1) × (status < 4)
told_apart status (inl zero_is) = (λ one. omega arith, omega arith)
told_apart status (inr three_is) = (λ one. omega arith, omega arith)

pub extracts_exactly : ExtractsExactly
extracts_exactly files names taken = (
  said_of_accepted files names taken,
  λ found. let apart = told_apart (extract_said files names).status found in
      only_said files names (answer files names)
      (answer_holds files names) apart.0 apart.1,
)

-- ---- equal challenges

same_shown : (files : Files) (names : ExtractWords) (answered : Result Extraction VErr)
    → ExtractHolds files names answered
    → (said_of names answered).status ≡ 7 → AcceptsSameFiles files names
same_shown files names =
    only_same files (name_of names) (extract_inputs names) (HasExtraction files names)
    (extraction_said names) refl (λ _. refl) (λ _. refl) (status_within (name_of names))

pub tells_same_exactly : TellsSameExactly
tells_same_exactly files names = record {
  only = λ seven. same_shown files names (answer files names) (answer_holds files names) seven;
  always = λ same _ _. ap (λ answered. (said_of names answered).status)
      (answer_alone files names Same (λ found. found) same);
}
