-- What `claim-extract` says holds of the files: of two replies that are accepted for different
-- challenges, values or a clash, and of no others.
use Rattle.std.proofs.Common.{◌≡◌, ℕ, Bool, List, Option, Some, Result, Ok, Err, refl, sym, ap, subst, ◌∙◌}
use Rattle.vk_io.specs.Files.{Files}
use Rattle.vk_judge.specs.declared.answers.VErr.{VErr}
use Rattle.vk_bids.specs.declared.extraction.Extraction.TheVariants.{Same}
use Rattle.vk_bids.specs.FileExtraction.{file_extraction}
use Rattle.vk_bids.specs.FileHeadline.{IsClashOf}
use Rattle.vk_claim.specs.Claims.{claim_at}
use Rattle.vk_claim.specs.Extraction.{ClaimExtraction, IsClaimOpened, claim_extraction_in, claim_extraction_on}
use Rattle.vk_claim.specs.Printing.{claim_extraction_text}
use Rattle.vk_claim.proofs.Opening.{claim_files_are_extracted, claims_open}
use Rattle.vk_words.specs.Names.{ExtractWords}
use Rattle.vk_effect.specs.Effects.{puts}
use Rattle.vk_audit.specs.Answers.{SettlesExtract}
use Rattle.vk_audit.specs.Inputs.{HoldsFiles, extract_inputs}
use Rattle.vk_audit.specs.Verdicts.{name_of}
use Rattle.vk_audit.proofs.Answered.{IsAlone, answered_tells, extract_holds, extract_parts, files_unread, said_by}
use Rattle.vk_audit.proofs.Extracting.{found_said, told_apart}
use Rattle.vk_audit.proofs.Inputs.{NamesUnread}
use Rattle.vk_audit.proofs.Telling.{only_found, only_same}
use Rattle.vk_claims.specs.Circuits.{admitted_plan, claimed, claims_are_sound, plans_are_right}
use Rattle.vk_claims.specs.Extractions.{claim_extraction_said, claim_extract_said}
use Rattle.vk_claims.specs.Statuses.{AcceptsTwoClaims, ClaimExtractHolds, ExtractsClaimsExactly, HasClaimExtraction, IsClaimExtracted, TellsClaimExtractions, TellsSameClaimsExactly}
use Rattle.vk_claims.proofs.Findings.{extraction_holds, unfound_found}
use Rattle.vk_claims.proofs.Verifying.{status_refused, status_within}

-- ---- the answer

module _ (files : Files) (names : ExtractWords) where
  abbrev answer : Result ClaimExtraction VErr
  answer = claim_extraction_on admitted_plan files names.board names.first.challenge
      names.first.reply names.second.challenge names.second.reply

  abbrev of_held : HoldsFiles files names → ClaimExtraction
  of_held held =
      claim_extraction_in admitted_plan held.file_bytes held.first.challenge_bytes
      held.first.reply_bytes held.second.challenge_bytes held.second.reply_bytes

  answer_unread : NamesUnread files (name_of names) extract_parts answer
  unfolding claim_extraction_on
  answer_unread = files_unread (file_extraction (claim_at admitted_plan)) files names

  answer_read : (held : HoldsFiles files names) → answer ≡ Ok (of_held held)
  answer_read held =
      (claim_files_are_extracted admitted_plan files names.board names.first.challenge
      names.first.reply names.second.challenge names.second.reply (of_held held)).1
      (record { held = held; is = refl })

  answer_holds : ClaimExtractHolds files names answer
  answer_holds = extract_holds files names (HasClaimExtraction files names) answer answer_unread
      of_held answer_read (λ held. record {
        held = held;
        holds = extraction_holds admitted_plan claimed plans_are_right claims_are_sound
            held.file_bytes held.first.challenge_bytes held.first.reply_bytes
            held.second.challenge_bytes held.second.reply_bytes;
      })

  answer_alone : IsAlone SettlesExtract (HasClaimExtraction files names) answer
  answer_alone extraction settles has =
      let held = has.held in
      answer_read held ∙ ap (λ e. Ok e)
      (unfound_found admitted_plan claimed plans_are_right claims_are_sound
      held.file_bytes held.first.challenge_bytes held.first.reply_bytes held.second.challenge_bytes
      held.second.reply_bytes extraction settles has.holds)

pub tells_claim_extractions : TellsClaimExtractions
tells_claim_extractions files names =
    answered_tells files (name_of names) extract_parts _ _ (answer_unread files names)
    (claim_extraction_said names) SettlesExtract (answer_alone files names)
    (answer_holds files names)

-- ---- the status and the text

said_of_accepted : (files : Files) (names : ExtractWords) (taken : Option (List ℕ))
    (accepted : AcceptsTwoClaims files names)
    → let said = claim_extract_said files names in
    IsClaimExtracted accepted.two said.status taken (puts said.text taken)
said_of_accepted files names taken accepted =
    let P : Result ClaimExtraction VErr → Type 0 = λ answer.
    let said = said_by (name_of names) (claim_extraction_said names) answer in
    IsClaimExtracted accepted.two said.status taken (puts said.text taken) in
    subst P (sym (answer_read files names accepted.held))
    (found_said (IsClashOf accepted.two)
    (IsClaimOpened admitted_plan claimed accepted.two) claim_extraction_text
    (claim_extraction_said names) (λ clash. refl) (λ found. refl) taken
    (of_held files names accepted.held)
    (claims_open admitted_plan claimed claims_are_sound plans_are_right _ _ _ _ _ accepted.two))

-- ---- only such files

pub extracts_claims_exactly : ExtractsClaimsExactly
extracts_claims_exactly files names taken = (
  said_of_accepted files names taken,
  λ found. let apart = told_apart (claim_extract_said files names).status found in
      only_found files (name_of names) (extract_inputs names) (HasClaimExtraction files names)
      (claim_extraction_said names) refl (λ _. refl) (λ _. refl) (status_within (name_of names))
      (AcceptsTwoClaims files names)
      (λ of_second refused holds. status_refused (name_of names) of_second refused)
      (λ clash holds. record { held = holds.held; two = holds.holds.holds.0 })
      (λ values holds. record { held = holds.held; two = holds.holds.holds.0 })
      (answer files names) (answer_holds files names) apart.0 apart.1,
)

-- ---- equal challenges

pub tells_same_claims_exactly : TellsSameClaimsExactly
tells_same_claims_exactly files names = record {
  only =
      only_same files (name_of names) (extract_inputs names) (HasClaimExtraction files names)
      (claim_extraction_said names) refl (λ _. refl) (λ _. refl) (status_within (name_of names))
      (answer files names) (answer_holds files names);
  always = λ same _ _.
      ap (λ answered. (said_by (name_of names) (claim_extraction_said names) answered).status)
      (answer_alone files names Same (λ found. found) same);
}
