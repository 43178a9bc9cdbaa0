-- What `claim-sample` says, and which files it writes.
use Rattle.std.specs.Prelude.{ℕ, List, [], ◌∷◌, ◌++◌, length, codes, decimal, Result, Ok, Err}
use Rattle.vk_io.specs.Files.{Files}
use Rattle.vk_plan.specs.Plans.{PlanValue}
use Rattle.vk_reply.specs.Texts.{challenge_text}
use Rattle.vk_judge.specs.declared.answers.VErr.{VErr}
use Rattle.vk_bids.specs.declared.extraction.Extraction.TheVariants.{Refused, Same, Clash, Bids}
use Rattle.vk_claim.specs.Extraction.{ClaimExtraction, claim_extraction_on}
use Rattle.vk_claim.specs.Texts.{claim_head_text}
use Rattle.vk_job.specs.Proofs.{ProofValue, file_of, reply_in}
use Rattle.vk_report.specs.declared.sample.SampleCase.{SampleCase}
use Rattle.vk_words.specs.declared.claim.Kind.{Kind}
use Rattle.vk_words.specs.Claims.{kind_word}
use Rattle.vk_words.specs.Names.{ExtractWords}
use Rattle.vk_effect.specs.Effects.{SaidValue}
use Rattle.vk_effect.specs.Texts.{◌+++◌, line_feed}
use Rattle.vk_audit.specs.Verdicts.{name_of, unread_said}
use Rattle.vk_claims.specs.Circuits.{admitted_plan}
use Rattle.vk_claims.specs.Extractions.{claim_extraction_said}
use Rattle.vk_sample_parts.specs.Texts.{found_text, same_count}
use Rattle.vk_claims.specs.Claims.{head_with}

-- ---- the files

abbrev pub claim_names : ExtractWords
claim_names = record {
  board = codes "claim-board";
  first = record { challenge = codes "claim-challenge-1"; reply = codes "claim-reply-1" };
  second = record { challenge = codes "claim-challenge-2"; reply = codes "claim-reply-2" };
}

-- those that are written, in order: the honest prover's claim file, where these numbers are
-- published, and its replies to both challenges
abbrev pub files_of : Kind → SampleCase → List ℕ → ProofValue → List (List ℕ × List ℕ)
files_of kind case numbers proof =
    (claim_names.board, file_of (claim_head_text (head_with kind case numbers)) proof)
    ∷ (claim_names.first.challenge, challenge_text case.first)
    ∷ (claim_names.first.reply, reply_in proof case.first.bits)
    ∷ (claim_names.second.challenge, challenge_text case.second)
    ∷ (claim_names.second.reply, reply_in proof case.second.bits)
    ∷ []

-- ---- the summary

-- of the claim as it was made: its kind and its number, and how large its circuit is
abbrev pub made_text : Kind → ℕ → ℕ → PlanValue → List ℕ
made_text kind number lanes plan =
    (codes "claim-sample " +++ kind_word kind +++ codes " " +++ decimal number +++
    line_feed)
    ++ (codes "inputs " +++ decimal plan.inputs +++ codes " lanes " +++ decimal lanes
    +++ codes " wires " +++ decimal (length plan.kinds) +++ codes " rows " +++ decimal
    (length plan.rows) +++ line_feed)

-- what is said of the files as they were read back: values are opened only where both replies are
-- accepted. Else what `claim-extract` says
abbrev pub opened_said : List ℕ → ClaimExtraction → SaidValue
opened_said made (Bids found) =
    record {
      status = 0;
      text = made
          ++ found_text (length found.opened.lanes)
          (same_count found.head.inputs found.opened.lanes);
    }
opened_said made (Refused second verdict) =
    claim_extraction_said claim_names (Refused second verdict)
opened_said made Same = claim_extraction_said claim_names Same
opened_said made (Clash two) = claim_extraction_said claim_names (Clash two)

abbrev pub read_said : List ℕ → Result ClaimExtraction VErr → SaidValue
read_said made (Ok extraction) = opened_said made extraction
read_said made (Err fault) = unread_said (name_of claim_names) fault

-- what the files come to
abbrev pub claim_read : Files → Result ClaimExtraction VErr
claim_read files =
    claim_extraction_on admitted_plan files claim_names.board claim_names.first.challenge
    claim_names.first.reply
    claim_names.second.challenge claim_names.second.reply

-- the summary of files that both replies are accepted of, and that open the same value of every
-- seal in every lane
abbrev pub summary_said : Kind → ℕ → ProofValue → SaidValue
summary_said kind number proof =
    record {
      status = 0;
      text = made_text kind number proof.lanes proof.plan
          ++ found_text proof.lanes (length proof.rows);
    }
