-- What two replies to a board come to, and a secret against them, by the bytes of the files.
use Rattle.std.specs.Prelude.{◌≡◌, ◌≢◌, ◌⊎◌, ℕ, false, true, List, Some}
use Rattle.vk_lines.specs.Forms.{fault_line}
use Rattle.vk_seal.specs.Tables.{secret_table}
use Rattle.vk_seal.specs.Texts.{secret_text}
use Rattle.vk_seal.specs.Values.{IsSecret}
use Rattle.vk_seal.specs.declared.secret.Secret.{Secret}
use Rattle.vk_verifier.specs.declared.answers.BoardVerdict.{BoardVerdict}
use Rattle.vk_verifier.specs.declared.answers.BoardVerdict.TheVariants.{Accepted, Malformed}
use Rattle.vk_verifier.specs.Acceptance.{Accepts}
use Rattle.vk_verifier.specs.Refusals.{VerdictHolds}
use Rattle.vk_judge.specs.Two.{second_part}
use Rattle.vk_bids.specs.declared.extraction.Extracted.{Extracted}
use Rattle.vk_bids.specs.Extraction.{Extraction}
use Rattle.vk_bids.specs.declared.extraction.Extraction.TheVariants.{Refused, Same, Clash, Bids}
use Rattle.vk_bids.specs.declared.confrontation.Confrontation.{Confrontation}
use Rattle.vk_bids.specs.declared.confrontation.Confrontation.TheVariants as comes
use Rattle.vk_bids.specs.Headline.{IsExtraction, IsExtractionClash, SameAccepted, TwoAccepted}
use Rattle.vk_bids.specs.Binding.{IsConfrontationOf}

-- ---- two replies

-- a verdict that holds of a reply, and is another than that it is accepted, with the parts of the
-- second reply
pub record RefusesSecond {V : Type 0} (accepted : V) (of_second : V → V) (Holds : V → Type 0)
    (verdict : V) : Type 0 where
  pub fault : V
  pub refuses : fault ≢ accepted
  pub holds : Holds fault
  pub verdict_is : verdict ≡ of_second fault

-- the verdict on a second reply, which names the second challenge or reply
abbrev pub as_second : BoardVerdict → BoardVerdict
as_second (Malformed file line) = Malformed (second_part file) line
as_second verdict = verdict

abbrev pub SecondFails : BoardVerdict → List ℕ → List ℕ → List ℕ → Type 0
SecondFails verdict board challenge reply =
    RefusesSecond Accepted as_second (λ fault. VerdictHolds fault board challenge reply) verdict

-- the first reply is refused; or it is accepted, and the second is refused; or both are accepted,
-- and the challenges are the same, one commitment is opened with two values, or there are the bids
abbrev pub ExtractionHolds : Extraction → List ℕ → List ℕ → List ℕ → List ℕ → List ℕ → Type 0
ExtractionHolds (Refused false verdict) board first_challenge first_reply second_challenge
    second_reply =
    (verdict ≢ Accepted) × VerdictHolds verdict board first_challenge first_reply
ExtractionHolds (Refused true verdict) board first_challenge first_reply second_challenge
    second_reply =
    Accepts board first_challenge first_reply
    × SecondFails verdict board second_challenge second_reply
ExtractionHolds Same board first_challenge first_reply second_challenge second_reply =
    SameAccepted board first_challenge first_reply second_challenge second_reply
ExtractionHolds (Clash clash) board first_challenge first_reply second_challenge second_reply =
    (two : TwoAccepted board first_challenge first_reply second_challenge second_reply)
    × IsExtractionClash two clash
ExtractionHolds (Bids found) board first_challenge first_reply second_challenge second_reply =
    (two : TwoAccepted board first_challenge first_reply second_challenge second_reply)
    × IsExtraction two found

-- ---- a secret against two replies

-- the replies give bids, and the file has that fault line as a secret
pub record SecretFails (board first_challenge first_reply second_challenge second_reply file : List
    ℕ) (line : ℕ) : Type 0 where
  pub two : TwoAccepted board first_challenge first_reply second_challenge second_reply
  pub found : Extracted
  pub bids : IsExtraction two found
  pub fault : fault_line secret_table file ≡ Some line

-- the replies give bids, the file is the text of a secret, and against them it comes to this
pub record SecretComes (board first_challenge first_reply second_challenge second_reply file : List
    ℕ) (confrontation : Confrontation) : Type 0 where
  pub two : TwoAccepted board first_challenge first_reply second_challenge second_reply
  pub found : Extracted
  pub bids : IsExtraction two found
  pub secret : Secret
  pub right : IsSecret secret
  pub text : file ≡ secret_text secret
  pub comes : IsConfrontationOf secret found confrontation

-- what the replies come to by themselves, but for bids; and against bids, what the secret's file
-- does
abbrev pub ConfrontationHolds : Confrontation → List ℕ → List ℕ → List ℕ → List ℕ → List ℕ → List ℕ
    → Type 0
ConfrontationHolds (comes.Refused second verdict) board first_challenge first_reply second_challenge
    second_reply file =
    ExtractionHolds (Refused second verdict) board first_challenge first_reply second_challenge
    second_reply
ConfrontationHolds comes.Same board first_challenge first_reply second_challenge second_reply file =
    ExtractionHolds Same board first_challenge first_reply second_challenge second_reply
ConfrontationHolds (comes.Malformed line) board first_challenge first_reply second_challenge
    second_reply file =
    SecretFails board first_challenge first_reply second_challenge second_reply file line
ConfrontationHolds (comes.NoSeal seat) board first_challenge first_reply second_challenge
    second_reply file =
    SecretComes board first_challenge first_reply second_challenge second_reply file
    (comes.NoSeal seat)
ConfrontationHolds (comes.Mismatch mismatch) board first_challenge first_reply second_challenge
    second_reply file =
    SecretComes board first_challenge first_reply second_challenge second_reply file
    (comes.Mismatch mismatch)
ConfrontationHolds (comes.Clash clash) board first_challenge first_reply second_challenge
    second_reply file =
    ExtractionHolds (Clash clash) board first_challenge first_reply second_challenge second_reply
    ⊎ SecretComes board first_challenge first_reply second_challenge second_reply file
    (comes.Clash clash)
ConfrontationHolds (comes.Held seat) board first_challenge first_reply second_challenge second_reply
    file =
    SecretComes board first_challenge first_reply second_challenge second_reply file
    (comes.Held seat)
