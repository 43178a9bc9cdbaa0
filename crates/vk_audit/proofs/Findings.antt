-- What two replies come to holds of their bytes, and so does what a secret comes to against them.
use Rattle.std.proofs.Common.{◌≡◌, ◌≢◌, ℕ, All, Bool, true, false, List, Result, Ok, Err, refl, sym, ap, subst, ◌∙◌, inl, inr}
use Rattle.std.specs.Result.{result_err}
use Rattle.vk_lines.specs.Lines.{Rest}
use Rattle.vk_seal.specs.declared.secret.Secret.{Secret}
use Rattle.vk_seal.specs.Reading.{secret_at}
use Rattle.vk_seal.proofs.Forms.{secret_fault, secret_is_whole}
use Rattle.vk_board.specs.declared.front.Front.{Front}
use Rattle.vk_board.specs.Values.{AreSeals}
use Rattle.vk_verifier.specs.declared.answers.BoardVerdict.{BoardVerdict}
use Rattle.vk_verifier.specs.declared.answers.BoardVerdict.TheVariants as verdict
use Rattle.vk_judge.specs.declared.answers.Fault.TheVariants as behind
use Rattle.vk_judge.specs.declared.opened.Refusal.{Refusal}
use Rattle.vk_judge.specs.declared.opened.Refusal.TheVariants as refusal
use Rattle.vk_judge.specs.FileForms.{JudgedHolds, told_of_second}
use Rattle.vk_verifier.specs.declared.answers.BoardRefusal.{BoardRefusal}
use Rattle.vk_verifier.specs.declared.answers.BoardRefusal.TheVariants as refuses
use Rattle.vk_verifier.specs.declared.boards.PlacedHead.{PlacedHead}
use Rattle.vk_verifier.specs.Refusals.{VerdictHolds, board_form}
use Rattle.vk_verifier.specs.Verdicts.{board_front_at, judged_of, refused_verdict, verdict_by}
use Rattle.vk_verifier.proofs.Verdicts.{is_form, judged_back, verdict_back}
use Rattle.vk_bids.specs.FileExtraction.{FileExtraction, file_extraction_in}
use Rattle.vk_bids.specs.FileHeadline.{ExtractionHoldsOf}
use Rattle.vk_bids.proofs.FileFindings.{file_extraction_holds, file_unfound_found}
use Rattle.vk_judge.specs.Begun.{from_start}
use Rattle.vk_bids.specs.declared.extraction.Extracted.{Extracted}
use Rattle.vk_bids.specs.declared.extraction.Extraction.TheVariants.{Refused, Same, Clash, Bids}
use Rattle.vk_bids.specs.declared.confrontation.Confrontation.{Confrontation}
use Rattle.vk_bids.specs.declared.confrontation.Confrontation.TheVariants as comes
use Rattle.vk_bids.specs.Extraction.{Extraction, as_extraction, extraction_in}
use Rattle.vk_bids.specs.Headline.{IsExtraction, IsFound, TwoAccepted}
use Rattle.vk_bids.specs.Binding.{ClashOr, HasMismatch, IsConfrontationOf}
use Rattle.vk_bids.specs.Confrontation.{confrontation_in, confrontation_of, found_by, secret_in}
use Rattle.vk_bids.proofs.Boards.{is_of, same_is_found}
use Rattle.vk_bids.proofs.Binding.{others_are_malformed, secrets_are_bound}
use Rattle.vk_bids.proofs.Agreeing.{no_clash}
use Rattle.vk_audit.specs.Answers.{SettlesConfront}
use Rattle.vk_audit.specs.Findings.{ConfrontationHolds, ExtractionHolds, as_second, SecretComes, SecretFails}
use Rattle.vk_audit.proofs.Matching.{mismatch_alone, no_seal_alone}

-- ---- verdicts

-- no refusal is the verdict that the reply is accepted
refused_not : (refused : Refusal BoardRefusal) → refused_verdict refused ≢ verdict.Accepted
refused_not (refusal.Front refuses.Price) = λ same. cc
refused_not (refusal.Front refuses.Winner) = λ same. cc
refused_not (refusal.Fault (behind.Malformed file line)) = λ same. cc
refused_not (refusal.Fault behind.Lanes) = λ same. cc
refused_not (refusal.Fault (behind.Wire lane wire fault)) = λ same. cc
refused_not (refusal.Fault (behind.Row lane row)) = λ same. cc

told_second : (refused : Refusal BoardRefusal)
    → refused_verdict (told_of_second refused) ≡ as_second (refused_verdict refused)
told_second (refusal.Front refuses.Price) = refl
told_second (refusal.Front refuses.Winner) = refl
told_second (refusal.Fault (behind.Malformed file line)) = refl
told_second (refusal.Fault behind.Lanes) = refl
told_second (refusal.Fault (behind.Wire lane wire fault)) = refl
told_second (refusal.Fault (behind.Row lane row)) = refl

-- and no other becomes it where the reply is the second one
pub second_accepted : (answered : BoardVerdict) → as_second answered ≡ verdict.Accepted
    → answered ≡ verdict.Accepted
second_accepted verdict.Accepted is = refl
second_accepted (verdict.Malformed file line) is = cc
second_accepted verdict.Price is = cc
second_accepted verdict.Winner is = cc
second_accepted verdict.Lanes is = cc
second_accepted (verdict.Wire lane wire fault) is = cc
second_accepted (verdict.Row lane row) is = cc

-- a verdict that isn't that is a refusal
record IsRefused (answered : BoardVerdict) : Type 0 where
  refused : Refusal BoardRefusal
  judged : judged_of answered ≡ Err refused
  told : refused_verdict refused ≡ answered

refused_by : (answered : BoardVerdict) (judged : Result (Unit {0}) (Refusal BoardRefusal))
    → judged_of answered ≡ judged → answered ≢ verdict.Accepted → IsRefused answered
refused_by answered (Ok done) is other =
    absurd (other (sym (verdict_back answered) ∙ ap verdict_by is))
refused_by answered (Err refused) is other =
    record { refused = refused; judged = is; told = sym (ap verdict_by is) ∙ verdict_back answered }

-- ---- two replies

module _ (board first_challenge first_reply second_challenge second_reply : List ℕ) where
  abbrev Holds : Extraction → Type 0
  Holds extraction = ExtractionHolds extraction board first_challenge first_reply second_challenge
      second_reply

  abbrev answered : Extraction
  answered = extraction_in board first_challenge first_reply second_challenge second_reply

  abbrev HoldsOf : FileExtraction PlacedHead BoardRefusal → Type 0
  HoldsOf extraction = ExtractionHoldsOf board_form extraction board first_challenge first_reply
      second_challenge second_reply

  abbrev of_file : FileExtraction PlacedHead BoardRefusal
  of_file = file_extraction_in board_front_at board first_challenge first_reply second_challenge
      second_reply

  -- what is judged of a reply, as the verdict on it
  verdict_of_refusal : (refused : Refusal BoardRefusal) (challenge reply : List ℕ)
      → JudgedHolds board_form (Err refused) board challenge reply
      → VerdictHolds (refused_verdict refused) board challenge reply
  verdict_of_refusal refused challenge reply holds =
      subst (λ judged. JudgedHolds board_form judged board challenge reply)
      (sym (judged_back (Err refused))) holds

  holds_of : (extraction : FileExtraction PlacedHead BoardRefusal) → HoldsOf extraction
      → Holds (as_extraction extraction)
  holds_of (Refused false refused) holds =
      (refused_not refused, verdict_of_refusal refused first_challenge first_reply holds)
  holds_of (Refused true refused) holds =
      let fails = holds.1 in (
        holds.0,
        record {
          fault = refused_verdict fails.fault;
          refuses = refused_not fails.fault;
          holds = verdict_of_refusal fails.fault second_challenge second_reply fails.holds;
          verdict_is = ap refused_verdict fails.refusal_is ∙ told_second fails.fault;
        },
      )
  holds_of Same holds = holds
  holds_of (Clash clash) holds = holds
  holds_of (Bids found) holds = (holds.0, is_of holds.0 (Bids found) holds.1)

  -- the extraction holds of the bytes
  pub extraction_holds : Holds answered
  extraction_holds =
      holds_of of_file (file_extraction_holds board_form is_form board first_challenge first_reply
      second_challenge second_reply)

  -- a refusal that holds is what is found
  found_so : (second : Bool) (refused : Refusal BoardRefusal) → HoldsOf (Refused second refused)
      → answered ≡ Refused second (refused_verdict refused)
  found_so second refused holds =
      ap as_extraction (file_unfound_found board_form is_form board first_challenge first_reply
      second_challenge second_reply (Refused second refused) (λ found. found) holds)

  pub refused_found : (second : Bool) (refused : BoardVerdict) → Holds (Refused second refused)
      → answered ≡ Refused second refused
  refused_found false refused holds =
      let by = refused_by refused (judged_of refused) refl holds.0 in
      found_so false by.refused
      (subst (λ judged. JudgedHolds board_form judged board first_challenge first_reply) by.judged
      holds.1)
      ∙ ap (Refused false) by.told
  refused_found true refused holds =
      let fails = holds.1 in
      let by = refused_by fails.fault (judged_of fails.fault) refl fails.refuses in
      found_so true (told_of_second by.refused) (
        holds.0,
        record {
          fault = by.refused;
          holds =
              subst (λ judged. JudgedHolds board_form judged board second_challenge second_reply)
              by.judged fails.holds;
          refusal_is = refl;
        },
      )
      ∙ ap (Refused true) (told_second by.refused ∙ ap as_second by.told ∙ sym fails.verdict_is)

  -- and what isn't found is the one extraction that holds
  pub unfound_found : (extraction : Extraction) → ¬ IsFound extraction → Holds extraction
      → answered ≡ extraction
  unfound_found (Refused second refused) unfound holds = refused_found second refused holds
  unfound_found Same unfound holds =
      (same_is_found board first_challenge first_reply second_challenge second_reply).1 holds
  unfound_found (Clash clash) unfound holds = absurd (unfound tt)
  unfound_found (Bids found) unfound holds = absurd (unfound tt)

  -- ---- a secret against them

  module _ (file : List ℕ) where
    abbrev Comes : Confrontation → Type 0
    Comes confrontation = ConfrontationHolds confrontation board first_challenge first_reply
        second_challenge second_reply file

    abbrev comes_to : Confrontation
    comes_to = confrontation_in board first_challenge first_reply second_challenge second_reply file

    abbrev read : Result (Secret × Rest) ℕ
    read = secret_at (from_start file)

    of_secret : (confrontation : Confrontation)
        → SecretComes board first_challenge first_reply second_challenge second_reply file
        confrontation
        → Comes confrontation
    of_secret (comes.Refused second refused) holds = absurd holds.comes
    of_secret comes.Same holds = absurd holds.comes
    of_secret (comes.Malformed line) holds = absurd holds.comes
    of_secret (comes.NoSeal seat) holds = holds
    of_secret (comes.Mismatch mismatch) holds = holds
    of_secret (comes.Clash clash) holds = inr holds
    of_secret (comes.Held seat) holds = holds

    of_law : (both : TwoAccepted board first_challenge first_reply second_challenge second_reply)
        (secret : Secret) (after : Rest) → read ≡ Ok (secret, after)
        → (confrontation : Confrontation)
        → ClashOr both (λ found. IsConfrontationOf secret found confrontation) confrontation
        → Comes confrontation
    of_law both secret after is confrontation (inl clash) =
        subst Comes (sym clash.2) (inl (both, clash.1))
    of_law both secret after is confrontation (inr answer) =
        let right = secret_is_whole.shown (from_start file) secret after is in
        of_secret confrontation
        (record {
          two = both;
          found = answer.0;
          bids = answer.1;
          secret = secret;
          right = right.0;
          text = right.1;
          comes = answer.2;
        })

    by_read : (both : TwoAccepted board first_challenge first_reply second_challenge second_reply)
        (found : Extracted) → IsExtraction both found
        → answered ≡ Bids found
        → (secret : Result (Secret × Rest) ℕ) → read ≡ secret → Comes comes_to
    by_read both found bids answered_is (Err line) is =
        subst Comes (sym (ap (λ e. confrontation_of e (secret_in read)) answered_is
        ∙ ap (λ r. found_by found (secret_in r)) is))
        (record {
          two = both;
          found = found;
          bids = bids;
          fault = secret_fault file
              ∙ ap result_err is;
        })
    by_read both found bids answered_is (Ok (secret, after)) is =
        let right = secret_is_whole.shown (from_start file) secret after is in
        of_law both secret after is comes_to
        (secrets_are_bound board first_challenge first_reply second_challenge second_reply file both
        secret right.0 right.1)

    by_extraction : (extraction : Extraction) → answered ≡ extraction → Holds extraction
        → Comes comes_to
    by_extraction (Refused second refused) is holds =
        subst Comes (sym (ap (λ e. confrontation_of e (secret_in read)) is)) holds
    by_extraction Same is holds =
        subst Comes (sym (ap (λ e. confrontation_of e (secret_in read)) is)) holds
    by_extraction (Clash clash) is holds =
        subst Comes (sym (ap (λ e. confrontation_of e (secret_in read)) is)) (inl holds)
    by_extraction (Bids found) is holds = by_read holds.0 found holds.1 is read refl

    -- the confrontation holds of the bytes
    pub confrontation_holds : Comes comes_to
    confrontation_holds = by_extraction answered refl extraction_holds

    -- ---- and no other that settles what is said

    by_law : (confrontation given : Confrontation)
        (holds : SecretComes board first_challenge first_reply second_challenge second_reply file
        confrontation)
        → ((found : Extracted) → found.front ≡ holds.found.front
        → IsConfrontationOf holds.secret found given → given ≡ confrontation)
        → ClashOr holds.two (λ found. IsConfrontationOf holds.secret found given) given
        → given ≡ confrontation
    by_law confrontation given holds alone (inl clash) =
        absurd (no_clash holds.two clash.0 holds.bids.agree clash.1)
    by_law confrontation given holds alone (inr answer) =
        alone answer.0 (answer.1.front ∙ sym holds.bids.front) answer.2

    of_seal : (confrontation : Confrontation)
        (holds : SecretComes board first_challenge first_reply second_challenge second_reply file
        confrontation)
        → ((found : Extracted) → found.front ≡ holds.found.front
        → IsConfrontationOf holds.secret found comes_to → comes_to ≡ confrontation)
        → comes_to ≡ confrontation
    of_seal confrontation holds alone =
        by_law confrontation comes_to holds alone
        (secrets_are_bound board first_challenge first_reply second_challenge second_reply file
        holds.two holds.secret holds.right holds.text)

    of_line : (line : ℕ) (holds : SecretFails board first_challenge first_reply second_challenge
        second_reply file line)
        → ClashOr holds.two (λ found. comes_to ≡ comes.Malformed line) comes_to
        → comes_to ≡ comes.Malformed line
    of_line line holds (inl clash) = absurd (no_clash holds.two clash.0 holds.bids.agree clash.1)
    of_line line holds (inr answer) = answer.2

    pub settled_found : (confrontation : Confrontation) → SettlesConfront (Ok confrontation)
        → Comes confrontation → comes_to ≡ confrontation
    settled_found (comes.Refused second refused) settles holds =
        ap (λ e. confrontation_of e (secret_in read)) (refused_found second refused holds)
    settled_found comes.Same settles holds =
        ap (λ e. confrontation_of e (secret_in read))
        ((same_is_found board first_challenge first_reply second_challenge second_reply).1
        holds)
    settled_found (comes.Malformed line) settles holds =
        of_line line holds (others_are_malformed board first_challenge first_reply second_challenge
        second_reply file holds.two line holds.fault)
    settled_found (comes.NoSeal seat) settles holds =
        of_seal (comes.NoSeal seat) holds (λ found same is.
        let P : Front → Type 0 = λ front. All (λ lines. lines.seat ≢ holds.secret.seat) front.seals
        in
        no_seal_alone holds.secret found seat comes_to holds.comes.0
        (subst P (sym same) holds.comes.1) is)
    settled_found (comes.Mismatch mismatch) settles holds =
        of_seal (comes.Mismatch mismatch) holds (λ found same is.
        let P : Front → Type 0 = λ front. HasMismatch front holds.secret mismatch in
        let A : Front → Type 0 = λ front. AreSeals front.head front.seals in
        mismatch_alone holds.secret found mismatch comes_to
        (subst A (sym (same ∙ holds.bids.front)) holds.two.first.right.seals) (subst P
        (sym same) holds.comes) is)
    settled_found (comes.Clash clash) settles holds = absurd settles
    settled_found (comes.Held seat) settles holds = absurd settles
