-- What `confront` says holds of the files: what status 0 means, and that a secret that has its seal
-- is held or shown to clash.
use Rattle.std.proofs.Common.{◌≡◌, ℕ, ◌^◌, nat_lt, All, Bool, true, false, if◌then◌else◌, List, [], ◌∷◌, length, Option, Some, None, Result, Ok, Err, refl, sym, ap, subst, ◌∙◌, arith, inl, inr}
use Rattle.std.specs.FinMap.{get}
use Rattle.std.proofs.lemmas.Bool.Decides.{nat_tests}
use Rattle.vk_residue.specs.Steps.{◌>>=◌}
use Rattle.vk_io.specs.Files.{Files, Modelled}
use Rattle.vk_lines.specs.Lines.{Rest}
use Rattle.vk_seal.specs.Reading.{secret_at}
use Rattle.vk_judge.specs.declared.answers.Part.{Part}
use Rattle.vk_judge.specs.declared.answers.VErr.{VErr}
use Rattle.vk_judge.specs.declared.answers.VErr.TheVariants.{Missing, TooLong, Failed, NoMemory}
use Rattle.vk_judge.specs.Begun.{from_start}
use Rattle.vk_bids.specs.Extraction.{Extraction}
use Rattle.vk_bids.specs.declared.extraction.Extraction.TheVariants as extraction
use Rattle.vk_bids.specs.declared.confrontation.Confrontation.{Confrontation}
use Rattle.vk_bids.specs.declared.confrontation.Confrontation.TheVariants.{Refused, Same, Malformed, NoSeal, Mismatch, Clash, Held}
use Rattle.vk_bids.specs.declared.confrontation.ConfrontErr.{ConfrontErr}
use Rattle.vk_bids.specs.declared.confrontation.ConfrontErr.TheVariants.{Unread, MissingSecret, TooLongSecret}
use Rattle.vk_bids.specs.Texts.{clash_text}
use Rattle.vk_seal.specs.Texts.{secret_text}
use Rattle.vk_bids.specs.Confrontation.{confrontation_of, confrontation_on, of_extraction, secret_begun, secret_in}
use Rattle.vk_judge.specs.HeldFiles.{IsHeldFile}
use Rattle.vk_bids.specs.Headline.{IsExtractionClash, IsOf, LaneAgrees, TwoAccepted, differing_in, extraction_of_held}
use Rattle.vk_bids.specs.Binding.{ClashOr, HeldOrClash, IsClashWith, IsSealOf, confrontation_of_held}
use Rattle.vk_bids.proofs.Agreeing.{no_clash}
use Rattle.vk_bids.proofs.Binding.{sealed_are_held_or_clash}
use Rattle.vk_bids.proofs.ConfrontNamed.{files_are_confronted}
use Rattle.vk_bids.proofs.Boards.{accepted_are_extracted}
use Rattle.vk_words.specs.Names.{ConfrontWords, ExtractWords}
use Rattle.vk_effect.specs.Effects.{SaidValue, puts}
use Rattle.vk_effect.specs.NamedFiles.{missing_said, too_long_said}
use Rattle.vk_audit.specs.Answers.{ConfrontHolds, SettlesConfront, TellsConfrontations}
use Rattle.vk_audit.specs.Confrontations.{confrontation_in, confrontation_said, confront_said, confront_unread_said}
use Rattle.vk_audit.specs.Inputs.{HoldsFiles, IsFirstUnread, IsLong, IsUnheld, confront_inputs, extract_inputs}
use Rattle.vk_audit.specs.Statuses.{BindsExactly, ConfrontsFiles, HoldsSecret, IsBound, PutsClash, PutsSecretClash}
use Rattle.vk_audit.specs.Verdicts.{answer_said, name_of}
use Rattle.vk_audit.proofs.Answered.{extract_parts, files_held}
use Rattle.vk_audit.proofs.Extracting.{put_told, refused_never}
use Rattle.vk_audit.proofs.Extracting as extracting
use Rattle.vk_audit.proofs.Findings.{confrontation_holds, settled_found}
use Rattle.vk_audit.proofs.Inputs.{Why, all_read, fault_of, first_unread, one_or_last, unread_found, unread_shown, with_more}
use Rattle.vk_audit.proofs.Telling.{tells}
use Rattle.vk_audit.proofs.Verifying.{status_accepted}

-- ---- the answer

module _ (files : Files) (names : ConfrontWords) where
  abbrev replies : ExtractWords
  replies = names.replies

  abbrev answer : Result Confrontation ConfrontErr
  answer = confrontation_in files names

  abbrev secret_told : Extraction → Option (List ℕ) → Result Confrontation ConfrontErr
  secret_told extraction told =
      secret_begun told >>= λ rest. Ok (confrontation_of extraction (secret_in (secret_at rest)))

  of_extracted : (given : Result Extraction VErr) → extracting.answer files replies ≡ given
      → answer ≡ (of_extraction given >>= λ extraction. secret_told extraction
      (get files names.secret))
  unfolding confrontation_on
  of_extracted given is = ap (λ a. of_extraction a >>= λ extraction. secret_told extraction
      (get files names.secret)) is

  answer_unread : (unread : Part × Bool)
      → first_unread files (name_of replies) extract_parts ≡ Some unread
      → answer ≡ Err (Unread (fault_of unread))
  answer_unread unread is = of_extracted (Err (fault_of unread))
      (extracting.answer_unread files replies unread is)

  answer_held : (held : HoldsFiles files replies)
      → answer ≡ secret_told (extraction_of_held held) (get files names.secret)
  answer_held held = of_extracted (Ok (extraction_of_held held))
      (extracting.answer_read files replies held)

  secret_unheld : (held : HoldsFiles files replies) → IsUnheld files names.secret
      → answer ≡ Err MissingSecret
  secret_unheld held is = answer_held held ∙ ap (secret_told (extraction_of_held held)) is

  secret_long : (held : HoldsFiles files replies) → IsLong files names.secret
      → answer ≡ Err TooLongSecret
  secret_long held (bytes, is, long) =
      let test : nat_lt (2 ^ 30) (length bytes) ≡ true = grind (arith, nat_tests, long) in
      let next : Rest → Result Confrontation ConfrontErr =
      λ rest. Ok (confrontation_of (extraction_of_held held) (secret_in (secret_at rest))) in
      answer_held held ∙ (ap (secret_told (extraction_of_held held)) is
      ∙ ap (λ (t : Bool). (if t then Err TooLongSecret else Ok
      (from_start bytes)) >>= next) test)

  answer_read : (held : HoldsFiles files replies) (file : List ℕ)
      → IsHeldFile files names.secret file → answer ≡ Ok (confrontation_of_held held file)
  answer_read held file is =
      (files_are_confronted files replies.board replies.first.challenge replies.first.reply
      replies.second.challenge replies.second.reply names.secret
      (confrontation_of_held held file)).1
      (record { held = held; secret_bytes = file; secret_is = is; is = refl })

  -- the secret is the first that can't be read
  last_unread : (Reason : Files → List ℕ → Type 0)
      → first_unread files (name_of replies) extract_parts ≡ None → Reason files names.secret
      → IsFirstUnread files (confront_inputs names) names.secret Reason
  last_unread Reason none why = record {
    earlier = extract_inputs replies;
    later = [];
    names_are = refl;
    read = all_read files (name_of replies) extract_parts none;
    why = why;
  }

  held_by : first_unread files (name_of replies) extract_parts ≡ None → HoldsFiles files replies
  held_by none = files_held (all_read files (name_of replies) extract_parts none)

  by_length : (none : first_unread files (name_of replies) extract_parts ≡ None) (file : List ℕ)
      → get files names.secret ≡ Some file
      → (long : Bool) → nat_lt (2 ^ 30) (length file) ≡ long
      → ConfrontHolds files names answer
  by_length none file is true test =
      let long : IsLong files names.secret = (file, is, grind (arith, nat_tests, test)) in
      subst (ConfrontHolds files names) (sym (secret_long (held_by none) long))
      (last_unread IsLong none long)
  by_length none file is false test =
      let held = held_by none in
      let secret_is : IsHeldFile files names.secret file =
      record { is = is; short = grind (arith, nat_tests, test) } in
      subst (ConfrontHolds files names) (sym (answer_read held file secret_is)) (record {
        held = held;
        file = file;
        file_is = secret_is;
        holds = confrontation_holds held.file_bytes held.first.challenge_bytes
            held.first.reply_bytes held.second.challenge_bytes held.second.reply_bytes file;
      })

  by_secret : first_unread files (name_of replies) extract_parts ≡ None → (told : Option (List ℕ))
      → get files names.secret ≡ told
      → ConfrontHolds files names answer
  by_secret none None is = subst (ConfrontHolds files names) (sym (secret_unheld (held_by none) is))
      (last_unread IsUnheld none is)
  by_secret none (Some file) is = by_length none file is (nat_lt (2 ^ 30) (length file)) refl

  answer_by : (unread : Option (Part × Bool))
      → first_unread files (name_of replies) extract_parts ≡ unread
      → ConfrontHolds files names answer
  answer_by (Some (part, true)) is =
      subst (ConfrontHolds files names) (sym (answer_unread (part, true) is))
      (with_more files IsLong (extract_inputs replies) (names.secret ∷ []) (name_of replies part)
      (unread_shown files (name_of replies)
      extract_parts (part, true) is))
  answer_by (Some (part, false)) is =
      subst (ConfrontHolds files names) (sym (answer_unread (part, false) is))
      (with_more files IsUnheld (extract_inputs replies) (names.secret ∷ []) (name_of replies part)
      (unread_shown files (name_of replies)
      extract_parts (part, false) is))
  answer_by None is = by_secret is (get files names.secret) refl

  abbrev said_of : Result Confrontation ConfrontErr → SaidValue
  said_of answered = answer_said (confrontation_said names) (confront_unread_said names) answered

  -- what is said of a file that can't be read, by whether it is too long
  abbrev cause_said : Bool → List ℕ → SaidValue
  cause_said true = too_long_said
  cause_said false = missing_said

  part_said : (part : Part) (long : Bool)
      → said_of (Err (Unread (fault_of (part, long)))) ≡ cause_said long (name_of replies part)
  part_said part true = refl
  part_said part false = refl

  secret_said : (held : HoldsFiles files replies) (long : Bool) → Why long files names.secret
      → said_of answer ≡ cause_said long names.secret
  secret_said held true why = ap said_of (secret_long held why)
  secret_said held false why = ap said_of (secret_unheld held why)

  -- the first that can't be read is a file of the replies, or the secret's
  cause_found : (name : List ℕ) (long : Bool)
      → IsFirstUnread files (confront_inputs names) name (Why long)
      → said_of answer ≡ cause_said long name
  cause_found name long is = elim
      (one_or_last files (Why long) (extract_inputs replies) names.secret name is) [
        | inl first ↦
            let found = unread_found files (name_of replies) extract_parts name long first in
            ap said_of (answer_unread (found.0, long) found.1) ∙ part_said found.0 long
            ∙ ap (cause_said long) found.2
        | inr last ↦
            secret_said (files_held last.0) long (subst (Why long files) last.2 last.1)
            ∙ ap (cause_said long) (sym last.2)
      ]

  answer_settled : (other : Result Confrontation ConfrontErr) → SettlesConfront other
      → ConfrontHolds files names other → said_of answer ≡ said_of other
  answer_settled (Ok confrontation) settles holds =
      let held = holds.held in
      ap said_of (answer_read held holds.file holds.file_is ∙ ap (λ c. Ok c)
      (settled_found held.file_bytes held.first.challenge_bytes held.first.reply_bytes
      held.second.challenge_bytes held.second.reply_bytes holds.file confrontation settles
      holds.holds))
  answer_settled (Err (Unread (Missing part))) settles holds =
      cause_found (name_of replies part) false holds
  answer_settled (Err (Unread (TooLong part))) settles holds =
      cause_found (name_of replies part) true holds
  answer_settled (Err (Unread Failed)) settles holds = absurd holds
  answer_settled (Err (Unread NoMemory)) settles holds = absurd holds
  answer_settled (Err MissingSecret) settles holds = cause_found names.secret false holds
  answer_settled (Err TooLongSecret) settles holds = cause_found names.secret true holds

  -- the replies clash
  module _ (held : HoldsFiles files replies) (file : List ℕ) (taken : Option (List ℕ))
      (two : TwoAccepted held.file_bytes held.first.challenge_bytes held.first.reply_bytes
      held.second.challenge_bytes held.second.reply_bytes)
      (clashes : ¬ All (LaneAgrees two) (differing_in two)) where
    abbrev PutsIt : SaidValue → Type 0
    PutsIt said = (said.status ≡ 3) × Modelled (PutsClash two) taken (puts said.text taken)

    by_extraction : (extraction : Extraction) → IsOf two extraction
        → PutsIt (confrontation_said names
        (confrontation_of extraction (secret_in (secret_at (from_start file)))))
    by_extraction (extraction.Refused second refused) is = absurd is
    by_extraction extraction.Same is = absurd is
    by_extraction (extraction.Clash clash) is = (
      refl,
      put_told (IsExtractionClash two) clash_text clash is taken,
    )
    by_extraction (extraction.Bids found) is = absurd (clashes is.agree)

    clash_told : IsHeldFile files names.secret file → PutsIt (said_of answer)
    clash_told is =
        subst (λ answer. PutsIt (said_of answer)) (sym (answer_read held file is))
        (by_extraction (extraction_of_held held)
        (accepted_are_extracted held.file_bytes held.first.challenge_bytes held.first.reply_bytes
        held.second.challenge_bytes held.second.reply_bytes two))

  answer_holds : ConfrontHolds files names answer
  answer_holds = answer_by (first_unread files (name_of replies) extract_parts) refl

pub tells_confrontations : TellsConfrontations
tells_confrontations files names taken = record {
  told =
      tells (ConfrontHolds files names) SettlesConfront (said_of files names) (answer files names)
      taken
      (answer_holds files names) (answer_settled files names);
  clashes = λ held read two clashes. clash_told files names held read.0 taken two clashes read.1;
}

-- ---- where the secret has its seal

-- what is said of a secret that is held, or of a clash
said_bound : {files : Files} {names : ConfrontWords} (confronts : ConfrontsFiles files names)
    (index : ℕ) (taken : Option (List ℕ))
    (confrontation : Confrontation)
    → ClashOr confronts.two (λ found. HeldOrClash confronts.secret index found confrontation)
    confrontation
    → let said = confrontation_said names confrontation in
    IsBound confronts index said.status taken (puts said.text taken)
said_bound {names} confronts index taken confrontation (inl clash) =
    absurd (no_clash confronts.two clash.0 confronts.agree clash.1)
said_bound {names} confronts index taken confrontation (inr (found, bids, inl held)) =
    record {
      found = found;
      bids = bids;
      ends = inl (ap (λ c. (confrontation_said names c).status) held.0, held.1);
    }
said_bound {names} confronts index taken confrontation
    (inr (found, bids, inr (clash, clashes, is))) =
    record {
      found = found;
      bids = bids;
      ends = inr (
        ap (λ c. (confrontation_said names c).status) clashes,
        subst (λ c. Modelled (PutsSecretClash confronts.secret found) taken
            (puts (confrontation_said names c).text taken)) (sym clashes)
            (put_told (IsClashWith confronts.secret found) clash_text clash is taken),
      );
    }

always_bound : (files : Files) (names : ConfrontWords) (taken : Option (List ℕ))
    (confronts : ConfrontsFiles files names) (index : ℕ)
    → IsSealOf (confronts.two.first.front) confronts.secret index
    → let said = confront_said files names in
    IsBound confronts index said.status taken (puts said.text taken)
always_bound files names taken confronts index seal =
    let held = confronts.held in
    let P : Result Confrontation ConfrontErr → Type 0 = λ answer. let said =
    said_of files names answer in IsBound confronts index said.status taken
    (puts said.text taken) in
    let file = secret_text confronts.secret in
    subst P (sym (answer_read files names held file confronts.file_is))
    (said_bound confronts index taken (confrontation_of_held held file)
    (sealed_are_held_or_clash held.file_bytes held.first.challenge_bytes held.first.reply_bytes
    held.second.challenge_bytes held.second.reply_bytes file
    confronts.two confronts.secret index confronts.right refl seal))

-- ---- only such files

only_held : (files : Files) (names : ConfrontWords) (answered : Result Confrontation ConfrontErr)
    → ConfrontHolds files names answered
    → (said_of files names answered).status ≡ 0 → HoldsSecret files names
only_held files names (Err (Unread (Missing file))) holds zero_is = absurd (omega arith)
only_held files names (Err (Unread (TooLong file))) holds zero_is = absurd (omega arith)
only_held files names (Err (Unread Failed)) holds zero_is = absurd holds
only_held files names (Err (Unread NoMemory)) holds zero_is = absurd holds
only_held files names (Err MissingSecret) holds zero_is = absurd (omega arith)
only_held files names (Err TooLongSecret) holds zero_is = absurd (omega arith)
only_held files names (Ok (Refused second refused)) holds zero_is =
    let held = holds.held in
    absurd (refused_never second refused held.file_bytes held.first.challenge_bytes
    held.first.reply_bytes held.second.challenge_bytes held.second.reply_bytes holds.holds
    (status_accepted (name_of names.replies) second refused (λ one. omega arith) (omega arith)))
only_held files names (Ok Same) holds zero_is = absurd (omega arith)
only_held files names (Ok (Malformed line)) holds zero_is = absurd (omega arith)
only_held files names (Ok (NoSeal seat)) holds zero_is = absurd (omega arith)
only_held files names (Ok (Mismatch mismatch)) holds zero_is = absurd (omega arith)
only_held files names (Ok (Clash clash)) holds zero_is = absurd (omega arith)
only_held files names (Ok (Held seat)) holds zero_is =
    let comes = holds.holds in
    record {
      confronts = record {
        held = holds.held;
        two = comes.two;
        agree = comes.bids.agree;
        secret = comes.secret;
        right = comes.right;
        file_is = subst (IsHeldFile files names.secret) comes.text holds.file_is;
      };
      found = comes.found;
      bids = comes.bids;
      held = comes.comes.1;
    }

pub binds_exactly : BindsExactly
binds_exactly files names taken = record {
  only = λ zero_is. only_held files names (answer files names) (answer_holds files names) zero_is;
  always = λ confronts index seal _ _. always_bound files names taken confronts index seal;
}
