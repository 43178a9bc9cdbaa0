-- What `extract` and `claim-extract` print is true of the files, and where both replies are accepted
-- for different challenges they print it.
use Rattle.std.proofs.Common.{◌≡◌, ◌≢◌, ℕ, Bool, true, false, List, [], ◌∷◌, Option, Some, None, IfSome, refl, sym, ap, subst, ◌∙◌, arith, inl, inr}
use Rattle.std.specs.Prelude.{◌⊎◌, codes, if◌then◌else◌, length, option_map}
use Rattle.vk_residue.specs.Steps.{◌>>?◌}
use Rattle.vk_io.specs.Files.{Files, Modelled}
use Rattle.vk_keeper.specs.Ledgers.{Ledger}
use Rattle.vk_judge.specs.FileForms.{Fronts, bits_of}
use Rattle.vk_bids.specs.FileHeadline.{IsClashOf, TwoAccepted}
use Rattle.vk_bids.specs.Headline.{IsExtraction, IsExtractionClash, differing}
use Rattle.vk_bids.specs.Soundness.{BeginsWithFront, TellsBids, TellsTwoOpenings}
use Rattle.vk_bids.specs.Texts.{clash_text, extraction_text}
use Rattle.vk_bids.proofs.Soundness.{begins_with_front, bids_are_told, clash_is_told}
use Rattle.vk_claim.specs.Extraction.{IsClaimOpened}
use Rattle.vk_claim.specs.Printing.{claim_extraction_text}
use Rattle.vk_claims.specs.Circuits.{admitted_plan, claimed}
use Rattle.vk_claims.specs.Statuses.{AcceptsTwoClaims, IsClaimExtracted}
use Rattle.vk_claims.specs.Soundness.{BeginsWithClaim, TellsValues}
use Rattle.vk_claims.proofs.Soundness.{begins_with_claim, values_are_told}
use Rattle.vk_claims.proofs.Soundness as opened
use Rattle.vk_words.specs.Commands.{CommandWords, Audit, Claim, command_words}
use Rattle.vk_words.specs.Audits as audits
use Rattle.vk_words.specs.Claims as claims
use Rattle.vk_words.specs.Names.{AttemptWords, ExtractWords, VerifyWords, attempt_at, extract_in, is_name, verify_in}
use Rattle.vk_words.specs.Table.{commands, row_of}
use Rattle.vk_effect.specs.Effects.{Outside, outside, stores}
use Rattle.vk_audit.specs.Inputs.{HoldsFiles}
use Rattle.vk_audit.specs.Statuses.{AcceptsTwoFiles, IsExtracted, PutsText}
use Rattle.vk_app.specs.Commands.{DoesWork, Work, work_of, work_on}
use Rattle.vk_app.specs.Promises.{ClaimExtractIsComplete, ClaimExtractIsSound, EndsWhereAccepted, ExtractIsComplete, ExtractIsSound, Prints, PrintsOf, PutsExactly}
use Rattle.vk_app.proofs.Audited.{ended_claim_headline, ended_headline}

-- ---- words

-- the names of five files
abbrev five : (file challenge reply other second : List ℕ) → ExtractWords
five file challenge reply other second = record {
  board = file;
  first = record { challenge = challenge; reply = reply };
  second = record { challenge = other; reply = second };
}

abbrev name_if : Bool → List ℕ → Option (List ℕ)
name_if is word = if is then Some word else None

-- each is a name, or there is none of what they make
abbrev attempt_if : (a b : Bool) → (challenge reply : List ℕ) → Option AttemptWords
attempt_if a b challenge reply =
    name_if a challenge >>? λ challenge.
    name_if b reply >>? λ reply.
    Some (record { challenge = challenge; reply = reply })

abbrev verify_if : (a b c : Bool) → (file challenge reply : List ℕ) → Option VerifyWords
verify_if a b c file challenge reply =
    name_if a file >>? λ board.
    attempt_if b c challenge reply >>? λ attempt.
    Some (record { board = board; attempt = attempt })

abbrev extract_if : (a b c d e : Bool) → (file challenge reply other second : List ℕ)
    → Option ExtractWords
extract_if a b c d e file challenge reply other second =
    verify_if a b c file challenge reply >>? λ names.
    attempt_if d e other second >>? λ second.
    Some (record { board = names.board; first = names.attempt; second = second })

-- the command of five words, by whether each is a name
abbrev command_if : (ExtractWords → CommandWords) → (a b c d e : Bool)
    → (file challenge reply other second : List ℕ) → Option CommandWords
command_if command a b c d e file challenge reply other second =
    option_map command (extract_if a b c d e file challenge reply other second)

settled : (command : ExtractWords → CommandWords) (a b c d e : Bool)
    (file challenge reply other second : List ℕ)
    → (command_if command a b c d e file challenge reply other second ≡ None)
    ⊎ (command_if command a b c d e file challenge reply other second
    ≡ Some (command (five file challenge reply other second)))
settled command true true true true true file challenge reply other second = inr refl
settled command false b c d e file challenge reply other second = inl refl
settled command true false c d e file challenge reply other second = inl refl
settled command true true false d e file challenge reply other second = inl refl
settled command true true true false e file challenge reply other second = inl refl
settled command true true true true false file challenge reply other second = inl refl

all_names : (command : ExtractWords → CommandWords) (a b c d e : Bool)
    (file challenge reply other second : List ℕ)
    → a ≡ true → b ≡ true → c ≡ true → d ≡ true → e ≡ true
    → command_if command a b c d e file challenge reply other second
    ≡ Some (command (five file challenge reply other second))
all_names command true true true true true file challenge reply other second _ _ _ _ _ = refl
all_names command false b c d e file challenge reply other second is _ _ _ _ = cc
all_names command true false c d e file challenge reply other second _ is _ _ _ = cc
all_names command true true false d e file challenge reply other second _ _ is _ _ = cc
all_names command true true true false e file challenge reply other second _ _ _ is _ = cc
all_names command true true true true false file challenge reply other second _ _ _ _ is = cc

-- the commands that extract, by their names
abbrev audit_extract : ExtractWords → CommandWords
audit_extract names = Audit (audits.Extract names)

abbrev claim_extract : ExtractWords → CommandWords
claim_extract names = Claim (claims.Extract names)

module _ (file challenge reply other second : List ℕ) where
  -- the five words behind this one, and the command that they are
  abbrev six : List ℕ → List (List ℕ)
  six verb = verb ∷ file ∷ challenge ∷ reply ∷ other ∷ second ∷ []

  abbrev command_of : (ExtractWords → CommandWords) → Option CommandWords
  command_of command =
      command_if command (is_name file) (is_name challenge) (is_name reply) (is_name other)
      (is_name second) file challenge reply other second

  extract_words : command_words (six (codes "extract")) ≡ command_of audit_extract
  unfolding command_words row_of commands extract_in verify_in attempt_at
  extract_words = refl

  claim_extract_words : command_words (six (codes "claim-extract")) ≡ command_of claim_extract
  unfolding command_words row_of commands extract_in verify_in attempt_at
  claim_extract_words = refl

  -- words that begin so are no command, or this one
  abbrev WordsAre : List ℕ → (ExtractWords → CommandWords) → Type 0
  WordsAre verb command = command_words (six verb) ≡ command_of command

  words_settled : (words : List (List ℕ)) (verb : List ℕ) (command : ExtractWords → CommandWords)
      → words ≡ six verb → WordsAre verb command
      → (command_words words ≡ None)
      ⊎ (command_words words ≡ Some (command (five file challenge reply other second)))
  words_settled words verb command is are =
      subst (λ found. (found ≡ None)
      ⊎ (found ≡ Some (command (five file challenge reply other second))))
      (sym (ap command_words is ∙ are))
      (settled command (is_name file) (is_name challenge) (is_name reply) (is_name other)
      (is_name second) file challenge reply other second)

-- ---- what was printed

prints_as : {X : Type 0} (IsSuch : X → Type 0) (text : X → List ℕ) (P : List ℕ → Type 0)
    → ((x : X) → IsSuch x → P (text x)) → (old new : Option (List ℕ))
    → Modelled (PutsText IsSuch text) old new → Prints P old new
prints_as IsSuch text P holds None new is = is
prints_as IsSuch text P holds (Some before) None is = is
prints_as IsSuch text P holds (Some before) (Some after) is =
    (text is.found, is.put, holds is.found is.is)

module _ (P Q : Type 0) (status : ℕ) where
  -- of two ends, that with this status
  done_is : ((status ≡ 0) × P) ⊎ ((status ≡ 3) × Q) → status ≡ 0 → P
  done_is (inl done) zero_is = done.1
  done_is (inr clash) zero_is = absurd (omega (arith, clash.0, zero_is))

  clash_is : ((status ≡ 0) × P) ⊎ ((status ≡ 3) × Q) → status ≡ 3 → Q
  clash_is (inl done) three_is = absurd (omega (arith, done.0, three_is))
  clash_is (inr clash) three_is = clash.1

  one_of : ((status ≡ 0) × P) ⊎ ((status ≡ 3) × Q) → (status ≡ 0) ⊎ (status ≡ 3)
  one_of (inl done) = inl done.0
  one_of (inr clash) = inr clash.0

not_stopped : (status : ℕ) → (status ≡ 0) ⊎ (status ≡ 3) → (status ≢ 6) × (status ≢ 9)
not_stopped status (inl zero_is) = (λ six_is. omega arith, λ nine_is. omega arith)
not_stopped status (inr three_is) = (λ six_is. omega arith, λ nine_is. omega arith)

module _ (files : Files) (status : ℕ) (old new : Option (List ℕ)) where
  -- where files that are held begin so, and are such challenges
  printed_of : {F G : Type 0} {fronts : Fronts G} {Begins : List ℕ → F → Type 0}
      {id_of : F → List ℕ} {Tells : F → List ℕ → List ℕ → Type 0} {names : ExtractWords}
      {P Q : Type 0} (held : HoldsFiles files names) (two : TwoAccepted fronts held.file_bytes
      held.first.challenge_bytes held.first.reply_bytes held.second.challenge_bytes
      held.second.reply_bytes) (front : F)
      → Begins held.file_bytes front → ((status ≡ 0) × P) ⊎ ((status ≡ 3) × Q)
      → (P → Prints (Tells front (differing 1 (bits_of two.first) (bits_of two.second))) old new)
      → (Q → Prints (TellsTwoOpenings held.file_bytes (id_of front)) old new)
      → PrintsOf Begins id_of Tells files names.board names.first.challenge names.second.challenge
      status old new
  printed_of held two front begins ends found clash = record {
    file = held.file_bytes;
    front = front;
    first = two.first.behind.challenge;
    second = two.second.behind.challenge;
    file_is = held.file_is.is;
    begins = begins;
    first_is = held.first.challenge_is.is
        ∙ ap (λ bytes. Some bytes) two.first.behind.challenge_is.0;
    second_is = held.second.challenge_is.is
        ∙ ap (λ bytes. Some bytes) two.second.behind.challenge_is.0;
    found = λ zero_is. found (done_is _ _ status ends zero_is);
    clash = λ three_is. clash (clash_is _ _ status ends three_is);
  }

  bids_printed : (names : ExtractWords) (accepted : AcceptsTwoFiles files names)
      → IsExtracted accepted.two status old new
      → PrintsOf BeginsWithFront (λ front. front.head.auction) TellsBids files names.board
      names.first.challenge names.second.challenge status old new
  bids_printed names accepted extracted =
      printed_of accepted.held accepted.two accepted.two.first.front
      (begins_with_front accepted.two.first) extracted
      (prints_as (IsExtraction accepted.two) extraction_text _ (bids_are_told accepted.two) old new)
      (prints_as (IsExtractionClash accepted.two) clash_text _ (clash_is_told accepted.two) old new)

  values_printed : (names : ExtractWords) (accepted : AcceptsTwoClaims files names)
      → IsClaimExtracted accepted.two status old new
      → PrintsOf BeginsWithClaim (λ front. front.head.auction) TellsValues files names.board
      names.first.challenge names.second.challenge status old new
  values_printed names accepted extracted =
      let two = accepted.two in
      printed_of accepted.held two two.first.front.front (begins_with_claim two) extracted
      (prints_as (IsClaimOpened admitted_plan claimed two) claim_extraction_text _
      (values_are_told two) old new)
      (prints_as (IsClashOf two) clash_text _ (opened.clash_is_told two) old new)

-- ---- at its end

module _ (files : Files) (ledger : Option Ledger) (words : List (List ℕ)) (status : ℕ) (old : Option (List ℕ)) (new : Outside)
    (ended : IfSome (work_on (Some files) ledger words) (λ work. DoesWork status work (outside (stores (Some files) ledger) old) new)) where
  -- words of no form end with another status
  no_usage : (status ≡ 0) ⊎ (status ≡ 3) → command_words words ≡ None → ⊥
  no_usage ends is =
      let Does : Work → Type 0 =
      λ work. DoesWork status work (outside (stores (Some files) ledger) old) new in
      let done = subst (λ found. IfSome (work_of (Some files) ledger found) Does) is ended in
      not_two ends done.status_is
    where
      not_two : (status ≡ 0) ⊎ (status ≡ 3) → status ≡ 2 → ⊥
      not_two (inl zero_is) two_is = omega arith
      not_two (inr three_is) two_is = omega arith

  -- what is promised of a command by its names is promised of its six words
  by_words : {P : Type 0} (file challenge reply other second verb : List ℕ)
      (command : ExtractWords → CommandWords)
      → words ≡ six file challenge reply other second verb
      → WordsAre file challenge reply other second verb command → (status ≡ 0) ⊎ (status ≡ 3)
      → (command_words words ≡ Some (command (five file challenge reply other second)) → P) → P
  by_words {P} file challenge reply other second verb command is are ends holds =
      either (words_settled file challenge reply other second words verb command is are)
    where
      either : (command_words words ≡ None)
          ⊎ (command_words words ≡ Some (command (five file challenge reply other second))) → P
      either (inl none) = absurd (no_usage ends none)
      either (inr some) = holds some

  module _ {Accepts : ExtractWords → Type 0} {PutsIt PutsClash : (names : ExtractWords) → Accepts names → Type 0}
      (verb : List ℕ) (command : ExtractWords → CommandWords) (exactly : PutsExactly words status command Accepts (λ names accepted. ((status ≡ 0) × PutsIt names accepted) ⊎ ((status ≡ 3) × PutsClash names accepted)))
      (are : (file challenge reply other second : List ℕ) → WordsAre file challenge reply other second verb command) where
    -- what is put of files that are accepted, where the status is 0 or 3
    put_where : (file challenge reply other second : List ℕ)
        → words ≡ six file challenge reply other second verb → (status ≡ 0) ⊎ (status ≡ 3)
        → let names = five file challenge reply other second in
        (accepted : Accepts names) × (((status ≡ 0) × PutsIt names accepted)
        ⊎ ((status ≡ 3) × PutsClash names accepted))
    put_where file challenge reply other second is ends =
        by_words file challenge reply other second verb command is
        (are file challenge reply other second) ends
        (λ some. let names = five file challenge reply other second in
        let accepted = exactly.only names some ends in
        let apart = not_stopped status ends in
        (accepted, exactly.found names some accepted apart.0 apart.1))

    ends_where : EndsWhereAccepted verb Accepts words status
    ends_where names is right accepted no_fault no_want =
        let some : command_words words ≡ Some (command names) =
        ap command_words is
        ∙ are names.board names.first.challenge names.first.reply names.second.challenge
        names.second.reply
        ∙ all_names command (is_name names.board) (is_name names.first.challenge)
        (is_name names.first.reply) (is_name names.second.challenge) (is_name names.second.reply)
        names.board names.first.challenge names.first.reply names.second.challenge
        names.second.reply right.0 right.1.0 right.1.1.0 right.1.1.1.0 right.1.1.1.1.0 in
        one_of _ _ status (exactly.found names some accepted no_fault no_want)

  pub ended_sound : ExtractIsSound files words status old new.taken
  ended_sound board challenge reply other second is ends =
      let put = put_where (codes "extract") audit_extract
      (ended_headline files ledger words status old new ended)
      extract_words board challenge reply other second is ends in
      bids_printed files status old new.taken (five board challenge reply other second) put.0 put.1

  pub ended_complete : ExtractIsComplete files words status old new.taken
  ended_complete = ends_where (codes "extract") audit_extract
      (ended_headline files ledger words status old new ended) extract_words

  pub ended_claim_sound : ClaimExtractIsSound files words status old new.taken
  ended_claim_sound claim challenge reply other second is ends =
      let put = put_where (codes "claim-extract") claim_extract
      (ended_claim_headline files ledger words status old new ended)
      claim_extract_words claim challenge reply other second is ends in
      values_printed files status old new.taken (five claim challenge reply other second) put.0
      put.1

  pub ended_claim_complete : ClaimExtractIsComplete files words status old new.taken
  ended_claim_complete = ends_where (codes "claim-extract") claim_extract
      (ended_claim_headline files ledger words status old new ended) claim_extract_words
