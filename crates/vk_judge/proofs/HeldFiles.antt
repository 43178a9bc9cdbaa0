-- A file that is begun is held, with at most 2^30 bytes.
use Rattle.std.proofs.Common.{◌≡◌, ℕ, ◌≤◌, ◌^◌, nat_lt, Bool, true, false, if◌then◌else◌, List, length, Option, Some, None, Result, Ok, Err, refl, ap, sym, ◌∙◌, arith}
use Rattle.std.specs.FinMap.{get}
use Rattle.std.proofs.lemmas.Bool.Decides.{nat_tests}
use Rattle.vk_residue.specs.Steps.{◌>>=◌}
use Rattle.vk_io.specs.Files.{Files}
use Rattle.vk_lines.specs.Lines.{Rest}
use Rattle.vk_judge.specs.declared.answers.Part.{Part}
use Rattle.vk_judge.specs.declared.answers.Part.TheVariants as part
use Rattle.vk_judge.specs.declared.answers.VErr.{VErr}
use Rattle.vk_judge.specs.declared.answers.VErr.TheVariants.{TooLong}
use Rattle.vk_judge.specs.Begun.{of_files}
use Rattle.vk_judge.specs.Begun.{begun_file, from_start}
use Rattle.vk_judge.specs.HeldFiles.{AreOfHeld, HeldAttempt, HeldFiles, IsHeldFile}
use Rattle.vk_judge.proofs.Steps.{value_same}

-- the file is held, and what comes next goes from the start of its bytes
pub record BegunThen {X E : Type 0} (files : Files) (name : List ℕ) (next : Rest → Result X E)
    (x : X) : Type 0 where
  pub bytes : List ℕ
  pub is : IsHeldFile files name bytes
  pub goes_on : next (from_start bytes) ≡ Ok x

-- a file that is held, and is refused where it is too long
pub begun_test : {X E : Type 0} (files : Files) (name bytes : List ℕ) (refusal : E)
    (next : Rest → Result X E) (x : X) (long : Bool) → get files name ≡ Some bytes
    → nat_lt (2 ^ 30) (length bytes) ≡ long
    → ((if long then Err refusal else Ok (from_start bytes)) >>= next) ≡ Ok x
    → BegunThen files name next x
begun_test files name bytes refusal next x true held is ok = cc
begun_test files name bytes refusal next x false held is ok =
    record {
      bytes = bytes;
      is = record { is = held; short = grind (arith, nat_tests, is) };
      goes_on = ok;
    }

begun_held : {X : Type 0} (files : Files) (name : List ℕ) (file : Part)
    (next : Rest → Result X VErr) (x : X) (found : Option (List ℕ)) → get files name ≡ found
    → (begun_file file found >>= next) ≡ Ok x → BegunThen files name next x
begun_held files name file next x None held ok = cc
begun_held files name file next x (Some bytes) held ok =
    begun_test files name bytes (TooLong file) next x (nat_lt (2 ^ 30) (length bytes)) held refl ok

pub begun_shown : {X : Type 0} (files : Files) (name : List ℕ) (file : Part)
    (next : Rest → Result X VErr) (x : X) → (begun_file file (get files name) >>= next) ≡ Ok x
    → BegunThen files name next x
begun_shown files name file next x ok = begun_held files name file next x (get files name) refl ok

pub not_long : (bytes : List ℕ) → length bytes ≤ 2 ^ 30 → nat_lt (2 ^ 30) (length bytes) ≡ false
not_long bytes short = grind (arith, nat_tests, short)

pub begun_found : {X : Type 0} (files : Files) (name bytes : List ℕ) (file : Part)
    (next : Rest → Result X VErr) → IsHeldFile files name bytes
    → (begun_file file (get files name) >>= next) ≡ next (from_start bytes)
begun_found files name bytes file next is =
    ap (λ found. begun_file file found >>= next) is.is
    ∙ ap (λ (long : Bool). (if long then Err (TooLong file) else Ok (from_start bytes)) >>= next)
    (not_long bytes is.short)

-- ---- a challenge and the reply to it

-- what comes of both, begun one after the other
abbrev pub attempt_begun : {X : Type 0} → Files → Part → Part → List ℕ → List ℕ
    → (Rest → Rest → Result X VErr) → Result X VErr
attempt_begun files challenge_part reply_part challenge reply next = do
  challenge ← begun_file challenge_part (get files challenge)
  begun_file reply_part (get files reply) >>= next challenge

-- both are held, and what comes next goes from the start of their bytes
pub record AttemptThen {X : Type 0} (files : Files) (challenge reply : List ℕ)
    (next : Rest → Rest → Result X VErr) (x : X) : Type 0 where
  pub held : HeldAttempt files challenge reply
  pub goes_on : next (from_start held.challenge_bytes) (from_start held.reply_bytes) ≡ Ok x

module _ {X : Type 0} (files : Files) (challenge_part reply_part : Part) (challenge reply : List ℕ) (next : Rest → Rest → Result X VErr) where
  abbrev reply_then : Rest → Result X VErr
  reply_then challenge = begun_file reply_part (get files reply) >>= next challenge

  pub attempt_shown : (x : X) → attempt_begun files challenge_part reply_part challenge reply next
      ≡ Ok x → AttemptThen files challenge reply next x
  attempt_shown x ok =
      let first = begun_shown files challenge challenge_part reply_then x ok in
      let second = begun_shown files reply reply_part (next (from_start first.bytes)) x
      first.goes_on in
      record {
        held = record {
          challenge_bytes = first.bytes;
          reply_bytes = second.bytes;
          challenge_is = first.is;
          reply_is = second.is;
        };
        goes_on = second.goes_on;
      }

  pub attempt_found : (held : HeldAttempt files challenge reply)
      → attempt_begun files challenge_part reply_part challenge reply next
      ≡ next (from_start held.challenge_bytes) (from_start held.reply_bytes)
  attempt_found held =
      begun_found files challenge held.challenge_bytes challenge_part reply_then held.challenge_is
      ∙ begun_found files reply held.reply_bytes reply_part (next (from_start held.challenge_bytes))
      held.reply_is

-- ---- five files

module _ {X : Type 0} (whole : Rest → Rest → Rest → Rest → Rest → X) (files : Files) (file first_challenge first_reply second_challenge second_reply : List ℕ) where
  abbrev second_then : Rest → Rest → Rest → Result X VErr
  second_then file challenge reply =
      attempt_begun files part.SecondChallenge part.SecondReply second_challenge second_reply
      (λ other second. Ok (whole file challenge reply other second))

  abbrev first_then : Rest → Result X VErr
  first_then file = attempt_begun files part.Challenge part.Reply first_challenge first_reply
      (second_then file)

  -- only files that are held come to a value
  pub files_shown : (x : X) → of_files whole files file first_challenge first_reply
      second_challenge second_reply ≡ Ok x
      → HeldFiles files file first_challenge first_reply second_challenge second_reply
  files_shown x ok =
      let start = begun_shown files file part.Board first_then x ok in
      let first = attempt_shown files part.Challenge part.Reply first_challenge first_reply
      (second_then (from_start start.bytes)) x start.goes_on in
      let second = attempt_shown files part.SecondChallenge part.SecondReply second_challenge
      second_reply
      (λ other second. Ok (whole (from_start start.bytes) (from_start first.held.challenge_bytes)
      (from_start first.held.reply_bytes) other second)) x first.goes_on in
      record {
        file_bytes = start.bytes;
        file_is = start.is;
        first = first.held;
        second = second.held;
      }

  -- and they come to that of their bytes
  pub files_found : (held : HeldFiles files file first_challenge first_reply second_challenge
      second_reply)
      → of_files whole files file first_challenge first_reply second_challenge second_reply
      ≡ Ok (whole (from_start held.file_bytes) (from_start held.first.challenge_bytes)
      (from_start held.first.reply_bytes) (from_start held.second.challenge_bytes)
      (from_start held.second.reply_bytes))
  files_found held =
      begun_found files file held.file_bytes part.Board first_then held.file_is
      ∙ (attempt_found files part.Challenge part.Reply first_challenge first_reply
      (second_then (from_start held.file_bytes)) held.first
      ∙ attempt_found files part.SecondChallenge part.SecondReply second_challenge second_reply
      (λ other second. Ok (whole (from_start held.file_bytes)
      (from_start held.first.challenge_bytes) (from_start held.first.reply_bytes) other second))
      held.second)

pub are_of_held : {X : Type 0} (whole : Rest → Rest → Rest → Rest → Rest → X) → AreOfHeld whole
are_of_held whole files file challenge reply other second x = (
  λ ok. let held = files_shown whole files file challenge reply other second x ok in
      record {
        held = held;
        is = value_same x _
            (sym ok ∙ files_found whole files file challenge reply other second held);
      },
  λ comes. files_found whole files file challenge reply other second comes.held
      ∙ ap (λ e. Ok e) (sym comes.is),
)
