-- The names of the files that a command reads.
use Rattle.std.specs.Prelude.{ℕ, ◌+◌, ◌&&◌, nat_le, Bool, if◌then◌else◌, List, [], length, slice_index_or, Option, Some, None}
use Rattle.vk_residue.specs.Steps.{◌>>?◌}
use Rattle.vk_judge.specs.declared.named.OneReply.{OneReply}
use Rattle.vk_judge.specs.declared.named.TwoReplies.{TwoReplies}
use Rattle.vk_words.specs.declared.names.ConfrontNames.{ConfrontNames}

-- a name has 1 to 255 bytes
abbrev pub is_name : List ℕ → Bool
is_name word = nat_le 1 (length word) && nat_le (length word) 255

-- the word that stands at that place, counted from 0
abbrev pub nth_word : List (List ℕ) → ℕ → List ℕ
nth_word words place = slice_index_or words place []

-- the name that stands there
abbrev pub name_at : List (List ℕ) → ℕ → Option (List ℕ)
name_at words place = if is_name (nth_word words place) then Some (nth_word words place) else None

-- ---- by their bytes

-- the names of the files of one challenge and the reply to it
pub record AttemptWords : Type 0 where
  pub challenge : List ℕ
  pub reply : List ℕ

-- those of `verify`
pub record VerifyWords : Type 0 where
  pub board : List ℕ
  pub attempt : AttemptWords

-- those of `extract`
pub record ExtractWords : Type 0 where
  pub board : List ℕ
  pub first : AttemptWords
  pub second : AttemptWords

-- those of `confront`
pub record ConfrontWords : Type 0 where
  pub replies : ExtractWords
  pub secret : List ℕ

abbrev pub verify_seen : OneReply → VerifyWords
verify_seen names = record {
  board = names.file.now;
  attempt = record { challenge = names.challenge.now; reply = names.reply.now };
}

abbrev pub extract_seen : TwoReplies → ExtractWords
extract_seen names = record {
  board = names.file.now;
  first = record { challenge = names.challenge1.now; reply = names.reply1.now };
  second = record { challenge = names.challenge2.now; reply = names.reply2.now };
}

abbrev pub confront_seen : ConfrontNames → ConfrontWords
confront_seen names = record { replies = extract_seen names.replies; secret = names.secret.now }

-- ---- where they stand

-- the names of a challenge, at that place, and of the reply behind it
unfoldable pub attempt_at : List (List ℕ) → ℕ → Option AttemptWords
attempt_at words place =
    name_at words place >>? λ challenge.
    name_at words (place + 1) >>? λ reply.
    Some (record { challenge = challenge; reply = reply })

-- BOARD CHALLENGE REPLY behind the first word
unfoldable pub verify_in : List (List ℕ) → Option VerifyWords
verify_in words =
    name_at words 1 >>? λ board.
    attempt_at words 2 >>? λ attempt.
    Some (record { board = board; attempt = attempt })

-- BOARD CHALLENGE REPLY CHALLENGE REPLY behind the first word
unfoldable pub extract_in : List (List ℕ) → Option ExtractWords
extract_in words =
    verify_in words >>? λ names.
    attempt_at words 4 >>? λ second.
    Some (record { board = names.board; first = names.attempt; second = second })

-- BOARD CHALLENGE REPLY CHALLENGE REPLY SECRET behind the first word
unfoldable pub confront_in : List (List ℕ) → Option ConfrontWords
confront_in words =
    extract_in words >>? λ replies.
    name_at words 6 >>? λ secret.
    Some (record { replies = replies; secret = secret })
