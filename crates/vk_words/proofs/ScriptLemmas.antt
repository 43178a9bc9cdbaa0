-- The words of a line that is UTF-8, and of one that isn't.
use Rattle.std.proofs.Common.{◌≡◌, ℕ, Bool, true, false, List, Some, None, refl}
use Rattle.std.specs.Str.{IsUtf8, is_utf8}
use Rattle.std.proofs.lemmas.Str.{IsUtf8-from_is_utf8, is_utf8-from_IsUtf8}
use Rattle.vk_lines.specs.Tokens.{fields_of}
use Rattle.vk_words.specs.Scripts.{line_words}

pub line_words-text : (line text : List ℕ) → text ≡ line → IsUtf8 line → (words : List (List ℕ))
    → words ≡ fields_of text → Some words ≡ line_words line
line_words-text line text same right words are = rw (is_utf8-from_IsUtf8 line right, are, same) refl

not_utf8 : (line : List ℕ) (test : Bool) → is_utf8 line ≡ test → ¬ (IsUtf8 line) → test ≡ false
not_utf8 line true is wrong = absurd (wrong (IsUtf8-from_is_utf8 line is))
not_utf8 line false is wrong = refl

pub line_words-none : (line : List ℕ) → ¬ (IsUtf8 line) → None ≡ line_words line
line_words-none line wrong = rw (not_utf8 line (is_utf8 line) refl wrong) refl
