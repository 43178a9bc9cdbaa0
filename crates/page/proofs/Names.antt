-- Names that are UTF-8, and names that aren't.
use Rattle.std.proofs.Common.{◌≡◌, ℕ, Bool, true, false, List, refl}
use Rattle.std.specs.Str.{IsUtf8, is_utf8}
use Rattle.std.proofs.lemmas.Str.{IsUtf8-from_is_utf8, is_utf8-from_IsUtf8}

by_test : (name : List ℕ) (test : Bool) → is_utf8 name ≡ test → ¬ (IsUtf8 name) → test ≡ false
by_test name true is wrong = absurd (wrong (IsUtf8-from_is_utf8 name is))
by_test name false is wrong = refl

pub utf8_test : (name : List ℕ) → IsUtf8 name → is_utf8 name ≡ true
utf8_test name right = is_utf8-from_IsUtf8 name right

pub other_test : (name : List ℕ) → ¬ (IsUtf8 name) → is_utf8 name ≡ false
other_test name wrong = by_test name (is_utf8 name) refl wrong
