-- Names that are compared, and files that are looked up by them.
use Rattle.std.proofs.Common.{◌≡◌, ℕ, String, true, false, not, List, [], ◌∷◌, ◌++◌, ◌||◌, ◌==◌, map, refl, ap, ◌∙◌, rules, tests}
use Rattle.std.specs.List.{filter, list_any}
use Rattle.std.specs.Str.{bytes_eq}
use Rattle.std.specs.String.{string_bytes}
use Rattle.std.proofs.lemmas.Bool.{or_left, or_right}
use Rattle.std.proofs.lemmas.Bool.Decides.{same_from_decides}
use Rattle.std.proofs.lemmas.List.{append_cancel_left}
use Rattle.std.proofs.lemmas.List.Folds.{list_any-append}
use Rattle.std.proofs.lemmas.Map.Views.{any-filter_same}
use Rattle.std.proofs.lemmas.Slice.Eq.{bytes_eq-Decides}
use Rattle.std.specs.Cmp.Derive.{both_true}
use Rattle.vk_files.specs.declared.file_id.FileId.{FileId}
use Rattle.vk_files.specs.declared.named_ids.NamedId.{NamedId}
use Rattle.vk_files.specs.Identity.{same_file, is_named, is_told}
use Rattle.vk_files.specs.Store.{endings, is_ending, is_store_name}

-- behind one front, two texts are the same where the rests are
same_behind : (front a b : List ℕ) → bytes_eq (front ++ a) (front ++ b) ≡ bytes_eq a b
same_behind front a b =
    same_from_decides {P = a ≡ b} _ _ (
      λ same. append_cancel_left front a b ((bytes_eq-Decides (front ++ a) (front ++ b)).0 same),
      λ e. (bytes_eq-Decides (front ++ a) (front ++ b)).1 (ap (λ x. front ++ x) e),
    )
    (bytes_eq-Decides a b)

any_behind : (front a : List ℕ) (texts : List (List ℕ))
    → list_any (bytes_eq (front ++ a)) (map (λ text. front ++ text) texts)
    ≡ list_any (bytes_eq a) texts
any_behind front a [] = refl
any_behind front a (text ∷ texts) =
    ap (λ b. b || list_any (bytes_eq (front ++ a)) (map (λ t. front ++ t) texts))
    (same_behind front a text)
    ∙ ap (λ b. bytes_eq a text || b) (any_behind front a texts)

-- a name that begins with the store's is one of its files' by what stands behind that
pub store_name_by_ending : (name store ending : List ℕ) → name ≡ store ++ ending
    → is_store_name name store ≡ is_ending ending
store_name_by_ending name store ending e = ap (λ n. is_store_name n store) e
    ∙ any_behind store ending endings

same_number : (n : ℕ) → (n == n) ≡ true
same_number n = search (rules, tests)

same_itself : (id : FileId) → same_file id id ≡ true
same_itself id = both_true (same_number id.device) (same_number id.node)

-- a file is there by the name that was noted last
pub named_last : (opened : List NamedId) (file : NamedId) (name : List ℕ)
    → string_bytes file.name ≡ name → is_named (opened ++ file ∷ []) file.id name ≡ true
named_last opened file name e =
    list_any-append _ opened (file ∷ [])
    ∙ or_right (is_named opened file.id name) _
    (or_left _ _ (both_true (same_itself file.id)
    ((bytes_eq-Decides (string_bytes file.name) name).1 e)))

-- a name is there that was noted last
pub told_last : {Z : Type 0} (told : List (String Z)) (last : String Z) (name : List ℕ)
    → string_bytes last ≡ name → is_told (told ++ last ∷ []) name ≡ true
told_last told last name e =
    list_any-append _ told (last ∷ [])
    ∙ or_right (is_told told name) _
    (or_left _ _ ((bytes_eq-Decides (string_bytes last) name).1 e))

-- and isn't where all that are the same were taken out
pub told_without : {Z : Type 0} (name : List ℕ) (told : List (String Z))
    → is_told (filter (λ other. not (bytes_eq (string_bytes other) name)) told) name ≡ false
told_without name told =
    any-filter_same (λ other. bytes_eq (string_bytes other) name)
    (λ other. not (bytes_eq (string_bytes other) name)) false (λ other is. ap not is) told
