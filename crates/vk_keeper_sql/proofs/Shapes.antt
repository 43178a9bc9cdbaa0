-- Lists that are compared item by item.
use Rattle.std.proofs.Common.{◌≡◌, ◌∙◌, ℕ, ◌+◌, ◌<◌, ◌≤◌, List, [], ◌∷◌, ◌++◌, length, map, take, get_or, refl, sym, ap, arith}
use Rattle.std.proofs.lemmas.List.{get_or-map, map_more}

-- the next items are alike
pub alike_next : {A B C : Type 0} (f : A → C) (h : B → C) (xs : List A) (ys : List B) (i : ℕ)
    (x : A) (d : B) → i < length xs → i < length ys
    → x ≡ get_or xs i x → map f (take i xs) ≡ map h (take i ys) → f x ≡ h (get_or ys i d)
    → map f (take (i + 1) xs) ≡ map h (take (i + 1) ys)
alike_next {C} f h xs ys i x d in_xs in_ys x_is so_far last =
    let one : map f (take i xs) ++ f (get_or xs i x) ∷ [] ≡ map h (take i ys) ++ h (get_or ys i d)
    ∷ [] = rw (← x_is, so_far, last) refl in
    map_more f xs i x in_xs ∙ one ∙ sym (map_more h ys i d in_ys)

-- lists that are alike have alike items
pub alike_at : {A B C : Type 0} (f : A → C) (h : B → C) (xs : List A) (ys : List B) (i : ℕ)
    (x : A) (d : B) → i < length xs → i < length ys → x ≡ get_or xs i x → map f xs ≡ map h ys
    → f x ≡ h (get_or ys i d)
alike_at f h xs ys i x d in_xs in_ys x_is same =
    ap f x_is ∙ (sym (get_or-map f xs i x (f x) in_xs)
    ∙ (ap (λ all. get_or all i (f x)) same ∙ get_or-map h ys i d (f x) in_ys))

-- a list of one, and of two
pub only : {A : Type 0} (xs : List A) (x : A) → 1 ≤ length xs → length xs < 2 → x ≡ get_or xs 0 x
    → xs ≡ x ∷ []
only [] x some few is = absurd (omega arith)
only (y ∷ []) x some few is = ap (λ z. z ∷ []) (sym is)
only (y ∷ z ∷ xs) x some few is = absurd (omega arith)

pub pair : {A : Type 0} (xs : List A) (x y : A) → 2 ≤ length xs → length xs < 3 → x ≡ get_or xs 0 x
    → y ≡ get_or xs 1 y → xs ≡ x ∷ y ∷ []
pair [] x y some few is also = absurd (omega arith)
pair (a ∷ []) x y some few is also = absurd (omega arith)
pair (a ∷ b ∷ []) x y some few is also = rw (is, also) refl
pair (a ∷ b ∷ c ∷ xs) x y some few is also = absurd (omega arith)
