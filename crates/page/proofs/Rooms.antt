-- Bytes in a room, one piece after another.
use Rattle.std.proofs.Common.{◌≡◌, ℕ, ◌+◌, ◌<◌, ◌≤◌, List, ◌++◌, length, take, drop, get_or, flat_map, None, sym, ap, ◌∙◌, arith, length-append}
use Rattle.std.proofs.lemmas.List.{append-nil, at_drop_more, drop_all, length-take-le, take-append-drop}
use Rattle.page.specs.Shown.{BeginsWith, IsPut, Puts}

-- a room in whose front bytes were put begins with them
pub begins_put : (bytes : List ℕ) (end : ℕ) (old new : List ℕ) → IsPut bytes 0 end old new
    → BeginsWith bytes new
begins_put bytes end old new put =
    (drop end new, sym (take-append-drop end new) ∙ ap (λ front. front ++ drop end new) put.front)

above_all : (at : ℕ) (room piece rest all : List ℕ) → at ≤ length room
    → take at room ++ (piece ++ rest) ≡ all
    → length room < at + length piece → length room < length all
above_all at room piece rest all within are above =
    omega (
      arith,
      length-take-le at room within,
      length-append (take at room) (piece ++ rest),
      length-append piece rest,
      ap length are,
    )

-- where the next piece doesn't fit, all of them don't
pub too_small : {X : Type 0} (f : X → List ℕ) (xs : List X) (i at : ℕ) (d : X)
    (old room new all : List ℕ)
    → i < length xs → at ≤ length room → take at room ++ flat_map f (drop i xs) ≡ all
    → length room < at + length (f (get_or xs i d)) → length room ≡ length old
    → Puts all 0 None old new
too_small f xs i at d old room new all is_left within are above same =
    let next = at_drop_more (λ left. take at room ++ flat_map f left) xs i d is_left in
    omega (
      arith,
      same,
      above_all at room (f (get_or xs i d)) (flat_map f (drop (i + 1) xs)) all
          within (sym next ∙ are) above,
    )

-- what was put is all, where no piece is left
pub all_put : {X : Type 0} (f : X → List ℕ) (xs : List X) (i at : ℕ) (old room all : List ℕ)
    → length xs ≤ i → at ≤ length room → take at room ++ flat_map f (drop i xs) ≡ all
    → length room ≡ length old → IsPut all 0 at old room
all_put f xs i at old room all none within are same =
    let front : take at room ≡ all = sym (append-nil (take at room))
    ∙ ap (λ left. take at room ++ flat_map f left) (sym (drop_all i xs none)) ∙ are in
    record {
      place = omega (arith, length-take-le at room within, ap length front);
      within = omega (arith, same);
      front = front;
    }
