-- Rows laid out flat: what one more row adds, and what stands for the terms of a row.
use Rattle.std.specs.Prelude.{ℕ, zero, suc, ◌+◌, ◌-◌, ◌<◌, ◌≤◌, ◌≡◌, ◌≢◌, List, [], ◌∷◌, ◌++◌, All, length, map, take, drop, slice_index, slice_index_or}
use Rattle.std.proofs.Common.{refl, sym, ap, subst, ◌∙◌, arith, length-append}
use Rattle.std.proofs.lemmas.List.{drop-append-le, take-append-le, length-take-le, length-drop, get_or-take, get_or-drop, length-map, take_all}
use Rattle.std.proofs.Math.Seq.{drop-append_seam, take-length}
use Rattle.std.proofs.lemmas.List.Elements.{All-append, All-head, All-tail}
use Rattle.vk_residue.specs.Residue.{sum, product}
use Rattle.vk_plan.specs.declared.form.Term.{Term}
use Rattle.vk_plan.specs.declared.form.Form.{Form}
use Rattle.vk_plan.specs.declared.flat.Flat.{Flat}
use Rattle.vk_plan.specs.Forms.{linear_part, NamesBelow, no_row}
use Rattle.vk_plan.specs.FormLaws.{linear_part_more}
use Rattle.vk_plan.specs.Tables.{terms_of, terms_between, rows_from, start_from, IsFlat, AreFlat, flat_rows}

-- a piece of the first list stays where another list follows
piece_stays : (start end : ℕ) (xs ys : List ℕ) → start ≤ length xs → end ≤ length xs
    → take (end - start) (drop start (xs ++ ys)) ≡ take (end - start) (drop start xs)
piece_stays start end xs ys hs he =
    rw (drop-append-le start xs ys hs)
    (take-append-le (end - start) (drop start xs) ys (omega (arith, length-drop start xs)))

-- the piece behind the first list is the other
piece_behind : (start end : ℕ) (xs ys : List ℕ) → start ≡ length xs → end ≡ length xs + length ys
    → take (end - start) (drop start (xs ++ ys)) ≡ ys
piece_behind start end xs ys hs he =
    rw hs (rw (drop-append_seam xs ys)
    (subst (λ n. take n ys ≡ ys) (omega (arith, he, hs)) (take-length ys)))

-- the terms of their wires and factors are the terms
terms_again : (terms : List Term)
    → terms_of (map (λ term. term.wire) terms) (map (λ term. term.factor) terms) ≡ terms
unfolding terms_of
terms_again [] = refl
terms_again (term ∷ terms) = ap (λ more. term ∷ more) (terms_again terms)

-- how many terms there are, and which
terms_length : (wires factors : List ℕ) → length factors ≡ length wires
    → length (terms_of wires factors) ≡ length wires
unfolding terms_of
terms_length [] [] h = refl
terms_length [] (f ∷ fs) h = refl
terms_length (w ∷ ws) [] h = absurd (omega (arith, h))
terms_length (w ∷ ws) (f ∷ fs) h = ap suc (terms_length ws fs (omega (arith, h)))

terms_at : (wires factors : List ℕ) (k : ℕ) (d : Term) → length factors ≡ length wires
    → k < length wires
    → slice_index_or (terms_of wires factors) k d
    ≡ record { wire = slice_index wires k; factor = slice_index factors k }
unfolding terms_of
terms_at [] factors k d h inside = absurd (omega (arith, inside))
terms_at (w ∷ ws) [] k d h inside = absurd (omega (arith, h))
terms_at (w ∷ ws) (f ∷ fs) zero d h inside = refl
terms_at (w ∷ ws) (f ∷ fs) (suc k) d h inside =
    terms_at ws fs k d (omega (arith, h)) (omega (arith, inside))

-- how many rows there are, and which
pub rows_length : (wires factors : List ℕ) (start : ℕ) (ends constants : List ℕ)
    → length constants ≡ length ends
    → length (rows_from wires factors start ends constants) ≡ length ends
unfolding rows_from
rows_length wires factors start [] [] h = refl
rows_length wires factors start [] (c ∷ cs) h = refl
rows_length wires factors start (e ∷ es) [] h = absurd (omega (arith, h))
rows_length wires factors start (e ∷ es) (c ∷ cs) h =
    ap suc (rows_length wires factors e es cs (omega (arith, h)))

pub row_at : (wires factors : List ℕ) (start : ℕ) (ends constants : List ℕ) (row : ℕ)
    → length constants ≡ length ends → row < length ends
    → slice_index_or (rows_from wires factors start ends constants) row no_row
    ≡ record {
      terms = terms_between wires factors (start_from start ends row)
          (slice_index ends row);
      constant = slice_index constants row;
    }
unfolding rows_from start_from
row_at wires factors start [] constants row h inside = absurd (omega (arith, inside))
row_at wires factors start (e ∷ es) [] row h inside = absurd (omega (arith, h))
row_at wires factors start (e ∷ es) (c ∷ cs) zero h inside = refl
row_at wires factors start (e ∷ es) (c ∷ cs) (suc row) h inside =
    row_at wires factors e es cs row (omega (arith, h)) (omega (arith, inside))

-- where a row begins
start_none : (start : ℕ) (ends : List ℕ) → start_from start ends 0 ≡ start
unfolding start_from
start_none start [] = refl
start_none start (e ∷ es) = refl

pub start_first : (start : ℕ) (ends : List ℕ) (row : ℕ) → row ≡ 0
    → start_from start ends row ≡ start
start_first start ends row none =
    subst (λ r. start_from start ends r ≡ start) (sym none) (start_none start ends)

start_later : (start : ℕ) (ends : List ℕ) (row : ℕ) → row < length ends
    → start_from start ends (suc row) ≡ slice_index ends row
unfolding start_from
start_later start [] row inside = absurd (omega (arith, inside))
start_later start (e ∷ es) zero inside = start_none e es
start_later start (e ∷ es) (suc row) inside = start_later e es row (omega (arith, inside))

pub start_after : (start : ℕ) (ends : List ℕ) (row : ℕ) → row ≢ 0 → row ≤ length ends
    → start_from start ends row ≡ slice_index ends (row - 1)
start_after start ends row some inside =
    subst (λ r. start_from start ends r ≡ slice_index ends (row - 1)) (omega (arith, some))
    (start_later start ends (row - 1) (omega (arith, some, inside)))

-- the last place of all
start_last : (start : ℕ) (ends : List ℕ) (end : ℕ)
    → start_from start (ends ++ end ∷ []) (length (ends ++ end ∷ [])) ≡ end
unfolding start_from
start_last start [] end = refl
start_last start (e ∷ es) end = start_last e es end

at_end_alone : (most end : ℕ) → end ≤ most → All (λ e. e ≤ most) (end ∷ [])
at_end_alone most end h zero d inside = h
at_end_alone most end h (suc k) d inside = absurd (omega (arith, inside))

-- no rows
pub flat_none : IsFlat [] [] [] []
unfolding start_from
flat_none = record {
  one_factor_each = refl;
  one_constant_each = refl;
  within = λ k d inside. omega (arith, inside);
  whole = refl;
}

-- one row more
pub flat_pushed : (wires factors ends constants more_wires more_factors : List ℕ) (end constant : ℕ)
    → IsFlat wires factors ends constants
    → length more_factors ≡ length more_wires → end ≡ length (wires ++ more_wires)
    → IsFlat (wires ++ more_wires) (factors ++ more_factors) (ends ++ end ∷ [])
    (constants ++ constant ∷ [])
flat_pushed wires factors ends constants more_wires more_factors end constant flat same at_end =
    let long = length-append wires more_wires in
    record {
      one_factor_each = omega (
        arith,
        flat.one_factor_each,
        same,
        long,
        length-append factors more_factors,
      );
      one_constant_each = omega (
        arith,
        flat.one_constant_each,
        length-append constants (constant ∷ []),
        length-append ends (end ∷ []),
      );
      within =
          All-append (λ e. e ≤ length (wires ++ more_wires)) ends (end ∷ [])
          (λ k d inside. omega (arith, flat.within k d inside, long))
          (at_end_alone (length (wires ++ more_wires)) end (omega (arith, at_end)));
      whole = start_last 0 ends end ∙ at_end;
    }

pub rows_pushed : (wires factors : List ℕ) (start : ℕ) (ends constants : List ℕ) (row : Form)
    (end : ℕ)
    → length factors ≡ length wires → length constants ≡ length ends → start ≤ length wires
    → All (λ e. e ≤ length wires) ends
    → start_from start ends (length ends) ≡ length wires → end ≡ length wires + length row.terms
    → rows_from (wires ++ map (λ term. term.wire) row.terms)
    (factors ++ map (λ term. term.factor) row.terms) start (ends ++ end ∷ [])
    (constants ++ row.constant ∷ [])
    ≡ rows_from wires factors start ends constants ++ row ∷ []
unfolding rows_from start_from
rows_pushed wires factors start [] [] row end same counts begin within whole at_end =
    rw (piece_behind start end wires (map (λ term. term.wire) row.terms) whole
    (omega (arith, at_end, length-map row.terms (λ (term : Term). term.wire))))
    (rw (piece_behind start end factors (map (λ term. term.factor) row.terms)
    (omega (arith, whole, same))
    (omega (arith, at_end, same, length-map row.terms (λ (term : Term). term.factor))))
    (rw (terms_again row.terms) refl))
rows_pushed wires factors start [] (c ∷ cs) row end same counts begin within whole at_end =
    absurd (omega (arith, counts))
rows_pushed wires factors start (e ∷ es) [] row end same counts begin within whole at_end =
    absurd (omega (arith, counts))
rows_pushed wires factors start (e ∷ es) (c ∷ cs) row end same counts begin within whole at_end =
    let e_within : e ≤ length wires = All-head (λ n. n ≤ length wires) e es within in
    let others = rows_pushed wires factors e es cs row end same (omega (arith, counts)) e_within
    (All-tail (λ n. n ≤ length wires) e es within) whole at_end in
    rw (piece_stays start e wires (map (λ term. term.wire) row.terms) begin e_within)
    (rw (piece_stays start e factors (map (λ term. term.factor) row.terms)
    (omega (arith, begin, same)) (omega (arith, e_within, same)))
    (ap (λ more. record { terms = terms_between wires factors start e; constant = c } ∷ more)
    others))

-- the same of a table to which the row's terms, its end and its constant were added in turn
pub row_pushed : (old mid : Flat) (row : Form) (terms : List Term) (end : ℕ)
    (ends constants : List ℕ) → AreFlat old → terms ≡ row.terms
    → mid.wires.items ≡ old.wires.items ++ map (λ term. term.wire) terms
    → mid.factors.items ≡ old.factors.items ++ map (λ term. term.factor) terms
    → mid.ends ≡ old.ends → mid.constants ≡ old.constants → end ≡ length mid.wires.items
    → ends ≡ mid.ends.items ++ end ∷ [] → constants ≡ mid.constants.items ++ row.constant ∷ []
    → IsFlat mid.wires.items mid.factors.items ends constants
    × (rows_from mid.wires.items mid.factors.items 0 ends constants ≡ flat_rows old ++ row ∷ [])
row_pushed old mid row terms end ends constants flat whole wires factors same_ends same_constants
    at_end ends_are constants_are =
    let wires_of = λ (terms : List Term). map (λ (term : Term). term.wire) terms in
    let factors_of = λ (terms : List Term). map (λ (term : Term). term.factor) terms in
    let counts = length-map row.terms (λ (term : Term). term.wire) in
    let added : mid.wires.items ≡ old.wires.items ++ wires_of row.terms =
    wires ∙ ap (λ ts. old.wires.items ++ wires_of ts) whole in
    let last : end ≡ length (old.wires.items ++ wires_of row.terms) = at_end ∙ ap length added in
    let long : end ≡ length old.wires.items + length row.terms =
    omega (arith, last, counts, length-append old.wires.items (wires_of row.terms)) in
    rw (ends_are, constants_are, added, factors, same_ends, same_constants, whole) (
      flat_pushed old.wires.items old.factors.items old.ends.items old.constants.items
          (wires_of row.terms) (factors_of row.terms) end row.constant flat
          (length-map row.terms (λ (term : Term). term.factor) ∙ sym counts) last,
      rows_pushed old.wires.items old.factors.items 0 old.ends.items old.constants.items row end
          flat.one_factor_each flat.one_constant_each
          (omega arith) flat.within flat.whole long,
    )

-- the terms between two places
between_length : (wires factors : List ℕ) (start end : ℕ) → length factors ≡ length wires
    → end ≤ length wires
    → length (terms_between wires factors start end) ≡ end - start
between_length wires factors start end same within =
    let long_wires = length-take-le (end - start) (drop start wires)
    (omega (arith, length-drop start wires, within)) in
    let long_factors = length-take-le (end - start) (drop start factors)
    (omega (arith, length-drop start factors, within, same)) in
    terms_length (take (end - start) (drop start wires)) (take (end - start) (drop start factors))
    (long_factors ∙ sym long_wires) ∙ long_wires

between_at : (wires factors : List ℕ) (start end at : ℕ) (d : Term) → length factors ≡ length wires
    → end ≤ length wires → start ≤ at → at < end
    → slice_index_or (terms_between wires factors start end) (at - start) d
    ≡ record { wire = slice_index wires at; factor = slice_index factors at }
between_at wires factors start end at d same within after before =
    let long_wires = length-take-le (end - start) (drop start wires)
    (omega (arith, length-drop start wires, within)) in
    let long_factors = length-take-le (end - start) (drop start factors)
    (omega (arith, length-drop start factors, within, same)) in
    let k = at - start in
    let is_at : start + k ≡ at = omega (arith, after) in
    let wire = get_or-take (end - start) (drop start wires) k 0 (omega (arith, after, before))
    ∙ get_or-drop start wires k 0 ∙ ap (slice_index wires) is_at in
    let factor = get_or-take (end - start) (drop start factors) k 0 (omega (arith, after, before))
    ∙ get_or-drop start factors k 0 ∙ ap (slice_index factors) is_at in
    terms_at (take (end - start) (drop start wires)) (take (end - start) (drop start factors)) k d
    (long_factors ∙ sym long_wires) (omega (arith, long_wires, after, before))
    ∙ cc (wire, factor)

-- the sum of no terms
none_is_0 : (terms : List Term) (values : List ℕ) → linear_part (take 0 terms) values ≡ 0
unfolding linear_part
none_is_0 [] values = refl
none_is_0 (term ∷ terms) values = refl

pub sum_none : (terms : List Term) (values : List ℕ) (count : ℕ) → count ≡ 0
    → linear_part (take count terms) values ≡ 0
sum_none terms values count none =
    subst (λ n. linear_part (take n terms) values ≡ 0) (sym none) (none_is_0 terms values)

-- the sum of a row with one term more
pub sum_more : (wires factors ends constants values : List ℕ) (row at : ℕ)
    → IsFlat wires factors ends constants → row < length ends
    → start_from 0 ends row ≤ at → at < slice_index ends row
    → linear_part (take (at + 1 - start_from 0 ends row)
    (slice_index_or (rows_from wires factors 0 ends constants) row no_row).terms) values
    ≡ sum (linear_part (take (at - start_from 0 ends row)
    (slice_index_or (rows_from wires factors 0 ends constants) row no_row).terms) values)
    (product (slice_index factors at) (slice_index values (slice_index wires at)))
sum_more wires factors ends constants values row at flat inside after before =
    let start = start_from 0 ends row in
    let end = slice_index ends row in
    let terms = terms_between wires factors start end in
    let within : end ≤ length wires = flat.within row 0 inside in
    let none : Term = record { wire = 0; factor = 0 } in
    let here = between_at wires factors start end at none flat.one_factor_each within after before
    in
    let more = linear_part_more terms values (at - start) none
    (omega (
      arith,
      between_length wires factors start end flat.one_factor_each within,
      after,
      before,
    )) in
    let next : at + 1 - start ≡ (at - start) + 1 = omega (arith, after) in
    rw (row_at wires factors 0 ends constants row flat.one_constant_each inside)
    (rw next (rw here at more))

-- the sum of a row with all of them
pub sum_whole : (wires factors ends constants values : List ℕ) (row at : ℕ)
    → IsFlat wires factors ends constants → row < length ends
    → slice_index ends row ≤ at
    → linear_part (take (at - start_from 0 ends row)
    (slice_index_or (rows_from wires factors 0 ends constants) row no_row).terms) values
    ≡ linear_part (slice_index_or (rows_from wires factors 0 ends constants) row no_row).terms
    values
sum_whole wires factors ends constants values row at flat inside past =
    let start = start_from 0 ends row in
    let end = slice_index ends row in
    let long = between_length wires factors start end flat.one_factor_each
    (flat.within row 0 inside) in
    rw (row_at wires factors 0 ends constants row flat.one_constant_each inside)
    (ap (λ terms. linear_part terms values)
    (take_all (at - start) (terms_between wires factors start end) (omega (arith, long, past))))

-- each term of a row names a value
pub named_below : (wires factors ends constants : List ℕ) (count row at : ℕ)
    → IsFlat wires factors ends constants → row < length ends
    → NamesBelow count (slice_index_or (rows_from wires factors 0 ends constants) row no_row).terms
    → start_from 0 ends row ≤ at → at < slice_index ends row → slice_index wires at < count
named_below wires factors ends constants count row at flat inside names after before =
    let start = start_from 0 ends row in
    let end = slice_index ends row in
    let within : end ≤ length wires = flat.within row 0 inside in
    let none : Term = record { wire = 0; factor = 0 } in
    let here = between_at wires factors start end at none flat.one_factor_each within after before
    in
    let named = rw (row_at wires factors 0 ends constants row flat.one_constant_each inside) at
    names in
    subst (λ (term : Term). term.wire < count) here
    (named (at - start) none (omega
    (arith, between_length wires factors start end flat.one_factor_each within, after, before)))
