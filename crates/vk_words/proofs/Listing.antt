-- The usage line, put together name by name.
use Rattle.std.proofs.Common.{◌≡◌, ◌∙◌, ℕ, ◌+◌, ◌<◌, ◌≤◌, List, [], ◌∷◌, ◌++◌, length, map, drop, ap, arith, refl, sym}
use Rattle.std.proofs.Common.{append_assoc, append-nil, length-append, length-drop}
use Rattle.std.specs.Prelude.{codes, slice_index_or}
use Rattle.std.proofs.lemmas.List.{at_drop_all, at_drop_more, length-map}
use Rattle.vk_words.specs.declared.table.CommandRow.{CommandRow}
use Rattle.vk_words.specs.Table.{Row, commands, row_seen}
use Rattle.vk_words.specs.Usage.{usage_text}

-- the names of the rows, with that text before the first and `|` before each other
abbrev pub listed : List ℕ → List Row → List ℕ
listed before [] = []
listed before (row ∷ rows) = before ++ (row.name ++ listed (codes "|") rows)

-- the whole line but its end
unfoldable pub all_listed : List ℕ
all_listed = listed (codes "usage: vickrey ") commands

pub listed_first : listed (codes "usage: vickrey ") commands ≡ all_listed
unfolding all_listed
listed_first = refl

pub usage_text-listed : usage_text ≡ all_listed ++ 10 ∷ []
unfolding commands usage_text all_listed
usage_text-listed = refl

length-all_listed : length all_listed ≡ 171
unfolding commands all_listed
length-all_listed = refl

-- a part of the line fits
pub part_fits : (text rest : List ℕ) → text ++ rest ≡ all_listed → length text ≤ 171
part_fits text rest is = omega (arith, ap length is, length-append text rest, length-all_listed)

-- one row more
pub one_more :
    (text before : List ℕ) (rows : List CommandRow) (i : ℕ) (d : CommandRow)
    → i < length rows
    → text ++ listed before (map row_seen (drop i rows)) ≡ all_listed
    → ((text ++ before) ++ (slice_index_or rows i d).0.now)
    ++ listed (codes "|") (map row_seen (drop (i + 1) rows)) ≡ all_listed
one_more text before rows i d within is =
    let e = at_drop_more (λ left. listed before (map row_seen left)) rows i d within in
    let name = (slice_index_or rows i d).0.now in
    let rest = listed (codes "|") (map row_seen (drop (i + 1) rows)) in
    append_assoc (text ++ before) name rest ∙ append_assoc text before (name ++ rest)
    ∙ ap (λ t. text ++ t) (sym e) ∙ is

-- what stands before the first of the rows that are left fits
pub before_fits :
    (text before : List ℕ) (rows : List Row)
    → 0 < length rows
    → text ++ listed before rows ≡ all_listed
    → length text + length before ≤ 400
before_fits text before [] some is = absurd (omega arith)
before_fits text before (row ∷ rows) some is =
    omega (arith, simp length-append at (ap length is), length-all_listed)

pub some_left : (rows : List CommandRow) (i : ℕ) → i < length rows
    → 0 < length (map row_seen (drop i rows))
some_left rows i within = simp (length-map, length-drop) (omega arith)

-- and so does its name
pub name_fits :
    (text before written : List ℕ) (rows : List CommandRow) (i : ℕ) (d : CommandRow)
    → i < length rows
    → written ≡ text ++ before
    → text ++ listed before (map row_seen (drop i rows)) ≡ all_listed
    → length written + length (slice_index_or rows i d).0.now ≤ 400
name_fits text before written rows i d within so is =
    let name = (slice_index_or rows i d).0.now in
    let whole = part_fits ((text ++ before) ++ name) _ (one_more text before rows i d within is) in
    rw so (omega (arith, length-append (text ++ before) name, whole))

-- no row is left
pub all_there :
    (text before : List ℕ) (rows : List CommandRow) (i : ℕ)
    → length rows ≤ i
    → text ++ listed before (map row_seen (drop i rows)) ≡ all_listed
    → text ++ 10 ∷ [] ≡ usage_text
all_there text before rows i past is =
    let e = at_drop_all (λ left. listed before (map row_seen left)) rows i past in
    let whole : text ≡ all_listed = sym (append-nil text) ∙ ap (λ t. text ++ t) (sym e) ∙ is in
    ap (λ t. t ++ 10 ∷ []) whole ∙ sym usage_text-listed
