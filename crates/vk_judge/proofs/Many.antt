-- So many parts of a file one after another: the first of them, and those that were read before.
use Rattle.std.proofs.Common.{◌≡◌, ℕ, zero, suc, ◌<◌, List, [], ◌∷◌, ◌++◌, length, Result, Ok, Err, refl, sym, ap, ◌∙◌, append_assoc, append-nil, arith}
use Rattle.std.specs.Prelude.{slice_index_or}
use Rattle.std.proofs.lemmas.List.{get_or_at}
use Rattle.vk_residue.specs.Steps.{◌>>=◌}
use Rattle.vk_lines.specs.Lines.{Rest, end_at}
use Rattle.vk_lines.specs.Forms.{many_onto}
use Rattle.vk_lines.proofs.Parts.{bind_ok, ok_same}

module _ {X : Type 0} (read : List X → Rest → Result (X × Rest) ℕ) where
  -- after the first part
  pub many_step : (before : List X) (count : ℕ) (rest : Rest) (x : X) (next : Rest)
      → read before rest ≡ Ok (x, next)
      → many_onto before (suc count) read rest ≡ many_onto (before ++ x ∷ []) count read next
  unfolding many_onto
  many_step before count rest x next first =
      ap (λ r. r >>= λ p. many_onto (before ++ p.0 ∷ []) count read p.1) first

  pub many_first : (before : List X) (count : ℕ) (rest : Rest) (ys : List X) (after : Rest)
      → many_onto before (suc count) read rest ≡ Ok (ys, after)
      → (x : X) × (next : Rest) × (read before rest ≡ Ok (x, next))
      × (many_onto (before ++ x ∷ []) count read next ≡ Ok (ys, after))
  unfolding many_onto
  many_first before count rest ys after some =
      let first = bind_ok (read before rest) (λ p. many_onto (before ++ p.0 ∷ []) count read p.1)
      (ys, after) some in
      (first.0.0, first.0.1, first.1, first.2)

  pub many_last : (before : List X) (rest : Rest) (ys : List X) (after : Rest)
      → many_onto before zero read rest ≡ Ok (ys, after) → rest ≡ after
  unfolding many_onto
  many_last before rest ys after some = ap (λ p. p.1) (ok_same (before, rest) (ys, after) some)

  -- what was read before stays in front
  many_begins : (before : List X) (count : ℕ) (rest : Rest) (ys : List X) (after : Rest)
      → many_onto before count read rest ≡ Ok (ys, after) → (more : List X) × (ys ≡ before ++ more)
  unfolding many_onto
  many_begins before zero rest ys after some =
      ([], sym (ap (λ p. p.0) (ok_same (before, rest) (ys, after) some)) ∙ sym (append-nil before))
  many_begins before (suc count) rest ys after some =
      let first = bind_ok (read before rest) (λ p. many_onto (before ++ p.0 ∷ []) count read p.1)
      (ys, after) some in
      let next = many_begins (before ++ first.0.0 ∷ []) count first.0.1 ys after first.2 in
      (first.0.0 ∷ next.0, next.1 ∙ append_assoc before (first.0.0 ∷ []) next.0)

  pub many_keeps : (before : List X) (x : X) (count : ℕ) (rest : Rest) (ys : List X) (after : Rest)
      (default : X) → many_onto (before ++ x ∷ []) count read rest ≡ Ok (ys, after)
      → slice_index_or ys (length before) default ≡ x
  many_keeps before x count rest ys after default some =
      let begins = many_begins (before ++ x ∷ []) count rest ys after some in
      ap (λ zs. slice_index_or zs (length before) default)
      (begins.1 ∙ append_assoc before (x ∷ []) begins.0)
      ∙ get_or_at before x begins.0 default (length before) refl

  -- reading stops in a part
  many_stop : (before : List X) (count total : ℕ) (rest : Rest) (ys : List X) (after : Rest)
      (line : ℕ) → count < total → many_onto before count read rest ≡ Ok (ys, after)
      → read ys after ≡ Err line
      → many_onto before total read rest ≡ Err line
  unfolding many_onto
  many_stop before count zero rest ys after line within some stop = absurd (omega (arith, within))
  many_stop before zero (suc total) rest ys after line within some stop =
      let same = ok_same (before, rest) (ys, after) some in
      ap (λ p. read p.0 p.1 >>= λ q. many_onto (p.0 ++ q.0 ∷ []) total read q.1) same
      ∙ ap (λ r. r >>= λ q. many_onto (ys ++ q.0 ∷ []) total read q.1) stop
  many_stop before (suc count) (suc total) rest ys after line within some stop =
      let first = bind_ok (read before rest) (λ p. many_onto (before ++ p.0 ∷ []) count read p.1)
      (ys, after) some in
      ap (λ r. r >>= λ p. many_onto (before ++ p.0 ∷ []) total read p.1) first.1
      ∙ many_stop (before ++ first.0.0 ∷ []) count total first.0.1 ys after line
      (omega (arith, within)) first.2 stop

  -- so many parts, and then the end of the file
  abbrev pub parts_and_end : ℕ → Rest → Result (List X × Rest) ℕ
  parts_and_end count rest = many_onto [] count read rest >>= λ xs. end_at xs.1 >>= λ over.
      Ok (xs.0, over.1)

  pub stop_in : (count total : ℕ) (rest : Rest) (xs : List X) (after : Rest) (line : ℕ)
      → count < total → many_onto [] count read rest ≡ Ok (xs, after) → read xs after ≡ Err line
      → parts_and_end total rest ≡ Err line
  stop_in count total rest xs after line within some stop =
      ap (λ r. r >>= λ p. end_at p.1 >>= λ over. Ok (p.0, over.1))
      (many_stop [] count total rest xs after line within some stop)

  pub stop_after : (count : ℕ) (rest : Rest) (xs : List X) (after : Rest) (line : ℕ)
      → many_onto [] count read rest ≡ Ok (xs, after) → end_at after ≡ Err line
      → parts_and_end count rest ≡ Err line
  stop_after count rest xs after line all stop =
      ap (λ r. r >>= λ p. end_at p.1 >>= λ over. Ok (p.0, over.1)) all
      ∙ ap (λ r. r >>= λ over. Ok (xs, over.1)) stop
