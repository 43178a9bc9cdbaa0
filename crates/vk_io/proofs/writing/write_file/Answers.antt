use Rattle.std.proofs.Common.{◌≡◌, ℕ, ◌+◌, ◌<◌, List, [], ◌++◌, length, Option, take, drop, get_or, Ok, Err, sym, subst, ◌∙◌, arith, slice_index_or}
use Rattle.std.specs.List.{concat}
use Rattle.std.proofs.lemmas.Result.{err_from_is_err_and}
use Rattle.vk_io.specs.declared.errors.OutsideErr.{OutsideErr}
use Rattle.vk_io.specs.Files.{Files, Modelled, Appends}
use Rattle.vk_io.specs.Writing.{WrittenFile, Writes, no_file, text_of}
use Rattle.vk_io.proofs.WritingLemmas.{told_chain, told_weaker, piece_added, part_refused, part_unbegun, concat_more, concat_at}
use Rattle.vk_io.proofs.writing.write_file.Goals as goal

-- the file of that number
abbrev its : List WrittenFile → ℕ → WrittenFile
its files file = slice_index_or files file no_file

-- the pieces so far and no more of the next
stopped : (name : List ℕ) (pieces : List (List ℕ)) (i : ℕ) (e : OutsideErr) (old now : Option Files)
    → i < length pieces
    → Modelled (Writes {E = OutsideErr} name (concat (take i pieces)) (Ok tt)) old now
    → Modelled (Writes {E = OutsideErr} name (concat pieces) (Err e)) old now
stopped name pieces i e old now within begun =
    subst (λ text. Modelled (Writes {E = OutsideErr} name text (Err e)) old now)
    (sym (concat_at pieces i within))
    (told_weaker (Writes {E = OutsideErr} name (concat (take i pieces)) (Ok tt))
    (Writes {E = OutsideErr} name
    (concat (take i pieces) ++ (get_or pieces i [] ++ concat (drop (i + 1) pieces))) (Err e))
    (part_unbegun OutsideErr name (concat (take i pieces)) (get_or pieces i [])
    (concat (drop (i + 1) pieces)) e) old now begun)

-- the pieces so far and a part of the next
divided : (name called : List ℕ) (pieces : List (List ℕ)) (i : ℕ) (piece : List ℕ) (e : OutsideErr)
    (old now new : Option Files) → i < length pieces → called ≡ name → piece ≡ get_or pieces i []
    → Modelled (Writes {E = OutsideErr} name (concat (take i pieces)) (Ok tt)) old now
    → Modelled (Appends {E = OutsideErr} called piece (Err e)) now new
    → Modelled (Writes {E = OutsideErr} name (concat pieces) (Err e)) old new
divided name called pieces i piece e old now new within named is begun grown =
    subst (λ text. Modelled (Writes {E = OutsideErr} name text (Err e)) old new)
    (sym (concat_at pieces i within))
    (told_chain (Writes {E = OutsideErr} name (concat (take i pieces)) (Ok tt))
    (Appends {E = OutsideErr} name (get_or pieces i []) (Err e))
    (Writes {E = OutsideErr} name
    (concat (take i pieces) ++ (get_or pieces i [] ++ concat (drop (i + 1) pieces))) (Err e))
    (part_refused OutsideErr name (concat (take i pieces)) (get_or pieces i [])
    (concat (drop (i + 1) pieces)) e) old now new begun
    (subst (λ p. Modelled (Appends {E = OutsideErr} name p (Err e)) now new) is
    (subst (λ n. Modelled (Appends {E = OutsideErr} n piece (Err e)) now new) named grown)))

-- the pieces so far and the next
grown : (name called : List ℕ) (pieces : List (List ℕ)) (i : ℕ) (piece : List ℕ) (done : Unit)
    (old now new : Option Files) → i < length pieces → called ≡ name → piece ≡ get_or pieces i []
    → Modelled (Writes {E = OutsideErr} name (concat (take i pieces)) (Ok tt)) old now
    → Modelled (Appends {E = OutsideErr} called piece (Ok done)) now new
    → Modelled (Writes {E = OutsideErr} name (concat (take (i + 1) pieces)) (Ok tt)) old new
grown name called pieces i piece done old now new within named is begun added =
    subst (λ text. Modelled (Writes {E = OutsideErr} name text (Ok tt)) old new)
    (sym (concat_more pieces i within))
    (told_chain (Writes {E = OutsideErr} name (concat (take i pieces)) (Ok tt))
    (Appends {E = OutsideErr} name (get_or pieces i []) (Ok done))
    (Writes {E = OutsideErr} name (concat (take i pieces) ++ get_or pieces i []) (Ok tt))
    (piece_added OutsideErr name (concat (take i pieces)) (get_or pieces i []) done) old now new
    begun
    (subst (λ p. Modelled (Appends {E = OutsideErr} name p (Ok done)) now new) is
    (subst (λ n. Modelled (Appends {E = OutsideErr} n piece (Ok done)) now new) named added)))

pub returns-in_err-piece-clause-written : goal.returns-in_err-piece-clause-written
returns-in_err-piece-clause-written g c =
    let p = err_from_is_err_and c.from_residual-in_err-piece.result
    c.from_residual-in_err-piece.ensures.1 in
    let file = its (g.F.WrittenFiles.files c.args.files.now) c.args.file in
    rw p.1 (stopped file.name file.pieces c.loop-index.index p.0 _ _ (omega arith)
    c.loop-index.invariant.begun)

pub returns-in_err-append-clause-written : goal.returns-in_err-append-clause-written
returns-in_err-append-clause-written g c =
    let p = err_from_is_err_and c.from_residual-in_err-append.result
    c.from_residual-in_err-append.ensures.1 in
    let file = its (g.F.WrittenFiles.files c.args.files.now) c.args.file in
    let old = g.S.Shelf.held c.args.shelf.now in
    let now = g.S.Shelf.held c.loop-index.shelf in
    let new = g.S.Shelf.held c.append.new.self in
    subst (λ r. Modelled (Writes file.name (text_of file) r) old new) (sym p.1)
    (divided file.name _ file.pieces c.loop-index.index c.as_slice.result.now p.0 old now new
    (omega arith) c.name-in-loop-index.ensures
    (c.as_slice.ensures.value ∙ c.in_ok-piece.ensures) c.loop-index.invariant.begun
    c.in_err-append.ensures.appended)

pub loop-index-preserved : goal.loop-index-preserved
loop-index-preserved g c =
    let file = its (g.F.WrittenFiles.files c.args.files.now) c.args.file in
    let old = g.S.Shelf.held c.args.shelf.now in
    let now = g.S.Shelf.held c.loop-index.shelf in
    let new = g.S.Shelf.held c.append.new.self in
    record {
      begun = grown file.name _ file.pieces c.loop-index.index c.as_slice.result.now
          c.in_ok-append.field-0 old now new (omega arith) c.name-in-loop-index.ensures
          (c.as_slice.ensures.value ∙ c.in_ok-piece.ensures) c.loop-index.invariant.begun
          c.in_ok-append.ensures.appended;
      kept = c.in_ok-append.ensures.causes ∙ c.loop-index.invariant.kept;
      wants = c.in_ok-append.ensures.wants ∙ c.loop-index.invariant.wants;
    }
