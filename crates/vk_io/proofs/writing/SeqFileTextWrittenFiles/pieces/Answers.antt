use Rattle.std.proofs.Common.{◌≡◌, ℕ, zero, suc, ◌<◌, List, [], ◌∷◌, length, slice_index_or, refl, sym, arith}
use Rattle.vk_io.specs.declared.writing.FileText.{FileText}
use Rattle.vk_io.specs.Writing.{no_file, whole_files}
use Rattle.vk_io.proofs.writing.SeqFileTextWrittenFiles.pieces.Goals as goal

-- a text that is given whole is one piece
one_piece : (files : List FileText) (i : ℕ) → i < length (whole_files files)
    → length (slice_index_or (whole_files files) i no_file).pieces ≡ 1
one_piece [] i within = absurd (omega arith)
one_piece (file ∷ files) zero within = refl
one_piece (file ∷ files) (suc i) within = one_piece files i (omega arith)

pub returns : goal.returns
returns c = sym (one_piece c.args.self.now c.args.file c.requires)
