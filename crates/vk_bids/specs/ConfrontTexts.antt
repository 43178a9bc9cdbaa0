-- What is printed of a confrontation.
use Rattle.std.specs.Prelude.{ℕ, List, [], ◌∷◌, codes, decimal}
use Rattle.vk_lines.specs.Forms.{line, spaced}
use Rattle.vk_seal.specs.declared.matching.Mismatch.{Mismatch}
use Rattle.vk_seal.specs.Mismatches.{mismatch_fields}
use Rattle.vk_bids.specs.declared.confrontation.Confrontation.{Confrontation}
use Rattle.vk_bids.specs.declared.confrontation.Confrontation.TheVariants as comes
use Rattle.vk_bids.specs.Texts.{clash_text}

abbrev pub no_seal_line : ℕ → List ℕ
no_seal_line seat = line (spaced (codes "confront no seal" ∷ decimal seat ∷ []))

abbrev pub mismatch_line : Mismatch → List ℕ
mismatch_line mismatch = line (spaced (codes "confront mismatch" ∷ mismatch_fields mismatch ∷ []))

abbrev pub held_line : ℕ → List ℕ
held_line seat = line (spaced (codes "held seat" ∷ decimal seat ∷ []))

-- of a confrontation for which both replies are accepted, the challenges differ and the file is a
-- secret; and of a clash
abbrev pub confrontation_text : Confrontation → List ℕ
confrontation_text (comes.Refused second verdict) = []
confrontation_text comes.Same = []
confrontation_text (comes.Malformed number) = []
confrontation_text (comes.NoSeal seat) = no_seal_line seat
confrontation_text (comes.Mismatch mismatch) = mismatch_line mismatch
confrontation_text (comes.Clash two) = clash_text two
confrontation_text (comes.Held seat) = held_line seat
