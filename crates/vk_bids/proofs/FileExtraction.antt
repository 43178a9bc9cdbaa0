-- What is opened of a file is opened of what is known of it.
use Rattle.std.proofs.Common.{◌≡◌, Option, Some, None, IfSome, IsSomeAnd, Result, Ok, ap, ◌∙◌}
use Rattle.vk_judge.specs.declared.opened.Opened.{Opened}
use Rattle.vk_judge.specs.declared.opened.Refusal.{Refusal}
use Rattle.vk_judge.specs.Opened.{FileBase, opened_in}
use Rattle.vk_bids.specs.declared.extraction.Extraction.TheVariants.{Refused, Same, Clash, Bids}
use Rattle.vk_bids.specs.Extractions.{OfBids}
use Rattle.vk_bids.specs.FileExtraction.{FileExtraction, OpensBase, OpensFile, OpensValuesOf}

-- of the file that is known
pub opens_base : {H R : Type 0} (base : Option (FileBase H)) (file : Opened H)
    (found : FileExtraction H R)
    → IsSomeAnd base (λ known. opened_in known ≡ file)
    → OfBids (OpensValuesOf (λ other. file ≡ other)) found → OpensBase base found
opens_base base file (Refused second refusal) known opens = tt
opens_base base file Same known opens = tt
opens_base base file (Clash two) known opens = tt
opens_base None file (Bids found) known opens = absurd known
opens_base (Some base) file (Bids found) known opens =
    record { such = known ∙ opens.such; statement = opens.statement; lanes = opens.lanes }

-- of the file that was opened
pub opens_file : {H R : Type 0} (opened : Result (Opened H) (Refusal R))
    (base : Option (FileBase H)) (found : FileExtraction H R)
    → IfSome base (λ known. opened ≡ Ok (opened_in known)) → OpensBase base found
    → OpensFile opened found
opens_file opened base (Refused second refusal) known opens = tt
opens_file opened base Same known opens = tt
opens_file opened base (Clash two) known opens = tt
opens_file opened None (Bids file) known opens = absurd opens.such
opens_file opened (Some base) (Bids file) known opens = record {
  such = known ∙ ap (λ o. Ok o) opens.such;
  statement = opens.statement;
  lanes = opens.lanes;
}
