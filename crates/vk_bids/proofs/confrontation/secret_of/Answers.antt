use Rattle.std.proofs.Common.{◌≡◌, Option, Some, None, Result, Ok, Err}
use Rattle.std.specs.Prelude.{IfOk, IfSome}
use Rattle.vk_io.specs.Files.{Files}
use Rattle.vk_lines.specs.Lines.{GivesReading, rest_of}
use Rattle.vk_seal.specs.Reading.{secret_at}
use Rattle.vk_bids.specs.Confrontation.{secret_in}
use Rattle.vk_bids.proofs.confrontation.secret_of.Goals as goal

-- of modelled files
if_told : {X E : Type 0} (P : Files → Type 0) (Q : Files → X → Type 0) (held : Option Files)
    (result : Result X E)
    → ((files : Files) → P files → IfOk result (Q files)) → IfSome held P
    → IfOk result (λ x. IfSome held (λ files. Q files x))
if_told P Q None (Ok x) each is = tt
if_told P Q None (Err e) each is = tt
if_told P Q (Some files) result each is = each files is

pub returns-clause-modelled : goal.returns-clause-modelled
returns-clause-modelled g c =
    if_told (λ files. GivesReading (λ x. x) c.read_secret-read.result
    (rest_of c.read_secret-read.new.lines files) (secret_at (rest_of c.args.lines.now files)))
    (λ files secret. secret_in (secret_at (rest_of c.args.lines.now files)) ≡ secret)
    (g.S.Shelf.held c.args.shelf.now) c.secret_or_fault-secret.result
    (λ files. c.secret_or_fault-secret.ensures.modelled (rest_of c.read_secret-read.new.lines files)
    (secret_at (rest_of c.args.lines.now files))) c.read_secret-read.ensures.reads.modelled
