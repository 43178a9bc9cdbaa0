use Rattle.std.proofs.Common.{rules, ◌≡◌, ◌∙◌, IsErr, IsSome, ap, codes}
use Rattle.std.specs.FinMap.{get}
use Rattle.vk_io.specs.Files.{bytes_of}
use Rattle.vk_io.proofs.Finite.{get_own}
use Rattle.vk_lines.specs.Lines.{StartsIn}
use Rattle.vk_rows.proofs.Readable.{unstarted}
use Rattle.vk_rows.proofs.stored.lines_of.Goals as goal

pub returns-clause-rest : goal.returns-clause-rest
returns-clause-rest c =
    let before = c.put_file.new.self.files in
    let after = c.start.new.shelf.files in
    let same : after ≡ before = search rules in
    let held : bytes_of before (codes "stored") ≡ c.args.text.now = search (rules, get_own) in
    let starts : StartsIn before (codes "stored") c.in_ok-lines.lines = search rules in
    rw same (starts.rest ∙ ap (λ bytes. record { taken = 0; left = bytes }) held)

pub returns-in_err-lines-clause-exact : goal.returns-in_err-lines-clause-exact
returns-in_err-lines-clause-exact c failed =
    let files = c.put_file.new.self.files in
    let held : bytes_of files (codes "stored") ≡ c.args.text.now = search (rules, get_own) in
    let there : IsSome (get files (codes "stored")) = search (rules, get_own) in
    let refused : IsErr c.start.result = search rules in
    unstarted files (codes "stored") c.args.text.now held there c.start.result
    c.from_residual-in_err-lines.result refused (λ refusal is. search (rules, is))
    c.start.ensures.modelled c.start.ensures.shelf.causes failed
