use Rattle.std.proofs.Common.{Result, Ok, Err, arith, ap, ◌∙◌, take, drop, ◌++◌}
use Rattle.std.specs.Result.{OnErr}
use Rattle.vk_lines.proofs.Slices.{part_kept, part_grown}
use Rattle.vk_lines.proofs.Feeds.{more_told}
use Rattle.vk_lines.proofs.buffer.Buffer.read_piece.Goals as goal

either_way : {T E : Type 0} (result : Result T E) {P : Type 0} → P → OnErr result P
either_way (Ok value) p = tt
either_way (Err refusal) p = p

pub returns-in_err-count-clause-refused : goal.returns-in_err-count-clause-refused
returns-in_err-count-clause-refused g c =
    let f = c.self.inside in
    either_way c.from_residual.result
    (part_kept f.bytes c.read_behind.new.bytes f.next f.end f.end c.read_behind.ensures.front
    (omega arith) (omega arith) ∙ ap (λ v. v.ahead) c.self.view_is)

pub returns-clause-modelled : goal.returns-clause-modelled
returns-clause-modelled g c =
    let f = c.self.inside in
    let grown = part_grown f.bytes c.read_behind.new.bytes f.next f.end c.in_ok-count.count
    c.read_behind.ensures.front (omega arith) in
    more_told (g.S.Shelf.held c.args.shelf.now) _ c.args.self.now.ahead
    (take c.in_ok-count.count (drop f.end c.read_behind.new.bytes)) _ c.args.at c.args.room
    (grown ∙ ap (λ v. v.ahead ++ take c.in_ok-count.count (drop f.end c.read_behind.new.bytes))
    c.self.view_is) c.in_ok-count.ensures.modelled

pub returns-clause-text : goal.returns-clause-text
returns-clause-text g c =
    let f = c.self.inside in
    part_kept f.bytes c.read_behind.new.bytes f.first f.feed f.end c.read_behind.ensures.front
    (omega arith) (omega arith) ∙ ap (λ v. v.text) c.self.view_is
