use Rattle.std.proofs.Common.{ℕ, List, IfSome, rules, subst}
use Rattle.vk_lines.specs.Forms.{many_at}
use Rattle.vk_lines.specs.Lines.{GivesReading, rest_of}
use Rattle.vk_wire.specs.declared.wire.Shown.{Shown}
use Rattle.vk_reply.specs.Reading.{wire_at}
use Rattle.vk_reply.proofs.Wires.{answer_shown}
use Rattle.vk_reply.proofs.reading.read_wires.Goals as goal

pub returns : goal.returns
returns g c =
    let P : ℕ → Type 0 = λ count. IfSome (g.S.Shelf.held c.args.shelf.now)
    (λ files. GivesReading (λ (x : List Shown). x) c.read_many-shown.result
    (rest_of c.read_many-shown.new.lines files)
    (many_at count (wire_at c.args.plan.now.kinds c.args.bit) (rest_of c.args.lines.now files))) in
    record {
      reads = record {
        modelled = subst P c.wires.ensures.value c.read_many-shown.ensures.reads.modelled;
        file = search rules;
        shelf = search rules;
        right = answer_shown c.args.plan.now.kinds c.args.bit c.wires.result
            c.read_many-shown.result c.wires.ensures.value c.read_many-shown.ensures.number
            c.read_many-shown.ensures.each;
      };
    }
