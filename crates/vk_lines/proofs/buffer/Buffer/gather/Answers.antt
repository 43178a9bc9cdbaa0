use Rattle.std.proofs.Common.{arith, ap, ◌∙◌, ◌-◌, take, drop}
use Rattle.vk_lines.proofs.Slices.{part_moved}
use Rattle.vk_lines.proofs.buffer.Buffer.gather.Goals as goal

pub returns-clause-ahead : goal.returns-clause-ahead
returns-clause-ahead c =
    let f = c.self.inside in
    ap (λ bytes. take (f.end - f.first - (f.next - f.first)) (drop (f.next - f.first) bytes))
    c.copy_within.ensures.after
    ∙ part_moved f.bytes f.first f.next f.end f.end (omega arith) (omega arith) (omega arith)
    (omega arith) ∙ ap (λ v. v.ahead) c.self.view_is
