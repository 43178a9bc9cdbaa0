use Rattle.std.proofs.Common.{◌≡◌, ◌+◌, ◌-◌, arith, ap, ◌∙◌, take, drop}
use Rattle.vk_lines.proofs.Feeds.{rest_after}
use Rattle.vk_lines.proofs.buffer.Buffer.take.Goals as goal

pub returns-clause-ahead : goal.returns-clause-ahead
returns-clause-ahead c =
    let f = c.self.inside in
    let place : f.next + c.args.feed + 1 ≡ f.next + (c.args.feed + 1) = omega arith in
    ap (λ p. take (f.end - p) (drop p f.bytes)) place
    ∙ rest_after (c.args.feed + 1) f.next f.end f.bytes
    ∙ ap (λ v. drop (c.args.feed + 1) v.ahead) c.self.view_is
