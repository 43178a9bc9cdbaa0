use Rattle.std.proofs.Common.{ℕ, List, ◌++◌, ◌∙◌, ap, append_assoc, flat_map, string_bytes}
use Rattle.vk_sample_parts.proofs.summary.push_two.Goals as goal

pub returns : goal.returns
returns c =
    c.in_ok-push-2.ensures ∙ ap (λ (text : List ℕ). text ++ string_bytes c.args.second)
    c.in_ok-push.ensures
    ∙ append_assoc (flat_map string_bytes c.args.lines.now.items) (string_bytes c.args.first)
    (string_bytes c.args.second)
