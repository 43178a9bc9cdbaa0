use Rattle.std.proofs.Common.{◌≡◌, ◌+◌, ◌==◌, rules, sym, ◌∙◌}
use Rattle.std.specs.List.{count_by}
use Rattle.std.proofs.lemmas.List.Splits.{length-slice_split}
use Rattle.vk_lines.proofs.cutting.fields.Goals as goal

pub returns-clause-fields : goal.returns-clause-fields
returns-clause-fields c =
    let spaces : c.count-spaces.result + 1 ≡ count_by (λ byte. byte == 32) c.args.text.now + 1 =
    search rules in
    spaces ∙ sym (length-slice_split (λ byte. byte == 32) c.args.text.now)
