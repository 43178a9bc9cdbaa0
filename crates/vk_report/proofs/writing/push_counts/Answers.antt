use Rattle.std.proofs.Common.{[], ◌∷◌, ◌++◌, ◌∙◌, List, ℕ, ap, append_assoc, codes, decimal, flat_map, string_bytes}
use Rattle.vk_lines.specs.Forms.{line, spaced}
use Rattle.vk_report.specs.Reports.{count_lines}
use Rattle.vk_report.proofs.writing.push_counts.Goals as goal

pub returns : goal.returns
unfolding count_lines
returns c =
    let before = flat_map string_bytes c.args.lines.now.items in
    let wires = line (spaced (codes "wires" ∷ decimal c.args.wires ∷ [])) in
    let rows = line (spaced (codes "rows" ∷ decimal c.args.rows ∷ [])) in
    let commitments = line (spaced (codes "commitments" ∷ decimal c.args.commitments ∷ [])) in
    c.in_ok-push_number-3.ensures
    ∙ ap (λ (text : List ℕ). text ++ commitments)
    ((rw c.from-2.ensures at c.in_ok-push_number-2.ensures)
    ∙ ap (λ (text : List ℕ). text ++ rows) (rw c.from.ensures at c.in_ok-push_number.ensures))
    ∙ append_assoc (before ++ wires) rows commitments
    ∙ append_assoc before wires (rows ++ commitments)
