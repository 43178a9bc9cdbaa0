use Rattle.vk_claims.proofs.summary.values_lines.Goals as goal

pub returns : goal.returns
returns c = rw (c.same_count-same.ensures, c.as_slice-lanes.ensures) at c.in_ok-text.ensures
