use Rattle.vk_sample_parts.proofs.summary.push_accepted.Goals as goal

pub returns : goal.returns
returns c = rw (c.in_ok-first.ensures.ok, c.in_ok-second.ensures.ok) at c.in_ok-push_two.ensures
