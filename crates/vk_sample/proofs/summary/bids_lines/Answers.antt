use Rattle.vk_sample.proofs.summary.bids_lines.Goals as goal

pub returns : goal.returns
returns c = rw (c.same_count-same.ensures, c.len.ensures, c.as_slice-lanes.ensures) at
    c.in_ok-text.ensures
