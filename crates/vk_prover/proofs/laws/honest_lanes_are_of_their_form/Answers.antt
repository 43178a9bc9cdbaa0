use Rattle.vk_prover.proofs.Forms.{lines_are, shown_are}
use Rattle.vk_prover.proofs.laws.honest_lanes_are_of_their_form.Goals as goal

pub returns-clause-lines : goal.returns-clause-lines
returns-clause-lines c plan values is_plan holds auction lane tape is =
    lines_are plan auction lane values tape holds is

pub returns-clause-shown : goal.returns-clause-shown
returns-clause-shown c plan values is_plan holds tape bit is =
    shown_are plan values tape bit holds is
