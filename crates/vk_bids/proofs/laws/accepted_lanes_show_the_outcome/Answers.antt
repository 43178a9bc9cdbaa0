use Rattle.vk_verifier.specs.Verdicts.{statement_of}
use Rattle.vk_bids.specs.Bids.{opened_bids}
use Rattle.vk_board.specs.Reading.{seats_of}
use Rattle.vk_verifier.proofs.Plans.{statement_right}
use Rattle.vk_bids.proofs.Showing.{lanes_open, opens_shows}
use Rattle.vk_bids.proofs.laws.accepted_lanes_show_the_outcome.Goals as goal

pub returns : goal.returns
returns c front is number lines zero one both =
    let opens = lanes_open (statement_of front) (statement_right front is) number lines zero one
    both in (
      λ none. opens_shows front number (opened_bids (seats_of front.seals) zero one) is
          (opens.0 none),
      opens.1,
    )
