use Rattle.vk_commit.specs.Commitment.{message}
use Rattle.vk_commit.proofs.Digests.{digest_is_bytes}
use Rattle.vk_wire.specs.Made.{first_opening, second_opening}
use Rattle.vk_wire.specs.Places.{next_place}
use Rattle.vk_wire.proofs.laws.made_wires_have_digests.Goals as goal

pub returns : goal.returns
returns c kind place value tape = (
  digest_is_bytes (message place (first_opening kind value tape)),
  digest_is_bytes (message (next_place place) (second_opening kind value tape)),
)
