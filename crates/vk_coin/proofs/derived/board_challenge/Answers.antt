use Rattle.vk_coin.proofs.Deriving.{challenge_is, derived_found, of_one_text}
use Rattle.vk_coin.proofs.derived.board_challenge.Goals as goal

pub returns-clause-modelled : goal.returns-clause-modelled
returns-clause-modelled g c =
    derived_found c.in_ok-front.ensures.hashed c.in_ok-front.ensures.modelled
    (challenge_is c.in_ok-front.ensures.hashed c.as_slice.ensures c.new_with_prefix-hasher.ensures
    c.finalize-digest.ensures c.in-Ok.ensures.bits)

pub returns-clause-one : goal.returns-clause-one
returns-clause-one g c =
    of_one_text c.in_ok-front.ensures.hashed c.in_ok-front.ensures.right
    (challenge_is c.in_ok-front.ensures.hashed c.as_slice.ensures c.new_with_prefix-hasher.ensures
    c.finalize-digest.ensures c.in-Ok.ensures.bits)
