use Rattle.std.proofs.Common.{◌∙◌, subst}
use Rattle.vk_coin.specs.Derived.{Hashes}
use Rattle.vk_coin.proofs.Deriving.{board_hashed}
use Rattle.vk_coin.proofs.derived.hash_board.Goals as goal

pub returns-clause-hashed : goal.returns-clause-hashed
returns-clause-hashed g c =
    board_hashed (g.S.Shelf.held c.args.shelf.now) (g.S.Shelf.held c.start.new.shelf)
    (g.S.Shelf.held c.read_front.new.shelf) (g.S.Shelf.held c.hash_lanes.new.shelf)
    c.args.board.now c.in_ok-front.front c.in_ok-lines.lines c.read_front.new.lines
    c.hash_lanes.new.lines c.read_end.new.self c.args.hasher.now c.update.new.self
    c.hash_lanes.new.hasher c.update-2.new.self c.hash_lanes.result c.read_end.result
    c.in_ok-front.ensures.right c.in_ok-lines.ensures.shelf.held
    (c.in_ok-front.ensures.shelf.held ∙ c.in_ok-lines.ensures.shelf.held)
    (c.hash_lanes.ensures.reads.shelf.held ∙ c.in_ok-front.ensures.shelf.held
    ∙ c.in_ok-lines.ensures.shelf.held)
    c.in_ok-lines.ensures.modelled c.in_ok-front.ensures.modelled
    c.in_ok-map_err.ensures.variant c.hash_lanes.ensures.hashed
    c.in_ok-map_err-2.ensures.variant c.read_end.ensures.reads.modelled
    (subst (λ text. Hashes text c.args.hasher.now c.update.new.self)
    (c.as_slice.ensures.value ∙ c.in-Ok.ensures) c.update.ensures)
    (subst (λ text. Hashes text c.hash_lanes.new.hasher c.update-2.new.self)
    c.as_slice-2.ensures c.update-2.ensures)
