use Rattle.std.proofs.Common.{◌≡◌, ◌<◌, length, None, Some, sym, ◌∙◌, arith}
use Rattle.std.proofs.lemmas.List.{get_or_default}
use Rattle.vk_matching.specs.Courting.{held_by}
use Rattle.vk_matching.proofs.courting.Courtship.matching.Goals as goal

pub index_mut-requires : goal.index_mut-requires
index_mut-requires c =
    let holders = c.args.self.now.holders.items in
    let woman = c.loop-woman.woman in
    let inside : woman < length holders =
    omega (arith, c.requires.one_holder_each, c.loop-woman-test.true) in
    let held : held_by holders woman ≡ Some c.in-Some.man =
    get_or_default holders woman None c.index.result.now inside ∙ sym c.index.ensures ∙ c.in-Some.is
    in
    let is_man = c.requires.are_held.have_entered c.in-Some.man woman c.loop-woman-test.true held in
    omega (arith, c.loop-woman.invariant.one_each)
