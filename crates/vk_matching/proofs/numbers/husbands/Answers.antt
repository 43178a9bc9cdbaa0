use Rattle.std.proofs.Common.{◌≡◌, length, subst, arith}
use Rattle.vk_matching.proofs.Husbands.{AreEntered, entered_are}
use Rattle.vk_matching.proofs.numbers.husbands.Goals as goal

pub returns-clause-husbands : goal.returns-clause-husbands
returns-clause-husbands c =
    let wives = c.args.wives.now in
    let all : c.loop-place.place ≡ length wives = omega arith in
    entered_are wives c.loop-place.husbands.items
    (subst (AreEntered wives c.loop-place.husbands.items) all c.loop-place.invariant)
