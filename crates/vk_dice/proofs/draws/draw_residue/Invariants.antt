use Rattle.std.proofs.Common.{◌≡◌, ◌-◌}
use Rattle.vk_dice.specs.Words.{later}
use Rattle.vk_dice.specs.Draws.{residue_within, looked_at}
use Rattle.vk_dice.proofs.draws.draw_residue.Given as goal

-- what is drawn from the words that are left to try is what is drawn from all
abbrev pub invariant-loop-tried : goal.invariant-loop-tried
invariant-loop-tried g l =
    let start = g.W.Words.ahead l.fn.words in
    let now = g.W.Words.ahead l.words in
    record {
      drawn : residue_within 4 start ≡ residue_within (4 - l.tried) now;
      after : later (looked_at 4 start) start ≡ later (looked_at (4 - l.tried) now) now;
    }
