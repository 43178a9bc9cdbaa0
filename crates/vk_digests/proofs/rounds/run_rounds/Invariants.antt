use Rattle.std.proofs.Common.{ℕ, ◌*◌, ◌<◌, ◌≡◌, List}
use Rattle.sha2.specs.Sha256.{IsRoundsAt, first_words}
use Rattle.vk_digests.specs.Lanes.{lane}
use Rattle.vk_digests.proofs.rounds.run_rounds.Given as goal

abbrev pub invariant-schedule : goal.invariant-schedule
invariant-schedule g l =
    (j : ℕ) → j < 4 → (b : List ℕ) → lane j l.fn.words ≡ first_words b 16
    → IsRoundsAt b (lane j l.fn.hash) (lane j l.w) (lane j l.v) (16 * l.turn)
