use Rattle.std.proofs.Common.{◌≡◌, ◌%◌, arith}
use Rattle.vk_digests.proofs.Lanes.{lane_at, lane_set}
use Rattle.vk_digests.proofs.rounds.next_word.Goals as goal

pub returns-clause-value : goal.returns-clause-value
returns-clause-value c = λ j lt.
    let at : c.args.place % 16 ≡ c.args.place = omega arith in
    simp (
      lane_at,
      at,
      c.add-word.ensures j lt,
      c.add.ensures j lt,
      c.small_sigma0.ensures j lt,
      c.add-recent.ensures j lt,
      c.small_sigma1.ensures j lt,
    )

pub returns-clause-window : goal.returns-clause-window
returns-clause-window c = λ j lt. lane_set j c.args.place c.args.w.now c.add-word.result
