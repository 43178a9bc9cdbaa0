use Rattle.std.proofs.Common.{refl, sym, ◌∙◌, Some, None}
use Rattle.std.specs.Prelude.{length}
use Rattle.vk_dice.specs.Stream.{words_ahead}
use Rattle.vk_job.specs.Sources.{source_seen}
use Rattle.vk_job.proofs.Dry.{lane_refusal}
use Rattle.vk_job.proofs.tapes.check_lane.Goals as goal

pub returns-in-Some : goal.returns-in-Some
returns-in-Some c =
    let source = source_seen c.args.source.now in
    lane_refusal source c.args.lane (length source.rows) (words_ahead c.words_of-words.result)
    (Some c.in-Some.wire) refl c.words_of-words.ensures (sym c.in-Some.is ∙ c.first_dry.ensures)

pub returns-in-None : goal.returns-in-None
returns-in-None c =
    let source = source_seen c.args.source.now in
    lane_refusal source c.args.lane (length source.rows) (words_ahead c.words_of-words.result) None refl
    c.words_of-words.ensures (sym c.in-None.is ∙ c.first_dry.ensures)
