use Rattle.std.proofs.Common.{sym, subst}
use Rattle.vk_range.specs.Ranges.{AreRanges}
use Rattle.vk_range.specs.RangesLaws.{ranges_over}
use Rattle.vk_form_tests.specs.Sums.{input_ranges}
use Rattle.vk_form_tests.specs.SumLaws.{ranges_fit, widths_of}
use Rattle.vk_form_tests.proofs.circuit.SumPlanCircuit.fill.Goals as goal

pub fill-requires-clause-fits : goal.fill-requires-clause-fits
fill-requires-clause-fits c =
    rw (c.in_ok-ranges.ensures, c.in_ok-values.ensures.items)
    (ranges_over input_ranges c.args.inputs.now
    (subst (AreRanges input_ranges) (sym c.requires.three) ranges_fit))

pub fill-requires-clause-true_of : goal.fill-requires-clause-true_of
fill-requires-clause-true_of c =
    rw (c.in_ok-ranges.ensures, c.in_ok-values.ensures.items)
    (widths_of c.args.inputs.now c.requires.three c.requires.small)
