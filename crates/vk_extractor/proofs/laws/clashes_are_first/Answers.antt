use Rattle.vk_extractor.proofs.FirstClash.{all_agree, clash_computed, clash_found, clashes_of_first, first_of_clashes, none_computed}
use Rattle.vk_extractor.proofs.laws.clashes_are_first.Goals as goal

pub returns : goal.returns
returns c case zs os = (
  λ two. (
    λ found. let clash = clash_found case 0 case.coms zs os two found in
        (clash.0, first_of_clashes case zs os clash.0 two clash.1),
    λ first. clash_computed case 0 case.coms zs os first.0 two
        (clashes_of_first case zs os first.0 two first.1),
  ),
  (all_agree case 0 case.coms zs os, none_computed case 0 case.coms zs os),
)
