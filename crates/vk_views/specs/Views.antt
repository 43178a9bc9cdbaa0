-- What is seen of a lane beside digests.
use Rattle.std.specs.Prelude.{ℕ, Bool, List}
use Rattle.std.specs.Simd.Lanes.{zip2}
use Rattle.vk_plan.specs.Plans.{PlanValue}
use Rattle.vk_wire.specs.declared.wire.WireTape.{WireTape}
use Rattle.vk_prover.specs.Honest.{honest_reply, honest_posted}
use Rattle.vk_views.specs.declared.views.LaneView.{LaneView}

-- what an honest prover shows of each wire for the bit, and what it posts for each row
abbrev pub view_of : PlanValue → List ℕ → List WireTape → Bool → LaneView
view_of plan values tape bit =
    record {
      shown = honest_reply plan.kinds values tape bit;
      posted = honest_posted plan.rows tape;
    }

-- the view of each lane of a challenge, by its tape and its bit
abbrev pub views_of : PlanValue → List ℕ → List (List WireTape) → List Bool → List LaneView
views_of plan values tapes bits = zip2 (view_of plan values) tapes bits
