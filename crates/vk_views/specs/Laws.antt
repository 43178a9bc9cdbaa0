-- The laws of views and moved tapes.
use Rattle.std.specs.Prelude.{◌≡◌, ℕ, Bool, false, List, All, length}
use Rattle.std.specs.List.{AllByRecursion}
use Rattle.vk_residue.specs.Residue.{IsResidue}
use Rattle.vk_plan.specs.declared.wire.WireKind.{WireKind}
use Rattle.vk_plan.specs.declared.form.Form.{Form}
use Rattle.vk_plan.specs.Forms.{form_value, NamesBelow}
use Rattle.vk_plan.specs.Plans.{PlanValue, IsPlan, Holds, HasWeight, MayHave}
use Rattle.vk_wire.specs.declared.wire.WireTape.{WireTape}
use Rattle.vk_wire.specs.Made.{shown_wire}
use Rattle.vk_wire.specs.Values.{IsTape}
use Rattle.vk_prover.specs.Honest.{masks, posted_on}
use Rattle.vk_prover.specs.Laws.{IsTapeOf}
use Rattle.vk_views.specs.declared.views.LaneView.{LaneView}
use Rattle.vk_views.specs.Views.{view_of, views_of}
use Rattle.vk_views.specs.Moved.{moved_wire, moved_tape, moved_tapes}
use Rattle.vk_views.specs.OneToOne.{IsOneToOneOnto}

-- ---- one wire

-- a law of every wire, two values that its kind may have, a bit and a tape
abbrev pub OfWires : (WireKind → ℕ → ℕ → Bool → WireTape → Type 0) → Type 0
OfWires Law =
    (kind : WireKind) (value other : ℕ) (bit : Bool) (tape : WireTape) → HasWeight kind
    → MayHave kind value → MayHave kind other
    → IsResidue value → IsResidue other → IsTape tape → Law kind value other bit tape

-- the wire shows of the other value what it showed of the value
abbrev pub ShowsTheSame : WireKind → ℕ → ℕ → Bool → WireTape → Type 0
ShowsTheSame kind value other bit tape =
    shown_wire kind other (moved_wire kind value other bit tape) bit
    ≡ shown_wire kind value tape bit

-- moved with the values exchanged, the moved tape is the first one
abbrev pub WireComesBack : WireKind → ℕ → ℕ → Bool → WireTape → Type 0
WireComesBack kind value other bit tape =
    moved_wire kind other value bit (moved_wire kind value other bit tape) ≡ tape

-- ---- one row

-- where a row is 0 on both lists of values, its posted number stays
abbrev pub RowsPostTheSame : Type 0
RowsPostTheSame =
    (row : Form) (kinds : List WireKind) (values others : List ℕ) (bit : Bool)
    (tape : List WireTape)
    → length values ≡ length kinds → length others ≡ length kinds → length tape ≡ length kinds
    → NamesBelow (length kinds) row.terms
    → All IsResidue values → form_value row values ≡ 0 → form_value row others ≡ 0
    → posted_on (masks (moved_tape kinds values others bit tape)) row ≡ posted_on (masks tape) row

-- ---- one lane

-- a law of every plan and two lists of values that hold for it
abbrev pub WhereBothHold : (PlanValue → List ℕ → List ℕ → Type 0) → Type 0
WhereBothHold Law = (plan : PlanValue) (values others : List ℕ) → IsPlan plan → Holds plan values
    → Holds plan others → Law plan values others

-- of every bit and tape of a lane
abbrev pub OfLanes : (Bool → List WireTape → Type 0) → PlanValue → Type 0
OfLanes Law plan = (bit : Bool) (tape : List WireTape) → IsTapeOf plan tape → Law bit tape

-- the others with the moved tape give the view of the values with the tape
abbrev pub ViewsAreTheSame : PlanValue → List ℕ → List ℕ → Type 0
ViewsAreTheSame plan values others =
    OfLanes (λ bit tape. view_of plan others (moved_tape plan.kinds values others bit tape) bit
    ≡ view_of plan values tape bit) plan

-- moved with the lists exchanged, the moved tape is the first one
abbrev pub TapesComeBack : PlanValue → List ℕ → List ℕ → Type 0
TapesComeBack plan values others =
    OfLanes (λ bit tape. moved_tape plan.kinds others values bit
    (moved_tape plan.kinds values others bit tape) ≡ tape) plan

-- for bit 0 the tape stays
abbrev pub TapesStayForBit0 : PlanValue → List ℕ → List ℕ → Type 0
TapesStayForBit0 plan values others = (tape : List WireTape) → IsTapeOf plan tape
    → moved_tape plan.kinds values others false tape ≡ tape

-- a moved tape is one for the plan
abbrev pub MovedTapesAreTapes : PlanValue → List ℕ → List ℕ → Type 0
MovedTapesAreTapes plan values others =
    OfLanes (λ bit tape. IsTapeOf plan (moved_tape plan.kinds values others bit tape)) plan

-- the tapes for the plan by which the values give the view
abbrev pub GivesView : PlanValue → List ℕ → Bool → LaneView → List WireTape → Type 0
GivesView plan values bit view tape = IsTapeOf plan tape × (view_of plan values tape bit ≡ view)

-- moving takes the tapes by which the values give a view to those by which the others give it, one
-- to one and onto
abbrev pub TapesAreEquallyMany : PlanValue → List ℕ → List ℕ → Type 0
TapesAreEquallyMany plan values others =
    (bit : Bool) (view : LaneView)
    → IsOneToOneOnto (GivesView plan values bit view) (GivesView plan others bit view)
    (moved_tape plan.kinds values others bit)

-- ---- all lanes of a challenge

-- a tape for the plan for each lane
pub record AreTapes (plan : PlanValue) (bits : List Bool) (tapes : List (List WireTape)) : Type 0
  where
    pub one_each : length tapes ≡ length bits
    pub each : AllByRecursion (IsTapeOf plan) tapes

-- such tapes by which the values give these views
abbrev pub GivesAll : PlanValue → List ℕ → List Bool → List LaneView → List (List WireTape) → Type 0
GivesAll plan values bits views tapes = AreTapes plan bits tapes
    × (views_of plan values tapes bits ≡ views)

-- the same of all lanes of any challenge
abbrev pub TapesOfLanesAreEquallyMany : PlanValue → List ℕ → List ℕ → Type 0
TapesOfLanesAreEquallyMany plan values others =
    (bits : List Bool) (views : List LaneView)
    → IsOneToOneOnto (GivesAll plan values bits views) (GivesAll plan others bits views)
    (moved_tapes plan.kinds values others bits)
