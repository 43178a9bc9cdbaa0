-- What two replies come to, whatever is said of a refusal and whatever is kept of the bids.
use Rattle.std.specs.Prelude.{List, [], Option, Some, None, Result, Ok, Err}
use Rattle.vk_commit.specs.Commitment.{TwoOpeningsSeen}
use Rattle.vk_judge.specs.declared.stage.Finding.{Finding}
use Rattle.vk_judge.specs.declared.stage.Finding.TheVariants as ends
use Rattle.vk_judge.specs.declared.stage.TwoLane.{TwoLane}
use Rattle.vk_judge.specs.Statement.{StatementValue}
use Rattle.vk_judge.specs.Two.{Ahead}
use Rattle.vk_bids.specs.declared.bids.LaneBids.{LaneBids}
use Rattle.vk_bids.specs.declared.extraction.Extraction.{Extraction}
use Rattle.vk_bids.specs.declared.extraction.Extraction.TheVariants.{Refused, Same, Clash, Bids}
use Rattle.vk_bids.specs.Gathering.{gathered_from}

-- this is true of the bids, where there are any
abbrev pub OfBids : {V X : Type 0} → (X → Type 0) → Extraction V X → Type 0
OfBids P (Refused second verdict) = Unit {0}
OfBids P Same = Unit {0}
OfBids P (Clash two) = Unit {0}
OfBids P (Bids found) = P found

-- it is such a clash, or such bids
abbrev pub IsClashOr : {V X : Type 0} → (TwoOpeningsSeen → Type 0) → (X → Type 0) → Extraction V X
    → Type 0
IsClashOr IsSuch P (Refused second verdict) = ⊥
IsClashOr IsSuch P Same = ⊥
IsClashOr IsSuch P (Clash two) = IsSuch two
IsClashOr IsSuch P (Bids found) = P found

-- it is bids, or a clash
abbrev pub IsFound : {V X : Type 0} → Extraction V X → Type 0
IsFound = IsClashOr (λ two. Unit {0}) (λ found. Unit {0})

-- where both replies are accepted and the challenges differ
abbrev pub given_by : {V X : Type 0} → (List LaneBids → X) → Result (List LaneBids) TwoOpeningsSeen
    → Extraction V X
given_by kept (Ok lanes) = Bids (kept lanes)
given_by kept (Err two) = Clash two

-- what was found, with what was gathered after this base. That both replies are accepted is never
-- found without one
abbrev pub found_by : {V B X : Type 0} → (B → List LaneBids → X) → Option B → Finding V
    → Result (List LaneBids) TwoOpeningsSeen → Extraction V X
found_by kept base (ends.Refused second verdict) gathered = Refused second verdict
found_by kept base ends.Same gathered = Same
found_by kept (Some base) ends.Ready gathered = given_by (kept base) gathered
found_by kept None ends.Ready gathered = Same

-- what is gathered of lanes, the first of them lane 1, after this base
abbrev pub gathered_after : {B : Type 0} → (B → StatementValue) → Option B → List TwoLane
    → Result (List LaneBids) TwoOpeningsSeen
gathered_after statement (Some base) lanes = gathered_from (statement base) (Ok []) 1 lanes
gathered_after statement None lanes = Ok []

-- after this base these lanes are given, and then this is found
abbrev pub comes_to : {V B X : Type 0} → (B → StatementValue) → (B → List LaneBids → X) → Option B
    → Ahead V → Extraction V X
comes_to statement kept base ahead =
    found_by kept base ahead.finding (gathered_after statement base ahead.lanes)
