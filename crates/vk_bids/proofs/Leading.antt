-- Lane by lane, what two replies give leads to what is gathered of all their lanes.
use Rattle.std.proofs.Common.{◌≡◌, ℕ, ◌+◌, List, [], Option, Some, None, IfSome, Result, Ok, refl, sym, ap, subst, ◌∙◌}
use Rattle.vk_io.specs.Files.{Files}
use Rattle.vk_commit.specs.Commitment.{TwoOpeningsSeen}
use Rattle.vk_judge.specs.declared.opened.Refusal.{Refusal}
use Rattle.vk_judge.specs.declared.stage.Finding.{Finding}
use Rattle.vk_judge.specs.declared.stage.Finding.TheVariants as ends
use Rattle.vk_judge.specs.declared.stage.Stage.TheVariants.{Before, Running}
use Rattle.vk_judge.specs.declared.stage.TwoLane.{TwoLane}
use Rattle.vk_judge.specs.Opened.{Checked, FileBase, GoesOn, checked_base, checked_finding, coming_of}
use Rattle.vk_judge.specs.Two.{Ahead}
use Rattle.vk_bids.specs.declared.bids.LaneBids.{LaneBids}
use Rattle.vk_bids.specs.Gathering.{added, gathered_from}
use Rattle.vk_bids.specs.Extractions.{comes_to, found_by, gathered_after}
use Rattle.vk_bids.specs.FileExtraction.{ComesTo, FileExtraction, extraction_of, opened_by}

-- after so many lanes, what was gathered and what is ahead give what was ahead at the start
pub record Leads {H R : Type 0} (base : Option (FileBase H)) (start : Ahead (Refusal R)) (given : ℕ)
    (gathered : Result (List LaneBids) TwoOpeningsSeen) (ahead : Ahead (Refusal R)) : Type 0 where
  pub finding : start.finding ≡ ahead.finding
  pub gathers : IfSome base (λ known. gathered_from known.base.statement (Ok []) 1 start.lanes
      ≡ gathered_from known.base.statement gathered (given + 1) ahead.lanes)

module _ {H R : Type 0} where
  -- with a lane that is given
  pub leads_on : (base : Option (FileBase H)) (start before : Ahead (Refusal R)) (given next : ℕ)
      (lane : TwoLane) (new : Checked H R) (files : Files)
      (gathered after : Result (List LaneBids) TwoOpeningsSeen)
      → next ≡ given + 1
      → IfSome base (λ known. added known.base.statement next lane gathered ≡ after)
      → Leads base start given gathered before → GoesOn before (Some lane) new files
      → Leads base start next after (coming_of new files).ahead
  unfolding gathered_from
  leads_on None start before given next lane new files gathered after count adds leads goes =
      record {
        finding = leads.finding ∙ ap (λ (a : Ahead (Refusal R)). a.finding) goes;
        gathers = tt;
      }
  leads_on (Some known) start before given next lane new files gathered after count adds leads
      goes =
      let s = known.base.statement in
      let rest = (coming_of new files).ahead.lanes in
      record {
        finding = leads.finding ∙ ap (λ (a : Ahead (Refusal R)). a.finding) goes;
        gathers = leads.gathers
            ∙ (ap (λ (a : Ahead (Refusal R)). gathered_from s gathered (given + 1) a.lanes) goes
            ∙ (ap (λ n. gathered_from s (added s n lane gathered) (n + 1) rest) (sym count)
            ∙ ap (λ g. gathered_from s g (next + 1) rest) adds));
      }

  -- where no lane is given any more
  pub leads_last : (base : Option (FileBase H)) (start before : Ahead (Refusal R)) (given : ℕ)
      (new : Checked H R) (files : Files) (gathered : Result (List LaneBids) TwoOpeningsSeen)
      → Leads base start given gathered before → GoesOn before None new files
      → ComesTo base start (checked_finding new) gathered
  unfolding gathered_from
  leads_last None start before given new files gathered leads goes = record {
    finding = goes.1 ∙ ap (λ f. Some f)
        (sym (leads.finding ∙ ap (λ (a : Ahead (Refusal R)). a.finding) goes.2));
    gathers = tt;
  }
  leads_last (Some known) start before given new files gathered leads goes = record {
    finding = goes.1 ∙ ap (λ f. Some f)
        (sym (leads.finding ∙ ap (λ (a : Ahead (Refusal R)). a.finding) goes.2));
    gathers = leads.gathers ∙ ap (λ (a : Ahead (Refusal R)).
        gathered_from known.base.statement gathered (given + 1) a.lanes) goes.2;
  }

pub both_told : {A : Type 0} {P Q R : A → Type 0} (held : Option A)
    → ((content : A) → P content → Q content → R content) → IfSome held P → IfSome held Q
    → IfSome held R
both_told None step first second = tt
both_told (Some content) step first second = step content first second

-- what is said of modelled content that has two names
pub both_held : {A : Type 0} {P Q R : A → Type 0} (held other : Option A) → other ≡ held
    → ((content : A) → P content → Q content → R content)
    → IfSome held P → IfSome other Q → IfSome held R
both_held {A} {P} {Q} {R} held other same step first second =
    let W : Option A → Type 0 = λ h. IfSome h Q in
    both_told held step first (subst W same second)

-- ---- in the end

module _ {H R : Type 0} where
  abbrev found_of : Option (FileBase H) → Finding (Refusal R)
      → Result (List LaneBids) TwoOpeningsSeen → FileExtraction H R
  found_of = found_by opened_by

  -- what was gathered after no base says nothing
  same_gathered : (base : Option (FileBase H)) (finding : Finding (Refusal R))
      (lanes : List TwoLane) (gathered : Result (List LaneBids) TwoOpeningsSeen)
      → IfSome base (λ known. gathered_from known.base.statement (Ok []) 1 lanes ≡ gathered)
      → found_of base finding
      (gathered_after (λ (known : FileBase H). known.base.statement) base lanes)
      ≡ found_of base finding gathered
  same_gathered (Some known) finding lanes gathered same =
      ap (λ g. found_of (Some known) finding g) same
  same_gathered None (ends.Refused second refusal) lanes gathered same = refl
  same_gathered None ends.Same lanes gathered same = refl
  same_gathered None ends.Ready lanes gathered same = refl

  same_base : (start : Checked H R) (files : Files)
      → (coming_of start files).base ≡ checked_base start
  same_base (Before finding) files = refl
  same_base (Running course) files = refl

  -- what is concluded is what was ahead
  pub concluded : (start : Checked H R) (files : Files) (ending : Option (FileBase H))
      (finding : Option (Finding (Refusal R)))
      (gathered : Result (List LaneBids) TwoOpeningsSeen) (found : FileExtraction H R)
      → ending ≡ checked_base start
      → ComesTo (checked_base start) (coming_of start files).ahead finding gathered
      → IfSome finding (λ finding. found ≡ found_of ending finding gathered)
      → extraction_of (coming_of start files) ≡ found
  concluded start files ending finding gathered found same comes is =
      let base = checked_base start in
      let ahead = (coming_of start files).ahead in
      let P : Option (Finding (Refusal R)) → Type 0 =
      λ finding. IfSome finding (λ finding. found ≡ found_of ending finding gathered) in
      let by : found ≡ found_of ending ahead.finding gathered = subst P comes.finding is in
      ap (λ base. comes_to (λ (known : FileBase H). known.base.statement) opened_by base ahead)
      (same_base start files)
      ∙ (same_gathered base ahead.finding ahead.lanes gathered comes.gathers
      ∙ sym (by ∙ ap (λ base. found_of base ahead.finding gathered) same))
