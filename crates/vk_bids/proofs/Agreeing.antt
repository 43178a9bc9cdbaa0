-- Replies that agree don't clash.
use Rattle.std.proofs.Common.{List, All, ℕ}
use Rattle.std.proofs.lemmas.List.Elements.{All-contains}
use Rattle.vk_commit.specs.Commitment.{TwoOpeningsSeen}
use Rattle.vk_commit.specs.declared.place.Place.{Place}
use Rattle.vk_wire.specs.declared.wire.WireCom.{WireCom}
use Rattle.vk_wire.specs.declared.wire.Shown.{Shown}
use Rattle.vk_wire.specs.declared.wire.Shown.TheVariants.{Whole, Spent}
use Rattle.vk_extractor.specs.FirstClash.{Agree, IsClash}
use Rattle.vk_judge.specs.declared.stage.TwoLane.{TwoLane}
use Rattle.vk_judge.specs.FileForms.{two_lane_in}
use Rattle.vk_bids.specs.Headline.{AgreesAt, IsExtractionClash, IsFirstClashOf, LaneAgrees, TwoAccepted, differing_in}

disagrees : (place : Place) (digests : WireCom) (zero one : Shown) (clash : TwoOpeningsSeen)
    → IsClash place digests zero one clash → Agree zero one → ⊥
disagrees place digests (Whole first second) (Spent of_second opening) clash is agree = is.1 agree
disagrees place digests zero one clash is agree = is

-- lanes with these numbers that agree open no commitment with two values
pub no_first_clash : (at : ℕ → TwoLane) (numbers id : List ℕ) (clash : TwoOpeningsSeen)
    → All (AgreesAt at) numbers → IsFirstClashOf at numbers id clash → ⊥
no_first_clash at numbers id clash agree is =
    disagrees _ _ _ _ clash is.first.clash
    (All-contains (AgreesAt at) numbers is.number agree is.differs is.wire is.first.within)

-- replies that agree in every lane whose bits differ open no commitment with two values
pub no_clash : {board challenge reply other second : List ℕ}
    (two : TwoAccepted board challenge reply other second) (clash : TwoOpeningsSeen)
    → All (LaneAgrees two) (differing_in two) → IsExtractionClash two clash → ⊥
no_clash two clash agree is =
    no_first_clash (two_lane_in two.first two.second) (differing_in two)
    two.first.front.head.auction clash agree is
