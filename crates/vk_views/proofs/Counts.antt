-- Moving tapes is one to one and onto.
use Rattle.std.proofs.Common.{◌≡◌, ℕ, Bool, List, [], ◌∷◌, length, refl, sym, ap, ◌∙◌, arith}
use Rattle.std.specs.List.{AllByRecursion}
use Rattle.std.proofs.lemmas.Simd.{length-zip2}
use Rattle.vk_plan.specs.Plans.{PlanValue, IsPlan, Holds}
use Rattle.vk_wire.specs.declared.wire.WireTape.{WireTape}
use Rattle.vk_prover.specs.Laws.{IsTapeOf}
use Rattle.vk_views.specs.declared.views.LaneView.{LaneView}
use Rattle.vk_views.specs.Views.{view_of, views_of}
use Rattle.vk_views.specs.Moved.{moved_tape, moved_tapes}
use Rattle.vk_views.specs.OneToOne.{IsOneToOneOnto}
use Rattle.vk_views.specs.Laws.{WhereBothHold, GivesView, TapesAreEquallyMany, GivesAll, TapesOfLanesAreEquallyMany}
use Rattle.vk_views.proofs.Lanes.{views_are_the_same, moved_are_tapes, tapes_come_back}

-- a move with one that leads back, each from what is right to what is right, is one to one and onto
with_one_back : {A : Type 0} (Right : List ℕ → Type 0) (Gives : List ℕ → A → Type 0)
    (move : List ℕ → List ℕ → A → A)
    → ((from to : List ℕ) → Right from → Right to → (a : A) → Gives from a
    → Gives to (move from to a))
    → ((from to : List ℕ) → Right from → Right to → (a : A) → Gives from a
    → move to from (move from to a) ≡ a)
    → (values others : List ℕ) → Right values → Right others
    → IsOneToOneOnto (Gives values) (Gives others) (move values others)
with_one_back Right Gives move gives back values others right right_others = record {
  into = gives values others right right_others;
  one_to_one = λ a b is_a is_b same. sym (back values others right right_others a is_a)
      ∙ ap (move others values) same ∙ back values others right right_others b is_b;
  onto = λ b is. (
    move others values b,
    gives others values right_others right b is,
    back others values right_others right b is,
  );
}

module _ (plan : PlanValue) (values others : List ℕ) (is_plan : IsPlan plan) (holds : Holds plan values) (holds_others : Holds plan others) where
  -- ---- one lane

  moved_gives : (bit : Bool) (view : LaneView) (tape : List WireTape)
      → GivesView plan values bit view tape
      → GivesView plan others bit view (moved_tape plan.kinds values others bit tape)
  moved_gives bit view tape gives = (
    moved_are_tapes plan values others is_plan holds holds_others bit tape gives.0,
    views_are_the_same plan values others is_plan holds holds_others bit tape gives.0 ∙ gives.1,
  )

  -- ---- all lanes of a challenge

  pub views_of_lanes : (bits : List Bool) (tapes : List (List WireTape))
      → AllByRecursion (IsTapeOf plan) tapes
      → views_of plan others (moved_tapes plan.kinds values others bits tapes) bits
      ≡ views_of plan values tapes bits
  views_of_lanes [] [] is = refl
  views_of_lanes [] (tape ∷ tapes) is = refl
  views_of_lanes (bit ∷ bits) [] is = refl
  views_of_lanes (bit ∷ bits) (tape ∷ tapes) is =
      let here = views_are_the_same plan values others is_plan holds holds_others bit tape is.0 in
      ap (λ view. view
      ∷ views_of plan others (moved_tapes plan.kinds values others bits tapes) bits) here
      ∙ ap (λ views. view_of plan values tape bit ∷ views) (views_of_lanes bits tapes is.1)

  tapes_of_lanes : (bits : List Bool) (tapes : List (List WireTape))
      → AllByRecursion (IsTapeOf plan) tapes
      → AllByRecursion (IsTapeOf plan) (moved_tapes plan.kinds values others bits tapes)
  tapes_of_lanes [] tapes is = tt
  tapes_of_lanes (bit ∷ bits) [] is = tt
  tapes_of_lanes (bit ∷ bits) (tape ∷ tapes) is = (
    moved_are_tapes plan values others is_plan holds holds_others bit tape is.0,
    tapes_of_lanes bits tapes is.1,
  )

  back_in_lanes : (bits : List Bool) (tapes : List (List WireTape)) → length tapes ≡ length bits
      → AllByRecursion (IsTapeOf plan) tapes
      → moved_tapes plan.kinds others values bits (moved_tapes plan.kinds values others bits tapes)
      ≡ tapes
  back_in_lanes [] [] same is = refl
  back_in_lanes [] (tape ∷ tapes) same is = absurd (omega arith)
  back_in_lanes (bit ∷ bits) [] same is = absurd (omega arith)
  back_in_lanes (bit ∷ bits) (tape ∷ tapes) same is =
      let here = tapes_come_back plan values others is_plan holds holds_others bit tape is.0 in
      ap (λ own. own ∷ moved_tapes plan.kinds others values bits
      (moved_tapes plan.kinds values others bits tapes)) here
      ∙ ap (λ more. tape ∷ more) (back_in_lanes bits tapes (omega arith) is.1)

  all_moved_give : (bits : List Bool) (views : List LaneView) (tapes : List (List WireTape))
      → GivesAll plan values bits views tapes
      → GivesAll plan others bits views (moved_tapes plan.kinds values others bits tapes)
  all_moved_give bits views tapes gives = (
    record {
      one_each = length-zip2 (moved_tape plan.kinds values others) bits tapes
          (sym gives.0.one_each);
      each = tapes_of_lanes bits tapes gives.0.each;
    },
    views_of_lanes bits tapes gives.0.each ∙ gives.1,
  )

-- ---- as many tapes give a view, whichever the values

pub equally_many : WhereBothHold TapesAreEquallyMany
equally_many plan values others is_plan holds holds_others bit view =
    with_one_back (Holds plan) (λ from. GivesView plan from bit view)
    (λ from to. moved_tape plan.kinds from to bit)
    (λ from to right right_to. moved_gives plan from to is_plan right right_to bit view)
    (λ from to right right_to tape gives.
    tapes_come_back plan from to is_plan right right_to bit tape gives.0)
    values others holds holds_others

pub equally_many_lanes : WhereBothHold TapesOfLanesAreEquallyMany
equally_many_lanes plan values others is_plan holds holds_others bits views =
    with_one_back (Holds plan) (λ from. GivesAll plan from bits views)
    (λ from to. moved_tapes plan.kinds from to bits)
    (λ from to right right_to. all_moved_give plan from to is_plan right right_to bits views)
    (λ from to right right_to tapes gives. back_in_lanes plan from to is_plan right right_to bits
    tapes gives.0.one_each gives.0.each)
    values others holds holds_others
