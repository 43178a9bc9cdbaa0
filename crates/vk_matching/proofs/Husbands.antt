-- The men of women 1, 2, .., entered man by man.
use Rattle.std.proofs.Common.{ℕ, ◌+◌, ◌-◌, ◌<◌, ◌≤◌, ◌≡◌, List, length, slice_index, refl, sym, ap, ◌∙◌, subst, arith}
use Rattle.std.specs.Prelude.{◌≢◌}
use Rattle.std.proofs.lemmas.List.{get_or_default, ext_get_or}
use Rattle.vk_range.specs.SetLaws.{length_listed, at_listed}
use Rattle.vk_matching.specs.Stability.{IsPerson, IsPermutation, wife_of}
use Rattle.vk_matching.specs.Couples.{husband_of, husbands_of, husband_is}

-- the first so many men are entered, each with a woman of his own, and nobody else
pub record AreEntered (wives husbands : List ℕ) (count : ℕ) : Type 0 where
  pub one_each : length husbands ≡ length wives
  pub are_persons : (k : ℕ) → k < count → IsPerson (length wives) (slice_index wives k)
  pub entered : (k : ℕ) → k < count → slice_index husbands (slice_index wives k - 1) ≡ k + 1
  pub only : (w : ℕ) → w < length wives → slice_index husbands w ≢ 0
      → (slice_index husbands w ≤ count) × (slice_index wives (slice_index husbands w - 1) ≡ w + 1)

module _ (wives husbands : List ℕ) (are : AreEntered wives husbands (length wives)) where
  -- where all are entered, each has a woman of his own
  pub all_entered : IsPermutation (length wives) wives
  all_entered = record {
    one_each = refl;
    are_persons = λ k d h. subst (IsPerson (length wives)) (sym (get_or_default wives k d 0 h))
        (are.are_persons k h);
    all_different = λ k l d before h same.
        let k_inside : k < length wives = omega arith in
        let same' : slice_index wives k ≡ slice_index wives l =
        sym (get_or_default wives k d 0 k_inside) ∙ same ∙ get_or_default wives l d 0 h in
        omega (
          arith,
          are.entered k k_inside,
          are.entered l h,
          ap (λ w. slice_index husbands (w - 1)) same',
        );
  }

  pub entered_are : husbands ≡ husbands_of wives
  entered_are =
      let size = length wives in
      let long = length_listed (λ place. husband_of wives (place + 1)) size in
      ext_get_or 0 husbands (husbands_of wives) (are.one_each ∙ sym long) (λ w h.
      let is : IsPerson size (w + 1) =
      record { some = omega arith; within = omega (arith, are.one_each) } in
      let husband = husband_is size wives all_entered (w + 1) is in
      let man = husband_of wives (w + 1) in
      let back : wife_of wives man - 1 ≡ w = omega (arith, husband.1) in
      let entered = are.entered (man - 1) (omega (arith, husband.0.some, husband.0.within)) in
      ap (slice_index husbands) (sym back) ∙ entered ∙ omega (arith, husband.0.some)
      ∙ sym (at_listed (λ place. husband_of wives (place + 1)) size w 0
      (omega (arith, are.one_each))))
