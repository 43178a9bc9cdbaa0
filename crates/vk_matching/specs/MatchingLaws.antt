-- The plan of a matching shows that it is stable, and every stable matching can be shown.
use Rattle.std.specs.Prelude.{ℕ, ◌+◌, ◌-◌, ◌*◌, ◌<◌, ◌≤◌, ◌≡◌, ◌≢◌, ◌⊎◌, ◌↔◌, List, ◌++◌, length, take, slice_index}
use Rattle.std.proofs.Common.{refl, sym, ap, ◌∙◌, subst, arith, inl, inr, length-append, get_or-take, mul-le-mul_left, mul-le-mul_right}
use Rattle.std.proofs.lemmas.Bool.{cases_lt}
use Rattle.std.proofs.lemmas.List.{get_or_default, length-take-le, take-take, take-append-le}
use Rattle.std.proofs.lemmas.List.Elements.{All-cons, All-append}
use Rattle.vk_plan.specs.declared.wire.WireKind.TheVariants.{Pair}
use Rattle.vk_plan.specs.declared.form.Form.{Form}
use Rattle.vk_plan.specs.Forms.{form_value, NamesBelow}
use Rattle.vk_plan.specs.Plans.{PlanValue, IsPlan, Holds, HasWeight, extended}
use Rattle.vk_range.specs.Sets.{IsOfWidth, joined, test_set, plus}
use Rattle.vk_range.specs.SetLaws.{length_listed, All-listed, test_set_weights}
use Rattle.vk_range.specs.Differences.{wire_value, wire_within}
use Rattle.vk_range.specs.Laws.{one_name}
use Rattle.vk_range.specs.Copies.{BeginsWith, begins_alone, begins_longer}
use Rattle.vk_range.specs.Ranges.{ranges_values}
use Rattle.vk_range.specs.Ranged.{IsRanged, MayBeFilled, ranged_plan, ranged_values}
use Rattle.vk_range.specs.RangedLaws.{ranged_is_plan, ranged_sound, ranged_of_width, ranged_begins, ranged_wires, ranged_rows, listed_each}
use Rattle.vk_matching.specs.Stability.{IsPerson, IsStable, his_place, her_place, his_rank, her_rank, wife_of}
use Rattle.vk_matching.specs.Couples.{husband_of, husband_is, husband_alone}
use Rattle.vk_matching.specs.Eithers.{IsEither, IsEitherAtLeast, either_wires, either_rows, either_values}
use Rattle.vk_matching.specs.EitherLaws.{either_sound, either_complete, either_is_at_least, either_longer, either_names, either_front, either_behind, values_within}
use Rattle.vk_matching.specs.Blocks.{AreBlocks, blocks, length_blocks, length_rows, blocks_room, blocks_sound, blocks_complete}
use Rattle.vk_matching.specs.MatchingPlans.{IsMatchingCase, IsMatchingClaim, width_of, size_of, matching_of, copy_at, rank_form, rank_ranges, pair_either, pair_count, man_at, woman_at, either_at, matching_plan, matching_values, wire_count, row_count}
use Rattle.vk_matching.specs.Pairs.{his_place_within, her_place_within, wife_is, is_man, is_woman, pair_of}

small_square : (a b : ℕ) → a ≤ 16 → b ≤ 16 → a * b ≤ 256
small_square a b few small = omega (arith, mul-le-mul_right b few, mul-le-mul_left 16 small)

-- the rows of each pair's relation
abbrev pub pair_rows : ℕ → List ℕ → ℕ → ℕ → List Form
pair_rows inputs numbers pair = either_rows (either_at inputs numbers pair)

-- the plan with the relations of the first so many pairs
abbrev pub pairs_plan : ℕ → List ℕ → ℕ → PlanValue
pairs_plan inputs numbers count =
    blocks (either_wires (width_of numbers)) (pair_rows inputs numbers)
    (ranged_plan inputs (rank_ranges inputs numbers)) count

length_wires : (width : ℕ) → length (either_wires width) ≡ 2 * width + 3
length_wires width =
    omega (
      arith,
      length-append (test_set (width + 1)) (test_set (width + 1)),
      length_listed Pair (width + 1),
    )

pub plan_whole : (inputs : ℕ) (numbers : List ℕ)
    → matching_plan inputs numbers ≡ pairs_plan inputs numbers (pair_count (size_of numbers))
unfolding matching_plan
plan_whole inputs numbers = refl

pub values_whole : (inputs : ℕ) (numbers ranks : List ℕ) → matching_values inputs numbers ranks
    ≡ ranged_values ranks (rank_ranges inputs numbers)
    ++ joined (λ pair. either_values (either_at inputs numbers pair)
    (ranged_values ranks (rank_ranges inputs numbers))) (pair_count (size_of numbers))
unfolding matching_values
values_whole inputs numbers ranks = refl

pub matching_inputs : (inputs : ℕ) (numbers : List ℕ)
    → (matching_plan inputs numbers).inputs ≡ inputs
matching_inputs inputs numbers = ap (λ (p : PlanValue). p.inputs) (plan_whole inputs numbers)

module _ (inputs : ℕ) (numbers : List ℕ) (case : IsMatchingCase inputs numbers) where
  length_forms : length (rank_ranges inputs numbers).forms ≡ inputs
  length_forms = length_listed (rank_form inputs) inputs

  few_inputs : inputs ≤ 512
  few_inputs =
      omega (
        arith,
        case.limits.all_ranks,
        small_square (size_of numbers) (size_of numbers) case.limits.most case.limits.most,
      )

  pub is_ranged : IsRanged inputs (rank_ranges inputs numbers)
  is_ranged = record {
    some = omega (
      arith,
      case.limits.all_ranks,
      mul-le-mul_right (size_of numbers) case.limits.some,
      case.limits.some,
    );
    most = omega (arith, few_inputs);
    fits = record {
      names = All-listed (λ form. NamesBelow (inputs + inputs) form.terms) (rank_form inputs) inputs
          (λ place h. one_name (inputs + inputs) (plus (copy_at inputs place)) (omega arith));
      wide = record {
        least = case.limits.least_width;
        most = omega (arith, case.limits.most_width);
      };
    };
    few = omega (arith, length_forms, few_inputs);
  }

  pub ranged_long : length (ranged_plan inputs (rank_ranges inputs numbers)).kinds
      ≡ inputs + inputs + inputs * width_of numbers
  ranged_long = ranged_wires inputs (rank_ranges inputs numbers)
      ∙ omega (arith, ap (λ n. n * width_of numbers) length_forms)

  -- each pair's relation is over the copies
  pub pair_fits : (man woman : ℕ) → IsPerson (size_of numbers) man
      → IsPerson (size_of numbers) woman
      → IsEither (pair_either inputs numbers man woman) (inputs + inputs)
  pair_fits man woman man_is woman_is =
      let size = size_of numbers in
      let matching = matching_of numbers in
      let wife = wife_is size matching case.permutation man man_is in
      let husband = husband_is size matching case.permutation woman woman_is in
      let all = case.limits.all_ranks in
      record {
        first_left = omega (arith, all, his_place_within size man woman man_is woman_is);
        first_right = omega (
          arith,
          all,
          his_place_within size man (wife_of matching man) man_is wife,
        );
        second_left = omega (arith, all, her_place_within size woman man woman_is man_is);
        second_right = omega (
          arith,
          all,
          her_place_within size woman (husband_of matching woman) woman_is husband.0,
        );
        least = case.limits.least_width;
        most = case.limits.most_width;
      }

  pub at_fits : (pair wires : ℕ) → pair < pair_count (size_of numbers) → inputs + inputs ≤ wires
      → IsEither (either_at inputs numbers pair) wires
  at_fits pair wires h enough =
      let size = size_of numbers in
      let matching = matching_of numbers in
      either_longer (either_at inputs numbers pair) (inputs + inputs) wires enough
      (pair_fits (man_at size pair) (woman_at size matching pair)
      (is_man size matching case.permutation pair h)
      (is_woman size matching case.permutation pair h))

  pub pair_blocks : (count : ℕ) → count ≤ pair_count (size_of numbers)
      → AreBlocks (either_wires (width_of numbers)) (pair_rows inputs numbers)
      (length (ranged_plan inputs (rank_ranges inputs numbers)).kinds) 2 count
  pair_blocks count few = record {
    weights =
        let set = test_set_weights (width_of numbers + 1) (omega (arith, case.limits.most_width)) in
        All-cons HasWeight (Pair 0)
        (test_set (width_of numbers + 1) ++ test_set (width_of numbers + 1)) (omega arith)
        (All-append HasWeight (test_set (width_of numbers + 1)) (test_set (width_of numbers + 1))
        set set);
    row_count = λ pair start. refl;
    names = λ pair start h enough.
        either_names (either_at inputs numbers pair) start
        (at_fits pair start (omega arith) (omega (arith, ranged_long)));
  }

  pub pairs_is_plan : (count : ℕ) → count ≤ pair_count (size_of numbers)
      → IsPlan (pairs_plan inputs numbers count)
  pairs_is_plan count few =
      let width = width_of numbers in
      let size = size_of numbers in
      let plan = ranged_plan inputs (rank_ranges inputs numbers) in
      let most : count ≤ 256 =
      omega (
        arith,
        small_square size (size - 1) case.limits.most
            (omega (arith, case.limits.most)),
      ) in
      let sets : count * (2 * width + 3) ≤ 256 * 35 =
      omega (
        arith,
        mul-le-mul_right (2 * width + 3) most,
        mul-le-mul_left 256 (let h : 2 * width + 3 ≤ 35 = omega (arith, case.limits.most_width) in
            h),
      ) in
      let ranks : inputs * width ≤ 512 * 16 =
      omega (arith, mul-le-mul_right width few_inputs, mul-le-mul_left 512 case.limits.most_width)
      in
      blocks_room (either_wires width) (pair_rows inputs numbers) plan 2 count
      (pair_blocks count few)
      (ranged_is_plan inputs (rank_ranges inputs numbers) is_ranged)
      (omega (
        arith,
        ranged_long,
        few_inputs,
        ranks,
        sets,
        ap (λ n. count * n) (length_wires width),
      ))
      (omega (arith, ranged_rows inputs (rank_ranges inputs numbers), length_forms, few_inputs))

  pub pairs_long : (count : ℕ) → length (pairs_plan inputs numbers count).kinds
      ≡ inputs + inputs + inputs * width_of numbers + count * (2 * width_of numbers + 3)
  pairs_long count =
      length_blocks (either_wires (width_of numbers)) (pair_rows inputs numbers)
      (ranged_plan inputs (rank_ranges inputs numbers)) count
      ∙ omega (arith, ranged_long, ap (λ n. count * n) (length_wires (width_of numbers)))

  -- how many wires and rows there are
  pub matching_wires : length (matching_plan inputs numbers).kinds ≡ wire_count numbers
  matching_wires =
      ap (λ (p : PlanValue). length p.kinds) (plan_whole inputs numbers)
      ∙ pairs_long (pair_count (size_of numbers))
      ∙ omega (arith, case.limits.all_ranks, ap (λ n. n * width_of numbers) case.limits.all_ranks)

  pub matching_rows : length (matching_plan inputs numbers).rows ≡ row_count numbers
  matching_rows =
      let count = pair_count (size_of numbers) in
      ap (λ (p : PlanValue). length p.rows) (plan_whole inputs numbers)
      ∙ length_rows (either_wires (width_of numbers)) (pair_rows inputs numbers)
      (ranged_plan inputs (rank_ranges inputs numbers)) 2 count
      (pair_blocks count (omega arith))
      ∙ omega (
        arith,
        case.limits.all_ranks,
        ranged_rows inputs (rank_ranges inputs numbers),
        length_forms,
      )

  pub matching_is_plan : IsPlan (matching_plan inputs numbers)
  matching_is_plan = subst IsPlan (sym (plan_whole inputs numbers))
      (pairs_is_plan (pair_count (size_of numbers)) (omega arith))

-- values that have the ranks in the copies, each of the width
record ReadsRanks (inputs width : ℕ) (ranks values : List ℕ) : Type 0 where
  read : (place : ℕ) → place < inputs
      → slice_index values (copy_at inputs place) ≡ slice_index ranks place
  small : (place : ℕ) → place < inputs → IsOfWidth width (slice_index values (copy_at inputs place))

-- he ranks that woman no better than his own, or she ranks him no better than her own
abbrev DoesNotBlock : ℕ → List ℕ → List ℕ → ℕ → ℕ → Type 0
DoesNotBlock size ranks matching man woman =
    (his_rank size ranks man (wife_of matching man) ≤ his_rank size ranks man woman)
    ⊎ (her_rank size ranks woman (husband_of matching woman) ≤ her_rank size ranks woman man)

module _ (inputs : ℕ) (numbers ranks values : List ℕ) (case : IsMatchingCase inputs numbers)
    (reads : ReadsRanks inputs (width_of numbers) ranks values) where
  -- what each pair's relation says of the ranks
  pair_is : (man woman : ℕ) → IsPerson (size_of numbers) man → IsPerson (size_of numbers) woman
      → IsEitherAtLeast (pair_either inputs numbers man woman) values
      ↔ DoesNotBlock (size_of numbers) ranks (matching_of numbers) man woman
  pair_is man woman man_is woman_is =
      let size = size_of numbers in
      let matching = matching_of numbers in
      let wife = wife_of matching man in
      let husband = husband_of matching woman in
      let wife_is = wife_is size matching case.permutation man man_is in
      let husband_is = husband_is size matching case.permutation woman woman_is in
      let all = case.limits.all_ranks in
      let of_woman : his_place size man woman < inputs =
      omega (arith, all, his_place_within size man woman man_is woman_is) in
      let of_wife : his_place size man wife < inputs =
      omega (arith, all, his_place_within size man wife man_is wife_is) in
      let of_man : her_place size woman man < inputs =
      omega (arith, all, her_place_within size woman man woman_is man_is) in
      let of_husband : her_place size woman husband < inputs =
      omega (arith, all, her_place_within size woman husband woman_is husband_is.0) in
      let is =
      either_is_at_least (pair_either inputs numbers man woman) values case.limits.most_width
      (record {
        first_left = reads.small (his_place size man woman) of_woman;
        first_right = reads.small (his_place size man wife) of_wife;
        second_left = reads.small (her_place size woman man) of_man;
        second_right = reads.small (her_place size woman husband) of_husband;
      }) in
      let first = reads.read (his_place size man woman) of_woman in
      let own = reads.read (his_place size man wife) of_wife in
      let second = reads.read (her_place size woman man) of_man in
      let hers = reads.read (her_place size woman husband) of_husband in (
        λ either. elim (is.0 either) [
          | inl le ↦ inl (omega (arith, le, first, own))
          | inr le ↦ inr
              (omega (arith, le, second, hers))
        ],
        λ either. is.1 (elim either [
          | inl le ↦ inl (omega (arith, le, first, own))
          | inr le ↦ inr
              (omega (arith, le, second, hers))
        ]),
      )

  -- where those of all pairs are true, the matching is stable
  stable_shown : ((pair : ℕ) → pair < pair_count (size_of numbers)
      → IsEitherAtLeast (either_at inputs numbers pair) values)
      → IsStable (size_of numbers) ranks (matching_of numbers)
  stable_shown each man woman blocking =
      let size = size_of numbers in
      let matching = matching_of numbers in
      let wife = wife_of matching man in
      let differs : woman ≢ wife = λ same.
      let ranks_same = ap (his_rank size ranks man) same in
      omega (arith, blocking.he_prefers, ranks_same) in
      let pair = pair_of size matching case.permutation man woman blocking.is_man blocking.is_woman
      differs in
      let here =
      subst (λ m. IsEitherAtLeast (pair_either inputs numbers m woman) values) pair.2
      (subst (λ w. IsEitherAtLeast (pair_either inputs numbers (man_at size pair.0) w) values)
      pair.3 (each pair.0 pair.1)) in
      let hers = husband_alone size matching case.permutation blocking.husband woman
      blocking.is_husband blocking.is_hers in
      elim ((pair_is man woman blocking.is_man blocking.is_woman).0 here) [
        | inl le ↦ omega (arith, le, blocking.he_prefers)
        | inr le ↦ omega (arith, le, blocking.she_prefers, ap (her_rank size ranks woman) hers)
      ]

  -- and where it is stable, those of all pairs are true
  pairs_shown : IsStable (size_of numbers) ranks (matching_of numbers) → (pair : ℕ)
      → pair < pair_count (size_of numbers)
      → IsEitherAtLeast (either_at inputs numbers pair) values
  pairs_shown stable pair h =
      let size = size_of numbers in
      let matching = matching_of numbers in
      let man = man_at size pair in
      let woman = woman_at size matching pair in
      let wife = wife_of matching man in
      let husband = husband_of matching woman in
      let man_is = is_man size matching case.permutation pair h in
      let woman_is = is_woman size matching case.permutation pair h in
      let husband_is = husband_is size matching case.permutation woman woman_is in
      (pair_is man woman man_is woman_is).1
      (elim (cases_lt (his_rank size ranks man woman) (his_rank size ranks man wife)) [
        | inr le ↦ inl le
        | inl he ↦ elim (cases_lt (her_rank size ranks woman man)
            (her_rank size ranks woman husband)) [
              | inr le ↦ inr le
              | inl she ↦ absurd (stable man woman (record {
                is_man = man_is;
                is_woman = woman_is;
                husband = husband;
                is_husband = husband_is.0;
                is_hers = husband_is.1;
                he_prefers = he;
                she_prefers = she;
              }))
            ]
      ])

module _ (inputs : ℕ) (numbers : List ℕ) (case : IsMatchingCase inputs numbers) where
  pub matching_sound : (values : List ℕ) → Holds (matching_plan inputs numbers) values
      → IsMatchingClaim inputs numbers (take inputs values)
  matching_sound values holds =
      let ranges = rank_ranges inputs numbers in
      let plan = ranged_plan inputs ranges in
      let start = length plan.kinds in
      let width = width_of numbers in
      let count = pair_count (size_of numbers) in
      let long = ranged_long inputs numbers case in
      let is = is_ranged inputs numbers case in
      let found =
      blocks_sound (either_wires width) (pair_rows inputs numbers) plan
      (λ pair front. IsEitherAtLeast (either_at inputs numbers pair) front) 2 count values
      (ranged_is_plan inputs ranges is).names (pair_blocks inputs numbers case count (omega arith))
      (λ pair before all h enough own held.
      either_front (either_at inputs numbers pair) start (length before.kinds) all
      (at_fits inputs numbers case pair start h (omega arith)) enough
      (omega (arith, held.one_each, length-append before.kinds (either_wires width)))
      (either_sound (either_at inputs numbers pair) before all own
      (at_fits inputs numbers case pair (length before.kinds) h (omega arith)) held))
      (subst (λ p. Holds p values) (plan_whole inputs numbers) holds) in
      let front = take start values in
      let ranged = ranged_sound inputs ranges is front found.0 in
      let whole = take-take inputs start values (omega arith) in
      let reads : ReadsRanks inputs width (take inputs front) front = record {
        read = λ place h. sym (get_or-take inputs front place 0 h ∙ ranged.copied place h);
        small = λ place h.
            subst (IsOfWidth width)
            (wire_value (copy_at inputs place) front
            (ranged.residues (copy_at inputs place) 0 (omega (arith, ranged.enough))))
            (listed_each (λ form. IsOfWidth width (form_value form front)) (rank_form inputs) inputs
            ranged.of_width place h);
      } in
      let short : length (take inputs front) ≡ inputs =
      length-take-le inputs front (omega (arith, ranged.enough)) in
      subst (IsMatchingClaim inputs numbers) whole (record {
        one_each = short;
        within_width = λ k d h.
            let inside : k < inputs = omega (arith, short) in
            subst (IsOfWidth width)
            (reads.read k inside ∙ sym (get_or_default (take inputs front) k d 0 h))
            (reads.small k inside);
        stable = stable_shown inputs numbers (take inputs front) front case reads found.1;
      })

  module _ (ranks : List ℕ) (claim : IsMatchingClaim inputs numbers ranks) where
    -- the ranks are read in the copies, whatever stands behind them
    ranks_read : (values : List ℕ) → BeginsWith ranks values
        → ReadsRanks inputs (width_of numbers) ranks values
    ranks_read values begins =
        let read : (place : ℕ) → place < inputs
        → slice_index values (copy_at inputs place) ≡ slice_index ranks place =
        λ place h. subst (λ n. slice_index values (n + place) ≡ slice_index ranks place)
        claim.one_each
        (begins.copied place (omega (arith, claim.one_each))) in
        record {
          read = read;
          small = λ place h.
              subst (IsOfWidth (width_of numbers)) (sym (read place h))
              (claim.within_width place 0 (omega (arith, claim.one_each)));
        }

    pub matching_filled : MayBeFilled ranks (rank_ranges inputs numbers)
    matching_filled =
        let width = width_of numbers in
        let reads = ranks_read (ranks ++ ranks) (begins_alone ranks) in
        record {
          ranged = subst (λ n. IsRanged n (rank_ranges inputs numbers)) (sym claim.one_each)
              (is_ranged inputs numbers case);
          of_width =
              All-listed (λ form. IsOfWidth width (form_value form (ranks ++ ranks)))
              (rank_form inputs) inputs (λ place h.
              wire_within width (omega (arith, case.limits.most_width)) (ranks ++ ranks)
              (copy_at inputs place) (reads.small place h));
        }

    pub ranged_begin : BeginsWith ranks (ranged_values ranks (rank_ranges inputs numbers))
    ranged_begin =
        begins_longer ranks (ranks ++ ranks)
        (ranges_values (rank_ranges inputs numbers) (ranks ++ ranks)) (begins_alone ranks)

    pub ranged_holds : Holds (ranged_plan inputs (rank_ranges inputs numbers))
        (ranged_values ranks (rank_ranges inputs numbers))
    ranged_holds =
        ranged_of_width ranks (rank_ranges inputs numbers) inputs (width_of numbers) claim.one_each
        (omega (arith, case.limits.most_width)) claim.within_width matching_filled

    -- the relation of each pair is true of the values before
    pub pair_true : (pair : ℕ) → pair < pair_count (size_of numbers)
        → IsEitherAtLeast (either_at inputs numbers pair)
        (ranged_values ranks (rank_ranges inputs numbers))
    pair_true =
        let before = ranged_values ranks (rank_ranges inputs numbers) in
        pairs_shown inputs numbers ranks before case (ranks_read before ranged_begin) claim.stable

    pub values_fit : (pair : ℕ) → pair < pair_count (size_of numbers)
        → IsEither (either_at inputs numbers pair)
        (length (ranged_values ranks (rank_ranges inputs numbers)))
    values_fit pair h =
        at_fits inputs numbers case pair (length (ranged_values ranks (rank_ranges inputs numbers)))
        h
        (omega (arith, ranged_holds.one_each, ranged_long inputs numbers case))

    pub matching_complete : Holds (matching_plan inputs numbers)
        (matching_values inputs numbers ranks)
    matching_complete =
        let ranges = rank_ranges inputs numbers in
        let plan = ranged_plan inputs ranges in
        let before = ranged_values ranks ranges in
        let count = pair_count (size_of numbers) in
        let own : ℕ → List ℕ = λ pair. either_values (either_at inputs numbers pair) before in
        rw (plan_whole inputs numbers, values_whole inputs numbers ranks)
        (blocks_complete (either_wires (width_of numbers)) (pair_rows inputs numbers) plan before
        own 2 count
        (ranged_is_plan inputs ranges (is_ranged inputs numbers case)).names
        (pair_blocks inputs numbers case count (omega arith))
        (λ pair plan' more h enough names held.
        let relation = either_at inputs numbers pair in
        subst (λ vs. Holds (extended plan' (either_wires (width_of numbers))
        (either_rows relation (length plan'.kinds))) (before ++ more ++ vs))
        (values_within relation before more (values_fit pair h))
        (either_complete relation plan' (before ++ more) names
        (at_fits inputs numbers case pair (length plan'.kinds) h
        (omega (arith, ranged_long inputs numbers case))) held
        (either_behind relation before more (values_fit pair h) (pair_true pair h))))
        ranged_holds)

    -- the values begin with the ranks
    pub matching_begins : take inputs (matching_values inputs numbers ranks) ≡ ranks
    matching_begins =
        let ranges = rank_ranges inputs numbers in
        let before = ranged_values ranks ranges in
        let back = joined (λ pair. either_values (either_at inputs numbers pair) before)
        (pair_count (size_of numbers)) in
        ap (take inputs) (values_whole inputs numbers ranks)
        ∙ take-append-le inputs before back (omega (arith, ranged_begin.enough, claim.one_each))
        ∙ ap (λ n. take n before) (sym claim.one_each) ∙ ranged_begins ranks ranges
