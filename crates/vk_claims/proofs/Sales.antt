-- The numbers of a sample's sale, and that its bids are as they claim.
use Rattle.std.proofs.Common.{◌≡◌, ℕ, ◌+◌, ◌-◌, ◌*◌, ◌^◌, ◌<◌, ◌≤◌, Bool, true, false, List, ◌∷◌, length, refl, sym, ap, subst, ◌∙◌, arith, inl, inr}
use Rattle.std.specs.Prelude.{All, ◌==◌, if◌then◌else◌}
use Rattle.std.proofs.Math.Nat.{pow-le-pow_right}
use Rattle.std.proofs.lemmas.List.Elements.{All-weaker, recursion_from_All}
use Rattle.std.proofs.lemmas.Nat.{mul-le, pow_pos}
use Rattle.vk_uniform.specs.Circuits as uniform
use Rattle.vk_uniform.specs.Outcomes.{IsLoser, IsPositionAmong, IsUniformOutcome, bid_at}
use Rattle.vk_uniform.specs.OutcomeLaws.{outcome_exists, outcome_is_one, price_is_bid_or_0}
use Rattle.vk_uniform.specs.UniformLaws.{some_loses_not_all, uniform_rows, uniform_wires}
use Rattle.vk_uniform.specs.UniformPlans.{IsUniformCase, IsUniformClaim, losers_of, row_count, uniform_plan, width_of, winners_of, wire_count}
use Rattle.vk_claim.specs.Values.{AreNumbers}
use Rattle.vk_report.specs.declared.sample.SampleCase.{SampleCase}
use Rattle.vk_report.specs.Samples.{IsCaseOf}
use Rattle.vk_words.specs.declared.claim.Kind.TheVariants.{Uniform}
use Rattle.vk_claims.proofs.ByKind.{IsOfKind}
use Rattle.vk_claims.specs.Claims.{IsSaleOf, claim_case, enough_bids, numbers_of, sizes_of, some_unit, units}

-- the price is a loser's bid, or 0
price_small : (width : ℕ) (bids winners : List ℕ) (price : ℕ) → All (λ bid. bid < 2 ^ width) bids
    → IsUniformOutcome bids winners price → price < 2 ^ width
price_small width bids winners price small is =
    elim (price_is_bid_or_0 bids winners price is) [
      | inl held ↦
          (let at = held.is_loser.is_position in
          let below : bid_at bids held.holder < 2 ^ width =
          small (held.holder - 1) 0 (omega (arith, at.some, at.within)) in
          omega (arith, held.bids_price, below))
      | inr nothing ↦ omega (arith, nothing, pow_pos width)
    ]

module _ (case : SampleCase) (is : IsCaseOf (sizes_of Uniform) case) (winners : List ℕ) (price : ℕ) (sale : IsUniformOutcome case.bids winners price) (count : length winners ≡ units) where
  pub sale_case : IsUniformCase (length case.seats) (case.width ∷ price ∷ winners)
  sale_case = record {
    limits = record {
      some_inputs = is.right.some_seal;
      most_inputs = omega (arith, is.right.few_seals);
      enough = omega (arith, count);
      wide = is.right.size.width;
      within_width = price_small case.width case.bids winners price is.right.bids sale;
      are_positions = subst (λ n. All (IsPositionAmong n) winners) is.right.bid_count
          sale.are_positions;
      ascending = sale.ascending;
    };
    all_win_for_0 = subst (λ n. ((position : ℕ) → ¬ IsLoser n winners position) → price ≡ 0)
        is.right.bid_count sale.all_win_for_0;
  }

  pub sale_claim : IsUniformClaim (length case.seats) (case.width ∷ price ∷ winners) case.bids
  sale_claim = record {
    one_each = is.right.bid_count;
    within_width = is.right.bids;
    outcome = sale;
  }

  pub sale_numbers : AreNumbers (case.width ∷ price ∷ winners)
  sale_numbers =
      let widest : 2 ^ case.width ≤ 2 ^ 40 =
      pow-le-pow_right {n = 2} (omega arith) is.right.size.width.most in
      let small = price_small case.width case.bids winners price is.right.bids sale in
      let within : All (λ number. number < 2 ^ 64) winners =
      All-weaker (IsPositionAmong (length case.bids)) (λ number. number < 2 ^ 64)
      (λ position at. omega (arith, at.within, is.right.bid_count, is.right.few_seals)) winners
      sale.are_positions in
      record {
        some = omega arith;
        few = omega (arith, count);
        small = (
          omega (arith, is.right.size.width.most),
          (
            omega (arith, small, widest),
            recursion_from_All (λ number. number < 2 ^ 64) winners within,
          ),
        );
      }

-- ---- of numbers that are those of an outcome

module _ (case : SampleCase) (is : IsCaseOf (sizes_of Uniform) case) (numbers : List ℕ) (of : IsSaleOf case numbers) where
  pub is_case : IsUniformCase (length case.seats) numbers
  is_case = subst (IsUniformCase (length case.seats)) (sym of.numbers_are)
      (sale_case case is of.winners of.price of.outcome of.count)

  pub is_claim : IsUniformClaim (length case.seats) numbers case.bids
  is_claim = subst (λ ns. IsUniformClaim (length case.seats) ns case.bids) (sym of.numbers_are)
      (sale_claim case is of.winners of.price of.outcome of.count)

  pub are_numbers : AreNumbers numbers
  are_numbers = subst (λ ns. AreNumbers ns) (sym of.numbers_are)
      (sale_numbers case is of.winners of.price of.outcome of.count)

  pub three_win : length (winners_of numbers) ≡ units
  three_win = ap (λ ns. length (winners_of ns)) of.numbers_are ∙ of.count

  pub width_is : width_of numbers ≡ case.width
  width_is = ap (λ ns. width_of ns) of.numbers_are

  -- ---- how large the circuit is

  pub wires_are : length (uniform_plan (length case.seats) numbers).kinds ≡ wire_count 10 numbers
  wires_are = uniform_wires (length case.seats) numbers
      ∙ ap (λ n. wire_count n numbers) is.seals_are

  pub rows_are : length (uniform_plan (length case.seats) numbers).rows ≡ row_count 10 numbers
  rows_are = uniform_rows (length case.seats) numbers ∙ ap (λ n. row_count n numbers) is.seals_are

  few_losers : length (losers_of (length case.seats) numbers) + 1 ≤ 10
  few_losers = omega (arith, some_loses_not_all (length case.seats) numbers is_case, is.seals_are)

  losing_few : length (losers_of 10 numbers) ≤ 9
  losing_few = subst (λ n. length (losers_of n numbers) ≤ 9) is.seals_are
      (omega (arith, few_losers))

  few_pairs : length (winners_of numbers) * length (losers_of 10 numbers) ≤ 27
  few_pairs = mul-le (length (winners_of numbers)) (length (losers_of 10 numbers)) 3 9
      (omega (arith, three_win)) losing_few

  pub few_wires : wire_count 10 numbers ≤ 10000
  few_wires =
      let losing = length (losers_of 10 numbers) in
      let pairs = length (winners_of numbers) * losing in
      let sets = mul-le (width_of numbers) (10 + pairs + 2 * losing) 16 55
      (omega (arith, width_is, is.width_is)) (omega (arith, few_pairs, losing_few)) in
      omega (arith, sets, losing_few)

  pub few_rows : row_count 10 numbers ≤ 1000
  few_rows =
      let losing = length (losers_of 10 numbers) in
      let last : (if losing == 0 then 0 else 1) ≤ 1 = at_most_one (losing == 0) in
      omega (arith, few_pairs, losing_few, last)
    where
      at_most_one : (test : Bool) → (if test then 0 else 1) ≤ 1
      at_most_one true = omega arith
      at_most_one false = omega arith

pub circuit : IsOfKind uniform.inputs_of uniform.numbers_of IsUniformCase IsUniformClaim Uniform
circuit = record { case_is = is_case; claim_is = is_claim }

-- they are those of the number
pub numbers_are : (number : ℕ) (case : SampleCase) (numbers : List ℕ)
    → case ≡ claim_case Uniform number → IsSaleOf case numbers → numbers ≡ numbers_of number
unfolding numbers_of
numbers_are number case numbers is of =
    let sale = outcome_exists (claim_case Uniform number).bids units some_unit (enough_bids number)
    in
    let P : SampleCase → Type 0 = λ c. IsSaleOf c numbers in
    let here : IsSaleOf (claim_case Uniform number) numbers = subst P is of in
    let one = outcome_is_one (claim_case Uniform number).bids here.winners sale.0 here.price sale.1
    here.outcome sale.2 (here.count ∙ sym sale.3) in
    here.numbers_are
    ∙ (ap (λ p. (claim_case Uniform number).width ∷ p ∷ here.winners) one.1
    ∙ ap (λ ws. (claim_case Uniform number).width ∷ sale.1 ∷ ws) one.0)

pub sale_is : (number : ℕ) → IsSaleOf (claim_case Uniform number) (numbers_of number)
unfolding numbers_of
sale_is number =
    let sale = outcome_exists (claim_case Uniform number).bids units some_unit (enough_bids number)
    in
    record {
      winners = sale.0;
      price = sale.1;
      outcome = sale.2;
      count = sale.3;
      numbers_are = refl;
    }
