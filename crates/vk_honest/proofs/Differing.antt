-- The lanes whose two bits differ.
use Rattle.std.proofs.Common.{◌≡◌, ℕ, suc, ◌+◌, ◌-◌, ◌<◌, ◌≤◌, All, Bool, true, false, List, [], ◌∷◌, length, map, get_or, refl, ap, subst, arith}
use Rattle.std.specs.Prelude.{◌≢◌, not}
use Rattle.std.proofs.lemmas.List.Elements.{All-cons, All-nil, All-weaker}
use Rattle.vk_bids.specs.Headline.{differing}

-- the bits at a place differ
abbrev DifferAt : List Bool → List Bool → ℕ → Type 0
DifferAt bits others place = get_or bits place false ≢ get_or others place false

-- the bits of the lane differ, where the first of the lists is that of the lane of that number
pub record DiffersIn (number : ℕ) (bits others : List Bool) (lane : ℕ) : Type 0 where
  pub from : number ≤ lane
  pub until : lane < number + length bits
  pub bits_differ : get_or bits (lane - number) false ≢ get_or others (lane - number) false

module _ (number : ℕ) (bit other : Bool) (bits others : List Bool) where
  abbrev DifferNow : ℕ → Type 0
  DifferNow = DifferAt (bit ∷ bits) (other ∷ others)

  differ_here : bit ≢ other → DiffersIn number (bit ∷ bits) (other ∷ others) number
  differ_here differ =
      let none : 0 ≡ number - number = omega arith in
      record { from = omega arith; until = omega arith; bits_differ = subst DifferNow none differ }

  differ_later : (lane : ℕ) → DiffersIn (number + 1) bits others lane
      → DiffersIn number (bit ∷ bits) (other ∷ others) lane
  differ_later lane later =
      let next : suc (lane - (number + 1)) ≡ lane - number = omega (arith, later.from) in
      record {
        from = omega (arith, later.from);
        until = omega (arith, later.until);
        bits_differ = subst DifferNow next later.bits_differ;
      }

  abbrev LaterDiffer : List ℕ → Type 0
  LaterDiffer = All (DiffersIn (number + 1) bits others)

  abbrev NowDiffer : List ℕ → Type 0
  NowDiffer = All (DiffersIn number (bit ∷ bits) (other ∷ others))

  all_later : LaterDiffer (differing (number + 1) bits others)
      → NowDiffer (differing (number + 1) bits others)
  all_later = All-weaker (DiffersIn (number + 1) bits others)
      (DiffersIn number (bit ∷ bits) (other ∷ others)) differ_later
      (differing (number + 1) bits others)

  all_from : bit ≢ other → LaterDiffer (differing (number + 1) bits others)
      → NowDiffer (number ∷ differing (number + 1) bits others)
  all_from differ later = All-cons (DiffersIn number (bit ∷ bits) (other ∷ others)) number
      (differing (number + 1) bits others) (differ_here differ) (all_later later)

pub all_differ : (number : ℕ) (bits others : List Bool)
    → All (DiffersIn number bits others) (differing number bits others)
all_differ number [] others = All-nil (DiffersIn number [] others)
all_differ number (false ∷ bits) [] = All-nil (DiffersIn number (false ∷ bits) [])
all_differ number (true ∷ bits) [] = All-nil (DiffersIn number (true ∷ bits) [])
all_differ number (false ∷ bits) (false ∷ others) =
    all_later number false false bits others (all_differ (number + 1) bits others)
all_differ number (true ∷ bits) (true ∷ others) =
    all_later number true true bits others (all_differ (number + 1) bits others)
all_differ number (false ∷ bits) (true ∷ others) =
    all_from number false true bits others (λ e. cc) (all_differ (number + 1) bits others)
all_differ number (true ∷ bits) (false ∷ others) =
    all_from number true false bits others (λ e. cc) (all_differ (number + 1) bits others)

-- where each bit is turned
pub length-differing_turned : (number : ℕ) (bits : List Bool)
    → length (differing number bits (map not bits)) ≡ length bits
length-differing_turned number [] = refl
length-differing_turned number (false ∷ bits) = ap suc (length-differing_turned (number + 1) bits)
length-differing_turned number (true ∷ bits) = ap suc (length-differing_turned (number + 1) bits)

pub none_differ : (number : ℕ) (bits : List Bool) → length (differing number bits bits) ≡ 0
none_differ number [] = refl
none_differ number (false ∷ bits) = none_differ (number + 1) bits
none_differ number (true ∷ bits) = none_differ (number + 1) bits

pub turned_differ : (bits : List Bool) → 1 ≤ length bits → bits ≢ map not bits
turned_differ bits some same =
    let all = length-differing_turned 1 bits in
    let none = none_differ 1 bits in
    omega (arith, ap (λ others. length (differing 1 bits others)) same)
