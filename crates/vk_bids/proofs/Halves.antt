-- The halves of a secret in a lane, against what is shown of them.
use Rattle.std.proofs.Common.{◌≡◌, ℕ, ◌-◌, ◌<◌, ◌≤◌, ◌^◌, ◌⊎◌, Bool, false, true, List, length, Option, Some, None, refl, sym, ap, subst, arith, inl, inr}
use Rattle.std.specs.Prelude.{◌≢◌, ◌==◌, if◌then◌else◌}
use Rattle.std.proofs.lemmas.Bool.{eqb-true, eqb-false}
use Rattle.std.proofs.lemmas.List.Elements.{All-from_recursion}
use Rattle.vk_residue.specs.Residue.{modulus, sum, difference}
use Rattle.vk_commit.specs.Commitment.{AreTwoOpenings, TwoOpeningsSeen}
use Rattle.vk_commit.specs.declared.place.Opening.{Opening}
use Rattle.vk_commit.specs.declared.place.Place.{Place}
use Rattle.vk_seal.specs.Values.{IsSecret, IsXTape}
use Rattle.vk_seal.specs.declared.secret.Secret.{Secret}
use Rattle.vk_extractor.specs.Clash.{entry_opening, or_else}
use Rattle.vk_extractor.specs.Confronting.{AreItsHalves, IsConfronted, OpensSecret, confronted, confronted_half, no_tape, secret_digest, secret_opening, secret_place, tape_in}

-- ---- a lane of the secret

half_same : (own shown : ℕ) (two : TwoOpeningsSeen) (test : Bool) → (own == shown) ≡ test
    → (if test then None else Some two) ≡ None → shown ≡ own
half_same own shown two true is none = sym (eqb-true own shown is)
half_same own shown two false is none = cc

half_differs : (own shown : ℕ) (two clash : TwoOpeningsSeen) (test : Bool) → (own == shown) ≡ test
    → (if test then None else Some two) ≡ Some clash → (clash ≡ two) × (own ≢ shown)
half_differs own shown two clash true is some = cc
half_differs own shown two clash false is some = (cc, eqb-false own shown is)

pub none_else : (first later : Option TwoOpeningsSeen) → or_else first later ≡ None
    → (first ≡ None) × (later ≡ None)
none_else None later is = (refl, is)
none_else (Some two) later is = cc

pub some_else : (first later : Option TwoOpeningsSeen) (two : TwoOpeningsSeen)
    → or_else first later ≡ Some two → (first ≡ Some two) ⊎ ((first ≡ None) × (later ≡ Some two))
some_else None later two is = inr (refl, is)
some_else (Some first) later two is = inl is

-- where there is no clash the halves are the secret's
pub halves_held : (secret : Secret) (lane : ℕ) (first second : Opening)
    → confronted secret lane first second ≡ None → AreItsHalves secret lane first second
halves_held secret lane first second none =
    let are = none_else (confronted_half secret lane false first)
    (confronted_half secret lane true second) none in
    record {
      first_half = half_same (secret_opening secret lane false).value first.value _ _ refl are.0;
      second_half = half_same (secret_opening secret lane true).value second.value _ _ refl are.1;
    }

tape_is : (secret : Secret) (lane : ℕ) → IsSecret secret → 1 ≤ lane → lane ≤ length secret.lanes
    → IsXTape (tape_in secret lane)
tape_is secret lane is some last =
    All-from_recursion IsXTape secret.lanes is.tapes (lane - 1) no_tape (omega arith)

residue_is : (bid mask : ℕ) → difference bid mask < modulus
residue_is bid mask = omega arith

sums : (bid mask : ℕ) → bid < 2 ^ 40 → mask < modulus → sum mask (difference bid mask) ≡ bid
sums bid mask small residue = omega arith

-- the halves of a secret add up to its bid
pub halves_sum : (secret : Secret) (lane : ℕ) → IsSecret secret → 1 ≤ lane
    → lane ≤ length secret.lanes
    → sum (secret_opening secret lane false).value (secret_opening secret lane true).value
    ≡ secret.bid
halves_sum secret lane is some last =
    let mask : (tape_in secret lane).mask < modulus = (tape_is secret lane is some last).0 in
    let small : secret.bid < 2 ^ 40 = is.small_bid in
    sums secret.bid (tape_in secret lane).mask small mask

own_opens : (secret : Secret) (lane : ℕ) (second : Bool) → IsSecret secret → 1 ≤ lane
    → lane ≤ length secret.lanes
    → OpensSecret secret lane second (secret_opening secret lane second)
own_opens secret lane false is some last =
    let tape = tape_is secret lane is some last in
    record { opening_is = record { key = tape.1; value = tape.0 }; digest_is = refl }
own_opens secret lane true is some last =
    let tape = tape_is secret lane is some last in
    record {
      opening_is = record {
        key = tape.2;
        value = residue_is secret.bid (tape_in secret lane).mask;
      };
      digest_is = refl;
    }

confronted_by : (secret : Secret) (lane : ℕ) (first second : Opening) (half : Bool)
    (shown : Opening) (clash : TwoOpeningsSeen) → IsSecret secret → 1 ≤ lane
    → lane ≤ length secret.lanes
    → OpensSecret secret lane half shown → confronted_half secret lane half shown ≡ Some clash
    → (clash ≡ record {
      place = secret_place secret lane half;
      digest = secret_digest secret lane half;
      first = secret_opening secret lane half;
      second =
          shown;
    })
    × AreTwoOpenings (secret_place secret lane half) (secret_digest secret lane half)
    (secret_opening secret lane half) shown
confronted_by secret lane first second half shown clash is some last opens found =
    let differs = half_differs (secret_opening secret lane half).value shown.value _ clash _ refl
    found in (
      differs.0,
      record {
        first_opens = own_opens secret lane half is some last;
        second_opens = opens;
        values_differ = differs.1;
      },
    )

two_as : (place : Place) (digest : List ℕ) (first second : Opening) (clash : TwoOpeningsSeen)
    → clash ≡ record { place = place; digest = digest; first = first; second = second }
    → AreTwoOpenings place digest first second
    → AreTwoOpenings clash.place clash.digest clash.first clash.second
two_as place digest first second clash is two =
    let P : TwoOpeningsSeen → Type 0 = λ t. AreTwoOpenings t.place t.digest t.first t.second in
    subst P (sym is) two

-- a clash in one of the two halves
as_confronted : (secret : Secret) (lane : ℕ) (first second : Opening) (half : Bool)
    (clash : TwoOpeningsSeen)
    → (clash ≡ record {
      place = secret_place secret lane half;
      digest = secret_digest secret lane half;
      first = secret_opening secret lane half;
      second = entry_opening half first second;
    })
    × AreTwoOpenings (secret_place secret lane half) (secret_digest secret lane half)
    (secret_opening secret lane half) (entry_opening half first second)
    → IsConfronted secret lane first second clash
as_confronted secret lane first second half clash by = record {
  half = half;
  place = ap (λ (t : TwoOpeningsSeen). t.place) by.0;
  digest = ap (λ (t : TwoOpeningsSeen). t.digest) by.0;
  own = ap (λ (t : TwoOpeningsSeen). t.first) by.0;
  shown = ap (λ (t : TwoOpeningsSeen). t.second) by.0;
  openings = two_as _ _ _ _ clash by.0 by.1;
}

-- a clash is two openings of one of the secret's commitments
pub halves_clash : (secret : Secret) (lane : ℕ) (first second : Opening) (clash : TwoOpeningsSeen)
    → IsSecret secret → 1 ≤ lane → lane ≤ length secret.lanes
    → OpensSecret secret lane false first → OpensSecret secret lane true second
    → confronted secret lane first second ≡ Some clash → IsConfronted secret lane first second clash
halves_clash secret lane first second clash is some last first_opens second_opens found =
    elim (some_else (confronted_half secret lane false first)
    (confronted_half secret lane true second) clash found) [
      | inl here ↦ as_confronted secret lane first second false clash
          (confronted_by secret lane first second false first clash is some last first_opens here)
      | inr next ↦ as_confronted secret lane first second true clash
          (confronted_by secret lane first second true second clash is some last second_opens
          next.1)
    ]
