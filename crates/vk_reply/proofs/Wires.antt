-- What is shown of the wires of a lane, one after another or each at its place.
use Rattle.std.proofs.Common.{◌≡◌, ℕ, ◌+◌, Bool, List, [], length, slice_index_or, Result, Ok, Err, ◌∙◌, arith, subst}
use Rattle.std.specs.Prelude.{IfOk}
use Rattle.std.proofs.lemmas.Option.{get_or_from_slice_get, slice_get-get_or, slice_get_within}
use Rattle.vk_lines.specs.Forms.{EachAfter, EachNumbered}
use Rattle.vk_lines.proofs.Each.{at_from_each, each_from_at}
use Rattle.vk_plan.specs.declared.wire.WireKind.{WireKind}
use Rattle.vk_plan.specs.declared.wire.WireKind.TheVariants.{Split}
use Rattle.vk_wire.specs.declared.wire.Shown.{Shown}
use Rattle.vk_reply.specs.Values.{AreShown, IsShown}

-- what is shown of the wire of that number
abbrev pub IsWire : List WireKind → Bool → ℕ → Shown → Type 0
IsWire kinds bit wire shown = IsShown (slice_index_or kinds wire Split) bit shown

abbrev pub AreWires : List WireKind → Bool → List Shown → Type 0
AreWires kinds bit shown = EachAfter (λ before. IsWire kinds bit (length before)) [] shown

pub to_shown : (kinds : List WireKind) (bit : Bool) (shown : List Shown)
    → length shown ≡ length kinds → AreWires kinds bit shown → AreShown kinds bit shown
to_shown kinds bit shown count each = record {
  one_each = count;
  each = λ wire kind one is_kind is_one.
      let same : 0 + wire ≡ wire = omega arith in
      let K : WireKind → Type 0 = λ k. IsShown k bit one in
      let N : ℕ → Type 0 = λ n. IsWire kinds bit n one in
      subst K (get_or_from_slice_get kinds wire kind Split is_kind)
      (subst N same (at_from_each (IsWire kinds bit) [] shown each wire one is_one));
}

-- the same of what is answered, where each is right by its number
numbered_shown : (kinds : List WireKind) (bit : Bool) (shown : List Shown)
    → length shown ≡ length kinds → EachNumbered (IsWire kinds bit) shown → AreShown kinds bit shown
numbered_shown kinds bit shown count each = record {
  one_each = count;
  each = λ wire kind one is_kind is_one.
      let K : WireKind → Type 0 = λ k. IsShown k bit one in
      let S : Shown → Type 0 = λ s. IsWire kinds bit wire s in
      subst K (get_or_from_slice_get kinds wire kind Split is_kind)
      (subst S (get_or_from_slice_get shown wire one one is_one)
      (each wire one (slice_get_within shown wire one is_one)));
}

pub answer_shown : {E : Type 0} (kinds : List WireKind) (bit : Bool) (count : ℕ)
    (answer : Result (List Shown) E) → count ≡ length kinds
    → IfOk answer (λ shown. length shown ≡ count)
    → IfOk answer (EachNumbered (IsWire kinds bit)) → IfOk answer (AreShown kinds bit)
answer_shown kinds bit count (Ok shown) all number each =
    numbered_shown kinds bit shown (number ∙ all) each
answer_shown kinds bit count (Err refusal) all number each = tt

pub from_shown : (kinds : List WireKind) (bit : Bool) (shown : List Shown)
    → AreShown kinds bit shown → AreWires kinds bit shown
from_shown kinds bit shown is =
    each_from_at (IsWire kinds bit) [] shown (λ wire one is_one.
    let within = slice_get_within shown wire one is_one in
    let count = is.one_each in
    let same : wire ≡ 0 + wire = omega arith in
    let N : ℕ → Type 0 = λ n. IsWire kinds bit n one in
    subst N same (is.each wire (slice_index_or kinds wire Split) one
    (slice_get-get_or kinds wire Split (omega arith)) is_one))
