-- Going over the wires of a lane, one after another.
use Rattle.std.proofs.Common.{◌≡◌, ℕ, zero, suc, ◌+◌, ◌<◌, ◌≤◌, List, [], ◌∷◌, ◌++◌, length, drop, get_or, slice_index, slice_index_or, refl, sym, ap, ◌∙◌, arith, add-one, add-zero, append_assoc, inl, inr}
use Rattle.std.proofs.Math.Seq.{drop-cons, drop-length}
use Rattle.std.proofs.lemmas.List.{append-nil}
use Rattle.std.proofs.lemmas.Bool.{cases_lt}
use Rattle.std.proofs.lemmas.Option.{slice_get_within}
use Rattle.vk_plan.specs.Plans.{PlanValue, IsPlan}
use Rattle.vk_plan.specs.declared.wire.WireKind.{WireKind}
use Rattle.vk_plan.specs.declared.wire.WireKind.TheVariants.{Split}
use Rattle.vk_wire.specs.declared.wire.WireTape.{WireTape}
use Rattle.vk_prover.specs.Honest.{each_wire, no_tape}

-- the wire that comes next
pub each_wire_step : {A : Type 0} (f : ℕ → WireKind → ℕ → WireTape → A) (kinds : List WireKind)
    (values : List ℕ) (tape : List WireTape) (w : ℕ)
    → w < length kinds → w < length values → w < length tape
    → each_wire f w (drop w kinds) (drop w values) (drop w tape)
    ≡ f w (slice_index_or kinds w Split) (slice_index values w) (slice_index_or tape w no_tape)
    ∷ each_wire f (w + 1) (drop (w + 1) kinds) (drop (w + 1) values) (drop (w + 1) tape)
unfolding each_wire
each_wire_step f kinds values tape w in_kinds in_values in_tape =
    rw (
      drop-cons kinds w Split in_kinds,
      drop-cons values w 0 in_values,
      drop-cons tape w no_tape in_tape,
      add-one,
    ) refl

-- a wire more
pub each_wire_turn : {A : Type 0} (f : ℕ → WireKind → ℕ → WireTape → A) (kinds : List WireKind)
    (values : List ℕ) (tape : List WireTape) (w : ℕ) (before after : List A) (x : A)
    (whole : List A)
    → w < length kinds → length values ≡ length kinds → length tape ≡ length kinds
    → after ≡ before ++ x ∷ []
    → x ≡ f w (slice_index_or kinds w Split) (slice_index values w) (slice_index_or tape w no_tape)
    → before ++ each_wire f w (drop w kinds) (drop w values) (drop w tape) ≡ whole
    → after ++ each_wire f (w + 1) (drop (w + 1) kinds) (drop (w + 1) values) (drop (w + 1) tape)
    ≡ whole
each_wire_turn f kinds values tape w before after x whole within same_values same_tape pushed made
    so_far =
    let rest = each_wire f (w + 1) (drop (w + 1) kinds) (drop (w + 1) values) (drop (w + 1) tape) in
    ap (λ front. front ++ rest) pushed
    ∙ append_assoc before (x ∷ []) rest
    ∙ ap (λ y. before ++ y ∷ rest) made
    ∙ ap (λ back. before ++ back)
    (sym (each_wire_step f kinds values tape w within (omega arith) (omega arith)))
    ∙ so_far

-- all wires
pub each_wire_done : {A : Type 0} (f : ℕ → WireKind → ℕ → WireTape → A) (kinds : List WireKind)
    (values : List ℕ) (tape : List WireTape) (w : ℕ) (before whole : List A)
    → w ≡ length kinds
    → before ++ each_wire f w (drop w kinds) (drop w values) (drop w tape) ≡ whole → before ≡ whole
unfolding each_wire
each_wire_done f kinds values tape w before whole all so_far =
    let none : drop w kinds ≡ [] = ap (λ n. drop n kinds) all ∙ drop-length kinds in
    sym (append-nil before) ∙ ap (λ ks. before ++ each_wire f w ks (drop w values) (drop w tape))
    (sym none) ∙ so_far

-- one wire of them
pub get_or-each_wire : {A : Type 0} (f : ℕ → WireKind → ℕ → WireTape → A) (s : ℕ)
    (kinds : List WireKind) (values : List ℕ) (tape : List WireTape) (k : ℕ) (d : A)
    → k < length kinds → length values ≡ length kinds → length tape ≡ length kinds
    → get_or (each_wire f s kinds values tape) k d
    ≡ f (s + k) (slice_index_or kinds k Split) (slice_index values k)
    (slice_index_or tape k no_tape)
unfolding each_wire
get_or-each_wire f s [] values tape k d lt same_values same_tape = absurd (omega arith)
get_or-each_wire f s (kind ∷ kinds) [] tape k d lt same_values same_tape = absurd (omega arith)
get_or-each_wire f s (kind ∷ kinds) (v ∷ vs) [] k d lt same_values same_tape = absurd (omega arith)
get_or-each_wire f s (kind ∷ kinds) (v ∷ vs) (t ∷ ts) zero d lt same_values same_tape =
    ap (λ n. f n kind v t) (sym (add-zero s))
get_or-each_wire f s (kind ∷ kinds) (v ∷ vs) (t ∷ ts) (suc k) d lt same_values same_tape =
    let number : s + 1 + k ≡ s + suc k = omega arith in
    get_or-each_wire f (s + 1) kinds vs ts k d (omega arith) (omega arith) (omega arith)
    ∙ ap (λ n. f n (slice_index_or kinds k Split) (slice_index vs k) (slice_index_or ts k no_tape))
    number

pub length-each_wire : {A : Type 0} (f : ℕ → WireKind → ℕ → WireTape → A) (s : ℕ)
    (kinds : List WireKind) (values : List ℕ) (tape : List WireTape)
    → length values ≡ length kinds → length tape ≡ length kinds
    → length (each_wire f s kinds values tape) ≡ length kinds
unfolding each_wire
length-each_wire f s [] values tape same_values same_tape = refl
length-each_wire f s (kind ∷ kinds) [] tape same_values same_tape = absurd (omega arith)
length-each_wire f s (kind ∷ kinds) (v ∷ vs) [] same_values same_tape = absurd (omega arith)
length-each_wire f s (kind ∷ kinds) (v ∷ vs) (t ∷ ts) same_values same_tape =
    ap suc (length-each_wire f (s + 1) kinds vs ts (omega arith) (omega arith))

-- the wires after the first n, where f and g give the same of each of these
pub drop-each_wire : {A : Type 0} (f g : ℕ → WireKind → ℕ → WireTape → A) (n s : ℕ)
    (kinds : List WireKind) (values : List ℕ) (tape : List WireTape)
    → length values ≡ length kinds → length tape ≡ length kinds
    → ((w : ℕ) (kind : WireKind) (value : ℕ) (wire : WireTape) → s + n ≤ w
    → f w kind value wire ≡ g w kind value wire)
    → drop n (each_wire f s kinds values tape)
    ≡ each_wire g (s + n) (drop n kinds) (drop n values) (drop n tape)
unfolding each_wire
drop-each_wire f g zero s [] values tape same_values same_tape same = refl
drop-each_wire f g (suc n) s [] values tape same_values same_tape same = refl
drop-each_wire f g n s (kind ∷ kinds) [] tape same_values same_tape same = absurd (omega arith)
drop-each_wire f g n s (kind ∷ kinds) (v ∷ vs) [] same_values same_tape same = absurd (omega arith)
drop-each_wire f g zero s (kind ∷ kinds) (v ∷ vs) (t ∷ ts) same_values same_tape same =
    let none : s + zero ≡ s = add-zero s in
    let next : s + 1 + zero ≡ s + 1 = add-zero (s + 1) in
    let here = same s kind v t (omega arith) in
    let rest = drop-each_wire f g zero (s + 1) kinds vs ts (omega arith) (omega arith)
    (λ w k x u lt. same w k x u (omega arith)) in
    cc
drop-each_wire f g (suc n) s (kind ∷ kinds) (v ∷ vs) (t ∷ ts) same_values same_tape same =
    let number : s + 1 + n ≡ s + suc n = omega arith in
    drop-each_wire f g n (s + 1) kinds vs ts (omega arith) (omega arith)
    (λ w k x u lt. same w k x u (omega arith))
    ∙ ap (λ m. each_wire g m (drop n kinds) (drop n vs) (drop n ts)) number

-- the inputs of a plan are wires of it
pub inputs_within : (plan : PlanValue) → IsPlan plan → plan.inputs ≤ length plan.kinds
inputs_within plan is_plan =
    elim (cases_lt (length plan.kinds) plan.inputs) [
      | inl more ↦
          let none = slice_get_within plan.kinds (length plan.kinds) Split
          (is_plan.inputs_are_split (length plan.kinds) more) in
          absurd (omega arith)
      | inr few ↦ few
    ]
