-- A circuit that is made of numbers is of just these numbers.
use Rattle.std.proofs.Common.{◌≡◌, ℕ, List, length, Option, Some, None, IfSome, IsSome, IsSomeAnd, sym, ap, subst, ◌∙◌}
use Rattle.std.specs.Prelude.{◌↔◌}
use Rattle.vk_report.specs.declared.sample.SampleCase.{SampleCase}
use Rattle.vk_report.specs.Samples.{IsCaseOf}
use Rattle.vk_words.specs.declared.claim.Kind.{Kind}
use Rattle.vk_claims.specs.Claims.{MayPublish, sizes_of}

module _ {C : Type 0} (inputs_of : C → ℕ) (numbers_of : C → List ℕ) (inputs : ℕ) (numbers : List ℕ) where
  abbrev pub IsOfNumbers : Option C → Type 0
  IsOfNumbers found = IfSome found (λ made. (inputs_of made ≡ inputs) × (numbers_of made ≡ numbers))

  -- what holds of the numbers holds of it
  pub made_of : (P : ℕ → List ℕ → Type 0) → P inputs numbers → (found : Option C) → IsSome found
      → IsOfNumbers found
      → IsSomeAnd found (λ made. P (inputs_of made) (numbers_of made))
  made_of P holds (Some made) some of =
      subst (λ n. P n (numbers_of made)) (sym of.0) (subst (P inputs) (sym of.1) holds)
  made_of P holds None some of = cc

  -- what is given by it is given by the numbers
  pub given_by : {X : Type 0} (f : ℕ → List ℕ → X) (x : X) (found : Option C) → IsSome found
      → IsOfNumbers found
      → IfSome found (λ made. x ≡ f (inputs_of made) (numbers_of made)) → x ≡ f inputs numbers
  given_by f x (Some made) some of is = is ∙ ap (λ n. f n (numbers_of made)) of.0
      ∙ ap (f inputs) of.1
  given_by f x None some of is = cc

-- numbers that may be published of a case of a kind are a case of its circuit, and claim the bids
pub record IsOfKind {C : Type 0} (inputs_of : C → ℕ) (numbers_of : C → List ℕ)
    (IsCase : ℕ → List ℕ → Type 0) (IsClaim : ℕ → List ℕ → List ℕ → Type 0)
    (own : Kind) : Type 0 where
  pub case_is : (case : SampleCase) → IsCaseOf (sizes_of own) case → (numbers : List ℕ)
      → MayPublish own case numbers → IsCase (length case.seats) numbers
  pub claim_is : (case : SampleCase) → IsCaseOf (sizes_of own) case → (numbers : List ℕ)
      → MayPublish own case numbers → IsClaim (length case.seats) numbers case.bids

-- the circuit of the numbers that are published of a case
module _ {C : Type 0} {inputs_of : C → ℕ} {numbers_of : C → List ℕ} {IsCase : ℕ → List ℕ → Type 0} {IsClaim : ℕ → List ℕ → List ℕ → Type 0} {own : Kind}
    (circuit : IsOfKind inputs_of numbers_of IsCase IsClaim own) {kind : Kind} (is : kind ≡ own) {case : SampleCase} (right : IsCaseOf (sizes_of kind) case)
    (numbers : List ℕ) (published : MayPublish kind case numbers) {inputs : ℕ} (inputs_are : inputs ≡ length case.seats)
    (found : Option C) (admitted : IsSome found ↔ IsCase inputs numbers) (of : IsOfNumbers inputs_of numbers_of inputs numbers found) where
  right_own : IsCaseOf (sizes_of own) case
  right_own = subst (λ k. IsCaseOf (sizes_of k) case) is right

  published_own : MayPublish own case numbers
  published_own = subst (λ k. MayPublish k case numbers) is published

  some : IsSome found
  some = admitted.1 (subst (λ n. IsCase n numbers) (sym inputs_are)
      (circuit.case_is case right_own numbers published_own))

  pub claims : {values : List ℕ} → values ≡ case.bids
      → IsSomeAnd found (λ made. IsClaim (inputs_of made) (numbers_of made) values)
  claims {values} same =
      made_of inputs_of numbers_of inputs numbers (λ n ns. IsClaim n ns values)
      (subst (λ n. IsClaim n numbers values) (sym inputs_are)
      (subst (IsClaim (length case.seats) numbers) (sym same)
      (circuit.claim_is case right_own numbers published_own))) found some of

  -- what is given by the circuit, and what is given by it and the bids
  pub gives : {X Y : Type 0} (f : ℕ → List ℕ → X) (g : ℕ → List ℕ → List ℕ → Y) (x : X) (y : Y)
      {values : List ℕ} → values ≡ case.bids
      → IfSome found (λ made. x ≡ f (inputs_of made) (numbers_of made))
      → IfSome found (λ made. y ≡ g (inputs_of made) (numbers_of made) values)
      → (x ≡ f (length case.seats) numbers) × (y ≡ g (length case.seats) numbers case.bids)
  gives f g x y {values} same one other = (
    given_by inputs_of numbers_of inputs numbers f x found some of one
        ∙ ap (λ n. f n numbers) inputs_are,
    given_by inputs_of numbers_of inputs numbers (λ n ns. g n ns values) y found some of other
        ∙ ap (λ n. g n numbers values) inputs_are ∙ ap (g (length case.seats) numbers) same,
  )
