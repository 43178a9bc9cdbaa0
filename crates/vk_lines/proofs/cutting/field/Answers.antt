use Rattle.std.proofs.Common.{◌≡◌, ◌≤◌, ◌↔◌, ℕ, zero, suc, List, [], ◌∷◌, length, Option, Some, None, option_map, refl, sym, subst, arith, rules, tests}
use Rattle.std.specs.Option.{IsNone}
use Rattle.std.specs.List.{slice_get}
use Rattle.std.proofs.lemmas.Bool.{true≢false}
use Rattle.std.proofs.lemmas.Iterator.Consumers.{nth_from_yields_List}
use Rattle.std.proofs.lemmas.Iterator.Splits.{YieldsList-from_slice_split}
use Rattle.vk_lines.specs.Tokens.{fields_of}
use Rattle.vk_lines.proofs.cutting.field.Goals as goal

-- there is no element exactly where the list is no longer
past : {X : Type 0} (xs : List X) (i : ℕ) → IsNone (slice_get xs i) ↔ (length xs ≤ i)
past [] i = (λ _. omega arith, λ _. refl)
past (x ∷ xs) zero = (λ none. absurd (true≢false none), λ short. absurd (omega arith))
past (x ∷ xs) (suc i) =
    let before = past xs i in (
      λ none. omega (arith, before.0 none),
      λ short. before.1 (omega arith),
    )

shown : {A X : Type 0} (show : A → X) (result : Option A) (o : Option X) (P : Type 0)
    → option_map show result ≡ o → IsNone o ↔ P → IsNone result ↔ P
shown show None o P same none = subst (λ p. IsNone p ↔ P) (sym same) none
shown show (Some a) o P same none = subst (λ p. IsNone p ↔ P) (sym same) none

pub returns-clause-bytes : goal.returns-clause-bytes
returns-clause-bytes c =
    nth_from_yields_List c.nth.result c.nth.new.self c.args.index c.nth.ensures.ran
    (YieldsList-from_slice_split _ _ c.args.text.now c.split.ensures.rest c.split.ensures.done
    c.split.ensures.closure (λ x r q k. search (rules, tests)))

pub returns-clause-none : goal.returns-clause-none
returns-clause-none c =
    shown (λ x. x.now) c.nth.result (slice_get (fields_of c.args.text.now) c.args.index)
    (length (fields_of c.args.text.now) ≤ c.args.index)
    (returns-clause-bytes c) (past (fields_of c.args.text.now) c.args.index)
