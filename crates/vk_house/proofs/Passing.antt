-- A command that isn't refused has passed all its tests.
use Rattle.std.proofs.Common.{◌≡◌, Bool, true, false, not, List, [], ◌∷◌, Option, Some, None, option_map, refl}
use Rattle.std.specs.Bool.{then_some}
use Rattle.std.specs.List.{AllByRecursion}
use Rattle.vk_keeper.specs.Joining.{first_of}

-- where no test is the first to hold, none holds
pub none_holds : {X : Type 0} (tests : List (Option X)) → first_of tests ≡ None
    → AllByRecursion (λ test. test ≡ None) tests
unfolding first_of
none_holds [] none = tt
none_holds (None ∷ tests) none = (refl, none_holds tests none)
none_holds (Some refusal ∷ tests) none = cc

pub test_passed : {X : Type 0} (test : Bool) (refusal : X) → then_some (not test) refusal ≡ None
    → test ≡ true
test_passed true refusal none = refl
test_passed false refusal none = cc

pub nothing_there : {X Y : Type 0} (f : X → Y) (found : Option X) → option_map f found ≡ None
    → found ≡ None
nothing_there f None none = refl
nothing_there f (Some x) none = cc

-- a test that isn't this refusal, before others whose first isn't
pub not_first : {X : Type 0} (test : Option X) (tests : List (Option X)) (refusal : X)
    → (test ≡ Some refusal → ⊥) → (first_of tests ≡ Some refusal → ⊥)
    → first_of (test ∷ tests) ≡ Some refusal → ⊥
unfolding first_of
not_first None tests refusal here later is = later is
not_first (Some other) tests refusal here later is = here is

pub refusal_is : {X : Type 0} (test : Bool) (given refusal : X)
    → then_some test given ≡ Some refusal → given ≡ refusal
refusal_is true given refusal is = cc
refusal_is false given refusal is = cc
