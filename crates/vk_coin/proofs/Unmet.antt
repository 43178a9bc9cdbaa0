-- What is found of the parts of a coin: the first auditor whose share doesn't open its part.
use Rattle.std.proofs.Common.{◌≡◌, ℕ, zero, suc, ◌+◌, ◌<◌, Bool, true, false, if◌then◌else◌, List, [], ◌∷◌, length, slice_get, Option, Some, None, ◌⊎◌, inl, inr, refl, sym, ap, ◌∙◌, arith, subst}
use Rattle.std.specs.Str.{bytes_eq}
use Rattle.std.proofs.lemmas.Bool.{cases_lt, cases_eq}
use Rattle.std.proofs.lemmas.Option.{same_Some}
use Rattle.std.proofs.lemmas.Slice.Eq.{bytes_eq-Decides}
use Rattle.vk_coin.specs.declared.coin.Coin.{Coin}
use Rattle.vk_coin.specs.declared.share.Share.{Share}
use Rattle.vk_coin.specs.Shares.{share_digest}
use Rattle.vk_coin.specs.Coins.{IsCoin, IsFirstUnmet, OpensParts, unmet_from, unmet_part}

-- the share at a place opens the part there
abbrev OpensAt : List (List ℕ) → List Share → ℕ → Type 0
OpensAt parts shares index = (part : List ℕ) (share : Share) → slice_get parts index ≡ Some part
    → slice_get shares index ≡ Some share → share_digest share ≡ part

-- the place is the first where none does
abbrev IsFirst : List (List ℕ) → List Share → ℕ → Type 0
IsFirst parts shares index = (index < length parts) × (OpensAt parts shares index → ⊥)
    × ((earlier : ℕ) → earlier < index → OpensAt parts shares earlier)

some_by : (test : Bool) (later : Option ℕ) (number auditor : ℕ)
    → (if test then later else Some number) ≡ Some auditor
    → ((test ≡ true) × (later ≡ Some auditor)) ⊎ ((test ≡ false) × (number ≡ auditor))
some_by true later number auditor some = inl (refl, some)
some_by false later number auditor some = inr (refl, same_Some number auditor some)

none_by : (test : Bool) (later : Option ℕ) (number : ℕ)
    → (if test then later else Some number) ≡ None → (test ≡ true) × (later ≡ None)
none_by true later number none = (refl, none)
none_by false later number none = cc

-- at the first place
opens_here : (part : List ℕ) (parts : List (List ℕ)) (share : Share) (shares : List Share)
    → bytes_eq (share_digest share) part ≡ true → OpensAt (part ∷ parts) (share ∷ shares) 0
opens_here part parts share shares test p s is_part is_share =
    let P : List ℕ → Type 0 = λ q. share_digest s ≡ q in
    let S : Share → Type 0 = λ one. share_digest one ≡ part in
    subst P (same_Some part p is_part)
    (subst S (same_Some share s is_share) ((bytes_eq-Decides (share_digest share) part).0 test))

unmet_here : (part : List ℕ) (parts : List (List ℕ)) (share : Share) (shares : List Share)
    → bytes_eq (share_digest share) part ≡ false → OpensAt (part ∷ parts) (share ∷ shares) 0 → ⊥
unmet_here part parts share shares test opens =
    let met = (bytes_eq-Decides (share_digest share) part).1 (opens part share refl refl) in
    let never : true ≡ false = sym met ∙ test in
    cc

-- and at those after it
from_here : (part : List ℕ) (parts : List (List ℕ)) (share : Share) (shares : List Share)
    (index : ℕ) → bytes_eq (share_digest share) part ≡ true
    → ((earlier : ℕ) → earlier < index → OpensAt parts shares earlier) → (earlier : ℕ)
    → earlier < suc index → OpensAt (part ∷ parts) (share ∷ shares) earlier
from_here part parts share shares index test before zero less =
    opens_here part parts share shares test
from_here part parts share shares index test before (suc earlier) less =
    before earlier (omega arith)

first_found : (number : ℕ) (parts : List (List ℕ)) (shares : List Share) (auditor : ℕ)
    → unmet_from number parts shares ≡ Some auditor
    → (index : ℕ) × (auditor ≡ number + index) × IsFirst parts shares index
first_found number [] shares auditor some = cc
first_found number (part ∷ parts) [] auditor some = cc
first_found number (part ∷ parts) (share ∷ shares) auditor some =
    elim (some_by (bytes_eq (share_digest share) part) (unmet_from (number + 1) parts shares) number
    auditor some) [
      | inl after ↦
          let found = first_found (number + 1) parts shares auditor after.1 in
          let same = found.1 in
          let within = found.2.0 in (
            suc found.0,
            omega arith,
            (omega arith, found.2.1, from_here part parts share shares found.0 after.0 found.2.2),
          )
      | inr here ↦ (
        0,
        omega (arith, here.1),
        (
          omega arith,
          unmet_here part parts share shares here.0,
          λ earlier less. absurd (omega arith),
        ),
      )
    ]

all_open : (number : ℕ) (parts : List (List ℕ)) (shares : List Share) → length shares ≡ length parts
    → unmet_from number parts shares ≡ None
    → (index : ℕ) → index < length parts → OpensAt parts shares index
all_open number [] shares same none index within = absurd (omega arith)
all_open number (part ∷ parts) [] same none index within = absurd (omega arith)
all_open number (part ∷ parts) (share ∷ shares) same none zero within =
    opens_here part parts share shares
    (none_by (bytes_eq (share_digest share) part) (unmet_from (number + 1) parts shares) number
    none).0
all_open number (part ∷ parts) (share ∷ shares) same none (suc index) within =
    all_open (number + 1) parts shares (omega arith)
    (none_by (bytes_eq (share_digest share) part) (unmet_from (number + 1) parts shares) number
    none).1 index (omega arith)

-- ---- of a coin

pub found_is_first : (coin : Coin) (auditor : ℕ) → unmet_part coin ≡ Some auditor
    → IsFirstUnmet coin auditor
unfolding unmet_part
found_is_first coin auditor some =
    let found = first_found 1 coin.parts coin.shares auditor some in
    let same = found.1 in
    record {
      index = found.0;
      number = omega arith;
      within = found.2.0;
      unmet = found.2.1;
      before = found.2.2;
    }

pub none_opens_all : (coin : Coin) → IsCoin coin → unmet_part coin ≡ None → OpensParts coin
unfolding unmet_part
none_opens_all coin is none = all_open 1 coin.parts coin.shares is.one_each none

-- there is one first
one_first : (coin : Coin) (auditor other : ℕ) → IsFirstUnmet coin auditor → IsFirstUnmet coin other
    → auditor ≡ other
one_first coin auditor other first second =
    let this = first.number in
    let that = second.number in
    elim (cases_lt first.index second.index) [
      | inl less ↦ absurd (first.unmet (second.before first.index less))
      | inr more ↦
          elim (cases_eq first.index second.index) [
            | inl same ↦ omega arith
            | inr apart ↦ absurd (second.unmet (first.before second.index (omega arith)))
          ]
    ]

first_by : (coin : Coin) (auditor : ℕ) (found : Option ℕ) → IsCoin coin → unmet_part coin ≡ found
    → IsFirstUnmet coin auditor → found ≡ Some auditor
first_by coin auditor (Some other) is some first =
    ap Some (sym (one_first coin auditor other first (found_is_first coin other some)))
first_by coin auditor None is none first =
    absurd (first.unmet (none_opens_all coin is none first.index first.within))

pub first_is_found : (coin : Coin) (auditor : ℕ) → IsCoin coin → IsFirstUnmet coin auditor
    → unmet_part coin ≡ Some auditor
first_is_found coin auditor is first = first_by coin auditor (unmet_part coin) is refl first

none_by_all : (coin : Coin) (found : Option ℕ) → unmet_part coin ≡ found → OpensParts coin
    → found ≡ None
none_by_all coin (Some auditor) some all =
    let first = found_is_first coin auditor some in
    absurd (first.unmet (all first.index first.within))
none_by_all coin None none all = refl

pub all_gives_none : (coin : Coin) → OpensParts coin → unmet_part coin ≡ None
all_gives_none coin all = none_by_all coin (unmet_part coin) refl all
