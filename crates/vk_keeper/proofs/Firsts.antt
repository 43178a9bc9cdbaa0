-- Auctions that were kept before, lifted.
use Rattle.std.proofs.Common.{◌≡◌, ◌≢◌, ℕ, map, Bool, true, false, cond, List, [], ◌∷◌, Option, Some, option_map, refl, sym, ap, subst, ◌∙◌, arith}
use Rattle.std.specs.List.{All, AllPairs}
use Rattle.std.specs.FinMap.{get, entries, find, get-entries, get-from_entries, same_map}
use Rattle.std.specs.Ordering.{eq_by_cmp, nat_cmp}
use Rattle.std.specs.Cmp.Lexicographic.{slice_cmp}
use Rattle.std.proofs.lemmas.Cmp.{nat_list_cmp_total}
use Rattle.std.proofs.lemmas.List.Elements.{All-nil, All-cons, All-head, All-tail}
use Rattle.std.proofs.lemmas.Map.Lookups.{exact_bytes}
use Rattle.std.proofs.lemmas.Nat.{pow_pos}
use Rattle.vk_keeper.specs.declared.auction.FirstAuction.{FirstAuction}
use Rattle.vk_keeper.specs.Auctions.{IsAuction, IsTerms}
use Rattle.vk_keeper.specs.First.{IsFirstAuction, lifted, FirstLedger, first_entry_of, first_ledger_in, lifted_entry, lifted_ledger}
use Rattle.vk_keeper.specs.Kept.{AreKept, entry_of, ids_of, ledger_in}

-- the terms of version 1
pub first_terms : (width : ℕ) → IsTerms 1 width 0
first_terms width = record {
  least = omega arith;
  most = omega arith;
  small = pow_pos width;
  unnamed = λ _. refl;
}

-- it is an auction of that version
pub lifted_right : (first : FirstAuction) → IsFirstAuction first → IsAuction (lifted first)
lifted_right first is = record { held = is; terms = first_terms first.width }

each_lifted : (firsts : List FirstAuction) → All IsFirstAuction firsts
    → All IsAuction (map lifted firsts)
each_lifted [] each = All-nil IsAuction
each_lifted (first ∷ later) each =
    All-cons IsAuction (lifted first) (map lifted later)
    (lifted_right first (All-head IsFirstAuction first later each))
    (each_lifted later (All-tail IsFirstAuction first later each))

ids_lifted : (firsts : List FirstAuction)
    → ids_of (map lifted firsts) ≡ map (λ first. first.id) firsts
ids_lifted [] = refl
ids_lifted (first ∷ later) = ap (λ ids. first.id ∷ ids) (ids_lifted later)

-- what is kept of auctions whose ids differ
pub kept_lifted : (firsts : List FirstAuction) → All IsFirstAuction firsts
    → AllPairs (λ earlier later. earlier ≢ later) (map (λ first. first.id) firsts)
    → AreKept (map lifted firsts)
kept_lifted firsts each ids = record {
  each = each_lifted firsts each;
  ids = subst (AllPairs (λ earlier later. earlier ≢ later)) (sym (ids_lifted firsts)) ids;
}

-- ---- a ledger lifted

pub lifted_if : (same : Bool) (first : FirstAuction) (rest : Option FirstAuction)
    → cond same (Some (lifted first)) (option_map lifted rest)
    ≡ option_map lifted (cond same (Some first) rest)
lifted_if true first rest = refl
lifted_if false first rest = refl

found_lifted : (id : List ℕ) (kept : List (List ℕ × FirstAuction))
    → find (slice_cmp nat_cmp) id (map lifted_entry kept)
    ≡ option_map lifted (find (slice_cmp nat_cmp) id kept)
found_lifted id [] = refl
found_lifted id (entry ∷ later) =
    ap (cond (eq_by_cmp (slice_cmp nat_cmp) id entry.0) (Some (lifted entry.1)))
    (found_lifted id later)
    ∙ lifted_if (eq_by_cmp (slice_cmp nat_cmp) id entry.0) entry.1
    (find (slice_cmp nat_cmp) id later)

entries_lifted : (firsts : List FirstAuction)
    → map entry_of (map lifted firsts) ≡ map lifted_entry (map first_entry_of firsts)
entries_lifted [] = refl
entries_lifted (first ∷ later) = ap (λ rest. (first.id, lifted first) ∷ rest) (entries_lifted later)

-- under each id it has what stood there, lifted
pub get_lifted : (firsts : FirstLedger) (id : List ℕ)
    → get (lifted_ledger firsts) id ≡ option_map lifted (get firsts id)
unfolding lifted_ledger
get_lifted firsts id =
    get-from_entries nat_list_cmp_total (map lifted_entry (entries firsts)) id
    ∙ found_lifted id (entries firsts)
    ∙ ap (option_map lifted) (sym (get-entries firsts id))

-- what is made of auctions that are lifted is the ledger lifted that they made
pub ledger_lifted : (firsts : List FirstAuction)
    → ledger_in (map lifted firsts) ≡ lifted_ledger (first_ledger_in firsts)
unfolding ledger_in
ledger_lifted firsts =
    same_map nat_list_cmp_total exact_bytes _ _ (λ id.
    get-from_entries nat_list_cmp_total (map entry_of (map lifted firsts)) id
    ∙ ap (find (slice_cmp nat_cmp) id) (entries_lifted firsts)
    ∙ found_lifted id (map first_entry_of firsts)
    ∙ ap (option_map lifted) (sym
    (get-from_entries nat_list_cmp_total (map first_entry_of firsts) id))
    ∙ sym (get_lifted (first_ledger_in firsts) id))
