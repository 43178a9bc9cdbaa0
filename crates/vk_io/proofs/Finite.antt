-- Maps from texts, as files are from their names: what they hold after one or two changes.
use Rattle.std.proofs.Common.{◌≡◌, ◌≢◌, ℕ, Bool, true, false, cond, List, Option, Some, refl, sym, ap, ◌∙◌}
use Rattle.std.specs.Str.{bytes_eq}
use Rattle.std.specs.Ordering.{nat_cmp}
use Rattle.std.specs.Cmp.Lexicographic.{slice_cmp}
use Rattle.std.specs.FinMap.{FinMap, get, insert, get-insert, same_map}
use Rattle.std.proofs.lemmas.Cmp.{nat_list_cmp_total}
use Rattle.std.proofs.lemmas.Map.Lookups.{exact_bytes}
use Rattle.std.proofs.lemmas.Map.Text.{is_eq-slice_cmp}
use Rattle.std.proofs.lemmas.Slice.Eq.{bytes_eq-Decides}

abbrev pub TextMap : Type 0 → Type 0
TextMap V = FinMap (slice_cmp nat_cmp) V

-- what a name has after a change at another name or at this one
pub get_inserted : {V : Type 0} (m : TextMap V) (k : List ℕ) (v : V) (q : List ℕ)
    → get (insert m k v) q ≡ cond (bytes_eq q k) (Some v) (get m q)
get_inserted m k v q = get-insert nat_list_cmp_total m k v q
    ∙ ap (λ b. cond b (Some v) (get m q)) (is_eq-slice_cmp q k)

-- maps that have the same under each name are the same
pub same_files : {V : Type 0} (m n : TextMap V) → ((q : List ℕ) → get m q ≡ get n q) → m ≡ n
same_files m n h = same_map nat_list_cmp_total exact_bytes m n h

-- the last change at a name counts
pub insert_over : {V : Type 0} (m : TextMap V) (k : List ℕ) (v w : V)
    → insert (insert m k v) k w ≡ insert m k w
insert_over m k v w = same_files _ _ (λ q.
    get_inserted (insert m k v) k w q
    ∙ elim (bytes_eq q k) as (λ b. get (insert m k v) q ≡ cond b (Some v) (get m q)
    → cond b (Some w) (get (insert m k v) q) ≡ cond b (Some w) (get m q)) [
      | true ↦ λ _. refl
      | false ↦ λ e. e
    ] (get_inserted m k v q)
    ∙ sym (get_inserted m k w q))

two_names : {V : Type 0} (q k l : List ℕ) (a b : Bool) → bytes_eq q k ≡ a → bytes_eq q l ≡ b
    → k ≢ l → (x y z : Option V) → cond b x (cond a y z) ≡ cond a y (cond b x z)
two_names q k l true true p r n x y z =
    absurd (n (sym ((bytes_eq-Decides q k).0 p) ∙ (bytes_eq-Decides q l).0 r))
two_names q k l true false p r n x y z = refl
two_names q k l false b p r n x y z = refl

-- changes at two names come in either order
pub insert_swap : {V : Type 0} (m : TextMap V) (k : List ℕ) (v : V) (l : List ℕ) (w : V) → k ≢ l
    → insert (insert m k v) l w ≡ insert (insert m l w) k v
insert_swap m k v l w n = same_files _ _ (λ q.
    get_inserted (insert m k v) l w q
    ∙ ap (cond (bytes_eq q l) (Some w)) (get_inserted m k v q)
    ∙ two_names q k l _ _ refl refl n (Some w) (Some v) (get m q)
    ∙ sym (get_inserted (insert m l w) k v q
    ∙ ap (cond (bytes_eq q k) (Some v)) (get_inserted m l w q)))

-- what a name has after a change at it
pub get_own : {V : Type 0} (m : TextMap V) (k : List ℕ) (v : V) → get (insert m k v) k ≡ Some v
get_own m k v = get_inserted m k v k
    ∙ ap (λ b. cond b (Some v) (get m k)) ((bytes_eq-Decides k k).1 refl)
