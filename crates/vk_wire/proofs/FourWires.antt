-- Lists of four, and wires that open one entry each.
use Rattle.std.proofs.Common.{◌≡◌, Bool, false, List, [], ◌∷◌, length, slice_index_or, arith, refl, ap}
use Rattle.std.specs.List.{list_any}
use Rattle.std.specs.Simd.Lanes.{zip2}
use Rattle.vk_commit.specs.declared.place.Place.{Place}
use Rattle.vk_wire.specs.declared.wire.Shown.{Shown}
use Rattle.vk_wire.specs.declared.wire.Shown.TheVariants.{Half, Whole, Spent}
use Rattle.vk_wire.specs.declared.hashing.Which.TheVariants.{First, Last}
use Rattle.vk_wire.specs.Opened.{entry_made, opened_entry, opens_two}

-- what holds of each list of four items
list_of_four : {A : Type 0} (P : List A → Type 0) → ((a b c d : A) → P (a ∷ b ∷ c ∷ d ∷ []))
    → (items : List A) → length items ≡ 4 → P items
list_of_four P each (a ∷ b ∷ c ∷ d ∷ []) four = each a b c d
list_of_four P each [] four = absurd (omega arith)
list_of_four P each (a ∷ []) four = absurd (omega arith)
list_of_four P each (a ∷ b ∷ []) four = absurd (omega arith)
list_of_four P each (a ∷ b ∷ c ∷ []) four = absurd (omega arith)
list_of_four P each (a ∷ b ∷ c ∷ d ∷ e ∷ items) four = absurd (omega arith)

-- what a list of places has past its end
abbrev pub no_place : Place
no_place = record { auction = []; seat = 0; lane = 0; slot = 0 }

-- four places and four shown wires, one by one, whatever the list of these has past its end
pub zip2_four : {C : Type 0} (f : Place → Shown → C) (s0 s1 s2 s3 : Shown) (places : List Place)
    (shown : List Shown) → length places ≡ 4 → length shown ≡ 4
    → zip2 f places shown ≡ f (slice_index_or places 0 no_place) (slice_index_or shown 0 s0)
    ∷ f (slice_index_or places 1 no_place) (slice_index_or shown 1 s1)
    ∷ f (slice_index_or places 2 no_place) (slice_index_or shown 2 s2)
    ∷ f (slice_index_or places 3 no_place) (slice_index_or shown 3 s3) ∷ []
zip2_four f s0 s1 s2 s3 places shown four_places four_shown =
    list_of_four (λ ps. zip2 f ps shown
    ≡ f (slice_index_or ps 0 no_place) (slice_index_or shown 0 s0)
    ∷ f (slice_index_or ps 1 no_place) (slice_index_or shown 1 s1)
    ∷ f (slice_index_or ps 2 no_place) (slice_index_or shown 2 s2)
    ∷ f (slice_index_or ps 3 no_place) (slice_index_or shown 3 s3) ∷ [])
    (λ p0 p1 p2 p3. list_of_four
    (λ ss. zip2 f (p0 ∷ p1 ∷ p2 ∷ p3 ∷ []) ss
    ≡ f p0 (slice_index_or ss 0 s0) ∷ f p1 (slice_index_or ss 1 s1)
    ∷ f p2 (slice_index_or ss 2 s2) ∷ f p3 (slice_index_or ss 3 s3) ∷ []) (λ a b c d. refl) shown
    four_shown) places four_places

-- where no wire opens two entries, what is opened first is what is opened last
pub firsts_are_lasts : (places : List Place) (shown : List Shown) (bit : Bool)
    → list_any opens_two shown ≡ false
    → zip2 (λ place s. entry_made place (opened_entry s bit First)) places shown
    ≡ zip2 (λ place s. entry_made place (opened_entry s bit Last)) places shown
firsts_are_lasts [] shown bit none = refl
firsts_are_lasts (place ∷ places) [] bit none = refl
firsts_are_lasts (place ∷ places) (Half opening ∷ shown) bit none =
    ap (λ rest. entry_made place (bit, opening) ∷ rest) (firsts_are_lasts places shown bit none)
firsts_are_lasts (place ∷ places) (Whole first second ∷ shown) bit none = absurd (cc)
firsts_are_lasts (place ∷ places) (Spent second opening ∷ shown) bit none =
    ap (λ rest. entry_made place (second, opening) ∷ rest) (firsts_are_lasts places shown bit none)
