-- The exclusive or of lists of bits in a place, and the one list for the joint bits that are
-- wanted.
use Rattle.std.proofs.Common.{◌≡◌, ℕ, ◌+◌, ◌<◌, Bool, true, false, not, List, [], ◌∷◌, ◌++◌, length, map, take, get_or, arith, zero-add, refl, sym, ap, subst, ◌∙◌}
use mathlib.Core.Bool.{beq}
use Rattle.std.specs.List.{range_with_len}
use Rattle.std.proofs.lemmas.List.{get_or-map, length-map, map-append, take_more}
use Rattle.std.proofs.lemmas.List.FromFn.{fill_by_all, get_or-map-range_with_len, length-map-range_with_len}
use Rattle.vk_coin.specs.Bits.{HaveBits, bits_at, joint_of, own_bits_of, xor, xor_of}

-- ---- two and three bits

with_none : (bit : Bool) → xor bit false ≡ bit
with_none true = refl
with_none false = refl

turned : (a b c : Bool) → xor a (xor b c) ≡ xor b (xor a c)
turned true true c = refl
turned true false c = refl
turned false true c = refl
turned false false c = refl

regrouped : (a b c : Bool) → xor a (xor b c) ≡ xor (xor a b) c
regrouped false b c = refl
regrouped true false c = refl
regrouped true true true = refl
regrouped true true false = refl

-- two bits of which one alone is true differ
pub differ : (a b : Bool) → not (beq a b) ≡ xor a b
differ true true = refl
differ true false = refl
differ false true = refl
differ false false = refl

-- what makes a bit of others makes the others of it
solved : (own others wanted : Bool) → wanted ≡ xor own others → own ≡ xor wanted others
solved true true wanted e = ap (λ bit. xor bit true) (sym e)
solved true false wanted e = ap (λ bit. xor bit false) (sym e)
solved false true wanted e = ap (λ bit. xor bit true) (sym e)
solved false false wanted e = ap (λ bit. xor bit false) (sym e)

-- ---- a place

-- one list among others
bits_among : (place : ℕ) (before after : List (List Bool)) (own : List Bool)
    → xor_of (bits_at place (before ++ own ∷ after))
    ≡ xor (get_or own place false) (xor_of (bits_at place (before ++ after)))
bits_among place [] after own = refl
bits_among place (bits ∷ before) after own =
    ap (xor (get_or bits place false)) (bits_among place before after own)
    ∙ turned (get_or bits place false) (get_or own place false)
    (xor_of (bits_at place (before ++ after)))

-- one list behind others
bits_behind : (place : ℕ) (lists : List (List Bool)) (last : List Bool)
    → xor_of (bits_at place (lists ++ last ∷ []))
    ≡ xor (xor_of (bits_at place lists)) (get_or last place false)
bits_behind place [] last = with_none (get_or last place false)
bits_behind place (bits ∷ lists) last =
    ap (xor (get_or bits place false)) (bits_behind place lists last)
    ∙ regrouped (get_or bits place false) (xor_of (bits_at place lists)) (get_or last place false)

-- of items that have lists: each has so many bits
pub item_bits : {X : Type 0} (bits_of : X → List Bool) (items : List X) (count index : ℕ) (d : X)
    → HaveBits count (map bits_of items) → index < length items
    → length (bits_of (get_or items index d)) ≡ count
item_bits bits_of items count index d have inside =
    subst (λ bits. length bits ≡ count) (get_or-map bits_of items index d (bits_of d) inside)
    (have index (bits_of d) (rw (length-map items bits_of) inside))

-- and the exclusive or of one item more
pub item_more : {X : Type 0} (bits_of : X → List Bool) (items : List X) (first : List Bool)
    (place index : ℕ) (d : X) → index < length items
    → xor_of (bits_at place (first ∷ map bits_of (take (index + 1) items)))
    ≡ xor (xor_of (bits_at place (first ∷ map bits_of (take index items))))
    (get_or (bits_of (get_or items index d)) place false)
item_more bits_of items first place index d inside =
    ap (λ lists. xor_of (bits_at place (first ∷ lists)))
    (ap (map bits_of) (take_more items index d inside)
    ∙ map-append bits_of (take index items) (get_or items index d ∷ []))
    ∙ bits_behind place (first ∷ map bits_of (take index items)) (bits_of (get_or items index d))

-- ---- whole lists

-- the exclusive or in each of the first places
abbrev places : ℕ → List (List Bool) → List Bool
places count lists = map (λ place. xor_of (bits_at place lists)) (range_with_len 0 count)

at_place : (count place : ℕ) (lists : List (List Bool)) → place < count
    → get_or (places count lists) place false ≡ xor_of (bits_at place lists)
at_place count place lists inside =
    get_or-map-range_with_len (λ at. xor_of (bits_at at lists)) 0 count place place false inside
    (zero-add place)

joint_among : (count : ℕ) (before after : List (List Bool)) (own : List Bool) → length own ≡ count
    → HaveBits count (before ++ after)
    → joint_of (before ++ own ∷ after) ≡ places count (before ++ own ∷ after)
unfolding joint_of
joint_among count [] after own one have = ap (λ n. places n (own ∷ after)) one
joint_among count (bits ∷ before) after own one have =
    ap (λ n. places n (bits ∷ before ++ own ∷ after)) (have 0 [] (omega arith))

-- there are as many joint bits as the first list has
pub joint_count : (bits : List Bool) (others : List (List Bool))
    → length (joint_of (bits ∷ others)) ≡ length bits
unfolding joint_of
joint_count bits others = length-map-range_with_len
    (λ place. xor_of (bits_at place (bits ∷ others))) 0 (length bits)

-- ---- the one list that makes the joint bits those that are wanted

pub own_is_that : (before after : List (List Bool)) (own wanted : List Bool)
    → length own ≡ length wanted → HaveBits (length wanted) (before ++ after)
    → joint_of (before ++ own ∷ after) ≡ wanted → own ≡ own_bits_of wanted (before ++ after)
unfolding joint_of
own_is_that before after own wanted long have same =
    fill_by_all (λ place. xor_of (bits_at place (wanted ∷ before ++ after))) own (length wanted)
    false long
    (λ place inside.
    solved (get_or own place false) (xor_of (bits_at place (before ++ after)))
    (get_or wanted place false)
    (ap (λ bits. get_or bits place false)
    (sym same ∙ joint_among (length wanted) before after own long have)
    ∙ at_place (length wanted) place (before ++ own ∷ after) inside
    ∙ bits_among place before after own))

pub that_makes_them : (before after : List (List Bool)) (own wanted : List Bool)
    → length own ≡ length wanted → HaveBits (length wanted) (before ++ after)
    → own ≡ own_bits_of wanted (before ++ after) → joint_of (before ++ own ∷ after) ≡ wanted
unfolding joint_of
that_makes_them before after own wanted long have is =
    joint_among (length wanted) before after own long have
    ∙ sym (fill_by_all (λ place. xor_of (bits_at place (before ++ own ∷ after))) wanted
    (length wanted) false refl
    (λ place inside.
    solved (get_or wanted place false) (xor_of (bits_at place (before ++ after)))
    (get_or own place false)
    (ap (λ bits. get_or bits place false) is
    ∙ at_place (length wanted) place (wanted ∷ before ++ after) inside)
    ∙ sym (bits_among place before after own)))
