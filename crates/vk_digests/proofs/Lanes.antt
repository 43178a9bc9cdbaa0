-- A lane of what operators give, and of the words of four messages.
use Rattle.std.proofs.Common.{◌≡◌, ℕ, zero, suc, ◌<◌, List, ◌∷◌, [], length, slice_index, slice_index_or, slice_set, map, arith, Fits, refl, ◌^◌, ◌∙◌}
use Rattle.std.proofs.lemmas.Simd.{Each1-get_or, below_from_Fits, get_or-zip2, length-zip2}
use Rattle.std.proofs.lemmas.List.{get_or-map, length-map, map-set}
use Rattle.std.proofs.Math.ListN.{get_or-map as get_or-map-default}
use Rattle.std.specs.Int.{w32}
use Rattle.std.specs.Simd.Lanes.{Each1, zip2}
use Rattle.vk_digests.specs.Lanes.{lane}

-- an operator on two vectors
pub lane_zip2 : (f : ℕ → ℕ → ℕ) (x y : List ℕ) (j : ℕ) → length x ≡ 4 → length y ≡ 4 → j < 4
    → slice_index (zip2 f x y) j ≡ f (slice_index x j) (slice_index y j)
lane_zip2 f x y j four_x four_y lt = get_or-zip2 f x y j 0 0 0 (omega arith) (omega arith)

pub length_zip2 : (f : ℕ → ℕ → ℕ) (x y : List ℕ) → length x ≡ 4 → length y ≡ 4
    → length (zip2 f x y) ≡ 4
length_zip2 f x y four_x four_y = length-zip2 f x y (omega arith) ∙ four_x

pub lane_map : (f : ℕ → ℕ) (x : List ℕ) (j : ℕ) → length x ≡ 4 → j < 4
    → slice_index (map f x) j ≡ f (slice_index x j)
lane_map f x j four lt = get_or-map f x j 0 0 (omega arith)

pub lane_splat : (n j : ℕ) → j < 4 → slice_index (n ∷ n ∷ n ∷ n ∷ []) j ≡ n
lane_splat n zero lt = refl
lane_splat n (suc zero) lt = refl
lane_splat n (suc (suc zero)) lt = refl
lane_splat n (suc (suc (suc zero))) lt = refl
lane_splat n (suc (suc (suc (suc j)))) lt = absurd (omega arith)

-- each lane is a word
pub lane_fits : (x : List ℕ) (j : ℕ) → (length x ≡ 4) × Each1 (Fits w32) x → j < 4
    → slice_index x j < 2 ^ 32
lane_fits x j fits lt =
    Each1-get_or (λ word. word < 2 ^ 32) x j 0 (omega arith) (below_from_Fits w32 x fits.1)

-- a word of a message
pub lane_at : (j k : ℕ) (words : List (List ℕ))
    → slice_index (lane j words) k ≡ slice_index (slice_index_or words k []) j
lane_at j k words = get_or-map-default (λ word. slice_index word j) words k []

-- another word at that place
pub lane_set : (j k : ℕ) (words : List (List ℕ)) (word : List ℕ)
    → lane j (slice_set words k word) ≡ slice_set (lane j words) k (slice_index word j)
lane_set j k words word = map-set (λ x. slice_index x j) words k word

pub ruleset lanes = (lane_zip2, length_zip2, lane_map, length-map, lane_splat)
