-- The tests decide what an opening is, and what it opens.
use Rattle.std.proofs.Common.{ℕ, ◌<◌, List, length, slice_index, arith, refl, inl, inr}
use Rattle.std.specs.Bool.{Decides}
use Rattle.std.specs.List.{list_all, All}
use Rattle.std.specs.Prelude.{nat_lt}
use Rattle.std.specs.Str.{bytes_eq}
use Rattle.std.proofs.lemmas.Bool.{cases_lt}
use Rattle.std.proofs.lemmas.Bool.Decides.{Decides-and, Decides-by_and, Decides-eqb, Decides-ltb}
use Rattle.std.proofs.lemmas.Slice.Eq.{bytes_eq-Decides}
use Rattle.std.proofs.lemmas.List.{get_or_past, get_or_default}
use Rattle.vk_residue.specs.Residue.{modulus}
use Rattle.vk_commit.specs.Commitment.{digest_of, Opens, opens_test}
use Rattle.vk_commit.specs.Values.{IsOpening, is_opening}
use Rattle.vk_commit.specs.declared.place.Opening.{Opening}
use Rattle.vk_commit.specs.declared.place.Place.{Place}

-- each number of the list is below 256, past its end too
bytes_at : (bytes : List ℕ) → All (λ byte. byte < 256) bytes → (i : ℕ) → slice_index bytes i < 256
bytes_at bytes small i =
    elim (cases_lt i (length bytes)) [
      | inl within ↦ small i 0 within
      | inr past ↦ rw (get_or_past bytes i 0 past) (omega arith)
    ]

pub is_opening_decides : (opening : Opening) → Decides (is_opening opening) (IsOpening opening)
unfolding is_opening
is_opening_decides opening =
    let size = Decides-eqb (length opening.key) 32 in
    let bytes = Decides-by_and (λ byte. nat_lt byte 256) (λ byte. byte < 256)
    (list_all (λ byte. nat_lt byte 256)) (λ byte. Decides-ltb byte 256) refl (λ _ _. refl)
    opening.key in
    let value = Decides-ltb opening.value modulus in
    let all = Decides-and _ _ (Decides-and _ _ size bytes) value in (
      λ test. let h = all.0 test in
          record { key = (h.0.0, bytes_at opening.key h.0.1); value = h.1 },
      λ is. all.1 (
        (is.key.0, λ k d lt. rw (get_or_default opening.key k d 0 lt) (is.key.1 k)),
        is.value,
      ),
    )

pub opens_decides : (place : Place) (digest : List ℕ) (opening : Opening)
    → Decides (opens_test place digest opening) (Opens place digest opening)
unfolding opens_test
opens_decides place digest opening =
    let kind = is_opening_decides opening in
    let same = bytes_eq-Decides (digest_of place opening) digest in
    let both = Decides-and (is_opening opening) (bytes_eq (digest_of place opening) digest) kind
    same in (
      λ test. let h = both.0 test in record { opening_is = h.0; digest_is = h.1 },
      λ opens. both.1 (opens.opening_is, opens.digest_is),
    )
