-- When all are held, the matching is one of all, and no pair blocks it.
use Rattle.std.proofs.Common.{ℕ, ◌+◌, ◌-◌, ◌<◌, ◌≤◌, ◌≡◌, Bool, Option, Some, None, List, inl, inr, slice_index, sym, ap, subst, ◌∙◌, arith}
use Rattle.std.proofs.lemmas.Bool.{cases_Bool}
use Rattle.std.proofs.lemmas.List.{get_or_default}
use Rattle.vk_matching.specs.Stability.{IsPerson, IsPermutation, IsStable, wife_of}
use Rattle.vk_matching.specs.Courting.{AreWives, IsCourting, court_of, held_by}

module _ {size entered : ℕ} {ranks : List ℕ} {asked : List Bool} {holders : List (Option ℕ)} {matching : List ℕ}
    (courting : IsCourting size ranks asked holders entered None) (all : entered ≡ size)
    (wives : AreWives size (held_by holders) size matching) where
  -- each man is held, by the woman before the number that he is matched with
  his_woman : (man : ℕ) → man < size
      → (woman : ℕ) × (woman < size) × (held_by holders woman ≡ Some man)
      × (slice_index matching man ≡ woman + 1)
  his_woman man is_man =
      let held = courting.rules.without.all_others man (omega (arith, is_man, all)) (λ is. cc) in
      (held.0, held.1, held.2, wives.is_wife man held.0 held.1 held.2)

  pub all_matched : IsPermutation size matching
  all_matched = record {
    one_each = wives.one_each;
    are_persons = λ man d inside.
        let his = his_woman man (omega (arith, wives.one_each)) in
        subst (IsPerson size) (sym his.3 ∙ get_or_default matching man 0 d inside)
        (record { some = omega arith; within = omega (arith, his.1) });
    all_different = λ man other d before inside same.
        let his = his_woman man (omega (arith, wives.one_each)) in
        let others = his_woman other (omega (arith, wives.one_each)) in
        let one : slice_index matching man ≡ slice_index matching other =
        get_or_default matching man 0 d (omega arith) ∙ same
        ∙ sym (get_or_default matching other 0 d inside) in
        let woman : his.0 ≡ others.0 = omega (arith, his.3, others.3, one) in
        let men : Some man ≡ Some other = sym his.2 ∙ ap (held_by holders) woman ∙ others.2 in
        let e : man ≡ other = cc in
        omega (arith, e);
  }

  -- whoever holds a woman's number is the man whom she holds
  her_man : (woman husband : ℕ) → 1 ≤ woman → IsPerson size husband
      → wife_of matching husband ≡ woman
      → held_by holders (woman - 1) ≡ Some (husband - 1)
  her_man woman husband some is_husband is_hers =
      let his = his_woman (husband - 1) (omega (arith, is_husband.some, is_husband.within)) in
      let e : his.0 ≡ woman - 1 = omega (arith, his.3, is_hers) in
      ap (held_by holders) (sym e) ∙ his.2

  pub none_blocks : IsStable size ranks matching
  none_blocks man woman blocking =
      let court = court_of size ranks asked holders in
      let he = man - 1 in
      let she = woman - 1 in
      let is_he : he < size = omega (arith, blocking.is_man.some, blocking.is_man.within) in
      let is_she : she < size = omega (arith, blocking.is_woman.some, blocking.is_woman.within) in
      let his = his_woman he is_he in
      let own : wife_of matching man - 1 ≡ his.0 = omega (arith, his.3) in
      let prefers : court.his_rank he she < court.his_rank he his.0 =
      subst (λ w. court.his_rank he she < court.his_rank he w) own blocking.he_prefers in
      let husband = her_man woman blocking.husband blocking.is_woman.some blocking.is_husband
      blocking.is_hers in
      elim (cases_Bool (court.asked he she)) [
        | inl yes_asked ↦
            (let held = courting.rules.best_held he she is_he is_she yes_asked in
            let one : Some held.0 ≡ Some (blocking.husband - 1) = sym held.1 ∙ husband in
            let e : held.0 ≡ blocking.husband - 1 = cc in
            let rank = ap (court.her_rank she) e in
            omega (arith, held.2, rank, blocking.she_prefers))
        | inr not_asked ↦
            (let asked_own = courting.rules.asked_her he his.0 his.1 his.2 in
            omega (
              arith,
              prefers,
              courting.rules.better_first he his.0 she is_he his.1 is_she asked_own not_asked,
            ))
      ]
