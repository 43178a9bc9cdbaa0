-- What a question changes, of courts as functions: the man has asked the woman, and either she
-- stays with the one whom she holds, or she takes him.
use Rattle.std.proofs.Common.{ℕ, ◌<◌, ◌≤◌, ◌≡◌, ◌≢◌, Bool, true, false, Option, Some, ◌⊎◌, inl, inr, refl, sym, ap, subst, ◌∙◌, arith}
use Rattle.std.proofs.lemmas.Bool.{cases_eq}
use Rattle.vk_matching.specs.Courting.{Court, AreHeld, IsWithout, HoldsAsGood, AreRules, IsBest}

-- a question is this one, or it differs in the man or in the woman
is_question : (suitor woman man other : ℕ)
    → ((man ≡ suitor) × (other ≡ woman)) ⊎ ((man ≢ suitor) ⊎ (other ≢ woman))
is_question suitor woman man other = elim (cases_eq man suitor) [
  | inr differs ↦ inr (inl differs)
  | inl same ↦ elim (cases_eq other woman)
      [ inl too ↦ inl (same, too) | inr differs ↦ inr (inr differs) ]
]

module _ {court : Court} {entered suitor woman : ℕ} (rules : AreRules court entered (Some suitor))
    (best : IsBest court suitor court.size woman) (asked : ℕ → ℕ → Bool) (here : asked suitor woman ≡ true)
    (there : (man other : ℕ) → other < court.size → (man ≢ suitor) ⊎ (other ≢ woman)
    → asked man other ≡ court.asked man other) where
  still_asked : (man other : ℕ) → other < court.size → court.asked man other ≡ true
      → asked man other ≡ true
  still_asked man other inside before = elim (is_question suitor woman man other) [
    | inl same ↦ ap (λ m. asked m other) same.0 ∙ ap (asked suitor) same.1 ∙ here
    | inr differs ↦ there man other inside differs ∙ before
  ]

  not_before : (man other : ℕ) → other < court.size → asked man other ≡ false
      → court.asked man other ≡ false
  not_before man other inside now = elim (is_question suitor woman man other) [
    | inl same ↦ (let asked_now = ap (λ m. asked m other) same.0 ∙ ap (asked suitor) same.1 ∙ here
        in cc)
    | inr differs ↦ sym (there man other inside differs) ∙ now
  ]

  was_asked : (man other : ℕ) → other < court.size → asked man other ≡ true
      → ((man ≡ suitor) × (other ≡ woman)) ⊎ (court.asked man other ≡ true)
  was_asked man other inside now = elim (is_question suitor woman man other) [
    | inl same ↦ inl same
    | inr differs ↦ inr (sym (there man other inside differs) ∙ now)
  ]

  better_first : (man liked other : ℕ) → man < court.size → liked < court.size → other < court.size
      → asked man liked ≡ true → asked man other ≡ false
      → court.his_rank man liked ≤ court.his_rank man other
  better_first man liked other is_man is_liked is_other asks not_other =
      let not_yet = not_before man other is_other not_other in
      elim (was_asked man liked is_liked asks) [
        | inl same ↦
            subst (λ m. court.his_rank m liked ≤ court.his_rank m other) (sym same.0)
            (subst (λ w. court.his_rank suitor w ≤ court.his_rank suitor other) (sym same.1)
            (best.no_better other is_other
            (subst (λ m. court.asked m other ≡ false) same.0 not_yet)))
        | inr before ↦ rules.better_first man liked other is_man is_liked is_other before not_yet
      ]

  -- she stays with the one whom she holds
  pub stays : HoldsAsGood court woman suitor
      → AreRules (record court { asked = asked }) entered (Some suitor)
  stays as_good = record {
    entering = rules.entering;
    are_held = rules.are_held;
    without = record {
      has_entered = rules.without.has_entered;
      not_held = rules.without.not_held;
      all_others = rules.without.all_others;
    };
    asked_her = λ man other inside is.
        still_asked man other inside (rules.asked_her man other inside is);
    best_held = λ man other is_man is_woman now.
        elim (was_asked man other is_woman now) [
          | inl same ↦
              subst (λ w. HoldsAsGood court w man) (sym same.1)
              (subst (HoldsAsGood court woman) (sym same.0) as_good)
          | inr before ↦ rules.best_held man other is_man is_woman before
        ];
    better_first = better_first;
  }

  -- she takes him, and the one whom she held, if there was one, is without a woman
  module _ (holds : ℕ → Option ℕ) (is_woman : woman < court.size) (takes_him : holds woman ≡ Some suitor)
      (others_hold : (other : ℕ) → other ≢ woman → holds other ≡ court.holds other)
      (better : (holder : ℕ) → court.holds woman ≡ Some holder
      → court.her_rank woman suitor ≤ court.her_rank woman holder) where
    -- who is held now is the suitor, by this woman, or was held by the same one
    now_held : (man other : ℕ) → holds other ≡ Some man
        → ((man ≡ suitor) × (other ≡ woman)) ⊎ ((other ≢ woman) × (court.holds other ≡ Some man))
    now_held man other now = elim (cases_eq other woman) [
      | inl same ↦ (let taken = ap holds same ∙ takes_him in inl (cc, same))
      | inr differs ↦ inr (differs, sym (others_hold other differs) ∙ now)
    ]

    is_entered : suitor < entered
    is_entered = rules.without.has_entered suitor refl

    not_him : (other : ℕ) → other < court.size → court.holds other ≡ Some suitor → ⊥
    not_him other inside is = rules.without.not_held suitor other inside is refl

    taken_held : AreHeld court.size holds entered
    taken_held = record {
      have_entered = λ man other inside now.
          elim (now_held man other now) [
            | inl same ↦ subst (λ m. m < entered) (sym same.0) is_entered
            | inr before ↦ rules.are_held.have_entered man other inside before.1
          ];
      by_one = λ man one other is_one is_other now too.
          elim (now_held man one now) [
            | inl same ↦ elim (now_held man other too) [
              | inl also ↦ same.1 ∙ sym also.1
              | inr before ↦ absurd (not_him other is_other (before.1 ∙ ap Some same.0))
            ]
            | inr before ↦ elim (now_held man other too) [
              | inl same ↦ absurd (not_him one is_one (before.1 ∙ ap Some same.0))
              | inr also ↦ rules.are_held.by_one man one other is_one is_other before.1 also.1
            ]
          ];
    }

    left_without : IsWithout (record court { asked = asked; holds = holds }) entered
        (court.holds woman)
    left_without = record {
      has_entered = λ man held. rules.are_held.have_entered man woman is_woman held;
      not_held = λ man other inside now held.
          elim (now_held man other now) [
            | inl same ↦ not_him woman is_woman (held ∙ ap Some same.0)
            | inr before ↦ before.0
                (rules.are_held.by_one man other woman inside is_woman before.1 held)
          ];
      all_others = λ man early other_man.
          elim (cases_eq man suitor) [
            | inl same ↦ (woman, is_woman, takes_him ∙ ap Some (sym same))
            | inr differs ↦
                (let held = rules.without.all_others man early (λ is. differs (cc)) in
                let other = held.0 in (
                  other,
                  held.1,
                  others_hold other (λ same. other_man (ap court.holds (sym same) ∙ held.2))
                      ∙ held.2,
                ))
          ];
    }

    as_good_as_his : (man : ℕ) → man < court.size → asked man woman ≡ true
        → court.her_rank woman suitor ≤ court.her_rank woman man
    as_good_as_his man is_man now = elim (was_asked man woman is_woman now) [
      | inl same ↦ (let e = ap (court.her_rank woman) same.0 in omega (arith, e))
      | inr before ↦
          (let held = rules.best_held man woman is_man is_woman before in
          omega (arith, held.2, better held.0 held.1))
    ]

    best_held : (man other : ℕ) → man < court.size → other < court.size → asked man other ≡ true
        → HoldsAsGood (record court { asked = asked; holds = holds }) other man
    best_held man other is_man is_other now = elim (cases_eq other woman) [
      | inl same ↦
          subst (λ w. HoldsAsGood (record court { asked = asked; holds = holds }) w man) (sym same)
          (suitor, takes_him, as_good_as_his man is_man (subst (λ w. asked man w ≡ true) same now))
      | inr differs ↦ elim (was_asked man other is_other now) [
        | inl same ↦ absurd (differs same.1)
        | inr before ↦
            (let held = rules.best_held man other is_man is_other before in
            (held.0, others_hold other differs ∙ held.1, held.2))
      ]
    ]

    pub takes : AreRules (record court { asked = asked; holds = holds }) entered (court.holds woman)
    takes = record {
      entering = rules.entering;
      are_held = taken_held;
      without = left_without;
      asked_her = λ man other inside now.
          elim (now_held man other now) [
            | inl same ↦ ap (λ m. asked m other) same.0 ∙ ap (asked suitor) same.1 ∙ here
            | inr before ↦ still_asked man other inside (rules.asked_her man other inside before.1)
          ];
      best_held = best_held;
      better_first = better_first;
    }
