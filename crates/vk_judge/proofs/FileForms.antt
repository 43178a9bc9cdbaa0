-- Files of a form whose front is exact.
use Rattle.std.proofs.Common.{◌≡◌, ℕ, Bool, true, false, if◌then◌else◌, List, Some, Result, Ok, Err, inl, inr, refl, ap, sym, subst, ◌∙◌}
use Rattle.std.specs.Prelude.{option_map, ◌↔◌}
use Rattle.vk_lines.specs.Lines.{Rest}
use Rattle.vk_judge.specs.declared.answers.Part.TheVariants as part
use Rattle.vk_judge.specs.declared.answers.Fault.{Fault}
use Rattle.vk_judge.specs.declared.answers.Fault.TheVariants.{Malformed}
use Rattle.vk_judge.specs.declared.opened.Opened.{Opened}
use Rattle.vk_judge.specs.declared.opened.Refusal.{Refusal}
use Rattle.vk_judge.specs.declared.opened.Refusal.TheVariants as refusal
use Rattle.vk_judge.specs.declared.stage.Finding.{Finding}
use Rattle.vk_judge.specs.declared.stage.Finding.TheVariants.{Same, Ready}
use Rattle.vk_judge.specs.Acceptance.{AcceptsBehind}
use Rattle.vk_judge.specs.Behind.{behind_judged}
use Rattle.vk_judge.specs.Begun.{from_start}
use Rattle.vk_judge.specs.Two.{Ahead, BothAreAccepted, accepted_of, ahead_behind, same_bits, two_result}
use Rattle.vk_judge.specs.TwoLaw.{bits_in}
use Rattle.vk_judge.specs.Opened.{Coming, Front, as_found, coming_in, coming_past, in_file, judged_in, judged_past, with_head}
use Rattle.vk_judge.specs.FileForms.{Accepts, AcceptedGive, AreOfOneFile, Fails, FailsBehind, FindsByBoth, Form, GivesValues, IsForm, JudgedExactly, JudgedHolds, OnlyAcceptedGive, OpenedFront, ReadFront, base_of_file, opened_of, two_told}
use Rattle.vk_judge.proofs.Accepted.{accepted_behind}
use Rattle.vk_judge.proofs.Reasons.{fault_holds}
use Rattle.vk_judge.proofs.Exact.{fault_given}
use Rattle.vk_judge.proofs.Found.{told_accepted}
use Rattle.vk_judge.proofs.Steps.{value_same}
use Rattle.vk_judge.proofs.TwoLaw.{finds_by_judging}
use Rattle.vk_judge.proofs.TwoValues.{accepted_behind_give, only_accepted_behind}

-- ---- what two verdicts come to

by_faults : {R : Type 0} (accepted : Finding Fault) (told : Finding (Refusal R))
    (first second : Result (Unit {0}) Fault) → as_found accepted ≡ told
    → as_found (two_result accepted first second) ≡ two_told told (in_file first) (in_file second)
by_faults accepted told (Ok done) (Ok over) is = is
by_faults accepted told (Ok done) (Err fault) is = refl
by_faults accepted told (Err fault) second is = refl

-- what is found of two accepted replies is told as it is
accepted_told : (R : Type 0) (same : Bool)
    → ◌≡◌ {A = Finding (Refusal R)} (as_found (if same then Same else Ready))
    (if same then Same else Ready)
accepted_told R true = refl
accepted_told R false = refl

module _ {H R : Type 0} (challenge reply other second : List ℕ) where
  abbrev coming : Result (Opened H × Rest) (Refusal R) → Coming H R
  coming read = coming_past read (from_start challenge) (from_start reply) (from_start other)
      (from_start second)

  past_is : (read : Result (Opened H × Rest) (Refusal R))
      → (coming read).ahead.finding ≡ two_told (accepted_of (bits_in challenge) (bits_in other))
      (judged_past read (from_start challenge) (from_start reply))
      (judged_past read (from_start other) (from_start second))
  past_is (Err refusal) = refl
  past_is (Ok opened) =
      let s = opened.0.statement in
      let c = from_start challenge in
      let r = from_start reply in
      let o = from_start other in
      let t = from_start second in
      ap as_found (finds_by_judging s opened.1 c r o t)
      ∙ by_faults (accepted_of (bits_in challenge) (bits_in other))
      (accepted_of (bits_in challenge) (bits_in other)) (behind_judged s opened.1 c r)
      (behind_judged s opened.1 o t)
      (accepted_told R (same_bits (bits_in challenge) (bits_in other)))

pub finds_by_both : {H R : Type 0} (front : Front H R) → FindsByBoth front
finds_by_both front file challenge reply other second =
    past_is challenge reply other second (front (from_start file))

-- ---- how far a file is read

module _ {F H R : Type 0} (form : Form F H R) (is : IsForm form) (file : List ℕ) where
  abbrev read_front : Result (Opened H × Rest) (Refusal R)
  read_front = form.front_at (from_start file)

  pub data Way : Type 0 where
    Stops : (refusal : Refusal R) → read_front ≡ Err refusal → Way
    Goes : OpenedFront form file → Way

  by_read : (read : Result (Opened H × Rest) (Refusal R)) → read_front ≡ read → Way
  by_read (Ok opened) read = Goes (is.shown file opened.0 opened.1 read)
  by_read (Err refusal) stop = Stops refusal stop

  pub way : Way
  way = by_read read_front refl

  -- what is read of a file of which a reply is accepted
  pub accepted_front : {challenge reply : List ℕ} (one : Accepts form.fronts file challenge reply)
      → ReadFront form file one.front
  accepted_front one = is.found file one.front one.right (_, one.behind.file_is.0)

-- ---- one reply

module _ {F H R : Type 0} (form : Form F H R) (is : IsForm form) (file challenge reply : List ℕ) where
  abbrev judged : Result (Unit {0}) (Refusal R)
  judged = judged_in form.front_at file challenge reply

  abbrev Holds : Result (Unit {0}) (Refusal R) → Type 0
  Holds judged = JudgedHolds form judged file challenge reply

  abbrev past : Result (Opened H × Rest) (Refusal R) → Result (Unit {0}) (Refusal R)
  past read = judged_past read (from_start challenge) (from_start reply)

  abbrev behind : F → Rest → Result (Unit {0}) Fault
  behind front after = behind_judged (form.fronts.statement front) after (from_start challenge)
      (from_start reply)

  gone : (front : F) (read : ReadFront form file front)
      → judged ≡ in_file (behind front read.after)
  gone front read = ap past read.read

  -- what judging comes to holds
  fails_of : (fault : Fault) → FailsBehind form file challenge reply fault
      → Fails form file challenge reply fault
  fails_of (Malformed part.Board line) fails = inr fails
  fails_of fault fails = fails

  refusal_holds : (refused : Refusal R) → form.front_at (from_start file) ≡ Err refused
      → Holds (Err refused)
  refusal_holds (refusal.Front reason) stop = (is.refused file reason).0 stop
  refusal_holds (refusal.Fault fault) stop =
      let at = is.only file fault stop in
      let there = (is.stops file at.0).0 (stop ∙ ap (λ f. Err (refusal.Fault f)) at.1) in
      subst (λ f. Fails form file challenge reply f) (sym at.1) (inl there)

  behind_holds : (front : F) → form.fronts.IsRight front → (read : ReadFront form file front)
      (r : Result (Unit {0}) Fault) → behind front read.after ≡ r → Holds (in_file r)
  behind_holds front right read (Ok done) ends =
      record {
        front = front;
        right = right;
        behind = (accepted_behind (form.fronts.statement front) (is.statement front right)
            (form.fronts.text front) file challenge reply read.after read.text).0 ends;
      }
  behind_holds front right read (Err fault) ends = fails_of fault (record {
    front = front;
    right = right;
    begins = (read.after.left, read.text);
    holds = fault_holds (form.fronts.statement front) (is.statement front right)
        (form.fronts.text front) file challenge reply read.after read.text (form.IsLine file)
        (λ line. (is.line file front right read line).0) fault ends;
  })

  holds_by : Way form is file → Holds judged
  holds_by (Stops refused stop) = subst Holds (sym (ap past stop)) (refusal_holds refused stop)
  holds_by (Goes opened) =
      subst Holds (sym (gone opened.front opened.is))
      (behind_holds opened.front opened.right opened.is (behind opened.front opened.is.after) refl)

  -- what holds is what judging comes to
  failed : (fault : Fault) → FailsBehind form file challenge reply fault
      → judged ≡ Err (refusal.Fault fault)
  failed fault fails =
      let front = fails.front in
      let read = is.found file front fails.right fails.begins in
      gone front read
      ∙ ap in_file (fault_given (form.fronts.statement front) (is.statement front fails.right)
      (form.fronts.text front) file challenge reply read.after read.text (form.IsLine file)
      (λ line. (is.line file front fails.right read line).0)
      (λ line. (is.line file front fails.right read line).1) fault fails.holds)

  fault_given_by : (fault : Fault) → Fails form file challenge reply fault
      → judged ≡ Err (refusal.Fault fault)
  fault_given_by (Malformed part.Board line) (inl stops) = ap past ((is.stops file line).1 stops)
  fault_given_by (Malformed part.Board line) (inr fails) = failed (Malformed part.Board line) fails
  fault_given_by fault fails = failed fault fails

  given : (j : Result (Unit {0}) (Refusal R)) → Holds j → judged ≡ j
  given (Ok done) accepts =
      let front = accepts.front in
      let read = accepted_front form is file accepts in
      gone front read
      ∙ ap in_file ((accepted_behind (form.fronts.statement front)
      (is.statement front accepts.right) (form.fronts.text front) file challenge reply read.after
      read.text).1 accepts.behind)
  given (Err (refusal.Front reason)) refuses = ap past ((is.refused file reason).1 refuses)
  given (Err (refusal.Fault fault)) fails = fault_given_by fault fails

  pub judged_holds : Holds judged
  judged_holds = holds_by (way form is file)

  pub judged_exact : (j : Result (Unit {0}) (Refusal R)) → (judged ≡ j) ↔ Holds j
  judged_exact j = (λ same. subst Holds same judged_holds, given j)

pub judged_exactly : {F H R : Type 0} (form : Form F H R) → IsForm form → JudgedExactly form
judged_exactly form is j file challenge reply = judged_exact form is file challenge reply j

-- ---- two replies

module _ {F H R : Type 0} (form : Form F H R) (is : IsForm form) {file challenge reply other second : List ℕ}
    (one : Accepts form.fronts file challenge reply) where
  same_front : (two : Accepts form.fronts file other second) → one.front ≡ two.front
  same_front two =
      let first = accepted_front form is file one in
      let again = accepted_front form is file two in
      is.one one.front two.front (ap (λ p. p.0)
      (value_same (opened_of form one.front, first.after) (opened_of form two.front, again.after)
      (sym first.read ∙ again.read)))

  -- two replies are accepted behind one front
  pub on_one : (two : Accepts form.fronts file other second)
      (P : Accepts form.fronts file other second → Type 0)
      → ((right : form.fronts.IsRight one.front)
      (behind : AcceptsBehind (form.fronts.statement one.front) (form.fronts.text one.front) file
      other second) → P (record { front = one.front; right = right; behind = behind }))
      → P two
  on_one two P step =
      let Q : F → Type 0 =
      λ f. (right : form.fronts.IsRight f)
      (behind : AcceptsBehind (form.fronts.statement f) (form.fronts.text f) file other second)
      → P (record { front = f; right = right; behind = behind }) in
      subst Q (same_front two) step two.right two.behind

  abbrev Gives : Accepts form.fronts file other second → Type 0
  Gives two = AreOfOneFile one two
      × ((coming_in form.front_at file challenge reply other second).base
      ≡ Some (base_of_file form one two))
      × GivesValues one two (coming_in form.front_at file challenge reply other second).ahead

  given_behind : (right : form.fronts.IsRight one.front)
      (behind : AcceptsBehind (form.fronts.statement one.front) (form.fronts.text one.front) file
      other second)
      → Gives (record { front = one.front; right = right; behind = behind })
  given_behind right behind =
      let c = coming {H = H} {R = R} challenge reply other second in
      let two : Accepts form.fronts file other second =
      record { front = one.front; right = right; behind = behind } in
      let read = accepted_front form is file one in
      let give = accepted_behind_give (form.fronts.statement one.front)
      (is.statement one.front one.right) (form.fronts.text one.front) file challenge reply other
      second read.after read.text one.behind behind in
      let G : Ahead (Refusal R) → Type 0 = λ ahead. GivesValues one two ahead in (
        record { one_front = refl; one_lines = give.0 },
        ap (λ r. (c r).base) read.read ∙ ap (option_map (with_head (form.head one.front))) give.1,
        subst G (sym (ap (λ r. (c r).ahead) read.read)) (record {
          one_each = give.2.one_each;
          each = give.2.each;
          finding = ap as_found give.2.finding
              ∙ accepted_told R (same_bits one.behind.challenge.bits behind.challenge.bits);
        }),
      )

pub accepted_give : {F H R : Type 0} (form : Form F H R) → IsForm form → AcceptedGive form
accepted_give form is file challenge reply other second one two =
    on_one form is one two (Gives form is one) (given_behind form is one)

found_accepted : (R : Type 0) (finding : Finding Fault)
    → BothAreAccepted (as_found {R = R} finding) → BothAreAccepted finding
found_accepted R = told_accepted refusal.Fault

module _ {F H R : Type 0} (form : Form F H R) (is : IsForm form) (file challenge reply other second : List ℕ) where
  abbrev Both : Result (Opened H × Rest) (Refusal R) → Type 0
  Both read =
      BothAreAccepted (coming {H = H} {R = R} challenge reply other second read).ahead.finding

  only_by : Way form is file → Both (form.front_at (from_start file))
      → Accepts form.fronts file challenge reply × Accepts form.fronts file other second
  only_by (Stops refused stop) both = absurd (subst Both stop both)
  only_by (Goes opened) both =
      let front = opened.front in
      let s = form.fronts.statement front in
      let found = ahead_behind s opened.is.after (from_start challenge) (from_start reply)
      (from_start other) (from_start second) in
      let are = only_accepted_behind s (is.statement front opened.right) (form.fronts.text front)
      file challenge reply other second opened.is.after opened.is.text
      (found_accepted R found.finding (subst Both opened.is.read both)) in (
        record { front = front; right = opened.right; behind = are.0 },
        record { front = front; right = opened.right; behind = are.1 },
      )

pub only_accepted_give : {F H R : Type 0} (form : Form F H R) → IsForm form → OnlyAcceptedGive form
only_accepted_give form is file challenge reply other second =
    only_by form is file challenge reply other second (way form is file)
