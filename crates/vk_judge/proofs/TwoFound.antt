-- What is found of two replies on the way, for any modelled content.
use Rattle.std.proofs.Common.{◌≡◌, ℕ, suc, ◌+◌, ◌<◌, ◌≤◌, Bool, false, List, ◌∷◌, length, drop, get_or, Option, Some, None, Result, Ok, Err, is_ok, is_some, IsOk, IsTrue, IfSome, refl, ap, sym, ◌∙◌, arith, subst}
use Rattle.std.proofs.Math.Seq.{drop-cons}
use Rattle.std.proofs.Math.ListN.{drop_of_length-le}
use Rattle.vk_residue.specs.Steps.{◌>>=◌}
use Rattle.vk_io.specs.Files.{Files}
use Rattle.vk_lines.specs.Lines.{Rest}
use Rattle.vk_judge.specs.declared.answers.Fault.{Fault}
use Rattle.vk_judge.specs.declared.opened.Refusal.{Refusal}
use Rattle.vk_judge.specs.declared.stage.Course.{Course}
use Rattle.vk_judge.specs.declared.stage.Stage.TheVariants.{Running}
use Rattle.vk_judge.specs.declared.halt.Halt.{Halt}
use Rattle.vk_judge.specs.declared.stage.TwoLane.{TwoLane}
use Rattle.vk_judge.specs.declared.stage.Finding.{Finding}
use Rattle.vk_judge.specs.declared.stage.Base.{Base}
use Rattle.vk_judge.specs.declared.halt.Halt.TheVariants.{Refused}
use Rattle.vk_judge.specs.Behind.{Judges}
use Rattle.vk_judge.specs.Two.{IsFound, IsTwoLane, GivesLane, Rests, Ahead, over, of_first, of_second, found_by, is_refused, accepted_of, two_lane_at, ends_found, ahead_from, ahead_on, ahead_after, rests_of}
use Rattle.vk_judge.specs.Opened.{IsCourse, IsNextOfFile, ahead_unless, as_ahead, coming_of, with_head}

-- an error that is handed on
pub returned : {X T : Type 0} (held : Option Files) (result : Result T (Halt (Finding Fault)))
    (halt : Halt (Finding Fault)) (value : Files → T → X)
    (expected : Files → Result X (Finding Fault))
    → result ≡ Err halt
    → IfSome held (λ files. Judges {T = T} (value files) (Err halt) (expected files))
    → IfSome held (λ files. Judges {T = T} (value files) result (expected files))
returned {X} {T} held result halt value expected is found =
    subst (λ (r : Result T (Halt (Finding Fault))). IfSome held
    (λ files. Judges {T = T} (value files) r (expected files))) (sym is) found

-- the first reply was judged no further
pub first_stop : {X Y T : Type 0} (held now : Option Files) (judged : Result X (Halt Fault))
    (halt : Halt (Finding Fault)) (rest : Files → Rest) (told : Files → Result (X × Rest) Fault)
    (next : Files → X × Rest → Result Y (Finding Fault)) (value : Files → T → Y)
    → now ≡ held
    → ((r : Rest) (expected : Result (X × Rest) Fault) → Judges (λ x. (x, r)) judged expected
    → Judges {T = X} (λ x. (x, r)) (Err halt) (of_first expected))
    → IfSome now (λ files. Judges (λ x. (x, rest files)) judged (told files))
    → IfSome held (λ files. Judges (value files) (Err halt) (of_first (told files) >>= next files))
first_stop {X} (Some files) now judged (Refused finding) rest told next value same found step =
    ap (λ r. r >>= next files)
    (found (rest files) (told files)
    (subst (λ held. IfSome held
    (λ files. Judges (λ (x : X). (x, rest files)) judged (told files))) same step))
first_stop held now judged halt rest told next value same found step = tt

-- and that is handed on
pub first_refused : {X Y T : Type 0} (held : Option Files) (judged : Result X (Halt Fault))
    (halt : Halt (Finding Fault)) (result : Result T (Halt (Finding Fault))) (rest : Files → Rest)
    (told : Files → Result (X × Rest) Fault)
    (next : Files → X × Rest → Result Y (Finding Fault)) (value : Files → T → Y)
    → result ≡ Err halt
    → ((r : Rest) (expected : Result (X × Rest) Fault) → Judges (λ x. (x, r)) judged expected
    → Judges {T = X} (λ x. (x, r)) (Err halt) (of_first expected))
    → IfSome held (λ files. Judges (λ x. (x, rest files)) judged (told files))
    → IfSome held (λ files. Judges (value files) result (of_first (told files) >>= next files))
first_refused {T = T} held judged halt result rest told next value is found step =
    returned {T = T} held result halt value (λ files. of_first (told files) >>= next files) is
    (first_stop {T = T} held held judged halt rest told next value refl found step)

-- the first reply was judged on
pub first_past : {X Y : Type 0} (held now : Option Files) (judged : Result X (Halt Fault)) (x : X)
    (rest : Files → Rest)
    (told : Files → Result (X × Rest) Fault)
    (next : Files → X × Rest → Result Y (Finding Fault))
    (P : Files → Result Y (Finding Fault) → Type 0)
    → now ≡ held → judged ≡ Ok x
    → IfSome now (λ files. Judges (λ y. (y, rest files)) judged (told files))
    → IfSome held (λ files. P files (next files (x, rest files)))
    → IfSome held (λ files. P files (of_first (told files) >>= next files))
first_past None now judged x rest told next P same is step later = tt
first_past {X} (Some files) now judged x rest told next P same is step later =
    let at_held = subst (λ held.
    IfSome held (λ files. Judges (λ (y : X). (y, rest files)) judged (told files))) same step in
    let ends : told files ≡ Ok (x, rest files) =
    subst (λ r. Judges (λ (y : X). (y, rest files)) r (told files)) is at_held in
    subst (λ r. P files (of_first r >>= next files)) (sym ends) later

-- the second reply was judged, and the first one on where there was a fault
pub second_found : {X : Type 0} (held now : Option Files) (judged : Result X (Halt Fault))
    (first : Result (Unit {0}) (Halt Fault)) (result : Result X (Halt (Finding Fault)))
    (asked : Bool)
    (other : Files → Result (Unit {0}) Fault) (told : Files → Result (X × Rest) Fault)
    (rest : Files → Rest)
    → now ≡ held → asked ≡ is_refused judged
    → ((r : Rest) (expected : Result (X × Rest) Fault) (o : Result (Unit {0}) Fault)
    → Judges (λ x. (x, r)) judged expected
    → (IsTrue (is_refused judged) → Judges (λ (done : Unit {0}). done) first o)
    → Judges (λ x. (x, r)) result (of_second o expected))
    → IfSome held (λ files. Judges (λ x. (x, rest files)) judged (told files))
    → IfSome now (λ files. IsTrue asked → Judges (λ (done : Unit {0}). done) first (other files))
    → IfSome held (λ files. Judges (λ x. (x, rest files)) result
    (of_second (other files) (told files)))
second_found None now judged first result asked other told rest same is found step on = tt
second_found {X} (Some files) now judged first result asked other told rest same is found step on =
    let on_held = subst (λ held.
    IfSome held (λ files. IsTrue asked
    → Judges (λ (done : Unit {0}). done) first (other files))) same on in
    found (rest files) (told files) (other files) step (λ refused. on_held (is ∙ refused))

-- the ends of both replies
pub ends_are : (held now : Option Files) (first second : Result (Unit {0}) (Halt Fault))
    (result : Halt (Finding Fault))
    (accepted expected : Finding Fault) (asked : Bool)
    (told : Files → Result (Unit {0}) Fault) (other : Files → Result (Unit {0} × Rest) Fault)
    (rest : Files → Rest)
    → now ≡ held → asked ≡ is_ok first → accepted ≡ expected
    → ((r : Rest) (e : Result (Unit {0}) Fault) (o : Result (Unit {0} × Rest) Fault)
    → Judges (λ (done : Unit {0}). done) first e
    → (IsOk first → Judges (λ (done : Unit {0}). (done, r)) second o)
    → IsFound result (found_by accepted e o))
    → IfSome held (λ files. Judges (λ (done : Unit {0}). done) first (told files))
    → IfSome now (λ files. IsTrue asked
    → Judges (λ (done : Unit {0}). (done, rest files)) second (other files))
    → IfSome held (λ files. IsFound result (found_by expected (told files) (other files)))
ends_are None now first second result accepted expected asked told other rest same is alike found
    step on = tt
ends_are (Some files) now first second result accepted expected asked told other rest same is alike
    found step on =
    let on_held = subst (λ held.
    IfSome held (λ files. IsTrue asked
    → Judges (λ (done : Unit {0}). (done, rest files)) second (other files))) same on in
    subst (λ a. IsFound result (found_by a (told files) (other files))) alike
    (found (rest files) (told files) (other files) step (λ accepted. on_held (is ∙ accepted)))

bits_left : (bits : List Bool) (given : ℕ) (bit : Bool) → given < length bits
    → bit ≡ get_or bits given bit
    → drop given bits ≡ bit ∷ drop (given + 1) bits
bits_left bits given bit within is =
    let next : suc given ≡ given + 1 = omega arith in
    drop-cons bits given bit within ∙ ap (λ b. b ∷ drop (suc given) bits) (sym is)
    ∙ ap (λ i. bit ∷ drop i bits) next

-- what is ahead begins with the next lane
next_ahead : (base : Base) (given : ℕ) (first_bit second_bit : Bool) (rests : Rests)
    → given < length base.first_bits → given < length base.second_bits
    → first_bit ≡ get_or base.first_bits given first_bit
    → second_bit ≡ get_or base.second_bits given second_bit
    → ahead_on base given rests
    ≡ ahead_after (two_lane_at base.statement (given + 1) first_bit second_bit
    (drop (given + 1) base.first_bits) rests) (ahead_on base (given + 1))
unfolding ahead_from
next_ahead base given first_bit second_bit rests first second first_is second_is =
    let accepted = accepted_of base.first_bits base.second_bits in
    ap (λ left. ahead_from base.statement accepted (given + 1) left (drop given base.second_bits)
    rests) (bits_left base.first_bits given first_bit first first_is)
    ∙ ap (λ left. ahead_from base.statement accepted (given + 1)
    (first_bit ∷ drop (given + 1) base.first_bits) left rests)
    (bits_left base.second_bits given second_bit second second_is)

given_by : (result : Result TwoLane (Halt (Finding Fault)))
    (lane : Result (TwoLane × Rests) (Finding Fault))
    (new : Rests) (base : Base) (given : ℕ)
    → Judges (λ two. (two, new)) result lane
    → GivesLane (ahead_after lane (ahead_on base given)) result (ahead_on base given new)
given_by (Ok two) lane new base given is = ap (λ l. ahead_after l (ahead_on base given)) is
given_by (Err (Refused finding)) lane new base given is =
    ap (λ l. ahead_after l (ahead_on base given)) is
given_by result lane new base given is = tt

-- a lane was read, or judging stopped in it
pub lane_given : (held : Option Files) (base : Base) (given : ℕ) (first_bit second_bit : Bool)
    (result : Result TwoLane (Halt (Finding Fault))) (old new : Files → Rests)
    → given < length base.first_bits → given < length base.second_bits
    → first_bit ≡ get_or base.first_bits given first_bit
    → second_bit ≡ get_or base.second_bits given second_bit
    → IfSome held (λ files. Judges (λ two. (two, new files)) result
    (two_lane_at base.statement (given + 1) first_bit second_bit (drop (given + 1) base.first_bits)
    (old files)))
    → IfSome held (λ files. GivesLane (ahead_on base given (old files)) result
    (ahead_on base (given + 1) (new files)))
lane_given None base given first_bit second_bit result old new first second first_is second_is
    step = tt
lane_given (Some files) base given first_bit second_bit result old new first second first_is
    second_is step =
    subst (λ a. GivesLane a result (ahead_on base (given + 1) (new files)))
    (sym (next_ahead base given first_bit second_bit (old files) first second first_is
    second_is))
    (given_by result _ (new files) base (given + 1) step)

none_ahead : (base : Base) (given : ℕ) (rests : Rests) → length base.first_bits ≤ given
    → ahead_on base given rests
    ≡ over (ends_found (accepted_of base.first_bits base.second_bits) rests)
unfolding ahead_from
none_ahead base given rests past =
    ap (λ left. ahead_from base.statement (accepted_of base.first_bits base.second_bits) (given + 1)
    left (drop given base.second_bits) rests) (drop_of_length-le base.first_bits past)

ended_by : (halt : Halt (Finding Fault)) (finding : Finding Fault) (ahead after : Ahead Fault)
    → ahead ≡ over finding
    → IsFound halt finding → GivesLane ahead (Err halt) after
ended_by (Refused f) finding ahead after is found = is ∙ ap over found
ended_by halt finding ahead after is found = tt

-- every lane was given
pub ends_given : (held : Option Files) (base : Base) (given : ℕ) (halt : Halt (Finding Fault))
    (old : Files → Rests)
    (after : Files → Ahead Fault) → length base.first_bits ≤ given
    → IfSome held (λ files. IsFound halt
    (ends_found (accepted_of base.first_bits base.second_bits) (old files)))
    → IfSome held (λ files. GivesLane (ahead_on base given (old files)) (Err halt) (after files))
ends_given None base given halt old after past found = tt
ends_given (Some files) base given halt old after past found =
    ended_by halt (ends_found (accepted_of base.first_bits base.second_bits) (old files)) _
    (after files) (none_ahead base given (old files) past) found

none_of : {X : Type 0} (found : Option X) → is_some found ≡ false → found ≡ None
none_of None none = refl
none_of (Some x) none = cc

-- a step of a course on which nothing was found so far
pub went_on : {H R : Type 0} (held : Option Files) (course : Course H R)
    (step : Result TwoLane (Halt (Finding Fault)))
    (new : Files → Rests) (P : Files → Ahead (Refusal R) → Type 0)
    → is_some course.finding ≡ false
    → ((files : Files) (before : Ahead Fault)
    → GivesLane before step (ahead_on course.base (course.given + 1) (new files))
    → P files (as_ahead before))
    → IfSome held (λ files. GivesLane
    (ahead_on course.base course.given (rests_of course.readers files)) step
    (ahead_on course.base (course.given + 1) (new files)))
    → IfSome held (λ files. P files (coming_of (Running course) files).ahead)
went_on None course step new P none goes is = tt
went_on (Some files) course step new P none goes is =
    let ahead = ahead_on course.base course.given (rests_of course.readers files) in
    subst (λ finding. P files (ahead_unless finding (as_ahead ahead)))
    (sym (none_of course.finding none)) (goes files ahead is)

-- a lane that is given is the next one
pub next_given : {H R : Type 0} (old new : Course H R) (lane : Option TwoLane) → IsCourse new
    → IfSome lane (λ lane. (new.given ≡ old.given + 1)
    × IsTwoLane new.base.statement new.given lane)
    → IfSome lane (IsNextOfFile (Running old) (Running new))
next_given old new None right is = tt
next_given old new (Some lane) right is = record {
  known = with_head new.head new.base;
  is = refl;
  right = right.base;
  count = is.0;
  within = right.within;
  checked = is.1;
}
