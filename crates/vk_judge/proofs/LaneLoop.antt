-- The loop over the lanes of a file and a reply: its turns and its exits, for any modelled
-- content.
use Rattle.std.proofs.Common.{◌≡◌, ℕ, suc, ◌+◌, ◌<◌, ◌≤◌, Bool, List, [], ◌∷◌, length, drop, get_or, Option, Some, None, Result, Ok, Err, IfSome, refl, ap, sym, ◌∙◌, arith, subst}
use Rattle.std.proofs.Math.Seq.{drop-cons}
use Rattle.std.proofs.Math.ListN.{drop_of_length-le}
use Rattle.std.proofs.lemmas.Option.{IfSome_then}
use Rattle.vk_residue.specs.Steps.{◌>>=◌}
use Rattle.vk_io.specs.Files.{Files}
use Rattle.vk_lines.specs.Lines.{Rest, rest_of}
use Rattle.vk_judge.specs.declared.answers.Fault.{Fault}
use Rattle.vk_judge.specs.declared.halt.Halt.{Halt}
use Rattle.vk_judge.specs.declared.stage.FileAndReply.{FileAndReply}
use Rattle.vk_judge.specs.declared.halt.Halt.TheVariants.{Refused}
use Rattle.vk_judge.specs.Statement.{StatementValue}
use Rattle.vk_judge.specs.Behind.{Judges, ends_judged, lane_judged, lanes_judged}

-- a file and a reply from where they are read on
abbrev pub pair_at : FileAndReply → Files → Rest × Rest
pair_at pair files = (rest_of pair.file files, rest_of pair.reply files)

-- what the lanes come to that are left after so many, of files that are read on from there
abbrev pub left_judged : StatementValue → List Bool → ℕ → FileAndReply → Files
    → Result (Rest × Rest) Fault
left_judged s bits judged pair files = lanes_judged s (judged + 1) (drop judged bits)
    (rest_of pair.file files) (rest_of pair.reply files)

-- the next lane, and then those after it
next_lane : (s : StatementValue) (bits : List Bool) (index : ℕ) (bit : Bool) (file reply : Rest)
    → index < length bits
    → bit ≡ get_or bits index bit
    → lanes_judged s (index + 1) (drop index bits) file reply
    ≡ (lane_judged s (index + 1) bit file reply >>= λ rests. lanes_judged s (index + 1 + 1)
    (drop (index + 1) bits) rests.0 rests.1)
unfolding lanes_judged
next_lane s bits index bit file reply within is =
    let next : suc index ≡ index + 1 = omega arith in
    let left : drop index bits ≡ bit ∷ drop (index + 1) bits = drop-cons bits index bit within
    ∙ ap (λ b. b ∷ drop (suc index) bits) (sym is) ∙ ap (λ i. bit ∷ drop i bits) next in
    ap (λ left. lanes_judged s (index + 1) left file reply) left

-- after a lane that was accepted
pub lane_turn : (held now : Option Files) (s : StatementValue) (bits : List Bool) (index : ℕ)
    (bit : Bool)
    (done : Unit {0})
    (whole : Files → Result (Rest × Rest) Fault) (pair next : FileAndReply)
    → index < length bits → bit ≡ get_or bits index bit → now ≡ held
    → IfSome held (λ files. left_judged s bits index pair files ≡ whole files)
    → IfSome now (λ files. Judges (λ (_ : Unit {0}). pair_at next files) (Ok done)
    (lane_judged s (index + 1) bit (rest_of pair.file files) (rest_of pair.reply files)))
    → IfSome held (λ files. left_judged s bits (index + 1) next files ≡ whole files)
lane_turn None now s bits index bit done whole pair next within is same so_far step = tt
lane_turn (Some files) now s bits index bit done whole pair next within is same so_far step =
    let judged = subst (λ told. IfSome told
    (λ files. Judges (λ (_ : Unit {0}). pair_at next files) (Ok done)
    (lane_judged s (index + 1) bit (rest_of pair.file files) (rest_of pair.reply files)))) same
    step in
    sym (next_lane s bits index bit (rest_of pair.file files) (rest_of pair.reply files) within is
    ∙ ap (λ r. r >>= λ rests. lanes_judged s (index + 1 + 1) (drop (index + 1) bits) rests.0
    rests.1) judged) ∙ so_far

stop : (held : Option Files) (s : StatementValue) (bits : List Bool) (index : ℕ) (bit : Bool)
    (halt : Halt Fault)
    (whole : Files → Result (Rest × Rest) Fault) (pair next : FileAndReply)
    → index < length bits → bit ≡ get_or bits index bit
    → IfSome held (λ files. left_judged s bits index pair files ≡ whole files)
    → IfSome held (λ files. Judges {T = Unit {0}} (λ _. pair_at next files) (Err halt)
    (lane_judged s (index + 1) bit (rest_of pair.file files) (rest_of pair.reply files)))
    → IfSome held (λ files. Judges {T = Unit {0}} (λ _. pair_at next files) (Err halt)
    (whole files))
stop (Some files) s bits index bit (Refused fault) whole pair next within is so_far step =
    sym so_far
    ∙ next_lane s bits index bit (rest_of pair.file files) (rest_of pair.reply files) within is
    ∙ ap (λ r. r >>= λ rests. lanes_judged s (index + 1 + 1) (drop (index + 1) bits) rests.0
    rests.1) step
stop held s bits index bit halt whole pair next within is so_far step = tt

-- after a lane that was not accepted the ends are not read
not_ended : {Y : Type 0} (lanes : Result (Rest × Rest) Fault) (next : Rest × Rest → Result Y Fault)
    (value : Unit {0} → Rest × Rest) (other : Unit {0} → Y) (halt : Halt Fault)
    → Judges {T = Unit {0}} value (Err halt) lanes
    → Judges {T = Unit {0}} other (Err halt) (lanes >>= next)
not_ended lanes next value other (Refused fault) judged = ap (λ l. l >>= next) judged
not_ended lanes next value other halt judged = tt

pub rest_stop : (held now : Option Files) (s : StatementValue) (bits : List Bool) (index : ℕ)
    (bit : Bool)
    (halt : Halt Fault) (result : Result (Unit {0}) (Halt Fault))
    (whole : Files → Result (Rest × Rest) Fault) (pair next : FileAndReply)
    → index < length bits → bit ≡ get_or bits index bit → now ≡ held → result ≡ Err halt
    → IfSome held (λ files. left_judged s bits index pair files ≡ whole files)
    → IfSome now (λ files. Judges {T = Unit {0}} (λ _. pair_at next files) (Err halt)
    (lane_judged s (index + 1) bit (rest_of pair.file files) (rest_of pair.reply files)))
    → IfSome held (λ files. Judges (λ (done : Unit {0}). done) result
    (whole files >>= λ rests. ends_judged rests.0 rests.1))
rest_stop held now s bits index bit halt result whole pair next within is same ends so_far step =
    let P : Option Files → Type 0 =
    λ told. IfSome told (λ files. Judges {T = Unit {0}} (λ _. pair_at next files) (Err halt)
    (lane_judged s (index + 1) bit (rest_of pair.file files) (rest_of pair.reply files))) in
    let Q : Result (Unit {0}) (Halt Fault)
    → Type 0 = λ r. IfSome held
    (λ files. Judges (λ (done : Unit {0}). done) r
    (whole files >>= λ rests. ends_judged rests.0 rests.1)) in
    subst Q (sym ends) (IfSome_then held
    (stop held s bits index bit halt whole pair next within is so_far (subst P same step))
    (λ files stopped. not_ended (whole files) (λ rests. ends_judged rests.0 rests.1)
    (λ _. pair_at next files) (λ done. done) halt stopped))

none_left : (s : StatementValue) (number : ℕ) (bits : List Bool) (file reply : Rest)
    → length bits ≡ 0
    → lanes_judged s number bits file reply ≡ Ok (file, reply)
unfolding lanes_judged
none_left s number [] file reply none = refl
none_left s number (bit ∷ bits) file reply none = cc

-- after the last lane the ends are read
pub rest_done : (held now : Option Files) (s : StatementValue) (bits : List Bool) (index : ℕ)
    (ended result : Result (Unit {0}) (Halt Fault))
    (whole : Files → Result (Rest × Rest) Fault) (pair : FileAndReply) → length bits ≤ index
    → now ≡ held → result ≡ ended
    → IfSome held (λ files. left_judged s bits index pair files ≡ whole files)
    → IfSome now (λ files. Judges (λ (done : Unit {0}). done) ended
    (ends_judged (rest_of pair.file files) (rest_of pair.reply files)))
    → IfSome held (λ files. Judges (λ (done : Unit {0}). done) result
    (whole files >>= λ rests. ends_judged rests.0 rests.1))
rest_done None now s bits index ended result whole pair past same is so_far step = tt
rest_done (Some files) now s bits index ended result whole pair past same is so_far step =
    let all = sym so_far ∙ none_left s (index + 1) (drop index bits) (rest_of pair.file files)
    (rest_of pair.reply files) (ap length (drop_of_length-le bits past)) in
    let told = subst (λ told. IfSome told
    (λ files. Judges (λ (done : Unit {0}). done) ended
    (ends_judged (rest_of pair.file files) (rest_of pair.reply files)))) same step in
    subst (λ r. Judges (λ (done : Unit {0}). done) r
    (whole files >>= λ rests. ends_judged rests.0 rests.1)) (sym is)
    (subst (λ w. Judges (λ (done : Unit {0}). done) ended
    (w >>= λ rests. ends_judged rests.0 rests.1)) (sym all) told)
