-- A loop that reads so many values over a shelf: its turns and its exits, for any modelled content.
use Rattle.std.proofs.Common.{◌≡◌, ℕ, ◌+◌, ◌-◌, ◌<◌, List, [], ◌∷◌, ◌++◌, length, Option, Some, None, Result, Ok, Err, refl, ap, sym, ◌∙◌, arith, subst}
use Rattle.std.specs.Option.{IfSome}
use Rattle.vk_residue.specs.Steps.{◌>>=◌}
use Rattle.vk_io.specs.Files.{Files}
use Rattle.vk_lines.specs.declared.errors.ReadErr.{ReadErr}
use Rattle.vk_lines.specs.declared.errors.ReadErr.TheVariants.{Malformed, Failed, NoMemory}
use Rattle.vk_lines.specs.Lines.{GivesReading, Rest}
use Rattle.vk_lines.specs.Forms.{many_onto}
use Rattle.vk_lines.proofs.Parts.{many_more, many_none}

turn : {X : Type 0} (held : Option Files) (read : List X → Rest → Result (X × Rest) ℕ)
    (whole : Files → Result (List X × Rest) ℕ)
    → (xs ys : List X) (x : X) (left next : ℕ) (before after : Files → Rest)
    → next + 1 ≡ left → ys ≡ xs ++ x ∷ []
    → IfSome held (λ files. many_onto xs left read (before files) ≡ whole files)
    → IfSome held (λ files. read xs (before files) ≡ Ok (x, after files))
    → IfSome held (λ files. many_onto ys next read (after files) ≡ whole files)
turn None read whole xs ys x left next before after fewer pushed so_far step = tt
turn (Some files) read whole xs ys x left next before after fewer pushed so_far step =
    let less : left - 1 ≡ next = omega arith in
    rw (pushed, ← less) (ap (λ r. r >>= λ p. many_onto (xs ++ p.0 ∷ []) (left - 1) read p.1)
    (sym step) ∙ sym (many_more xs left read (before files) (omega arith)) ∙ so_far)

-- a turn reads one value more
pub many_turn : {X : Type 0} (held now : Option Files) (read : List X → Rest → Result (X × Rest) ℕ)
    (whole : Files → Result (List X × Rest) ℕ)
    → (xs ys : List X) (x : X) (left next : ℕ) (before after : Files → Rest)
    → now ≡ held → next + 1 ≡ left → ys ≡ xs ++ x ∷ []
    → IfSome held (λ files. many_onto xs left read (before files) ≡ whole files)
    → IfSome now (λ files. read xs (before files) ≡ Ok (x, after files))
    → IfSome held (λ files. many_onto ys next read (after files) ≡ whole files)
many_turn held now read whole xs ys x left next before after same fewer pushed so_far step =
    let P : Option Files → Type 0 =
    λ told. IfSome told (λ files. read xs (before files) ≡ Ok (x, after files)) in
    turn held read whole xs ys x left next before after fewer pushed so_far (subst P same step)

stop : {X : Type 0} (held : Option Files) (read : List X → Rest → Result (X × Rest) ℕ)
    (whole : Files → Result (List X × Rest) ℕ)
    → (xs : List X) (e : ReadErr) (left : ℕ) (before after : Files → Rest) → 0 < left
    → IfSome held (λ files. many_onto xs left read (before files) ≡ whole files)
    → IfSome held (λ files. GivesReading {T = X} {X = X} (λ x. x) (Err e) (after files)
    (read xs (before files)))
    → IfSome held (λ files. GivesReading {T = List X} {X = List X} (λ x. x) (Err e) (after files)
    (whole files))
stop None read whole xs e left before after some so_far step = tt
stop (Some files) read whole xs (Malformed line) left before after some so_far step =
    sym so_far ∙ many_more xs left read (before files) some
    ∙ ap (λ r. r >>= λ p. many_onto (xs ++ p.0 ∷ []) (left - 1) read p.1) step
stop (Some files) read whole xs Failed left before after some so_far step = tt
stop (Some files) read whole xs NoMemory left before after some so_far step = tt

-- a turn in which no value is read is the end of it
pub many_stop : {X : Type 0} (held now : Option Files) (read : List X → Rest → Result (X × Rest) ℕ)
    (whole : Files → Result (List X × Rest) ℕ)
    → (xs : List X) (e : ReadErr) (result : Result (List X) ReadErr) (left : ℕ)
    (before after : Files → Rest)
    → now ≡ held → 0 < left → result ≡ Err e
    → IfSome held (λ files. many_onto xs left read (before files) ≡ whole files)
    → IfSome now (λ files. GivesReading {T = X} {X = X} (λ x. x) (Err e) (after files)
    (read xs (before files)))
    → IfSome held (λ files. GivesReading {T = List X} {X = List X} (λ x. x) result (after files)
    (whole files))
many_stop {X} held now read whole xs e result left before after same some is so_far step =
    let P : Option Files → Type 0 =
    λ told. IfSome told (λ files. GivesReading {T = X} {X = X} (λ x. x) (Err e) (after files)
    (read xs (before files))) in
    let Q : Result (List X) ReadErr
    → Type 0 = λ r. IfSome held
    (λ files. GivesReading {T = List X} {X = List X} (λ x. x) r (after files) (whole files)) in
    subst Q (sym is) (stop held read whole xs e left before after some so_far (subst P same step))

-- after the last turn all were read
pub many_done : {X : Type 0} (held : Option Files) (read : List X → Rest → Result (X × Rest) ℕ)
    (whole : Files → Result (List X × Rest) ℕ)
    → (xs : List X) (left : ℕ) (now : Files → Rest) → left ≡ 0
    → IfSome held (λ files. many_onto xs left read (now files) ≡ whole files)
    → IfSome held (λ files. GivesReading {T = List X} {X = List X} (λ x. x) (Ok xs) (now files)
    (whole files))
many_done None read whole xs left now none so_far = tt
many_done (Some files) read whole xs left now none so_far =
    sym so_far ∙ many_none xs left read (now files) none

-- ---- the same where each reading goes by the number of those before it

pub numbered_begin : {X : Type 0} (held : Option Files) (read : ℕ → Rest → Result (X × Rest) ℕ)
    (xs : List X) (left count : ℕ) (now : Files → Rest) → xs ≡ [] → left ≡ count
    → IfSome held (λ files. many_onto xs left (λ before. read (length before)) (now files)
    ≡ many_onto [] count (λ before. read (length before)) (now files))
numbered_begin None read xs left count now none all = tt
numbered_begin (Some files) read xs left count now none all = rw (none, all) refl

pub numbered_turn : {X : Type 0} (held now : Option Files) (read : ℕ → Rest → Result (X × Rest) ℕ)
    (whole : Files → Result (List X × Rest) ℕ)
    → (xs ys : List X) (x : X) (number left next : ℕ) (before after : Files → Rest)
    → now ≡ held → length xs ≡ number → next + 1 ≡ left → ys ≡ xs ++ x ∷ []
    → IfSome held (λ files. many_onto xs left (λ b. read (length b)) (before files) ≡ whole files)
    → IfSome now (λ files. read number (before files) ≡ Ok (x, after files))
    → IfSome held (λ files. many_onto ys next (λ b. read (length b)) (after files) ≡ whole files)
numbered_turn held now read whole xs ys x number left next before after same count fewer pushed
    so_far step =
    let P : ℕ → Type 0 = λ n. IfSome now (λ files. read n (before files) ≡ Ok (x, after files)) in
    many_turn held now (λ b. read (length b)) whole xs ys x left next before after same fewer pushed
    so_far (subst P (sym count) step)

pub numbered_stop : {X : Type 0} (held now : Option Files) (read : ℕ → Rest → Result (X × Rest) ℕ)
    (whole : Files → Result (List X × Rest) ℕ)
    → (xs : List X) (e : ReadErr) (result : Result (List X) ReadErr) (number left : ℕ)
    (before after : Files → Rest)
    → now ≡ held → length xs ≡ number → 0 < left → result ≡ Err e
    → IfSome held (λ files. many_onto xs left (λ b. read (length b)) (before files) ≡ whole files)
    → IfSome now (λ files. GivesReading {T = X} {X = X} (λ x. x) (Err e) (after files)
    (read number (before files)))
    → IfSome held (λ files. GivesReading {T = List X} {X = List X} (λ x. x) result (after files)
    (whole files))
numbered_stop {X} held now read whole xs e result number left before after same count some is so_far
    step =
    let P : ℕ → Type 0 = λ n. IfSome now
    (λ files. GivesReading {T = X} {X = X} (λ x. x) (Err e) (after files)
    (read n (before files))) in
    many_stop held now (λ b. read (length b)) whole xs e result left before after same some is
    so_far (subst P (sym count) step)
