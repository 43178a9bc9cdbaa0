-- Where a reader of seals stands when memory is wanting.
use Rattle.std.proofs.Common.{◌≡◌, ℕ, zero, suc, ◌<◌, inr, List, [], ◌∷◌, ◌++◌, Option, Some, None, Result, Ok, Err, refl, ap, sym, ◌∙◌, subst}
use Rattle.std.specs.Option.{IfSome}
use Rattle.std.specs.Prelude.{IsOkAnd}
use Rattle.vk_residue.specs.Steps.{◌>>=◌}
use Rattle.vk_io.specs.Files.{Files}
use Rattle.vk_lines.specs.Lines.{Rest, LinesValue, rest_of}
use Rattle.vk_lines.specs.Forms.{many_onto}
use Rattle.vk_board.specs.declared.board.SealLines.{SealLines}
use Rattle.vk_board.specs.Reading.{seal_at, seat_at, next_seal_at, HasRead, IsAmongSeals}

-- a step behind two, as one behind the first
bind_on : {A B C : Type 0} (r : Result A ℕ) (first : A → Result B ℕ) (both : A → Result C ℕ)
    (later : B → Result C ℕ) → ((a : A) → both a ≡ (first a >>= later))
    → (r >>= both) ≡ ((r >>= first) >>= later)
bind_on (Ok a) first both later same = same a
bind_on (Err e) first both later same = refl

-- one more value is read behind so many
pub many_then : {X : Type 0} (read : List X → Rest → Result (X × Rest) ℕ) (count : ℕ)
    (before : List X) (rest : Rest)
    → many_onto before (suc count) read rest
    ≡ (many_onto before count read rest >>= λ found.
    read found.0 found.1 >>= λ next. Ok (found.0 ++ next.0 ∷ [], next.1))
unfolding many_onto
many_then read zero before rest = refl
many_then read (suc count) before rest =
    bind_on (read before rest) (λ next. many_onto (before ++ next.0 ∷ []) count read next.1)
    (λ next. many_onto (before ++ next.0 ∷ []) (suc count) read next.1)
    (λ found. read found.0 found.1 >>= λ next. Ok (found.0 ++ next.0 ∷ [], next.1))
    (λ next. many_then read count (before ++ next.0 ∷ []) next.1)

-- these values were read from the first line on, and the reader stands behind them
abbrev pub AreRead : {X : Type 0} → Option Files → (List X → Rest → Result (X × Rest) ℕ) → List X
    → ℕ → (Files → Rest) → (Files → Rest) → Type 0
AreRead held read xs count start now =
    IfSome held (λ files. many_onto [] count read (start files) ≡ Ok (xs, now files))

grown : {X : Type 0} (held : Option Files) (read : List X → Rest → Result (X × Rest) ℕ)
    (xs ys : List X) (x : X) (count next : ℕ) (start before after : Files → Rest)
    → suc count ≡ next → ys ≡ xs ++ x ∷ [] → AreRead held read xs count start before
    → IfSome held (λ files. read xs (before files) ≡ Ok (x, after files))
    → AreRead held read ys next start after
grown None read xs ys x count next start before after more pushed so_far step = tt
grown (Some files) read xs ys x count next start before after more pushed so_far step =
    rw (← more, pushed) (many_then read count [] (start files)
    ∙ ap (λ r. r >>= λ found. read found.0 found.1 >>= λ n. Ok (found.0 ++ n.0 ∷ [], n.1)) so_far
    ∙ ap (λ r. r >>= λ n. Ok (xs ++ n.0 ∷ [], n.1)) step)

-- a turn reads one value more
pub read_more : {X : Type 0} (held now : Option Files)
    (read : List X → Rest → Result (X × Rest) ℕ)
    (xs ys : List X) (x : X) (count next : ℕ) (start before after : Files → Rest)
    → now ≡ held → suc count ≡ next → ys ≡ xs ++ x ∷ []
    → AreRead held read xs count start before
    → IfSome now (λ files. read xs (before files) ≡ Ok (x, after files))
    → AreRead held read ys next start after
read_more held now read xs ys x count next start before after same more pushed so_far step =
    let P : Option Files → Type 0 =
    λ told. IfSome told (λ files. read xs (before files) ≡ Ok (x, after files)) in
    grown held read xs ys x count next start before after more pushed so_far (subst P same step)

-- before the first turn none was read, and all are left
pub none_read : {X : Type 0} (held : Option Files) (read : List X → Rest → Result (X × Rest) ℕ)
    (xs : List X) (start : Files → Rest) → xs ≡ [] → AreRead held read xs 0 start start
unfolding many_onto
none_read None read xs start none = tt
none_read (Some files) read xs start none = ap (λ x. Ok (x, start files)) (sym none)

pub all_left : {X : Type 0} (held : Option Files) (read : List X → Rest → Result (X × Rest) ℕ)
    (xs : List X) (left count : ℕ) (start : Files → Rest) → xs ≡ [] → left ≡ count
    → IfSome held (λ files. many_onto xs left read (start files)
    ≡ many_onto [] count read (start files))
all_left None read xs left count start none all = tt
all_left (Some files) read xs left count start none all = rw (none, all) refl

-- behind so many seals, and the line that begins the next
begins : (held : Option Files) (lanes : ℕ) (before : List SealLines) (count : ℕ)
    (old mid new : LinesValue)
    → AreRead held (seal_at lanes) before count (rest_of old) (rest_of mid)
    → HasRead (seat_at before) held mid new → HasRead (next_seal_at count lanes) held old new
begins None lanes before count old mid new so_far step = tt
begins (Some files) lanes before count old mid new so_far step =
    let P : Result (List SealLines × Rest) ℕ → Type 0 =
    λ r. IsOkAnd (r >>= λ found. seat_at found.0 found.1) (λ part. part.1 ≡ rest_of new files) in
    subst P (sym so_far) step

-- where it wants memory in a seal
pub among_in : (held now : Option Files) (lanes seals : ℕ) (before : List SealLines) (count : ℕ)
    (old mid new : LinesValue) → now ≡ held → count < seals
    → AreRead held (seal_at lanes) before count (rest_of old) (rest_of mid)
    → HasRead (seat_at before) now mid new → IsAmongSeals seals lanes held old new
among_in held now lanes seals before count old mid new same fewer so_far step =
    let P : Option Files → Type 0 = λ told. HasRead (seat_at before) told mid new in
    inr (count, fewer, begins held lanes before count old mid new so_far (subst P same step))
