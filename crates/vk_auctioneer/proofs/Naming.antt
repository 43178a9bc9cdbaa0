-- What is said of a named file that isn't of its form, where those before it were begun and read.
use Rattle.std.proofs.Common.{◌≡◌, ℕ, List, Option, Some, None, Result, Ok, Err, sym, ap, subst, ◌∙◌}
use Rattle.std.specs.Prelude.{IfSome}
use Rattle.std.specs.FinMap.{get}
use Rattle.vk_residue.specs.Steps.{◌>>=◌}
use Rattle.vk_io.specs.Files.{Files}
use Rattle.vk_lines.specs.declared.errors.ReadErr.{ReadErr}
use Rattle.vk_lines.specs.Gives.{Gives, Refuses}
use Rattle.vk_lines.specs.Lines.{LinesValue, GivesReading, ReadsPart, Rest, rest_of}
use Rattle.vk_seal.specs.declared.secret.Seal.{Seal}
use Rattle.vk_seal.specs.declared.secret.Secret.{Secret}
use Rattle.vk_seal.specs.Reading.{seal_at, secret_at}
use Rattle.vk_keeper.specs.declared.auction.SealRow.{SealRow}
use Rattle.vk_effect.specs.declared.reading.Unread.{Unread}
use Rattle.vk_effect.specs.Effects.{SaidValue}
use Rattle.vk_effect.specs.Reading.{begun_in, said_of_unread, value_in}
use Rattle.vk_effect.proofs.NamedFiles.{part_told, same_Err}
use Rattle.vk_auctioneer.specs.Inputs.{row_in}
use Rattle.vk_auctioneer.proofs.Reading.{both_read}

-- what the first step refuses all refuse
refuses_then : {A B : Type 0} (said : Option SaidValue) (found : Result A SaidValue)
    (next : A → Result B SaidValue) → Refuses said found → Refuses said (found >>= next)
refuses_then None found next is = tt
refuses_then (Some said) (Ok x) next is = cc
refuses_then {A} (Some said) (Err other) next is = ap Err (same_Err {T = A} other said is)

-- the file of that name was begun
abbrev pub IsBegun : List ℕ → LinesValue → Files → Type 0
IsBegun name lines files = begun_in name (get files name) ≡ Ok (rest_of lines files)

-- what is answered of a part that was read
abbrev pub Tells : {X : Type 0} → List ℕ → Result X ReadErr → Result X Unread → Type 0
Tells {X} name read answer = (rest : Rest) (expected : Result (X × Rest) ℕ)
    → GivesReading (λ x. x) read rest expected
    → Gives said_of_unread (λ x. x) answer (value_in name expected)

-- what is said of all that is held is said of it later, where it is the same
told_before : (P : Files → Type 0) (held now : Option Files) → now ≡ held → IfSome now P
    → IfSome held P
told_before P held now same = subst (λ files. IfSome files P) same

-- ---- a seal and a secret

seal_by : (held : Option Files) (seal_name secret_name : List ℕ) (one other : LinesValue)
    (said : Option SaidValue) → IfSome held (IsBegun seal_name one)
    → IfSome held (IsBegun secret_name other)
    → IfSome held (λ files. Refuses said (value_in seal_name (seal_at (rest_of one files))))
    → IfSome held (λ files. Refuses said (row_in files seal_name secret_name))
unfolding row_in
seal_by None seal_name secret_name one other said first second refuses = tt
seal_by (Some files) seal_name secret_name one other said first second refuses =
    let read_first : Rest → Result Seal SaidValue = λ rest. value_in seal_name (seal_at rest) in
    let read_second : Rest → Result Secret SaidValue = λ rest. value_in secret_name (secret_at rest)
    in
    subst (λ b. Refuses said (both_read b (begun_in secret_name (get files secret_name)) read_first
    read_second)) (sym first)
    (subst (λ b. Refuses said (both_read (Ok (rest_of one files)) b read_first read_second))
    (sym second)
    (refuses_then said (read_first (rest_of one files))
    (λ seal. read_second (rest_of other files) >>= λ secret.
    Ok (record { seal = seal; secret = secret })) refuses))

pub seal_refused : (held now last : Option Files) (seal_name secret_name : List ℕ)
    (one other after : LinesValue) (read : Result Seal ReadErr) (refusal : Unread) → now ≡ held
    → last ≡ now → IfSome held (IsBegun seal_name one) → IfSome now (IsBegun secret_name other)
    → ReadsPart seal_at last one after read → Tells seal_name read (Err refusal)
    → IfSome held (λ files. Refuses (said_of_unread refusal) (row_in files seal_name secret_name))
seal_refused held now last seal_name secret_name one other after read refusal same next first second
    reads tells =
    seal_by held seal_name secret_name one other (said_of_unread refusal) first
    (told_before (IsBegun secret_name other) held now same second)
    (told_before (λ files. Refuses (said_of_unread refusal)
    (value_in seal_name (seal_at (rest_of one files)))) held last (next ∙ same)
    (part_told seal_name seal_at last one after read (Err refusal) reads tells))

secret_by : (held : Option Files) (seal_name secret_name : List ℕ) (one other : LinesValue)
    (seal : Seal) (said : Option SaidValue) → IfSome held (IsBegun seal_name one)
    → IfSome held (IsBegun secret_name other)
    → IfSome held (λ files. value_in seal_name (seal_at (rest_of one files)) ≡ Ok seal)
    → IfSome held (λ files. Refuses said (value_in secret_name (secret_at (rest_of other files))))
    → IfSome held (λ files. Refuses said (row_in files seal_name secret_name))
unfolding row_in
secret_by None seal_name secret_name one other seal said first second is refuses = tt
secret_by (Some files) seal_name secret_name one other seal said first second is refuses =
    let read_first : Rest → Result Seal SaidValue = λ rest. value_in seal_name (seal_at rest) in
    let read_second : Rest → Result Secret SaidValue = λ rest. value_in secret_name (secret_at rest)
    in
    let with_second : Seal → Result SealRow SaidValue =
    λ s. read_second (rest_of other files) >>= λ secret.
    Ok (record { seal = s; secret = secret }) in
    subst (λ b. Refuses said (both_read b (begun_in secret_name (get files secret_name)) read_first
    read_second)) (sym first)
    (subst (λ b. Refuses said (both_read (Ok (rest_of one files)) b read_first read_second))
    (sym second)
    (subst (λ (v : Result Seal SaidValue). Refuses said (v >>= with_second)) (sym is)
    (refuses_then said (read_second (rest_of other files))
    (λ secret. Ok (record { seal = seal; secret = secret })) refuses)))

pub secret_refused : (held now last end : Option Files) (seal_name secret_name : List ℕ)
    (one other after left : LinesValue) (read : Result Seal ReadErr) (seal : Seal)
    (read_last : Result Secret ReadErr) (refusal : Unread) → now ≡ held → last ≡ now → end ≡ last
    → IfSome held (IsBegun seal_name one) → IfSome now (IsBegun secret_name other)
    → ReadsPart seal_at last one after read → Tells seal_name read (Ok seal)
    → ReadsPart secret_at end other left read_last → Tells secret_name read_last (Err refusal)
    → IfSome held (λ files. Refuses (said_of_unread refusal) (row_in files seal_name secret_name))
secret_refused held now last end seal_name secret_name one other after left read seal read_last
    refusal same next then first second reads tells reads_last refuses =
    secret_by held seal_name secret_name one other seal (said_of_unread refusal) first
    (told_before (IsBegun secret_name other) held now same second)
    (told_before (λ files. value_in seal_name (seal_at (rest_of one files)) ≡ Ok seal) held last
    (next ∙ same) (part_told seal_name seal_at last one after read (Ok seal) reads tells))
    (told_before (λ files. Refuses (said_of_unread refusal)
    (value_in secret_name (secret_at (rest_of other files)))) held end (then ∙ (next ∙ same))
    (part_told secret_name secret_at end other left read_last (Err refusal) reads_last refuses))
