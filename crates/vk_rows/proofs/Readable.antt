-- The stored texts of seals and secrets: none is too long to be read, and none has a fault line.
use Rattle.std.proofs.Common.{◌≡◌, ◌∙◌, ℕ, ◌-◌, ◌*◌, ◌^◌, ◌<◌, ◌≤◌, List, [], ◌∷◌, ◌++◌, length, length-append, codes, decimal, flat_map, None, IsSome, Result, Ok, Err, IsErr, IsErrOf, refl, ap, sym, subst, arith}
use Rattle.std.specs.FinMap.{get}
use Rattle.std.specs.List.{AllByRecursion}
use Rattle.std.specs.Result.{result_err}
use Rattle.vk_residue.specs.Residue.{modulus}
use Rattle.vk_residue.specs.Limits.{IsLaneCount}
use Rattle.vk_commit.specs.Values.{AreBytes}
use Rattle.vk_io.specs.declared.errors.OutsideErr.{OutsideErr}
use Rattle.vk_io.specs.declared.errors.OutsideErr.TheVariants as outside
use Rattle.vk_io.specs.Faults.{Causes}
use Rattle.vk_io.specs.Files.{Files, bytes_of}
use Rattle.vk_lines.specs.declared.errors.ReadErr.{ReadErr}
use Rattle.vk_lines.specs.declared.errors.ReadErr.TheVariants.{Malformed, Failed, NoMemory}
use Rattle.vk_lines.specs.declared.errors.StartErr.{StartErr}
use Rattle.vk_lines.specs.declared.errors.StartErr.TheVariants as start
use Rattle.vk_lines.specs.Lines.{LinesValue, Starts}
use Rattle.vk_lines.specs.Forms.{Answers, Table, fault_line, line, spaced}
use Rattle.vk_lines.specs.Tokens.{hex_text}
use Rattle.vk_lines.proofs.Words.{decimal_token, hex_token, number_line_is, id_line_is, digests_line_is, three_line, to_test}
use Rattle.vk_wire.specs.Coms.{com_by}
use Rattle.vk_wire.specs.Values.{IsCom}
use Rattle.vk_wire.specs.declared.wire.WireCom.{WireCom}
use Rattle.vk_seal.specs.declared.secret.XTape.{XTape}
use Rattle.vk_seal.specs.declared.secret.Secret.{Secret}
use Rattle.vk_seal.specs.declared.secret.Seal.{Seal}
use Rattle.vk_seal.specs.Values.{IsSeal, IsSecret, IsXTape}
use Rattle.vk_seal.specs.Texts.{com_text, tape_text, seat_text, lanes_text, seal_text, secret_text}
use Rattle.vk_seal.specs.Reading.{tape_by}
use Rattle.vk_seal.specs.Tables.{seal_table, secret_table}
use Rattle.vk_seal.proofs.Forms.{seal_is_whole, secret_is_whole, seal_fault, secret_fault}
use Rattle.vk_rows.specs.Refusals.{MissesNone, start_refusal, text_refusal}
use Rattle.vk_rows.proofs.Misses.{nowhere, where_failed}

-- ---- how long they are

lines_short : {X : Type 0} (IsValue : X → Type 0) (text : X → List ℕ)
    → ((x : X) → IsValue x → length (text x) ≤ 255) → (xs : List X) → AllByRecursion IsValue xs
    → length (flat_map (λ x. line (text x)) xs) ≤ 256 * length xs
lines_short IsValue text short [] all = omega arith
lines_short IsValue text short (x ∷ xs) all =
    let one = short x all.0 in
    let first = length-append (text x) (10 ∷ []) in
    let both = length-append (line (text x)) (flat_map (λ x. line (text x)) xs) in
    let more = lines_short IsValue text short xs all.1 in
    omega (arith, one, first, both, more)

lanes_short : {X : Type 0} (IsValue : X → Type 0) (text : X → List ℕ)
    → ((x : X) → IsValue x → length (text x) ≤ 255) → (lanes : List X)
    → IsLaneCount (length lanes) → AllByRecursion IsValue lanes
    → length (lanes_text text lanes) ≤ 256 * 66
unfolding lanes_text
lanes_short IsValue text short lanes count all =
    let most = count.most in
    let counted = (number_line_is (codes "lanes") 1 64 refl (omega arith) (omega arith)).short
    (length lanes) (most, to_test 1 (length lanes) count.least) in
    let head = spaced (codes "lanes" ∷ decimal (length lanes) ∷ []) in
    let lines = flat_map (λ lane. line (text lane)) lanes in
    let some = lines_short IsValue text short lanes all in
    omega (
      arith,
      counted,
      some,
      most,
      length-append head (10 ∷ []),
      length-append (line head) (lines ++ line (codes "end")),
      length-append lines (line (codes "end")),
    )

seat_short : (heading auction : List ℕ) (seat : ℕ) → length heading ≤ 255 → AreBytes 16 auction
    → 1 ≤ seat → seat ≤ 65535 → length (seat_text heading auction seat) ≤ 256 * 3
unfolding seat_text
seat_short heading auction seat short id some last =
    let one = spaced (codes "auction" ∷ hex_text auction ∷ []) in
    let two = spaced (codes "seat" ∷ decimal seat ∷ []) in
    let first = (id_line_is (codes "auction") refl (omega arith)).short auction id in
    let second = (number_line_is (codes "seat") 1 65535 refl (omega arith) (omega arith)).short seat
    (last, to_test 1 seat some) in
    omega (
      arith,
      short,
      first,
      second,
      length-append heading (10 ∷ []),
      length-append one (10 ∷ []),
      length-append two (10 ∷ []),
      length-append (line one) (line two),
      length-append (line heading) (line one ++ line two),
    )

com_short : (pair : WireCom) → IsCom pair → length (com_text pair) ≤ 255
com_short = (digests_line_is (codes "x") refl (omega arith) com_by (λ digests. digests.first)
    (λ digests. digests.second) (λ x. refl) (λ a b. refl) (λ a b. refl)).short

tape_short : (tape : XTape) → IsXTape tape → length (tape_text tape) ≤ 255
tape_short tape is =
    let small = is.0 in
    (three_line (codes "x") refl (decimal_token (modulus - 1) (omega arith)) (hex_token 32)
    (hex_token 32) (omega arith) tape_by
    (λ tape. tape.mask) (λ tape. tape.first_key) (λ tape. tape.second_key) (λ x. refl)
    (λ a b c. refl) (λ a b c. refl) (λ a b c. refl)).short tape (omega arith, is.1, is.2)

pub seal_short : (seal : Seal) → IsSeal seal → length (seal_text seal) ≤ 2 ^ 30
unfolding seal_text
seal_short seal is =
    let place = seat_text (codes "vickrey-seal 1") seal.auction seal.seat in
    let seat = seat_short (codes "vickrey-seal 1") seal.auction seal.seat (omega arith) is.id
    is.some_seat is.last_seat in
    let lanes = lanes_short IsCom com_text com_short seal.lanes is.count is.coms in
    omega (arith, seat, lanes, length-append place (lanes_text com_text seal.lanes))

pub secret_short : (secret : Secret) → IsSecret secret → length (secret_text secret) ≤ 2 ^ 30
unfolding secret_text
secret_short secret is =
    let place = seat_text (codes "vickrey-secret 1") secret.auction secret.seat in
    let bid = spaced (codes "bid" ∷ decimal secret.bid ∷ []) in
    let tapes = lanes_text tape_text secret.lanes in
    let small = is.small_bid in
    let seat = seat_short (codes "vickrey-secret 1") secret.auction secret.seat (omega arith) is.id
    is.some_seat is.last_seat in
    let bids = (number_line_is (codes "bid") 0 (2 ^ 40 - 1) refl (omega arith) (omega arith)).short
    secret.bid (omega arith, to_test 0 secret.bid (omega arith)) in
    let lanes = lanes_short IsXTape tape_text tape_short secret.lanes is.count is.tapes in
    omega (
      arith,
      seat,
      bids,
      lanes,
      length-append bid (10 ∷ []),
      length-append (line bid) tapes,
      length-append place (line bid ++ tapes),
    )

-- ---- they have no fault line

pub seal_reads : (seal : Seal) → IsSeal seal → fault_line seal_table (seal_text seal) ≡ None
seal_reads seal is =
    let found = seal_is_whole.found (record { taken = 0; left = seal_text seal }) seal is refl in
    seal_fault (seal_text seal) ∙ ap result_err found.1

pub secret_reads : (secret : Secret) → IsSecret secret
    → fault_line secret_table (secret_text secret) ≡ None
secret_reads secret is =
    let found = secret_is_whole.found (record { taken = 0; left = secret_text secret }) secret is
    refl in
    secret_fault (secret_text secret) ∙ ap result_err found.1

-- ---- what is refused on a shelf of which no call fails

no_text : {Place X T Y : Type 0} (IsValue : X → Type 0) (text : X → List ℕ) (table : Table Place)
    (IsThere : Y → Type 0) (bytes : List ℕ) (result : Result T OutsideErr)
    → ((x : X) → IsValue x → fault_line table (text x) ≡ None)
    → ((y : Y) → IsThere y → (x : X) × IsValue x × (bytes ≡ text x)) → (refusal : ReadErr)
    → Answers {T = X} IsValue text table (λ (x : X). x) bytes (Err refusal)
    → Causes {T = X} Failed (Err refusal) 0 0 → result ≡ Err (text_refusal refusal)
    → MissesNone IsThere result
no_text IsValue text table IsThere bytes result reads from (Malformed number) answers causes is =
    nowhere IsThere result (λ y there.
    let x = from y there in
    absurd (let e = sym answers ∙ (ap (fault_line table) x.2 ∙ reads x.0 x.1) in cc))
no_text IsValue text table IsThere bytes result reads from Failed answers causes is =
    absurd (let rose = causes.0 refl in omega (arith, rose))
no_text IsValue text table IsThere bytes result reads from NoMemory answers causes is =
    subst (MissesNone IsThere) (sym is) tt

-- a refused reading, but for want of memory, was of no such text
pub unread : {Place X T Y : Type 0} (IsValue : X → Type 0) (text : X → List ℕ)
    (table : Table Place) (IsThere : Y → Type 0) (bytes : List ℕ) (result : Result T OutsideErr)
    → ((x : X) → IsValue x → fault_line table (text x) ≡ None)
    → ((y : Y) → IsThere y → (x : X) × IsValue x × (bytes ≡ text x)) → (read : Result X ReadErr)
    → IsErr read → ((refusal : ReadErr) → read ≡ Err refusal → result ≡ Err (text_refusal refusal))
    → Answers IsValue text table (λ (x : X). x) bytes read → Causes Failed read 0 0
    → MissesNone IsThere result
unread IsValue text table IsThere bytes result reads from (Ok x) refused told answers causes =
    absurd (let e = refused in cc)
unread IsValue text table IsThere bytes result reads from (Err refusal) refused told answers
    causes =
    no_text IsValue text table IsThere bytes result reads from refusal answers causes
    (told refusal refl)

-- no such text has more bytes than are read
pub unheld : {X T Y : Type 0} (IsValue : X → Type 0) (text : X → List ℕ) (IsThere : Y → Type 0)
    (bytes : List ℕ) (result : Result T OutsideErr)
    → ((x : X) → IsValue x → length (text x) ≤ 2 ^ 30)
    → ((y : Y) → IsThere y → (x : X) × IsValue x × (bytes ≡ text x))
    → (IsErrOf result outside.Failed → 2 ^ 30 < length bytes) → MissesNone IsThere result
unheld IsValue text IsThere bytes result short from long =
    where_failed IsThere result (λ failed y there.
    let x = from y there in omega (arith, long failed, short x.0 x.1, ap length x.2))

too_long : {T : Type 0} (files : Files) (name text : List ℕ) → bytes_of files name ≡ text
    → IsSome (get files name) → (refusal : StartErr) (result : Result T OutsideErr)
    → Starts files name (Err refusal) → Causes {T = LinesValue} start.Failed (Err refusal) 0 0
    → result ≡ Err (start_refusal refusal) → IsErrOf result outside.Failed → 2 ^ 30 < length text
too_long files name text is held start.Missing result starts causes told failed =
    absurd (let e = subst IsSome starts held in cc)
too_long files name text is held start.TooLong result starts causes told failed =
    let long = starts.1 in omega (arith, long, ap length is)
too_long files name text is held start.Failed result starts causes told failed =
    absurd (let rose = causes.0 refl in omega (arith, rose))
too_long files name text is held start.NoMemory result starts causes told failed =
    absurd (let e = sym told ∙ failed in cc)

-- a file that isn't begun, but for want of memory, is too long
pub unstarted : {T : Type 0} (files : Files) (name text : List ℕ) → bytes_of files name ≡ text
    → IsSome (get files name) → (begun : Result LinesValue StartErr) (result : Result T OutsideErr)
    → IsErr begun
    → ((refusal : StartErr) → begun ≡ Err refusal → result ≡ Err (start_refusal refusal))
    → Starts files name begun → Causes start.Failed begun 0 0 → IsErrOf result outside.Failed
    → 2 ^ 30 < length text
unstarted files name text is held (Ok lines) result refused told starts causes failed =
    absurd (let e = refused in cc)
unstarted files name text is held (Err refusal) result refused told starts causes failed =
    too_long files name text is held refusal result starts causes (told refusal refl) failed
