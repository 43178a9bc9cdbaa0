-- What the files that a command names were read as.
use Rattle.std.proofs.Common.{◌≡◌, ◌≢◌, ℕ, List, [], ◌∷◌, Option, Result, Ok, Err, refl, sym, ap, subst, ◌∙◌, arith}
use Rattle.std.specs.Prelude.{IfErr}
use Rattle.std.specs.FinMap.{get}
use Rattle.std.specs.Result.{result_err}
use Rattle.vk_residue.specs.Steps.{◌>>=◌}
use Rattle.vk_io.specs.Files.{Files}
use Rattle.vk_lines.specs.Lines.{Rest}
use Rattle.vk_reply.specs.declared.challenge.Challenge.{Challenge}
use Rattle.vk_reply.specs.Reading.{challenge_at}
use Rattle.vk_reply.specs.Tables.{challenge_table}
use Rattle.vk_reply.specs.Texts.{challenge_text}
use Rattle.vk_reply.specs.Values.{IsChallenge}
use Rattle.vk_reply.proofs.Challenges.{challenge_fault, challenge_is_whole}
use Rattle.vk_seal.specs.declared.secret.Seal.{Seal}
use Rattle.vk_seal.specs.declared.secret.Secret.{Secret}
use Rattle.vk_seal.specs.Reading.{seal_at, secret_at}
use Rattle.vk_seal.specs.Tables.{seal_table, secret_table}
use Rattle.vk_seal.specs.Texts.{seal_text, secret_text}
use Rattle.vk_seal.specs.Values.{IsSeal, IsSecret}
use Rattle.vk_seal.proofs.Forms.{seal_fault, seal_is_whole, secret_fault, secret_is_whole}
use Rattle.vk_keeper.specs.declared.auction.SealRow.{SealRow}
use Rattle.vk_keeper.specs.Joining.{first_of}
use Rattle.vk_effect.specs.Effects.{SaidValue}
use Rattle.vk_effect.specs.Reading.{begun_in, faulty_said, from_first, unheld_said, value_in}
use Rattle.vk_effect.proofs.NamedFiles.{file_begun, file_read, file_said, whole_found}
use Rattle.vk_effect.proofs.NamedValues.{named_exactly, named_found, named_said, named_says, then_ok}
use Rattle.vk_auctioneer.specs.Inputs.{challenge_in, row_in}
use Rattle.vk_auctioneer.specs.Laws.{AreTexts, IsText, ReadsChallenge, ReadsRow}

-- ---- a seal and a secret

-- both files are begun, and then both are read
abbrev pub both_read : Result Rest SaidValue → Result Rest SaidValue
    → (Rest → Result Seal SaidValue) → (Rest → Result Secret SaidValue) → Result SealRow SaidValue
both_read first second read_first read_second =
    first >>= λ one. second >>= λ other. read_first one >>= λ seal. read_second other >>= λ secret.
    Ok (record { seal = seal; secret = secret })

both_found : (first second : Result Rest SaidValue) (read_first : Rest → Result Seal SaidValue)
    (read_second : Rest → Result Secret SaidValue) (one other : Rest) (seal : Seal)
    (secret : Secret) → first ≡ Ok one → second ≡ Ok other → read_first one ≡ Ok seal
    → read_second other ≡ Ok secret
    → both_read first second read_first read_second ≡ Ok (record { seal = seal; secret = secret })
both_found first second read_first read_second one other seal secret is_first is_second is_seal
    is_secret =
    ap (λ r. both_read r second read_first read_second) is_first
    ∙ ap (λ r. both_read (Ok one) r read_first read_second) is_second
    ∙ ap (λ (r : Result Seal SaidValue). r >>= λ s. read_second other >>= λ t.
    Ok (record { seal = s; secret = t })) is_seal
    ∙ ap (λ (r : Result Secret SaidValue). r >>= λ t. Ok (record { seal = seal; secret = t }))
    is_secret

last_said : (seal : Result Seal SaidValue) (secret : Result Secret SaidValue)
    → result_err {T = SealRow} (seal >>= λ s. secret >>= λ t. Ok (record { seal = s; secret = t }))
    ≡ first_of (result_err seal ∷ result_err secret ∷ [])
unfolding first_of
last_said (Ok seal) (Ok secret) = refl
last_said (Ok seal) (Err said) = refl
last_said (Err said) secret = refl

both_said : (first second : Result Rest SaidValue) (read_first : Rest → Result Seal SaidValue)
    (read_second : Rest → Result Secret SaidValue) (faulty other_faulty : Option SaidValue)
    → ((one : Rest) → first ≡ Ok one → faulty ≡ result_err (read_first one))
    → ((other : Rest) → second ≡ Ok other → other_faulty ≡ result_err (read_second other))
    → result_err (both_read first second read_first read_second)
    ≡ first_of (result_err first ∷ result_err second ∷ faulty ∷ other_faulty ∷ [])
unfolding first_of
both_said (Err said) second read_first read_second faulty other_faulty is_faulty is_other = refl
both_said (Ok one) (Err said) read_first read_second faulty other_faulty is_faulty is_other = refl
both_said (Ok one) (Ok other) read_first read_second faulty other_faulty is_faulty is_other =
    last_said (read_first one) (read_second other)
    ∙ ap (λ f. first_of (f ∷ result_err (read_second other) ∷ [])) (sym (is_faulty one refl))
    ∙ ap (λ f. first_of (faulty ∷ f ∷ [])) (sym (is_other other refl))

row_is : (files : Files) (seal_name secret_name : List ℕ)
    → row_in files seal_name secret_name
    ≡ both_read (begun_in seal_name (get files seal_name))
    (begun_in secret_name (get files secret_name)) (λ rest. value_in seal_name (seal_at rest))
    (λ rest. value_in secret_name (secret_at rest))
unfolding row_in
row_is files seal_name secret_name = refl

row_texts : (files : Files) (seal_name secret_name : List ℕ) (row : SealRow)
    → row_in files seal_name secret_name ≡ Ok row → AreTexts files seal_name secret_name row
row_texts files seal_name secret_name row is =
    let first = then_ok (begun_in seal_name (get files seal_name)) _ row
    (sym (row_is files seal_name secret_name) ∙ is) in
    let second = then_ok (begun_in secret_name (get files secret_name)) _ row first.2 in
    let seal = then_ok (value_in seal_name (seal_at first.0)) _ row second.2 in
    let secret = then_ok (value_in secret_name (secret_at second.0)) _ row seal.2 in
    let same : record { seal = seal.0; secret = secret.0 } ≡ row = cc (secret.2) in
    let seal_is = file_read IsSeal seal_text seal_at seal_is_whole files seal_name first.0 seal.0
    first.1 seal.1 in
    let secret_is = file_read IsSecret secret_text secret_at secret_is_whole files secret_name
    second.0 secret.0 second.1 secret.1 in
    subst (AreTexts files seal_name secret_name) same
    (record {
      seal = seal_is.0;
      secret = secret_is.0;
      seal_file = seal_is.1;
      secret_file = secret_is.1;
    })

row_found : (files : Files) (seal_name secret_name : List ℕ) (row : SealRow)
    → AreTexts files seal_name secret_name row → row_in files seal_name secret_name ≡ Ok row
row_found files seal_name secret_name row are =
    row_is files seal_name secret_name
    ∙ both_found _ _ (λ rest. value_in seal_name (seal_at rest))
    (λ rest. value_in secret_name (secret_at rest)) (from_first (seal_text row.seal))
    (from_first (secret_text row.secret)) row.seal row.secret
    (file_begun files seal_name (seal_text row.seal) are.seal_file)
    (file_begun files secret_name (secret_text row.secret) are.secret_file)
    (whole_found IsSeal seal_text seal_at seal_is_whole seal_name row.seal are.seal)
    (whole_found IsSecret secret_text secret_at secret_is_whole secret_name row.secret
    are.secret)

row_said : (files : Files) (seal_name secret_name : List ℕ)
    → result_err (row_in files seal_name secret_name)
    ≡ first_of (unheld_said seal_name (get files seal_name)
    ∷ unheld_said secret_name (get files secret_name)
    ∷ faulty_said seal_table seal_name (get files seal_name)
    ∷ faulty_said secret_table secret_name (get files secret_name) ∷ [])
row_said files seal_name secret_name =
    let seal_file = get files seal_name in
    let secret_file = get files secret_name in
    ap result_err (row_is files seal_name secret_name)
    ∙ both_said (begun_in seal_name seal_file) (begun_in secret_name secret_file)
    (λ rest. value_in seal_name (seal_at rest)) (λ rest. value_in secret_name (secret_at rest))
    (faulty_said seal_table seal_name seal_file) (faulty_said secret_table secret_name secret_file)
    (file_said seal_table seal_at seal_fault seal_name seal_file)
    (file_said secret_table secret_at secret_fault secret_name secret_file)

pub reads_row : (files : Files) (seal_name secret_name : List ℕ)
    → ReadsRow files seal_name secret_name
reads_row files seal_name secret_name = record {
  read = λ row. (
    row_texts files seal_name secret_name row,
    row_found files seal_name secret_name row,
  );
  said = row_said files seal_name secret_name;
}

-- ---- a challenge

pub challenge_found : (files : Files) (name : List ℕ) (challenge : Challenge)
    → IsText files name challenge → challenge_in files name ≡ Ok challenge
challenge_found = named_found IsChallenge challenge_text challenge_at challenge_is_whole

-- what is said of the file has no status 0
abbrev Refuses : SaidValue → Type 0
Refuses said = said.status ≢ 0

challenge_says : (files : Files) (name : List ℕ) → IfErr (challenge_in files name) Refuses
challenge_says = named_says Refuses (λ name zero. omega (arith, zero))
    (λ name zero. omega (arith, zero)) (λ name line zero. omega (arith, zero)) challenge_at

pub challenge_refused : (files : Files) (name : List ℕ) (said : SaidValue)
    → challenge_in files name ≡ Err said → said.status ≢ 0
challenge_refused files name said is =
    subst (λ read. IfErr read Refuses) is (challenge_says files name)

pub reads_challenge : (files : Files) (name : List ℕ) → ReadsChallenge files name
reads_challenge files name = record {
  read = named_exactly IsChallenge challenge_text challenge_at challenge_is_whole files name;
  said = named_said challenge_table challenge_at challenge_fault files name;
}
