-- The seals of a sample, one after another.
use Rattle.std.proofs.Common.{◌≡◌, ℕ, zero, suc, ◌+◌, ◌-◌, ◌<◌, List, [], ◌∷◌, ◌++◌, length, Option, Some, None, Result, Ok, Err, refl, sym, ap, ◌∙◌, arith}
use Rattle.vk_residue.specs.Steps.{◌>>=◌}
use Rattle.vk_lines.specs.Gives.{Gives, Refuses}
use Rattle.vk_keeper.specs.declared.auction.SealRow.{SealRow}
use Rattle.vk_job.specs.Answers.{JobAnswer}
use Rattle.vk_job.specs.JobValues.{JobValue}
use Rattle.vk_job.specs.declared.errors.JobErr.TheVariants as job
use Rattle.vk_report.specs.declared.sample.SampleCase.{SampleCase}
use Rattle.vk_sample_parts.specs.declared.errors.SampleErr.{SampleErr}
use Rattle.vk_sample_parts.specs.Auctions.{DrySeed, auction_by, auction_with, dry_of, rows_onto, sealed, secret_at, unless_dry}

-- ---- one seal

-- ---- seal by seal

rows_more : (sample : SampleCase) (rows : List SealRow) (count : ℕ) → 0 < count
    → rows_onto sample rows count
    ≡ (sealed (secret_at sample (length rows)) >>= λ row. rows_onto sample (rows ++ row ∷ [])
    (count - 1))
unfolding rows_onto
rows_more sample rows zero some = absurd (omega arith)
rows_more sample rows (suc count) some = let less : suc count - 1 ≡ count = omega arith in
    rw less refl

pub rows_turn : (sample : SampleCase) (rows after : List SealRow) (row : SealRow)
    (index left next : ℕ) (whole : Result (List SealRow) DrySeed)
    → next + 1 ≡ left → length rows ≡ index → after ≡ rows ++ row ∷ []
    → sealed (secret_at sample index) ≡ Ok row → rows_onto sample rows left ≡ whole
    → rows_onto sample after next ≡ whole
rows_turn sample rows after row index left next whole fewer count pushed made so_far =
    let less : left - 1 ≡ next = omega arith in
    let here : sealed (secret_at sample (length rows)) ≡ Ok row =
    ap (λ n. sealed (secret_at sample n)) count ∙ made in
    rw (pushed, ← less) (ap (λ first. first >>= λ r. rows_onto sample (rows ++ r ∷ []) (left - 1))
    (sym here) ∙ sym (rows_more sample rows left (omega arith)) ∙ so_far)

pub rows_dry : (sample : SampleCase) (rows : List SealRow) (index left : ℕ) (dry : Option DrySeed)
    (whole : Result (List SealRow) DrySeed)
    → 0 < left → length rows ≡ index → Refuses dry (sealed (secret_at sample index))
    → rows_onto sample rows left ≡ whole → Refuses dry whole
rows_dry sample rows index left None whole some count refused so_far = tt
rows_dry sample rows index left (Some dry) whole some count refused so_far =
    let here : sealed (secret_at sample (length rows)) ≡ Err dry =
    ap (λ n. sealed (secret_at sample n)) count ∙ refused in
    sym so_far ∙ rows_more sample rows left some
    ∙ ap (λ first. first >>= λ r. rows_onto sample (rows ++ r ∷ []) (left - 1)) here

pub rows_done : (sample : SampleCase) (rows : List SealRow) (left : ℕ)
    (whole : Result (List SealRow) DrySeed) → left ≡ 0 → rows_onto sample rows left ≡ whole
    → whole ≡ Ok rows
unfolding rows_onto
rows_done sample rows left whole none so_far = sym so_far ∙ ap (rows_onto sample rows) none

-- ---- the job

-- what refuses a step refuses what follows it
pub bind_refuses : {A B : Type 0} (dry : Option DrySeed) (step : Result A DrySeed)
    (next : A → Result B DrySeed) → Refuses dry step → Refuses dry (step >>= next)
bind_refuses None step next refused = tt
bind_refuses (Some dry) step next refused = ap (λ s. s >>= next) refused

-- where the rows are refused, this is answered
pub rows_refused : {T X : Type 0} (sample : SampleCase) (next : List SealRow → Result X DrySeed)
    (value : T → X) (answer : Result T SampleErr) (refused : SampleErr) → answer ≡ Err refused
    → Refuses (dry_of refused) (rows_onto sample [] (length sample.seats))
    → Gives dry_of value answer (rows_onto sample [] (length sample.seats) >>= next)
rows_refused sample next value answer refused is rows =
    rw is (bind_refuses (dry_of refused) (rows_onto sample [] (length sample.seats)) next rows)

pub job_made : (sample : SampleCase) (rows : List SealRow) (job : JobValue)
    → rows_onto sample [] (length sample.seats) ≡ Ok rows
    → JobAnswer (Ok job) (auction_with sample rows)
    → (rows_onto sample [] (length sample.seats) >>= auction_by sample) ≡ Ok job.auction
job_made sample rows job made is =
    ap (λ r. r >>= auction_by sample) made
    ∙ ap (unless_dry (auction_with sample rows)) (is.1.tapes)
    ∙ ap (λ (j : JobValue). Ok j.auction) (sym is.0)
