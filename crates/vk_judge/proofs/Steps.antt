-- One test after another, for files: what each gave where all were passed.
use Rattle.std.proofs.Common.{◌≡◌, ◌≢◌, ℕ, ◌⊎◌, inl, inr, Result, Ok, Err, refl, ap}
use Rattle.vk_residue.specs.Steps.{◌>>=◌}
use Rattle.vk_judge.specs.declared.answers.Part.{Part}
use Rattle.vk_judge.specs.declared.answers.Fault.{Fault}
use Rattle.vk_judge.specs.declared.answers.Fault.TheVariants.{Malformed}
use Rattle.vk_judge.specs.Behind.{in_part}

pub bind_ok : {A B E : Type 0} (r : Result A E) (f : A → Result B E) (y : B) → (r >>= f) ≡ Ok y
    → (x : A) × (r ≡ Ok x) × (f x ≡ Ok y)
bind_ok (Ok x) f y h = (x, refl, h)
bind_ok (Err e) f y h = cc

pub bind_found : {A B E : Type 0} (r : Result A E) (f : A → Result B E) (x : A) → r ≡ Ok x
    → (r >>= f) ≡ f x
bind_found r f x found = ap (λ q. q >>= f) found

pub value_same : {A E : Type 0} (x y : A) → ◌≡◌ {A = Result A E} (Ok x) (Ok y) → x ≡ y
value_same x y same = cc

-- a fault that no step has is none of all
pub bind_never : {A B E : Type 0} (r : Result A E) (f : A → Result B E) (fault : E) → r ≢ Err fault
    → ((x : A) → f x ≢ Err fault) → (r >>= f) ≢ Err fault
bind_never (Ok x) f fault first later e = later x e
bind_never (Err other) f fault first later e = let same : other ≡ fault = cc in
    first (ap (λ z. Err z) same)

part_ok : {X : Type 0} (file : Part) (r : Result X ℕ) (x : X) → in_part file r ≡ Ok x → r ≡ Ok x
part_ok file (Ok y) x h = ap (λ z. Ok z) (value_same y x h)
part_ok file (Err line) x h = cc

-- the same where the step is the reading of a part of a file
pub read_ok : {X Y : Type 0} (file : Part) (r : Result X ℕ) (f : X → Result Y Fault) (y : Y)
    → (in_part file r >>= f) ≡ Ok y → (x : X) × (r ≡ Ok x) × (f x ≡ Ok y)
read_ok file r f y h =
    let step = bind_ok (in_part file r) f y h in
    (step.0, part_ok file r step.0 step.1, step.2)

pub read_found : {X Y : Type 0} (file : Part) (r : Result X ℕ) (f : X → Result Y Fault) (x : X)
    → r ≡ Ok x
    → (in_part file r >>= f) ≡ f x
read_found file r f x found = ap (λ q. in_part file q >>= f) found

-- ---- where a test fails

pub bind_err : {A B E : Type 0} (r : Result A E) (f : A → Result B E) (fault : E)
    → (r >>= f) ≡ Err fault
    → (r ≡ Err fault) ⊎ ((x : A) × (r ≡ Ok x) × (f x ≡ Err fault))
bind_err (Ok x) f fault h = inr (x, refl, h)
bind_err (Err other) f fault h = let same : other ≡ fault = cc in inl (ap (λ z. Err z) same)

-- the file has a fault in that line, which is this fault
pub record Unread {X : Type 0} (file : Part) (r : Result X ℕ) (fault : Fault) : Type 0 where
  pub line : ℕ
  pub stop : r ≡ Err line
  pub is : Malformed file line ≡ fault

part_err : {X : Type 0} (file : Part) (r : Result X ℕ) (fault : Fault) → in_part file r ≡ Err fault
    → Unread file r fault
part_err file (Ok x) fault h = cc
part_err file (Err line) fault h = record { line = line; stop = refl; is = cc }

pub read_err : {X Y : Type 0} (file : Part) (r : Result X ℕ) (f : X → Result Y Fault)
    (fault : Fault)
    → (in_part file r >>= f) ≡ Err fault
    → Unread file r fault ⊎ ((x : X) × (r ≡ Ok x) × (f x ≡ Err fault))
read_err file r f fault h = elim (bind_err (in_part file r) f fault h) [
  | inl stop ↦ inl (part_err file r fault stop)
  | inr read ↦ inr (read.0, part_ok file r read.0 read.1, read.2)
]
