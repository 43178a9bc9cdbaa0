-- Drawing so many of a kind, one after another.
use Rattle.std.proofs.Common.{◌≡◌, ℕ, zero, suc, ◌+◌, ◌-◌, ◌<◌, List, [], ◌∷◌, ◌++◌, length, take, Option, Some, None, Result, Ok, Err, ok_or, refl, ap, sym, ◌∙◌, subst, arith}
use Rattle.std.specs.Option.{IfSome}
use Rattle.std.specs.Result.{IfErr}
use Rattle.std.specs.Prelude.{All}
use Rattle.std.proofs.lemmas.List.{length_push, take-take, take_all, take_at}
use Rattle.std.proofs.lemmas.List.Elements.{All-push}
use Rattle.vk_dice.specs.declared.many.DryDraw.{DryDraw}
use Rattle.vk_dice.specs.Many.{Drawing, words_after, draws_after, drawn_onto, after_draws}

drawn_more : {X : Type 0} (kind : Drawing X) (before : List X) (count : ℕ) (ahead : ℕ → ℕ)
    → 0 < count
    → drawn_onto kind before count ahead
    ≡ draws_after (length before)
    (λ item. drawn_onto kind (before ++ item ∷ []) (count - 1) (kind.after ahead))
    (kind.drawn ahead)
unfolding drawn_onto
drawn_more kind before zero ahead some = absurd (omega arith)
drawn_more kind before (suc count) ahead some = let less : suc count - 1 ≡ count = omega arith in
    rw less refl

after_more : {X : Type 0} (kind : Drawing X) (count : ℕ) (ahead : ℕ → ℕ) → 0 < count
    → after_draws kind count ahead
    ≡ words_after (kind.dry ahead) (after_draws kind (count - 1) (kind.after ahead))
    (kind.drawn ahead)
unfolding after_draws
after_more kind zero ahead some = absurd (omega arith)
after_more kind (suc count) ahead some = let less : suc count - 1 ≡ count = omega arith in
    rw less refl

-- one more is drawn
pub drawn_turn : {X : Type 0} (kind : Drawing X) (o : Option X) (xs ys : List X) (item : X)
    (left next : ℕ) (ahead later : ℕ → ℕ) (whole : Result (List X) ℕ)
    → next + 1 ≡ left → o ≡ Some item → o ≡ kind.drawn ahead
    → later ≡ words_after (kind.dry ahead) (kind.after ahead) o → ys ≡ xs ++ item ∷ []
    → drawn_onto kind xs left ahead ≡ whole → drawn_onto kind ys next later ≡ whole
drawn_turn kind o xs ys item left next ahead later whole fewer some drawn after pushed so_far =
    let less : left - 1 ≡ next = omega arith in
    let here : later ≡ kind.after ahead =
    after ∙ ap (words_after (kind.dry ahead) (kind.after ahead)) some in
    rw (pushed, here, ← less)
    (ap (draws_after (length xs)
    (λ t. drawn_onto kind (xs ++ t ∷ []) (left - 1) (kind.after ahead))) (sym some ∙ drawn)
    ∙ sym (drawn_more kind xs left ahead (omega arith)) ∙ so_far)

pub after_turn : {X : Type 0} (kind : Drawing X) (o : Option X) (item : X) (left next : ℕ)
    (ahead later whole : ℕ → ℕ)
    → next + 1 ≡ left → o ≡ Some item → o ≡ kind.drawn ahead
    → later ≡ words_after (kind.dry ahead) (kind.after ahead) o
    → after_draws kind left ahead ≡ whole → after_draws kind next later ≡ whole
after_turn kind o item left next ahead later whole fewer some drawn after so_far =
    let less : left - 1 ≡ next = omega arith in
    let here : later ≡ kind.after ahead =
    after ∙ ap (words_after (kind.dry ahead) (kind.after ahead)) some in
    rw (here, ← less)
    (ap (words_after (kind.dry ahead) (after_draws kind (left - 1) (kind.after ahead)))
    (sym some ∙ drawn)
    ∙ sym (after_more kind left ahead (omega arith)) ∙ so_far)

-- one is dry
refused : {T E : Type 0} (o : Option T) (e err : E) → ◌≡◌ {A = Result T E} (Err e) (ok_or o err)
    → (o ≡ None) × (e ≡ err)
refused (Some x) e err same = cc
refused None e err same = (refl, cc)

pub drawn_dry : {X T : Type 0} (kind : Drawing X) (result : Result T DryDraw) (o : Option X)
    (e : DryDraw) (xs : List X) (number left : ℕ) (ahead : ℕ → ℕ) (whole : Result (List X) ℕ)
    → result ≡ Err e → ◌≡◌ {A = Result X DryDraw} (Err e) (ok_or o (record { number = number }))
    → o ≡ kind.drawn ahead → length xs ≡ number → 0 < left
    → drawn_onto kind xs left ahead ≡ whole → IfErr result (λ dry. whole ≡ Err dry.number)
drawn_dry kind result o e xs number left ahead whole is same drawn count some so_far =
    let err : DryDraw = record { number = number } in
    let no = refused o e err same in
    let numbered : number ≡ e.number = sym (ap (λ (dry : DryDraw). dry.number) no.1) in
    rw is
    (sym so_far ∙ drawn_more kind xs left ahead some
    ∙ ap (draws_after (length xs)
    (λ t. drawn_onto kind (xs ++ t ∷ []) (left - 1) (kind.after ahead))) (sym drawn ∙ no.0)
    ∙ ap Err (count ∙ numbered))

pub after_dry : {X : Type 0} (kind : Drawing X) (o : Option X) (e : DryDraw) (number left : ℕ)
    (ahead later whole : ℕ → ℕ)
    → ◌≡◌ {A = Result X DryDraw} (Err e) (ok_or o (record { number = number }))
    → o ≡ kind.drawn ahead → 0 < left
    → later ≡ words_after (kind.dry ahead) (kind.after ahead) o
    → after_draws kind left ahead ≡ whole → later ≡ whole
after_dry kind o e number left ahead later whole same drawn some after so_far =
    let err : DryDraw = record { number = number } in
    let no = refused o e err same in
    after ∙ ap (words_after (kind.dry ahead) (kind.after ahead)) no.0
    ∙ ap (words_after (kind.dry ahead) (after_draws kind (left - 1) (kind.after ahead)))
    (sym no.0 ∙ drawn)
    ∙ sym (after_more kind left ahead some) ∙ so_far

-- all are drawn
pub drawn_done : {X : Type 0} (kind : Drawing X) (xs : List X) (left : ℕ) (ahead : ℕ → ℕ)
    (whole : Result (List X) ℕ)
    → left ≡ 0 → drawn_onto kind xs left ahead ≡ whole → whole ≡ Ok xs
unfolding drawn_onto
drawn_done kind xs left ahead whole none so_far =
    sym so_far ∙ ap (λ n. drawn_onto kind xs n ahead) none

pub after_done : {X : Type 0} (kind : Drawing X) (left : ℕ) (ahead whole : ℕ → ℕ) → left ≡ 0
    → after_draws kind left ahead ≡ whole → ahead ≡ whole
unfolding after_draws
after_done kind left ahead whole none so_far = sym (ap (λ n. after_draws kind n ahead) none)
    ∙ so_far

-- what stands in an option is right where the option's is
pub right_of_some : {X : Type 0} (P : X → Type 0) (o : Option X) (item : X) → o ≡ Some item
    → IfSome o P → P item
right_of_some P (Some x) item is right = let same : x ≡ item = cc in subst P same right
right_of_some P None item is right = cc is

-- ---- what was drawn

-- a draw that others follow gave something
pub where_drawn : {X A : Type 0} (number : ℕ) (rest : X → Result A ℕ) (o : Option X) (all : A)
    → draws_after number rest o ≡ Ok all
    → (item : X) × (o ≡ Some item) × (rest item ≡ Ok all)
where_drawn number rest None all is = cc
where_drawn number rest (Some item) all is = (item, refl, is)

-- so many more are there, and each is right where each that is drawn is
pub drawn_each : {X : Type 0} (kind : Drawing X) (P : X → Type 0)
    → ((ahead : ℕ → ℕ) (item : X) → kind.drawn ahead ≡ Some item → P item)
    → (before : List X) (count : ℕ) (ahead : ℕ → ℕ) (all : List X) → All P before
    → drawn_onto kind before count ahead ≡ Ok all
    → (length all ≡ length before + count) × All P all
unfolding drawn_onto
drawn_each kind P one before zero ahead all are is = let same : before ≡ all = cc in
    (omega (arith, ap length same), subst (All P) same are)
drawn_each kind P one before (suc count) ahead all are is =
    let first = where_drawn (length before)
    (λ item. drawn_onto kind (before ++ item ∷ []) count (kind.after ahead)) (kind.drawn ahead)
    all is in
    let rest = drawn_each kind P one (before ++ first.0 ∷ []) count (kind.after ahead) all
    (All-push P before first.0 are (one ahead first.0 first.1)) first.2 in
    (rest.0 ∙ omega (arith, length_push before first.0), rest.1)

-- those before stay in front
pub drawn_begins : {X : Type 0} (kind : Drawing X) (before : List X) (count : ℕ) (ahead : ℕ → ℕ)
    (all : List X) → drawn_onto kind before count ahead ≡ Ok all
    → take (length before) all ≡ before
unfolding drawn_onto
drawn_begins kind before zero ahead all is =
    let same : before ≡ all = cc in
    ap (take (length before)) (sym same) ∙ take_all (length before) before (omega arith)
drawn_begins kind before (suc count) ahead all is =
    let first = where_drawn (length before)
    (λ item. drawn_onto kind (before ++ item ∷ []) count (kind.after ahead)) (kind.drawn ahead)
    all is in
    let longer = length (before ++ first.0 ∷ []) in
    let more = length_push before first.0 in
    sym (take-take (length before) longer all (omega arith))
    ∙ (ap (take (length before))
    (drawn_begins kind (before ++ first.0 ∷ []) count (kind.after ahead) all first.2)
    ∙ take_at before (first.0 ∷ []) (length before) refl)
