-- Words are a command exactly where each of them is what it has to be.
use Rattle.std.proofs.Common.{◌≡◌, ℕ, ◌+◌, ◌-◌, ◌^◌, Bool, true, false, List, [], ◌∷◌, ◌++◌, length, Option, Some, None, refl, ap, ◌∙◌, sym, arith}
use Rattle.std.specs.Prelude.{◌&&◌, ◌||◌, nat_le, nat_lt, not, if◌then◌else◌, is_some, is_none, option_map}
use Rattle.std.specs.Str.{bytes_eq}
use Rattle.std.proofs.lemmas.Bool.Decides.{nat_tests}
use Rattle.vk_residue.specs.Steps.{◌>>?◌}
use Rattle.vk_lines.specs.Tokens.{decimal_of, number_token}
use Rattle.vk_words.specs.declared.hints.Hint.TheVariants as hints
use Rattle.vk_words.specs.declared.kinds.WordKind.{WordKind}
use Rattle.vk_words.specs.declared.kinds.WordKind.TheVariants.{Width, Lanes, Reserve, Name}
use Rattle.vk_words.specs.declared.table.Verb.{Verb}
use Rattle.vk_words.specs.declared.table.Verb.TheVariants as verbs
use Rattle.vk_words.specs.Claims.{kind_named}
use Rattle.vk_words.specs.Coins.{challenge_in, part_in}
use Rattle.vk_words.specs.Commands.{command_by, command_words, may_have}
use Rattle.vk_words.specs.Hints.{first_unfit, hint_by, hint_in, is_of_kind, kinds_of}
use Rattle.vk_words.specs.Names.{AttemptWords, attempt_at, confront_in, extract_in, is_name, name_at, verify_in, nth_word}
use Rattle.vk_words.specs.Orders.{Announce, AnnounceReserve, announced_on, id_at, if_other, seal_in, seed_at}
use Rattle.vk_words.specs.Table.{Row, row_of}

-- whether each of the words from that place on is of its kind
abbrev fit : List WordKind → List (List ℕ) → ℕ → Bool
fit [] words place = true
fit (kind ∷ kinds) words place = is_of_kind kind words place && fit kinds words (place + 1)

-- ---- what there is of one word after another

-- of what comes of a first thing
of_then : {A B : Type 0} (x : Option A) (f : A → Option B) (later : Bool)
    → ((a : A) → x ≡ Some a → is_some (f a) ≡ later) → is_some (x >>? f) ≡ is_some x && later
of_then None f later each = refl
of_then (Some a) f later each = each a refl

-- of what is made of it alone
of_made : {A B : Type 0} (x : Option A) (make : A → B)
    → is_some (x >>? λ a. Some (make a)) ≡ is_some x
of_made None make = refl
of_made (Some a) make = refl

of_map : {A B : Type 0} (make : A → B) (x : Option A) → is_some (option_map make x) ≡ is_some x
of_map make None = refl
of_map make (Some a) = refl

of_test : {A : Type 0} (test : Bool) (a : A) → is_some (if test then Some a else None) ≡ test
of_test true a = refl
of_test false a = refl

of_other : {A : Type 0} (same : Bool) (a : A) → is_some (if same then None else Some a) ≡ not same
of_other true a = refl
of_other false a = refl

and_true : (test : Bool) → test ≡ test && true
and_true true = refl
and_true false = refl

-- ---- names

named : {B : Type 0} (words : List (List ℕ)) (place : ℕ) (f : List ℕ → Option B) (later : Bool)
    → ((name : List ℕ) → is_some (f name) ≡ later)
    → is_some (name_at words place >>? f) ≡ is_name (nth_word words place) && later
named words place f later each =
    of_then (name_at words place) f later (λ name _. each name)
    ∙ ap (λ t. t && later) (of_test (is_name (nth_word words place)) (nth_word words place))

attempt_fits : (words : List (List ℕ)) (place : ℕ)
    → is_some (attempt_at words place) ≡ fit (Name ∷ Name ∷ []) words place
unfolding attempt_at
attempt_fits words place = named words place _ _
    (λ challenge. named words (place + 1) _ true (λ reply. refl))

verify_fits : (words : List (List ℕ))
    → is_some (verify_in words) ≡ fit (Name ∷ Name ∷ Name ∷ []) words 1
unfolding verify_in
verify_fits words = named words 1 _ _
    (λ board. of_made (attempt_at words 2) _ ∙ attempt_fits words 2)

-- kinds behind kinds
fit-append : (kinds later : List WordKind) (words : List (List ℕ)) (place : ℕ)
    → fit kinds words place && fit later words (place + length kinds)
    ≡ fit (kinds ++ later) words place
fit-append [] later words place = ap (λ at. fit later words at) (omega arith)
fit-append (kind ∷ kinds) later words place =
    elim (is_of_kind kind words place) as
    (λ test. (test && fit kinds words (place + 1))
    && fit later words (place + length (kind ∷ kinds))
    ≡ test && fit (kinds ++ later) words (place + 1)) [
      | true ↦ ap (λ at. fit kinds words (place + 1) && fit later words at) (omega arith)
          ∙ fit-append kinds later words (place + 1)
      | false ↦ refl
    ]

extract_fits : (words : List (List ℕ))
    → is_some (extract_in words) ≡ fit (kinds_of verbs.Extract) words 1
unfolding extract_in
extract_fits words =
    of_then (verify_in words) _ (fit (Name ∷ Name ∷ []) words 4)
    (λ names _. of_made (attempt_at words 4) _ ∙ attempt_fits words 4)
    ∙ (ap (λ t. t && fit (Name ∷ Name ∷ []) words 4) (verify_fits words)
    ∙ fit-append (Name ∷ Name ∷ Name ∷ []) (Name ∷ Name ∷ []) words 1)

confront_fits : (words : List (List ℕ))
    → is_some (confront_in words) ≡ fit (kinds_of verbs.Confront) words 1
unfolding confront_in
confront_fits words =
    of_then (extract_in words) _ (fit (Name ∷ []) words 6)
    (λ replies _. named words 6 _ true (λ secret. refl))
    ∙ (ap (λ t. t && fit (Name ∷ []) words 6) (extract_fits words)
    ∙ fit-append (kinds_of verbs.Extract) (Name ∷ []) words 1)

-- two names that differ
others : {B : Type 0} (one two : Bool) (first second : List ℕ) (f : List ℕ → List ℕ → B)
    → is_some ((if one then Some first else None) >>? λ a. (if two then Some second else None) >>?
    λ b. if_other a b (f a b))
    ≡ one && ((two && not (bytes_eq first second)) && true)
others true true first second f = of_other (bytes_eq first second) (f first second)
    ∙ and_true (not (bytes_eq first second))
others true false first second f = refl
others false two first second f = refl

answered : {B : Type 0} (one two : Bool) (first second : List ℕ) (f : AttemptWords → B)
    → is_some (((if one then Some first else None) >>? λ a. (if two then Some second else None) >>?
    λ b. Some (record { challenge = a; reply = b }))
    >>? λ attempt. if_other attempt.challenge attempt.reply (f attempt))
    ≡ one && ((two && not (bytes_eq first second)) && true)
answered true true first second f =
    of_other (bytes_eq first second) (f (record { challenge = first; reply = second }))
    ∙ and_true (not (bytes_eq first second))
answered true false first second f = refl
answered false two first second f = refl

-- ---- commands

seal_fits : (words : List (List ℕ)) → is_some (seal_in words) ≡ fit (kinds_of verbs.Seal) words 1
unfolding seal_in
seal_fits words =
    of_then (id_at words 1) _ _ (λ auction _.
    of_then (number_token 1 65535 (nth_word words 2)) _ _ (λ seat _.
    of_then (decimal_of (2 ^ 64 - 1) (nth_word words 3)) _ _ (λ bid _.
    of_then (number_token 1 40 (nth_word words 4)) _ _ (λ width _.
    of_then (number_token 1 64 (nth_word words 5)) _ _ (λ lanes _.
    of_then (seed_at words 6) _ _ (λ seed _.
    others (is_name (nth_word words 7)) (is_name (nth_word words 8)) (nth_word words 7)
    (nth_word words 8) _))))))

not_more : (count : ℕ) → nat_le count 4 ≡ not (nat_lt 4 count)
not_more count = grind (arith, nat_tests)

-- a number that stands where there are more than four words
of_five : {B : Type 0} (count : ℕ) (read : Option ℕ) (make : ℕ → B) (else_this : B) (more : Bool)
    → nat_le count 4 ≡ not more
    → is_some (if more then option_map make read else Some else_this)
    ≡ (nat_le count 4 || is_some read) && true
of_five count read make else_this true few = rw few (of_map make read ∙ and_true (is_some read))
of_five count read make else_this false few = rw few refl

-- the reserve of an auction, which may be left out
reserve_fits : (id : List ℕ) (width lanes : ℕ) (words : List (List ℕ))
    → number_token 1 40 (nth_word words 2) ≡ Some width
    → is_some (announced_on id width lanes words) ≡ fit (Reserve ∷ []) words 4
reserve_fits id width lanes words is =
    rw is (of_five (length words) (decimal_of (2 ^ width - 1) (nth_word words 4))
    (AnnounceReserve id width lanes) (Announce id width lanes) (nat_lt 4 (length words))
    (not_more (length words)))

announce_fits : (id : List ℕ) (words : List (List ℕ))
    → is_some (number_token 1 40 (nth_word words 2) >>? λ width.
    number_token 1 64 (nth_word words 3) >>? λ lanes. announced_on id width lanes words)
    ≡ fit (Width ∷ Lanes ∷ Reserve ∷ []) words 2
announce_fits id words =
    of_then (number_token 1 40 (nth_word words 2)) _ _ (λ width is.
    of_then (number_token 1 64 (nth_word words 3)) _ _
    (λ lanes _. reserve_fits id width lanes words is))

part_fits : (words : List (List ℕ))
    → is_some (part_in words) ≡ fit (kinds_of verbs.CoinPart) words 1
unfolding part_in
part_fits words =
    of_then (id_at words 1) _ _ (λ auction _.
    of_then (number_token 1 16 (nth_word words 2)) _ _ (λ auditor _.
    of_then (number_token 1 64 (nth_word words 3)) _ _ (λ lanes _.
    of_then (seed_at words 4) _ _ (λ seed _. named words 5 _ true (λ share. refl)))))

challenge_fits : (words : List (List ℕ))
    → is_some (challenge_in words) ≡ fit (kinds_of verbs.CoinJoin) words 1
unfolding challenge_in
challenge_fits words = others (is_name (nth_word words 1)) (is_name (nth_word words 2))
    (nth_word words 1) (nth_word words 2) _

fits : (verb : Verb) (words : List (List ℕ))
    → is_some (command_by verb words) ≡ fit (kinds_of verb) words 1
unfolding attempt_at
fits verbs.Seal words = of_map _ (seal_in words) ∙ seal_fits words
fits verbs.Announce words = of_map _ _
    ∙ of_then (id_at words 1) _ _ (λ id _. announce_fits id words)
fits verbs.Submit words = of_map _ _
    ∙ of_then (id_at words 1) _ _
    (λ id _. named words 2 _ _ (λ seal. named words 3 _ true (λ secret. refl)))
fits verbs.Prove words = of_map _ _
    ∙ of_then (id_at words 1) _ _
    (λ id _. of_then (seed_at words 2) _ _ (λ seed _. named words 3 _ true (λ board. refl)))
fits verbs.Answer words =
    of_map _ _ ∙ of_then (id_at words 1) _ _
    (λ id _. answered (is_name (nth_word words 2)) (is_name (nth_word words 3))
    (nth_word words 2) (nth_word words 3) _)
fits verbs.Show words = of_map _ _ ∙ of_then (id_at words 1) _ true (λ id _. refl)
fits verbs.Verify words = of_map _ (verify_in words) ∙ verify_fits words
fits verbs.Extract words = of_map _ (extract_in words) ∙ extract_fits words
fits verbs.Confront words = of_map _ (confront_in words) ∙ confront_fits words
fits verbs.Report words = of_map _ (name_at words 1)
    ∙ (of_test (is_name (nth_word words 1)) _ ∙ and_true _)
fits verbs.Sample words = of_map _ (decimal_of (2 ^ 64 - 1) (nth_word words 1)) ∙ and_true _
fits verbs.Ceremony words = of_map _ (name_at words 1)
    ∙ (of_test (is_name (nth_word words 1)) _ ∙ and_true _)
fits verbs.ClaimVerify words = of_map _ (verify_in words) ∙ verify_fits words
fits verbs.ClaimExtract words = of_map _ (extract_in words) ∙ extract_fits words
fits verbs.ClaimSample words =
    of_then (kind_named (nth_word words 1)) _ _
    (λ kind _. of_map _ (decimal_of (2 ^ 64 - 1) (nth_word words 2)) ∙ and_true _)
fits verbs.CoinPart words = of_map _ _ ∙ of_map _ (part_in words) ∙ part_fits words
fits verbs.CoinJoin words = of_map _ _ ∙ of_map _ (challenge_in words) ∙ challenge_fits words
fits verbs.CoinBoard words = of_map _ _ ∙ of_map _ (challenge_in words) ∙ challenge_fits words

-- ---- hints

-- no word is unfit where each is of its kind
none_unfit : (kinds : List WordKind) (words : List (List ℕ)) (place : ℕ)
    → is_none (first_unfit kinds words place) ≡ fit kinds words place
unfolding first_unfit
none_unfit [] words place = refl
none_unfit (kind ∷ kinds) words place =
    elim (is_of_kind kind words place) as
    (λ test. is_none (if test then first_unfit kinds words (place + 1)
    else Some (hints.Word place kind)) ≡ test && fit kinds words (place + 1)) [
      | true ↦ none_unfit kinds words (place + 1)
      | false ↦ refl
    ]

of_count : (row : Row) (words : List (List ℕ)) (may : Bool)
    → is_none (if may then first_unfit (kinds_of row.verb) words 1
    else Some (hints.Count row.words row.most (length words)))
    ≡ is_some (if may then command_by row.verb words else None)
of_count row words true = none_unfit (kinds_of row.verb) words 1 ∙ sym (fits row.verb words)
of_count row words false = refl

of_row : (row : Option Row) (words : List (List ℕ))
    → is_none (hint_by words row)
    ≡ is_some (row >>? λ r. if may_have r (length words) then command_by r.verb words else None)
of_row None words = refl
of_row (Some row) words = of_count row words (may_have row (length words))

pub no_hint : (words : List (List ℕ)) → is_none (hint_in words) ≡ is_some (command_words words)
unfolding hint_in command_words
no_hint words = of_row (row_of (nth_word words 0)) words
