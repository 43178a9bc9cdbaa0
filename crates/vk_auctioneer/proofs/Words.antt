-- The words of a command of the house are such that the house may be asked by them.
use Rattle.std.proofs.Common.{◌≡◌, ℕ, ◌^◌, ◌<◌, ◌≤◌, ◌-◌, nat_le, nat_lt, Bool, true, false, if◌then◌else◌, List, length, Option, Some, None, IfSome, refl, arith}
use Rattle.std.specs.Prelude.{option_map}
use Rattle.std.specs.Str.{bytes_eq}
use Rattle.std.proofs.Math.Pow.{lt_of_le_ones, ones_lt, pow_mono}
use Rattle.std.proofs.lemmas.Bool.{leb-true}
use Rattle.vk_residue.specs.Limits.{IsSize}
use Rattle.vk_residue.specs.Steps.{◌>>?◌}
use Rattle.vk_commit.specs.Values.{AreBytes}
use Rattle.vk_lines.specs.Tokens.{decimal_of, hex_of, meets, number_token}
use Rattle.vk_lines.proofs.Hexadecimal.{hex_of-some}
use Rattle.vk_lines.proofs.Words.{decimal_token, meeting_token}
use Rattle.vk_words.specs.declared.table.Verb.{Verb}
use Rattle.vk_words.specs.declared.table.Verb.TheVariants as verbs
use Rattle.vk_words.specs.Commands.{CommandWords, Seal, House, Audit, Sample, Ceremony, Claim, ClaimSample, Coin, command_by, command_words, house_in, house_words, may_have}
use Rattle.vk_words.specs.Audits as audits
use Rattle.vk_words.specs.Claims.{kind_named}
use Rattle.vk_words.specs.Claims as claims
use Rattle.vk_words.specs.Coins.{coin_by}
use Rattle.vk_words.specs.Names.{attempt_at, confront_in, extract_in, name_at, verify_in, nth_word}
use Rattle.vk_words.specs.Orders.{HouseWords, Announce, AnnounceReserve, Answer, announced_on, house_by, house_on, id_at, if_other, seal_in, seed_at}
use Rattle.vk_words.specs.Scripts.{leaves_name, script_words}
use Rattle.vk_words.specs.Table.{row_of}
use Rattle.vk_auctioneer.specs.Laws.{AreHouseWords}

-- a command of the house has such words
abbrev OfHouse : CommandWords → Type 0
OfHouse (House order) = AreHouseWords order
OfHouse command = Unit {0}

pub then_each : {A B : Type 0} (P : B → Type 0) (found : Option A) (f : A → Option B)
    → ((x : A) → found ≡ Some x → IfSome (f x) P) → IfSome (found >>? f) P
then_each P None f each = tt
then_each P (Some x) f each = each x refl

map_each : {A B : Type 0} (P : B → Type 0) (found : Option A) (f : A → B)
    → ((x : A) → found ≡ Some x → P (f x)) → IfSome (option_map f found) P
map_each P None f each = tt
map_each P (Some x) f each = each x refl

other_each : {X : Type 0} (P : X → Type 0) (name other : List ℕ) (given : X) → P given
    → IfSome (if_other name other given) P
other_each P name other given is =
    elim (bytes_eq name other) as (λ b. IfSome (if b then None else Some given) P) [
      | true ↦ tt
      | false ↦ is
    ]

hex_bytes : (count : ℕ) (text bytes : List ℕ) → hex_of count text ≡ Some bytes
    → AreBytes count bytes
hex_bytes count text bytes found = let is = hex_of-some count text bytes found in (is.0, is.1)

number_within : (least most number : ℕ) (text : List ℕ) → most < 2 ^ 64
    → number_token least most text ≡ Some number → (least ≤ number) × (number ≤ most)
number_within least most number text fits found =
    let shown = (meeting_token (λ n. nat_le least n) (decimal_token most fits)).shown text number
    found in
    (leb-true least number shown.0.1, shown.0.0)

size_of : (wide long : List ℕ) (width lanes : ℕ) → number_token 1 40 wide ≡ Some width
    → number_token 1 64 long ≡ Some lanes → IsSize width lanes
size_of wide long width lanes width_is lanes_are =
    let widths = number_within 1 40 width wide (omega arith) width_is in
    let counts = number_within 1 64 lanes long (omega arith) lanes_are in
    record {
      width = record { least = widths.0; most = widths.1 };
      lanes = record { least = counts.0; most = counts.1 };
    }

-- a decimal up to one less is below 2^width
reserve_below : (width reserve : ℕ) (text : List ℕ) → width ≤ 40
    → decimal_of (2 ^ width - 1) text ≡ Some reserve → reserve < 2 ^ width
reserve_below width reserve text most found =
    let fits : 2 ^ width - 1 < 2 ^ 64 =
    omega (arith, ones_lt width, pow_mono {i = width} {j = 64} (omega (arith, most))) in
    lt_of_le_ones width ((decimal_token (2 ^ width - 1) fits).shown text reserve found).0

announced_each : (words : List (List ℕ)) (id : List ℕ) (width lanes : ℕ) → AreBytes 16 id
    → IsSize width lanes → IfSome (announced_on id width lanes words) AreHouseWords
announced_each words id width lanes is size =
    elim (nat_lt 4 (length words)) as
    (λ b. IfSome (if b then option_map (AnnounceReserve id width lanes)
    (decimal_of (2 ^ width - 1) (nth_word words 4)) else Some (Announce id width lanes))
    AreHouseWords) [
      | true ↦ map_each AreHouseWords (decimal_of (2 ^ width - 1) (nth_word words 4))
          (AnnounceReserve id width lanes)
          (λ reserve found. (
            is,
            size,
            reserve_below width reserve (nth_word words 4) size.width.most found,
          ))
      | false ↦ (is, size)
    ]

house_each : (words : List (List ℕ)) (id : List ℕ) → AreBytes 16 id → (verb : Verb)
    → IfSome (house_on id verb words) AreHouseWords
house_each words id is verbs.Announce =
    then_each AreHouseWords (number_token 1 40 (nth_word words 2)) _
    (λ width wide. then_each AreHouseWords (number_token 1 64 (nth_word words 3)) _
    (λ lanes long. announced_each words id width lanes is
    (size_of (nth_word words 2) (nth_word words 3) width lanes wide long)))
house_each words id is verbs.Submit =
    then_each AreHouseWords (name_at words 2) _
    (λ seal _. then_each AreHouseWords (name_at words 3) _ (λ secret _. is))
house_each words id is verbs.Prove =
    then_each AreHouseWords (seed_at words 2) _
    (λ seed found. then_each AreHouseWords (name_at words 3) _
    (λ board _. (is, hex_bytes 32 (nth_word words 2) seed found)))
house_each words id is verbs.Answer =
    then_each AreHouseWords (attempt_at words 2) _
    (λ attempt _. other_each AreHouseWords attempt.challenge attempt.reply
    (Answer id attempt.challenge attempt.reply) is)
house_each words id is verbs.Show = is
house_each words id is verb = tt

by_each : (verb : Verb) (words : List (List ℕ)) → IfSome (house_by verb words) AreHouseWords
by_each verb words = then_each AreHouseWords (id_at words 1) _
    (λ id found. house_each words id (hex_bytes 16 (nth_word words 1) id found) verb)

house_map : (found : Option HouseWords) → IfSome found AreHouseWords
    → IfSome (option_map House found) OfHouse
house_map None each = tt
house_map (Some order) each = each

command_each : (words : List (List ℕ)) (verb : Verb) → IfSome (command_by verb words) OfHouse
command_each words verbs.Seal = map_each OfHouse (seal_in words) Seal (λ order _. tt)
command_each words verbs.Announce = house_map _ (by_each verbs.Announce words)
command_each words verbs.Submit = house_map _ (by_each verbs.Submit words)
command_each words verbs.Prove = house_map _ (by_each verbs.Prove words)
command_each words verbs.Answer = house_map _ (by_each verbs.Answer words)
command_each words verbs.Show = house_map _ (by_each verbs.Show words)
command_each words verbs.Verify =
    map_each OfHouse (verify_in words) (λ names. Audit (audits.Verify names)) (λ names _. tt)
command_each words verbs.Extract =
    map_each OfHouse (extract_in words) (λ names. Audit (audits.Extract names)) (λ names _. tt)
command_each words verbs.Confront =
    map_each OfHouse (confront_in words) (λ names. Audit (audits.Confront names)) (λ names _. tt)
command_each words verbs.Report =
    map_each OfHouse (name_at words 1) (λ name. Audit (audits.Report name)) (λ name _. tt)
command_each words verbs.Sample = map_each OfHouse _ Sample (λ number _. tt)
command_each words verbs.Ceremony = map_each OfHouse (name_at words 1) Ceremony (λ name _. tt)
command_each words verbs.ClaimVerify =
    map_each OfHouse (verify_in words) (λ names. Claim (claims.Verify names)) (λ names _. tt)
command_each words verbs.ClaimExtract =
    map_each OfHouse (extract_in words) (λ names. Claim (claims.Extract names)) (λ names _. tt)
command_each words verbs.ClaimSample =
    then_each OfHouse (kind_named (nth_word words 1)) _
    (λ kind _. map_each OfHouse _ (ClaimSample kind) (λ number _. tt))
command_each words verbs.CoinPart =
    map_each OfHouse (coin_by verbs.CoinPart words) Coin (λ order _. tt)
command_each words verbs.CoinJoin =
    map_each OfHouse (coin_by verbs.CoinJoin words) Coin (λ order _. tt)
command_each words verbs.CoinBoard =
    map_each OfHouse (coin_by verbs.CoinBoard words) Coin (λ order _. tt)

where_each : {X : Type 0} (P : X → Type 0) (test : Bool) (found : Option X) → IfSome found P
    → IfSome (if test then found else None) P
where_each P true found each = each
where_each P false found each = tt

words_each : (words : List (List ℕ)) → IfSome (command_words words) OfHouse
unfolding command_words
words_each words = then_each OfHouse (row_of (nth_word words 0)) _
    (λ row _. where_each OfHouse (may_have row (length words)) (command_by row.verb words)
    (command_each words row.verb))

-- words of a command of the house
pub house_bytes : (words : List (List ℕ)) (order : HouseWords)
    → command_words words ≡ Some (House order) → AreHouseWords order
house_bytes words order is = rw is at (words_each words)

-- and those of one in a script
in_each : (command : CommandWords) → OfHouse command → IfSome (house_in command) AreHouseWords
in_each (House order) each = each
in_each command each = tt

house_words_each : (words : List (List ℕ)) → IfSome (house_words words) AreHouseWords
unfolding house_words
house_words_each words = then_each AreHouseWords (command_words words) house_in
    (λ command found. in_each command (rw found at (words_each words)))

pub script_each : (script : List ℕ) (words : List (List ℕ))
    → IfSome (script_words script words) AreHouseWords
unfolding script_words
script_each script words =
    then_each AreHouseWords (house_words words) (meets (leaves_name script))
    (λ order found. where_each AreHouseWords (leaves_name script order) (Some order)
    (rw found at (house_words_each words)))
