-- Which words ask no keeper.
use Rattle.std.proofs.Common.{ℕ, Bool, true, false, List, length, Option, Some, None, IfSome, IsFalse}
use Rattle.std.specs.Prelude.{if◌then◌else◌, option_map}
use Rattle.std.specs.List.{AllByRecursion}
use Rattle.std.specs.Option.{option_map_or}
use Rattle.std.specs.Str.{bytes_eq}
use Rattle.vk_residue.specs.Steps.{◌>>?◌}
use Rattle.vk_words.specs.Commands.{AsksNoKeeper, CommandWords, Seal, Audit, Sample, Claim, ClaimSample, Coin, command_by, command_words, first_asks, may_have}
use Rattle.vk_words.specs.declared.table.Verb.TheVariants as verbs
use Rattle.vk_words.specs.Audits as audits
use Rattle.vk_words.specs.Claims.{kind_named}
use Rattle.vk_words.specs.Claims as claims
use Rattle.vk_words.specs.Coins.{coin_by}
use Rattle.vk_words.specs.Names.{confront_in, extract_in, name_at, verify_in, nth_word}
use Rattle.vk_words.specs.Orders.{seal_in}
use Rattle.vk_words.specs.Table.{Row, commands, row_of}
use Rattle.vk_words.proofs.Rows.{◌&◌, IfSome-find}

-- a command that is made of what was read
made : {X : Type 0} (f : X → CommandWords) → ((x : X) → AsksNoKeeper (Some (f x)))
    → (read : Option X) → AsksNoKeeper (option_map f read)
made f none (Some x) = none x
made f none None = tt

-- and one that is made of what was read behind something else
made_behind : {K : Type 0} (first : Option K) (later : K → Option CommandWords)
    → ((k : K) → AsksNoKeeper (later k)) → AsksNoKeeper (first >>? later)
made_behind None later none = tt
made_behind (Some k) later none = none k

-- where the row doesn't ask, its command asks no keeper
abbrev AsksAsItSays : Row → Type 0
AsksAsItSays row = IsFalse row.asks_house → (words : List (List ℕ))
    → AsksNoKeeper (command_by row.verb words)

each_row : AllByRecursion AsksAsItSays commands
unfolding commands
each_row =
    (λ is words. made Seal (λ order. tt) (seal_in words))
    & (λ is. cc)
    & (λ is. cc)
    & (λ is. cc)
    & (λ is. cc)
    & (λ is. cc)
    & (λ is words. made (λ names. Audit (audits.Verify names)) (λ names. tt) (verify_in words))
    & (λ is words. made (λ names. Audit (audits.Extract names)) (λ names. tt) (extract_in words))
    & (λ is words. made (λ names. Audit (audits.Confront names)) (λ names. tt) (confront_in words))
    & (λ is words. made (λ name. Audit (audits.Report name)) (λ name. tt) (name_at words 1))
    & (λ is words. made Sample (λ number. tt) _)
    & (λ is. cc)
    & (λ is words. made (λ names. Claim (claims.Verify names)) (λ names. tt) (verify_in words))
    & (λ is words. made (λ names. Claim (claims.Extract names)) (λ names. tt) (extract_in words))
    & (λ is words. made_behind (kind_named (nth_word words 1)) _
    (λ kind. made (ClaimSample kind) (λ number. tt) _))
    & (λ is words. made Coin (λ order. tt) (coin_by verbs.CoinPart words))
    & (λ is words. made Coin (λ order. tt) (coin_by verbs.CoinJoin words))
    & (λ is words. made Coin (λ order. tt) (coin_by verbs.CoinBoard words))
    & tt

of_word : (word : List ℕ) → IfSome (row_of word) AsksAsItSays
unfolding row_of
of_word word = IfSome-find AsksAsItSays (λ row. bytes_eq row.name word) commands each_row

-- where the words are as many as it has
by_length : (test : Bool) (command : Option CommandWords) → AsksNoKeeper command
    → AsksNoKeeper (if test then command else None)
by_length true command is = is
by_length false command is = tt

by_first :
    (row : Option Row) (words : List (List ℕ))
    → IfSome row AsksAsItSays
    → IsFalse (option_map_or (λ r. r.asks_house) row false)
    → AsksNoKeeper (row >>? λ r. if may_have r (length words) then command_by r.verb words
    else None)
by_first None words each is = tt
by_first (Some row) words each is =
    by_length (may_have row (length words)) (command_by row.verb words) (each is words)

pub asks_none : (words : List (List ℕ)) → IsFalse (first_asks words)
    → AsksNoKeeper (command_words words)
unfolding command_words
asks_none words is = by_first (row_of (nth_word words 0)) words (of_word (nth_word words 0)) is
