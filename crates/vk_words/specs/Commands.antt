-- The command that words are.
use Rattle.std.specs.Prelude.{ℕ, ◌-◌, ◌^◌, ◌&&◌, nat_le, if◌then◌else◌, Bool, false, List, length, Option, Some, None, option_map}
use Rattle.std.specs.Option.{option_map_or}
use Rattle.vk_residue.specs.Steps.{◌>>?◌}
use Rattle.vk_lines.specs.Tokens.{decimal_of}
use Rattle.vk_words.specs.declared.command.Command.{Command}
use Rattle.vk_words.specs.declared.command.Command.TheVariants as commands
use Rattle.vk_words.specs.declared.table.Verb.{Verb}
use Rattle.vk_words.specs.declared.table.Verb.TheVariants as verbs
use Rattle.vk_words.specs.Audits.{AuditWords, audit_seen}
use Rattle.vk_words.specs.Audits as audits
use Rattle.vk_words.specs.Claims.{ClaimWords, claim_order_seen, kind_named}
use Rattle.vk_words.specs.Claims as claims
use Rattle.vk_words.specs.declared.claim.Kind.{Kind}
use Rattle.vk_words.specs.Coins.{CoinWords, IsCoinOrder, coin_by, coin_seen}
use Rattle.vk_words.specs.Names.{confront_in, extract_in, name_at, verify_in, nth_word}
use Rattle.vk_words.specs.Orders.{HouseWords, IsHouseOrder, IsSealOrder, SealWords, house_by, house_seen, seal_in, seal_seen}
use Rattle.vk_words.specs.Table.{Row, row_of}

-- a command
pub data CommandWords : Type 0 where
  Seal : SealWords → CommandWords
  House : HouseWords → CommandWords
  Audit : AuditWords → CommandWords
  Sample : ℕ → CommandWords
  Ceremony : List ℕ → CommandWords
  Claim : ClaimWords → CommandWords
  ClaimSample : Kind → ℕ → CommandWords
  Coin : CoinWords → CommandWords

abbrev pub command_seen : Command → CommandWords
command_seen (commands.Seal order) = Seal (seal_seen order)
command_seen (commands.House order) = House (house_seen order)
command_seen (commands.Audit order) = Audit (audit_seen order)
command_seen (commands.Sample number) = Sample number
command_seen (commands.Ceremony script) = Ceremony script.now
command_seen (commands.Claim order) = Claim (claim_order_seen order)
command_seen (commands.ClaimSample kind number) = ClaimSample kind number
command_seen (commands.Coin order) = Coin (coin_seen order)

-- its numbers are those that making a seal, the house, and drawing a share ask for
abbrev pub IsCommand : Command → Type 0
IsCommand (commands.Seal order) = IsSealOrder (seal_seen order)
IsCommand (commands.House order) = IsHouseOrder order
IsCommand (commands.Coin order) = IsCoinOrder order
IsCommand command = Unit {0}

-- KIND NUMBER behind the first word
abbrev pub claim_sample_in : List (List ℕ) → Option CommandWords
claim_sample_in words = kind_named (nth_word words 1) >>? λ kind. option_map (ClaimSample kind)
    (decimal_of (2 ^ 64 - 1) (nth_word words 2))

-- the command of that first word, by the words behind it
abbrev pub command_by : Verb → List (List ℕ) → Option CommandWords
command_by verbs.Seal words = option_map Seal (seal_in words)
command_by verbs.Verify words = option_map (λ names. Audit (audits.Verify names)) (verify_in words)
command_by verbs.Extract words =
    option_map (λ names. Audit (audits.Extract names)) (extract_in words)
command_by verbs.Confront words =
    option_map (λ names. Audit (audits.Confront names)) (confront_in words)
command_by verbs.Report words = option_map (λ board. Audit (audits.Report board)) (name_at words 1)
command_by verbs.Sample words = option_map Sample (decimal_of (2 ^ 64 - 1) (nth_word words 1))
command_by verbs.Ceremony words = option_map Ceremony (name_at words 1)
command_by verbs.ClaimVerify words =
    option_map (λ names. Claim (claims.Verify names)) (verify_in words)
command_by verbs.ClaimExtract words =
    option_map (λ names. Claim (claims.Extract names)) (extract_in words)
command_by verbs.ClaimSample words = claim_sample_in words
command_by verbs.CoinPart words = option_map Coin (coin_by verbs.CoinPart words)
command_by verbs.CoinJoin words = option_map Coin (coin_by verbs.CoinJoin words)
command_by verbs.CoinBoard words = option_map Coin (coin_by verbs.CoinBoard words)
command_by verb words = option_map House (house_by verb words)

-- whether a command may have that many words
abbrev pub may_have : Row → ℕ → Bool
may_have row count = nat_le row.words count && nat_le count row.most

-- the command that words are, if they are one: the first names it, and they are as many as it may
-- have
unfoldable pub command_words : List (List ℕ) → Option CommandWords
command_words words =
    row_of (nth_word words 0) >>? λ row.
    if may_have row (length words) then command_by row.verb words else None

-- a command that asks no keeper
abbrev pub AsksNoKeeper : Option CommandWords → Type 0
AsksNoKeeper (Some (House order)) = ⊥
AsksNoKeeper (Some (Ceremony script)) = ⊥
AsksNoKeeper command = Unit {0}

-- whether the first word is that of a command which asks the keeper of the house
abbrev pub first_asks : List (List ℕ) → Bool
first_asks words = option_map_or (λ row. row.asks_house) (row_of (nth_word words 0)) false

-- a command of the house
abbrev pub house_in : CommandWords → Option HouseWords
house_in (House order) = Some order
house_in command = None

-- the command of the house that words are, if they are one
unfoldable pub house_words : List (List ℕ) → Option HouseWords
house_words words = command_words words >>? house_in
