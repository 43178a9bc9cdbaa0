-- The table of the commands.
use Rattle.std.specs.Prelude.{ℕ, Bool, true, false, List, [], ◌∷◌, codes, Option}
use Rattle.std.specs.List.{find}
use Rattle.std.specs.Str.{bytes_eq}
use Rattle.vk_words.specs.declared.table.CommandRow.{CommandRow}
use Rattle.vk_words.specs.declared.table.Verb.{Verb}
use Rattle.vk_words.specs.declared.table.Verb.TheVariants.{Seal, Announce, Submit, Prove, Answer, Show, Verify, Extract, Confront, Report, Sample, Ceremony, ClaimVerify, ClaimExtract, ClaimSample, CoinPart, CoinJoin, CoinBoard}

-- a command: the word that names it, the fewest and the most words that it has, that one included,
-- and whether it asks the keeper of the house, as the commands of the house do and a ceremony of
-- such
pub record Row : Type 0 where
  pub name : List ℕ
  pub verb : Verb
  pub words : ℕ
  pub most : ℕ
  pub asks_house : Bool

abbrev command_row : List ℕ → Verb → (words most : ℕ) → (asks_house : Bool) → Row
command_row name verb words most asks_house =
    record { name = name; verb = verb; words = words; most = most; asks_house = asks_house }

-- the commands, in the order of the usage line
unfoldable pub commands : List Row
commands =
    command_row (codes "seal") Seal 9 9 false
    ∷ command_row (codes "announce") Announce 4 5 true
    ∷ command_row (codes "submit") Submit 4 4 true
    ∷ command_row (codes "prove") Prove 4 4 true
    ∷ command_row (codes "answer") Answer 4 4 true
    ∷ command_row (codes "show") Show 2 2 true
    ∷ command_row (codes "verify") Verify 4 4 false
    ∷ command_row (codes "extract") Extract 6 6 false
    ∷ command_row (codes "confront") Confront 7 7 false
    ∷ command_row (codes "report") Report 2 2 false
    ∷ command_row (codes "sample") Sample 2 2 false
    ∷ command_row (codes "ceremony") Ceremony 2 2 true
    ∷ command_row (codes "claim-verify") ClaimVerify 4 4 false
    ∷ command_row (codes "claim-extract") ClaimExtract 6 6 false
    ∷ command_row (codes "claim-sample") ClaimSample 3 3 false
    ∷ command_row (codes "coin-part") CoinPart 6 6 false
    ∷ command_row (codes "coin-join") CoinJoin 3 3 false
    ∷ command_row (codes "coin-board") CoinBoard 3 3 false
    ∷ []

-- the first command of that name
unfoldable pub row_of : List ℕ → Option Row
row_of word = find (λ row. bytes_eq row.name word) commands

abbrev pub row_seen : CommandRow → Row
row_seen row = command_row row.0.now row.1 row.2 row.3 row.4
