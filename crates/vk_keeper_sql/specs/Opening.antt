-- What is run on a store as it is opened.
use Rattle.std.specs.Prelude.{◌≡◌, ℕ, pos, true, List, [], ◌∷◌, map, Ok}
use Rattle.sqlite.specs.Store.{Ghosts}
use Rattle.sqlite.specs.Effect.{Database}
use Rattle.sqlite.specs.Order.{Row, column}
use Rattle.sqlite.specs.Values.{bound_value}
use Rattle.sqlite.specs.Held.{Held, state}
use Rattle.sqlite.specs.declared.types.Value.{Value}
use Rattle.sqlite.specs.declared.types.Value.TheVariants.{Int}
use Rattle.vk_keeper_sql.specs.declared.layout.Layout.{Layout}
use Rattle.vk_keeper_sql.specs.declared.layout.Layout.TheVariants.{Blank, First, Second, Other}
use Rattle.vk_keeper_sql.specs.Layouts.{HasLayout}
use Rattle.vk_keeper_sql.specs.Statements.{make_about, make_auctions, make_seals, make_terms, first_number, next_number, number_query, ids_query, keep_terms}
use Rattle.vk_keeper_sql.specs.Transactions.{Answers, Ran, RunsAll, Step}
use Rattle.vk_keeper_sql.specs.Versions.{number_of}

-- the terms of an auction that was kept before auctions had any, by the id that is stored: version
-- 1, which names no reserve
abbrev pub first_terms : Value → Row
first_terms id = bound_value id ∷ Int (pos 1) ∷ Int (pos 0) ∷ []

-- the statements that make the tables of a new store, and number them 2
abbrev pub making : List Step
making = (make_about, []) ∷ (make_auctions, []) ∷ (make_seals, []) ∷ (make_terms, [])
    ∷ (first_number, Int (pos 2) ∷ []) ∷ []

-- those that put the terms for each of these ids
abbrev pub filling : List Row → List Step
filling = map (λ row. (keep_terms, first_terms (column row 0)))

module _ {S : Type 0} (g : Ghosts S) where
  -- the table `about` has one row, with that number
  pub record IsNumbered (number : ℕ) (old new : Held S) : Type 0 where
    pub rows : List Row
    pub query : Answers g number_query [] old new rows
    pub shown : number_of rows ≡ Ok number

  -- the tables were made, and numbered 2
  abbrev pub MakesTables : Held S → Held S → Type 0
  MakesTables = RunsAll g making

  -- terms were put for each of these ids
  abbrev pub AddsTerms : List Row → Held S → Held S → Type 0
  AddsTerms ids = RunsAll g (filling ids)

  -- tables of the number 1 got terms for each of their auctions, and the number 2
  pub record LiftsTables (old new : Held S) : Type 0 where
    pub made : Held S
    pub make : Ran g make_terms [] old made
    pub asked : Held S
    pub ids : List Row
    pub query : Answers g ids_query [] made asked ids
    pub filled : Held S
    pub fill : AddsTerms ids asked filled
    pub number : Ran g next_number (Int (pos 2) ∷ []) filled new

  -- by the tables that were there
  abbrev pub PreparesFrom : Layout → Held S → Held S → Type 0
  PreparesFrom Blank old new = MakesTables old new
  PreparesFrom First old new = (mid : Held S) × IsNumbered 1 old mid × LiftsTables mid new
  PreparesFrom Second old new = IsNumbered 2 old new
  PreparesFrom Other old new = ⊥

  -- what was made of a store in one transaction as it was opened, and nothing else
  abbrev pub Prepares : Held S → Database → Type 0
  Prepares old whole =
      (layout : Layout) × HasLayout layout old.schema
      × ((last : Held S) × PreparesFrom layout (record old { in_transaction = true }) last
      × (whole ≡ (state g last).now))
