-- What the texts mean under the schema of the store.
use Rattle.std.proofs.Common.{◌≡◌, ℕ, List, [], ◌∷◌, codes, refl, false, pos, negsuc}
use Rattle.std.specs.Prelude.{None}
use Rattle.sqlite_value.specs.declared.keys.Collation.TheVariants.{Binary}
use Rattle.sqlite.specs.declared.types.Value.TheVariants.{Null, Int}
use Rattle.sqlite_sql.specs.declared.ops.BinaryOp.TheVariants.{Compare, And}
use Rattle.sqlite_sql.specs.declared.ops.CompareOp.TheVariants.{Eq, Ge, Le}
use Rattle.sqlite_sql.specs.declared.ops.UnaryOp.TheVariants.{ToNumeric, Not}
use Rattle.sqlite.specs.Term.{Term, lit, col}
use Rattle.sqlite_sql.specs.Term.{op1, op2}
use Rattle.sqlite.specs.Query.{Query, inner, end}
use Rattle.sqlite_tied.specs.Compute.{everything}
use Rattle.sqlite.specs.Listing.{understood, reads_listing}
use Rattle.sqlite.proofs.Callers.{IsPlain, command_of}
use Rattle.sqlite_schema.specs.declared.command.Command.{Command}
use Rattle.sqlite_schema.specs.declared.command.Command.TheVariants.{Insert, InsertOr, Delete, Select}
use Rattle.sqlite_schema.specs.declared.command.Conflict.TheVariants.{Replace}
use Rattle.sqlite.specs.Source.TheVariants.{Values}
use Rattle.vk_keeper_sql.specs.Statements.{auction_query, terms_query, seals_query, keep_auction, keep_terms, drop_seals, keep_seal}
use Rattle.vk_store_laws.specs.Tables.{store_schema}

-- the row is of the id that is the first parameter
abbrev pub of_id : Term
of_id = op2 (Compare Eq Binary) (col 1 1) (col 0 0)

-- its position isn't between 1 and the second parameter
abbrev pub is_behind : Term
is_behind = op1 Not (op2 And (op2 (Compare Ge Binary) (col 1 2) (lit (Int (pos 1))))
    (op2 (Compare Le Binary) (col 1 2) (op1 ToNumeric (col 0 1))))

abbrev pub plain_query : ℕ → List Term → List Term → Query
plain_query tree filter project =
    record {
      from = inner tree end;
      filter = filter;
      group = None;
      project = project;
      distinct = false;
      collations = [];
      order = [];
      limit = lit (Int (negsuc 0));
      offset =
          lit (Int (pos 0));
    }

-- at most two of the rows of the id
abbrev pub two_query : ℕ → List Term → Query
two_query tree project = record (plain_query tree (of_id ∷ []) project) {
  limit =
      lit (Int (pos 2));
}

abbrev pub head_query : Query
head_query = two_query 1 (col 1 2 ∷ col 1 3 ∷ col 1 4 ∷ col 1 5 ∷ col 1 6 ∷ [])

abbrev pub rows_query : Query
rows_query = record (plain_query 3 (of_id ∷ []) (col 1 2 ∷ col 1 3 ∷ col 1 4 ∷ col 1 5 ∷ [])) {
  order = (col 1 2, record { collation = Binary; descending = false }) ∷ [];
  limit = lit (Int (pos 65));
}

abbrev pub term_query : Query
term_query = two_query 6 (col 1 2 ∷ col 1 3 ∷ [])

abbrev pub auction_terms : List Term
auction_terms = lit Null ∷ col 0 0 ∷ col 0 1 ∷ col 0 2 ∷ col 0 3 ∷ col 0 4 ∷ col 0 5 ∷ []

abbrev pub terms_terms : List Term
terms_terms = lit Null ∷ col 0 0 ∷ col 0 1 ∷ col 0 2 ∷ []

abbrev pub seal_terms : List Term
seal_terms = lit Null ∷ col 0 0 ∷ col 0 1 ∷ col 0 2 ∷ col 0 3 ∷ col 0 4 ∷ []

-- ---- each text is this command, and plain

abbrev pub IsCommand : List ℕ → Command → Type 0
IsCommand text command = (command_of (understood store_schema text) ≡ command)
    × IsPlain (understood store_schema text)

-- a query that shows columns of these names
abbrev pub IsQuery : List ℕ → Query → List (List ℕ) → Type 0
IsQuery text query names = ((command_of (understood store_schema text)
    ≡ Select (record { lets = []; body = query }) names)
    × (reads_listing store_schema text ≡ false)) × IsPlain (understood store_schema text)

pub find_auction_is : IsQuery auction_query head_query
    (codes "width" ∷ codes "lanes" ∷ codes "phase" ∷ codes "seed" ∷ codes "bits" ∷ [])
unfolding understood everything auction_query
find_auction_is = ((refl, refl), (refl, refl))

pub find_terms_is : IsQuery terms_query term_query (codes "version" ∷ codes "reserve" ∷ [])
unfolding understood everything terms_query
find_terms_is = ((refl, refl), (refl, refl))

pub find_seals_is : IsQuery seals_query rows_query
    (codes "position" ∷ codes "seat" ∷ codes "seal" ∷ codes "secret" ∷ [])
unfolding understood everything seals_query
find_seals_is = ((refl, refl), (refl, refl))

pub keep_auction_is : IsCommand keep_auction (InsertOr 1 Replace (Values auction_terms 7) [])
unfolding understood everything keep_auction
keep_auction_is = (refl, (refl, refl))

pub keep_terms_is : IsCommand keep_terms (InsertOr 3 Replace (Values terms_terms 4) [])
unfolding understood everything keep_terms
keep_terms_is = (refl, (refl, refl))

pub keep_seal_is : IsCommand keep_seal (Insert 2 (Values seal_terms 6))
unfolding understood everything keep_seal
keep_seal_is = (refl, (refl, refl))

pub drop_seals_is : IsCommand drop_seals
    (Delete 2 (record { lets = []; body = plain_query 3 (of_id ∷ is_behind ∷ []) (col 1 0 ∷ []) }))
unfolding understood everything drop_seals
drop_seals_is = (refl, (refl, refl))
