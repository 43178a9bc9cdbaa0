-- The statements of a keeper: its tables, what it asks of them, and what it writes.
use Rattle.std.specs.Prelude.{ℕ, List, codes}

-- ---- the tables

unfoldable pub make_about : List ℕ
make_about = codes "CREATE TABLE about (version INTEGER NOT NULL)"

unfoldable pub make_auctions : List ℕ
make_auctions = codes
    "CREATE TABLE auction (id BLOB PRIMARY KEY NOT NULL, width INTEGER NOT NULL, lanes INTEGER NOT NULL, phase INTEGER NOT NULL, seed BLOB, bits TEXT)"

unfoldable pub make_seals : List ℕ
make_seals = codes "CREATE TABLE seal (id BLOB NOT NULL, position INTEGER NOT NULL, seat INTEGER NOT NULL, seal TEXT NOT NULL, secret TEXT NOT NULL, PRIMARY KEY (id, position), UNIQUE (id, seat))"

unfoldable pub make_terms : List ℕ
make_terms = codes "CREATE TABLE terms (id BLOB PRIMARY KEY NOT NULL, version INTEGER NOT NULL, reserve INTEGER NOT NULL)"

-- ---- the number of their version

unfoldable pub first_number : List ℕ
first_number = codes "INSERT INTO about (version) VALUES (?1)"

unfoldable pub next_number : List ℕ
next_number = codes "UPDATE about SET version = ?1"

-- how many rows `about` has, and the number in the first of them; no row where there is none
unfoldable pub number_query : List ℕ
number_query = codes "SELECT (SELECT count(*) FROM about), version FROM about LIMIT 1"

-- ---- an auction

-- its row
unfoldable pub auction_query : List ℕ
auction_query = codes "SELECT width, lanes, phase, seed, bits FROM auction WHERE id = ?1 LIMIT 2"

-- its terms
unfoldable pub terms_query : List ℕ
terms_query = codes "SELECT version, reserve FROM terms WHERE id = ?1 LIMIT 2"

-- the rows of its seals, in their order
unfoldable pub seals_query : List ℕ
seals_query = codes "SELECT position, seat, seal, secret FROM seal WHERE id = ?1 ORDER BY position LIMIT 65"

-- the ids of all auctions
unfoldable pub ids_query : List ℕ
ids_query = codes "SELECT id FROM auction"

-- its row and its terms take the place of those of its id
unfoldable pub keep_auction : List ℕ
keep_auction = codes "INSERT OR REPLACE INTO auction (id, width, lanes, phase, seed, bits) VALUES (?1, ?2, ?3, ?4, ?5, ?6)"

unfoldable pub keep_terms : List ℕ
keep_terms = codes "INSERT OR REPLACE INTO terms (id, version, reserve) VALUES (?1, ?2, ?3)"

-- all seals of an id go but for so many from the first position on
unfoldable pub drop_seals : List ℕ
drop_seals = codes "DELETE FROM seal WHERE id = ?1 AND position NOT BETWEEN 1 AND ?2"

-- one more seal
unfoldable pub keep_seal : List ℕ
keep_seal = codes "INSERT INTO seal (id, position, seat, seal, secret) VALUES (?1, ?2, ?3, ?4, ?5)"
