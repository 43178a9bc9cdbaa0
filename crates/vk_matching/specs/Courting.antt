-- Deferred acceptance while it goes on: men ask, and each woman holds the best of those who asked
-- her. Persons count from 0 here.
use Rattle.std.specs.Prelude.{ℕ, ◌+◌, ◌*◌, ◌<◌, ◌≤◌, ◌≡◌, ◌≢◌, Bool, true, false, not, if◌then◌else◌, Option, Some, None, List, length, slice_index, slice_index_or, count_by, is_none}
use Rattle.vk_matching.specs.declared.courting.Courtship.{Courtship}

-- so many men and as many women, how each ranks the others, whom each man asked, and whom each
-- woman holds
pub record Court : Type 0 where
  pub size : ℕ
  pub his_rank : ℕ → ℕ → ℕ
  pub her_rank : ℕ → ℕ → ℕ
  pub asked : ℕ → ℕ → Bool
  pub holds : ℕ → Option ℕ

-- which men are held: of those who entered, and each by one woman
pub record AreHeld (size : ℕ) (holds : ℕ → Option ℕ) (entered : ℕ) : Type 0 where
  pub have_entered : (man woman : ℕ) → woman < size → holds woman ≡ Some man → man < entered
  pub by_one : (man woman other : ℕ) → woman < size → other < size → holds woman ≡ Some man
      → holds other ≡ Some man → woman ≡ other

-- a man without a woman, if there is one: he has entered, and all others who have entered are held
pub record IsWithout (court : Court) (entered : ℕ) (suitor : Option ℕ) : Type 0 where
  pub has_entered : (man : ℕ) → suitor ≡ Some man → man < entered
  pub not_held : (man woman : ℕ) → woman < court.size → court.holds woman ≡ Some man
      → suitor ≢ Some man
  pub all_others : (man : ℕ) → man < entered → suitor ≢ Some man
      → (woman : ℕ) × (woman < court.size) × (court.holds woman ≡ Some man)

-- a woman holds one whom she ranks no worse than this man
abbrev pub HoldsAsGood : Court → ℕ → ℕ → Type 0
HoldsAsGood court woman man =
    (holder : ℕ) × (court.holds woman ≡ Some holder)
    × (court.her_rank woman holder ≤ court.her_rank woman man)

-- the rules of asking: whom a woman holds has asked her, and nobody whom she ranks better; and each
-- man asks better women first
pub record AreRules (court : Court) (entered : ℕ) (suitor : Option ℕ) : Type 0 where
  pub entering : entered ≤ court.size
  pub are_held : AreHeld court.size court.holds entered
  pub without : IsWithout court entered suitor
  pub asked_her : (man woman : ℕ) → woman < court.size → court.holds woman ≡ Some man
      → court.asked man woman ≡ true
  pub best_held : (man woman : ℕ) → man < court.size → woman < court.size
      → court.asked man woman ≡ true
      → HoldsAsGood court woman man
  pub better_first : (man asked other : ℕ) → man < court.size → asked < court.size
      → other < court.size
      → court.asked man asked ≡ true → court.asked man other ≡ false
      → court.his_rank man asked ≤ court.his_rank man other

-- of the women before that one whom the man hasn't asked the first of the best; none where he has
-- asked them all
pub record IsBest (court : Court) (man before woman : ℕ) : Type 0 where
  pub is_before : woman < before
  pub not_asked : court.asked man woman ≡ false
  pub no_better : (other : ℕ) → other < before → court.asked man other ≡ false
      → court.his_rank man woman ≤ court.his_rank man other
  pub is_first : (other : ℕ) → other < woman → court.asked man other ≡ false
      → court.his_rank man woman < court.his_rank man other

abbrev pub IsChoice : Court → ℕ → ℕ → Option ℕ → Type 0
IsChoice court man before (Some woman) = IsBest court man before woman
IsChoice court man before None = (woman : ℕ) → woman < before → court.asked man woman ≡ true

-- the woman whom each man is matched with, counted from 1, of the men who are held by women before
-- that one
pub record AreWives (size : ℕ) (holds : ℕ → Option ℕ) (before : ℕ) (matching : List ℕ) : Type 0
  where
    pub one_each : length matching ≡ size
    pub is_wife : (man woman : ℕ) → woman < before → holds woman ≡ Some man
        → slice_index matching man ≡ woman + 1

-- whom each woman holds, by a list
abbrev pub held_by : List (Option ℕ) → ℕ → Option ℕ
held_by holders woman = slice_index_or holders woman None

-- the court that lists say: the ranks of the first man first, and all women's behind all men's
abbrev pub court_of : ℕ → List ℕ → List Bool → List (Option ℕ) → Court
court_of size ranks asked holders = record {
  size = size;
  his_rank = λ man woman. slice_index ranks (man * size + woman);
  her_rank = λ woman man. slice_index ranks (size * size + woman * size + man);
  asked = λ man woman. slice_index_or asked (man * size + woman) false;
  holds = held_by holders;
}

-- how many women hold nobody
abbrev pub free : List (Option ℕ) → ℕ
free holders = count_by is_none holders

-- how many questions have not been asked
abbrev pub unasked : List Bool → ℕ
unasked asked = count_by not asked

-- the lists are as long as they have to be
pub record AreLists (size : ℕ) (ranks : List ℕ) (asked : List Bool)
    (holders : List (Option ℕ)) : Type 0 where
  pub few : size ≤ 16
  pub all_ranks : length ranks ≡ 2 * size * size
  pub one_question_each : length asked ≡ size * size
  pub one_holder_each : length holders ≡ size

-- they keep to the rules, with this man without a woman: as many women are free as men have not
-- entered, and one more while there is such a man
pub record IsCourting (size : ℕ) (ranks : List ℕ) (asked : List Bool) (holders : List (Option ℕ))
    (entered : ℕ)
    (suitor : Option ℕ) : Type 0 where
  pub lists : AreLists size ranks asked holders
  pub rules : AreRules (court_of size ranks asked holders) entered suitor
  pub are_free : free holders + entered ≡ size + (if is_none suitor then 0 else 1)

-- of a courtship
abbrev pub court_in : List ℕ → Courtship → Court
court_in ranks courtship = court_of courtship.size ranks courtship.asked.items
    courtship.holders.items

abbrev pub AreListsIn : List ℕ → Courtship → Type 0
AreListsIn ranks courtship = AreLists courtship.size ranks courtship.asked.items
    courtship.holders.items

abbrev pub IsCourtship : List ℕ → Courtship → Option ℕ → Type 0
IsCourtship ranks courtship suitor =
    IsCourting courtship.size ranks courtship.asked.items courtship.holders.items courtship.entered
    suitor
