-- The fault line of a file: what is read line by line meets the fault that the form's table gives.
use Rattle.std.proofs.Common.{◌≡◌, ℕ, zero, suc, ◌+◌, ◌==◌, ◌&&◌, nat_lt, Bool, true, false, if◌then◌else◌, List, [], ◌∷◌, ◌++◌, length, take, drop, codes, Option, Some, None, Result, Ok, Err, option_map, ◌⊎◌, refl, ap, sym, ◌∙◌, arith, inl, inr}
use Rattle.std.proofs.lemmas.Bool.{lt-ltb, le-ltb}
use Rattle.std.specs.Result.{result_err}
use Rattle.std.proofs.lemmas.List.{length-take-le}
use Rattle.vk_residue.specs.Steps.{◌>>=◌}
use Rattle.vk_lines.specs.declared.errors.ReadErr.{ReadErr}
use Rattle.vk_lines.specs.declared.errors.ReadErr.TheVariants.{Malformed, Failed, NoMemory}
use Rattle.vk_lines.specs.declared.step.Step.{Step}
use Rattle.vk_lines.specs.declared.step.Step.TheVariants.{Text, End, Long, Cut}
use Rattle.vk_lines.specs.Lines.{Rest, feed_at, step_of, text_at, text_by, line_by, value_at, none_left, end_at, GivesReading}
use Rattle.vk_lines.specs.Forms.{Table, Follows, FindsFaults, fault_after, fault_at, fault_from, fault_line, many_onto, whole, IsWhole, FaultsAllButTexts, Answers}
use Rattle.vk_lines.specs.Tokens.{word_of}
use Rattle.vk_lines.proofs.Parts.{bind_ok, ok_same, value_shown, none_shown}
use Rattle.vk_lines.proofs.Pieces.{other_pieces, pieces, pieces_feed, text_tells}
use Rattle.vk_lines.proofs.Words.{split_some}

-- ---- one line

from_text : {Place : Type 0} (table : Table Place) (place : Place) (taken : ℕ) (text piece : List ℕ)
    (more : List (List ℕ)) → nat_lt (length text) 256 ≡ true
    → fault_from table place taken (text ∷ piece ∷ more)
    ≡ fault_after (taken + 1) (λ after. fault_from table after (taken + 1) (piece ∷ more))
    (table.next place text)
from_text table place taken text piece more small = rw small refl

from_long : {Place : Type 0} (table : Table Place) (place : Place) (taken : ℕ) (text piece : List ℕ)
    (more : List (List ℕ)) → nat_lt (length text) 256 ≡ false
    → fault_from table place taken (text ∷ piece ∷ more) ≡ Some (taken + 1)
from_long table place taken text piece more long = rw long refl

-- a line that stands next: the fault is after it, or it may not stand there
text_fault : {Place : Type 0} (table : Table Place) (place : Place) (rest : Rest)
    → step_of rest.left ≡ Text
    → fault_at table place rest
    ≡ fault_after (rest.taken + 1)
    (λ after. fault_at table after
    (record { taken = rest.taken + 1; left = drop (feed_at rest.left + 1) rest.left }))
    (table.next place (take (feed_at rest.left) rest.left))
unfolding fault_at
text_fault table place rest text =
    let near = text_tells (feed_at rest.left) (length rest.left) text in
    let line : List ℕ = take (feed_at rest.left) rest.left in
    let left : List ℕ = drop (feed_at rest.left + 1) rest.left in
    let some = split_some 10 left in
    let short : length line ≡ feed_at rest.left =
    length-take-le (feed_at rest.left) rest.left (omega arith) in
    let small : nat_lt (length line) 256 ≡ true = lt-ltb (length line) 256 (omega arith) in
    ap (fault_from table place rest.taken)
    (pieces_feed rest.left near.1 ∙ ap (λ ps. line ∷ ps) some.2)
    ∙ from_text table place rest.taken line some.0 some.1 small
    ∙ ap (λ ps. fault_after (rest.taken + 1) (λ after. fault_from table after (rest.taken + 1) ps)
    (table.next place line)) (sym some.2)

from_last : {Place : Type 0} (table : Table Place) (place : Place) (taken : ℕ) (last : List ℕ)
    → (length last == 0 && table.over place) ≡ false
    → fault_from table place taken (last ∷ []) ≡ Some (taken + 1)
from_last table place taken last open_ = rw open_ refl

-- no line stands next, and it isn't the end of a form: that line is the fault
other_fault : {Place : Type 0} (table : Table Place) (place : Place) (rest : Rest)
    → (step_of rest.left ≡ Text → ⊥) → (length rest.left == 0 && table.over place) ≡ false
    → fault_at table place rest ≡ Some (rest.taken + 1)
unfolding fault_at
other_fault table place rest other open_ =
    other_pieces (fault_from table place rest.taken) (Some (rest.taken + 1)) rest.left other
    (λ line piece more long. from_long table place rest.taken line piece more
    (le-ltb (length line) 256 long)) (from_last table place rest.taken rest.left open_)

over_last : {Place : Type 0} (table : Table Place) (place : Place) (taken : ℕ)
    → table.over place ≡ true → fault_from table place taken ([] ∷ []) ≡ None
over_last table place taken over = rw over refl

-- the end of a form
over_fault : {Place : Type 0} (table : Table Place) (place : Place) (rest : Rest) → rest.left ≡ []
    → table.over place ≡ true → fault_at table place rest ≡ None
unfolding fault_at
over_fault table place rest none over =
    ap (λ left. fault_from table place rest.taken (pieces left)) none
    ∙ over_last table place rest.taken over

-- what was taken, or the number of the line that wasn't there
fault_text : {Place : Type 0} (table : Table Place) (place : Place) (step : Step) (rest : Rest)
    (text : List ℕ) (more : Rest) → step_of rest.left ≡ step → text_by step rest ≡ Ok (text, more)
    → fault_at table place rest
    ≡ fault_after more.taken (λ after. fault_at table after more) (table.next place text)
fault_text table place Text rest text more is taken =
    let pair = ok_same (
      take (feed_at rest.left) rest.left,
      record { taken = rest.taken + 1; left = drop (feed_at rest.left + 1) rest.left },
    )
    (text, more) taken in
    text_fault table place rest is
    ∙ ap (λ p. fault_after p.1.taken (λ after. fault_at table after p.1) (table.next place p.0))
    pair
fault_text table place End rest text more is taken = cc
fault_text table place Long rest text more is taken = cc
fault_text table place Cut rest text more is taken = cc

not_text : (left : List ℕ) (step : Step) → step_of left ≡ step → (step ≡ Text → ⊥)
    → step_of left ≡ Text → ⊥
not_text left step is other text = other (sym is ∙ text)

err_same : {X : Type 0} (m n : ℕ) → ◌≡◌ {A = Result X ℕ} (Err m) (Err n) → m ≡ n
err_same m n same = cc

-- where no line was taken, none stood next
text_err : (step : Step) (rest : Rest) (number : ℕ) → text_by step rest ≡ Err number
    → (step ≡ Text → ⊥) × (rest.taken + 1 ≡ number)
text_err Text rest number stop = cc
text_err End rest number stop = (λ e. cc, err_same (rest.taken + 1) number stop)
text_err Long rest number stop = (λ e. cc, err_same (rest.taken + 1) number stop)
text_err Cut rest number stop = (λ e. cc, err_same (rest.taken + 1) number stop)

fault_other : {Place : Type 0} (table : Table Place) (place : Place) (rest : Rest) (number : ℕ)
    → text_by (step_of rest.left) rest ≡ Err number
    → (length rest.left == 0 && table.over place) ≡ false → fault_at table place rest ≡ Some number
fault_other table place rest number stop open_ =
    let other = text_err (step_of rest.left) rest number stop in
    other_fault table place rest other.0 open_ ∙ ap Some other.1

-- ---- readings that follow a table

bind_err : {A B : Type 0} (r : Result A ℕ) (f : A → Result B ℕ) (number : ℕ)
    → (r >>= f) ≡ Err number → (r ≡ Err number) ⊎ ((x : A) × (r ≡ Ok x) × (f x ≡ Err number))
bind_err (Ok x) f number h = inr (x, refl, h)
bind_err (Err line) f number h = inl (ap Err (err_same line number h))

value_err : {X : Type 0} (o : Option X) (rest : Rest) (number : ℕ) → value_at o rest ≡ Err number
    → (o ≡ None) × (rest.taken ≡ number)
value_err (Some y) rest number none = cc
value_err {X} None rest number none = (refl, err_same {X = X × Rest} rest.taken number none)

inside_is : (test over : Bool) → over ≡ false → (test && over) ≡ false
inside_is true over inside = inside
inside_is false over inside = refl

-- one line, which `parse` tells as the table does
pub line_follows : {Place X : Type 0} (table : Table Place) (place : Place)
    (parse : List ℕ → Option X) (after : X → Place)
    → ((text : List ℕ) → table.next place text ≡ option_map after (parse text))
    → table.over place ≡ false
    → Follows table place (line_by parse) after
unfolding line_by text_at
line_follows table place parse after next inside = record {
  ok = λ rest x more some.
      let line = bind_ok (text_at rest) (λ l. value_at (parse l.0) l.1) (x, more) some in
      let value = value_shown (parse line.0.0) line.0.1 x more line.2 in
      let there : table.next place line.0.0 ≡ Some (after x) =
      next line.0.0 ∙ ap (option_map after) value.0 in
      fault_text table place (step_of rest.left) rest line.0.0 line.0.1 refl line.1
      ∙ ap (fault_after line.0.1.taken (λ p. fault_at table p line.0.1)) there
      ∙ ap (fault_at table (after x)) value.1;
  err = λ rest number none.
      elim (bind_err (text_at rest) (λ l. value_at (parse l.0) l.1) number none) [
        | inl stop ↦ fault_other table place rest number stop
            (inside_is (length rest.left == 0) (table.over place) inside)
        | inr line ↦
            let value = value_err (parse line.0.0) line.0.1 number line.2 in
            let there : table.next place line.0.0 ≡ None =
            next line.0.0 ∙ ap (option_map after) value.0 in
            fault_text table place (step_of rest.left) rest line.0.0 line.0.1 refl line.1
            ∙ ap (fault_after line.0.1.taken (λ p. fault_at table p line.0.1)) there
            ∙ ap Some value.1
      ];
}

-- where two readings gave a value, the first led to where the second began
ok_then : {Place X Z : Type 0} (table : Table Place) (place : Place)
    {read_x : Rest → Result (X × Rest) ℕ} (read_z : X → Rest → Result (Z × Rest) ℕ)
    {between : X → Place}
    → Follows table place read_x between → (rest : Rest) (z : Z) (more : Rest)
    → (read_x rest >>= λ p. read_z p.0 p.1) ≡ Ok (z, more)
    → (x : X) × (middle : Rest) × (read_z x middle ≡ Ok (z, more))
    × (fault_at table place rest ≡ fault_at table (between x) middle)
ok_then table place {read_x} read_z first rest z more some =
    let step = bind_ok (read_x rest) (λ p. read_z p.0 p.1) (z, more) some in
    (step.0.0, step.0.1, step.2, first.ok rest step.0.0 step.0.1 step.1)

-- the first of them stopped at the fault, or the second did
err_then : {Place X Z : Type 0} (table : Table Place) (place : Place)
    {read_x : Rest → Result (X × Rest) ℕ} (read_z : X → Rest → Result (Z × Rest) ℕ)
    {between : X → Place}
    → Follows table place read_x between
    → ((x : X) (rest : Rest) (number : ℕ) → read_z x rest ≡ Err number
    → fault_at table (between x) rest ≡ Some number)
    → (rest : Rest) (number : ℕ) → (read_x rest >>= λ p. read_z p.0 p.1) ≡ Err number
    → fault_at table place rest ≡ Some number
err_then table place {read_x} read_z first next rest number none =
    elim (bind_err (read_x rest) (λ p. read_z p.0 p.1) number none) [
      | inl stop ↦ first.err rest number stop
      | inr step ↦ first.ok rest step.0.0 step.0.1 step.1 ∙ next step.0.0 step.0.1 number step.2
    ]

-- one reading after another
pub follows_then : {Place X Z : Type 0} (table : Table Place) (place : Place)
    {read_x : Rest → Result (X × Rest) ℕ} {read_z : X → Rest → Result (Z × Rest) ℕ}
    {between : X → Place} {after : Z → Place}
    → Follows table place read_x between → ((x : X) → Follows table (between x) (read_z x) after)
    → Follows table place (λ rest. read_x rest >>= λ p. read_z p.0 p.1) after
follows_then table place {read_z = read_z} first next = record {
  ok = λ rest z more some. let step = ok_then table place read_z first rest z more some in
      step.3 ∙ (next step.0).ok step.1 z more step.2;
  err = err_then table place read_z first (λ x. (next x).err);
}

pub ends_then : {Place X Z : Type 0} (table : Table Place) (place : Place)
    {read_x : Rest → Result (X × Rest) ℕ} {read_z : X → Rest → Result (Z × Rest) ℕ}
    {between : X → Place}
    → Follows table place read_x between → ((x : X) → FindsFaults table (between x) (read_z x))
    → FindsFaults table place (λ rest. read_x rest >>= λ p. read_z p.0 p.1)
ends_then table place {read_z = read_z} first next = record {
  ok = λ rest z more some. let step = ok_then table place read_z first rest z more some in
      step.3 ∙ (next step.0).ok step.1 z more step.2;
  err = err_then table place read_z first (λ x. (next x).err);
}

-- the value where its parts were read
pub follows_done : {Place Z : Type 0} (table : Table Place) (after : Z → Place) (z : Z)
    → Follows table (after z) (λ rest. Ok (z, rest)) after
follows_done table after z = record {
  ok = λ rest y more some. ap (λ p. fault_at table (after p.0) p.1)
      (ok_same (z, rest) (y, more) some);
  err = λ rest number none. cc none;
}

-- so many values one after another: the places go by how many are left and by those before
pub many_follows : {Place X : Type 0} (table : Table Place) (places : ℕ → List X → Place)
    (read : List X → Rest → Result (X × Rest) ℕ)
    → ((count : ℕ) (before : List X)
    → Follows table (places (suc count) before) (read before)
    (λ x. places count (before ++ x ∷ [])))
    → (count : ℕ) (before : List X)
    → Follows table (places count before) (many_onto before count read) (places zero)
unfolding many_onto
many_follows table places read each zero before = follows_done table (places zero) before
many_follows table places read each (suc count) before =
    follows_then table (places (suc count) before) (each count before)
    (λ x. many_follows table places read each count (before ++ x ∷ []))

err_by : (test : Bool) (rest : Rest) (number : ℕ)
    → ◌≡◌ {A = Result (Unit × Rest) ℕ} (if test then Ok (tt, rest) else Err (rest.taken + 1))
    (Err number) → (test ≡ false) × (rest.taken + 1 ≡ number)
err_by true rest number stop = cc
err_by false rest number stop = (refl, err_same {X = Unit × Rest} (rest.taken + 1) number stop)

none_err : (rest : Rest) (number : ℕ) → none_left rest ≡ Err number
    → ((length rest.left == 0) ≡ false) × (rest.taken + 1 ≡ number)
none_err rest number stop = err_by (length rest.left == 0) rest number stop

outside_is : (test over : Bool) → test ≡ false → (test && over) ≡ false
outside_is test over outside = rw outside refl

over_by : {Place : Type 0} (table : Table Place) (over : Place) (step : Step) (rest : Rest)
    (number : ℕ) → step_of rest.left ≡ step → ((length rest.left == 0) ≡ false)
    × (rest.taken + 1 ≡ number) → ((text : List ℕ) → table.next over text ≡ None)
    → fault_at table over rest ≡ Some number
over_by table over Text rest number is more none =
    text_fault table over rest is
    ∙ ap (fault_after (rest.taken + 1)
    (λ p. fault_at table p
    (record { taken = rest.taken + 1; left = drop (feed_at rest.left + 1) rest.left })))
    (none (take (feed_at rest.left) rest.left)) ∙ ap Some more.1
over_by table over End rest number is more none =
    other_fault table over rest (not_text rest.left End is (λ e. cc))
    (outside_is (length rest.left == 0) (table.over over) more.0) ∙ ap Some more.1
over_by table over Long rest number is more none =
    other_fault table over rest (not_text rest.left Long is (λ e. cc))
    (outside_is (length rest.left == 0) (table.over over) more.0) ∙ ap Some more.1
over_by table over Cut rest number is more none =
    other_fault table over rest (not_text rest.left Cut is (λ e. cc))
    (outside_is (length rest.left == 0) (table.over over) more.0) ∙ ap Some more.1

-- more after the end: the first line of it
over_more : {Place : Type 0} (table : Table Place) (over : Place) (rest : Rest) (number : ℕ)
    → ((length rest.left == 0) ≡ false) × (rest.taken + 1 ≡ number)
    → ((text : List ℕ) → table.next over text ≡ None)
    → fault_at table over rest ≡ Some number
over_more table over rest number more none =
    over_by table over (step_of rest.left) rest number refl more none

-- the line `end` and nothing after it, from a place that takes that line alone to one that takes
-- none
pub end_ends : {Place : Type 0} (table : Table Place) (place over : Place)
    → ((text : List ℕ) → table.next place text
    ≡ option_map (λ _. over) (word_of (codes "end") text)) → table.over place ≡ false
    → ((text : List ℕ) → table.next over text ≡ None) → table.over over ≡ true
    → FindsFaults table place end_at
unfolding end_at text_at
end_ends table place over next inside none ended =
    let line = line_follows table place (word_of (codes "end")) (λ _. over) next inside in
    record {
      ok = λ rest x more some.
          let last = bind_ok (line_by (word_of (codes "end")) rest) (λ p. none_left p.1) (x, more)
          some in
          let empty = none_shown last.0.1 x more last.2 in
          line.ok rest last.0.0 last.0.1 last.1 ∙ over_fault table over last.0.1 empty ended;
      err = λ rest number stop.
          elim (bind_err (line_by (word_of (codes "end")) rest) (λ p. none_left p.1) number stop) [
            | inl bad ↦ line.err rest number bad
            | inr last ↦ line.ok rest last.0.0 last.0.1 last.1
                ∙ over_more table over last.0.1 number (none_err last.0.1 number last.2) none
          ];
    }

-- a value that is made of what was read to the end
pub ends_made : {Place X Z : Type 0} (table : Table Place) (place : Place)
    {read : Rest → Result (X × Rest) ℕ} (make : X → Z) → FindsFaults table place read
    → FindsFaults table place (λ rest. read rest >>= λ p. Ok (make p.0, p.1))
ends_made table place {read} make ends = record {
  ok = λ rest y more some. let last = bind_ok (read rest) (λ p. Ok (make p.0, p.1)) (y, more) some
      in ends.ok rest last.0.0 last.0.1 last.1;
  err = λ rest number stop.
      elim (bind_err (read rest) (λ p. Ok (make p.0, p.1)) number stop) [
        | inl bad ↦ ends.err rest number bad
        | inr last ↦ cc last.2
      ];
}

-- the same with the value at the end
pub ends_done : {Place Z : Type 0} (table : Table Place) (place : Place) (z : Z)
    → FindsFaults table place end_at
    → FindsFaults table place (λ rest. end_at rest >>= λ e. Ok (z, e.1))
ends_done table place z ends = ends_made table place (λ _. z) ends

line_is : {Place X : Type 0} (table : Table Place) (rest : Rest) (read : Rest → Result (X × Rest) ℕ)
    → FindsFaults table table.first read
    → (r : Result (X × Rest) ℕ) → read rest ≡ r → fault_at table table.first rest ≡ result_err r
line_is table rest read ends (Ok p) is = ends.ok rest p.0 p.1 is
line_is table rest read ends (Err number) is = ends.err rest number is

-- a file's fault line is where reading it stops, and there is none where it is read
pub fault_line_is : {Place X : Type 0} (table : Table Place) (read : Rest → Result (X × Rest) ℕ)
    → FindsFaults table table.first read
    → (bytes : List ℕ) → fault_line table bytes ≡ result_err (whole read bytes)
fault_line_is table read ends bytes =
    line_is table (record { taken = 0; left = bytes }) read ends (whole read bytes) refl

-- ---- the texts of a form and its table

read_of : {X : Type 0} (r : Result (X × Rest) ℕ) → result_err r ≡ None → (p : X × Rest) × (r ≡ Ok p)
read_of (Ok p) none = (p, refl)
read_of (Err number) none = cc

fault_of : {X : Type 0} (r : Result (X × Rest) ℕ) (number : ℕ) → r ≡ Err number
    → result_err r ≡ Some number
fault_of r number is = ap result_err is

none_of_read : {X : Type 0} (r : Result (X × Rest) ℕ) (p : X × Rest) → r ≡ Ok p
    → result_err r ≡ None
none_of_read r p is = ap result_err is

-- where a form's reading is of its texts alone, and ends as its table does, the two agree
pub faults_all_but_texts : {Place X : Type 0} {IsValue : X → Type 0} {text : X → List ℕ}
    (table : Table Place) {read : Rest → Result (X × Rest) ℕ}
    → IsWhole IsValue text read → FindsFaults table table.first read
    → FaultsAllButTexts IsValue text table
faults_all_but_texts table {read} form ends bytes =
    let start : Rest = record { taken = 0; left = bytes } in (
      λ none.
          let found = read_of (whole read bytes) (sym (fault_line_is table read ends bytes) ∙ none)
          in
          let shown = form.shown start found.0.0 found.0.1 found.1 in
          (found.0.0, shown.0, shown.1),
      λ value.
          let found = form.found start value.0 value.1 value.2 in
          fault_line_is table read ends bytes
          ∙ none_of_read (whole read bytes) (value.0, found.0) found.1,
    )

-- and a reader that answers as the reading does answers by the texts and the table
pub answers_by_texts : {Place T X : Type 0} {IsValue : X → Type 0} {text : X → List ℕ}
    (table : Table Place) {read : Rest → Result (X × Rest) ℕ} (value : T → X) (bytes : List ℕ)
    → IsWhole IsValue text read → FindsFaults table table.first read
    → (result : Result T ReadErr) (after : Rest)
    → GivesReading value result after (whole read bytes)
    → Answers IsValue text table value bytes result
answers_by_texts table {read} value bytes form ends (Ok x) after reads =
    form.shown (record { taken = 0; left = bytes }) (value x) after reads
answers_by_texts table {read} value bytes form ends (Err (Malformed line)) after reads =
    fault_line_is table read ends bytes ∙ fault_of (whole read bytes) line reads
answers_by_texts table value bytes form ends (Err Failed) after reads = tt
answers_by_texts table value bytes form ends (Err NoMemory) after reads = tt
