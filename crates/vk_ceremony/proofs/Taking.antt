-- What a script says is what its next line says, and what is left behind it.
use Rattle.std.proofs.Common.{◌≡◌, ℕ, ◌+◌, ◌<◌, ◌≤◌, ◌==◌, nat_lt, true, false, List, [], ◌∷◌, length, take, drop, codes, Option, Some, None, IfSome, option_map, Result, Ok, Err, refl, ap, sym, ◌∙◌, arith, inl, inr, subst}
use Rattle.std.specs.Prelude.{◌≢◌, ◌⊎◌}
use Rattle.std.specs.FinMap.{get}
use Rattle.std.specs.Str.{bytes_eq}
use Rattle.std.proofs.lemmas.Bool.Decides.{nat_tests}
use Rattle.std.proofs.lemmas.Bool.{cases_lt}
use Rattle.std.proofs.lemmas.List.{length-take-le, nil_from_length}
use Rattle.vk_residue.specs.Steps.{◌>>=◌, ◌>>?◌}
use Rattle.vk_io.specs.Files.{Files}
use Rattle.vk_lines.specs.declared.errors.ReadErr.{ReadErr}
use Rattle.vk_lines.specs.declared.step.Step.{Step}
use Rattle.vk_lines.specs.declared.step.Step.TheVariants.{Text, End, Long, Cut}
use Rattle.vk_lines.specs.Gives.{Refuses}
use Rattle.vk_lines.specs.Lines.{IsNext, LinesValue, GivesReading, ReadsPart, Rest, feed_at, rest_in, rest_of, step_of, text_at, text_by}
use Rattle.vk_lines.proofs.Parts.{ok_same}
use Rattle.vk_lines.proofs.Pieces.{other_pieces, pieces_feed, pieces_none, text_tells}
use Rattle.vk_lines.proofs.Words.{split_some}
use Rattle.vk_words.specs.Orders.{HouseWords}
use Rattle.vk_words.specs.Scripts.{line_words, script_words}
use Rattle.vk_effect.specs.declared.reading.Unread.{Unread}
use Rattle.vk_effect.specs.Effects.{SaidValue}
use Rattle.vk_effect.specs.NamedFiles.{malformed_said}
use Rattle.vk_effect.specs.Reading.{begun_in, said_of_unread, value_in}
use Rattle.vk_effect.proofs.NamedFiles.{same_Err}
use Rattle.vk_ceremony.specs.Scripts.{Order, behind_heading, closes, heading_at, line_then, order_line, over_at, over_from, pieces, script_at, script_begun, script_from, script_line}
use Rattle.vk_ceremony.specs.Turns.{order_then, over_by}

-- ---- a line stands next

from_text : (script : List ℕ) (taken : ℕ) (text piece : List ℕ) (more : List (List ℕ))
    → length text < 256
    → script_from script taken (text ∷ piece ∷ more)
    ≡ line_then (script_line script text) (taken + 1)
    (script_from script (taken + 1) (piece ∷ more)) (over_from (taken + 1) (piece ∷ more))
from_text script taken text piece more small =
    let test : nat_lt (length text) 256 ≡ true = grind (arith, nat_tests) in
    rw test refl

from_long : (script : List ℕ) (taken : ℕ) (text piece : List ℕ) (more : List (List ℕ))
    → 256 ≤ length text
    → script_from script taken (text ∷ piece ∷ more) ≡ closes (Some (taken + 1))
from_long script taken text piece more long =
    let test : nat_lt (length text) 256 ≡ false = grind (arith, nat_tests) in
    rw test refl

text_stands : (script : List ℕ) (rest : Rest) → step_of rest.left ≡ Text
    → (let behind : Rest = record {
      taken = rest.taken + 1;
      left = drop (feed_at rest.left + 1) rest.left;
    } in
    script_at script rest ≡ line_then (script_line script (take (feed_at rest.left) rest.left))
    behind.taken (script_at script behind) (over_at behind))
unfolding script_at over_at
text_stands script rest text =
    let near = text_tells (feed_at rest.left) (length rest.left) text in
    let line : List ℕ = take (feed_at rest.left) rest.left in
    let some = split_some 10 (drop (feed_at rest.left + 1) rest.left) in
    let short : length line ≡ feed_at rest.left =
    length-take-le (feed_at rest.left) rest.left (omega arith) in
    ap (script_from script rest.taken) (pieces_feed rest.left near.1 ∙ ap (λ ps. line ∷ ps) some.2)
    ∙ from_text script rest.taken line some.0 some.1 (omega arith)
    ∙ ap (λ ps. line_then (script_line script line) (rest.taken + 1)
    (script_from script (rest.taken + 1) ps) (over_from (rest.taken + 1) ps)) (sym some.2)

none_stands : (script : List ℕ) (rest : Rest) → (step_of rest.left ≡ Text → ⊥)
    → script_at script rest ≡ closes (Some (rest.taken + 1))
unfolding script_at
none_stands script rest other =
    other_pieces (script_from script rest.taken) (closes (Some (rest.taken + 1))) rest.left other
    (from_long script rest.taken) refl

-- by the line that was taken
taken_by : (script : List ℕ) (rest : Rest) (step : Step) (text : List ℕ) (behind : Rest)
    → step_of rest.left ≡ step → text_by step rest ≡ Ok (text, behind)
    → script_at script rest ≡ line_then (script_line script text) behind.taken
    (script_at script behind) (over_at behind)
taken_by script rest Text text behind is taken =
    let pair = ok_same (
      take (feed_at rest.left) rest.left,
      record { taken = rest.taken + 1; left = drop (feed_at rest.left + 1) rest.left },
    )
    (text, behind) taken in
    text_stands script rest is
    ∙ ap (λ p. line_then (script_line script p.0) p.1.taken (script_at script p.1)
    (over_at p.1)) pair
taken_by script rest End text behind is taken = cc
taken_by script rest Long text behind is taken = cc
taken_by script rest Cut text behind is taken = cc

pub line_taken_says : (script : List ℕ) (rest : Rest) (text : List ℕ) (behind : Rest)
    → text_at rest ≡ Ok (text, behind)
    → script_at script rest ≡ line_then (script_line script text) behind.taken
    (script_at script behind) (over_at behind)
unfolding text_at
line_taken_says script rest text behind taken =
    taken_by script rest (step_of rest.left) text behind refl taken

-- ---- what a line says

order_said : (script : List ℕ) (behind : Rest) (over : Option ℕ) (order : Option HouseWords)
    → line_then (option_map Order order) behind.taken (script_at script behind) over
    ≡ order_then script order behind
order_said script behind over (Some order) = refl
order_said script behind over None = refl

module _ (script : List ℕ) (rest : Rest) (text word : List ℕ) (behind : Rest)
    (taken : text_at rest ≡ Ok (text, behind)) (is : word ≡ codes "end") where
  -- the line `end`
  pub end_says : true ≡ bytes_eq text word → script_at script rest ≡ closes (over_at behind)
  end_says same =
      let test : bytes_eq text (codes "end") ≡ true = sym (same ∙ ap (bytes_eq text) is) in
      line_taken_says script rest text behind taken ∙ rw test refl

  -- another line
  other_says : false ≡ bytes_eq text word
      → script_at script rest ≡ order_then script (order_line script text) behind
  other_says other =
      let test : bytes_eq text (codes "end") ≡ false = sym (other ∙ ap (bytes_eq text) is) in
      line_taken_says script rest text behind taken
      ∙ rw test (order_said script behind (over_at behind) (order_line script text))

  -- it is UTF-8, or it isn't
  pub words_say : (words : List (List ℕ)) → false ≡ bytes_eq text word
      → Some words ≡ line_words text
      → script_at script rest ≡ order_then script (script_words script words) behind
  words_say words other are =
      other_says other ∙ ap (λ o. order_then script (o >>? script_words script) behind) (sym are)

  pub no_words_say : (number : ℕ) → false ≡ bytes_eq text word → None ≡ line_words text
      → number ≡ behind.taken → script_at script rest ≡ closes (Some number)
  no_words_say number other none count =
      other_says other ∙ ap (λ o. order_then script (o >>? script_words script) behind) (sym none)
      ∙ ap (λ n. closes (Some n)) (sym count)

-- ---- what a reader took

taken_more : (rest behind : Rest) (step : Step) (text : List ℕ)
    → text_by step rest ≡ Ok (text, behind) → behind.taken ≡ rest.taken + 1
taken_more rest behind Text text taken =
    sym (ap (λ p. p.1.taken) (ok_same (
      take (feed_at rest.left) rest.left,
      record { taken = rest.taken + 1; left = drop (feed_at rest.left + 1) rest.left },
    ) (text, behind)
    taken))
taken_more rest behind End text taken = cc
taken_more rest behind Long text taken = cc
taken_more rest behind Cut text taken = cc

number_after : (rest behind : Rest) (text : List ℕ) → text_at rest ≡ Ok (text, behind)
    → behind.taken ≡ rest.taken + 1
unfolding text_at
number_after rest behind text taken = taken_more rest behind (step_of rest.left) text taken

pub number_of : (files : Files) (lines : LinesValue) → (rest_of lines files).taken ≡ lines.taken
unfolding rest_of rest_in
number_of files lines = refl

-- the line's number is one more than how many lines were taken before
pub next_number : (files : Files) (old new : LinesValue) (before : ℕ) → before ≡ old.taken
    → IsNext Text old new files → before + 1 ≡ (rest_of new files).taken
next_number files old new before count next =
    ap (λ n. n + 1) (count ∙ sym (number_of files old))
    ∙ sym (number_after (rest_of old files) (rest_of new files) new.text next.line)

pub next_text : (files : Files) (old new : LinesValue) (text : List ℕ) → text ≡ new.text
    → IsNext Text old new files → text_at (rest_of old files) ≡ Ok (text, rest_of new files)
next_text files old new text same next = next.line ∙ ap (λ t. Ok (t, rest_of new files)) (sym same)

not_text : (step : Step) → (step ≡ End) ⊎ (step ≡ Long) ⊎ (step ≡ Cut) → step ≢ Text
not_text step (inl is) text = (let no = sym is ∙ text in cc)
not_text step (inr (inl is)) text = (let no = sym is ∙ text in cc)
not_text step (inr (inr is)) text = (let no = sym is ∙ text in cc)

pub no_line_stands : (script : List ℕ) (files : Files) (old new : LinesValue) (step : Step)
    (before : ℕ) → before ≡ old.taken → (step ≡ End) ⊎ (step ≡ Long) ⊎ (step ≡ Cut)
    → IsNext step old new files → script_at script (rest_of old files) ≡ closes (Some (before + 1))
no_line_stands script files old new step before count other next =
    none_stands script (rest_of old files) (λ text. not_text step other (next.next ∙ text))
    ∙ ap (λ n. closes (Some (n + 1))) (number_of files old ∙ sym count)

-- ---- behind the line `end`

over_none : (rest : Rest) → rest.left ≡ [] → over_at rest ≡ None
unfolding over_at
over_none rest none = ap (λ left. over_from rest.taken (pieces left)) none

over_last : (taken : ℕ) (last : List ℕ) → (length last == 0) ≡ false
    → over_from taken (last ∷ []) ≡ Some (taken + 1)
over_last taken last some = rw some refl

over_more : (rest : Rest) → (length rest.left == 0) ≡ false → over_at rest ≡ Some (rest.taken + 1)
unfolding over_at
over_more rest more =
    elim (cases_lt (feed_at rest.left) (length rest.left)) [
      | inl within ↦
          let some = split_some 10 (drop (feed_at rest.left + 1) rest.left) in
          ap (over_from rest.taken)
          (pieces_feed rest.left within
          ∙ ap (λ ps. take (feed_at rest.left) rest.left ∷ ps) some.2)
      | inr none ↦ ap (over_from rest.taken) (pieces_none rest.left none)
          ∙ over_last rest.taken rest.left more
    ]

end_tells : (left : List ℕ) → step_of left ≡ End → left ≡ []
end_tells left is = nil_from_length left (grind (arith, nat_tests))

more_tells : (left : List ℕ) → (step_of left ≡ End → ⊥) → (length left == 0) ≡ false
more_tells left other = grind (arith, nat_tests)

over_step : (rest : Rest) (step : Step) → step ≡ step_of rest.left
    → over_by step rest.taken ≡ over_at rest
over_step rest End is = sym (over_none rest (end_tells rest.left (sym is)))
over_step rest Text is = sym (over_more rest
    (more_tells rest.left (λ ends. let no = is ∙ ends in cc)))
over_step rest Long is = sym (over_more rest
    (more_tells rest.left (λ ends. let no = is ∙ ends in cc)))
over_step rest Cut is = sym (over_more rest
    (more_tells rest.left (λ ends. let no = is ∙ ends in cc)))

over_stands : (files : Files) (old new : LinesValue) (step : Step) (number : ℕ) (fault : Option ℕ)
    → number ≡ old.taken → fault ≡ over_by step number → IsNext step old new files
    → fault ≡ over_at (rest_of old files)
over_stands files old new step number fault count is next =
    is ∙ ap (over_by step) (count ∙ sym (number_of files old))
    ∙ over_step (rest_of old files) step next.next

pub over_told : (held : Option Files) (old new : LinesValue) (step : Step) (number : ℕ)
    (fault : Option ℕ) → number ≡ old.taken → fault ≡ over_by step number
    → IfSome held (λ files. IsNext step old new files)
    → IfSome held (λ files. fault ≡ over_at (rest_of old files))
over_told None old new step number fault count is next = tt
over_told (Some files) old new step number fault count is next =
    over_stands files old new step number fault count is next

-- ---- the first line

-- where it isn't the heading, that is said of the script
no_heading : (script : List ℕ) (said : Option SaidValue) (read : Result (Unit × Rest) ℕ)
    → Refuses said (value_in script read) → Refuses said (behind_heading script read)
no_heading script None read is = tt
no_heading script (Some said) (Ok read) is = cc
no_heading script (Some said) (Err number) is =
    ap Err (same_Err {T = Unit {0}} (malformed_said script number) said is)

pub heading_refused : (script : List ℕ) (held now : Option Files) (before after : LinesValue)
    (read : Result Unit ReadErr) (refusal : Unread) → now ≡ held
    → IfSome held (λ files. begun_in script (get files script) ≡ Ok (rest_of before files))
    → ReadsPart heading_at now before after read
    → ((rest : Rest) (expected : Result (Unit × Rest) ℕ) → GivesReading (λ x. x) read rest expected
    → Refuses (said_of_unread refusal) (value_in script expected))
    → IfSome held (λ files. Refuses (said_of_unread refusal) (script_begun files script))
unfolding script_begun
heading_refused script None now before after read refusal same begun reads refuses = tt
heading_refused script (Some files) now before after read refusal same begun reads refuses =
    let here : GivesReading (λ x. x) read (rest_of after files)
    (heading_at (rest_of before files)) =
    subst (λ left. ReadsPart heading_at left before after read) same reads in
    let said = no_heading script (said_of_unread refusal)
    (heading_at (rest_of before files))
    (refuses (rest_of after files) (heading_at (rest_of before files)) here) in
    subst (λ r. Refuses (said_of_unread refusal)
    (◌>>=◌ r (λ file. behind_heading script (heading_at file)))) (sym begun) said
