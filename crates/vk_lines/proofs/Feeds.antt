-- The first line feed of some bytes and of their front, and the next line of a reader.
use Rattle.std.proofs.Common.{◌≡◌, ℕ, zero, suc, ◌+◌, ◌-◌, ◌<◌, ◌≤◌, ◌≢◌, ◌==◌, get_or, subst, List, [], ◌∷◌, length, take, drop, min, Option, Some, None, Ok, unwrap_or, refl, ap, sym, ◌∙◌, arith, inl, inr, take-take, option_map, ◌^◌, IsSome, ◌⊎◌, append_assoc, append-nil, length-append, ◌++◌}
use Rattle.std.specs.FinMap.{get}
use Rattle.std.specs.Option.{IfSome}
use Rattle.memchr.specs.Find.{NoneBefore, Nowhere, Passes, is_byte}
use Rattle.std.proofs.lemmas.Bool.Decides.{nat_tests}
use Rattle.std.proofs.lemmas.Bool.{cases_lt, false_from_ne_true}
use Rattle.std.proofs.lemmas.List.{take_all, drop_all, length-take, length-take-le, length-drop, drop-take, drop-drop, take-append-le, drop-append-le, take-append-drop}
use Rattle.std.proofs.lemmas.List.Sums.{position_or_len_is}
use Rattle.vk_io.specs.Files.{Files, bytes_of, part_of}
use Rattle.vk_lines.specs.declared.step.Step.{Step}
use Rattle.vk_lines.specs.declared.step.Step.TheVariants.{Text, End, Long, Cut}
use Rattle.vk_lines.specs.Buffers.{IsEnough, HasLooked, after_step, with_piece}
use Rattle.vk_lines.specs.Lines.{LinesValue, Rest, IsNext, Starts, none_left, ended, is_end, answer_by, GivesReading, feed_at, line_taken, rest_in, rest_of, step_by, step_of, text_at, unread, unread_in, KeepsFile}
use Rattle.vk_lines.proofs.Pieces.{text_tells}

-- where the first of all is found, or is not
pub feed_found : (text : List ℕ) (feed : ℕ)
    → NoneBefore (Passes (is_byte 10) text) 0 (length text) feed × Passes (is_byte 10) text feed
    → feed ≡ feed_at text
feed_found text feed found =
    let bounds : (0 ≤ feed) × (feed < length text) = (found.0.low, found.0.high) in
    sym (position_or_len_is (λ byte. byte == 10) text feed 0 (omega arith)
    (λ k less. false_from_ne_true (get_or text k 0 == 10) (found.0.before k (omega arith) less))
    (λ within. found.1))

pub feed_nowhere : (text : List ℕ) → Nowhere (Passes (is_byte 10) text) 0 (length text)
    → length text ≡ feed_at text
feed_nowhere text nowhere =
    sym (position_or_len_is (λ byte. byte == 10) text (length text) 0 (omega arith)
    (λ k less. false_from_ne_true (get_or text k 0 == 10) (nowhere k (omega arith) less))
    (λ past. absurd (omega arith)))

-- in the front of some bytes it stands where it stood, or at the front's end
feed_at-take : (count : ℕ) (text : List ℕ) → feed_at (take count text) ≡ min count (feed_at text)
feed_at-take zero text = omega arith
feed_at-take (suc count) [] = omega arith
feed_at-take (suc count) (byte ∷ text) =
    let rest = feed_at-take count text in
    grind (arith, nat_tests)

-- 256 bytes of what is left show what stands next
step_front : (feed count : ℕ) → step_by (min 256 feed) (min 256 count) ≡ step_by feed count
step_front feed count = grind (arith, nat_tests)

pub step_of-take : (left : List ℕ) → step_of (take 256 left) ≡ step_of left
step_of-take left = rw (feed_at-take 256 left, length-take 256 left)
    (step_front (feed_at left) (length left))

-- ---- the next line of a reader

-- what is left after so many bytes more
pub rest_after : (count at size : ℕ) (bytes : List ℕ)
    → take (size - (at + count)) (drop (at + count) bytes)
    ≡ drop count (take (size - at) (drop at bytes))
rest_after count at size bytes =
    elim (cases_lt (size - at) count) [
      | inl past ↦
          let none : size - (at + count) ≡ 0 = omega arith in
          let short : length (take (size - at) (drop at bytes)) ≤ count =
          omega (arith, length-take (size - at) (drop at bytes)) in
          rw none (sym (drop_all count (take (size - at) (drop at bytes)) short))
      | inr within ↦
          let more : size - at ≡ count + (size - (at + count)) = omega arith in
          rw (more, drop-take count (size - (at + count)) (drop at bytes), drop-drop count at bytes)
          refl
    ]

-- two lists with the same first 256 bytes show the same line next
same_front : (xs ys : List ℕ) → take 256 xs ≡ take 256 ys → step_of xs ≡ step_of ys
same_front xs ys same = sym (step_of-take xs) ∙ ap step_of same ∙ step_of-take ys

same_feed : (xs ys : List ℕ) → take 256 xs ≡ take 256 ys → feed_at xs < 256 → feed_at ys < 256
    → feed_at xs ≡ feed_at ys
same_feed xs ys same near_x near_y =
    let both : min 256 (feed_at xs) ≡ min 256 (feed_at ys) = sym (feed_at-take 256 xs)
    ∙ ap feed_at same ∙ feed_at-take 256 ys in
    omega arith

-- the unread bytes stay the same when a line is taken from those ahead
unread_after : (lines : LinesValue) (count : ℕ) → count ≤ length lines.ahead
    → lines.at + count + length (drop count lines.ahead) ≡ lines.at + length lines.ahead
unread_after lines count within = omega (arith, length-drop count lines.ahead)

-- the step by its kind
next_by : (files : Files) (lines : LinesValue) (step : Step)
    → step_of lines.ahead ≡ step → take 256 (rest_of lines files).left ≡ take 256 lines.ahead
    → (step_of (rest_of lines files).left ≡ step)
    × (text_at (rest_of lines files) ≡ line_taken step lines (after_step step lines) files)
unfolding text_at rest_of rest_in
next_by files lines Text is near =
    let left : List ℕ = lines.ahead ++ unread_in lines (bytes_of files lines.name) in
    let step : step_of left ≡ Text = same_front left lines.ahead near ∙ is in
    let tells = text_tells (feed_at lines.ahead) (length lines.ahead) is in
    let feed : feed_at left ≡ feed_at lines.ahead =
    same_feed left lines.ahead near (text_tells (feed_at left) (length left) step).0 tells.0 in
    let within = tells.1 in
    let text : take (feed_at left) left ≡ take (feed_at lines.ahead) lines.ahead =
    rw feed (take-append-le (feed_at lines.ahead) lines.ahead
    (unread_in lines (bytes_of files lines.name)) (omega arith)) in
    let place = unread_after lines (feed_at lines.ahead + 1) (omega arith) in
    let rest : drop (feed_at left + 1) left ≡ drop (feed_at lines.ahead + 1) lines.ahead
    ++ unread_in lines (bytes_of files lines.name) =
    rw feed (drop-append-le (feed_at lines.ahead + 1) lines.ahead
    (unread_in lines (bytes_of files lines.name)) (omega arith)) in
    (step, rw (step, text, rest, place) refl)
next_by files lines End is near = let step = same_front (rest_of lines files).left lines.ahead near
    ∙ is in (step, rw step refl)
next_by files lines Long is near = let step = same_front (rest_of lines files).left lines.ahead near
    ∙ is in (step, rw step refl)
next_by files lines Cut is near = let step = same_front (rest_of lines files).left lines.ahead near
    ∙ is in (step, rw step refl)

other_by : (step : Step) (lines : LinesValue) → step ≢ Text → after_step step lines ≡ lines
other_by Text lines other = absurd (other refl)
other_by End lines other = refl
other_by Long lines other = refl
other_by Cut lines other = refl

taken_by : (step : Step) (before lines after : LinesValue) (files : Files)
    → before.taken ≡ lines.taken
    → line_taken step lines after files ≡ line_taken step before after files
taken_by Text before lines after files same = refl
taken_by End before lines after files same = rw same refl
taken_by Long before lines after files same = rw same refl
taken_by Cut before lines after files same = rw same refl

-- a line is taken from the bytes ahead where they show what stands next
pub is_next : (files : Files) (before lines : LinesValue) → HasLooked before lines files
    → IsNext (step_of lines.ahead) before (after_step (step_of lines.ahead) lines) files
is_next files before lines looked =
    let next = next_by files lines (step_of lines.ahead) refl looked.near in
    record {
      next = sym next.0 ∙ ap (λ r. step_of r.left) looked.rest;
      line = ap text_at (sym looked.rest) ∙ next.1
          ∙ taken_by (step_of lines.ahead) before lines (after_step (step_of lines.ahead) lines)
          files (sym looked.taken);
      other = λ other. ap (λ l. rest_of l files) (other_by (step_of lines.ahead) lines other)
          ∙ looked.rest;
    }

-- ---- reading on

-- where nothing is to be read, the bytes ahead show what stands next
front_of : (ahead more : List ℕ) → (256 ≤ length ahead) ⊎ (more ≡ [])
    → take 256 (ahead ++ more) ≡ take 256 ahead
front_of ahead more (inl many) = take-append-le 256 ahead more many
front_of ahead more (inr none) = ap (λ m. take 256 (ahead ++ m)) none
    ∙ ap (take 256) (append-nil ahead)

take_none : (count : ℕ) → ◌≡◌ {A = List ℕ} (take count []) []
take_none zero = refl
take_none (suc count) = refl

rest_of_none : (count : ℕ) (bytes : List ℕ) → bytes ++ take count [] ≡ bytes
rest_of_none count bytes = ap (λ more. bytes ++ more) (take_none count) ∙ append-nil bytes

-- the bytes that were read, and those after them
piece_split : (room total : ℕ) (bytes : List ℕ) → room ≤ total
    → take room bytes ++ take (total - length (take room bytes))
    (drop (length (take room bytes)) bytes) ≡ take total bytes
piece_split room total bytes within =
    elim (cases_lt (length bytes) room) [
      | inl short ↦
          let all : take room bytes ≡ bytes = take_all room bytes (omega arith) in
          let none : drop (length bytes) bytes ≡ [] = drop_all (length bytes) bytes (omega arith) in
          rw (all, none) (rest_of_none (total - length bytes) bytes
          ∙ sym (take_all total bytes (omega arith)))
      | inr long ↦
          let count : length (take room bytes) ≡ room = length-take-le room bytes long in
          let back : take (total - room) (drop room bytes) ≡ drop room (take total bytes) =
          sym (drop-take room (total - room) bytes)
          ∙ ap (λ n. drop room (take n bytes)) (omega arith) in
          let front : take room bytes ≡ take room (take total bytes) =
          sym (take-take room total bytes within) in
          rw (count, back, front) (take-append-drop room (take total bytes))
    ]

-- after a reading 256 bytes are ahead, or all that are left
piece_near : (ahead asked total : ℕ) (bytes : List ℕ) → IsEnough ahead total asked
    → (256 ≤ ahead + length (take asked bytes))
    ⊎ (take (total - length (take asked bytes)) (drop (length (take asked bytes)) bytes) ≡ [])
piece_near ahead asked total bytes is =
    elim (cases_lt (length bytes) asked) [
      | inl short ↦
          let all : take asked bytes ≡ bytes = take_all asked bytes (omega arith) in
          let none : drop (length bytes) bytes ≡ [] = drop_all (length bytes) bytes (omega arith) in
          inr (rw (all, none) (take_none (total - length bytes)))
      | inr long ↦
          let count : length (take asked bytes) ≡ asked = length-take-le asked bytes long in
          elim is.enough [
            | inl many ↦ inl (omega arith)
            | inr last ↦ let none : total - asked ≡ 0 = omega arith in inr (rw (count, none) refl)
          ]
    ]

rest_same : (taken : ℕ) {xs ys : List ℕ} → xs ≡ ys
    → ◌≡◌ {A = Rest} (record { taken = taken; left = xs }) (record { taken = taken; left = ys })
rest_same taken same = rw same refl

near_by : (ahead piece : List ℕ) (asked total : ℕ) (bytes : List ℕ) → piece ≡ take asked bytes
    → IsEnough (length ahead) total asked
    → (256 ≤ length (ahead ++ piece))
    ⊎ (take (total - length piece) (drop (length piece) bytes) ≡ [])
near_by ahead piece asked total bytes is enough =
    elim (piece_near (length ahead) asked total bytes enough) [
      | inl many ↦ let count : length piece ≡ length (take asked bytes) = ap length is in
          inl (omega (arith, length-append ahead piece))
      | inr none ↦ inr (rw is none)
    ]

pub looked_by_piece : (files : Files) (lines : LinesValue) (piece : List ℕ) (asked : ℕ)
    → piece ≡ part_of (bytes_of files lines.name) (unread lines) asked
    → IsEnough (length lines.ahead) (lines.size - unread lines) asked
    → HasLooked lines (with_piece piece lines) files
unfolding rest_of rest_in
looked_by_piece files lines piece asked is enough =
    let total : ℕ = lines.size - unread lines in
    let bytes : List ℕ = drop (unread lines) (bytes_of files lines.name) in
    let place : lines.at + length (lines.ahead ++ piece) ≡ unread lines + length piece =
    omega (arith, length-append lines.ahead piece) in
    let less : lines.size - (unread lines + length piece) ≡ total - length piece = omega arith in
    let unread_is : part_of (bytes_of files lines.name) (lines.at + length (lines.ahead ++ piece))
    (lines.size - (lines.at + length (lines.ahead ++ piece)))
    ≡ take (total - length piece) (drop (length piece) bytes) =
    rw (place, less) (ap (take (total - length piece))
    (sym (drop-drop (length piece) (unread lines) (bytes_of files lines.name)))) in
    let split : piece ++ take (total - length piece) (drop (length piece) bytes)
    ≡ take total bytes = rw is (piece_split asked total bytes enough.within) in
    let near : (256 ≤ length (lines.ahead ++ piece))
    ⊎ (take (total - length piece) (drop (length piece) bytes) ≡ []) =
    near_by lines.ahead piece asked total bytes is enough in
    record {
      rest = rest_same lines.taken
          (ap (λ more. (lines.ahead ++ piece) ++ more) unread_is
          ∙ append_assoc lines.ahead piece (take (total - length piece) (drop (length piece) bytes))
          ∙ ap (λ more. lines.ahead ++ more) split);
      taken = refl;
      text = refl;
      near = rw unread_is (front_of (lines.ahead ++ piece)
          (take (total - length piece) (drop (length piece) bytes)) near);
    }

-- a reader whose fields are so
lines_same : (lines : LinesValue) {name : List ℕ} {size at taken : ℕ} {ahead text : List ℕ}
    → lines.name ≡ name → lines.size ≡ size → lines.at ≡ at → lines.taken ≡ taken
    → lines.ahead ≡ ahead → lines.text ≡ text
    → lines ≡ record {
      name = name;
      size = size;
      at = at;
      taken = taken;
      ahead = ahead;
      text = text;
    }
lines_same lines named sized placed counted read shown =
    rw (← named, ← sized, ← placed, ← counted, ← read, ← shown) refl

-- what was read of the modelled file shows what stands next
pub looked_told : (held : Option Files) (old new : LinesValue) (name ahead : List ℕ)
    (place left asked : ℕ)
    → name ≡ old.name → ahead ≡ old.ahead → place ≡ unread old → left ≡ old.size - unread old
    → IsEnough (length ahead) left asked
    → KeepsFile old new → new.at ≡ old.at → new.taken ≡ old.taken → new.text ≡ old.text
    → IfSome held (λ files. new.ahead ≡ ahead ++ part_of (bytes_of files name) place asked)
    → IfSome held (λ files. HasLooked old new files)
looked_told None old new name ahead place left asked named read_so placed all enough file at taken
    text read = tt
looked_told (Some files) old new name ahead place left asked named read_so placed all enough file at
    taken text read =
    let P : LinesValue → Type 0 = λ lines. HasLooked old lines files in
    let ahead_is : new.ahead ≡ old.ahead ++ part_of (bytes_of files old.name) (unread old) asked =
    rw (named, read_so, placed) at read in
    let enough_is : IsEnough (length old.ahead) (old.size - unread old) asked =
    rw (read_so, all) at enough in
    subst P (sym (lines_same new file.name file.size at taken ahead_is text))
    (looked_by_piece files old (part_of (bytes_of files old.name) (unread old) asked) asked refl
    enough_is)

-- the bytes that were read are those of the modelled file
pub more_told : (held : Option Files) (name old piece new : List ℕ) (at room : ℕ)
    → new ≡ old ++ piece
    → IfSome held (λ files. piece ≡ part_of (bytes_of files name) at room)
    → IfSome held (λ files. new ≡ old ++ part_of (bytes_of files name) at room)
more_told None name old piece new at room grown read = tt
more_told (Some files) name old piece new at room grown read = grown ∙ ap (λ more. old ++ more) read

-- ---- the start of a reader

held_of_told : (held : Option (List ℕ)) (size : ℕ) → Some size ≡ option_map length held
    → IsSome held × (length (unwrap_or held []) ≡ size)
held_of_told (Some bytes) size told = (refl, cc)
held_of_told None size told = cc

pub starts_is : (files : Files) (name : List ℕ) (lines : LinesValue) (told : Option ℕ) (size : ℕ)
    → told ≡ option_map length (get files name) → told ≡ Some size → size ≤ 2 ^ 30
    → lines.name ≡ name → lines.size ≡ size → lines.at ≡ 0 → lines.taken ≡ 0 → lines.ahead ≡ []
    → Starts files name (Ok lines)
unfolding rest_of rest_in
starts_is files name lines told size same some small named sized at taken ahead =
    let held = held_of_told (get files name) size (sym some ∙ same) in
    let whole : take lines.size (bytes_of files name) ≡ bytes_of files name =
    take_all lines.size (bytes_of files name) (omega arith) in
    let all : lines.size - 0 ≡ lines.size = omega arith in
    let left : lines.ahead ++ unread_in lines (bytes_of files lines.name) ≡ bytes_of files name =
    rw (named, at, ahead, all) whole in
    record {
      held = held.0;
      small = omega (arith, held.1);
      size = sized ∙ sym held.1;
      rest = rw (left, taken) refl;
    }

-- ---- the end

ended_by : (feed count : ℕ) (rest : Rest) → count ≡ length rest.left
    → none_left rest ≡ ended (step_by feed count) rest
ended_by feed count rest same = grind (arith, nat_tests)

-- the end stands next exactly where nothing is left
none_left-by : (rest : Rest) (step : Step) → step ≡ step_of rest.left
    → none_left rest ≡ ended step rest
none_left-by rest step is = rw is (ended_by (feed_at rest.left) (length rest.left) rest refl)

answer_at : (step : Step) (before : ℕ) (old new : Rest) → before ≡ old.taken
    → (step ≢ Text → new ≡ old) → none_left old ≡ ended step old
    → GivesReading (λ x. x) (answer_by (is_end step) before) new (none_left old)
answer_at End before old new taken same is = rw (is, same (λ e. cc)) refl
answer_at Text before old new taken same is = rw (is, taken) refl
answer_at Long before old new taken same is = rw (is, taken) refl
answer_at Cut before old new taken same is = rw (is, taken) refl

pub end_told : (step : Step) (before : ℕ) (files : Files) (old new : LinesValue)
    → before ≡ old.taken → IsNext step old new files
    → GivesReading (λ x. x) (answer_by (is_end step) before) (rest_of new files)
    (none_left (rest_of old files))
unfolding rest_of rest_in
end_told step before files old new taken next =
    answer_at step before (rest_of old files) (rest_of new files) taken next.other
    (none_left-by (rest_of old files) step next.next)
