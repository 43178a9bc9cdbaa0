-- Parts of a file: what is read is exactly the text of its value, one part after another.
use Rattle.std.proofs.Common.{◌≡◌, ℕ, zero, suc, ◌+◌, ◌-◌, ◌<◌, ◌≤◌, ◌==◌, nat_lt, Bool, true, false, if◌then◌else◌, List, [], ◌∷◌, ◌++◌, length, take, drop, get_or, not, codes, Option, Some, None, Result, Ok, Err, refl, ap, sym, ◌∙◌, arith, append_assoc, append-nil, length-append, subst}
use Rattle.std.specs.List.{flat_map, AllByRecursion}
use Rattle.std.proofs.lemmas.Bool.{and_parts, eqb-true}
use Rattle.std.proofs.lemmas.Bool.Decides.{nat_tests}
use Rattle.std.proofs.lemmas.List.{take-append-drop, take_at, drop_more, nil_from_length}
use Rattle.std.proofs.lemmas.List.Sums.{prefix_len_stops}
use Rattle.std.proofs.Math.Seq.{drop-append-add}
use Rattle.vk_residue.specs.Steps.{◌>>=◌}
use Rattle.vk_lines.specs.declared.step.Step.{Step}
use Rattle.vk_lines.specs.declared.step.Step.TheVariants.{Text, End, Long, Cut}
use Rattle.vk_lines.specs.Lines.{Rest, feed_at, step_of, step_by, text_at, text_by, line_by, value_at, none_left, end_at}
use Rattle.vk_lines.specs.Forms.{IsLine, IsPart, IsWhole, is_plain, EachAfter, line, many_onto, many_at}
use Rattle.vk_lines.specs.Tokens.{word_of}
use Rattle.vk_lines.proofs.Pieces.{text_tells}
use Rattle.vk_lines.proofs.Words.{fixed_line}

-- what a reading shows where the readings together gave a value
pub bind_ok : {A B : Type 0} (r : Result A ℕ) (f : A → Result B ℕ) (y : B) → (r >>= f) ≡ Ok y
    → (x : A) × (r ≡ Ok x) × (f x ≡ Ok y)
bind_ok (Ok x) f y h = (x, refl, h)
bind_ok (Err line) f y h = cc

pub ok_same : {X : Type 0} (x y : X) → ◌≡◌ {A = Result X ℕ} (Ok x) (Ok y) → x ≡ y
ok_same x y same = cc

value_found : {X : Type 0} (o : Option X) (x : X) (rest : Rest) → o ≡ Some x
    → value_at o rest ≡ Ok (x, rest)
value_found o x rest some = rw some refl

pub value_shown : {X : Type 0} (o : Option X) (rest : Rest) (x : X) (after : Rest)
    → value_at o rest ≡ Ok (x, after) → (o ≡ Some x) × (rest ≡ after)
value_shown (Some y) rest x after some =
    let same = ok_same (y, rest) (x, after) some in (ap (λ p. Some p.0) same, ap (λ p. p.1) same)
value_shown None rest x after some = cc

-- plain text holds no line feed
feed_at-plain : (text more : List ℕ) → is_plain text ≡ true
    → feed_at (text ++ 10 ∷ more) ≡ length text
feed_at-plain [] more plain = refl
feed_at-plain (b ∷ text) more plain =
    let parts = and_parts (nat_lt 31 b) (is_plain text) plain in
    let rest = feed_at-plain text more parts.1 in
    grind (arith, nat_tests)

text_step : (feed count : ℕ) → feed < 256 → feed < count → step_by feed count ≡ Text
text_step feed count near within = grind (arith, nat_tests)

-- a plain line of at most 255 bytes stands next
pub text_found : (rest : Rest) (text more : List ℕ) → is_plain text ≡ true → length text ≤ 255
    → rest.left ≡ text ++ 10 ∷ more
    → text_at rest ≡ Ok (text, record { taken = rest.taken + 1; left = more })
unfolding text_at
text_found rest text more plain short is =
    let feed : feed_at rest.left ≡ length text = ap feed_at is ∙ feed_at-plain text more plain in
    let long : length rest.left ≡ length text + suc (length more) =
    ap length is ∙ length-append text (10 ∷ more) in
    let step : step_of rest.left ≡ Text =
    text_step (feed_at rest.left) (length rest.left) (omega arith) (omega arith) in
    let front : take (feed_at rest.left) rest.left ≡ text =
    rw (feed, is) (take_at text (10 ∷ more) (length text) refl) in
    let back : drop (feed_at rest.left + 1) rest.left ≡ more =
    rw (feed, is) (drop-append-add text (10 ∷ more) 1) in
    rw (step, front, back) refl

-- at the first line feed stands a line feed
feed_is : (left : List ℕ) → feed_at left < length left → get_or left (feed_at left) 0 ≡ 10
feed_is left within =
    let stops = prefix_len_stops (λ byte. not (byte == 10)) left 0 within in
    grind (arith, nat_tests)

cut_at_feed : (left : List ℕ) → feed_at left < length left
    → left ≡ take (feed_at left) left ++ 10 ∷ drop (feed_at left + 1) left
cut_at_feed left within =
    sym (take-append-drop (feed_at left) left)
    ∙ ap (λ back. take (feed_at left) left ++ back)
    (drop_more left (feed_at left) 0 within
    ∙ ap (λ b. b ∷ drop (feed_at left + 1) left) (feed_is left within))

shown_by : (step : Step) (rest : Rest) (text : List ℕ) (after : Rest) → step_of rest.left ≡ step
    → text_by step rest ≡ Ok (text, after) → rest.left ≡ text ++ 10 ∷ after.left
shown_by Text rest text after step is =
    let same = ok_same _ _ is in
    let cut = cut_at_feed rest.left (text_tells (feed_at rest.left) (length rest.left) step).1 in
    rw (ap (λ p. p.0) same, ap (λ p. p.1.left) same) at cut
shown_by End rest text after step is = cc
shown_by Long rest text after step is = cc
shown_by Cut rest text after step is = cc

-- a line that was taken stood in front, with its line feed
pub text_shown : (rest : Rest) (text : List ℕ) (after : Rest) → text_at rest ≡ Ok (text, after)
    → rest.left ≡ text ++ 10 ∷ after.left
unfolding text_at
text_shown rest text after is = shown_by (step_of rest.left) rest text after refl is

-- ---- one line

pub line_part : {X : Type 0} {IsValue : X → Type 0} {text : X → List ℕ} {parse : List ℕ → Option X}
    → IsLine IsValue text parse → IsPart IsValue (λ x. line (text x)) (line_by parse)
unfolding line_by
line_part {text = text} {parse = parse} form = record {
  found = λ rest x more is left.
      let taken = text_found rest (text x) more (form.plain x is) (form.short x is)
      (left ∙ append_assoc (text x) (10 ∷ []) more) in (
        rest.taken + 1,
        ap (λ r. r >>= λ l. value_at (parse l.0) l.1) taken
            ∙ value_found (parse (text x)) x _ (form.found x is),
      );
  shown = λ rest x after some.
      let read = bind_ok (text_at rest) (λ l. value_at (parse l.0) l.1) (x, after) some in
      let value = value_shown (parse read.0.0) read.0.1 x after read.2 in
      let is = form.shown read.0.0 x value.0 in
      let left = text_shown rest read.0.0 read.0.1 read.1 in
      (is.0, left ∙ rw (is.1, value.1) (sym (append_assoc (text x) (10 ∷ []) after.left)));
}

-- ---- the end of a file

none_found : (rest : Rest) → length rest.left ≡ 0 → none_left rest ≡ Ok (tt, rest)
none_found rest none = rw none refl

none_by : (test : Bool) (rest after : Rest) (x : Unit)
    → ◌≡◌ {A = Result (Unit × Rest) ℕ} (if test then Ok (tt, rest) else Err (rest.taken + 1))
    (Ok (x, after)) → test ≡ true
none_by true rest after x some = refl
none_by false rest after x some = cc

pub none_shown : (rest : Rest) (x : Unit) (after : Rest) → none_left rest ≡ Ok (x, after)
    → rest.left ≡ []
none_shown rest x after some = nil_from_length rest.left
    (eqb-true (length rest.left) 0 (none_by (length rest.left == 0) rest after x some))

end_line : IsPart {X = Unit} (λ _. Unit {0}) (λ _. line (codes "end"))
    (line_by (word_of (codes "end")))
end_line = line_part (fixed_line (codes "end") refl (omega arith))

pub end_found : (rest : Rest) → rest.left ≡ line (codes "end")
    → (after : Rest) × (end_at rest ≡ Ok (tt, after))
unfolding end_at
end_found rest left =
    let last = end_line.found rest tt [] tt (left ∙ sym (append-nil (line (codes "end")))) in (
      record { taken = last.0; left = [] },
      ap (λ r. r >>= λ p. none_left p.1) last.1
          ∙ none_found (record { taken = last.0; left = [] }) refl,
    )

pub end_shown : (rest : Rest) (x : Unit) (after : Rest) → end_at rest ≡ Ok (x, after)
    → rest.left ≡ line (codes "end")
unfolding end_at
end_shown rest x after some =
    let last = bind_ok (line_by (word_of (codes "end")) rest) (λ p. none_left p.1) (x, after) some
    in
    let empty = none_shown last.0.1 x after last.2 in
    let is = end_line.shown rest last.0.0 last.0.1 last.1 in
    is.1 ∙ ap (λ more. line (codes "end") ++ more) empty ∙ append-nil (line (codes "end"))

-- the value at the end of a file
pub whole_end : {Z : Type 0} (z : Z)
    → IsWhole (λ y. y ≡ z) (λ _. line (codes "end")) (λ rest. end_at rest >>= λ e. Ok (z, e.1))
whole_end z = record {
  found = λ rest y same left.
      let last = end_found rest left in
      (last.0, ap (λ r. r >>= λ e. Ok (z, e.1)) last.1 ∙ ap (λ v. Ok (v, last.0)) (sym same));
  shown = λ rest y after some.
      let last = bind_ok (end_at rest) (λ e. Ok (z, e.1)) (y, after) some in (
        sym (ap (λ p. p.0) (ok_same (z, last.0.1) (y, after) last.2)),
        end_shown rest last.0.0 last.0.1 last.1,
      );
}

-- ---- parts one after another: `show` gives the first part's value from the whole value

-- where a part and what is read behind it gave a value, the part stood in front
then_shown : {X Z : Type 0} {IsX : X → Type 0} {IsZ : X → Z → Type 0} {text_x : X → List ℕ}
    {read_x : Rest → Result (X × Rest) ℕ} (read_z : X → Rest → Result (Z × Rest) ℕ) (show : Z → X)
    → IsPart IsX text_x read_x → ((x : X) (z : Z) → IsZ x z → show z ≡ x)
    → (behind : X → List ℕ) (z : Z) (end : Rest)
    → ((x : X) → IsX x → (middle : Rest) → read_z x middle ≡ Ok (z, end)
    → IsZ x z × (middle.left ≡ behind x))
    → (rest : Rest) → (read_x rest >>= λ p. read_z p.0 p.1) ≡ Ok (z, end)
    → (IsX (show z) × IsZ (show z) z) × (rest.left ≡ text_x (show z) ++ behind (show z))
then_shown {X} {Z} {IsX} {IsZ} {text_x} {read_x} read_z show part shows behind z end told rest
    some =
    let first = bind_ok (read_x rest) (λ p. read_z p.0 p.1) (z, end) some in
    let is = part.shown rest first.0.0 first.0.1 first.1 in
    let next = told first.0.0 is.0 first.0.1 first.2 in
    let P : X → Type 0 = λ x. (IsX x × IsZ x z) × (rest.left ≡ text_x x ++ behind x) in
    subst P (sym (shows first.0.0 z next.0))
    ((is.0, next.0), is.1 ∙ ap (λ more. text_x first.0.0 ++ more) next.1)

module _ {X Z : Type 0} {IsX : X → Type 0} {IsZ : X → Z → Type 0} {text_x : X → List ℕ} {text_z : X → Z → List ℕ} {read_x : Rest → Result (X × Rest) ℕ} {read_z : X → Rest → Result (Z × Rest) ℕ} (show : Z → X) (part : IsPart IsX text_x read_x) where
  pub whole_then : ((x : X) → IsX x → IsWhole (IsZ x) (text_z x) (read_z x))
      → ((x : X) (z : Z) → IsZ x z → show z ≡ x)
      → IsWhole (λ z. IsX (show z) × IsZ (show z) z) (λ z. text_x (show z) ++ text_z (show z) z)
      (λ rest. read_x rest >>= λ p. read_z p.0 p.1)
  whole_then after shows = record {
    found = λ rest z is left.
        let first = part.found rest (show z) (text_z (show z) z) is.0 left in
        let next = (after (show z) is.0).found
        (record { taken = first.0; left = text_z (show z) z }) z is.1 refl in
        (next.0, ap (λ r. r >>= λ p. read_z p.0 p.1) first.1 ∙ next.1);
    shown = λ rest z end. then_shown read_z show part shows (λ x. text_z x z) z end
        (λ x is middle. (after x is).shown middle z end) rest;
  }

  pub part_then : ((x : X) → IsX x → IsPart (IsZ x) (text_z x) (read_z x))
      → ((x : X) (z : Z) → IsZ x z → show z ≡ x)
      → IsPart (λ z. IsX (show z) × IsZ (show z) z) (λ z. text_x (show z) ++ text_z (show z) z)
      (λ rest. read_x rest >>= λ p. read_z p.0 p.1)
  part_then after shows = record {
    found = λ rest z more is left.
        let first = part.found rest (show z) (text_z (show z) z ++ more) is.0
        (left ∙ append_assoc (text_x (show z)) (text_z (show z) z) more) in
        let next = (after (show z) is.0).found
        (record { taken = first.0; left = text_z (show z) z ++ more }) z more is.1 refl in
        (next.0, ap (λ r. r >>= λ p. read_z p.0 p.1) first.1 ∙ next.1);
    shown = λ rest z end some.
        let all = then_shown read_z show part shows (λ x. text_z x z ++ end.left) z end
        (λ x is middle. (after x is).shown middle z end) rest some in
        (all.0, all.1 ∙ sym (append_assoc (text_x (show z)) (text_z (show z) z) end.left));
  }

-- the value where its parts were read
pub part_done : {Z : Type 0} (z : Z) → IsPart (λ y. y ≡ z) (λ _. []) (λ rest. Ok (z, rest))
part_done z = record {
  found = λ rest y more same left. (rest.taken, rw (same, ← left) refl);
  shown = λ rest y after some. let pair = ok_same (z, rest) (y, after) some in
      (sym (ap (λ p. p.0) pair), ap (λ p. p.1.left) pair);
}

-- ---- so many parts one after another

many_found : {X : Type 0} {IsValue : List X → X → Type 0} {text : X → List ℕ}
    {read : List X → Rest → Result (X × Rest) ℕ}
    → ((before : List X) → IsPart (IsValue before) text (read before))
    → (before xs : List X) (rest : Rest) (more : List ℕ) → EachAfter IsValue before xs
    → rest.left ≡ flat_map text xs ++ more
    → (taken : ℕ) × (many_onto before (length xs) read rest
    ≡ Ok (before ++ xs, record { taken = taken; left = more }))
unfolding many_onto
many_found {read = read} part before [] rest more all left =
    (rest.taken, rw (append-nil before, ← left) refl)
many_found {text = text} {read = read} part before (x ∷ xs) rest more all left =
    let first = (part before).found rest x (flat_map text xs ++ more) all.0
    (left ∙ append_assoc (text x) (flat_map text xs) more) in
    let next = many_found part (before ++ x ∷ []) xs
    (record { taken = first.0; left = flat_map text xs ++ more }) more all.1 refl in (
      next.0,
      ap (λ r. r >>= λ p. many_onto (before ++ p.0 ∷ []) (length xs) read p.1) first.1
          ∙ next.1 ∙ ap (λ ys. Ok (ys, record { taken = next.0; left = more }))
          (append_assoc before (x ∷ []) xs),
    )

many_shown : {X : Type 0} {IsValue : List X → X → Type 0} {text : X → List ℕ}
    {read : List X → Rest → Result (X × Rest) ℕ}
    → ((before : List X) → IsPart (IsValue before) text (read before))
    → (before : List X) (count : ℕ) (rest : Rest) (ys : List X) (after : Rest)
    → many_onto before count read rest ≡ Ok (ys, after)
    → (xs : List X) × (ys ≡ before ++ xs) × (length xs ≡ count) × EachAfter IsValue before xs
    × (rest.left ≡ flat_map text xs ++ after.left)
unfolding many_onto
many_shown part before zero rest ys after some =
    let pair = ok_same (before, rest) (ys, after) some in
    ([], sym (ap (λ p. p.0) pair) ∙ sym (append-nil before), refl, tt, ap (λ p. p.1.left) pair)
many_shown {text = text} {read = read} part before (suc count) rest ys after some =
    let first = bind_ok (read before rest) (λ p. many_onto (before ++ p.0 ∷ []) count read p.1)
    (ys, after) some in
    let is = (part before).shown rest first.0.0 first.0.1 first.1 in
    let next = many_shown part (before ++ first.0.0 ∷ []) count first.0.1 ys after first.2 in (
      first.0.0 ∷ next.0,
      next.1 ∙ append_assoc before (first.0.0 ∷ []) next.0,
      ap suc next.2,
      (is.0, next.3),
      is.1 ∙ ap (λ more. text first.0.0 ++ more) next.4
          ∙ sym (append_assoc (text first.0.0) (flat_map text next.0) after.left),
    )

pub many_part : {X : Type 0} {IsValue : List X → X → Type 0} {text : X → List ℕ}
    {read : List X → Rest → Result (X × Rest) ℕ} → (count : ℕ)
    → ((before : List X) → IsPart (IsValue before) text (read before))
    → IsPart (λ xs. (length xs ≡ count) × EachAfter IsValue [] xs) (flat_map text)
    (many_at count read)
many_part {text = text} {read = read} count part = record {
  found = λ rest xs more is left. let all = many_found part [] xs rest more is.1 left in
      (all.0, ap (λ n. many_onto [] n read rest) (sym is.0) ∙ all.1);
  shown = λ rest xs after some.
      let all = many_shown part [] count rest xs after some in (
        (ap length all.1 ∙ all.2, rw (all.1) all.3),
        all.4
            ∙ ap (λ ys. flat_map text ys ++ after.left) (sym all.1),
      );
}

-- where those before don't matter, each value is right
pub each_from_all : {X : Type 0} (IsValue : X → Type 0) (before xs : List X)
    → AllByRecursion IsValue xs → EachAfter (λ _. IsValue) before xs
each_from_all IsValue before [] all = tt
each_from_all IsValue before (x ∷ xs) all =
    (all.0, each_from_all IsValue (before ++ x ∷ []) xs all.1)

pub all_from_each : {X : Type 0} (IsValue : X → Type 0) (before xs : List X)
    → EachAfter (λ _. IsValue) before xs → AllByRecursion IsValue xs
all_from_each IsValue before [] each = tt
all_from_each IsValue before (x ∷ xs) each =
    (each.0, all_from_each IsValue (before ++ x ∷ []) xs each.1)

-- one turn of a loop that reads so many
pub many_more : {X : Type 0} (before : List X) (count : ℕ)
    (read : List X → Rest → Result (X × Rest) ℕ) (rest : Rest) → 0 < count
    → many_onto before count read rest
    ≡ (read before rest >>= λ next. many_onto (before ++ next.0 ∷ []) (count - 1) read next.1)
unfolding many_onto
many_more before zero read rest some = absurd (omega arith)
many_more before (suc count) read rest some = let less : suc count - 1 ≡ count = omega arith in
    rw less refl

pub many_none : {X : Type 0} (before : List X) (count : ℕ)
    (read : List X → Rest → Result (X × Rest) ℕ) (rest : Rest) → count ≡ 0
    → many_onto before count read rest ≡ Ok (before, rest)
unfolding many_onto
many_none before count read rest none = rw none refl

-- the same form in other words
pub whole_same : {X : Type 0} {IsValue Is : X → Type 0} {text words : X → List ℕ}
    {read : Rest → Result (X × Rest) ℕ} → IsWhole IsValue text read
    → ((x : X) → IsValue x → Is x) → ((x : X) → Is x → IsValue x) → ((x : X) → text x ≡ words x)
    → IsWhole Is words read
whole_same form to from same = record {
  found = λ rest x is left. form.found rest x (from x is) (left ∙ sym (same x));
  shown = λ rest x after some. let shown = form.shown rest x after some in
      (to x shown.0, shown.1 ∙ same x);
}

pub part_same : {X : Type 0} {IsValue Is : X → Type 0} {text words : X → List ℕ}
    {read : Rest → Result (X × Rest) ℕ} → IsPart IsValue text read
    → ((x : X) → IsValue x → Is x) → ((x : X) → Is x → IsValue x) → ((x : X) → text x ≡ words x)
    → IsPart Is words read
part_same form to from same = record {
  found = λ rest x more is left. form.found rest x more (from x is)
      (left ∙ ap (λ t. t ++ more) (sym (same x)));
  shown = λ rest x after some. let shown = form.shown rest x after some in
      (to x shown.0, shown.1 ∙ ap (λ t. t ++ after.left) (same x));
}

-- a part behind a line that is this text
pub part_headed : {X : Type 0} {IsValue : X → Type 0} {text : X → List ℕ}
    {read : Rest → Result (X × Rest) ℕ} (heading : List ℕ) → is_plain heading ≡ true
    → length heading ≤ 255
    → IsPart IsValue text read
    → IsPart IsValue (λ x. line heading ++ text x)
    (λ rest. line_by (word_of heading) rest >>= λ first. read first.1)
part_headed {IsValue = IsValue} {text = text} {read = read} heading plain short part =
    part_same (
    part_then {X = Unit {0}} {IsZ = λ _ x. IsValue x} {text_z = λ _ x. text x}
    {read_z = λ _ rest. read rest} (λ x. tt)
    (line_part (fixed_line heading plain short)) (λ first _. part) (λ first x is. refl)
    )
    (λ x is. is.1) (λ x is. (tt, is)) (λ x. refl)

-- the last part of a value, which is made of it
pub part_last : {X Z : Type 0} {IsX : X → Type 0} {text_x : X → List ℕ}
    {read_x : Rest → Result (X × Rest) ℕ} → (show : Z → X) (make : X → Z)
    → ((x : X) → show (make x) ≡ x) → IsPart IsX text_x read_x
    → IsPart (λ z. IsX (show z) × (z ≡ make (show z))) (λ z. text_x (show z))
    (λ rest. read_x rest >>= λ p. Ok (make p.0, p.1))
part_last {text_x = text_x} show make back part =
    part_same (part_then {IsZ = λ x z. z ≡ make x} {text_z = λ x z. []}
    {read_z = λ x rest. Ok (make x, rest)} show part (λ x _. part_done (make x))
    (λ x z same. ap show same ∙ back x))
    (λ z is. is) (λ z is. is) (λ z. append-nil (text_x (show z)))

-- the same at the end of a file
pub whole_last : {X Z : Type 0} {IsX : X → Type 0} {text_x : X → List ℕ}
    {read_x : Rest → Result (X × Rest) ℕ} → (show : Z → X) (make : X → Z)
    → ((x : X) → show (make x) ≡ x) → IsWhole IsX text_x read_x
    → IsWhole (λ z. IsX (show z) × (z ≡ make (show z))) (λ z. text_x (show z))
    (λ rest. read_x rest >>= λ p. Ok (make p.0, p.1))
whole_last {X} {Z} {IsX} {text_x} {read_x} show make back form = record {
  found = λ rest z is left.
      let last = form.found rest (show z) is.0 left in (
        last.0,
        ap (λ r. r >>= λ p. Ok (make p.0, p.1)) last.1
            ∙ ap (λ y. Ok (y, last.0)) (sym is.1),
      );
  shown = λ rest z after some.
      let last = bind_ok (read_x rest) (λ p. Ok (make p.0, p.1)) (z, after) some in
      let is = form.shown rest last.0.0 last.0.1 last.1 in
      let P : Z → Type 0 = λ y. (IsX (show y) × (y ≡ make (show y))) × (rest.left ≡ text_x (show y))
      in
      let Q : X → Type 0 = λ x. (IsX x × (make last.0.0 ≡ make x)) × (rest.left ≡ text_x x) in
      subst P (ap (λ p. p.0) (ok_same (make last.0.0, last.0.1) (z, after) last.2))
      (subst Q (sym (back last.0.0)) ((is.0, refl), is.1));
}
