-- The form of a script: its texts and its table agree, and what it says is what its commands are.
use Rattle.std.proofs.Common.{◌≡◌, ℕ, ◌+◌, ◌≤◌, ◌==◌, ◌&&◌, nat_lt, Bool, true, false, not, if◌then◌else◌, List, [], ◌∷◌, ◌++◌, length, map, codes, Option, Some, None, option_map, Result, Ok, Err, refl, ap, sym, subst, ◌∙◌, arith, inl, inr, append_assoc}
use Rattle.std.specs.Prelude.{IsSome}
use Rattle.std.specs.List.{flat_map, join_with_byte, list_all, slice_split}
use Rattle.std.specs.Str.{bytes_eq, is_utf8}
use Rattle.std.proofs.lemmas.Bool.{and_parts, cases_Bool, eqb-true}
use Rattle.std.proofs.lemmas.Bool.Decides.{nat_tests}
use Rattle.std.proofs.lemmas.List.{nil_from_length}
use Rattle.std.proofs.lemmas.List.Folds.{list_all-append}
use Rattle.std.proofs.lemmas.List.Splits.{join_with_byte-slice_split}
use Rattle.std.proofs.lemmas.Slice.Eq.{bytes_eq-Decides}
use Rattle.vk_residue.specs.Steps.{◌>>?◌}
use Rattle.vk_lines.specs.Forms.{FaultsAllButTexts, IsPart, fault_after, fault_at, fault_from, fault_line, line, spaced}
use Rattle.vk_lines.specs.Lines.{Rest}
use Rattle.vk_lines.specs.Tokens.{fields_of, word_of}
use Rattle.vk_lines.proofs.Faults.{line_follows}
use Rattle.vk_lines.proofs.Parts.{line_part}
use Rattle.vk_lines.proofs.Words.{fixed_line, join-fields_of, split_some}
use Rattle.vk_words.specs.Commands.{command_words, house_words}
use Rattle.vk_words.specs.Orders.{HouseWords}
use Rattle.vk_words.specs.Scripts.{script_words}
use Rattle.vk_words.specs.Table.{commands, row_of}
use Rattle.vk_ceremony.specs.Scripts.{Order, Over, Script, ScriptLine, closes, heading, heading_at, line_then, order_line, over_from, pieces, script_at, script_from, script_line, with_order}
use Rattle.vk_ceremony.proofs.Writing.{not_true}
use Rattle.vk_ceremony.specs.Forms.{AreOrders, Commands, Ended, Heading, fault_by, is_apart, place_after, script_table, script_text}

-- ---- the table

if_fault : (test : Bool) (number : ℕ) (fault : Option ℕ) (said : Script) → fault ≡ said.fault
    → (if test then fault else Some number)
    ≡ (let chosen : Script = if test then said else closes (Some number) in chosen.fault)
if_fault true number fault said same = same
if_fault false number fault said same = refl

last_over : (test : Bool) (number : ℕ)
    → (if test && true then None else Some number) ≡ (if test then None else Some number)
last_over true number = refl
last_over false number = refl

last_inside : (test : Bool) (number : ℕ)
    → ◌≡◌ {A = Option ℕ} (if test && false then None else Some number) (Some number)
last_inside true number = refl
last_inside false number = refl

same_choice : (test : Bool) (fault : Option ℕ) → (if test then fault else fault) ≡ fault
same_choice true fault = refl
same_choice false fault = refl

over_faults : (script : List ℕ) (taken : ℕ) (ps : List (List ℕ))
    → fault_from (script_table script) Ended taken ps ≡ over_from taken ps
over_faults script taken [] = refl
over_faults script taken (last ∷ []) = last_over (length last == 0) (taken + 1)
over_faults script taken (text ∷ piece ∷ more) =
    same_choice (nat_lt (length text) 256) (Some (taken + 1))

said_faults : (script : List ℕ) (number : ℕ) (said : Option ScriptLine) (ps : List (List ℕ))
    → fault_from (script_table script) Commands number ps ≡ (script_from script number ps).fault
    → fault_after number (λ after. fault_from (script_table script) after number ps)
    (option_map place_after said)
    ≡ (line_then said number (script_from script number ps) (over_from number ps)).fault
said_faults script number None ps later = refl
said_faults script number (Some (Order order)) ps later = later
said_faults script number (Some Over) ps later = over_faults script number ps

line_faults : (script : List ℕ) (taken : ℕ) (ps : List (List ℕ))
    → fault_from (script_table script) Commands taken ps ≡ (script_from script taken ps).fault
line_faults script taken [] = refl
line_faults script taken (last ∷ []) = last_inside (length last == 0) (taken + 1)
line_faults script taken (text ∷ piece ∷ more) =
    if_fault (nat_lt (length text) 256) (taken + 1) _ _
    (said_faults script (taken + 1) (script_line script text) (piece ∷ more)
    (line_faults script (taken + 1) (piece ∷ more)))

commands_fault : (script : List ℕ) (rest : Rest)
    → fault_at (script_table script) Commands rest ≡ (script_at script rest).fault
unfolding fault_at script_at
commands_fault script rest = line_faults script rest.taken (pieces rest.left)

first_fault : (script : List ℕ) (start : Rest) (read : Result (Unit × Rest) ℕ)
    → heading_at start ≡ read
    → fault_at (script_table script) Heading start ≡ fault_by script read
first_fault script start (Ok read) is =
    (line_follows (script_table script) Heading (word_of heading) (λ _. Commands) (λ text. refl)
    refl).ok start read.0 read.1 is ∙ commands_fault script read.1
first_fault script start (Err number) is =
    (line_follows (script_table script) Heading (word_of heading) (λ _. Commands) (λ text. refl)
    refl).err start number is

-- reading a script stops at its fault line
pub script_fault : (script bytes : List ℕ)
    → fault_line (script_table script) bytes
    ≡ fault_by script (heading_at (record { taken = 0; left = bytes }))
script_fault script bytes = first_fault script (record { taken = 0; left = bytes }) _ refl

-- ---- words between spaces, and lines between line feeds

-- no such byte in a text
abbrev lacks : ℕ → List ℕ → Bool
lacks mark text = list_all (λ byte. not (byte == mark)) text

split_one : (mark : ℕ) (text : List ℕ) → lacks mark text ≡ true
    → slice_split (λ byte. byte == mark) text ≡ text ∷ []
split_one mark [] none = refl
split_one mark (b ∷ text) none =
    let parts = and_parts (not (b == mark)) (lacks mark text) none in
    let other : (b == mark) ≡ false = not_true (b == mark) parts.0 in
    rw (other, split_one mark text parts.1) refl

split_more : (mark : ℕ) (text more : List ℕ) → lacks mark text ≡ true
    → slice_split (λ byte. byte == mark) (text ++ mark ∷ more)
    ≡ text ∷ slice_split (λ byte. byte == mark) more
split_more mark [] more none = let same : (mark == mark) ≡ true = grind (arith, nat_tests) in
    rw same refl
split_more mark (b ∷ text) more none =
    let parts = and_parts (not (b == mark)) (lacks mark text) none in
    let other : (b == mark) ≡ false = not_true (b == mark) parts.0 in
    rw (other, split_more mark text more parts.1) refl

-- a word lacks both
apart_parts : (word : List ℕ) → is_apart word ≡ true → (lacks 32 word ≡ true)
    × (lacks 10 word ≡ true)
apart_parts [] apart = (refl, refl)
apart_parts (b ∷ word) apart =
    let parts = and_parts (not (b == 32) && not (b == 10)) (is_apart word) apart in
    let both = and_parts (not (b == 32)) (not (b == 10)) parts.0 in
    let later = apart_parts word parts.1 in
    (rw (both.0, later.0) refl, rw (both.1, later.1) refl)

-- the fields of words are these words, and no line feed stands among them
fields_of_words : (first : List ℕ) (words : List (List ℕ))
    → list_all is_apart (first ∷ words) ≡ true → fields_of (spaced (first ∷ words)) ≡ first ∷ words
fields_of_words first [] apart =
    split_one 32 first (apart_parts first (and_parts (is_apart first) true apart).0).0
fields_of_words first (second ∷ words) apart =
    let parts = and_parts (is_apart first) (list_all is_apart (second ∷ words)) apart in
    split_more 32 first (spaced (second ∷ words)) (apart_parts first parts.0).0
    ∙ ap (λ fields. first ∷ fields) (fields_of_words second words parts.1)

lacks_append : (mark : ℕ) (xs ys : List ℕ) → lacks mark xs ≡ true → lacks mark ys ≡ true
    → lacks mark (xs ++ ys) ≡ true
lacks_append mark xs ys first second = list_all-append (λ byte. not (byte == mark)) xs ys
    ∙ rw (first, second) refl

line_of_words : (words : List (List ℕ)) → list_all is_apart words ≡ true
    → lacks 10 (spaced words) ≡ true
line_of_words [] apart = refl
line_of_words (first ∷ []) apart = (apart_parts first (and_parts (is_apart first) true apart).0).1
line_of_words (first ∷ second ∷ words) apart =
    let parts = and_parts (is_apart first) (list_all is_apart (second ∷ words)) apart in
    lacks_append 10 first (32 ∷ spaced (second ∷ words)) (apart_parts first parts.0).1
    (line_of_words (second ∷ words) parts.1)

-- the pieces between marks lack the mark
pieces_lack : (mark : ℕ) (text : List ℕ)
    → list_all (lacks mark) (slice_split (λ byte. byte == mark) text) ≡ true
pieces_lack mark [] = refl
pieces_lack mark (b ∷ text) =
    elim (cases_Bool (b == mark)) [
      | inl cut ↦ rw (cut, pieces_lack mark text) refl
      | inr other ↦
          let some = split_some mark text in
          let later : list_all (lacks mark) (some.0 ∷ some.1) ≡ true =
          ap (list_all (lacks mark)) (sym some.2) ∙ pieces_lack mark text in
          let parts = and_parts (lacks mark some.0) (list_all (lacks mark) some.1) later in
          rw (other, some.2, other, parts.0, parts.1) refl
    ]

-- and the fields of a line are words
fields_apart : (text : List ℕ) → lacks 10 text ≡ true → list_all is_apart (fields_of text) ≡ true
fields_apart [] none = refl
fields_apart (b ∷ text) none =
    let feed = and_parts (not (b == 10)) (lacks 10 text) none in
    elim (cases_Bool (b == 32)) [
      | inl cut ↦ rw (cut, fields_apart text feed.1) refl
      | inr other ↦
          let some = split_some 32 text in
          let later : list_all is_apart (some.0 ∷ some.1) ≡ true =
          ap (list_all is_apart) (sym some.2) ∙ fields_apart text feed.1 in
          let parts = and_parts (is_apart some.0) (list_all is_apart some.1) later in
          rw (other, some.2, other, feed.0, parts.0, parts.1) refl
    ]

-- ---- a line that is a command

no_words : (script : List ℕ) → script_words script [] ≡ None
unfolding script_words house_words command_words row_of commands
no_words script = refl

end_word : (script : List ℕ) → script_words script (codes "end" ∷ []) ≡ None
unfolding script_words house_words command_words row_of commands
end_word script = refl

some_is : {X : Type 0} (o : Option X) → IsSome o → (x : X) × (o ≡ Some x)
some_is (Some x) some = (x, refl)
some_is None some = cc

-- there is a first word
first_of : (script : List ℕ) (words : List (List ℕ)) (order : HouseWords)
    → script_words script words ≡ Some order → (first : List ℕ) × (more : List (List ℕ))
    × (words ≡ first ∷ more)
first_of script [] order is = (let none : None ≡ Some order = sym (no_words script) ∙ is in cc)
first_of script (first ∷ more) order is = (first, more, refl)

fields_are : (script : List ℕ) (words : List (List ℕ)) (order : HouseWords)
    → script_words script words ≡ Some order → list_all is_apart words ≡ true
    → fields_of (spaced words) ≡ words
fields_are script words order is apart =
    let some = first_of script words order is in
    let here : list_all is_apart (some.0 ∷ some.1) ≡ true = ap (list_all is_apart) (sym some.2)
    ∙ apart in
    ap (λ ws. fields_of (spaced ws)) some.2 ∙ fields_of_words some.0 some.1 here ∙ sym some.2

-- it isn't the line `end`
not_the_end : (script : List ℕ) (words : List (List ℕ)) (order : HouseWords) (test : Bool)
    → bytes_eq (spaced words) (codes "end") ≡ test → script_words script words ≡ Some order
    → list_all is_apart words ≡ true → test ≡ false
not_the_end script words order true is order_is apart =
    let same : spaced words ≡ codes "end" = (bytes_eq-Decides (spaced words) (codes "end")).0 is in
    let fields : words ≡ codes "end" ∷ [] = sym (fields_are script words order order_is apart)
    ∙ ap fields_of same in
    let none : None ≡ Some order = sym (end_word script) ∙ ap (script_words script) (sym fields)
    ∙ order_is in
    cc
not_the_end script words order false is order_is apart = refl

-- the line of words that are a command says that command
order_says : (script : List ℕ) (words : List (List ℕ)) (order : HouseWords)
    → script_words script words ≡ Some order → list_all is_apart words ≡ true
    → is_utf8 (spaced words) ≡ true
    → script_line script (spaced words) ≡ Some (Order order)
order_says script words order is apart utf8 =
    let other : bytes_eq (spaced words) (codes "end") ≡ false =
    not_the_end script words order (bytes_eq (spaced words) (codes "end")) refl is apart in
    rw (other, utf8) (ap (λ ws. option_map Order (script_words script ws))
    (fields_are script words order is apart) ∙ ap (option_map Order) is)

-- ---- the text of commands

abbrev body : List (List (List ℕ)) → List ℕ
body orders = flat_map (λ words. line (spaced words)) orders ++ line (codes "end")

small_is : (n : ℕ) → n ≤ 255 → nat_lt n 256 ≡ true
small_is n small = grind (arith, nat_tests)

-- what is said by the pieces of a text of a line and more
line_pieces : (script : List ℕ) (taken : ℕ) (text more : List ℕ) → lacks 10 text ≡ true
    → length text ≤ 255
    → script_from script taken (pieces (line text ++ more))
    ≡ line_then (script_line script text) (taken + 1) (script_from script (taken + 1) (pieces more))
    (over_from (taken + 1) (pieces more))
line_pieces script taken text more plain short =
    let some = split_some 10 more in
    let cut : pieces (line text ++ more) ≡ text ∷ some.0 ∷ some.1 =
    ap pieces (append_assoc text (10 ∷ []) more) ∙ split_more 10 text more plain
    ∙ ap (λ ps. text ∷ ps) some.2 in
    ap (script_from script taken) cut
    ∙ rw (small_is (length text) short) refl
    ∙ ap (λ ps. line_then (script_line script text) (taken + 1) (script_from script (taken + 1) ps)
    (over_from (taken + 1) ps)) (sym some.2)

-- the script says these commands, and has no fault
abbrev Says : List ℕ → List (List (List ℕ)) → Script → Type 0
Says script orders said = (said.fault ≡ None)
    × (map Some said.orders ≡ map (script_words script) orders)

cons_same : {X : Type 0} (x y : X) (xs ys : List X) → x ≡ y → xs ≡ ys → x ∷ xs ≡ y ∷ ys
cons_same x y xs ys first more = cc

text_says : (script : List ℕ) (orders : List (List (List ℕ))) (taken : ℕ) → AreOrders script orders
    → Says script orders (script_from script taken (pieces (body orders)))
text_says script [] taken are = (refl, refl)
text_says script (words ∷ orders) taken are =
    let order = some_is (script_words script words) are.0.order in
    let later = text_says script orders (taken + 1) are.1 in
    let here : script_from script taken (pieces (body (words ∷ orders)))
    ≡ with_order order.0 (script_from script (taken + 1) (pieces (body orders))) =
    ap (λ text. script_from script taken (pieces text))
    (append_assoc (line (spaced words)) (flat_map (λ ws. line (spaced ws)) orders)
    (line (codes "end")))
    ∙ line_pieces script taken (spaced words) (body orders) (line_of_words words are.0.apart)
    are.0.short
    ∙ ap (λ said. line_then said (taken + 1) (script_from script (taken + 1) (pieces (body orders)))
    (over_from (taken + 1) (pieces (body orders))))
    (order_says script words order.0 order.1 are.0.apart are.0.utf8) in
    subst (Says script (words ∷ orders)) (sym here)
    (later.0, cons_same (Some order.0) (script_words script words) _ _ (sym order.1) later.1)

pub body_says : (script : List ℕ) (orders : List (List (List ℕ))) (rest : Rest)
    → AreOrders script orders → rest.left ≡ body orders
    → ((script_at script rest).fault ≡ None)
    × (map Some (script_at script rest).orders ≡ map (script_words script) orders)
unfolding script_at
body_says script orders rest are left =
    subst (λ text. Says script orders (script_from script rest.taken (pieces text))) (sym left)
    (text_says script orders rest.taken are)

-- ---- from no fault to the text

if_none : (test : Bool) (number : ℕ) (said : Script)
    → (let chosen : Script = if test then said else closes (Some number) in chosen.fault) ≡ None
    → (test ≡ true) × (said.fault ≡ None)
if_none true number said none = (refl, none)
if_none false number said none = cc

utf8_line : (script text : List ℕ) (test : Bool) (order : HouseWords) → is_utf8 text ≡ test
    → ((if test then Some (fields_of text) else None) >>? script_words script) ≡ Some order
    → (is_utf8 text ≡ true) × (script_words script (fields_of text) ≡ Some order)
utf8_line script text true order utf8 is = (utf8, is)
utf8_line script text false order utf8 is = cc

order_of : {X Y : Type 0} (f : X → Y) (o : Option X) (y : Y) → option_map f o ≡ Some y
    → (x : X) × (o ≡ Some x) × (f x ≡ y)
order_of f (Some x) y is = (x, refl, cc)
order_of f None y is = cc

same_order : (x y : HouseWords) → Order x ≡ Order y → x ≡ y
same_order x y same = cc

order_by : (script text : List ℕ) (test : Bool) (order : HouseWords)
    → (if test then Some Over else option_map Order (order_line script text)) ≡ Some (Order order)
    → order_line script text ≡ Some order
order_by script text true order is = cc
order_by script text false order is =
    (let found = order_of Order (order_line script text) (Order order) is in
    found.1 ∙ ap Some (same_order found.0 order found.2))

over_by : (script text : List ℕ) (test : Bool) → bytes_eq text (codes "end") ≡ test
    → (if test then Some Over else option_map Order (order_line script text)) ≡ Some Over
    → text ≡ codes "end"
over_by script text true equal is = (bytes_eq-Decides text (codes "end")).0 equal
over_by script text false equal is =
    (let found = order_of Order (order_line script text) Over is in cc found.2)

none_behind : (taken : ℕ) (test : Bool)
    → ◌≡◌ {A = Option ℕ} (if test then None else Some taken) None → test ≡ true
none_behind taken true none = refl
none_behind taken false none = cc

over_none : (taken : ℕ) (ps : List (List ℕ)) → over_from taken ps ≡ None → ps ≡ [] ∷ []
over_none taken [] none = cc
over_none taken (last ∷ []) none =
    ap (λ piece. piece ∷ []) (nil_from_length last
    (eqb-true (length last) 0 (none_behind (taken + 1) (length last == 0) none)))
over_none taken (text ∷ piece ∷ more) none = cc

-- the pieces are those of a text of commands
abbrev IsBody : List ℕ → List ℕ → Type 0
IsBody script left = (orders : List (List (List ℕ))) × AreOrders script orders
    × (left ≡ body orders)

short_is : (n : ℕ) → nat_lt n 256 ≡ true → n ≤ 255
short_is n small = grind (arith, nat_tests)

-- a line that is a command, and then others
order_body : (script text more : List ℕ) (order : HouseWords)
    → script_line script text ≡ Some (Order order) → lacks 10 text ≡ true
    → nat_lt (length text) 256 ≡ true → IsBody script more → IsBody script (text ++ 10 ∷ more)
order_body script text more order is plain short later =
    let line_is = utf8_line script text (is_utf8 text) order refl
    (order_by script text (bytes_eq text (codes "end")) order is) in
    let words : List (List ℕ) = fields_of text in
    let same : spaced words ≡ text = join-fields_of text in
    let fits : length text ≤ 255 = short_is (length text) short in (
      words ∷ later.0,
      (
        record {
          order = rw line_is.1 refl;
          apart = fields_apart text plain;
          utf8 = ap is_utf8 same
              ∙ line_is.0;
          short = rw same fits;
        },
        later.1,
      ),
      ap (λ left. text ++ 10 ∷ left) later.2
          ∙ sym (append_assoc text (10 ∷ []) (body later.0))
          ∙ ap (λ t. line t ++ body later.0) (sym same)
          ∙ sym (append_assoc (line (spaced words)) (flat_map (λ ws. line (spaced ws)) later.0)
          (line (codes "end"))),
    )

said_body : (script : List ℕ) (taken : ℕ) (text : List ℕ) (ps : List (List ℕ))
    (said : Option ScriptLine) → script_line script text ≡ said → lacks 10 text ≡ true
    → nat_lt (length text) 256 ≡ true
    → (line_then said (taken + 1) (script_from script (taken + 1) ps)
    (over_from (taken + 1) ps)).fault ≡ None
    → ((script_from script (taken + 1) ps).fault ≡ None → IsBody script (join_with_byte 10 ps))
    → IsBody script (text ++ 10 ∷ join_with_byte 10 ps)
said_body script taken text ps None is plain short none later = cc
said_body script taken text ps (Some (Order order)) is plain short none later =
    order_body script text (join_with_byte 10 ps) order is plain short (later none)
said_body script taken text ps (Some Over) is plain short none later = (
  [],
  tt,
  ap (λ pieces. text ++ 10 ∷ join_with_byte 10 pieces) (over_none (taken + 1) ps none)
      ∙ ap line (over_by script text (bytes_eq text (codes "end")) refl is),
)

none_body : (script : List ℕ) (taken : ℕ) (ps : List (List ℕ)) → list_all (lacks 10) ps ≡ true
    → (script_from script taken ps).fault ≡ None → IsBody script (join_with_byte 10 ps)
none_body script taken [] plain none = cc
none_body script taken (last ∷ []) plain none = cc
none_body script taken (text ∷ piece ∷ more) plain none =
    let parts = and_parts (lacks 10 text) (list_all (lacks 10) (piece ∷ more)) plain in
    let chosen = if_none (nat_lt (length text) 256) (taken + 1)
    (line_then (script_line script text) (taken + 1)
    (script_from script (taken + 1) (piece ∷ more)) (over_from (taken + 1) (piece ∷ more))) none
    in
    said_body script taken text (piece ∷ more) (script_line script text) refl parts.0 chosen.0
    chosen.1 (λ later. none_body script (taken + 1) (piece ∷ more) parts.1 later)

rest_body : (script : List ℕ) (rest : Rest) → (script_at script rest).fault ≡ None
    → IsBody script rest.left
unfolding script_at
rest_body script rest none =
    subst (IsBody script) (join_with_byte-slice_split 10 rest.left)
    (none_body script rest.taken (pieces rest.left) (pieces_lack 10 rest.left) none)

-- ---- whole scripts

heading_part : IsPart {X = Unit {0}} (λ _. Unit {0}) (λ _. line heading) heading_at
heading_part = line_part (fixed_line heading refl (omega arith))

text_of_none : (script : List ℕ) (start : Rest) (read : Result (Unit × Rest) ℕ)
    → heading_at start ≡ read → fault_by script read ≡ None
    → (orders : List (List (List ℕ))) × AreOrders script orders × (start.left ≡ script_text orders)
unfolding script_text
text_of_none script start (Err number) is none = cc
text_of_none script start (Ok read) is none =
    let left = (heading_part.shown start read.0 read.1 is).1 in
    let found = rest_body script read.1 none in
    (found.0, found.1, left ∙ ap (λ more. line heading ++ more) found.2)

none_of_text : (script : List ℕ) (start : Rest) (orders : List (List (List ℕ)))
    → AreOrders script orders → start.left ≡ script_text orders
    → fault_by script (heading_at start) ≡ None
unfolding script_text
none_of_text script start orders are left =
    let found = heading_part.found start tt (body orders) tt left in
    ap (fault_by script) found.1
    ∙ (body_says script orders (record { taken = found.0; left = body orders }) are refl).0

-- a file has no fault line exactly where it is the text of such commands
pub scripts_agree : (script : List ℕ)
    → FaultsAllButTexts (AreOrders script) script_text (script_table script)
scripts_agree script bytes =
    let start : Rest = record { taken = 0; left = bytes } in (
      λ none. text_of_none script start (heading_at start) refl
          (sym (script_fault script bytes) ∙ none),
      λ given. script_fault script bytes ∙ none_of_text script start given.0 given.1 given.2,
    )

-- and what is said behind the first line of that text is these commands
pub script_says : (script : List ℕ) (orders : List (List (List ℕ))) (start : Rest)
    → AreOrders script orders → start.left ≡ script_text orders
    → (rest : Rest) × (heading_at start ≡ Ok (tt, rest))
    × ((script_at script rest).fault ≡ None)
    × (map Some (script_at script rest).orders ≡ map (script_words script) orders)
unfolding script_text
script_says script orders start are left =
    let found = heading_part.found start tt (body orders) tt left in
    let says = body_says script orders (record { taken = found.0; left = body orders }) are refl in
    (record { taken = found.0; left = body orders }, found.1, says.0, says.1)
