-- Fronts are read from their texts alone, and refused for what fails first.
use Rattle.std.proofs.Common.{◌≡◌, ◌≢◌, ℕ, Bool, true, false, if◌then◌else◌, List, ◌++◌, Option, Some, None, Result, Ok, Err, refl, ap, sym, ◌∙◌, append_assoc}
use Rattle.std.specs.List.{flat_map}
use Rattle.std.proofs.lemmas.Option.{same_Some}
use Rattle.vk_residue.specs.Steps.{◌>>=◌}
use Rattle.vk_lines.specs.Lines.{Rest}
use Rattle.vk_lines.specs.Forms.{fault_line}
use Rattle.vk_board.specs.declared.board.Head.{Head}
use Rattle.vk_board.specs.declared.board.SealLines.{SealLines}
use Rattle.vk_board.specs.declared.front.Front.{Front}
use Rattle.vk_board.specs.Values.{Shape, frame_of}
use Rattle.vk_board.specs.Texts.{head_text, seal_lines_text}
use Rattle.vk_board.specs.Tables.{head_table, board_table}
use Rattle.vk_board.specs.Reading.{head_at, seals_at}
use Rattle.vk_board.specs.Published.{price_stands, placed}
use Rattle.vk_board.specs.Fronts.{PriceStands, FrontFault, Malformed, Price, Winner, front_placed, front_of, front_at, FrontsAreRead, Begins, PriceFails, WinnerFails, LineFails, FrontsAreRefused}
use Rattle.vk_board.proofs.Forms.{head_is_part, seals_are_part}
use Rattle.vk_board.proofs.Faults.{head_follows, seals_follow}
use Rattle.vk_board.proofs.Prices.{price_shown, price_found}
use Rattle.vk_board.proofs.Winners.{winner_found, none_shown, none_found}
use Rattle.vk_board.proofs.Fronts.{front_right, front_at_shown, front_at_found}

-- ---- a head and seals

-- a head and seals that were read, up to what is left
record AreRead (rest : Rest) (head : Head) (seals : List SealLines) (after : Rest) : Type 0 where
  pub middle : Rest
  pub head_read : head_at rest ≡ Ok (head, middle)
  pub seals_read : seals_at head middle ≡ Ok (seals, after)

abbrev text_shown : (rest : Rest) (head : Head) (seals : List SealLines) (after : Rest)
    → AreRead rest head seals after → Begins rest.left head seals
text_shown rest head seals after read =
    let is = head_is_part.shown rest head read.middle read.head_read in
    let are = (seals_are_part head).shown read.middle seals after read.seals_read in
    record {
      is_head = is.0;
      are_seals = are.0;
      more = after.left;
      text = is.1 ∙ ap (λ left. head_text head ++ left) are.1;
    }

text_found : (rest : Rest) (head : Head) (seals : List SealLines)
    (begins : Begins rest.left head seals)
    → (taken : ℕ) × AreRead rest head seals (record { taken = taken; left = begins.more })
text_found rest head seals begins =
    let is = head_is_part.found rest head (flat_map seal_lines_text seals ++ begins.more)
    begins.is_head begins.text in
    let middle : Rest = record {
      taken = is.0;
      left = flat_map seal_lines_text seals ++ begins.more;
    } in
    let are = (seals_are_part head).found middle seals begins.more begins.are_seals refl in
    (are.0, record { middle = middle; head_read = is.1; seals_read = are.1 })

pub fronts_read : FrontsAreRead
fronts_read = record {
  found = λ rest front more is text.
      let read = text_found rest front.head front.seals (record {
        is_head = is.head;
        are_seals = is.seals;
        more = more;
        text = text ∙ append_assoc (head_text front.head) (flat_map seal_lines_text front.seals)
            more;
      }) in (
        read.0,
        front_at_found rest front (record { taken = read.0; left = more }) (record {
          middle = read.1.middle;
          head_read = read.1.head_read;
          seals_read = read.1.seals_read;
          price = price_found front.head is.price;
          winner = winner_found front.head front.seals front.head.winner front.position is.seals
              is.winner;
        }),
      );
  shown = λ rest front after ok.
      let read = front_at_shown rest front after ok in
      let begins = text_shown rest front.head front.seals after
      (record {
        middle = read.middle;
        head_read = read.head_read;
        seals_read = read.seals_read;
      }) in (
        front_right front.head front.seals front.position begins.is_head begins.are_seals read.price
            read.winner,
        begins.text ∙ sym (append_assoc (head_text front.head)
            (flat_map seal_lines_text front.seals) after.left),
      );
}

-- ---- how far the lines are read

data Way (rest : Rest) : Type 0 where
  NoHead : (line : ℕ) → head_at rest ≡ Err line → Way rest
  NoSeals : (head : Head) (middle : Rest) (line : ℕ) → head_at rest ≡ Ok (head, middle)
      → seals_at head middle ≡ Err line → Way rest
  Both : (head : Head) (seals : List SealLines) (after : Rest) → AreRead rest head seals after
      → Way rest

seals_way : (rest : Rest) (head : Head) (middle : Rest) → head_at rest ≡ Ok (head, middle)
    → (r : Result (List SealLines × Rest) ℕ) → seals_at head middle ≡ r → Way rest
seals_way rest head middle is (Ok p) are =
    Both head p.0 p.1 (record { middle = middle; head_read = is; seals_read = are })
seals_way rest head middle is (Err line) are = NoSeals head middle line is are

head_way : (rest : Rest) (r : Result (Head × Rest) ℕ) → head_at rest ≡ r → Way rest
head_way rest (Ok p) is = seals_way rest p.0 p.1 is (seals_at p.0 p.1) refl
head_way rest (Err line) is = NoHead line is

way : (rest : Rest) → Way rest
way rest = head_way rest (head_at rest) refl

-- what is answered in each
at_head : (rest : Rest) (line : ℕ) → head_at rest ≡ Err line → front_at rest ≡ Err (Malformed line)
unfolding front_at
at_head rest line stop = rw stop refl

at_seals : (rest : Rest) (head : Head) (middle : Rest) (line : ℕ) → head_at rest ≡ Ok (head, middle)
    → seals_at head middle ≡ Err line → front_at rest ≡ Err (Malformed line)
unfolding front_at
at_seals rest head middle line is stop = rw (is, stop) refl

-- by the two tests
abbrev tested : Head → List SealLines → Rest → Bool → Option (Option ℕ)
    → Result (Front × Rest) FrontFault
tested head seals after stands place =
    (if stands then front_placed head seals place else Err Price) >>= λ front. Ok (front, after)

at_tests : (rest : Rest) (head : Head) (seals : List SealLines) (after : Rest)
    → AreRead rest head seals after
    → front_at rest ≡ tested head seals after (price_stands head) (placed head.winner seals)
unfolding front_at front_of
at_tests rest head seals after read = rw (read.head_read, read.seals_read) refl

-- ---- the fault line

line_same : (m n : ℕ) → ◌≡◌ {A = Result (Front × Rest) FrontFault} (Err (Malformed m))
    (Err (Malformed n)) → m ≡ n
line_same m n same = cc

no_line : (head : Head) (seals : List SealLines) (after : Rest) (stands : Bool)
    (place : Option (Option ℕ)) (number : ℕ)
    → tested head seals after stands place ≡ Err (Malformed number) → ⊥
no_line head seals after true (Some position) number is = cc
no_line head seals after true None number is = cc
no_line head seals after false place number is = cc

line_by_way : (shape : Head → Shape) (bytes : List ℕ) (number : ℕ)
    → Way (record { taken = 0; left = bytes })
    → front_at (record { taken = 0; left = bytes }) ≡ Err (Malformed number)
    → fault_line (board_table shape) bytes ≡ Some number
line_by_way shape bytes number (NoHead line stop) refused =
    let start : Rest = record { taken = 0; left = bytes } in
    (head_follows shape).err start line stop
    ∙ ap Some (line_same line number (sym (at_head start line stop) ∙ refused))
line_by_way shape bytes number (NoSeals head middle line is stop) refused =
    let start : Rest = record { taken = 0; left = bytes } in
    (head_follows shape).ok start head middle is
    ∙ (seals_follow (head_table shape) (frame_of shape head)).err middle line stop
    ∙ ap Some (line_same line number (sym (at_seals start head middle line is stop) ∙ refused))
line_by_way shape bytes number (Both head seals after read) refused =
    absurd (no_line head seals after (price_stands head) (placed head.winner seals) number
    (sym (at_tests (record { taken = 0; left = bytes }) head seals after read) ∙ refused))

line_shown : (shape : Head → Shape) (bytes : List ℕ) (number : ℕ)
    → front_at (record { taken = 0; left = bytes }) ≡ Err (Malformed number)
    → LineFails shape bytes number
line_shown shape bytes number refused =
    let start : Rest = record { taken = 0; left = bytes } in
    record {
      line = line_by_way shape bytes number (way start) refused;
      before = λ head seals begins.
          let read = text_found start head seals begins in
          let after : Rest = record { taken = read.0; left = begins.more } in
          no_line head seals after (price_stands head) (placed head.winner seals) number
          (sym (at_tests start head seals after read.1) ∙ refused);
    }

line_refused : (shape : Head → Shape) (bytes : List ℕ) (number : ℕ)
    → Way (record { taken = 0; left = bytes }) → LineFails shape bytes number
    → front_at (record { taken = 0; left = bytes }) ≡ Err (Malformed number)
line_refused shape bytes number (NoHead line stop) is =
    let start : Rest = record { taken = 0; left = bytes } in
    let same : line ≡ number =
    same_Some line number (sym ((head_follows shape).err start line stop) ∙ is.line) in
    at_head start line stop ∙ ap (λ n. Err (Malformed n)) same
line_refused shape bytes number (NoSeals head middle line head_is stop) is =
    let start : Rest = record { taken = 0; left = bytes } in
    let same : line ≡ number =
    same_Some line number (sym
    ((head_follows shape).ok start head middle head_is
    ∙ (seals_follow (head_table shape) (frame_of shape head)).err middle line stop) ∙ is.line)
    in
    at_seals start head middle line head_is stop ∙ ap (λ n. Err (Malformed n)) same
line_refused shape bytes number (Both head seals after read) is =
    absurd (is.before head seals
    (text_shown (record { taken = 0; left = bytes }) head seals after read))

-- ---- the price and the winner

price_by : (head : Head) (seals : List SealLines) (after : Rest) (stands : Bool)
    (place : Option (Option ℕ)) → tested head seals after stands place ≡ Err Price → stands ≡ false
price_by head seals after true (Some position) is = cc
price_by head seals after true None is = cc
price_by head seals after false place is = refl

winner_by : (head : Head) (seals : List SealLines) (after : Rest) (stands : Bool)
    (place : Option (Option ℕ)) → tested head seals after stands place ≡ Err Winner
    → (stands ≡ true) × (place ≡ None)
winner_by head seals after true (Some position) is = cc
winner_by head seals after true None is = (refl, refl)
winner_by head seals after false place is = cc

-- a test is not passed where the fact doesn't hold
fails : (head : Head) (stands : Bool) → price_stands head ≡ stands → ¬ PriceStands head
    → stands ≡ false
fails head true is other = absurd (other (price_shown head is))
fails head false is other = refl

-- what is refused for no line has a head and seals that were read, and fails one of the two tests
record IsTested (rest : Rest) (fault : FrontFault) : Type 0 where
  pub head : Head
  pub seals : List SealLines
  pub after : Rest
  pub read : AreRead rest head seals after
  pub refused : tested head seals after (price_stands head) (placed head.winner seals) ≡ Err fault

past_lines : (rest : Rest) (fault : FrontFault) → ((line : ℕ) → Malformed line ≢ fault) → Way rest
    → front_at rest ≡ Err fault → IsTested rest fault
past_lines rest fault other (NoHead line stop) refused =
    absurd (other line (let no = at_head rest line stop in cc))
past_lines rest fault other (NoSeals head middle line is stop) refused =
    absurd (other line (let no = at_seals rest head middle line is stop in cc))
past_lines rest fault other (Both head seals after read) refused = record {
  head = head;
  seals = seals;
  after = after;
  read = read;
  refused = sym (at_tests rest head seals after read) ∙ refused;
}

price_fails : (rest : Rest) → IsTested rest Price → PriceFails rest.left
price_fails rest is =
    let no = price_by is.head is.seals is.after (price_stands is.head)
    (placed is.head.winner is.seals) is.refused in
    record {
      head = is.head;
      seals = is.seals;
      begins = text_shown rest is.head is.seals is.after is.read;
      price = λ stands. let yes = price_found is.head stands in cc (yes, no);
    }

price_refused : (rest : Rest) → PriceFails rest.left → front_at rest ≡ Err Price
price_refused rest is =
    let read = text_found rest is.head is.seals is.begins in
    at_tests rest is.head is.seals (record { taken = read.0; left = is.begins.more }) read.1
    ∙ ap (λ stands. tested is.head is.seals (record { taken = read.0; left = is.begins.more })
    stands (placed is.head.winner is.seals)) (fails is.head (price_stands is.head) refl is.price)

winner_fails : (rest : Rest) → IsTested rest Winner → WinnerFails rest.left
winner_fails rest is =
    let no = winner_by is.head is.seals is.after (price_stands is.head)
    (placed is.head.winner is.seals) is.refused in
    let begins = text_shown rest is.head is.seals is.after is.read in
    let missing = none_shown is.head is.seals is.head.winner begins.are_seals no.1 in
    record {
      head = is.head;
      seals = is.seals;
      begins = begins;
      price = price_shown is.head no.0;
      seat = missing.0;
      named = missing.1;
      missing = missing.2;
    }

winner_refused : (rest : Rest) → WinnerFails rest.left → front_at rest ≡ Err Winner
winner_refused rest is =
    let read = text_found rest is.head is.seals is.begins in
    let after : Rest = record { taken = read.0; left = is.begins.more } in
    at_tests rest is.head is.seals after read.1
    ∙ ap (λ stands. tested is.head is.seals after stands (placed is.head.winner is.seals))
    (price_found is.head is.price)
    ∙ ap (λ place. tested is.head is.seals after true place)
    (none_found is.head.winner is.seat is.seals is.named is.missing)

pub fronts_refused : FrontsAreRefused
fronts_refused = record {
  line = λ shape bytes number. (
    line_shown shape bytes number,
    line_refused shape bytes number (way (record { taken = 0; left = bytes })),
  );
  price = λ rest. (
    λ refused. price_fails rest (past_lines rest Price (λ line e. absurd (cc)) (way rest) refused),
    price_refused rest,
  );
  winner = λ rest. (
    λ refused. winner_fails rest
        (past_lines rest Winner (λ line e. absurd (cc)) (way rest) refused),
    winner_refused rest,
  );
}
