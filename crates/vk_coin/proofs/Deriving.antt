-- The challenge that is derived from a board is that of its bytes, and of the text that was tested.
use Rattle.std.proofs.Common.{◌≡◌, ℕ, Bool, true, is_ok, List, ◌++◌, length, codes, append_assoc, Option, Some, None, Result, Ok, Err, IfSome, OnOk, arith, refl, ap, sym, subst, ◌∙◌}
use Rattle.std.specs.List.{flat_map}
use Rattle.sha2.specs.Hashers.{Holds256}
use Rattle.sha2.specs.Sha256.{sha256}
use Rattle.sha2.specs.declared.Sha256.{Sha256}
use Rattle.vk_residue.specs.Limits.{IsLaneCount}
use Rattle.vk_residue.specs.Steps.{◌>>=◌}
use Rattle.vk_io.specs.Files.{Files, bytes_of}
use Rattle.vk_lines.specs.Forms.{line}
use Rattle.vk_lines.specs.Lines.{LinesValue, ReadsPart, Rest, StartsIn, end_at, rest_of}
use Rattle.vk_lines.specs.declared.errors.ReadErr.{ReadErr}
use Rattle.vk_lines.proofs.Numbered.{numbered_all}
use Rattle.vk_lines.proofs.Parts.{end_shown}
use Rattle.vk_board.specs.declared.board.LaneLines.{LaneLines}
use Rattle.vk_board.specs.declared.front.Front.{Front}
use Rattle.vk_board.specs.Fronts.{IsFront, front_at, front_text}
use Rattle.vk_board.specs.Reading.{lane_lines_at}
use Rattle.vk_board.specs.Texts.{board_text, head_text, lanes_text, seal_lines_text}
use Rattle.vk_board.proofs.Forms.{lane_is_part}
use Rattle.vk_board.proofs.FrontLaws.{fronts_read}
use Rattle.vk_reply.specs.declared.challenge.Challenge.{Challenge}
use Rattle.vk_report.specs.Bits.{leading_bits}
use Rattle.vk_report.specs.Meaning.{auction_shape}
use Rattle.vk_report.specs.Reports.{report_on, report_with}
use Rattle.vk_report.specs.declared.report.Report.{Report}
use Rattle.vk_report.specs.declared.report.ReportErr.{ReportErr}
use Rattle.vk_report.proofs.BitCounts.{leading_count}
use Rattle.vk_report.proofs.Winner.{winner_is}
use Rattle.vk_coin.specs.Derived.{Hashes, HashesBoard, HashesLanes, IsOfOneText, derived_bits, derived_by, derived_in, derived_message, text_with}
use Rattle.vk_coin.proofs.Hashing.{hashes_then}

-- one bit for each lane
pub lane_bits : (lanes : ℕ) (digest : List ℕ) (bits : List Bool) → IsLaneCount lanes
    → length digest ≡ 32 → bits ≡ leading_bits lanes digest → length bits ≡ lanes
lane_bits lanes digest bits few whole is =
    ap (λ b. length b) is ∙ leading_count lanes digest whole (omega (arith, few.most))

-- ---- the text of a board

text_is : (front : Front) (lanes : List LaneLines)
    → front_text front ++ (lanes_text 1 lanes ++ line (codes "end")) ≡ text_with front lanes
unfolding board_text
text_is front lanes =
    append_assoc (head_text front.head) (flat_map seal_lines_text front.seals)
    (lanes_text 1 lanes ++ line (codes "end"))

-- the front, the lanes and the last line, hashed one after another
text_hashed : (front : Front) (lanes : List LaneLines) (first second third last : Sha256)
    → Hashes (front_text front) first second → Hashes (lanes_text 1 lanes) second third
    → Hashes (line (codes "end")) third last → Hashes (text_with front lanes) first last
text_hashed front lanes first second third last begins goes_on ends =
    subst (λ text. Hashes text first last) (text_is front lanes)
    (hashes_then (front_text front) (lanes_text 1 lanes ++ line (codes "end")) first second last
    begins
    (hashes_then (lanes_text 1 lanes) (line (codes "end")) second third last goes_on ends))

-- what is read part by part to the end of a file is the file's text
bytes_are : (front : Front) (lanes : List LaneLines) (bytes : List ℕ) (r0 r1 r2 r3 : Rest)
    (done : Unit)
    → IsFront front → r0 ≡ record { taken = 0; left = bytes } → front_at r0 ≡ Ok (front, r1)
    → lane_lines_at front.head.lanes (auction_shape front.head) r1 ≡ Ok (lanes, r2)
    → end_at r2 ≡ Ok (done, r3) → bytes ≡ text_with front lanes
bytes_are front lanes bytes r0 r1 r2 r3 done is start front_is lanes_are over =
    let shape = auction_shape front.head in
    let part = numbered_all 64 front.head.lanes is.head.size.lanes.most
    (λ lane within. lane_is_part lane shape.wires shape.rows within) in
    ap (λ rest. rest.left) (sym start)
    ∙ (fronts_read.shown r0 front r1 front_is).1
    ∙ ap (λ left. front_text front ++ left)
    ((part.shown r1 lanes r2 lanes_are).1
    ∙ ap (λ left. lanes_text 1 lanes ++ left) (end_shown r2 done r3 over))
    ∙ text_is front lanes

-- what holds of a call that came to its end
when_ok : {E : Type 0} (P : Type 0) (result : Result Unit E) → true ≡ is_ok result
    → OnOk result P → P
when_ok P (Ok done) is holds = holds
when_ok P (Err e) is holds = cc

-- the board that is read to its end, with its text hashed
pub board_hashed : (held a b c : Option Files) (name : List ℕ) (front : Front)
    (l0 l1 l2 l3 : LinesValue) (first second third last : Sha256) (read end : Result Unit ReadErr)
    → IsFront front → a ≡ held → b ≡ held → c ≡ held
    → IfSome held (λ files. StartsIn files name l0)
    → IfSome a (λ files. front_at (rest_of l0 files) ≡ Ok (front, rest_of l1 files))
    → true ≡ is_ok read
    → OnOk read (HashesLanes b front.head.lanes (auction_shape front.head) l1 l2 second third)
    → true ≡ is_ok end → ReadsPart end_at c l2 l3 end
    → Hashes (front_text front) first second → Hashes (line (codes "end")) third last
    → HashesBoard held name front first last
board_hashed held a b c name front l0 l1 l2 l3 first second third last read end is same_a same_b
    same_c start front_is was_read hashed is_over over begins ends =
    let Lanes : Type 0 =
    HashesLanes b front.head.lanes (auction_shape front.head) l1 l2 second third in
    let lanes : Lanes = when_ok Lanes read was_read hashed in
    let F : Option Files → Type 0 = λ o. IfSome o (λ files.
    front_at (rest_of l0 files) ≡ Ok (front, rest_of l1 files)) in
    let L : Option Files → Type 0 = λ o. IfSome o (λ files.
    lane_lines_at front.head.lanes (auction_shape front.head) (rest_of l1 files)
    ≡ Ok (lanes.lanes, rest_of l2 files)) in
    let E : Option Files → Type 0 = λ o. ReadsPart end_at o l2 l3 end in
    record {
      lanes = lanes.lanes;
      right = lanes.right;
      hashed = text_hashed front lanes.lanes first second third last begins lanes.hashed ends;
      read = here held end lanes.lanes start (subst F same_a front_is) (subst L same_b lanes.read)
          is_over (subst E same_c over);
    }
  where
    here : (o : Option Files) (end : Result Unit ReadErr) (lanes : List LaneLines)
        → IfSome o (λ files. StartsIn files name l0)
        → IfSome o (λ files. front_at (rest_of l0 files) ≡ Ok (front, rest_of l1 files))
        → IfSome o (λ files. lane_lines_at front.head.lanes (auction_shape front.head)
        (rest_of l1 files) ≡ Ok (lanes, rest_of l2 files))
        → true ≡ is_ok end → ReadsPart end_at o l2 l3 end
        → IfSome o (λ files. bytes_of files name ≡ text_with front lanes)
    here None end lanes start front_is lanes_are is_over over = tt
    here (Some files) (Ok done) lanes start front_is lanes_are is_over over =
        bytes_are front lanes (bytes_of files name) (rest_of l0 files) (rest_of l1 files)
        (rest_of l2 files) (rest_of l3 files) done is start.rest front_is lanes_are over
    here (Some files) (Err e) lanes start front_is lanes_are is_over over = cc

-- ---- the challenge

-- the hashed text is that of a board that may be reported on
pub of_one_text : {held : Option Files} {name : List ℕ} {front : Front} {first last : Sha256}
    {challenge : Challenge} (board : HashesBoard held name front first last) → IsFront front
    → challenge ≡ derived_by front.head.lanes (text_with front board.lanes)
    → IsOfOneText challenge
of_one_text {front = front} board is derived = record {
  text = text_with front board.lanes;
  report = report_with front;
  publishes = record {
    board = record { head = front.head; seals = front.seals; lanes = board.lanes };
    text = refl;
    is_board = record {
      head = is.head;
      seals = is.seals;
      count = board.right.number;
      lanes = board.right.each;
    };
    price = is.price;
    winner = winner_is front.seals front.head.winner front.position is.winner;
    report_is = refl;
  };
  derived = derived;
}

-- where the files are modelled, it is the text of the named file
pub derived_found : {held : Option Files} {name : List ℕ} {front : Front} {first last : Sha256}
    {challenge : Challenge} (board : HashesBoard held name front first last)
    → IfSome held (λ files. report_on files name ≡ Ok (report_with front))
    → challenge ≡ derived_by front.head.lanes (text_with front board.lanes)
    → IfSome held (λ files. derived_in files name ≡ Ok challenge)
unfolding derived_in
derived_found {held} {name} {front} {challenge = challenge} board reported derived =
    here held reported board.read
  where
    here : (o : Option Files) → IfSome o (λ files. report_on files name ≡ Ok (report_with front))
        → IfSome o (λ files. bytes_of files name ≡ text_with front board.lanes)
        → IfSome o (λ files. derived_in files name ≡ Ok challenge)
    here None reported read = tt
    here (Some files) reported read =
        ap (λ (r : Result Report ReportErr). r >>= λ report.
        Ok (derived_by report.head.lanes (bytes_of files name))) reported
        ∙ ap (λ bytes. Ok (derived_by front.head.lanes bytes)) read
        ∙ ap (λ c. Ok c) (sym derived)

-- the bits of the digest of what was hashed behind the prefix are those of the text
pub challenge_is : {held : Option Files} {name : List ℕ} {front : Front} {first last : Sha256}
    {prefix digest : List ℕ} {challenge : Challenge}
    (board : HashesBoard held name front first last) → prefix ≡ codes "VKD1"
    → Holds256 first prefix → ((message : List ℕ) → Holds256 last message → digest ≡ sha256 message)
    → challenge ≡ record { bits = leading_bits front.head.lanes digest }
    → challenge ≡ derived_by front.head.lanes (text_with front board.lanes)
unfolding derived_bits
challenge_is {front = front} {first = first} board prefixed holds digest made =
    let P : List ℕ → Type 0 = λ message. Holds256 first message in
    made ∙ ap (λ (d : List ℕ). record { bits = leading_bits front.head.lanes d })
    (digest (derived_message (text_with front board.lanes))
    (board.hashed (codes "VKD1") (subst P prefixed holds)))
