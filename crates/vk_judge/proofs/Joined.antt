-- What was judged whole is what is judged part by part.
use Rattle.std.proofs.Common.{◌≡◌, ℕ, Bool, List, Result, Ok, Err, length, refl}
use Rattle.vk_residue.specs.Steps.{◌>>=◌}
use Rattle.vk_lines.specs.Lines.{Rest}
use Rattle.vk_wire.specs.declared.wire.Shown.{Shown}
use Rattle.vk_row.specs.declared.case.LaneCase.{LaneCase}
use Rattle.vk_row.specs.LaneTests.{checked_lane}
use Rattle.vk_board.specs.declared.board.LaneLines.{LaneLines}
use Rattle.vk_board.specs.Reading.{lane_at}
use Rattle.vk_reply.specs.declared.challenge.Challenge.{Challenge}
use Rattle.vk_reply.specs.Reading.{challenge_at, reply_head_at, reply_lane_at}
use Rattle.vk_judge.specs.declared.answers.Part.TheVariants as part
use Rattle.vk_judge.specs.declared.answers.Fault.{Fault}
use Rattle.vk_judge.specs.Statement.{StatementValue}
use Rattle.vk_judge.specs.Behind.{in_part, later_wires, case_of, lane_fault, lane_judged, lanes_judged, counted, ends_judged, behind_judged}
use Rattle.vk_judge.specs.Parts.{case_at, reply_judged, attempt_at, rest_judged, behind_in_parts}

abbrev pub pair : {X Y : Type 0} → X → Y → Result (X × Y) Fault
pair x y = Ok (x, y)

-- a lane's tests, bracketed otherwise
last_part : (done : Result (Unit {0}) Fault) (shown : List Shown) (file reply : Rest)
    → ◌≡◌ {A = Result (Rest × Rest) Fault} (done >>= λ _. pair file reply)
    ((done >>= λ _. pair shown reply) >>= λ s. pair file s.1)
last_part (Ok done) shown file reply = refl
last_part (Err fault) shown file reply = refl

three_parts : (lines : Result (LaneLines × Rest) Fault) (shown : Result (List Shown × Rest) Fault)
    (case : LaneLines → LaneCase) (check : LaneCase → List Shown → Result (Unit {0}) Fault)
    → ◌≡◌ {A = Result (Rest × Rest) Fault}
    (lines >>= λ x. shown >>= λ y. check (case x.0) y.0 >>= λ _. pair x.1 y.1)
    ((lines >>= λ x. pair (case x.0) x.1) >>= λ c.
    (shown >>= λ y. check c.0 y.0 >>= λ _. pair y.0 y.1) >>= λ s. pair c.1 s.1)
three_parts (Ok x) (Ok y) case check = last_part (check (case x.0) y.0) y.0 x.1 y.1
three_parts lines shown case check = refl

-- a lane is read, and then what is shown of it is read and checked
pub lane_parts : (s : StatementValue) (number : ℕ) (bit : Bool) (file reply : Rest)
    → lane_judged s number bit file reply
    ≡ (case_at s number file >>= λ c. reply_judged s.plan c.0 number bit reply >>= λ shown.
    Ok (c.1, shown.1))
unfolding lane_judged case_at reply_judged
lane_parts s number bit file reply =
    three_parts (in_part part.Board
    (lane_at number (later_wires s.plan) (length s.plan.rows) file))
    (in_part part.Reply (reply_lane_at number s.plan.kinds bit reply))
    (case_of s number) (λ case shown. lane_fault number (checked_lane s.plan case bit shown))

-- the tests before the first lane, bracketed otherwise
counted_parts : {X Y : Type 0} (same : Result (Unit {0}) Fault) (x : X) (f : X → Result Y Fault)
    → (same >>= λ _. f x) ≡ ((same >>= λ _. Ok x) >>= f)
counted_parts (Ok tt) x f = refl
counted_parts (Err fault) x f = refl

attempt_parts : (lanes : ℕ) (challenge reply : Rest)
    (rest : List Bool → Rest → Result (Unit {0}) Fault)
    → (in_part part.Challenge (challenge_at challenge) >>= λ bits.
    in_part part.Reply (reply_head_at reply) >>= λ replies. counted lanes bits.0 replies.0 >>= λ _.
    rest bits.0.bits replies.1)
    ≡ (attempt_at lanes challenge reply >>= λ a. rest a.0 a.1)
unfolding attempt_at
attempt_parts lanes challenge reply rest =
    by_two (in_part part.Challenge (challenge_at challenge))
    (in_part part.Reply (reply_head_at reply))
  where
    by_two : (c : Result (Challenge × Rest) Fault) (r : Result (ℕ × Rest) Fault)
        → (c >>= λ bits. r >>= λ replies. counted lanes bits.0 replies.0 >>= λ _.
        rest bits.0.bits replies.1)
        ≡ ((c >>= λ bits. r >>= λ replies. counted lanes bits.0 replies.0 >>= λ _.
        pair bits.0.bits replies.1) >>= λ a. rest a.0 a.1)
    by_two (Ok bits) (Ok replies) =
        counted_parts (counted lanes bits.0 replies.0) (bits.0.bits, replies.1) (λ a. rest a.0 a.1)
    by_two c r = refl

-- all tests behind a front
pub behind_parts : (s : StatementValue) (file challenge reply : Rest)
    → behind_judged s file challenge reply ≡ behind_in_parts s file challenge reply
unfolding behind_judged behind_in_parts rest_judged
behind_parts s file challenge reply =
    attempt_parts s.lanes challenge reply
    (λ bits rest. lanes_judged s 1 bits file rest >>= λ rests. ends_judged rests.0 rests.1)
