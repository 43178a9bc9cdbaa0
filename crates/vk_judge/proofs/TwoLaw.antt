-- What two replies come to behind a front.
use Rattle.std.proofs.Common.{◌≡◌, ℕ, ◌+◌, Bool, List, [], ◌∷◌, length, Result, Ok, Err, IfOk, refl, ap, sym, ◌∙◌, arith}
use Rattle.vk_residue.specs.Steps.{◌>>=◌}
use Rattle.vk_lines.specs.Lines.{Rest, end_at}
use Rattle.vk_wire.specs.declared.wire.Shown.{Shown}
use Rattle.vk_row.specs.declared.case.LaneCase.{LaneCase}
use Rattle.vk_reply.specs.declared.challenge.Challenge.{Challenge}
use Rattle.vk_reply.specs.Reading.{challenge_at, reply_head_at}
use Rattle.vk_judge.specs.declared.answers.Part.TheVariants as part
use Rattle.vk_judge.specs.declared.answers.Fault.{Fault}
use Rattle.vk_judge.specs.declared.stage.Base.{Base}
use Rattle.vk_judge.specs.declared.stage.TwoLane.{TwoLane}
use Rattle.vk_judge.specs.declared.stage.Finding.{Finding}
use Rattle.vk_judge.specs.Statement.{StatementValue}
use Rattle.vk_judge.specs.Behind.{in_part, lanes_judged, ends_judged, counted, behind_judged}
use Rattle.vk_judge.specs.Parts.{case_at, reply_judged, attempt_at, rest_judged, behind_in_parts}
use Rattle.vk_judge.specs.Two.{Ahead, Rests, accepted_of, two_result, of_first, of_second, second_told, found_by, two_lane_at, ends_found, ahead_from, ahead_after, base_behind, ahead_by, lane_shown}
use Rattle.vk_judge.specs.TwoLaw.{bits_read, FindsBy, FindsByJudging}
use Rattle.vk_judge.proofs.Files.{counted_shown}
use Rattle.vk_judge.proofs.Joined.{behind_parts, lane_parts, pair}

-- ---- the ends

told_is : (accepted : Finding Fault) (fault : Fault) (first : Result (Unit {0}) Fault)
    → second_told fault first ≡ two_result accepted first (Err fault)
told_is accepted fault (Ok done) = refl
told_is accepted fault (Err other) = refl

ends_by : (accepted : Finding Fault) (file : Result (Unit {0} × Rest) Fault)
    (first second : Result (Unit {0} × Rest) Fault)
    → found_by accepted (file >>= λ _. first >>= λ _. Ok tt) second
    ≡ two_result accepted (file >>= λ _. first >>= λ _. Ok tt)
    (file >>= λ _. second >>= λ _. Ok tt)
ends_by accepted (Ok over) (Ok done) (Ok last) = refl
ends_by accepted file first second = refl

ends_are : (accepted : Finding Fault) (rests : Rests)
    → ends_found accepted rests
    ≡ two_result accepted (ends_judged rests.file rests.first)
    (ends_judged rests.file rests.second)
unfolding ends_found ends_judged
ends_are accepted rests = ends_by accepted (in_part part.Board (end_at rests.file))
    (in_part part.Reply (end_at rests.first)) (in_part part.Reply (end_at rests.second))

-- ---- lanes

rest_after : (shown : Result (List Shown × Rest) Fault) (file : Rest)
    (lanes : Rest → Rest → Result (Rest × Rest) Fault)
    (ends : Rest → Rest → Result (Unit {0}) Fault)
    → (((shown >>= λ s. pair file s.1) >>= λ r. lanes r.0 r.1) >>= λ r. ends r.0 r.1)
    ≡ (shown >>= λ s. lanes file s.1 >>= λ r. ends r.0 r.1)
rest_after (Err fault) file lanes ends = refl
rest_after (Ok shown) file lanes ends = refl

rest_by : (case : Result (LaneCase × Rest) Fault)
    (shown : LaneCase → Result (List Shown × Rest) Fault)
    (lanes : Rest → Rest → Result (Rest × Rest) Fault)
    (ends : Rest → Rest → Result (Unit {0}) Fault)
    → (((case >>= λ c. shown c.0 >>= λ s. pair c.1 s.1) >>= λ r. lanes r.0 r.1) >>= λ r.
    ends r.0 r.1)
    ≡ (case >>= λ c. shown c.0 >>= λ s. lanes c.1 s.1 >>= λ r. ends r.0 r.1)
rest_by (Err fault) shown lanes ends = refl
rest_by (Ok case) shown lanes ends = rest_after (shown case.0) case.1 lanes ends

-- the rest is judged lane by lane
rest_step : (s : StatementValue) (number : ℕ) (bit : Bool) (bits : List Bool) (file reply : Rest)
    → rest_judged s number (bit ∷ bits) file reply
    ≡ (case_at s number file >>= λ c. reply_judged s.plan c.0 number bit reply >>= λ t.
    rest_judged s (number + 1) bits c.1 t.1)
unfolding rest_judged lanes_judged
rest_step s number bit bits file reply =
    ap (λ l. (l >>= λ r. lanes_judged s (number + 1) bits r.0 r.1) >>= λ r. ends_judged r.0 r.1)
    (lane_parts s number bit file reply)
    ∙ rest_by (case_at s number file) (λ case. reply_judged s.plan case number bit reply)
    (lanes_judged s (number + 1) bits) ends_judged

-- one lane of both replies, where what is found after it is what the rest comes to for both
module _ (accepted : Finding Fault) (first_bit second_bit : Bool) (rest other : Rest → Rest → Result (Unit {0}) Fault) (next : Rests → Ahead Fault)
    (is : (rests : Rests) → (next rests).finding ≡ two_result accepted (rest rests.file rests.first) (other rests.file rests.second)) where
  abbrev both : Result (LaneCase × Rest) Fault → (LaneCase → Result (List Shown × Rest) Fault)
      → (LaneCase → Result (List Shown × Rest) Fault) → Result (TwoLane × Rests) (Finding Fault)
  both case first second =
      of_first case >>= λ c. of_first (first c.0) >>= λ s. of_second (rest c.1 s.1) (second c.0) >>=
      λ t. Ok (lane_shown first_bit second_bit c s t)

  finding_after : (second : Result (List Shown × Rest) Fault) (case : LaneCase × Rest)
      (shown : List Shown × Rest)
      → (ahead_after (both (Ok case) (λ _. Ok shown) (λ _. second)) next).finding
      ≡ two_result accepted (rest case.1 shown.1) (second >>= λ s. other case.1 s.1)
  finding_after (Err fault) case shown = told_is accepted fault (rest case.1 shown.1)
  finding_after (Ok last) case shown =
      is (record { file = case.1; first = shown.1; second = last.1 })

  finding_first : (first second : Result (List Shown × Rest) Fault) (case : LaneCase × Rest)
      → (ahead_after (both (Ok case) (λ _. first) (λ _. second)) next).finding
      ≡ two_result accepted (first >>= λ s. rest case.1 s.1) (second >>= λ s. other case.1 s.1)
  finding_first (Err fault) second case = refl
  finding_first (Ok shown) second case = finding_after second case shown

  finding_lane : (case : Result (LaneCase × Rest) Fault)
      (first second : LaneCase → Result (List Shown × Rest) Fault)
      → (ahead_after (both case first second) next).finding
      ≡ two_result accepted (case >>= λ c. first c.0 >>= λ s. rest c.1 s.1)
      (case >>= λ c. second c.0 >>= λ s. other c.1 s.1)
  finding_lane (Err fault) first second = refl
  finding_lane (Ok case) first second = finding_first (first case.0) (second case.0) case

-- what is found from a lane on is what the rest comes to for both
finding_from : (s : StatementValue) (accepted : Finding Fault) (number : ℕ)
    (bits others : List Bool) (rests : Rests)
    → length bits ≡ length others
    → (ahead_from s accepted number bits others rests).finding
    ≡ two_result accepted (rest_judged s number bits rests.file rests.first)
    (rest_judged s number others rests.file rests.second)
unfolding ahead_from two_lane_at rest_judged lanes_judged
finding_from s accepted number [] [] rests same = ends_are accepted rests
finding_from s accepted number [] (other ∷ others) rests same = cc
finding_from s accepted number (bit ∷ bits) [] rests same = cc
finding_from s accepted number (bit ∷ bits) (other ∷ others) rests same =
    finding_lane accepted bit other (rest_judged s (number + 1) bits)
    (rest_judged s (number + 1) others) (ahead_from s accepted (number + 1) bits others)
    (λ next. finding_from s accepted (number + 1) bits others next (omega (arith, same)))
    (case_at s number rests.file) (λ case. reply_judged s.plan case number bit rests.first)
    (λ case. reply_judged s.plan case number other rests.second)
    ∙ ap (λ r. two_result accepted r
    (case_at s number rests.file >>= λ c. reply_judged s.plan c.0 number other rests.second >>=
    λ t. rest_judged s (number + 1) others c.1 t.1))
    (sym (rest_step s number bit bits rests.file rests.first))
    ∙ ap (λ r. two_result accepted (rest_judged s number (bit ∷ bits) rests.file rests.first) r)
    (sym (rest_step s number other others rests.file rests.second))

-- ---- before the first lane

-- the bits of an attempt are those of the challenge, one for each lane
record IsAttempt (lanes : ℕ) (bits : List Bool) (attempt : List Bool × Rest) : Type 0 where
  same : attempt.0 ≡ bits
  count : length attempt.0 ≡ lanes

attempt_by : (lanes : ℕ) (challenge : Result (Challenge × Rest) ℕ) (replies : Result (ℕ × Rest) ℕ)
    → IfOk (in_part part.Challenge challenge >>= λ c. in_part part.Reply replies >>= λ r.
    counted lanes c.0 r.0 >>= λ _. pair c.0.bits r.1)
    (IsAttempt lanes (bits_read challenge))
attempt_by lanes (Err line) replies = tt
attempt_by lanes (Ok c) (Err line) = tt
attempt_by lanes (Ok c) (Ok r) = by_count (counted lanes c.0 r.0) refl
  where
    by_count : (same : Result (Unit {0}) Fault) → counted lanes c.0 r.0 ≡ same
        → IfOk (same >>= λ _. pair c.0.bits r.1) (IsAttempt lanes c.0.bits)
    by_count (Err fault) is = tt
    by_count (Ok done) is =
        record { same = refl; count = (counted_shown lanes c.0 r.0 done is).0 }

attempt_is : (lanes : ℕ) (challenge reply : Rest)
    → IfOk (attempt_at lanes challenge reply) (IsAttempt lanes (bits_read (challenge_at challenge)))
unfolding attempt_at
attempt_is lanes challenge reply = attempt_by lanes (challenge_at challenge) (reply_head_at reply)

abbrev base_of : StatementValue → Rest → List Bool × Rest → List Bool × Rest
    → Result (Base × Rests) (Finding Fault)
base_of s file first second =
    Ok (
      record { statement = s; first_bits = first.0; second_bits = second.0 },
      record { file = file; first = first.1; second = second.1 },
    )

-- the second attempt and what is ahead of it
finding_second : (s : StatementValue) (file : Rest) (first : List Bool × Rest)
    (second : Result (List Bool × Rest) Fault) (bits others : List Bool)
    → IsAttempt s.lanes bits first → IfOk second (IsAttempt s.lanes others)
    → (ahead_by (of_second (rest_judged s 1 first.0 file first.1) second >>= λ t.
    base_of s file first t)).finding
    ≡ two_result (accepted_of bits others) (rest_judged s 1 first.0 file first.1)
    (second >>= λ t. rest_judged s 1 t.0 file t.1)
finding_second s file first (Err fault) bits others is other_is =
    told_is (accepted_of bits others) fault (rest_judged s 1 first.0 file first.1)
finding_second s file first (Ok second) bits others is other_is =
    let rests : Rests = record { file = file; first = first.1; second = second.1 } in
    finding_from s (accepted_of first.0 second.0) 1 first.0 second.0 rests
    (is.count ∙ sym other_is.count)
    ∙ ap (λ (accepted : Finding Fault). two_result accepted (rest_judged s 1 first.0 file first.1)
    (rest_judged s 1 second.0 file second.1))
    (ap (λ b. accepted_of b second.0) is.same ∙ ap (accepted_of bits) other_is.same)

finding_attempts : (s : StatementValue) (file : Rest)
    (first second : Result (List Bool × Rest) Fault)
    (bits others : List Bool)
    → IfOk first (IsAttempt s.lanes bits) → IfOk second (IsAttempt s.lanes others)
    → (ahead_by (of_first first >>= λ f. of_second (rest_judged s 1 f.0 file f.1) second >>= λ t.
    base_of s file f t)).finding
    ≡ two_result (accepted_of bits others) (first >>= λ f. rest_judged s 1 f.0 file f.1)
    (second >>= λ t. rest_judged s 1 t.0 file t.1)
finding_attempts s file (Err fault) second bits others is other_is = refl
finding_attempts s file (Ok first) second bits others is other_is =
    finding_second s file first second bits others is other_is

finding_parts : FindsBy behind_in_parts
unfolding base_behind behind_in_parts
finding_parts s file first_challenge first_reply second_challenge second_reply =
    finding_attempts s file (attempt_at s.lanes first_challenge first_reply)
    (attempt_at s.lanes second_challenge second_reply)
    (bits_read (challenge_at first_challenge)) (bits_read (challenge_at second_challenge))
    (attempt_is s.lanes first_challenge first_reply)
    (attempt_is s.lanes second_challenge second_reply)

pub finds_by_judging : FindsByJudging
finds_by_judging s file first_challenge first_reply second_challenge second_reply =
    let accepted : Finding Fault =
    accepted_of (bits_read (challenge_at first_challenge))
    (bits_read (challenge_at second_challenge)) in
    finding_parts s file first_challenge first_reply second_challenge second_reply
    ∙ ap (λ r. two_result accepted r (behind_in_parts s file second_challenge second_reply))
    (sym (behind_parts s file first_challenge first_reply))
    ∙ ap (two_result accepted (behind_judged s file first_challenge first_reply))
    (sym (behind_parts s file second_challenge second_reply))
