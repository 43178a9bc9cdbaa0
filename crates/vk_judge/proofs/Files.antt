-- What stands behind a front where the tests are passed: what was read, part by part.
use Rattle.std.proofs.Common.{◌≡◌, ℕ, ◌==◌, ◌&&◌, Bool, true, false, if◌then◌else◌, length, Result, Ok, Err, refl, ap, ◌∙◌}
use Rattle.std.proofs.lemmas.Bool.{and_parts, and_from, eqb-true, eq-eqb}
use Rattle.vk_residue.specs.Steps.{◌>>=◌}
use Rattle.vk_lines.specs.Lines.{Rest, end_at}
use Rattle.vk_reply.specs.declared.challenge.Challenge.{Challenge}
use Rattle.vk_reply.specs.Reading.{challenge_at, reply_head_at}
use Rattle.vk_judge.specs.declared.answers.Part.TheVariants as part
use Rattle.vk_judge.specs.declared.answers.Fault.{Fault}
use Rattle.vk_judge.specs.declared.answers.Fault.TheVariants.{Lanes}
use Rattle.vk_judge.specs.Statement.{StatementValue}
use Rattle.vk_judge.specs.Behind.{in_part, lanes_judged, counted, ends_judged, behind_judged}
use Rattle.vk_judge.proofs.Steps.{bind_ok, bind_found, read_ok, read_found}

-- ---- the numbers of lanes

abbrev pub counts : ℕ → Challenge → ℕ → Bool
counts lanes challenge replies = length challenge.bits == lanes && replies == lanes

same_shown : (same : Bool) (done : Unit {0})
    → ◌≡◌ {A = Result (Unit {0}) Fault} (if same then Ok tt else Err Lanes) (Ok done) → same ≡ true
same_shown true done ok = refl
same_shown false done ok = cc

pub counted_shown : (lanes : ℕ) (challenge : Challenge) (replies : ℕ) (done : Unit {0})
    → counted lanes challenge replies ≡ Ok done → (length challenge.bits ≡ lanes)
    × (replies ≡ lanes)
counted_shown lanes challenge replies done ok =
    let parts = and_parts (length challenge.bits == lanes) (replies == lanes)
    (same_shown (counts lanes challenge replies) done ok) in
    (eqb-true (length challenge.bits) lanes parts.0, eqb-true replies lanes parts.1)

pub counted_found : (lanes : ℕ) (challenge : Challenge) (replies : ℕ)
    → length challenge.bits ≡ lanes → replies ≡ lanes
    → counted lanes challenge replies ≡ Ok tt
counted_found lanes challenge replies bits same =
    let both : counts lanes challenge replies ≡ true =
    and_from (length challenge.bits == lanes) (replies == lanes)
    (eq-eqb (length challenge.bits) lanes bits)
    (eq-eqb replies lanes same) in
    ap (λ (t : Bool). if t then Ok tt else Err Lanes) both

-- ---- the ends

pub record EndsRead (file reply : Rest) : Type 0 where
  pub board_over : Unit {0} × Rest
  pub reply_over : Unit {0} × Rest
  pub board_read : end_at file ≡ Ok board_over
  pub reply_read : end_at reply ≡ Ok reply_over

ends_shown : (file reply : Rest) (done : Unit {0}) → ends_judged file reply ≡ Ok done
    → EndsRead file reply
unfolding ends_judged
ends_shown file reply done ok =
    let over = read_ok part.Board (end_at file)
    (λ over. in_part part.Reply (end_at reply) >>= λ end. Ok tt) done ok in
    let end = read_ok part.Reply (end_at reply) (λ end. Ok tt) done over.2 in
    record { board_over = over.0; reply_over = end.0; board_read = over.1; reply_read = end.1 }

pub ends_found : (file reply : Rest) → EndsRead file reply → ends_judged file reply ≡ Ok tt
unfolding ends_judged
ends_found file reply read =
    read_found part.Board (end_at file)
    (λ over. in_part part.Reply (end_at reply) >>= λ end. Ok tt) read.board_over
    read.board_read
    ∙ read_found part.Reply (end_at reply) (λ end. Ok tt) read.reply_over read.reply_read

-- ---- before the first lane

abbrev pub ends_then : Rest × Rest → Result (Unit {0}) Fault
ends_then rests = ends_judged rests.0 rests.1

abbrev pub lanes_then : StatementValue → Rest → Challenge × Rest → ℕ × Rest
    → Result (Unit {0}) Fault
lanes_then s file bits replies = lanes_judged s 1 bits.0.bits file replies.1 >>= ends_then

abbrev pub reply_then : StatementValue → Rest → Challenge × Rest → ℕ × Rest
    → Result (Unit {0}) Fault
reply_then s file bits replies =
    counted s.lanes bits.0 replies.0 >>= λ same. lanes_then s file bits replies

abbrev pub bits_then : StatementValue → Rest → Rest → Challenge × Rest → Result (Unit {0}) Fault
bits_then s file reply bits = in_part part.Reply (reply_head_at reply) >>= reply_then s file bits

-- the challenge and the head of the reply were read, and say the statement's number of lanes
pub record Begun (s : StatementValue) (challenge reply : Rest) : Type 0 where
  pub bits : Challenge
  pub challenge_rest : Rest
  pub count_rest : Rest
  pub challenge_read : challenge_at challenge ≡ Ok (bits, challenge_rest)
  pub count_read : reply_head_at reply ≡ Ok (s.lanes, count_rest)
  pub one_bit_each : length bits.bits ≡ s.lanes

abbrev pub begun_with : (s : StatementValue) (challenge reply : Rest) (bits : Challenge × Rest)
    (count : ℕ × Rest)
    (done : Unit {0}) → challenge_at challenge ≡ Ok bits → reply_head_at reply ≡ Ok count
    → counted s.lanes bits.0 count.0 ≡ Ok done → Begun s challenge reply
begun_with s challenge reply bits count done challenge_read count_read same = record {
  bits = bits.0;
  challenge_rest = bits.1;
  count_rest = count.1;
  challenge_read = challenge_read;
  count_read = count_read ∙ ap (λ n. Ok (n, count.1))
      (counted_shown s.lanes bits.0 count.0 done same).1;
  one_bit_each = (counted_shown s.lanes bits.0 count.0 done same).0;
}

pub begun_judged : (s : StatementValue) (file challenge reply : Rest)
    (begun : Begun s challenge reply)
    → behind_judged s file challenge reply
    ≡ (lanes_judged s 1 begun.bits.bits file begun.count_rest >>= ends_then)
unfolding behind_judged
begun_judged s file challenge reply begun =
    let bits : Challenge × Rest = (begun.bits, begun.challenge_rest) in
    let replies : ℕ × Rest = (s.lanes, begun.count_rest) in
    read_found part.Challenge (challenge_at challenge) (bits_then s file reply) bits
    begun.challenge_read
    ∙ (read_found part.Reply (reply_head_at reply) (reply_then s file bits) replies
    begun.count_read
    ∙ bind_found (counted s.lanes begun.bits s.lanes) (λ same. lanes_then s file bits replies) tt
    (counted_found s.lanes begun.bits s.lanes begun.one_bit_each refl))

-- ---- all

pub record FilesRead (s : StatementValue) (file challenge reply : Rest) : Type 0 where
  pub begun : Begun s challenge reply
  pub rests : Rest × Rest
  pub lanes_pass : lanes_judged s 1 begun.bits.bits file begun.count_rest ≡ Ok rests
  pub ends : EndsRead rests.0 rests.1

pub judged_shown : (s : StatementValue) (file challenge reply : Rest) (done : Unit {0})
    → behind_judged s file challenge reply ≡ Ok done → FilesRead s file challenge reply
unfolding behind_judged
judged_shown s file challenge reply done ok =
    let bits = read_ok part.Challenge (challenge_at challenge) (bits_then s file reply) done ok in
    let replies = read_ok part.Reply (reply_head_at reply) (reply_then s file bits.0) done bits.2
    in
    let same = bind_ok (counted s.lanes bits.0.0 replies.0.0)
    (λ same. lanes_then s file bits.0 replies.0) done replies.2 in
    let rests = bind_ok (lanes_judged s 1 bits.0.0.bits file replies.0.1) ends_then done same.2 in
    record {
      begun = begun_with s challenge reply bits.0 replies.0 same.0 bits.1 replies.1 same.1;
      rests = rests.0;
      lanes_pass = rests.1;
      ends = ends_shown rests.0.0 rests.0.1 done rests.2;
    }
