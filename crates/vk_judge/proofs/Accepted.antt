-- Behind a front every test is passed exactly where a reply is accepted.
use Rattle.std.proofs.Common.{◌≡◌, ◌↔◌, ℕ, List, [], ◌++◌, length, codes, Ok, refl, ap, sym, ◌∙◌, arith, append_assoc}
use Rattle.vk_lines.specs.Lines.{Rest}
use Rattle.vk_lines.specs.Forms.{line, numbered_text}
use Rattle.vk_board.specs.Texts.{lanes_text}
use Rattle.vk_reply.specs.Texts.{reply_head_text, reply_lane_text, reply_text}
use Rattle.vk_judge.specs.Statement.{StatementValue, IsStatement}
use Rattle.vk_judge.specs.Behind.{behind_judged}
use Rattle.vk_judge.specs.Begun.{from_start}
use Rattle.vk_judge.specs.Acceptance.{bit_of, AcceptsBehind}
use Rattle.vk_judge.specs.Refusals.{count_and_lanes, LanesPass}
use Rattle.vk_judge.proofs.LaneLists.{bits_are, lanes_shown}
use Rattle.vk_judge.proofs.Files.{EndsRead, ends_found, FilesRead, judged_shown}
use Rattle.vk_judge.proofs.Passed.{Passed, lanes_pass, passed, file_over, file_end, reply_over, reply_end, ends_are}

-- ---- from the tests to what is accepted

all_accepted : {s : StatementValue} {front file challenge reply : List ℕ} {rest : Rest}
    (p : Passed s front file challenge reply rest) → p.count ≡ s.lanes
    → EndsRead p.rests.0 p.rests.1
    → AcceptsBehind s front file challenge reply
all_accepted {s = s} p all ends =
    let pass = lanes_pass p in
    let text = reply_over p ends.reply_over all ends.reply_read in
    record {
      lines = pass.lines;
      challenge = pass.challenge;
      reply = pass.reply;
      file_is = (file_over p ends.board_over ends.board_read, pass.right);
      challenge_is = (pass.is_challenge.text, pass.is_challenge.right);
      reply_is = (
        text,
        record {
          count = record {
            least = omega (arith, p.is.count.least, all, pass.shown_to);
            most = omega (arith, p.is.count.most, all, pass.shown_to);
          };
          each = pass.shown;
        },
      );
      one_each = pass.lines_to ∙ all;
      one_bit_each = pass.one_bit_each;
      one_reply_each = pass.shown_to ∙ all;
      lanes = λ lane some within. pass.accepted lane some (omega (arith, within, all));
    }

-- all lanes were read, where the tests are passed
all_read : {s : StatementValue} {front file challenge reply : List ℕ} {rest : Rest} → IsStatement s
    → file ≡ front ++ rest.left → FilesRead s rest (from_start challenge) (from_start reply)
    → AcceptsBehind s front file challenge reply
all_read {s = s} {rest = rest} is at files =
    let bits = files.begun.bits in
    all_accepted (record {
      is = is;
      at = at;
      begun = files.begun;
      count = length bits.bits;
      within = omega (arith, files.begun.one_bit_each);
      rests = files.rests;
      read = lanes_shown s (bit_of bits) [] [] bits.bits rest files.begun.count_rest files.rests
          refl (bits_are bits)
          files.lanes_pass;
    }) files.begun.one_bit_each files.ends

-- ---- and back

module _ {s : StatementValue} {front file challenge reply : List ℕ} (is : IsStatement s) (rest : Rest)
    (at : file ≡ front ++ rest.left) (accepts : AcceptsBehind s front file challenge reply) where
  pub reply_whole : reply ≡ count_and_lanes s.lanes accepts.reply ++ line (codes "end")
  unfolding reply_text
  reply_whole =
      let lanes : List ℕ = numbered_text reply_lane_text 1 accepts.reply in
      accepts.reply_is.0 ∙ ap (λ n. reply_head_text n ++ (lanes ++ line (codes "end")))
      accepts.one_reply_each
      ∙ sym (append_assoc (reply_head_text s.lanes) lanes (line (codes "end")))

  abbrev all_pass : LanesPass s front file challenge reply s.lanes
  all_pass = record {
    lines = accepts.lines;
    challenge = accepts.challenge;
    reply = accepts.reply;
    is_challenge = record { right = accepts.challenge_is.1; text = accepts.challenge_is.0 };
    one_bit_each = accepts.one_bit_each;
    within = omega arith;
    lines_to = accepts.one_each;
    shown_to = accepts.one_reply_each;
    right = accepts.file_is.1;
    shown = accepts.reply_is.1.each;
    file_begins = (
      line (codes "end"),
      accepts.file_is.0
          ∙ sym (append_assoc front (lanes_text 1 accepts.lines) (line (codes "end"))),
    );
    reply_begins = (line (codes "end"), reply_whole);
    accepted = accepts.lanes;
  }

  -- what is read of the files: these values, and every lane is checked
  abbrev pub accepted_read : Passed s front file challenge reply rest
  accepted_read = passed is rest at all_pass

  pub accepted_ends : EndsRead accepted_read.rests.0 accepted_read.rests.1
  accepted_ends =
      let file = file_end accepted_read accepts.file_is.0 in
      let end = reply_end accepted_read refl accepts.reply_is.0 in
      record {
        board_over = (tt, file.0);
        reply_over = (tt, end.0);
        board_read = file.1;
        reply_read = end.1;
      }

pub accepted_behind : (s : StatementValue) → IsStatement s
    → (front file challenge reply : List ℕ) (rest : Rest)
    → file ≡ front ++ rest.left
    → (behind_judged s rest (from_start challenge) (from_start reply) ≡ Ok tt)
    ↔ AcceptsBehind s front file challenge reply
accepted_behind s is front file challenge reply rest at = (
  λ ok. all_read is at (judged_shown s rest (from_start challenge) (from_start reply) tt ok),
  λ accepts.
      let read = accepted_read is rest at accepts in
      ends_are read refl ∙ ends_found read.rests.0 read.rests.1 (accepted_ends is rest at accepts),
)
