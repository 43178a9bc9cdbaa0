-- What `answer` writes is accepted, and every challenge is answered.
use Rattle.std.proofs.Common.{◌≡◌, ℕ, Bool, List, length, map, refl, ap, sym, subst, ◌∙◌, arith}
use Rattle.std.specs.FinMap.{insert}
use Rattle.vk_residue.specs.Limits.{IsLaneCount}
use Rattle.vk_io.specs.Files.{Files}
use Rattle.vk_io.specs.Writing.{written}
use Rattle.vk_io.proofs.Finite.{get_own}
use Rattle.vk_reply.specs.Texts.{challenge_text}
use Rattle.vk_report.specs.declared.report.Report.{Report}
use Rattle.vk_report.specs.Meaning.{IsReportOn}
use Rattle.vk_report.specs.Reports.{report_of}
use Rattle.vk_report.proofs.Winner.{winner_is}
use Rattle.vk_keeper.specs.declared.auction.Auction.{Auction}
use Rattle.vk_keeper.specs.Ledgers.{Ledger}
use Rattle.vk_job.specs.Proofs.{seal_lines_of}
use Rattle.vk_job.specs.Published.{board_of, head_of, published, reply_of}
use Rattle.vk_honest.specs.Answers.{front_of}
use Rattle.vk_honest.proofs.Accepted.{answers_are_accepted, board_is}
use Rattle.vk_honest.proofs.Fronts.{front_is, same_lanes}
use Rattle.vk_honest.proofs.Sizes.{boards_are_short, challenges_are_short}
use Rattle.vk_words.specs.Coins.{ChallengeWords}
use Rattle.vk_effect.specs.Effects.{DeedValue, writes_one}
use Rattle.vk_coin.specs.Derived.{derived_bits}
use Rattle.vk_coins.specs.Boards.{board_deed, derived_said}
use Rattle.vk_coins.proofs.BoardEnds.{derived_length, derives_exactly}
use Rattle.vk_house.specs.Commands.{Answer}
use Rattle.vk_auctioneer.specs.Effects.{answer_effect, asked as asks, if_read, reply_file}
use Rattle.vk_auctioneer.specs.Laws.{IsText}
use Rattle.vk_auctioneer.proofs.Reading.{challenge_found}
use Rattle.vk_auctioneer.proofs.Working.{answered_first}
use Rattle.vk_auctioneer.proofs.Written.{replies_are_written}
use Rattle.vk_app.specs.Accepted.{ChallengesAreAnswered, DerivedAreAnswered, DerivesAnswered, IsAsked, IsPublished, LeftRepliesAreAccepted, RepliesAreAccepted}

pub replies_are_accepted : RepliesAreAccepted
replies_are_accepted files ledger id name reply right is_id done =
    let wrote = replies_are_written files ledger id name reply right is_id done in
    let auction = wrote.0 in
    let challenge = wrote.1.0 in
    let is = wrote.1.1 in
    record {
      auction = auction;
      kept = is.kept;
      challenge_file = challenge_text challenge;
      read = is.read;
      reply_file = reply_of auction challenge;
      written = is.written;
      accepted = answers_are_accepted auction challenge is.proved is.asked;
    }

pub challenges_are_answered : ChallengesAreAnswered
challenges_are_answered files ledger id name reply auction seed challenge is =
    let text : IsText files name challenge =
    record {
      right = is.asked.right;
      file = record { held = is.read; short = challenges_are_short challenge is.asked.right };
    } in
    subst (λ r. (if_read ledger (λ given. asks (reply_file reply given) ledger (Answer id given))
    r).status ≡ 0) (sym (challenge_found files name challenge text))
    (answered_first ledger id challenge auction seed is.held is.phase is.proved
    is.asked.one_bit_each)

pub left_replies_are_accepted : LeftRepliesAreAccepted
left_replies_are_accepted id name reply old new auction challenge left =
    (left.is.read.file.held, answers_are_accepted auction challenge left.is.proved left.is.asked)

-- ---- a challenge that is derived

module _ (files : Files) (ledger : Ledger) (id board challenge reply : List ℕ) (auction : Auction) (seed : List ℕ) (is : IsPublished files ledger id board auction seed) where
  abbrev names : ChallengeWords
  names = record { from = board; challenge = challenge }

  -- the board may be reported on
  abbrev report : Report
  report = report_of (head_of auction) (map seal_lines_of auction.seals)

  is_reported : IsReportOn files board report
  is_reported =
      let front = front_is auction is.proved in
      record {
        file = board_of auction;
        held = is.file;
        short = boards_are_short auction is.proved;
        holds = record {
          board = published auction;
          text = refl;
          is_board = board_is auction is.proved;
          price = front.price;
          winner = winner_is (front_of auction).seals (front_of auction).head.winner
              (front_of auction).position front.winner;
          report_is = refl;
        };
      }

  abbrev bits : List Bool
  bits = derived_bits (head_of auction).lanes (board_of auction)

  deed_is : board_deed names files
      ≡ writes_one challenge (challenge_text (record { bits = bits }))
      (derived_said (head_of auction).lanes)
  unfolding is_reported
  deed_is = (derives_exactly files names).derived report is_reported

  count : length bits ≡ auction.lanes
  count = derived_length (head_of auction).lanes (board_of auction)
      (front_is auction is.proved).head.size.lanes ∙ same_lanes auction

  asked : IsAsked (insert files challenge (challenge_text (record { bits = bits }))) ledger id
      challenge auction seed (record { bits = bits })
  asked =
      let lanes : IsLaneCount (head_of auction).lanes = (front_is auction is.proved).head.size.lanes
      in
      record {
        held = is.held;
        phase = is.phase;
        proved = is.proved;
        asked = record {
          right = record {
            some_bit = omega (arith, count, same_lanes auction, lanes.least);
            few_bits = omega (arith, count, same_lanes auction, lanes.most);
          };
          one_bit_each = count;
        };
        read = get_own files challenge (challenge_text (record { bits = bits }));
      }

  derives_answered : DerivesAnswered files ledger id board challenge reply
  derives_answered = record {
    derived = ap (λ (deed : DeedValue). deed.said.status) deed_is;
    answered =
        subst (λ (deed : DeedValue).
        (answer_effect (written deed.writes files) ledger id challenge reply).status ≡ 0)
        (sym deed_is)
        (challenges_are_answered (insert files challenge (challenge_text (record { bits = bits })))
        ledger id challenge reply auction seed (record { bits = bits }) asked);
  }

pub derived_are_answered : DerivedAreAnswered
derived_are_answered = derives_answered
