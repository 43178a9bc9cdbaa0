-- What `prove` and `answer` write.
use Rattle.std.proofs.Common.{◌≡◌, ℕ, List, length, IfSome, Result, Ok, Err, refl, sym, ap, subst}
use Rattle.std.specs.FinMap.{get}
use Rattle.vk_commit.specs.Values.{AreBytes}
use Rattle.vk_io.specs.Files.{Files}
use Rattle.vk_reply.specs.declared.challenge.Challenge.{Challenge}
use Rattle.vk_keeper.specs.declared.auction.Auction.{Auction}
use Rattle.vk_keeper.specs.Ledgers.{Ledger, IsLedger}
use Rattle.vk_house.specs.Commands.{Prove, Answer}
use Rattle.vk_effect.specs.Effects.{Effect, SaidValue}
use Rattle.vk_auctioneer.specs.Effects.{asked, board_file, if_read, prove_effect, reply_file}
use Rattle.vk_auctioneer.specs.Inputs.{challenge_in}
use Rattle.vk_auctioneer.specs.Laws.{BoardsAreWritten, IsText, RepliesAreWritten, WritesBoard, WritesReply}
use Rattle.vk_auctioneer.proofs.Reading.{challenge_refused, reads_challenge}
use Rattle.vk_auctioneer.proofs.Working.{Worked, answer_challenges, prove_seeds, proved_from, worked, worked_right}

-- ---- boards

writes_board : (ledger : Ledger) (id seed board : List ℕ) (auction : Auction) → IsLedger ledger
    → AreBytes 16 id → AreBytes 32 seed → Worked ledger (Prove id seed) auction
    → WritesBoard id seed board (prove_effect ledger id seed board) auction
writes_board ledger id seed board auction right is_id is_seed work =
    let seeded = prove_seeds id seed (get ledger id) auction work.passes work.later in
    record {
      kept = work.kept;
      proved = proved_from auction seed
          (worked_right ledger (Prove id seed) auction work (is_id, is_seed) right) seeded.seed_is
          seeded.tapes;
      seed_is = seeded.seed_is;
      written = ap (board_file board) work.reply;
    }

pub boards_are_written : BoardsAreWritten
boards_are_written ledger id seed board right is_id is_seed done =
    let work = worked ledger (Prove id seed) (λ auction. refl) done in
    (work.0, writes_board ledger id seed board work.0 right is_id is_seed work.1)

-- ---- replies

-- the challenge that was read, where the command ended with status 0
read_done : (files : Files) (ledger : Ledger) (name : List ℕ) (effect : Challenge → Effect)
    (read : Result Challenge SaidValue) → challenge_in files name ≡ read
    → (if_read ledger effect read).status ≡ 0 → (challenge : Challenge)
    × ((challenge_in files name ≡ Ok challenge) × ((effect challenge).status ≡ 0))
read_done files ledger name effect (Ok challenge) is done = (challenge, (is, done))
read_done files ledger name effect (Err said) is done =
    absurd (challenge_refused files name said is done)

writes_reply : (files : Files) (ledger : Ledger) (id name reply : List ℕ) (challenge : Challenge)
    (auction : Auction) → IsLedger ledger → AreBytes 16 id → IsText files name challenge
    → Worked ledger (Answer id challenge) auction
    → WritesReply files id name reply
    (asked (reply_file reply challenge) ledger (Answer id challenge)) auction challenge
writes_reply files ledger id name reply challenge auction right is_id text work =
    let given = answer_challenges id challenge (get ledger id) auction work.passes work.later in
    let is_auction = worked_right ledger (Answer id challenge) auction work (is_id, text.right)
    right in
    let bits : length challenge.bits ≡ auction.lanes =
    subst (λ found. IfSome found (λ (c : Challenge). length c.bits ≡ auction.lanes))
    given.challenge_is is_auction.held.bits in
    record {
      kept = work.kept;
      proved = proved_from auction given.seed is_auction given.seeded.seed_is given.seeded.tapes;
      asked = record { right = text.right; one_bit_each = bits };
      answered = given.challenge_is;
      read = text.file.held;
      written = ap (reply_file reply challenge) work.reply;
    }

pub replies_are_written : RepliesAreWritten
replies_are_written files ledger id name reply right is_id done =
    let effect = λ (challenge : Challenge). asked (reply_file reply challenge) ledger
    (Answer id challenge) in
    let read = read_done files ledger name effect (challenge_in files name) refl done in
    let challenge = read.0 in
    let text = ((reads_challenge files name).read challenge).0 read.1.0 in
    let work = worked ledger (Answer id challenge) (λ auction. refl) read.1.1 in (
      work.0,
      (
        challenge,
        subst (λ r. WritesReply files id name reply (if_read ledger effect r) work.0 challenge)
            (sym read.1.0)
            (writes_reply files ledger id name reply challenge work.0 right is_id text work.1),
      ),
    )
