-- What a command of the house left of the files, by what the house answered.
use Rattle.std.proofs.Common.{◌≡◌, ◌≢◌, ℕ, zero, suc, List, [], ◌∷◌, Option, Some, None, Result, Ok, Err, IfSome, refl, sym, ap, subst, ◌∙◌, arith, length, take_all, inl, inr}
use Rattle.std.specs.Prelude.{IfOk, ◌⊎◌}
use Rattle.std.specs.FinMap.{insert}
use Rattle.std.proofs.lemmas.Option.{same_Some}
use Rattle.vk_io.specs.declared.errors.OutsideErr.{OutsideErr}
use Rattle.vk_io.specs.Files.{Files, Modelled}
use Rattle.vk_io.specs.Writing.{IsDivided}
use Rattle.vk_lines.specs.Gives.{Gives}
use Rattle.vk_reply.specs.declared.challenge.Challenge.{Challenge}
use Rattle.vk_keeper.specs.declared.auction.Auction.{Auction}
use Rattle.vk_keeper.specs.Auctions.{challenge_of, seed_of}
use Rattle.vk_job.specs.Jobs.{IsProvedAuction}
use Rattle.vk_job.specs.JobValues.{JobValue}
use Rattle.vk_job.specs.Published.{board_of, reply_of}
use Rattle.vk_house.specs.declared.errors.HouseErr.{HouseErr}
use Rattle.vk_house.specs.Answers.{as_reply, work_of}
use Rattle.vk_house.specs.Commands as house
use Rattle.vk_effect.specs.declared.reading.Unread.{Unread}
use Rattle.vk_effect.specs.declared.reading.Unread.TheVariants as unread
use Rattle.vk_effect.specs.Effects.{SaidValue}
use Rattle.vk_effect.specs.Reading.{said_of_unread, said_or_stopped}
use Rattle.vk_words.specs.Orders.{HouseWords, Prove, Answer}
use Rattle.vk_auctioneer.specs.Answers.{Leaves, Says}
use Rattle.vk_auctioneer.specs.Effects.{board_file, reply_file}
use Rattle.vk_auctioneer.specs.Inputs.{challenge_in}
use Rattle.vk_auctioneer.specs.Laws.{IsText}
use Rattle.vk_auctioneer.specs.Leaving.{HasAnswered, HoldsFirst, IsProvedWith, LeavesAsSaid, LeavesDone, LeavesFiles, LeavesStopped}
use Rattle.vk_auctioneer.proofs.Reading.{challenge_refused, reads_challenge}

-- ---- one end

-- all files stay, and the command was not done
files_refused : (words : HouseWords) (said : SaidValue) (old new : Files) → said.status ≢ 0
    → new ≡ old → LeavesFiles words said.status old new
files_refused words said old new not_done same =
    record { done = λ is_done. absurd (not_done is_done); refused = λ _. same }

-- it was done
files_done : (words : HouseWords) (said : SaidValue) (old new : Files) → said.status ≡ 0
    → LeavesDone words old new → LeavesFiles words said.status old new
files_done words said old new is_done left =
    record { done = λ _. left; refused = λ not_done. absurd (not_done is_done) }

-- a command that was done left its file whole, which is all of its first bytes
whole_held : (name text : List ℕ) (old new : Files) → new ≡ insert old name text
    → HoldsFirst name text old new
whole_held name text old new is =
    (length text, omega arith, is ∙ ap (insert old name) (sym (take_all (length text) text (omega arith))))

begun_by : (words : HouseWords) (old new : Files) → LeavesDone words old new
    → LeavesStopped words old new
begun_by (Prove id seed board) old new (auction, left) =
    inr (auction, left.is, whole_held board (board_of auction) old new left.files_are)
begun_by (Answer id challenge reply) old new (auction, (given, left)) =
    inr (auction, (given, left.is, whole_held reply (reply_of auction given) old new left.files_are))
begun_by words old new left = inl left

-- so a command that ended left what one leaves that is stopped later, while it prints
pub ended_stopped : (words : HouseWords) (status : ℕ) (old new : Files)
    → LeavesFiles words status old new → LeavesStopped words old new
ended_stopped words zero old new left = begun_by words old new (left.done refl)
ended_stopped words (suc n) old new left = inl (left.refused (λ is. cc))

-- its file was divided
divided_begins : (name text : List ℕ) (old new : Files) → IsDivided ((name, text) ∷ []) old new
    → (new ≡ old) ⊎ HoldsFirst name text old new
divided_begins name text old new (inl (inl same)) = inl same
divided_begins name text old new (inl (inr first)) = inr first
divided_begins name text old new (inr whole) = inr (whole_held name text old new whole)

-- ---- `prove`

-- every job's auction is proved
abbrev pub AreProved : Result JobValue HouseErr → Type 0
AreProved answer = IfOk answer (λ job. IsProvedAuction job.auction)

module _ (id seed board : List ℕ) where
  board_begun : (auction : Auction) (old new : Files) → IsProvedWith id seed auction
      → (new ≡ old) ⊎ HoldsFirst board (board_of auction) old new
      → LeavesStopped (Prove id seed board) old new
  board_begun auction old new is (inl same) = inl same
  board_begun auction old new is (inr first) = inr (auction, is, first)

  pub board_left : (answer : Result JobValue HouseErr) (result : Result SaidValue OutsideErr)
      (held now : Option Files) → Says (house.Prove id seed) (as_reply work_of answer) result
      → Modelled (Leaves (board_file board (as_reply work_of answer)) result) held now
      → IfOk answer (λ job. job.auction.id ≡ id)
      → IfOk answer (λ job. seed_of job.auction.phase ≡ Some seed) → AreProved answer
      → LeavesAsSaid (Prove id seed board) result held now
  board_left answer result None now says left id_is seed_is proved = left
  board_left answer result (Some old) None says left id_is seed_is proved = absurd left
  board_left (Ok job) (Err stop) (Some old) (Some new) says left id_is seed_is proved =
      board_begun job.auction old new
      (record { id_is = id_is; proved = proved; seed_is = seed_is })
      (divided_begins board (board_of job.auction) old new left)
  board_left (Err refusal) (Err stop) (Some old) (Some new) says left id_is seed_is proved =
      inl left
  board_left (Ok job) (Ok said) (Some old) (Some new) says left id_is seed_is proved =
      files_done (Prove id seed board) said old new (ap (λ (s : SaidValue). s.status) says.1) (
        job.auction,
        record {
          is = record { id_is = id_is; proved = proved; seed_is = seed_is };
          files_are = left;
        },
      )
  board_left (Err refusal) (Ok said) (Some old) (Some new) says left id_is seed_is proved =
      files_refused (Prove id seed board) said old new
      (λ is_done. omega (arith, ap (λ (s : SaidValue). s.status) says.1, is_done)) left

-- ---- `answer`

module _ (id name reply : List ℕ) (challenge : Challenge) where
  answered_by : (auction : Auction) (files : Files) → auction.id ≡ id → IsProvedAuction auction
      → challenge_of auction.phase ≡ Some challenge → IsText files name challenge
      → HasAnswered id name files auction challenge
  answered_by auction files id_is proved answered text =
      let bits = subst (λ found. IfSome found (λ (c : Challenge). length c.bits ≡ auction.lanes))
      answered proved.right.held.bits in
      record {
        id_is = id_is;
        proved = proved;
        asked = record { right = text.right; one_bit_each = bits };
        answered = answered;
        read = text;
      }

  reply_begun : (auction : Auction) (old new : Files) → HasAnswered id name old auction challenge
      → (new ≡ old) ⊎ HoldsFirst reply (reply_of auction challenge) old new
      → LeavesStopped (Answer id name reply) old new
  reply_begun auction old new is (inl same) = inl same
  reply_begun auction old new is (inr first) = inr (auction, (challenge, is, first))

  pub reply_left : (answer : Result JobValue HouseErr) (result : Result SaidValue OutsideErr)
      (held now : Option Files) → Says (house.Answer id challenge) (as_reply work_of answer) result
      → Modelled (Leaves (reply_file reply challenge (as_reply work_of answer)) result) held now
      → IfOk answer (λ job. job.auction.id ≡ id)
      → IfOk answer (λ job. challenge_of job.auction.phase ≡ Some challenge) → AreProved answer
      → IfSome held (λ files. IsText files name challenge)
      → LeavesAsSaid (Answer id name reply) result held now
  reply_left answer result None now says left id_is answered proved text = left
  reply_left answer result (Some old) None says left id_is answered proved text = absurd left
  reply_left (Ok job) (Err stop) (Some old) (Some new) says left id_is answered proved text =
      reply_begun job.auction old new (answered_by job.auction old id_is proved answered text)
      (divided_begins reply (reply_of job.auction challenge) old new left)
  reply_left (Err refusal) (Err stop) (Some old) (Some new) says left id_is answered proved text =
      inl left
  reply_left (Ok job) (Ok said) (Some old) (Some new) says left id_is answered proved text =
      files_done (Answer id name reply) said old new (ap (λ (s : SaidValue). s.status) says.1) (
        job.auction,
        (
          challenge,
          record {
            is = answered_by job.auction old id_is proved answered text;
            files_are = left;
          },
        ),
      )
  reply_left (Err refusal) (Ok said) (Some old) (Some new) says left id_is answered proved text =
      files_refused (Answer id name reply) said old new
      (λ is_done. omega (arith, ap (λ (s : SaidValue). s.status) says.1, is_done)) left

-- its challenge was read, which left all files, and the command went on
text_read : (name : List ℕ) (challenge : Challenge) (files : Option Files)
    → IfSome files (λ f. challenge_in f name ≡ Ok challenge)
    → IfSome files (λ f. IsText f name challenge)
text_read name challenge None read = tt
text_read name challenge (Some f) read = ((reads_challenge f name).read challenge).0 read

pub after_reading : (words : HouseWords) (name : List ℕ) (challenge : Challenge)
    (answer : Result SaidValue OutsideErr) (held between now : Option Files) → between ≡ held
    → IfSome held (λ files. challenge_in files name ≡ Ok challenge)
    → (IfSome between (λ files. IsText files name challenge)
    → LeavesAsSaid words answer between now) → LeavesAsSaid words answer held now
after_reading words name challenge answer held between now same read left =
    subst (λ files. LeavesAsSaid words answer files now) same
    (left (text_read name challenge between
    (subst (λ files. IfSome files (λ f. challenge_in f name ≡ Ok challenge)) (sym same) read)))

-- it wasn't read
pub unread_left : (words : HouseWords) (name : List ℕ) (refusal : Unread) (held now : Option Files)
    → now ≡ held → IfSome held
    (λ files. Gives {T = Challenge} said_of_unread (λ x. x) (Err refusal) (challenge_in files name))
    → LeavesAsSaid words (said_or_stopped refusal) held now
unread_left words name refusal None now same is = same
unread_left words name refusal (Some old) None same is = cc
unread_left words name (unread.Said said) (Some old) (Some new) same is =
    files_refused words said old new (challenge_refused old name said is) (same_Some new old same)
unread_left words name unread.Failed (Some old) (Some new) same is = inl (same_Some new old same)
unread_left words name unread.NoMemory (Some old) (Some new) same is = inl (same_Some new old same)
