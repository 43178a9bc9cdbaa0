-- What a sample writes is accepted, and read back it opens every bid.
use Rattle.std.proofs.Common.{◌≡◌, ℕ, true, List, [], ◌∷◌, length, refl, sym, ap, ◌∙◌}
use Rattle.std.specs.FinMap.{insert}
use Rattle.std.proofs.lemmas.List.{length-map}
use Rattle.vk_io.specs.Files.{Files}
use Rattle.vk_io.specs.Writing.{written}
use Rattle.vk_reply.specs.declared.challenge.Challenge.{Challenge}
use Rattle.vk_reply.specs.Texts.{challenge_text}
use Rattle.vk_bids.specs.declared.extraction.Extraction.TheVariants.{Bids}
use Rattle.vk_judge.specs.HeldFiles.{HeldAttempt, HeldFiles}
use Rattle.vk_bids.specs.Texts.{has_one_bid}
use Rattle.vk_bids.proofs.Named.{files_are_extracted}
use Rattle.vk_keeper.specs.declared.auction.Auction.{Auction}
use Rattle.vk_vickrey.specs.BoardPlans.{BoardNumbers, board_numbers}
use Rattle.vk_job.specs.Jobs.{numbers_in, sale_in}
use Rattle.vk_job.specs.Proofs.{seal_lines_of}
use Rattle.vk_job.specs.Published.{IsChallengeTo, board_of, reply_of}
use Rattle.vk_honest.specs.Sizes.{board_lines, reply_lines}
use Rattle.vk_honest.proofs.Accepted.{answers_are_accepted}
use Rattle.vk_honest.proofs.Extracted.{bids_are_equal, replies_give_bids, turned_open_all}
use Rattle.vk_honest.proofs.Sizes.{boards_are_short, boards_have_lines, challenges_are_short, replies_are_short, replies_have_lines}
use Rattle.vk_report.specs.declared.sample.SampleCase.{SampleCase}
use Rattle.vk_report.specs.Samples.{IsSampleCase, auction_sizes}
use Rattle.vk_words.specs.Names.{AttemptWords}
use Rattle.vk_sample.specs.Laws.{SampleIsAccepted, HasLines, IsAuctionOf, SampleOpensAll, opened}
use Rattle.vk_sample.specs.Texts.{files_of, sample_names}
use Rattle.vk_sample_parts.proofs.Counted.{all_counted, held_first, none_named}

-- how many lines, by other numbers and lanes that are the same
lines_of_sizes : (lines : BoardNumbers → ℕ → ℕ) (one numbers : BoardNumbers) (lanes many : ℕ)
    → one ≡ numbers → lanes ≡ many → lines one lanes ≡ lines numbers many
lines_of_sizes lines one numbers lanes many same as_many =
    ap (λ n. lines n lanes) same ∙ ap (lines numbers) as_many

module _ (sample : SampleCase) (case : IsSampleCase sample) (auction : Auction) (is : IsAuctionOf sample auction) where
  pub has_lines : HasLines sample auction
  has_lines =
      let sale = sale_in auction in
      let numbers : numbers_in auction
      ≡ board_numbers 1 auction_sizes.seals auction_sizes.width 0 sale =
      ap (λ version. board_numbers version (length auction.seals) auction.width auction.reserve
      sale) is.version_is
      ∙ ap (λ n. board_numbers 1 n auction.width auction.reserve sale) is.seals_are
      ∙ ap (λ w. board_numbers 1 auction_sizes.seals w auction.reserve sale) is.width_is
      ∙ ap (λ reserve. board_numbers 1 auction_sizes.seals auction_sizes.width reserve sale)
      is.reserve_is in
      let reply = lines_of_sizes reply_lines (numbers_in auction) _ auction.lanes _ numbers
      is.lanes_are in
      record {
        board = boards_have_lines auction is.proved
            ∙ lines_of_sizes board_lines (numbers_in auction) _ auction.lanes _ numbers
            is.lanes_are;
        first = replies_have_lines auction sample.first is.proved is.first ∙ reply;
        second = replies_have_lines auction sample.second is.proved is.second ∙ reply;
      }

  pub are_accepted : SampleIsAccepted sample auction
  are_accepted = record {
    first = answers_are_accepted auction sample.first is.proved is.first;
    second = answers_are_accepted auction sample.second is.proved is.second;
  }

  -- a challenge and the reply to it, which are written before others of other names
  abbrev attempt : (before : Files) (others : List (List ℕ × List ℕ)) (names : AttemptWords)
      (challenge : Challenge) → IsChallengeTo auction challenge
      → none_named names.challenge ((names.reply, reply_of auction challenge) ∷ others) ≡ true
      → none_named names.reply others ≡ true
      → HeldAttempt (written ((names.challenge, challenge_text challenge)
      ∷ (names.reply, reply_of auction challenge) ∷ others) before) names.challenge names.reply
  attempt before others names challenge asked challenge_alone reply_alone = record {
    challenge_bytes = challenge_text challenge;
    reply_bytes = reply_of auction challenge;
    challenge_is = record {
      is = held_first ((names.reply, reply_of auction challenge) ∷ others) before names.challenge
          (challenge_text challenge) challenge_alone;
      short = challenges_are_short challenge asked.right;
    };
    reply_is = record {
      is = held_first others (insert before names.challenge (challenge_text challenge)) names.reply
          (reply_of auction challenge) reply_alone;
      short = replies_are_short auction challenge is.proved asked;
    };
  }

  abbrev second_attempt : List (List ℕ × List ℕ)
  second_attempt = (sample_names.second.challenge, challenge_text sample.second)
      ∷ (sample_names.second.reply, reply_of auction sample.second) ∷ []

  abbrev both_attempts : List (List ℕ × List ℕ)
  both_attempts = (sample_names.first.challenge, challenge_text sample.first)
      ∷ (sample_names.first.reply, reply_of auction sample.first) ∷ second_attempt

  abbrev held : (files : Files)
      → HeldFiles (written (files_of sample auction) files) sample_names.board
      sample_names.first.challenge sample_names.first.reply sample_names.second.challenge
      sample_names.second.reply
  held files =
      let board = insert files sample_names.board (board_of auction) in
      let first = insert (insert board sample_names.first.challenge (challenge_text sample.first))
      sample_names.first.reply (reply_of auction sample.first) in
      record {
        file_bytes = board_of auction;
        file_is = record {
          is =
              held_first both_attempts files sample_names.board (board_of auction) refl;
          short =
              boards_are_short auction is.proved;
        };
        first = attempt board second_attempt sample_names.first sample.first is.first refl refl;
        second = attempt first [] sample_names.second sample.second is.second refl refl;
      }

  pub opens_all : SampleOpensAll sample auction
  opens_all =
      let turned = turned_open_all auction sample.first sample.second is.first case.right.turned in
      let gives = replies_give_bids auction sample.first sample.second is.proved is.first is.second
      turned.0 in
      let count : length (opened sample auction).front.seals ≡ auction_sizes.seals =
      length-map auction.seals seal_lines_of ∙ is.seals_are in
      record {
        read = λ files.
            (files_are_extracted (written (files_of sample auction) files) sample_names.board
            sample_names.first.challenge sample_names.first.reply
            sample_names.second.challenge sample_names.second.reply
            (Bids (opened sample auction))).1 (record { held = held files; is = sym gives });
        all_lanes = turned.1 ∙ is.lanes_are;
        all_seals = count;
        all_same =
            all_counted (λ index. has_one_bid index (opened sample auction).lanes)
            (bids_are_equal auction sample.first sample.second) 0
            (length (opened sample auction).front.seals)
            ∙ count;
      }
