-- What `sample` says, and which files it writes.
use Rattle.std.specs.Prelude.{ℕ, List, [], ◌∷◌, ◌++◌, length, codes, decimal, Result, Ok, Err}
use Rattle.vk_board.specs.declared.board.Head.{Head}
use Rattle.vk_io.specs.Files.{Files}
use Rattle.vk_reply.specs.Texts.{challenge_text}
use Rattle.vk_judge.specs.declared.answers.VErr.{VErr}
use Rattle.vk_bids.specs.Extraction.{Extraction, extraction_on}
use Rattle.vk_bids.specs.declared.extraction.Extraction.TheVariants.{Refused, Same, Clash, Bids}
use Rattle.vk_bids.specs.Texts.{sale_line}
use Rattle.vk_keeper.specs.declared.auction.Auction.{Auction}
use Rattle.vk_job.specs.Published.{board_of, reply_of}
use Rattle.vk_honest.specs.Sizes.{board_lines, reply_lines}
use Rattle.vk_report.specs.declared.sample.SampleCase.{SampleCase}
use Rattle.vk_report.specs.Reports.{head_numbers}
use Rattle.vk_words.specs.Names.{ExtractWords}
use Rattle.vk_effect.specs.Effects.{SaidValue}
use Rattle.vk_effect.specs.Texts.{◌+++◌, line_feed}
use Rattle.vk_audit.specs.Extractions.{extraction_said}
use Rattle.vk_audit.specs.Verdicts.{name_of, unread_said}
use Rattle.vk_sample_parts.specs.Texts.{found_text, same_count}

-- ---- the five files

abbrev pub sample_names : ExtractWords
sample_names = record {
  board = codes "sample-board";
  first = record { challenge = codes "sample-challenge-1"; reply = codes "sample-reply-1" };
  second = record { challenge = codes "sample-challenge-2"; reply = codes "sample-reply-2" };
}

-- what files of these names come to
abbrev pub sample_read : Files → Result Extraction VErr
sample_read files =
    extraction_on files sample_names.board sample_names.first.challenge sample_names.first.reply
    sample_names.second.challenge sample_names.second.reply

-- those that are written, in order: the honest prover's board and its replies to both challenges
abbrev pub files_of : SampleCase → Auction → List (List ℕ × List ℕ)
files_of sample auction =
    (sample_names.board, board_of auction)
    ∷ (sample_names.first.challenge, challenge_text sample.first)
    ∷ (sample_names.first.reply, reply_of auction sample.first)
    ∷ (sample_names.second.challenge, challenge_text sample.second)
    ∷ (sample_names.second.reply, reply_of auction sample.second)
    ∷ []

-- ---- the summary

-- of the auction as it was made, by the head of its board: how many lines the board and a reply
-- have, and the sale
abbrev pub size_line : Head → List ℕ
size_line head = codes "seals " +++ decimal head.seals +++ codes " width " +++ decimal head.width
    +++ codes " lanes " +++ decimal head.lanes +++ line_feed

abbrev pub counts_text : ℕ → ℕ → List ℕ
counts_text board reply = (codes "board lines " +++ decimal board +++ line_feed)
    ++ (codes "reply lines " +++ decimal reply +++ line_feed)

abbrev pub made_text : ℕ → Head → List ℕ
made_text number head =
    (codes "sample " +++ decimal number +++ line_feed)
    ++ (size_line head
    ++ (counts_text (board_lines (head_numbers head) head.lanes)
    (reply_lines (head_numbers head) head.lanes)
    ++ sale_line head))

-- what is said of the files as they were read back: bids are opened only where both replies are
-- accepted. Else what `extract` says
abbrev pub opened_said : List ℕ → Extraction → SaidValue
opened_said made (Bids found) =
    record {
      status = 0;
      text = made
          ++ found_text (length found.lanes) (same_count (length found.front.seals) found.lanes);
    }
opened_said made Same = extraction_said sample_names Same
opened_said made (Refused second verdict) = extraction_said sample_names (Refused second verdict)
opened_said made (Clash two) = extraction_said sample_names (Clash two)

abbrev pub read_said : List ℕ → Result Extraction VErr → SaidValue
read_said made (Ok extraction) = opened_said made extraction
read_said made (Err fault) = unread_said (name_of sample_names) fault

-- the summary of files that both replies are accepted of, and that open the same bid of every seal
-- in every lane
abbrev pub summary_said : ℕ → Head → SaidValue
summary_said number head = record {
  status = 0;
  text = made_text number head ++ found_text head.lanes head.seals;
}
