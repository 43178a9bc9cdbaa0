use Rattle.vk_judge.specs.Opened.{checked_base}
use Rattle.vk_bids.proofs.Boards.{board_shows}
use Rattle.vk_bids.proofs.extraction.extract_rest.Goals as goal

pub returns-clause-shows : goal.returns-clause-shows
returns-clause-shows g c =
    board_shows (checked_base c.args.checker) c.in_ok-found.found c.as_extraction-extraction.result
    c.requires.right c.in_ok-found.ensures.opens c.as_extraction-extraction.ensures
