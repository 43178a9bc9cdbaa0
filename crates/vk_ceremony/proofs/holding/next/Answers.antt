use Rattle.std.proofs.Common.{◌∙◌, Ok, Err}
use Rattle.std.proofs.lemmas.Result.{err_from_is_err_and}
use Rattle.vk_ceremony.specs.declared.reading.Line.TheVariants.{Words, End, Malformed}
use Rattle.vk_ceremony.proofs.Turning.{end_told, line_told, none_told, words_found}
use Rattle.vk_ceremony.proofs.Leaving.{closed_turn, last_turn, order_turn, stopped_turn}
use Rattle.vk_ceremony.proofs.holding.next.Goals as goal

-- ---- it was stopped

pub returns-in_err-words-clause-turn : goal.returns-in_err-words-clause-turn
returns-in_err-words-clause-turn g c =
    let p = err_from_is_err_and c.from_residual.result c.from_residual.ensures.1 in
    rw p.1 (stopped_turn _ _ _ _ p.0 _ _ _ _ c.in_err-words.ensures.shelf.held)

pub returns-in_err-fault-in-End-clause-turn : goal.returns-in_err-fault-in-End-clause-turn
returns-in_err-fault-in-End-clause-turn g c =
    let p = err_from_is_err_and c.from_residual-in_err-fault-in-End.result
    c.from_residual-in_err-fault-in-End.ensures.1 in
    rw p.1 (stopped_turn _ _ _ _ p.0 _ _ _ _
    (c.in_err-fault-in-End.ensures.shelf.held ∙ c.in_ok-words.ensures.shelf.held))

-- ---- a command

pub returns-in_err-status-in-Some-clause-turn : goal.returns-in_err-status-in-Some-clause-turn
returns-in_err-status-in-Some-clause-turn g c =
    let p = err_from_is_err_and c.from_residual-in_err-status-in-Some.result
    c.from_residual-in_err-status-in-Some.ensures.1 in
    rw p.1 (order_turn _ c.args.refused _ _ _ _ _ _ _ (Err p.0) _ _
    c.in_ok-words.ensures.shelf.held (c.in_ok-words.ensures.file.name ∙ c.requires)
    (words_found _ _ _ _ _ c.in-Some.ensures.value c.as_slice.ensures.value)
    (line_told _ _ _ _ _ (Words c.in-Words.words) c.in-Words.is c.in_ok-words.ensures.modelled)
    c.in_err-status-in-Some.ensures.ends c.in_err-status-in-Some.ensures.files)

pub returns-in-Some-clause-turn : goal.returns-in-Some-clause-turn
returns-in-Some-clause-turn g c =
    rw c.turn_by.ensures.value
    (order_turn _ _ _ _ _ _ _ _ _ (Ok c.in_ok-status-in-Some.status) _ _
    c.in_ok-words.ensures.shelf.held (c.in_ok-words.ensures.file.name ∙ c.requires)
    (words_found _ _ _ _ _ c.in-Some.ensures.value c.as_slice.ensures.value)
    (line_told _ _ _ _ _ (Words c.in-Words.words) c.in-Words.is c.in_ok-words.ensures.modelled)
    c.in_ok-status-in-Some.ensures.ends c.in_ok-status-in-Some.ensures.files)

-- ---- the script ended

pub returns-in-Words-clause-turn : goal.returns-in-Words-clause-turn
returns-in-Words-clause-turn g c =
    closed_turn _ _ _ _ _ _ _ _ _ _ c.close-turn.result c.in_ok-words.ensures.shelf.held
    (none_told _ _ _ _ _ _ (words_found _ _ _ _ _ c.in-None.ensures.value c.as_slice.ensures.value)
    c.number.ensures.count
    (line_told _ _ _ _ _ (Words c.in-Words.words) c.in-Words.is c.in_ok-words.ensures.modelled))
    c.close-turn.ensures.ends

pub returns-in-End-clause-turn : goal.returns-in-End-clause-turn
returns-in-End-clause-turn g c =
    closed_turn _ _ _ _ _ _ _ _ _ _ c.close-turn-in-End.result
    (c.in_ok-fault-in-End.ensures.shelf.held ∙ c.in_ok-words.ensures.shelf.held)
    (end_told _ _ _ _ _ _ c.in_ok-words.ensures.shelf.held
    (line_told _ _ _ _ _ (End) c.in-End.is c.in_ok-words.ensures.modelled)
    c.in_ok-fault-in-End.ensures.modelled) c.close-turn-in-End.ensures.ends

pub returns-clause-turn : goal.returns-clause-turn
returns-clause-turn g c =
    closed_turn _ _ _ _ _ _ _ _ _ _ c.close-turn-in-Malformed.result
    c.in_ok-words.ensures.shelf.held
    (line_told _ _ _ _ _ (Malformed c.in-Malformed.number) c.in-Malformed.is
    c.in_ok-words.ensures.modelled) c.close-turn-in-Malformed.ensures.ends

pub returns-in-Words-clause-taken : goal.returns-in-Words-clause-taken
returns-in-Words-clause-taken g c = last_turn c.close-turn.result _ c.close-turn.ensures.last

pub returns-in-End-clause-taken : goal.returns-in-End-clause-taken
returns-in-End-clause-taken g c =
    last_turn c.close-turn-in-End.result _ c.close-turn-in-End.ensures.last

pub returns-clause-taken : goal.returns-clause-taken
returns-clause-taken g c =
    last_turn c.close-turn-in-Malformed.result _ c.close-turn-in-Malformed.ensures.last
