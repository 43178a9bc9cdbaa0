use Rattle.vk_words.proofs.Rows.{found_row}
use Rattle.vk_words.proofs.table.row_of.Goals as goal

pub returns : goal.returns
returns c = found_row c.args.word.now c.command_rows.result.now c.first_named-row.result
    c.first_named-row.ensures c.command_rows.ensures
