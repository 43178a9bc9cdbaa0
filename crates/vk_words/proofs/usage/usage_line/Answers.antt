use Rattle.std.proofs.Common.{◌∙◌, arith, rules}
use Rattle.vk_words.proofs.Listing.{all_there, before_fits, listed_first, name_fits, one_more, part_fits, some_left}
use Rattle.vk_words.proofs.usage.usage_line.Goals as goal

pub loop-row-init : goal.loop-row-init
loop-row-init c = (
  search rules,
  rw (c.new-text.ensures, c.command_rows-row-items.ensures) listed_first,
)

pub word-requires : goal.word-requires
word-requires c =
    let turn = c.loop-row in
    let left = some_left c.command_rows-row-items.result.now turn.row-index c.loop-row-test.true in
    record { room = before_fits turn.text turn.before.now _ left turn.invariant.1 }

pub word-text-requires : goal.word-text-requires
word-text-requires c =
    let turn = c.loop-row in
    let rows = c.command_rows-row-items.result.now in
    record {
      room = name_fits turn.text turn.before.now c.word.result rows turn.row-index _
          c.loop-row-test.true c.word.ensures.text turn.invariant.1;
    }

pub loop-row-preserved : goal.loop-row-preserved
loop-row-preserved c =
    let turn = c.loop-row in
    let rows = c.command_rows-row-items.result.now in (
      search rules,
      rw (c.word-text.ensures.text, c.word.ensures.text)
          (one_more turn.text turn.before.now rows turn.row-index _ c.loop-row-test.true
          turn.invariant.1),
    )

pub word-requires-2 : goal.word-requires-2
word-requires-2 c = record {
  room =
      omega (arith, part_fits c.loop-row.text _ c.loop-row.invariant.1);
}

pub returns : goal.returns
returns c =
    let turn = c.loop-row in
    let rows = c.command_rows-row-items.result.now in
    c.word-2.ensures.text ∙ all_there turn.text turn.before.now rows turn.row-index
    c.loop-row-test.false turn.invariant.1
