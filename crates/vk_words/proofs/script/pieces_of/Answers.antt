use Rattle.std.proofs.Common.{◌∙◌, lit<}
use Rattle.std.proofs.lemmas.Iterator.Consumers.{YieldsList-end}
use Rattle.std.proofs.lemmas.Iterator.Splits.{YieldsList-from_str_split}
use Rattle.vk_words.proofs.script.pieces_of.Goals as goal

pub returns : goal.returns
returns c =
    c.loop-piece.invariant
    ∙ (YieldsList-end (YieldsList-from_str_split 32 c.args.text.now (lit< tt) (cc) (cc) (cc))
    c.loop-piece.yielded _ c.loop-piece.yielded_by _ _ c.in-None.is c.next.ensures.steps).0
