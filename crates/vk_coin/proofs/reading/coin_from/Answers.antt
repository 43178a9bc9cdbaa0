use Rattle.std.proofs.lemmas.List.Elements.{recursion_from_All}
use Rattle.vk_commit.specs.Values.{AreBytes}
use Rattle.vk_coin.proofs.Shown.{shares_at_places}
use Rattle.vk_coin.proofs.reading.coin_from.Goals as goal

pub returns-clause-right : goal.returns-clause-right
returns-clause-right c = record {
  id = c.requires.id;
  bits = record { least = c.requires.some_bit; most = c.requires.few_bits };
  auditors = record { least = c.requires.some_part; most = c.requires.few_parts };
  parts = recursion_from_All (AreBytes 32) c.args.parts c.requires.parts;
  one_each = c.requires.one_each;
  shares = shares_at_places c.args.auction.now c.args.bits c.args.shares c.requires.shares;
}
