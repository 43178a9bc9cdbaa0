use Rattle.std.proofs.Common.{length, ◌≡◌, ◌+◌, ◌-◌, [], IfSome, Ok}
use Rattle.vk_lines.specs.Forms.{EachAfter, many_onto}
use Rattle.vk_lines.specs.Lines.{KeepsFile, OnlyReads, rest_of}
use Rattle.vk_lines.specs.declared.errors.ReadErr.TheVariants.{Failed}
use Rattle.vk_coin.specs.Coins.{IsShareOf}
use Rattle.vk_coin.specs.Reading.{shown_at}
use Rattle.vk_coin.proofs.reading.read_shares.Given as goal

-- what is left gives the rest of the shares, and the shelf was only read
abbrev pub invariant-loop-index : goal.invariant-loop-index
invariant-loop-index g l = record {
  modelled : IfSome (g.S.Shelf.held l.fn.shelf) (λ files.
      many_onto l.shares (l.auditors - l.index)
      (λ before. shown_at l.auction l.bits (length before + 1)) (rest_of l.lines files)
      ≡ many_onto [] l.auditors (λ before. shown_at l.auction l.bits (length before + 1))
      (rest_of l.fn.lines files));
  count : length l.shares ≡ l.index;
  right : EachAfter (λ before. IsShareOf l.auction l.bits (length before + 1)) [] l.shares;
  shelf : OnlyReads {T = Unit {0}} g.S.Shelf.held g.S.Shelf.faults Failed (Ok tt) l.fn.shelf
      l.shelf;
  file : KeepsFile l.fn.lines l.lines;
}
