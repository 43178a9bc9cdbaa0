use Rattle.std.proofs.Common.{◌≡◌, ◌-◌, ◌^◌, false}
use Rattle.vk_io.specs.Files.{Modelled}
use Rattle.vk_house.specs.Once.{KeepsAnswers}
use Rattle.vk_effect.specs.Effects.{outside, stores}
use Rattle.vk_ceremony.specs.Leaving.{Continues}
use Rattle.vk_ceremony.specs.Turns.{left_of}
use Rattle.vk_ceremony.proofs.Leading.{LeadsSome}
use Rattle.vk_ceremony.proofs.holding.hold.Given as goal

-- what is left of the script gives what is left of the ceremony
abbrev pub invariant-lines : goal.invariant-lines
invariant-lines g l = record {
  modelled : LeadsSome (left_of l.fn.script false l.fn.lines
      (stores (g.S.Shelf.held l.fn.shelf) (g.K.Keeper.ledger l.fn.keeper)))
      (outside (stores (g.S.Shelf.held l.fn.shelf) (g.K.Keeper.ledger l.fn.keeper))
      (g.W.Sink.taken l.fn.out))
      (left_of l.fn.script l.refused l.lines
      (stores (g.S.Shelf.held l.shelf) (g.K.Keeper.ledger l.keeper)))
      (outside (stores (g.S.Shelf.held l.shelf) (g.K.Keeper.ledger l.keeper))
      (g.W.Sink.taken l.out));
  files : Modelled (Continues l.fn.script false l.fn.lines l.refused l.lines)
      (g.S.Shelf.held l.fn.shelf) (g.S.Shelf.held l.shelf);
  named : l.lines.name ≡ l.fn.script;
  once : Modelled KeepsAnswers (g.K.Keeper.ledger l.fn.keeper) (g.K.Keeper.ledger l.keeper);
  shelf : g.S.Shelf.faults l.shelf ≡ g.S.Shelf.faults l.fn.shelf;
  keeper : g.K.Keeper.faults l.keeper ≡ g.K.Keeper.faults l.fn.keeper;
  out : g.W.Sink.faults l.out ≡ g.W.Sink.faults l.fn.out;
}

-- the lines that a file may still have
abbrev pub decreases-lines : goal.decreases-lines
decreases-lines g l = 2 ^ 30 - l.lines.taken
