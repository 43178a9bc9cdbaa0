use Rattle.std.proofs.Common.{◌≡◌}
use Rattle.vk_files.proofs.store.Store.push_ids.Given as goal

-- what was found so far was no fault
abbrev pub invariant-loop-path : goal.invariant-loop-path
invariant-loop-path g l = l.faults ≡ l.fn.faults
