use Rattle.std.proofs.Common.{◌≡◌, ◌+◌, drop, map, string_bytes}
use Rattle.vk_words.specs.Hints.{first_unfit}
use Rattle.vk_words.proofs.hints.first_unfit.Given as goal

-- the kinds so far are met, so the first that isn't is among those that are left
abbrev pub invariant-loop-kind : goal.invariant-loop-kind
invariant-loop-kind l =
    record {
      rest : first_unfit (drop l.kind-index l.kinds) (map string_bytes l.words) l.place
          ≡ first_unfit l.kinds (map string_bytes l.words) l.fn.place;
      place : l.place ≡ l.fn.place + l.kind-index;
    }
