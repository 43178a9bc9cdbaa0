-- The commitments of a wire as what two digests make.
use Rattle.std.specs.Prelude.{ℕ, List}
use Rattle.vk_wire.specs.declared.wire.WireCom.{WireCom}

abbrev pub com_by : List ℕ → List ℕ → WireCom
com_by first second = record { first = first; second = second }
