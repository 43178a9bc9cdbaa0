-- A reply as a whole file, where its head is read.
use Rattle.std.proofs.Common.{◌≡◌, ℕ, Bool, List, Result, Ok, Err, ap}
use Rattle.vk_residue.specs.Steps.{◌>>=◌}
use Rattle.vk_lines.specs.Lines.{Rest, end_at}
use Rattle.vk_plan.specs.declared.wire.WireKind.{WireKind}
use Rattle.vk_wire.specs.declared.wire.Shown.{Shown}
use Rattle.vk_reply.specs.Reading.{reply_head_at, reply_lanes_at, reply_at}

abbrev pub lanes_and_end : List WireKind → (ℕ → Bool) → ℕ → Rest
    → Result (List (List Shown) × Rest) ℕ
lanes_and_end kinds bit_of count rest =
    reply_lanes_at kinds bit_of count rest >>= λ lanes. end_at lanes.1 >>= λ over.
    Ok (lanes.0, over.1)

module _ (kinds : List WireKind) (bit_of : ℕ → Bool) (rest : Rest) where
  pub reply_behind : (count : ℕ) (after : Rest) → reply_head_at rest ≡ Ok (count, after)
      → reply_at kinds bit_of rest ≡ lanes_and_end kinds bit_of count after
  unfolding reply_at
  reply_behind count after read = ap (λ r. r >>= λ p. lanes_and_end kinds bit_of p.0 p.1) read

  pub reply_no_head : (line : ℕ) → reply_head_at rest ≡ Err line
      → reply_at kinds bit_of rest ≡ Err line
  unfolding reply_at
  reply_no_head line stop = ap (λ r. r >>= λ p. lanes_and_end kinds bit_of p.0 p.1) stop
