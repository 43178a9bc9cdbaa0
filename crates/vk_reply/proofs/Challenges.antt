-- A challenge is read from its text alone, and reading stops at the fault line.
use Rattle.std.proofs.Common.{◌≡◌, ℕ, Bool, List, codes, refl, ap, arith}
use Rattle.std.specs.Result.{result_err}
use Rattle.vk_lines.specs.Forms.{IsWhole, FindsFaults, fault_line, whole}
use Rattle.vk_lines.proofs.Words.{fixed_line}
use Rattle.vk_lines.proofs.Parts.{line_part, whole_then, whole_end, whole_same}
use Rattle.vk_lines.proofs.Faults.{line_follows, ends_then, end_ends, ends_done, fault_line_is}
use Rattle.vk_lines.proofs.Modelled.{reads_whole}
use Rattle.vk_reply.specs.declared.challenge.Challenge.{Challenge}
use Rattle.vk_reply.specs.Values.{IsChallenge}
use Rattle.vk_reply.specs.Texts.{challenge_text}
use Rattle.vk_reply.specs.Reading.{challenge_at}
use Rattle.vk_reply.specs.Tables.{Heading, Bits, Last, Over, challenge_table}
use Rattle.vk_reply.proofs.Lines.{bits_line_is}

abbrev challenge_of : List Bool → Challenge
challenge_of bits = record { bits = bits }

pub challenge_is_whole : IsWhole IsChallenge challenge_text challenge_at
unfolding challenge_text challenge_at
challenge_is_whole =
    whole_same (
    whole_then (λ challenge. tt)
    (line_part (fixed_line (codes "vickrey-challenge 1") refl (omega arith))) (λ heading _.
    whole_then (λ challenge. challenge.bits) (line_part bits_line_is)
    (λ bits _. whole_end (challenge_of bits)) (λ bits challenge same. ap (λ c. c.bits) same))
    (λ heading challenge is. refl)
    )
    (λ challenge is. record { some_bit = is.1.0.0; few_bits = is.1.0.1 })
    (λ challenge is. (tt, ((is.some_bit, is.few_bits), refl)))
    (λ challenge. refl)

pub challenge_ends : FindsFaults challenge_table Heading challenge_at
unfolding challenge_at
challenge_ends =
    ends_then challenge_table Heading
    (line_follows challenge_table Heading _ (λ _. Bits) (λ text. refl) refl) (λ heading.
    ends_then challenge_table Bits
    (line_follows challenge_table Bits _ (λ _. Last) (λ text. refl) refl) (λ bits.
    ends_done challenge_table Last (challenge_of bits)
    (end_ends challenge_table Last Over (λ text. refl) refl (λ text. refl) refl)))

pub challenge_fault : (bytes : List ℕ)
    → fault_line challenge_table bytes ≡ result_err (whole challenge_at bytes)
challenge_fault bytes = fault_line_is challenge_table challenge_at challenge_ends bytes

-- what a whole challenge is read by
pub ruleset whole_rules = (reads_whole, challenge_is_whole, challenge_ends)
