-- The lines of a board are read from their texts alone.
use Rattle.std.proofs.Common.{◌≡◌, ℕ, ◌-◌, ◌≤◌, ◌==◌, nat_le, Bool, true, false, if◌then◌else◌, List, [], ◌∷◌, length, codes, decimal, Option, Some, None, option_map, refl, arith, subst}
use Rattle.std.specs.List.{AllByRecursion}
use Rattle.std.proofs.lemmas.Bool.{eqb-true}
use Rattle.std.proofs.lemmas.Option.{same_Some}
use Rattle.vk_lines.specs.Forms.{IsLine, is_plain, is_word, spaced}
use Rattle.vk_lines.specs.Tokens.{number_line, word_of}
use Rattle.vk_lines.proofs.Words.{decimal_token, digests_line_is, from_test, meeting_token, number_line_is, one_line, to_test, word_shown}
use Rattle.vk_residue.specs.Residue.{modulus, IsResidue}
use Rattle.vk_wire.specs.Coms.{com_by}
use Rattle.vk_wire.specs.Values.{IsCom}
use Rattle.vk_board.specs.Values.{IsSeat, IsWinner}
use Rattle.vk_board.specs.Texts.{com_text, posted_text, winner_text}
use Rattle.vk_board.specs.Reading.{com_line, posted_line, is_new_seat, seat_line, unsold_line, winner_or, winner_line}

pub com_line_is : (word : List ℕ) → is_word word ≡ true → length word ≤ 100
    → IsLine IsCom (com_text word) (com_line word)
com_line_is word is_a_word short =
    digests_line_is word is_a_word short com_by (λ digests. digests.first)
    (λ digests. digests.second)
    (λ x. refl) (λ a b. refl) (λ a b. refl)

pub posted_line_is : IsLine (λ number. number ≤ modulus - 1) posted_text posted_line
posted_line_is = one_line (codes "d") refl (decimal_token (modulus - 1) (omega arith)) (omega arith)

pub seat_line_is : (seats : List ℕ)
    → IsLine (λ seat. ((seat ≤ 65535) × (nat_le 1 seat ≡ true)) × (is_new_seat seats seat ≡ true))
    (λ seat. spaced (codes "seal" ∷ decimal seat ∷ [])) (seat_line seats)
seat_line_is seats = one_line (codes "seal") refl
    (meeting_token (is_new_seat seats)
    (meeting_token (nat_le 1) (decimal_token 65535 (omega arith)))) (omega arith)

-- ---- the winner

seat_is : IsLine (λ seat. (seat ≤ 65535) × (nat_le 1 seat ≡ true))
    (λ seat. spaced (codes "winner" ∷ decimal seat ∷ [])) (number_line (codes "winner") 1 65535)
seat_is = number_line_is (codes "winner") 1 65535 refl (omega arith) (omega arith)

in_range : (seat : ℕ) → IsSeat seat → (seat ≤ 65535) × (nat_le 1 seat ≡ true)
in_range seat is = (is.most, to_test 1 seat is.least)

winner_found : (version : ℕ) (winner : Option ℕ) → IsWinner version winner
    → winner_line version (winner_text winner) ≡ Some winner
winner_found version (Some seat) is = rw (seat_is.found seat (in_range seat is)) refl
winner_found version None is = rw is refl

unsold_shown : (version : ℕ) (second : Bool) (line : List ℕ) (word : Option Unit)
    (winner : Option ℕ) → (version == 2) ≡ second → word_of (codes "unsold") line ≡ word
    → (if second then option_map (λ _. None) word else None) ≡ Some winner → IsWinner version winner
    × (line ≡ winner_text winner)
unsold_shown version true line (Some u) (Some seat) test said is = cc
unsold_shown version true line (Some u) None test said is =
    (eqb-true version 2 test, word_shown (codes "unsold") line said)
unsold_shown version true line None winner test said is = cc
unsold_shown version false line word winner test said is = cc

winner_shown : (version : ℕ) (line : List ℕ) (read winner : Option ℕ)
    → number_line (codes "winner") 1 65535 line ≡ read
    → winner_or read (unsold_line version line) ≡ Some winner
    → IsWinner version winner × (line ≡ winner_text winner)
winner_shown version line (Some seat) (Some other) read is =
    let same : Some seat ≡ Some other = same_Some (Some seat) (Some other) is in
    let shown = seat_is.shown line seat read in
    let P : Option ℕ → Type 0 = λ winner. IsWinner version winner × (line ≡ winner_text winner) in
    subst P same (record { least = from_test 1 seat shown.0.1; most = shown.0.0 }, shown.1)
winner_shown version line (Some seat) None read is = cc
winner_shown version line None winner read is =
    unsold_shown version (version == 2) line (word_of (codes "unsold") line) winner refl refl is

winner_plain : (version : ℕ) (winner : Option ℕ) → IsWinner version winner
    → is_plain (winner_text winner) ≡ true
winner_plain version (Some seat) is = seat_is.plain seat (in_range seat is)
winner_plain version None is = refl

winner_short : (version : ℕ) (winner : Option ℕ) → IsWinner version winner
    → length (winner_text winner) ≤ 255
winner_short version (Some seat) is = seat_is.short seat (in_range seat is)
winner_short version None is = omega arith

pub winner_line_is : (version : ℕ) → IsLine (IsWinner version) winner_text (winner_line version)
winner_line_is version = record {
  found = winner_found version;
  shown = λ line winner. winner_shown version line (number_line (codes "winner") 1 65535 line)
      winner refl;
  plain = winner_plain version;
  short = winner_short version;
}

-- ---- residues

-- numbers that are at most the greatest residue are residues
pub to_residues : (numbers : List ℕ) → AllByRecursion (λ number. number ≤ modulus - 1) numbers
    → AllByRecursion IsResidue numbers
to_residues [] all = tt
to_residues (number ∷ numbers) all = let small = all.0 in (omega arith, to_residues numbers all.1)

pub from_residues : (numbers : List ℕ) → AllByRecursion IsResidue numbers
    → AllByRecursion (λ number. number ≤ modulus - 1) numbers
from_residues [] all = tt
from_residues (number ∷ numbers) all = let small = all.0 in
    (omega arith, from_residues numbers all.1)
