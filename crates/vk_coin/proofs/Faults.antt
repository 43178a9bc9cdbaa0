-- Reading a share or a coin stops at its fault line.
use Rattle.std.proofs.Common.{◌≡◌, ℕ, ◌+◌, false, List, [], ◌∷◌, ◌++◌, length, Option, Some, None, Result, Ok, option_map, refl, ap, arith, sym, subst, length-append}
use Rattle.std.specs.Result.{result_err}
use Rattle.vk_residue.specs.Steps.{◌>>=◌}
use Rattle.vk_lines.specs.Lines.{Rest, line_by}
use Rattle.vk_lines.specs.Forms.{FindsFaults, Follows, Table, fault_line, whole}
use Rattle.vk_lines.proofs.Faults.{end_ends, ends_done, ends_then, fault_line_is, follows_done, follows_then, line_follows, many_follows}
use Rattle.vk_lines.proofs.Modelled.{reads_whole}
use Rattle.vk_coin.specs.declared.share.Share.{Share}
use Rattle.vk_coin.proofs.Forms.{coin_is_whole, share_is_whole}
use Rattle.vk_coin.specs.Reading.{coin_at, coin_with, part_line, parts_at, share_at, share_with, shares_at, shown_at, shown_line}
use Rattle.vk_coin.specs.Tables.{CoinPlace, Heading, Auction, Auditor, Show as ShowPlace, Bits, Auditors, Part, Shown, Last, Over, before_parts, before_shares, coin_table, share_table}

-- a line that the table tells as it is parsed, and what is read behind it
line_ends : {X Z : Type 0} (table : Table CoinPlace) (place : CoinPlace)
    (parse : List ℕ → Option X) (after : X → CoinPlace) {read : X → Rest → Result (Z × Rest) ℕ}
    → ((text : List ℕ) → table.next place text ≡ option_map after (parse text))
    → table.over place ≡ false
    → ((x : X) → FindsFaults table (after x) (read x))
    → FindsFaults table place (λ rest. line_by parse rest >>= λ p. read p.0 p.1)
line_ends table place parse after next inside behind =
    ends_then table place (line_follows table place parse after next inside) behind

pub share_ends : FindsFaults share_table Heading share_at
unfolding share_at
share_ends =
    line_ends share_table Heading _ (λ _. Auction) (λ text. refl) refl (λ heading.
    line_ends share_table Auction _ (λ _. Auditor) (λ text. refl) refl (λ auction.
    line_ends share_table Auditor _ (λ _. ShowPlace) (λ text. refl) refl (λ auditor.
    line_ends share_table ShowPlace _ (λ _. Last) (λ text. refl) refl (λ show.
    ends_done share_table Last (share_with auction auditor show)
    (end_ends share_table Last Over (λ text. refl) refl (λ text. refl) refl)))))

pub share_fault : (bytes : List ℕ)
    → fault_line share_table bytes ≡ result_err (whole share_at bytes)
share_fault bytes = fault_line_is share_table share_at share_ends bytes

-- ---- a coin

-- the number of the auditor after those before and this one
next_number : {X : Type 0} (before : List X) (x : X)
    → length before + 1 + 1 ≡ length (before ++ x ∷ []) + 1
next_number before x = omega (arith, length-append before (x ∷ []))

next_place : {X : Type 0} (places : ℕ → CoinPlace) (before : List X) (read : Option X)
    → option_map (λ _. places (length before + 1 + 1)) read
    ≡ option_map (λ x. places (length (before ++ x ∷ []) + 1)) read
next_place places before (Some x) = ap (λ n. Some (places n)) (next_number before x)
next_place places before None = refl

parts_follow : (bits auditors : ℕ)
    → Follows coin_table (before_parts bits auditors 1 auditors) (parts_at auditors)
    (λ _. before_shares bits 1 auditors)
parts_follow bits auditors =
    many_follows coin_table (λ left before. before_parts bits auditors (length before + 1) left)
    (λ before. line_by (part_line (length before + 1)))
    (λ left before.
    line_follows coin_table (Part bits auditors (length before + 1) left)
    (part_line (length before + 1))
    (λ part. before_parts bits auditors (length (before ++ part ∷ []) + 1) left)
    (λ text. next_place (λ n. before_parts bits auditors n left) before
    (part_line (length before + 1) text)) refl)
    auditors []

shown_done : (bits left : ℕ) (before : List Share) (share : Share)
    → Follows coin_table (before_shares bits (length before + 1 + 1) left)
    (λ rest. Ok (share, rest)) (λ s. before_shares bits (length (before ++ s ∷ []) + 1) left)
shown_done bits left before share =
    let after : Share → CoinPlace = λ s. before_shares bits (length (before ++ s ∷ []) + 1) left in
    let P : ℕ → Type 0 = λ n. Follows coin_table (before_shares bits n left)
    (λ rest. Ok (share, rest)) after in
    subst P (sym (next_number before share)) (follows_done coin_table after share)

shown_follows : (auction : List ℕ) (bits left : ℕ) (before : List Share)
    → Follows coin_table (Shown bits (length before + 1) left)
    (shown_at auction bits (length before + 1))
    (λ s. before_shares bits (length (before ++ s ∷ []) + 1) left)
unfolding shown_at
shown_follows auction bits left before =
    follows_then coin_table (Shown bits (length before + 1) left)
    (line_follows coin_table (Shown bits (length before + 1) left)
    (shown_line bits (length before + 1)) (λ _. before_shares bits (length before + 1 + 1) left)
    (λ text. refl) refl)
    (λ show. shown_done bits left before (share_with auction (length before + 1) show))

shares_follow : (auction : List ℕ) (bits auditors : ℕ)
    → Follows coin_table (before_shares bits 1 auditors) (shares_at auction bits auditors)
    (λ _. Last)
shares_follow auction bits auditors =
    many_follows coin_table (λ left before. before_shares bits (length before + 1) left)
    (λ before. shown_at auction bits (length before + 1))
    (λ left before. shown_follows auction bits left before) auditors []

pub coin_ends : FindsFaults coin_table Heading coin_at
unfolding coin_at
coin_ends =
    line_ends coin_table Heading _ (λ _. Auction) (λ text. refl) refl (λ heading.
    line_ends coin_table Auction _ (λ _. Bits) (λ text. refl) refl (λ auction.
    line_ends coin_table Bits _ Auditors (λ text. refl) refl (λ bits.
    line_ends coin_table (Auditors bits) _ (λ auditors. before_parts bits auditors 1 auditors)
    (λ text. refl) refl (λ auditors.
    ends_then coin_table (before_parts bits auditors 1 auditors) (parts_follow bits auditors)
    (λ parts.
    ends_then coin_table (before_shares bits 1 auditors) (shares_follow auction bits auditors)
    (λ shares.
    ends_done coin_table Last (coin_with auction bits parts shares)
    (end_ends coin_table Last Over (λ text. refl) refl (λ text. refl) refl)))))))

pub coin_fault : (bytes : List ℕ) → fault_line coin_table bytes ≡ result_err (whole coin_at bytes)
coin_fault bytes = fault_line_is coin_table coin_at coin_ends bytes

-- what each whole file is read by
pub ruleset whole_rules = (reads_whole, share_is_whole, share_ends, coin_is_whole, coin_ends)
