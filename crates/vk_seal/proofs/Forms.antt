-- Seals and secrets are read from their texts alone, and reading stops at the fault line.
use Rattle.std.proofs.Common.{◌≡◌, ℕ, zero, suc, ◌-◌, ◌^◌, ◌≤◌, true, List, [], length, codes, Option, option_map, refl, ap, arith}
use Rattle.std.specs.Result.{result_err}
use Rattle.std.specs.List.{AllByRecursion}
use Rattle.hex.specs.Hex.{IsBytes}
use Rattle.vk_residue.specs.Residue.{modulus}
use Rattle.vk_lines.specs.Lines.{line_by}
use Rattle.vk_lines.specs.Forms.{is_plain, IsLine, IsPart, IsWhole, Follows, FindsFaults, fault_line, whole}
use Rattle.vk_lines.specs.Tokens.{id_line, number_line, word_of}
use Rattle.vk_lines.proofs.Words.{decimal_token, hex_token, number_line_is, id_line_is, digests_line_is, three_line, line_same, from_test, to_test, below_from, below_to}
use Rattle.vk_lines.proofs.Parts.{line_part, many_part, part_headed, part_then, part_last, part_same, whole_then, whole_last, whole_end, whole_same, each_from_all, all_from_each}
use Rattle.vk_lines.proofs.Faults.{line_follows, many_follows, follows_then, follows_done, ends_then, ends_made, end_ends, ends_done, fault_line_is}
use Rattle.vk_lines.proofs.Modelled.{reads_whole}
use Rattle.vk_wire.specs.Coms.{com_by}
use Rattle.vk_wire.specs.Values.{IsCom}
use Rattle.vk_seal.specs.Values.{IsSeal, IsSecret, IsXTape}
use Rattle.vk_seal.specs.Texts.{com_text, tape_text, seat_text, lanes_text, seal_text, secret_text}
use Rattle.vk_seal.specs.Reading.{com_line, com_at, tape_by, tape_line, tape_at, seat_at, lanes_at, seal_with, seal_at, secret_with, secret_at}
use Rattle.vk_seal.specs.Tables.{SealPlace, Heading, Auction, Seat, Bid, Count, Lanes, Over, table_by, seal_table, secret_table}

-- ---- lines

com_line_is : (lane : ℕ) → IsLine IsCom com_text (com_at lane)
com_line_is lane =
    digests_line_is (codes "x") refl (omega arith) com_by (λ digests. digests.first)
    (λ digests. digests.second)
    (λ x. refl) (λ a b. refl) (λ a b. refl)

-- a mask that is at most the greatest residue is a residue
tape_line_is : (lane : ℕ) → IsLine IsXTape tape_text (tape_at lane)
unfolding tape_at
tape_line_is lane =
    line_same (
    three_line (codes "x") refl (decimal_token (modulus - 1) (omega arith)) (hex_token 32)
    (hex_token 32) (omega arith) tape_by
    (λ tape. tape.mask) (λ tape. tape.first_key) (λ tape. tape.second_key) (λ x. refl)
    (λ a b c. refl) (λ a b c. refl) (λ a b c. refl)
    )
    (λ tape is. let small = is.0 in (omega arith, is.1, is.2))
    (λ tape is. let small = is.0 in (omega arith, is.1, is.2))

-- ---- the first line, the id and the seat

-- an id and a seat
abbrev IsPlace : List ℕ × ℕ → Type 0
IsPlace place = ((length place.0 ≡ 16) × IsBytes place.0) × ((1 ≤ place.1) × (place.1 ≤ 65535))

place_is_part : (heading : List ℕ) → is_plain heading ≡ true → length heading ≤ 255
    → IsPart IsPlace (λ place. seat_text heading place.0 place.1) (seat_at heading)
unfolding seat_at seat_text
place_is_part heading plain short =
    part_same (part_headed heading plain short (
    part_then (λ place. place.0) (line_part (id_line_is (codes "auction") refl (omega arith)))
    (λ auction _. part_last (λ place. place.1) (λ seat. (auction, seat)) (λ seat. refl)
    (line_part (number_line_is (codes "seat") 1 65535 refl (omega arith) (omega arith))))
    (λ auction place is. ap (λ p. p.0) is.1)
    ))
    (λ place is. (is.0, (from_test 1 place.1 is.1.0.1, is.1.0.0)))
    (λ place is. (is.0, ((is.1.1, to_test 1 place.1 is.1.0), refl)))
    (λ place. refl)

-- ---- the lanes and the end

abbrev AreLanes : {X : Type 0} → (X → Type 0) → List X → Type 0
AreLanes IsValue lanes = (1 ≤ length lanes) × (length lanes ≤ 64) × AllByRecursion IsValue lanes

lanes_is_whole : {X : Type 0} {IsValue : X → Type 0} {text : X → List ℕ}
    {parse : ℕ → List ℕ → Option X} → ((lane : ℕ) → IsLine IsValue text (parse lane))
    → IsWhole (AreLanes IsValue) (lanes_text text) (lanes_at parse)
unfolding lanes_at lanes_text
lanes_is_whole {IsValue = IsValue} form =
    whole_same (
    whole_then (λ lanes. length lanes)
    (line_part (number_line_is (codes "lanes") 1 64 refl (omega arith) (omega arith)))
    (λ count _. whole_then (λ lanes. lanes)
    (many_part count (λ before. line_part (form (length before)))) (λ read _. whole_end read)
    (λ read lanes same. same))
    (λ count lanes is. is.0.0)
    )
    (λ lanes is. (
      from_test 1 (length lanes) is.0.1,
      is.0.0,
      all_from_each IsValue [] lanes is.1.0.1,
    ))
    (λ lanes is. (
      (is.1, to_test 1 (length lanes) is.0),
      ((refl, each_from_all IsValue [] lanes is.2), refl),
    ))
    (λ lanes. refl)

-- ---- a seal and a secret

pub seal_is_whole : IsWhole IsSeal seal_text seal_at
unfolding seal_text seal_at
seal_is_whole =
    whole_same (
    whole_then (λ seal. (seal.auction, seal.seat))
    (place_is_part (codes "vickrey-seal 1") refl (omega arith))
    (λ place _. whole_last (λ seal. seal.lanes) (seal_with place) (λ lanes. refl)
    (lanes_is_whole com_line_is))
    (λ place seal is. ap (λ s. (s.auction, s.seat)) is.1)
    )
    (λ seal is. record {
      id = is.0.0;
      some_seat = is.0.1.0;
      last_seat = is.0.1.1;
      count = record { least = is.1.0.0; most = is.1.0.1 };
      coms = is.1.0.2;
    })
    (λ seal is. (
      (is.id, (is.some_seat, is.last_seat)),
      ((is.count.least, is.count.most, is.coms), refl),
    ))
    (λ seal. refl)

pub secret_is_whole : IsWhole IsSecret secret_text secret_at
unfolding secret_text secret_at
secret_is_whole =
    whole_same (
    whole_then (λ secret. (secret.auction, secret.seat))
    (place_is_part (codes "vickrey-secret 1") refl (omega arith)) (λ place _.
    whole_then (λ secret. secret.bid)
    (line_part (number_line_is (codes "bid") 0 (2 ^ 40 - 1) refl (omega arith) (omega arith)))
    (λ bid _. whole_last (λ secret. secret.lanes) (secret_with place bid) (λ lanes. refl)
    (lanes_is_whole tape_line_is))
    (λ bid secret is. ap (λ s. s.bid) is.1))
    (λ place secret is. ap (λ s. (s.auction, s.seat)) is.1.1)
    )
    (λ secret is. record {
      id = is.0.0;
      some_seat = is.0.1.0;
      last_seat = is.0.1.1;
      small_bid = below_from (2 ^ 40) secret.bid (omega arith) is.1.0.0;
      count = record { least = is.1.1.0.0; most = is.1.1.0.1 };
      tapes = is.1.1.0.2;
    })
    (λ secret is. (
      (is.id, (is.some_seat, is.last_seat)),
      (
        (below_to (2 ^ 40) secret.bid is.small_bid, to_test 0 secret.bid (omega arith)),
        ((is.count.least, is.count.most, is.tapes), refl),
      ),
    ))
    (λ secret. refl)

-- ---- the fault lines

place_follows : {X : Type 0} (heading : List ℕ) (behind : SealPlace) (parse : List ℕ → Option X)
    → Follows (table_by heading behind parse) Heading (seat_at heading) (λ _. behind)
unfolding seat_at
place_follows heading behind parse =
    let table = table_by heading behind parse in
    follows_then table Heading
    (line_follows table Heading (word_of heading) (λ _. Auction) (λ text. refl) refl) (λ first.
    follows_then table Auction
    (line_follows table Auction (id_line (codes "auction")) (λ _. Seat) (λ text. refl) refl)
    (λ auction.
    follows_then table Seat (line_follows table Seat (number_line (codes "seat") 1 65535)
    (λ _. behind) (λ text. refl) refl) (λ seat.
    follows_done table (λ _. behind) (auction, seat))))

lanes_end : {X : Type 0} (heading : List ℕ) (behind : SealPlace) (parse : List ℕ → Option X)
    (read : ℕ → List ℕ → Option X) → ((lane : ℕ) (text : List ℕ) → parse text ≡ read lane text)
    → FindsFaults (table_by heading behind parse) Count (lanes_at read)
unfolding lanes_at
lanes_end heading behind parse read same =
    let table = table_by heading behind parse in
    ends_then table Count (line_follows table Count (number_line (codes "lanes") 1 64) Lanes
    (λ text. refl) refl) (λ count.
    ends_then table (Lanes count)
    (many_follows table (λ left before. Lanes left) (λ before. line_by (read (length before)))
    (λ left before. line_follows table (Lanes (suc left)) (read (length before)) (λ _. Lanes left)
    (λ text. ap (option_map (λ _. Lanes left)) (same (length before) text)) refl) count [])
    (λ lanes. ends_done table (Lanes zero) lanes
    (end_ends table (Lanes zero) Over (λ text. refl) refl (λ text. refl) refl)))

pub seal_ends : FindsFaults seal_table Heading seal_at
unfolding seal_at
seal_ends =
    ends_then seal_table Heading (place_follows (codes "vickrey-seal 1") Count com_line)
    (λ place. ends_made seal_table Count (seal_with place)
    (lanes_end (codes "vickrey-seal 1") Count com_line com_at (λ lane text. refl)))

pub seal_fault : (bytes : List ℕ) → fault_line seal_table bytes ≡ result_err (whole seal_at bytes)
seal_fault bytes = fault_line_is seal_table seal_at seal_ends bytes

pub secret_ends : FindsFaults secret_table Heading secret_at
unfolding secret_at tape_at
secret_ends =
    ends_then secret_table Heading (place_follows (codes "vickrey-secret 1") Bid tape_line)
    (λ place.
    ends_then secret_table Bid
    (line_follows secret_table Bid (number_line (codes "bid") 0 (2 ^ 40 - 1)) (λ _. Count)
    (λ text. refl) refl)
    (λ bid. ends_made secret_table Count (secret_with place bid)
    (lanes_end (codes "vickrey-secret 1") Bid tape_line tape_at (λ lane text. refl))))

pub secret_fault : (bytes : List ℕ)
    → fault_line secret_table bytes ≡ result_err (whole secret_at bytes)
secret_fault bytes = fault_line_is secret_table secret_at secret_ends bytes

-- what each whole file is read by
pub ruleset whole_rules = (reads_whole, seal_is_whole, seal_ends, secret_is_whole, secret_ends)
