-- The head, the seals and a lane of a board are read from their texts alone.
use Rattle.std.proofs.Common.{◌≡◌, ℕ, ◌-◌, ◌^◌, ◌≤◌, ◌==◌, Bool, true, false, if◌then◌else◌, List, [], ◌∷◌, length, codes, decimal, flat_map, Result, Ok, refl, ap, arith}
use Rattle.std.proofs.lemmas.Bool.{eqb-true, eq-eqb}
use Rattle.vk_lines.specs.Lines.{Rest, line_by}
use Rattle.vk_lines.specs.Forms.{line, spaced, IsLine, IsPart, EachAfter, many_at}
use Rattle.vk_lines.specs.Tokens.{number_line}
use Rattle.vk_lines.proofs.Words.{number_line_is, id_line_is, from_test, to_test, InRange, below_from, below_to}
use Rattle.vk_lines.proofs.Parts.{line_part, many_part, part_then, part_done, part_last, part_same, each_from_all, all_from_each}
use Rattle.vk_residue.specs.Residue.{modulus}
use Rattle.vk_wire.specs.declared.wire.WireCom.{WireCom}
use Rattle.vk_wire.specs.Values.{IsCom}
use Rattle.vk_board.specs.declared.board.Head.{Head}
use Rattle.vk_board.specs.declared.board.SealLines.{SealLines}
use Rattle.vk_board.specs.declared.board.LaneLines.{LaneLines}
use Rattle.vk_board.specs.Values.{head_with, IsReserve, IsHead, IsSealAfter, AreSealsOf, AreSeals, IsLaneLines}
use Rattle.vk_board.specs.Texts.{com_text, head_text, seal_lines_text, lane_text}
use Rattle.vk_board.specs.Reading.{com_line, seats_of, reserve_at, head_at, seal_at, seal_lines_at, seals_at, lane_at}
use Rattle.vk_board.proofs.Seats.{new_from_test, new_to_test}
use Rattle.vk_board.proofs.Lines.{com_line_is, posted_line_is, seat_line_is, winner_line_is, to_residues, from_residues}

-- ---- the head

reserve_by : (version : ℕ) (second : Bool) → (version == 2) ≡ second
    → IsPart (IsReserve version)
    (λ reserve. if second then line (spaced (codes "reserve" ∷ decimal reserve ∷ [])) else [])
    (λ rest. if second then line_by (number_line (codes "reserve") 0 (2 ^ 64 - 1)) rest
    else Ok (0, rest))
reserve_by version true test =
    part_same (line_part (number_line_is (codes "reserve") 0 (2 ^ 64 - 1) refl (omega arith)
    (omega arith)))
    (λ reserve is. record {
      small = below_from (2 ^ 64) reserve (omega arith) is.0;
      unnamed = λ other. absurd (other (eqb-true version 2 test));
    })
    (λ reserve is. (below_to (2 ^ 64) reserve is.small, to_test 0 reserve (omega arith)))
    (λ reserve. refl)
reserve_by version false test =
    part_same (part_done 0)
    (λ reserve is. record { small = rw is (omega arith); unnamed = λ other. is })
    (λ reserve is. is.unnamed (λ same. let second = eq-eqb version 2 same in cc (test, second)))
    (λ reserve. refl)

pub head_is_part : IsPart IsHead head_text head_at
unfolding head_text head_at reserve_at
head_is_part =
    part_same (
    part_then (λ head. head.version)
    (line_part (number_line_is (codes "vickrey-board") 1 2 refl (omega arith) (omega arith)))
    (λ version _. part_then (λ head. head.auction)
    (line_part (id_line_is (codes "auction") refl (omega arith))) (λ auction _.
    part_then (λ head. head.width)
    (line_part (number_line_is (codes "width") 1 40 refl (omega arith) (omega arith))) (λ width _.
    part_then (λ head. head.lanes)
    (line_part (number_line_is (codes "lanes") 1 64 refl (omega arith) (omega arith))) (λ lanes _.
    part_then (λ head. head.seals)
    (line_part (number_line_is (codes "seals") 1 64 refl (omega arith) (omega arith))) (λ seals _.
    part_then (λ head. head.reserve) (reserve_by version (version == 2) refl) (λ reserve _.
    part_then (λ head. head.winner) (line_part (winner_line_is version)) (λ winner _.
    part_last (λ head. head.price) (head_with version auction width lanes seals reserve winner)
    (λ price. refl)
    (line_part (number_line_is (codes "price") 0 (2 ^ 64 - 1) refl (omega arith) (omega arith))))
    (λ winner head is. ap (λ h. h.winner) is.1))
    (λ reserve head is. ap (λ h. h.reserve) is.1.1))
    (λ seals head is. ap (λ h. h.seals) is.1.1.1))
    (λ lanes head is. ap (λ h. h.lanes) is.1.1.1.1))
    (λ width head is. ap (λ h. h.width) is.1.1.1.1.1))
    (λ auction head is. ap (λ h. h.auction) is.1.1.1.1.1.1))
    (λ version head is. ap (λ h. h.version) is.1.1.1.1.1.1.1)
    )
    (λ head is. record {
      id = is.1.0;
      version = record { least = from_test 1 head.version is.0.1; most = is.0.0 };
      size = record {
        width = record { least = from_test 1 head.width is.1.1.0.1; most = is.1.1.0.0 };
        lanes = record { least = from_test 1 head.lanes is.1.1.1.0.1; most = is.1.1.1.0.0 };
      };
      some_seal = from_test 1 head.seals is.1.1.1.1.0.1;
      few_seals = is.1.1.1.1.0.0;
      reserve = is.1.1.1.1.1.0;
      winner = is.1.1.1.1.1.1.0;
      price = below_from (2 ^ 64) head.price (omega arith) is.1.1.1.1.1.1.1.0.0;
    })
    (λ head is. (
      (is.version.most, to_test 1 head.version is.version.least),
      (
        is.id,
        (
          (is.size.width.most, to_test 1 head.width is.size.width.least),
          (
            (is.size.lanes.most, to_test 1 head.lanes is.size.lanes.least),
            (
              (is.few_seals, to_test 1 head.seals is.some_seal),
              (
                is.reserve,
                (
                  is.winner,
                  (
                    (
                      below_to (2 ^ 64) head.price is.price,
                      to_test 0 head.price (omega arith),
                    ),
                    refl,
                  ),
                ),
              ),
            ),
          ),
        ),
      ),
    ))
    (λ head. refl)

-- ---- the seals

abbrev pub seal_with : ℕ → List WireCom → SealLines
seal_with seat coms = record { seat = seat; coms = coms }

abbrev AreComs : ℕ → List WireCom → Type 0
AreComs count coms = (length coms ≡ count) × EachAfter (λ _. IsCom) [] coms

coms_part : (word : List ℕ) (is_a_line : IsLine IsCom (com_text word) (com_line word)) (count : ℕ)
    → IsPart (AreComs count) (flat_map (λ digests. line (com_text word digests)))
    (many_at count (λ _. line_by (com_line word)))
coms_part word is_a_line count = many_part count (λ _. line_part is_a_line)

pub seal_is_part : (lanes : ℕ) (before : List SealLines)
    → IsPart (IsSealAfter lanes before) seal_lines_text (seal_at lanes before)
unfolding seal_lines_text seal_at
seal_is_part lanes before =
    part_same (
    part_then (λ seal. seal.seat) (line_part (seat_line_is (seats_of before))) (λ seat _.
    part_last (λ seal. seal.coms) (seal_with seat) (λ coms. refl)
    (coms_part (codes "x") (com_line_is (codes "x") refl (omega arith)) lanes))
    (λ seat seal is. ap (λ s. s.seat) is.1)
    )
    (λ seal is. record {
      right = record {
        some_seat = from_test 1 seal.seat is.0.0.1;
        last_seat = is.0.0.0;
        count = is.1.0.0;
        coms = all_from_each IsCom [] seal.coms is.1.0.1;
      };
      new_seat = new_from_test seal.seat before is.0.1;
    })
    (λ seal is. (
      (
        (is.right.last_seat, to_test 1 seal.seat is.right.some_seat),
        new_to_test seal.seat before is.new_seat,
      ),
      ((is.right.count, each_from_all IsCom [] seal.coms is.right.coms), refl),
    ))
    (λ seal. refl)

pub seal_lines_are_part : (count lanes : ℕ)
    → IsPart (AreSealsOf count lanes) (flat_map seal_lines_text) (seal_lines_at count lanes)
seal_lines_are_part count lanes =
    part_same (many_part count (λ before. seal_is_part lanes before))
    (λ seals is. record { count = is.0; each = is.1 }) (λ seals is. (is.count, is.each))
    (λ seals. refl)

pub seals_are_part : (head : Head)
    → IsPart (AreSeals head) (flat_map seal_lines_text) (seals_at head)
seals_are_part head = seal_lines_are_part head.seals head.lanes

-- ---- a lane

abbrev pub lane_with : List WireCom → List ℕ → LaneLines
lane_with coms posted = record { coms = coms; posted = posted }

-- a number that is at most and at least another is that one
only_one : (lane number : ℕ) → InRange lane lane number → lane ≡ number
only_one lane number is = let least = from_test lane number is.1 in omega (arith, is.0)

-- a part, and what is known besides
part_with : {Known X : Type 0} {IsX : X → Type 0} {text : X → List ℕ}
    {read : Rest → Result (X × Rest) ℕ} → Known → IsPart IsX text read
    → IsPart (λ x. Known × IsX x) text read
part_with known part = part_same part (λ x is. (known, is)) (λ x is. is.1) (λ x. refl)

pub lane_is_part : (lane wires rows : ℕ) → lane ≤ 64
    → IsPart (IsLaneLines wires rows) (lane_text lane) (lane_at lane wires rows)
unfolding lane_text lane_at
lane_is_part lane wires rows small =
    part_same (
    part_then (λ lines. lane)
    (line_part (number_line_is (codes "lane") lane lane refl (omega arith) (omega arith)))
    (λ number is. part_with (only_one lane number is) (
    part_then (λ lines. lines.coms)
    (coms_part (codes "w") (com_line_is (codes "w") refl (omega arith)) wires)
    (λ coms _. part_last (λ lines. lines.posted) (lane_with coms) (λ posted. refl)
    (many_part rows (λ _. line_part posted_line_is)))
    (λ coms lines is. ap (λ l. l.coms) is.1)
    ))
    (λ number lines is. is.0)
    )
    (λ lines is. record {
      wire_count = is.1.1.0.0;
      row_count = is.1.1.1.0.0;
      coms = all_from_each IsCom [] lines.coms is.1.1.0.1;
      posted = to_residues lines.posted
          (all_from_each (λ number. number ≤ modulus - 1) [] lines.posted is.1.1.1.0.1);
    })
    (λ lines is. (
      (omega arith, to_test lane lane (omega arith)),
      (
        refl,
        (
          (is.wire_count, each_from_all IsCom [] lines.coms is.coms),
          (
            (
              is.row_count,
              each_from_all (λ number. number ≤ modulus - 1) [] lines.posted
                  (from_residues lines.posted is.posted),
            ),
            refl,
          ),
        ),
      ),
    ))
    (λ lines. refl)
