-- What an honest proof is made from, and what comes of it: the tapes of its lanes, what is
-- published, what is shown, and the files. Lanes count from 1, wires from 0.
use Rattle.std.specs.Prelude.{◌≡◌, ℕ, zero, suc, ◌+◌, ◌-◌, ◌<◌, ◌≤◌, Bool, All, List, [], ◌∷◌, ◌++◌, length, map, codes, Option, Some, None, Result, Ok, Err}
use Rattle.std.specs.List.{AllByRecursion, flat_map}
use Rattle.vk_residue.specs.Limits.{IsLaneCount}
use Rattle.vk_dice.specs.Stream.{word_at}
use Rattle.vk_lines.specs.Forms.{line}
use Rattle.vk_plan.specs.Plans.{PlanValue, IsPlan, Holds}
use Rattle.vk_wire.specs.declared.wire.WireTape.{WireTape}
use Rattle.vk_wire.specs.declared.wire.Shown.{Shown}
use Rattle.vk_range.specs.Sets.{listed}
use Rattle.vk_board.specs.declared.board.SealLines.{SealLines}
use Rattle.vk_board.specs.declared.board.LaneLines.{LaneLines}
use Rattle.vk_board.specs.Texts.{seal_lines_text, lane_text, lanes_text}
use Rattle.vk_reply.specs.Texts.{reply_text, reply_head_text, reply_lane_text}
use Rattle.vk_seal.specs.Values.{IsXTape, wire_tape}
use Rattle.vk_extractor.specs.Confronting.{tape_in}
use Rattle.vk_prover.specs.Drawn.{drawn_tape}
use Rattle.vk_prover.specs.declared.tape.LaneTape.{LaneTape}
use Rattle.vk_prover.specs.Honest.{honest_lane, honest_reply}
use Rattle.vk_keeper.specs.declared.auction.SealRow.{SealRow}
use Rattle.vk_job.specs.declared.proof.Prepared.{Prepared}

-- what an honest proof is made from: the auction's id, the rows of the inputs (each a seal with its
-- secret), how many lanes there are, the auctioneer's seed, the circuit, and the values of its
-- wires
pub record ProofValue : Type 0 where
  pub id : List ℕ
  pub rows : List SealRow
  pub lanes : ℕ
  pub seed : List ℕ
  pub plan : PlanValue
  pub values : List ℕ

-- the proof from these
abbrev pub proof_with : List ℕ → List SealRow → ℕ → List ℕ → PlanValue → List ℕ → ProofValue
proof_with id rows lanes seed plan values =
    record { id = id; rows = rows; lanes = lanes; seed = seed; plan = plan; values = values }

-- ---- tapes

-- what the tapes of the lanes come from: all that but the circuit and its values, of which it is
-- enough to know how many wires each lane has after the inputs
pub record TapeSource : Type 0 where
  pub id : List ℕ
  pub rows : List SealRow
  pub lanes : ℕ
  pub seed : List ℕ
  pub further : ℕ

-- that of these
abbrev pub source_with : List ℕ → List SealRow → ℕ → List ℕ → ℕ → TapeSource
source_with id rows lanes seed further =
    record { id = id; rows = rows; lanes = lanes; seed = seed; further = further }

-- that of a proof
abbrev pub source_of : ProofValue → TapeSource
source_of proof = source_with proof.id proof.rows proof.lanes proof.seed
    (length proof.plan.kinds - proof.plan.inputs)

-- the tapes of the inputs in a lane: those of the bidders' secrets, which never swap
abbrev pub given_in : List SealRow → ℕ → List WireTape
given_in rows lane = map (λ row. wire_tape (tape_in row.secret lane)) rows

-- the tape of a lane: those, and for each further wire what is drawn from the seed's words in the
-- stream of the lane; or the first wire whose tape can't be drawn
unfoldable pub drawn_in : TapeSource → ℕ → Result (List WireTape) ℕ
drawn_in source lane = drawn_tape (given_in source.rows lane) source.further
    (word_at source.seed source.id lane)

-- a wire of a lane that is dry: its tape can't be drawn from the seed's words
pub record Dry : Type 0 where
  pub lane : ℕ
  pub wire : ℕ

-- a lane's first such wire; where it has none, what comes of the lanes after it
abbrev pub dry_or : Result (List WireTape) ℕ → ℕ → Option Dry → Option Dry
dry_or (Ok tape) lane later = later
dry_or (Err wire) lane later = Some (record { lane = lane; wire = wire })

-- the first such wire, in the first such lane of so many from that one on
unfoldable pub first_dry_from : TapeSource → ℕ → ℕ → Option Dry
first_dry_from source lane zero = None
first_dry_from source lane (suc more) =
    dry_or (drawn_in source lane) lane (first_dry_from source (lane + 1) more)

-- the first wire that is dry, if there is one
abbrev pub first_dry_in : TapeSource → Option Dry
first_dry_in source = first_dry_from source 1 source.lanes

-- the lane has a tape
abbrev pub IsDrawnIn : TapeSource → ℕ → Type 0
IsDrawnIn source lane = (tape : List WireTape) × (drawn_in source lane ≡ Ok tape)

-- in the words of lanes: this one is dry at that wire, and those before it have tapes
pub record IsFirstDryIn (source : TapeSource) (dry : Dry) : Type 0 where
  pub some_lane : 1 ≤ dry.lane
  pub last_lane : dry.lane ≤ source.lanes
  pub here : drawn_in source dry.lane ≡ Err dry.wire
  pub before : (lane : ℕ) → 1 ≤ lane → lane < dry.lane → IsDrawnIn source lane

-- the tape where there is one
abbrev pub tape_or_none : Result (List WireTape) ℕ → List WireTape
tape_or_none (Ok tape) = tape
tape_or_none (Err wire) = []

-- the tapes of all lanes
abbrev pub tape_at : TapeSource → ℕ → LaneTape
tape_at source index = record { wires = tape_or_none (drawn_in source (index + 1)) }

abbrev pub tapes_in : TapeSource → List LaneTape
tapes_in source = listed (tape_at source) source.lanes

-- a proof's tape of a lane
abbrev pub lane_tape_in : ProofValue → ℕ → List WireTape
lane_tape_in proof lane = tape_or_none (drawn_in (source_of proof) lane)

-- ---- which there are

-- the secret of the row has a tape for each of so many lanes
pub record HasTapesFor (lanes : ℕ) (row : SealRow) : Type 0 where
  pub count : length row.secret.lanes ≡ lanes
  pub each : AllByRecursion IsXTape row.secret.lanes

-- an input for each row, values that hold for the circuit, 1 to 64 lanes, and each of them has a
-- tape
pub record IsProof (proof : ProofValue) : Type 0 where
  pub plan : IsPlan proof.plan
  pub one_input_each : length proof.rows ≡ proof.plan.inputs
  pub values : Holds proof.plan proof.values
  pub count : IsLaneCount proof.lanes
  pub secrets : All (HasTapesFor proof.lanes) proof.rows
  pub none_dry : first_dry_in (source_of proof) ≡ None

-- ---- what is prepared for one

-- the proof that is made from what was prepared, and these
abbrev pub prepared_proof : List ℕ → List SealRow → ℕ → List ℕ → Prepared → ProofValue
prepared_proof id rows lanes seed made = proof_with id rows lanes seed made.plan made.values

-- what was prepared serves for the proof: a table of its circuit's rows, and the tapes of its lanes
pub record IsPrepared (proof : ProofValue) (made : Prepared) : Type 0 where
  pub table : made.table ≡ proof.plan.rows
  pub tapes : made.tapes ≡ tapes_in (source_of proof)

-- ---- what is published and shown

-- a seal as it stands on the board
abbrev pub seal_lines_of : SealRow → SealLines
seal_lines_of row = record { seat = row.seal.seat; coms = row.seal.lanes }

-- what a proof has past its last row
abbrev pub no_row : SealRow
no_row = record {
  seal = record { auction = []; seat = 0; lanes = [] };
  secret = record { auction = []; seat = 0; bid = 0; lanes = [] };
}

-- what is published of a lane, and of all
unfoldable pub lane_in : ProofValue → ℕ → LaneLines
lane_in proof lane = honest_lane proof.plan proof.id lane proof.values (lane_tape_in proof lane)

abbrev pub lanes_in : ProofValue → List LaneLines
lanes_in proof = listed (λ index. lane_in proof (index + 1)) proof.lanes

-- what is shown of a lane for the bit
unfoldable pub lane_shown_in : ProofValue → ℕ → Bool → List Shown
lane_shown_in proof lane bit =
    honest_reply proof.plan.kinds proof.values (lane_tape_in proof lane) bit

-- what is shown of each lane for its bit, from the lane of that number on
abbrev pub lanes_shown_from : ProofValue → ℕ → List Bool → List (List Shown)
lanes_shown_from proof lane [] = []
lanes_shown_from proof lane (bit ∷ bits) =
    lane_shown_in proof lane bit ∷ lanes_shown_from proof (lane + 1) bits

-- ---- the files

-- what is published, behind the text of its head
abbrev pub file_of : List ℕ → ProofValue → List ℕ
file_of head proof =
    head
    ++ (flat_map seal_lines_text (map seal_lines_of proof.rows)
    ++ (lanes_text 1 (lanes_in proof)
    ++ line (codes "end")))

-- what is shown for the bits, one for each lane
abbrev pub reply_in : ProofValue → List Bool → List ℕ
reply_in proof bits = reply_text (lanes_shown_from proof 1 bits)

-- ---- the same texts in pieces: a head, a seal or a lane, the end

abbrev pub file_pieces : List ℕ → ProofValue → List (List ℕ)
file_pieces head proof =
    head ∷ (map (λ row. seal_lines_text (seal_lines_of row)) proof.rows
    ++ (listed (λ index. lane_text (index + 1) (lane_in proof (index + 1))) proof.lanes
    ++ line (codes "end") ∷ []))

-- the lanes of a reply, from the lane of that number on
abbrev pub reply_lanes_in : ProofValue → ℕ → List Bool → List (List ℕ)
reply_lanes_in proof lane [] = []
reply_lanes_in proof lane (bit ∷ bits) =
    reply_lane_text lane (lane_shown_in proof lane bit) ∷ reply_lanes_in proof (lane + 1) bits

abbrev pub reply_pieces_in : ProofValue → List Bool → List (List ℕ)
reply_pieces_in proof bits = reply_head_text (length bits)
    ∷ (reply_lanes_in proof 1 bits ++ line (codes "end") ∷ [])
