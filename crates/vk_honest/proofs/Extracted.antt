-- Two replies of an honest auctioneer give the bids that were sealed.
use Rattle.std.proofs.Common.{◌≡◌, ℕ, zero, suc, ◌+◌, ◌-◌, ◌<◌, ◌≤◌, All, Bool, true, false, List, [], ◌∷◌, length, map, get_or, Some, refl, sym, ap, subst, ◌∙◌, arith, eq-eqb}
use Rattle.std.specs.Prelude.{◌≢◌, ◌==◌, ◌&&◌, slice_get, slice_index, slice_index_or}
use Rattle.std.specs.List.{list_all}
use Rattle.std.proofs.lemmas.List.{ext_get_or, get_or-map, length-map}
use Rattle.std.proofs.lemmas.List.Elements.{All-head, All-tail, All-weaker}
use Rattle.std.proofs.lemmas.Option.{slice_get-get_or}
use Rattle.vk_residue.specs.Residue.{sum}
use Rattle.vk_commit.specs.declared.place.Opening.{Opening}
use Rattle.vk_wire.specs.declared.wire.Shown.{Shown}
use Rattle.vk_wire.specs.declared.wire.Shown.TheVariants.{Half}
use Rattle.vk_board.specs.declared.front.Front.{Front}
use Rattle.vk_board.specs.Reading as board
use Rattle.vk_extractor.specs.Confronting.{secret_opening}
use Rattle.vk_extractor.specs.FirstClash.{WireAgrees}
use Rattle.vk_reply.specs.declared.challenge.Challenge.{Challenge}
use Rattle.vk_reply.specs.Texts.{challenge_text}
use Rattle.vk_reply.specs.Values.{IsChallenge}
use Rattle.vk_judge.specs.Acceptance.{bit_of}
use Rattle.vk_bids.specs.declared.bids.LaneBids.{LaneBids}
use Rattle.vk_bids.specs.declared.bids.OpenedBid.{OpenedBid}
use Rattle.vk_bids.specs.declared.extraction.Extracted.{Extracted}
use Rattle.vk_bids.specs.Extraction.{Extraction}
use Rattle.vk_bids.specs.declared.extraction.Extraction.TheVariants.{Bids, Clash, Refused, Same}
use Rattle.vk_bids.specs.Gathering.{shown_for}
use Rattle.vk_bids.specs.Headline.{IsExtraction, IsOf, TwoAccepted, differing}
use Rattle.vk_bids.specs.Opening.{AreShownIn}
use Rattle.vk_bids.specs.Texts.{bid_in, bid_or_zero, has_one_bid}
use Rattle.vk_bids.proofs.Agreeing.{no_clash}
use Rattle.vk_bids.proofs.Halves.{halves_sum}
use Rattle.vk_bids.proofs.Boards.{accepted_are_extracted}
use Rattle.vk_keeper.specs.Auctions.{IsSealRow}
use Rattle.vk_keeper.specs.declared.auction.Auction.{Auction}
use Rattle.vk_keeper.specs.declared.auction.SealRow.{SealRow}
use Rattle.vk_job.specs.Jobs.{IsProvedAuction, proof_of}
use Rattle.vk_job.specs.Proofs.{ProofValue, lane_shown_in, lanes_shown_from, no_row, seal_lines_of}
use Rattle.vk_job.specs.Published.{IsChallengeTo, board_of, reply_of}
use Rattle.vk_job.proofs.Drawing.{lanes_of}
use Rattle.vk_honest.specs.Answers.{IsSealedProof, front_of}
use Rattle.vk_honest.specs.Extracted.{BidsAreEqual, RepliesGiveBids, TurnedOpenAll, bid_in_lane, bids_in_lane, rows_in_lane, sealed_bids}
use Rattle.vk_honest.proofs.Accepted.{accepts, shown_at}
use Rattle.vk_honest.proofs.Cases.{seats_are}
use Rattle.vk_honest.proofs.Differing.{DiffersIn, all_differ, length-differing_turned, turned_differ}
use Rattle.vk_honest.proofs.Fronts.{sealed}
use Rattle.vk_honest.proofs.Opened.{half_shown, shown_agree, shown_either}

no_opening : Opening
no_opening = record { key = []; value = 0 }

no_bid : OpenedBid
no_bid = record { seat = 0; bid = 0; first = no_opening; second = no_opening }

-- ---- the bids of a lane

same_half : (one other : Opening) → Half one ≡ Half other → one ≡ other
same_half one other same = cc

same_bid : (one other : OpenedBid) → one.seat ≡ other.seat → one.bid ≡ other.bid
    → one.first ≡ other.first → one.second ≡ other.second → one ≡ other
same_bid one other seat bid first second =
    let of : ℕ → ℕ → Opening → Opening
    → OpenedBid = λ s b u v. record { seat = s; bid = b; first = u; second = v } in
    ap (λ s. of s one.bid one.first one.second) seat
    ∙ (ap (λ b. of other.seat b one.first one.second) bid
    ∙ (ap (λ u. of other.seat other.bid u one.second) first
    ∙ ap (of other.seat other.bid other.first) second))

-- one bid is opened for each seal, at its seat, and it is the sum of its halves
pub record AreOfRows (rows : List SealRow) (bids : List OpenedBid) : Type 0 where
  pub one_each : map (λ (bid : OpenedBid). bid.seat) bids
      ≡ board.seats_of (map seal_lines_of rows)
  pub sums : (index : ℕ) (bid : OpenedBid) → slice_get bids index ≡ Some bid
      → bid.bid ≡ sum bid.first.value bid.second.value

module _ (width : ℕ) (proof : ProofValue) (is : IsSealedProof width proof) (lane : ℕ) (some : 1 ≤ lane) (within : lane ≤ proof.lanes) (bids : List OpenedBid)
    (shown : AreShownIn (lane_shown_in proof lane false) (lane_shown_in proof lane true) bids)
    (of : AreOfRows proof.rows bids) where
  -- one for each seal, at its seat
  seats_same : map (λ (bid : OpenedBid). bid.seat) bids
      ≡ map (λ (row : SealRow). row.seal.seat) proof.rows
  seats_same = of.one_each ∙ seats_are proof.rows

  count_same : length bids ≡ length proof.rows
  count_same = sym (length-map bids (λ bid. bid.seat))
      ∙ (ap length seats_same ∙ length-map proof.rows (λ row. row.seal.seat))

  -- both halves are the secret's, so their sum is its bid
  bid_same : (index : ℕ) → index < length bids
      → get_or bids index no_bid ≡ bid_in_lane lane (get_or proof.rows index no_row)
  bid_same index lt =
      let inside : index < length proof.rows = omega (arith, count_same) in
      let bid = get_or bids index no_bid in
      let row = get_or proof.rows index no_row in
      let right : IsSealRow proof.id width proof.lanes row = is.rows index no_row inside in
      let here = slice_get-get_or bids index no_bid lt in
      let halves = shown index bid here in
      let first : bid.first ≡ secret_opening row.secret lane false =
      same_half _ _ (sym halves.0
      ∙ half_shown width proof is lane some within false index inside) in
      let second : bid.second ≡ secret_opening row.secret lane true =
      same_half _ _ (sym halves.1
      ∙ half_shown width proof is lane some within true index inside) in
      let last : lane ≤ length row.secret.lanes =
      omega (arith, lanes_of proof.id width proof.lanes row right) in
      same_bid bid (bid_in_lane lane row)
      (sym (get_or-map (λ (b : OpenedBid). b.seat) bids index no_bid 0 lt)
      ∙ (ap (λ seats. slice_index seats index) seats_same
      ∙ get_or-map (λ (r : SealRow). r.seal.seat) proof.rows index no_row 0 inside))
      (of.sums index bid here
      ∙ (ap (λ (u : Opening). sum u.value bid.second.value) first
      ∙ (ap (λ (v : Opening). sum (secret_opening row.secret lane false).value v.value) second
      ∙ halves_sum row.secret lane right.secret some last)))
      first second

  pub bids_same : bids ≡ map (bid_in_lane lane) proof.rows
  bids_same =
      let long : length (map (bid_in_lane lane) proof.rows) ≡ length proof.rows =
      length-map proof.rows (bid_in_lane lane) in
      ext_get_or no_bid bids (map (bid_in_lane lane) proof.rows) (count_same ∙ sym long)
      (λ index lt. bid_same index lt
      ∙ sym (get_or-map (bid_in_lane lane) proof.rows index no_row no_bid
      (omega (arith, count_same))))

-- ---- lane by lane

-- what is true of the numbers of lanes
pub of_numbers : (P : ℕ → Type 0) (lanes : List LaneBids)
    → All P (map (λ (lane : LaneBids). lane.number) lanes)
    → All (λ (lane : LaneBids). P lane.number) lanes
of_numbers P lanes all k d lt =
    let long : length (map (λ (lane : LaneBids). lane.number) lanes) ≡ length lanes =
    length-map lanes (λ lane. lane.number) in
    subst P (get_or-map (λ (lane : LaneBids). lane.number) lanes k d 0 lt) (all k 0 (omega arith))

-- the same value by its parts
pub lane_same : (one : LaneBids) (bids : List OpenedBid) → one.bids ≡ bids
    → one ≡ record { number = one.number; bids = bids }
lane_same one bids same = let of : List OpenedBid
    → LaneBids = λ bs. record { number = one.number; bids = bs } in ap of same

-- lanes that follow from their numbers
pub by_number : (of : ℕ → LaneBids) (lanes : List LaneBids)
    → All (λ (lane : LaneBids). lane ≡ of lane.number) lanes
    → lanes ≡ map of (map (λ (lane : LaneBids). lane.number) lanes)
by_number of [] all = refl
by_number of (lane ∷ lanes) all =
    let P : LaneBids → Type 0 = λ lane. lane ≡ of lane.number in
    ap (λ l. l ∷ lanes) (All-head P lane lanes all)
    ∙ ap (λ ls. of lane.number ∷ ls) (by_number of lanes (All-tail P lane lanes all))

-- ---- what two replies show of the lanes whose bits differ

module _ (width : ℕ) (proof : ProofValue) (is : IsSealedProof width proof) (first second : Challenge)
    (right_first : IsChallenge first) (count_first : length first.bits ≡ proof.lanes) (right_second : IsChallenge second) (count_second : length second.bits ≡ proof.lanes) where
  -- for this bit, by the reply that shows it
  abbrev pub lane_for : Bool → ℕ → List Shown
  lane_for bit lane = shown_for bit (bit_of first lane)
      (slice_index_or (lanes_shown_from proof 1 first.bits) (lane - 1) [])
      (slice_index_or (lanes_shown_from proof 1 second.bits) (lane - 1) [])

  -- the lane is one of the proof, and what is shown of it for a bit is what the prover shows for it
  record IsOpenedLane (lane : ℕ) : Type 0 where
    some : 1 ≤ lane
    within : lane ≤ proof.lanes
    shown : (bit : Bool) → lane_for bit lane ≡ lane_shown_in proof lane bit

  opened : (lane : ℕ) → DiffersIn 1 first.bits second.bits lane → IsOpenedLane lane
  opened lane differs =
      let number : lane - 1 + 1 ≡ lane = omega (arith, differs.from) in
      let of_first : slice_index_or (lanes_shown_from proof 1 first.bits) (lane - 1) []
      ≡ lane_shown_in proof lane (bit_of first lane) =
      shown_at width proof is first right_first count_first (lane - 1)
      (omega (arith, differs.from, differs.until))
      ∙ ap (λ n. lane_shown_in proof n (bit_of first n)) number in
      let of_second : slice_index_or (lanes_shown_from proof 1 second.bits) (lane - 1) []
      ≡ lane_shown_in proof lane (bit_of second lane) =
      shown_at width proof is second right_second count_second (lane - 1)
      (omega (arith, differs.from, differs.until, count_first, count_second))
      ∙ ap (λ n. lane_shown_in proof n (bit_of second n)) number in
      record {
        some = differs.from;
        within = omega (arith, differs.until, count_first);
        shown = λ bit.
            ap (λ one. shown_for bit (bit_of first lane) one
            (slice_index_or (lanes_shown_from proof 1 second.bits) (lane - 1) [])) of_first
            ∙ (ap (λ other. shown_for bit (bit_of first lane)
            (lane_shown_in proof lane (bit_of first lane)) other) of_second
            ∙ shown_either (lane_shown_in proof lane) bit (bit_of first lane) (bit_of second lane)
            differs.bits_differ);
      }

  all_opened : All IsOpenedLane (differing 1 first.bits second.bits)
  all_opened = All-weaker (DiffersIn 1 first.bits second.bits) IsOpenedLane opened
      (differing 1 first.bits second.bits) (all_differ 1 first.bits second.bits)

  -- so what is shown of them for both bits agrees
  agrees : (lane : ℕ) → IsOpenedLane lane → (wire : ℕ)
      → WireAgrees (lane_for false lane) (lane_for true lane) wire
  agrees lane of wire =
      let P : List Shown → Type 0 = λ zeros. WireAgrees zeros (lane_shown_in proof lane true) wire
      in
      let Q : List Shown → Type 0 = λ ones. WireAgrees (lane_for false lane) ones wire in
      subst Q (sym (of.shown true))
      (subst P (sym (of.shown false)) (shown_agree width proof is lane of.some of.within wire))

  pub all_agree : All (λ lane. (wire : ℕ)
      → WireAgrees (lane_for false lane) (lane_for true lane) wire)
      (differing 1 first.bits second.bits)
  all_agree k d lt = agrees _ (all_opened k d lt)

  -- and the values that are found are those that were sealed
  lane_is : (lane : LaneBids) → IsOpenedLane lane.number
      → AreShownIn (lane_for false lane.number) (lane_for true lane.number) lane.bids
      → AreOfRows proof.rows lane.bids → lane ≡ rows_in_lane proof.rows lane.number
  lane_is lane of shown right =
      let P : List Shown → Type 0 =
      λ zeros. AreShownIn zeros (lane_for true lane.number) lane.bids in
      let Q : List Shown → Type 0 =
      λ ones. AreShownIn (lane_shown_in proof lane.number false) ones lane.bids in
      lane_same lane (map (bid_in_lane lane.number) proof.rows)
      (bids_same width proof is lane.number of.some of.within lane.bids
      (subst Q (of.shown true) (subst P (of.shown false) shown)) right)

  pub lanes_are : (lanes : List LaneBids)
      → map (λ (lane : LaneBids). lane.number) lanes ≡ differing 1 first.bits second.bits
      → All (λ (lane : LaneBids).
      AreShownIn (lane_for false lane.number) (lane_for true lane.number) lane.bids) lanes
      → All (λ (lane : LaneBids). AreOfRows proof.rows lane.bids) lanes
      → lanes ≡ map (rows_in_lane proof.rows) (differing 1 first.bits second.bits)
  lanes_are lanes numbers shown right =
      let opens : All (λ (lane : LaneBids). IsOpenedLane lane.number) lanes =
      of_numbers IsOpenedLane lanes (subst (All IsOpenedLane) (sym numbers) all_opened) in
      by_number (rows_in_lane proof.rows) lanes
      (λ k d lt. lane_is (get_or lanes k d) (opens k d lt) (shown k d lt) (right k d lt))
      ∙ ap (map (rows_in_lane proof.rows)) numbers

extracted_same : (one : Extracted) (front : Front) (lanes : List LaneBids) → one.front ≡ front
    → one.lanes ≡ lanes → one ≡ record { front = front; lanes = lanes }
extracted_same one front lanes fronts same =
    let of : Front → List LaneBids → Extracted = λ f ls. record { front = f; lanes = ls } in
    ap (λ f. of f one.lanes) fronts ∙ ap (of front) same

module _ (auction : Auction) (proved : IsProvedAuction auction) (first second : Challenge) (is_first : IsChallengeTo auction first) (is_second : IsChallengeTo auction second)
    (differ : first.bits ≢ second.bits) where
  abbrev two : TwoAccepted (board_of auction) (challenge_text first) (reply_of auction first)
      (challenge_text second) (reply_of auction second)
  two = record {
    first = accepts auction proved first is_first;
    second = accepts auction proved second is_second;
    differ = differ;
  }

  record GivesBids (extraction : Extraction) : Type 0 where
    found : Extracted
    is : extraction ≡ Bids found
    right : IsExtraction two found

  gives_bids : (extraction : Extraction) → IsOf two extraction → GivesBids extraction
  gives_bids (Refused second_reply verdict) is = absurd is
  gives_bids Same is = absurd is
  gives_bids (Clash clash) is =
      absurd (no_clash two clash (λ k d lt wire inside. all_agree auction.width (proof_of auction)
      (sealed auction proved) first second is_first.right is_first.one_bit_each is_second.right
      is_second.one_bit_each k d lt wire) is)
  gives_bids (Bids found) is = record { found = found; is = refl; right = is }

  -- the bids that are found are those that were sealed
  found_is : (found : Extracted) → IsExtraction two found → found ≡ sealed_bids auction first second
  found_is found right =
      extracted_same found (front_of auction)
      (map (bids_in_lane auction) (differing 1 first.bits second.bits)) right.front
      (lanes_are auction.width (proof_of auction) (sealed auction proved) first second
      is_first.right is_first.one_bit_each is_second.right is_second.one_bit_each found.lanes
      right.numbers right.shown (λ k d lt. record {
        one_each = (right.outcomes k d lt).one_each;
        sums = λ index bid here. ((right.outcomes k d lt).opened index bid here).is_sum;
      }))

pub replies_give_bids : RepliesGiveBids
replies_give_bids auction first second proved is_first is_second differ =
    let both = two auction proved first second is_first is_second differ in
    let given = gives_bids auction proved first second is_first is_second differ _
    (accepted_are_extracted (board_of auction) (challenge_text first) (reply_of auction first)
    (challenge_text second) (reply_of auction second) both) in
    given.is ∙ ap Bids (found_is auction proved first second is_first is_second differ given.found
    given.right)

-- ---- how many lanes, and whether the bids are equal in all of them

-- a seal has one bid in all lanes
one_bid : (rows : List SealRow) (index lane other : ℕ)
    → bid_or_zero (slice_get (map (bid_in_lane lane) rows) index)
    ≡ bid_or_zero (slice_get (map (bid_in_lane other) rows) index)
one_bid [] index lane other = refl
one_bid (row ∷ rows) zero lane other = refl
one_bid (row ∷ rows) (suc index) lane other = one_bid rows index lane other

all_equal : (rows : List SealRow) (index value : ℕ) (lanes : List ℕ)
    → ((lane : ℕ) → bid_in index (rows_in_lane rows lane) ≡ value)
    → list_all (λ lane. bid_in index lane == value) (map (rows_in_lane rows) lanes) ≡ true
all_equal rows index value [] equal = refl
all_equal rows index value (lane ∷ lanes) equal =
    let rest = list_all (λ lane. bid_in index lane == value) (map (rows_in_lane rows) lanes) in
    ap (λ test. test && rest) (eq-eqb (bid_in index (rows_in_lane rows lane)) value (equal lane))
    ∙ all_equal rows index value lanes equal

pub equal_in : (rows : List SealRow) (index : ℕ) (lanes : List ℕ)
    → has_one_bid index (map (rows_in_lane rows) lanes) ≡ true
equal_in rows index [] = refl
equal_in rows index (lane ∷ lanes) =
    all_equal rows index (bid_in index (rows_in_lane rows lane)) (lane ∷ lanes)
    (λ other. one_bid rows index other lane)

pub bids_are_equal : BidsAreEqual
bids_are_equal auction first second index =
    equal_in auction.seals index (differing 1 first.bits second.bits)

pub turned_open_all : TurnedOpenAll
turned_open_all auction first second is turned = (
  λ same. turned_differ first.bits is.right.some_bit (same ∙ turned),
  length-map (differing 1 first.bits second.bits) (bids_in_lane auction)
      ∙ (ap (λ bits. length (differing 1 first.bits bits)) turned
      ∙ (length-differing_turned 1 first.bits ∙ is.one_bit_each)),
)
