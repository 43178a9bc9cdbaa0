-- The secret against the board's seal of its seat, and against the bids of that seal.
use Rattle.std.proofs.Common.{◌≡◌, ℕ, zero, suc, ◌+◌, ◌-◌, ◌<◌, ◌≤◌, All, List, [], ◌∷◌, ◌++◌, length, drop, get_or, Option, Some, None, IfSome, refl, sym, ap, subst, ◌∙◌, arith}
use Rattle.std.specs.Prelude.{slice_get, slice_index_or}
use Rattle.std.proofs.lemmas.List.{drop_more}
use Rattle.std.proofs.lemmas.List.Quantifiers.{position-Some}
use Rattle.std.proofs.lemmas.Option.{get_or_from_slice_get}
use Rattle.vk_commit.specs.Commitment.{Opens, TwoOpeningsSeen}
use Rattle.vk_commit.specs.declared.place.Place.{Place}
use Rattle.vk_commit.specs.declared.place.Opening.{Opening}
use Rattle.vk_lines.specs.Forms.{EachAfter}
use Rattle.vk_wire.specs.declared.wire.WireCom.{WireCom}
use Rattle.vk_seal.specs.Made.{lane_com, lane_coms, seal_of}
use Rattle.vk_seal.specs.declared.secret.Seal.{Seal}
use Rattle.vk_seal.specs.declared.secret.Secret.{Secret}
use Rattle.vk_seal.specs.declared.secret.XTape.{XTape}
use Rattle.vk_board.specs.Fronts.{IsFront}
use Rattle.vk_board.specs.Values.{IsSealAfter}
use Rattle.vk_board.specs.declared.board.SealLines.{SealLines}
use Rattle.vk_board.specs.declared.front.Front.{Front}
use Rattle.vk_extractor.specs.Clash.{or_else}
use Rattle.vk_extractor.specs.Confronting.{no_tape, secret_com, tape_in}
use Rattle.vk_bids.specs.declared.bids.LaneBids.{LaneBids}
use Rattle.vk_bids.specs.declared.bids.OpenedBid.{OpenedBid}
use Rattle.vk_bids.specs.Confrontation.{OpensSecretBid, OpensSecretIn, board_seal, confronted_lane, confronted_lanes, index_of_seat, no_seal}
use Rattle.vk_bids.specs.Opening.{OpensSeal, seal_place}
use Rattle.vk_bids.specs.Outcome.{LaneShows, ShowsOutcome}

-- ---- lane by lane

-- the lane that comes next
pub lanes_step : (secret : Secret) (index : ℕ) (lanes : List LaneBids) (at : ℕ) (lane : LaneBids)
    → at < length lanes → lane ≡ get_or lanes at lane
    → confronted_lanes secret index (drop at lanes)
    ≡ or_else (confronted_lane secret index lane)
    (confronted_lanes secret index (drop (at + 1) lanes))
unfolding confronted_lanes
lanes_step secret index lanes at lane within is =
    let first : drop at lanes ≡ lane ∷ drop (at + 1) lanes = drop_more lanes at lane within
    ∙ ap (λ l. l ∷ drop (at + 1) lanes) (sym is) in
    ap (λ ls. confronted_lanes secret index ls) first

-- what the lane at that place comes to goes before what is left
pub lanes_turn : (secret : Secret) (index : ℕ) (lanes : List LaneBids) (at : ℕ) (lane : LaneBids)
    (here whole : Option TwoOpeningsSeen) → at < length lanes → lane ≡ get_or lanes at lane
    → confronted_lanes secret index (drop at lanes) ≡ whole
    → confronted_lane secret index lane ≡ here
    → or_else here (confronted_lanes secret index (drop (at + 1) lanes)) ≡ whole
lanes_turn secret index lanes at lane here whole within is so_far is_here =
    ap (λ (o : Option TwoOpeningsSeen). or_else o
    (confronted_lanes secret index (drop (at + 1) lanes))) (sym is_here)
    ∙ (sym (lanes_step secret index lanes at lane within is) ∙ so_far)

-- no lane is left
pub lanes_over : (secret : Secret) (index : ℕ) (lanes : List LaneBids) (at : ℕ) → length lanes ≤ at
    → confronted_lanes secret index (drop at lanes) ≡ None
unfolding confronted_lanes
lanes_over secret index [] zero within = refl
lanes_over secret index [] (suc at) within = refl
lanes_over secret index (lane ∷ lanes) zero within = absurd (omega arith)
lanes_over secret index (lane ∷ lanes) (suc at) within =
    lanes_over secret index lanes at (omega (arith, within))

-- ---- the seal

each_count : (lanes index : ℕ) (before seals : List SealLines)
    → EachAfter (IsSealAfter lanes) before seals → index < length seals
    → length (slice_index_or seals index no_seal).coms ≡ lanes
each_count lanes index before [] each within = absurd (omega (arith, within))
each_count lanes zero before (seal ∷ seals) each within = each.0.right.count
each_count lanes (suc index) before (seal ∷ seals) each within =
    each_count lanes index (before ++ seal ∷ []) seals each.1 (omega (arith, within))

-- the index that is found is that of a seal
pub index_within : (seat index : ℕ) (seals : List SealLines) → index_of_seat seat seals ≡ Some index
    → index < length seals
index_within seat index seals found = (position-Some _ seals index no_seal found).0

-- a board's seal has at most 64 lanes
pub few_kept : (front : Front) (index : ℕ) (seal : Seal) → IsFront front
    → index < length front.seals → seal ≡ board_seal front.head front.seals index
    → length seal.lanes ≤ 64
few_kept front index seal is within same =
    let count : length (slice_index_or front.seals index no_seal).coms ≡ front.head.lanes =
    each_count front.head.lanes index [] front.seals is.seals.each within in
    let lanes : length seal.lanes ≡ length (slice_index_or front.seals index no_seal).coms =
    ap (λ (s : Seal). length s.lanes) same in
    omega (arith, count, lanes, is.head.size.lanes.most)

-- ---- the bids of that seal

-- a seal's commitments of a lane are those of the secret in it
lane_coms_at : (auction : List ℕ) (seat bid lane at : ℕ) (tapes : List XTape) (digests : WireCom)
    → slice_get (lane_coms auction seat bid lane tapes) at ≡ Some digests
    → (at < length tapes) × (digests
    ≡ lane_com auction seat bid (lane + at) (slice_index_or tapes at no_tape))
lane_coms_at auction seat bid lane at [] digests is = cc
lane_coms_at auction seat bid lane zero (tape ∷ tapes) digests is =
    let same : lane ≡ lane + zero = omega arith in
    let first : lane_com auction seat bid lane tape ≡ digests = cc in
    (omega arith, sym first ∙ ap (λ n. lane_com auction seat bid n tape) same)
lane_coms_at auction seat bid lane (suc at) (tape ∷ tapes) digests is =
    let rest = lane_coms_at auction seat bid (lane + 1) at tapes digests is in
    let same : lane + 1 + at ≡ lane + suc at = omega arith in (
      omega (arith, rest.0),
      rest.1
          ∙ ap (λ n. lane_com auction seat bid n (slice_index_or tapes at no_tape)) same,
    )

opens_as : (place other : Place) (digest same : List ℕ) (opening : Opening) → place ≡ other
    → digest ≡ same → Opens place digest opening → Opens other same opening
opens_as place other digest same opening places digests opens =
    let P : Place → Type 0 = λ p. Opens p digest opening in
    let D : List ℕ → Type 0 = λ d. Opens other d opening in
    subst D digests (subst P places opens)

place_as : (front : Front) (secret : Secret) (seat number slot : ℕ)
    → front.head.auction ≡ secret.auction → seat ≡ secret.seat
    → seal_place front.head.auction seat number slot
    ≡ record { auction = secret.auction; seat = secret.seat; lane = number; slot = slot }
place_as front secret seat number slot auctions seats =
    let of : List ℕ → ℕ → Place =
    λ auction seat. record { auction = auction; seat = seat; lane = number; slot = slot } in
    ap (λ auction. of auction seat) auctions ∙ ap (λ s. of secret.auction s) seats

-- the digests of a matching seal in a lane are the secret's commitments in it
pub digests_are : (front : Front) (secret : Secret) (index number : ℕ) (bid : OpenedBid)
    → board_seal front.head front.seals index ≡ seal_of secret
    → (opens : OpensSeal front.head.auction front.seals number index bid)
    → (number ≤ length secret.lanes) × (opens.digests ≡ secret_com secret number)
digests_are front secret index number bid same opens =
    let lines : slice_index_or front.seals index no_seal ≡ opens.seal =
    get_or_from_slice_get front.seals index opens.seal no_seal opens.on_board in
    let coms : opens.seal.coms ≡ lane_coms secret.auction secret.seat secret.bid 1 secret.lanes =
    ap (λ (l : SealLines). l.coms) (sym lines) ∙ ap (λ (s : Seal). s.lanes) same in
    let P : List WireCom → Type 0 = λ cs. slice_get cs (number - 1) ≡ Some opens.digests in
    let at = lane_coms_at secret.auction secret.seat secret.bid 1 (number - 1) secret.lanes
    opens.digests (subst P coms opens.in_lane) in
    let numbered : 1 + (number - 1) ≡ number = omega (arith, opens.numbered) in (
      omega (arith, at.0, opens.numbered),
      at.1
          ∙ ap (λ n. lane_com secret.auction secret.seat secret.bid n (tape_in secret number))
          numbered,
    )

-- where the secret matches the seal, a bid that opens the seal opens the secret's commitments
pub opens_bid : (front : Front) (secret : Secret) (index number : ℕ) (bid : OpenedBid)
    → board_seal front.head front.seals index ≡ seal_of secret
    → OpensSeal front.head.auction front.seals number index bid → OpensSecretBid secret number bid
opens_bid front secret index number bid same opens =
    let lines : slice_index_or front.seals index no_seal ≡ opens.seal =
    get_or_from_slice_get front.seals index opens.seal no_seal opens.on_board in
    let auctions : front.head.auction ≡ secret.auction = ap (λ (s : Seal). s.auction) same in
    let seats : opens.seal.seat ≡ secret.seat = ap (λ (l : SealLines). l.seat) (sym lines)
    ∙ ap (λ (s : Seal). s.seat) same in
    let digests = digests_are front secret index number bid same opens in
    record {
      some_lane = opens.numbered;
      last_lane = digests.0;
      first_opens = opens_as _ _ _ _ bid.first
          (place_as front secret opens.seal.seat number 0 auctions seats)
          (ap (λ (d : WireCom). d.first) digests.1) opens.first_opens;
      second_opens = opens_as _ _ _ _ bid.second
          (place_as front secret opens.seal.seat number 1 auctions seats)
          (ap (λ (d : WireCom). d.second) digests.1) opens.second_opens;
    }

opens_in : (front : Front) (secret : Secret) (index number : ℕ) (bids : List OpenedBid)
    (bid : Option OpenedBid) → board_seal front.head front.seals index ≡ seal_of secret
    → ShowsOutcome front number bids → slice_get bids index ≡ bid
    → IfSome bid (OpensSecretBid secret number)
opens_in front secret index number bids None same shows is = tt
opens_in front secret index number bids (Some bid) same shows is =
    opens_bid front secret index number bid same (shows.opened index bid is)

-- the bids of the seal at that index do, lane by lane
pub opened : (front : Front) (secret : Secret) (index : ℕ) (seal : Seal)
    (lanes others : List LaneBids) → seal ≡ board_seal front.head front.seals index
    → others ≡ lanes → All (LaneShows front) lanes → seal ≡ seal_of secret
    → All (OpensSecretIn secret index) others
opened front secret index seal lanes others is same shows made =
    let P : List LaneBids → Type 0 = λ ls. All (OpensSecretIn secret index) ls in
    subst P (sym same)
    (λ k d within. let lane = get_or lanes k d in
    opens_in front secret index lane.number lane.bids (slice_get lane.bids index) (sym is ∙ made)
    (shows k d within) refl)
