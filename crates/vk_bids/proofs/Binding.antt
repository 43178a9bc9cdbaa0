-- What a secret comes to against the bids of two accepted replies.
use Rattle.std.proofs.Common.{◌≡◌, ℕ, ◌+◌, ◌-◌, ◌<◌, ◌≤◌, All, Bool, false, true, List, [], ◌∷◌, ◌++◌, length, get_or, Option, Some, None, Result, Ok, Err, refl, sym, ap, subst, ◌∙◌, arith, inl, inr}
use Rattle.std.specs.Prelude.{◌≢◌, ◌==◌, IsOk, cond, nat_lt, slice_get, slice_index_or}
use Rattle.std.specs.List.{position_or_len}
use Rattle.std.specs.Result.{result_err}
use Rattle.std.proofs.lemmas.Bool.{eqb-true, eqb-false, ltb-false}
use Rattle.std.proofs.lemmas.List.{get_or-map, length-map}
use Rattle.std.proofs.lemmas.List.Elements.{All-nil, All-cons, All-head, All-tail}
use Rattle.std.proofs.lemmas.List.Quantifiers.{position-Some}
use Rattle.std.proofs.lemmas.List.Sums.{fails_before_first}
use Rattle.std.proofs.lemmas.Option.{get_or_from_slice_get, same_Some, slice_get-get_or, slice_get_within}
use Rattle.vk_residue.specs.Residue.{sum}
use Rattle.vk_commit.specs.Commitment.{TwoOpeningsSeen}
use Rattle.vk_commit.specs.declared.place.Opening.{Opening}
use Rattle.vk_wire.specs.Reads.{entry_digest}
use Rattle.vk_wire.specs.declared.wire.WireCom.{WireCom}
use Rattle.vk_seal.specs.Made.{seal_of}
use Rattle.vk_seal.specs.Match.{match_of}
use Rattle.vk_seal.specs.Reading.{secret_at}
use Rattle.vk_seal.specs.Values.{IsSecret}
use Rattle.vk_seal.specs.declared.matching.Mismatch.{Mismatch}
use Rattle.vk_seal.specs.declared.secret.Secret.{Secret}
use Rattle.vk_seal.proofs.Forms.{secret_is_whole, secret_fault}
use Rattle.vk_seal.proofs.SealsMatch.{match_exact}
use Rattle.vk_board.proofs.Winners.{seat_found}
use Rattle.vk_board.specs.Published.{position_from}
use Rattle.vk_board.specs.Values.{AreSeals}
use Rattle.vk_board.specs.declared.board.SealLines.{SealLines}
use Rattle.vk_board.specs.declared.front.Front.{Front}
use Rattle.vk_extractor.specs.Confronting.{secret_com, secret_opening}
use Rattle.vk_judge.specs.Begun.{from_start}
use Rattle.vk_bids.specs.declared.bids.LaneBids.{LaneBids}
use Rattle.vk_bids.specs.declared.bids.OpenedBid.{OpenedBid}
use Rattle.vk_bids.specs.declared.confrontation.Confrontation.{Confrontation}
use Rattle.vk_bids.specs.declared.confrontation.Confrontation.TheVariants as comes
use Rattle.vk_bids.specs.declared.extraction.Extracted.{Extracted}
use Rattle.vk_bids.specs.declared.extraction.Extraction.TheVariants.{Refused, Same, Clash, Bids}
use Rattle.vk_bids.specs.Binding.{ClashOr, HasMismatch, HeldOrClash, HoldsIn, IsConfrontationOf, IsOfTwo, IsSealAt, IsSealOf, OnlyAcceptedAreConfronted, OthersAreMalformed, SealedAreHeldOrClash, SecretsAreBound, seal_with}
use Rattle.vk_bids.specs.Confrontation.{board_seal, confronted_bid, confronted_lane, confronted_lanes, confrontation_in, confrontation_of, found_by, held_by, index_of_seat, matched_by, no_seal, sealed_by, secret_in}
use Rattle.vk_bids.specs.Extraction.{Extraction, extraction_in}
use Rattle.vk_bids.specs.Headline.{IsExtraction, IsFound, IsOf, TwoAccepted}
use Rattle.vk_bids.specs.Outcome.{LaneShows}
use Rattle.vk_bids.proofs.Halves.{halves_clash, halves_held, halves_sum, none_else, some_else}
use Rattle.vk_bids.proofs.Confronted.{digests_are, index_within, opens_bid}
use Rattle.vk_bids.proofs.Boards.{accepted_are_extracted, only_accepted_are_extracted}

no_opening : Opening
no_opening = record { key = []; value = 0 }

no_bid : OpenedBid
no_bid = record { seat = 0; bid = 0; first = no_opening; second = no_opening }

-- ---- the lanes, where the secret matches the seal at the index

module _ (front : Front) (secret : Secret) (index : ℕ) (is_secret : IsSecret secret) (within : index < length front.seals)
    (same : board_seal front.head front.seals index ≡ seal_of secret) where
  -- the seal has a bid in the lane
  has_bid : (lane : LaneBids) → LaneShows front lane
      → (bid : OpenedBid) × (slice_get lane.bids index ≡ Some bid)
  has_bid lane shows =
      let count : length lane.bids ≡ length front.seals =
      sym (length-map lane.bids (λ bid. bid.seat))
      ∙ (ap length shows.one_each ∙ length-map front.seals (λ seal. seal.seat)) in (
        get_or lane.bids index no_bid,
        slice_get-get_or lane.bids index no_bid (omega (arith, count, within)),
      )

  held_in : (lane : LaneBids) → LaneShows front lane → confronted_lane secret index lane ≡ None
      → HoldsIn secret index lane
  held_in lane shows none =
      let bid = has_bid lane shows in
      let opens = shows.opened index bid.0 bid.1 in
      let own = opens_bid front secret index lane.number bid.0 same opens in
      let halves = halves_held secret lane.number bid.0.first bid.0.second
      (sym (ap (λ b. confronted_bid secret lane.number b) bid.1) ∙ none) in
      record {
        bid = bid.0;
        is = bid.1;
        halves = halves;
        sum = opens.is_sum
            ∙ (ap (λ v. sum v bid.0.second.value) halves.first_half
            ∙ (ap (λ v. sum (secret_opening secret lane.number false).value v) halves.second_half
            ∙ halves_sum secret lane.number is_secret own.some_lane own.last_lane));
      }

  held_in_all : (lanes : List LaneBids) → All (LaneShows front) lanes
      → confronted_lanes secret index lanes ≡ None → All (HoldsIn secret index) lanes
  unfolding confronted_lanes
  held_in_all [] shows none = All-nil (HoldsIn secret index)
  held_in_all (lane ∷ lanes) shows none =
      let are = none_else (confronted_lane secret index lane) (confronted_lanes secret index lanes)
      none in
      All-cons (HoldsIn secret index) lane lanes
      (held_in lane (All-head (LaneShows front) lane lanes shows) are.0)
      (held_in_all lanes (All-tail (LaneShows front) lane lanes shows) are.1)

  -- the first lane that clashes
  record FirstOf (lanes : List LaneBids) (clash : TwoOpeningsSeen) : Type 0 where
    earlier : List LaneBids
    lane : LaneBids
    later : List LaneBids
    is : lanes ≡ earlier ++ lane ∷ later
    before : All (HoldsIn secret index) earlier
    shows : LaneShows front lane
    clashes : confronted_lane secret index lane ≡ Some clash

  first_of_lanes : (lanes : List LaneBids) (clash : TwoOpeningsSeen) → All (LaneShows front) lanes
      → confronted_lanes secret index lanes ≡ Some clash → FirstOf lanes clash
  unfolding confronted_lanes
  first_of_lanes [] clash shows found = cc
  first_of_lanes (lane ∷ lanes) clash shows found =
      elim (some_else (confronted_lane secret index lane) (confronted_lanes secret index lanes)
      clash found) [
        | inl here ↦ record {
          earlier = [];
          lane = lane;
          later = lanes;
          is = refl;
          before = All-nil (HoldsIn secret index);
          shows = All-head (LaneShows front) lane lanes shows;
          clashes = here;
        }
        | inr next ↦
            let rest = first_of_lanes lanes clash (All-tail (LaneShows front) lane lanes shows)
            next.1 in
            record {
              earlier = lane ∷ rest.earlier;
              lane = rest.lane;
              later = rest.later;
              is = ap (λ ls. lane ∷ ls) rest.is;
              before = All-cons (HoldsIn secret index) lane rest.earlier
                  (held_in lane (All-head (LaneShows front) lane lanes shows) next.0) rest.before;
              shows = rest.shows;
              clashes = rest.clashes;
            }
      ]

-- ---- the seal

seal_stands : (front : Front) (secret : Secret) (index : ℕ)
    → index_of_seat secret.seat front.seals ≡ Some index → IsSealAt front secret index
seal_stands front secret index found =
    let are = position-Some (λ (seal : SealLines). seal.seat == secret.seat) front.seals index
    no_seal found in
    record {
      lines = slice_index_or front.seals index no_seal;
      on_board = slice_get-get_or front.seals index no_seal are.0;
      seat = eqb-true (slice_index_or front.seals index no_seal).seat secret.seat are.1;
    }

past_end : (at count : ℕ) (test : Bool) → nat_lt at count ≡ test → cond test (Some at) None ≡ None
    → count ≤ at
past_end at count true is none = cc
past_end at count false is none = ltb-false at count is

no_seal_has : (seat : ℕ) (seals : List SealLines) → index_of_seat seat seals ≡ None
    → All (λ lines. lines.seat ≢ seat) seals
no_seal_has seat seals none k d within =
    let passes : SealLines → Bool = λ seal. seal.seat == seat in
    let past : length seals ≤ position_or_len passes seals =
    past_end (position_or_len passes seals) (length seals) _ refl none in
    eqb-false (get_or seals k d).seat seat (fails_before_first passes seals k d (omega arith))

-- where the board's seal with the secret's seat is found
place_of : (front : Front) (secret : Secret) (index : ℕ) → AreSeals front.head front.seals
    → IsSealAt front secret index → position_from secret.seat 0 front.seals ≡ Some (0 + index)
place_of front secret index are stands =
    let within = slice_get_within front.seals index stands.lines stands.on_board in
    let lines : get_or front.seals index no_seal ≡ stands.lines =
    get_or_from_slice_get front.seals index stands.lines no_seal stands.on_board in
    seat_found front.head.lanes secret.seat 0 index [] front.seals are.each within
    (get_or-map (λ (seal : SealLines). seal.seat) front.seals index no_seal 0 within
    ∙ (ap (λ (seal : SealLines). seal.seat) lines ∙ stands.seat))

-- a board has one seal with that seat
same_index : (front : Front) (secret : Secret) (index other : ℕ) → AreSeals front.head front.seals
    → IsSealAt front secret index → IsSealAt front secret other → index ≡ other
same_index front secret index other are here there =
    let first = place_of front secret index are here in
    let second = place_of front secret other are there in
    let same : 0 + index ≡ 0 + other = cc in
    omega (arith, same)

same_digest : (digest : List ℕ) (made kept : WireCom) (half : Bool)
    → digest ≡ entry_digest made half → kept ≡ made → digest ≡ entry_digest kept half
same_digest digest made kept half is same = is ∙ ap (λ d. entry_digest d half) (sym same)

not_both : (answer : Result Unit Mismatch) (mismatch : Mismatch) → answer ≡ Err mismatch
    → IsOk answer → ⊥
not_both (Ok done) mismatch is ok = cc
not_both (Err other) mismatch is ok = cc

-- ---- the bids

module _ (secret : Secret) (found : Extracted) (is_secret : IsSecret secret) (shows : All (LaneShows found.front) found.lanes) where
  by_lanes : (index : ℕ) → index_of_seat secret.seat found.front.seals ≡ Some index
      → board_seal found.front.head found.front.seals index ≡ seal_of secret
      → (two : Option TwoOpeningsSeen) → confronted_lanes secret index found.lanes ≡ two
      → IsConfrontationOf secret found (held_by secret.seat two)
  unfolding seal_stands
  by_lanes index at same None is =
      let within = index_within secret.seat index found.front.seals at in (
        refl,
        record {
          index = index;
          seal = record { stands = seal_stands found.front secret index at; matches = same };
          lanes = held_in_all found.front secret index is_secret within same found.lanes shows is;
        },
      )
  by_lanes index at same (Some clash) is =
      let within = index_within secret.seat index found.front.seals at in
      let first = first_of_lanes found.front secret index is_secret within same found.lanes clash
      shows is in
      let number = first.lane.number in
      let bid = has_bid found.front secret index is_secret within same first.lane first.shows in
      let opens = first.shows.opened index bid.0 bid.1 in
      let own = opens_bid found.front secret index number bid.0 same opens in
      let digests = (digests_are found.front secret index number bid.0 same opens).1 in
      let two = halves_clash secret number bid.0.first bid.0.second clash is_secret own.some_lane
      own.last_lane own.first_opens own.second_opens
      (sym (ap (λ b. confronted_bid secret number b) bid.1) ∙ first.clashes) in
      let lines : opens.seal ≡ slice_index_or found.front.seals index no_seal =
      sym (get_or_from_slice_get found.front.seals index opens.seal no_seal opens.on_board) in
      let P : SealLines → Type 0 = λ l. slice_get l.coms (number - 1) ≡ Some opens.digests in
      record {
        index = index;
        seal = record { stands = seal_stands found.front secret index at; matches = same };
        earlier = first.earlier;
        lane = first.lane;
        later = first.later;
        lanes = first.is;
        before = first.before;
        bid = bid.0;
        is = bid.1;
        two = two;
        digests = opens.digests;
        in_lane = subst P lines opens.in_lane;
        committed = same_digest clash.digest (secret_com secret number) opens.digests two.half
            two.digest digests;
      }

  by_match : (index : ℕ) → index_of_seat secret.seat found.front.seals ≡ Some index
      → (answer : Result Unit Mismatch)
      → match_of secret (board_seal found.front.head found.front.seals index) ≡ answer
      → IsConfrontationOf secret found (matched_by secret index found.lanes answer)
  unfolding seal_stands
  by_match index at (Err mismatch) is =
      record { index = index; stands = seal_stands found.front secret index at; differs = is }
  by_match index at (Ok done) is =
      let ok : IsOk (match_of secret (board_seal found.front.head found.front.seals index)) =
      rw is refl in
      by_lanes index at ((match_exact secret
      (board_seal found.front.head found.front.seals index)).0 ok)
      (confronted_lanes secret index found.lanes) refl

  by_index : (at : Option ℕ) → index_of_seat secret.seat found.front.seals ≡ at
      → IsConfrontationOf secret found (sealed_by secret found at)
  by_index None none = (refl, no_seal_has secret.seat found.front.seals none)
  by_index (Some index) at = by_match index at
      (match_of secret (board_seal found.front.head found.front.seals index)) refl

-- ---- where the board's seal at an index is the secret's

module _ (secret : Secret) (found : Extracted) (index : ℕ) (are : AreSeals found.front.head found.front.seals) (seal : IsSealOf found.front secret index) where
  no_mismatch : (mismatch : Mismatch) → HasMismatch found.front secret mismatch → ⊥
  no_mismatch mismatch has =
      let stands = seal.stands in
      let at = ap (λ n. slice_get found.front.seals n)
      (same_index found.front secret has.index index are has.stands stands) in
      let lines = same_Some has.stands.lines stands.lines
      (sym has.stands.on_board ∙ (at ∙ stands.on_board)) in
      not_both (match_of secret (seal_with found.front has.stands.lines)) mismatch has.differs
      ((match_exact secret (seal_with found.front has.stands.lines)).1
      (ap (seal_with found.front) lines ∙ seal.matches))

  sealed : (answer : Confrontation) → IsConfrontationOf secret found answer
      → HeldOrClash secret index found answer
  sealed (comes.Refused second verdict) is = absurd is
  sealed comes.Same is = absurd is
  sealed (comes.Malformed line) is = absurd is
  sealed (comes.NoSeal seat) is =
      let stands = seal.stands in
      let within = slice_get_within found.front.seals index stands.lines stands.on_board in
      let lines : get_or found.front.seals index no_seal ≡ stands.lines =
      get_or_from_slice_get found.front.seals index stands.lines no_seal stands.on_board in
      absurd (is.1 index no_seal within (ap (λ (l : SealLines). l.seat) lines ∙ stands.seat))
  sealed (comes.Mismatch mismatch) is = absurd (no_mismatch mismatch is)
  sealed (comes.Clash clash) is = inr (clash, refl, is)
  sealed (comes.Held seat) is =
      let same = same_index found.front secret is.1.index index are is.1.seal.stands seal.stands in
      inl (ap comes.Held is.0, subst (λ n. All (HoldsIn secret n) found.lanes) same is.1.lanes)

-- ---- the laws

module _ {board challenge reply other second : List ℕ} (two : TwoAccepted board challenge reply other second)
    (Says : Extracted → Confrontation → Type 0) (read : Result Secret ℕ)
    (says : (found : Extracted) → IsExtraction two found → Says found (found_by found read)) where
  -- the replies clash, or this is said of their bids
  of_two : (extraction : Extraction) → IsOf two extraction
      → ClashOr two (λ found. Says found (confrontation_of extraction read))
      (confrontation_of extraction read)
  of_two (Refused of_second verdict) is = absurd is
  of_two Same is = absurd is
  of_two (Clash clash) is = inl (clash, is, refl)
  of_two (Bids found) is = inr (found, is, says found is)

  -- where this is read of the secret's file
  of_file : (file : List ℕ) → secret_in (secret_at (from_start file)) ≡ read
      → let answer = confrontation_in board challenge reply other second file in
      ClashOr two (λ found. Says found answer) answer
  of_file file is =
      let extraction = extraction_in board challenge reply other second in
      let P : Result Secret ℕ → Type 0 =
      λ r. ClashOr two (λ found. Says found (confrontation_of extraction r))
      (confrontation_of extraction r) in
      subst P (sym is) (of_two extraction
      (accepted_are_extracted board challenge reply other second two))

pub secrets_are_bound : SecretsAreBound
secrets_are_bound board challenge reply other second file two secret is_secret is =
    of_file two (IsConfrontationOf secret) (Ok secret)
    (λ found of. let P : Front → Type 0 = λ front. All (LaneShows front) found.lanes in
    by_index secret found is_secret (subst P (sym of.front) of.outcomes)
    (index_of_seat secret.seat found.front.seals) refl)
    file (ap secret_in (secret_is_whole.found (from_start file) secret is_secret is).1)

pub sealed_are_held_or_clash : SealedAreHeldOrClash
sealed_are_held_or_clash board challenge reply other second file two secret index is_secret is
    seal =
    let answer = confrontation_in board challenge reply other second file in
    let P : Front → Type 0 =
    λ front. AreSeals front.head front.seals × IsSealOf front secret index in
    elim (secrets_are_bound board challenge reply other second file two secret is_secret is) [
      | inl clash ↦ inl clash
      | inr of ↦
          let stands = subst P (sym of.1.front) (two.first.right.seals, seal) in
          inr (of.0, of.1, sealed secret of.0 index stands.0 stands.1 answer of.2)
    ]

err_is : {A : Type 0} (read : Result A ℕ) (line : ℕ) → result_err read ≡ Some line → read ≡ Err line
err_is (Ok x) line is = cc
err_is (Err other) line is = cc

pub others_are_malformed : OthersAreMalformed
others_are_malformed board challenge reply other second file two line fault =
    of_file two (λ found answer. answer ≡ comes.Malformed line) (Err line) (λ found of. refl) file
    (ap secret_in (err_is (secret_at (from_start file)) line (sym (secret_fault file) ∙ fault)))

is_found : (extraction : Extraction) (secret : Result Secret ℕ)
    → IsOfTwo (confrontation_of extraction secret) → IsFound extraction
is_found (Refused second verdict) secret is = is
is_found Same secret is = is
is_found (Clash clash) secret is = tt
is_found (Bids found) secret is = tt

pub only_accepted_are_confronted : OnlyAcceptedAreConfronted
only_accepted_are_confronted board challenge reply other second file is =
    only_accepted_are_extracted board challenge reply other second
    (is_found (extraction_in board challenge reply other second)
    (secret_in (secret_at (from_start file))) is)
