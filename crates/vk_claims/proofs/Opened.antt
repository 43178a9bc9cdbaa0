-- What a sample's claim writes is accepted, and read back it opens every value.
use Rattle.std.proofs.Common.{◌≡◌, ◌≢◌, ℕ, ◌≤◌, All, true, List, [], ◌∷◌, ◌++◌, length, map, codes, flat_map, None, Ok, refl, sym, ap, subst, ◌∙◌, append_assoc, arith}
use Rattle.std.specs.FinMap.{insert}
use Rattle.std.proofs.lemmas.List.{length-map}
use Rattle.vk_io.specs.Files.{Files}
use Rattle.vk_io.specs.Writing.{written}
use Rattle.vk_lines.specs.Forms.{line}
use Rattle.vk_board.specs.Values.{AreSealsOf}
use Rattle.vk_board.specs.Texts.{lanes_text, seal_lines_text}
use Rattle.vk_reply.specs.declared.challenge.Challenge.{Challenge}
use Rattle.vk_reply.specs.Texts.{challenge_text}
use Rattle.vk_reply.specs.Values.{IsChallenge}
use Rattle.vk_judge.specs.Statement.{StatementValue}
use Rattle.vk_judge.specs.Acceptance.{file_text}
use Rattle.vk_judge.specs.FileForms.{two_lane_in}
use Rattle.vk_judge.specs.HeldFiles.{HeldAttempt, HeldFiles}
use Rattle.vk_bids.specs.declared.bids.LaneBids.{LaneBids}
use Rattle.vk_bids.specs.declared.extraction.Extraction.TheVariants.{Bids, Clash, Refused, Same}
use Rattle.vk_bids.specs.declared.lane_extraction.OpenedLanes.{OpenedLanes}
use Rattle.vk_bids.specs.FileHeadline.{IsOpenedBy, LaneAgrees, differing_in}
use Rattle.vk_bids.specs.OpenedBehind.{differing}
use Rattle.vk_bids.specs.Texts.{has_one_bid}
use Rattle.vk_bids.proofs.Agreeing.{no_first_clash}
use Rattle.vk_claim.specs.declared.front.ClaimHead.{ClaimHead}
use Rattle.vk_claim.specs.declared.front.ClaimFront.{ClaimFront}
use Rattle.vk_claim.specs.Acceptance.{ClaimAccepts}
use Rattle.vk_claim.specs.Claims.{IsAdmitted, PlannedFront, planned}
use Rattle.vk_claim.specs.Extraction.{ClaimExtraction, IsOfClaim, OpenedClaim, TwoClaimsAccepted, claim_extraction_in}
use Rattle.vk_claim.specs.Texts.{claim_front_text, claim_head_text}
use Rattle.vk_claim.specs.Values.{IsClaimFront, IsClaimHead}
use Rattle.vk_claim.proofs.Opening.{claim_files_are_extracted, claims_open}
use Rattle.vk_keeper.specs.declared.auction.SealRow.{SealRow}
use Rattle.vk_job.specs.Proofs.{ProofValue, file_of, first_dry_in, lanes_in, reply_in, seal_lines_of, source_of}
use Rattle.vk_honest.specs.Answers.{IsSealedProof, statement_in}
use Rattle.vk_honest.specs.Extracted.{rows_in_lane}
use Rattle.vk_honest.proofs.Accepted.{accepts_proof}
use Rattle.vk_honest.proofs.Differing.{length-differing_turned, turned_differ}
use Rattle.vk_honest.proofs.Extracted.{equal_in}
use Rattle.vk_honest.proofs.Extracted as replies
use Rattle.vk_honest.proofs.Sizes.{challenges_are_short}
use Rattle.vk_report.specs.declared.sample.SampleCase.{SampleCase}
use Rattle.vk_report.specs.Samples.{IsCaseOf}
use Rattle.vk_claims.specs.Circuits.{admitted_plan, claimed, claims_are_sound, part, plan_inputs, plan_of, plans_are_right}
use Rattle.vk_sample_parts.proofs.Auctions.{AllRows}
use Rattle.vk_sample_parts.proofs.Counted.{all_counted, held_first, none_named}
use Rattle.vk_words.specs.declared.claim.Kind.{Kind}
use Rattle.vk_words.specs.Names.{AttemptWords}
use Rattle.vk_claims.proofs.Cases.{eight_lanes}
use Rattle.vk_claims.proofs.Shown.{IsShown, is_shown}
use Rattle.vk_claims.proofs.Proofs.{IsMadeOf, is_sealed, made_of, seals_may_stand}
use Rattle.vk_claims.proofs.Sizes.{file_is_short, reply_is_short}
use Rattle.vk_claims.specs.Claims.{MayPublish, head_with, proof_by, proof_with, sizes_of}
use Rattle.vk_claims.specs.Laws.{ClaimSampleIsAccepted, HasSize, ClaimSampleOpensAll}
use Rattle.vk_claims.specs.Texts.{claim_names, files_of}

-- ---- the claim of a case

module _ (kind : Kind) (case : SampleCase) (is : IsCaseOf (sizes_of kind) case) (numbers : List ℕ) (shown : IsShown kind case numbers) (rows : List SealRow)
    (all : AllRows case rows) (none : first_dry_in (source_of (proof_with kind case numbers rows)) ≡ None) where
  abbrev proof : ProofValue
  proof = proof_with kind case numbers rows

  abbrev front : ClaimFront
  front = record { head = head_with kind case numbers; seals = map seal_lines_of rows }

  sealed : IsSealedProof case.width proof
  sealed = is_sealed kind case is.right numbers shown rows all none

  head_is : IsClaimHead (head_with kind case numbers)
  head_is = record {
    id = is.right.id;
    lanes = is.right.size.lanes;
    some_input = is.right.some_seal;
    few_inputs = omega (arith, is.right.few_seals);
    numbers = shown.numbers_are;
  }

  front_is : IsClaimFront front
  front_is = record {
    head = head_is;
    seals = subst (λ n. AreSealsOf n case.lanes (map seal_lines_of rows)) all.count
        (seals_may_stand case is.right rows all);
  }

  abbrev shown_front : PlannedFront
  shown_front = planned front (plan_of kind (length case.seats) numbers)

  admitted : IsAdmitted admitted_plan shown_front
  admitted = record {
    front = front_is;
    admitted = part kind (length case.seats) numbers shown.case_is;
  }

  -- the claim file is its front, the lanes and the end
  abbrev file : List ℕ
  file = file_of (claim_head_text (head_with kind case numbers)) proof

  abbrev whole : List ℕ
  whole = file_text (claim_front_text front) (lanes_in proof)

  file_is : file ≡ whole
  file_is =
      sym (append_assoc (claim_head_text (head_with kind case numbers))
      (flat_map seal_lines_text (map seal_lines_of rows))
      (lanes_text 1 (lanes_in proof) ++ line (codes "end")))

  abbrev accepted : (challenge : Challenge) → IsChallenge challenge
      → length challenge.bits ≡ case.lanes
      → ClaimAccepts admitted_plan whole (challenge_text challenge) (reply_in proof challenge.bits)
  accepted challenge right count = record {
    front = shown_front;
    right = admitted;
    behind = accepts_proof case.width proof sealed challenge right count (claim_front_text front);
  }

  of_file : (challenge reply : List ℕ) → ClaimAccepts admitted_plan whole challenge reply
      → ClaimAccepts admitted_plan file challenge reply
  of_file challenge reply accepts =
      subst (λ f. ClaimAccepts admitted_plan f challenge reply) (sym file_is) accepts

  pub are_accepted : ClaimSampleIsAccepted kind case numbers proof
  are_accepted = record {
    first = of_file _ _ (accepted case.first is.right.first is.right.first_count);
    second = of_file _ _ (accepted case.second is.right.second is.right.second_count);
  }

  -- ---- what is opened

  differ : case.first.bits ≢ case.second.bits
  differ = λ same. turned_differ case.first.bits is.right.first.some_bit (same ∙ is.right.turned)

  abbrev two : TwoClaimsAccepted admitted_plan whole (challenge_text case.first)
      (reply_in proof case.first.bits) (challenge_text case.second)
      (reply_in proof case.second.bits)
  two = record {
    first = accepted case.first is.right.first is.right.first_count;
    second = accepted case.second is.right.second is.right.second_count;
    differ = differ;
  }

  abbrev given : List LaneBids
  given = map (rows_in_lane rows) (differing 1 case.first.bits case.second.bits)

  abbrev all_found : OpenedClaim
  all_found = record {
    head = head_with kind case numbers;
    opened = record { statement = statement_in proof; lanes = given };
  }

  found_same : (found : OpenedClaim) → found.head ≡ head_with kind case numbers
      → found.opened.statement ≡ statement_in proof → found.opened.lanes ≡ given → found ≡ all_found
  found_same found heads statements lanes =
      let of : ClaimHead → StatementValue → List LaneBids
      → OpenedClaim = λ h s ls.
      record { head = h; opened = record { statement = s; lanes = ls } } in
      ap (λ h. of h found.opened.statement found.opened.lanes) heads
      ∙ (ap (λ s. of (head_with kind case numbers) s found.opened.lanes) statements
      ∙ ap (of (head_with kind case numbers) (statement_in proof)) lanes)

  all_agree : All (LaneAgrees two) (differing_in two)
  all_agree k d lt wire inside =
      replies.all_agree case.width proof sealed case.first case.second is.right.first
      is.right.first_count is.right.second is.right.second_count k d lt wire

  lanes_are : (found : OpenedLanes) → IsOpenedBy two found → found.lanes ≡ given
  lanes_are found opened =
      replies.lanes_are case.width proof sealed case.first case.second is.right.first
      is.right.first_count is.right.second is.right.second_count found.lanes opened.numbers
      opened.shown (λ k d lt. record {
        one_each = (opened.opens k d lt).one_each;
        sums = λ index bid here. ((opened.opens k d lt).opened index bid here).is_sum;
      })

  gives : (extraction : ClaimExtraction) → IsOfClaim admitted_plan claimed two extraction
      → extraction ≡ Bids all_found
  gives (Refused second verdict) is_of = absurd is_of
  gives Same is_of = absurd is_of
  gives (Clash clash) is_of =
      absurd (no_first_clash (two_lane_in two.first two.second) (differing_in two) case.auction
      clash
      all_agree is_of)
  gives (Bids found) is_of =
      ap (λ f. Bids f) (found_same found is_of.is.head is_of.is.opened.statement
      (lanes_are found.opened is_of.is.opened))

  extracted : claim_extraction_in admitted_plan file (challenge_text case.first)
      (reply_in proof case.first.bits) (challenge_text case.second)
      (reply_in proof case.second.bits) ≡ Bids all_found
  extracted =
      ap (λ f. claim_extraction_in admitted_plan f (challenge_text case.first)
      (reply_in proof case.first.bits) (challenge_text case.second)
      (reply_in proof case.second.bits)) file_is
      ∙ gives _
      (claims_open admitted_plan claimed claims_are_sound plans_are_right whole _ _ _ _ two)

  -- ---- read back

  size : HasSize kind case numbers proof
  size = record {
    inputs = plan_inputs kind (length case.seats) numbers ∙ is.seals_are;
    lanes = is.lanes_are ∙ eight_lanes kind;
    wires = shown.wires;
    rows = shown.rows;
  }

  few_wires : length proof.plan.kinds ≤ 10000
  few_wires = omega (arith, shown.wires, shown.few_wires)

  few_rows : length proof.plan.rows ≤ 1000
  few_rows = omega (arith, shown.rows, shown.few_rows)

  -- a challenge and the reply to it, which are written before others of other names
  abbrev attempt : (before : Files) (others : List (List ℕ × List ℕ)) (names : AttemptWords)
      (challenge : Challenge) → IsChallenge challenge → length challenge.bits ≡ case.lanes
      → none_named names.challenge ((names.reply, reply_in proof challenge.bits) ∷ others) ≡ true
      → none_named names.reply others ≡ true
      → HeldAttempt (written ((names.challenge, challenge_text challenge)
      ∷ (names.reply, reply_in proof challenge.bits) ∷ others) before) names.challenge names.reply
  attempt before others names challenge right count challenge_alone reply_alone = record {
    challenge_bytes = challenge_text challenge;
    reply_bytes = reply_in proof challenge.bits;
    challenge_is = record {
      is = held_first ((names.reply, reply_in proof challenge.bits) ∷ others) before names.challenge
          (challenge_text challenge) challenge_alone;
      short = challenges_are_short challenge right;
    };
    reply_is = record {
      is = held_first others (insert before names.challenge (challenge_text challenge)) names.reply
          (reply_in proof challenge.bits) reply_alone;
      short = reply_is_short proof sealed.right few_wires few_rows challenge right count;
    };
  }

  abbrev second_attempt : List (List ℕ × List ℕ)
  second_attempt = (claim_names.second.challenge, challenge_text case.second)
      ∷ (claim_names.second.reply, reply_in proof case.second.bits) ∷ []

  abbrev both_attempts : List (List ℕ × List ℕ)
  both_attempts = (claim_names.first.challenge, challenge_text case.first)
      ∷ (claim_names.first.reply, reply_in proof case.first.bits) ∷ second_attempt

  abbrev held : (files : Files)
      → HeldFiles (written (files_of kind case numbers proof) files) claim_names.board
      claim_names.first.challenge claim_names.first.reply claim_names.second.challenge
      claim_names.second.reply
  held files =
      let board = insert files claim_names.board file in
      let first = insert (insert board claim_names.first.challenge (challenge_text case.first))
      claim_names.first.reply (reply_in proof case.first.bits) in
      let seals = seals_may_stand case is.right rows all in
      record {
        file_bytes = file;
        file_is = record {
          is = held_first both_attempts files claim_names.board file refl;
          short = file_is_short proof sealed.right few_wires few_rows (head_with kind case numbers)
              head_is (omega (arith, all.count, is.right.few_seals)) seals;
        };
        first = attempt board second_attempt claim_names.first case.first is.right.first
            is.right.first_count refl refl;
        second = attempt first [] claim_names.second case.second is.right.second
            is.right.second_count refl refl;
      }

  pub opens_all : ClaimSampleOpensAll kind case numbers proof
  opens_all = record {
    found = all_found;
    read = λ files.
        (claim_files_are_extracted admitted_plan (written (files_of kind case numbers proof) files)
        claim_names.board claim_names.first.challenge claim_names.first.reply
        claim_names.second.challenge claim_names.second.reply (Bids all_found)).1
        (record { held = held files; is = sym extracted });
    all_lanes =
        length-map (differing 1 case.first.bits case.second.bits) (rows_in_lane rows)
        ∙ (ap (λ bits. length (differing 1 case.first.bits bits)) is.right.turned
        ∙ (length-differing_turned 1 case.first.bits ∙ is.right.first_count));
    all_seals = sym all.count;
    all_same =
        all_counted (λ index. has_one_bid index given)
        (λ index. equal_in rows index (differing 1 case.first.bits case.second.bits)) 0
        (length case.seats) ∙ sym all.count;
  }

-- ---- of every case and what was made of it

module _ (kind : Kind) (case : SampleCase) (is : IsCaseOf (sizes_of kind) case) (numbers : List ℕ) (published : MayPublish kind case numbers) (proof : ProofValue)
    (made : proof_by kind case numbers ≡ Ok proof) where
  of : IsMadeOf kind case numbers proof
  of = made_of kind case is.right numbers proof made

  shows : IsShown kind case numbers
  shows = is_shown kind case is numbers published

  pub has_size : HasSize kind case numbers proof
  has_size = subst (HasSize kind case numbers) of.same
      (size kind case is numbers shows of.rows of.all of.none)

  pub accepts : ClaimSampleIsAccepted kind case numbers proof
  accepts = subst (ClaimSampleIsAccepted kind case numbers) of.same
      (are_accepted kind case is numbers shows of.rows of.all of.none)

  pub opens : ClaimSampleOpensAll kind case numbers proof
  opens = subst (ClaimSampleOpensAll kind case numbers) of.same
      (opens_all kind case is numbers shows of.rows of.all of.none)
