-- What was kept before auctions had a version and a reserve goes on as before, lifted.
use Rattle.std.proofs.Common.{◌≡◌, ℕ, ◌-◌, ◌++◌, length, slice_index, Bool, cond, List, [], ◌∷◌, map, Option, Some, None, option_map, unwrap_or, refl, sym, ap, ◌∙◌}
use Rattle.std.specs.List.{All}
use Rattle.std.specs.Option.{option_or}
use Rattle.std.specs.Ordering.{eq_by_cmp, nat_cmp}
use Rattle.std.specs.Cmp.Lexicographic.{slice_cmp}
use Rattle.std.specs.FinMap.{get, insert, get-insert, same_map}
use Rattle.std.proofs.lemmas.Cmp.{nat_list_cmp_total}
use Rattle.std.proofs.lemmas.List.Elements.{All-head, All-tail}
use Rattle.std.proofs.lemmas.Map.Lookups.{exact_bytes}
use Rattle.vk_vickrey.specs.declared.sales.Sale.{Sale}
use Rattle.vk_board.specs.Values.{head_with}
use Rattle.vk_board.specs.Texts.{behind_text, board_text, head_text}
use Rattle.vk_reply.specs.declared.challenge.Challenge.{Challenge}
use Rattle.vk_keeper.specs.declared.auction.FirstAuction.{FirstAuction}
use Rattle.vk_keeper.specs.declared.auction.Phase.{Phase}
use Rattle.vk_keeper.specs.declared.auction.Auction.{Auction}
use Rattle.vk_keeper.specs.Auctions.{seed_of}
use Rattle.vk_keeper.specs.First.{FirstLedger, lifted, lifted_ledger}
use Rattle.vk_keeper.specs.Joining.{first_of}
use Rattle.vk_keeper.specs.Ledgers.{Ledger}
use Rattle.vk_keeper.proofs.Firsts.{get_lifted, lifted_if}
use Rattle.vk_job.specs.Jobs.{dry_in, proof_of, proof_with, sale_in, values_of}
use Rattle.vk_job.specs.Outcome.{position_in, price_in}
use Rattle.vk_job.specs.Proofs.{ProofValue, source_of, first_dry_in, lanes_in, reply_in, seal_lines_of}
use Rattle.vk_job.specs.Published.{board_of, head_of, reply_of}
use Rattle.vk_job.proofs.Held.{first_plan_is, first_values_are}
use Rattle.vk_job.proofs.Sales.{sale_without}
use Rattle.vk_house.specs.declared.errors.HouseErr.{HouseErr}
use Rattle.vk_house.specs.Commands.{HouseCommand, Announce, AnnounceReserve, Submit, Prove, Answer, Show, id_of, NamesNoReserve}
use Rattle.vk_house.specs.Tests.{still_taking, no_seals, other_seed, other_length, other_challenge, dry_seed}
use Rattle.vk_house.specs.Replies.{HouseReply, Work, auctions}
use Rattle.vk_house.specs.Steps.{Step, step_at, ledger_after, house_step, house_steps}
use Rattle.vk_house.specs.Former.{FirstReply, FirstStep, first_auctions, first_outcome, first_proof, first_seed, first_board, first_reply, first_step_at, first_house_step, first_house_steps, lifted_outcome, lifted_reply}
use Rattle.vk_house.specs.Shaped as shaped

-- ---- what is made of an auction

pub same_proof : (first : FirstAuction) (seed : List ℕ)
    → proof_with (lifted first) seed ≡ first_proof first seed
same_proof first seed =
    let proof : ProofValue = first_proof first seed in
    ap (λ plan. record proof { plan = plan; values = values_of (lifted first) })
    (first_plan_is (lifted first) refl refl)
    ∙ ap (λ values. record proof { values = values }) (first_values_are (lifted first) refl refl)

same_dry : (first : FirstAuction) (seed : List ℕ)
    → dry_seed (dry_in (lifted first) seed) ≡ dry_seed (first_auctions.dry first seed)
same_dry first seed = ap (λ proof. dry_seed (first_dry_in (source_of proof)))
    (same_proof first seed)

same_sale : (first : FirstAuction) → sale_in (lifted first) ≡ lifted_outcome (first_outcome first)
same_sale first = sale_without (map (λ row. row.secret.bid) first.seals)

-- ---- the files that are made of it

-- the board of an auction with this sale and this proof
abbrev board_with : FirstAuction → Sale → ProofValue → List ℕ
board_with first sale proof =
    head_text (head_with 1 first.id first.width first.lanes (length first.seals) 0
    (option_map (λ position. slice_index (map (λ row. row.seal.seat) first.seals) (position - 1))
    (position_in sale)) (price_in sale))
    ++ behind_text (map seal_lines_of first.seals) (lanes_in proof)

pub same_board : (first : FirstAuction) → board_of (lifted first) ≡ first_board first
unfolding board_text head_text head_of
same_board first =
    ap (λ sale. board_with first sale (proof_of (lifted first))) (same_sale first)
    ∙ ap (board_with first (lifted_outcome (first_outcome first)))
    (same_proof first (first_seed first))

pub same_shown : (first : FirstAuction) (challenge : Challenge)
    → reply_of (lifted first) challenge ≡ first_reply first challenge
same_shown first challenge =
    ap (λ proof. reply_in proof challenge.bits) (same_proof first (first_seed first))

-- ---- a step by what stands under the id

same_refusals : (command : HouseCommand) (found : Option FirstAuction)
    → shaped.refusals_of auctions command (option_map lifted found)
    ≡ shaped.refusals_of first_auctions command found
same_refusals (Announce id width lanes) None = refl
same_refusals (Announce id width lanes) (Some first) = refl
same_refusals (AnnounceReserve id width lanes reserve) None = refl
same_refusals (AnnounceReserve id width lanes reserve) (Some first) = refl
same_refusals (Submit id seal secret) None = refl
same_refusals (Submit id seal secret) (Some first) = refl
same_refusals (Prove id seed) None = refl
same_refusals (Prove id seed) (Some first) =
    ap (λ dry. None ∷ no_seals first.seals ∷ other_seed seed first.phase ∷ dry ∷ [])
    (same_dry first seed)
same_refusals (Answer id challenge) None = refl
same_refusals (Answer id challenge) (Some first) =
    ap (λ dry. None ∷ still_taking first.phase ∷ other_length challenge first.lanes
    ∷ other_challenge challenge first.phase ∷ dry ∷ [])
    (same_dry first (unwrap_or (seed_of first.phase) []))
same_refusals (Show id) None = refl
same_refusals (Show id) (Some first) = refl

phased_lifted : (first : FirstAuction) (phase : Option Phase)
    → option_map (auctions.in_phase (lifted first)) phase
    ≡ option_map lifted (option_map (first_auctions.in_phase first) phase)
phased_lifted first None = refl
phased_lifted first (Some phase) = refl

same_kept : (command : HouseCommand) (found : Option FirstAuction) → NamesNoReserve command
    → shaped.kept_by auctions command (option_map lifted found)
    ≡ option_map lifted (shaped.kept_by first_auctions command found)
same_kept (Announce id width lanes) found unnamed = refl
same_kept (AnnounceReserve id width lanes reserve) found unnamed = absurd unnamed
same_kept (Submit id seal secret) None unnamed = refl
same_kept (Submit id seal secret) (Some first) unnamed = refl
same_kept (Prove id seed) None unnamed = refl
same_kept (Prove id seed) (Some first) unnamed =
    phased_lifted first (shaped.phase_proved seed first.phase)
same_kept (Answer id challenge) None unnamed = refl
same_kept (Answer id challenge) (Some first) unnamed =
    phased_lifted first (shaped.phase_answered challenge first.phase)
same_kept (Show id) found unnamed = refl

same_reply : (command : HouseCommand) (found : Option FirstAuction)
    → shaped.reply_to auctions command (option_map lifted found)
    ≡ lifted_reply (shaped.reply_to first_auctions command found)
same_reply command None = refl
same_reply (Announce id width lanes) (Some first) = refl
same_reply (AnnounceReserve id width lanes reserve) (Some first) = refl
same_reply (Submit id seal secret) (Some first) = refl
same_reply (Prove id seed) (Some first) = ap (Work (lifted first)) (same_sale first)
same_reply (Answer id challenge) (Some first) = ap (Work (lifted first)) (same_sale first)
same_reply (Show id) (Some first) = refl

-- a step with its auction and its reply lifted
abbrev lifted_step : FirstStep → Step
lifted_step step = record { reply = lifted_reply step.reply; kept = option_map lifted step.kept }

or_lifted : (kept found : Option FirstAuction)
    → option_or (option_map lifted kept) (option_map lifted found)
    ≡ option_map lifted (option_or kept found)
or_lifted None found = refl
or_lifted (Some first) found = refl

same_step_by : (refusal : Option HouseErr) (command : HouseCommand)
    (found kept : Option FirstAuction)
    → shaped.step_by auctions refusal command (option_map lifted found) (option_map lifted kept)
    ≡ lifted_step (shaped.step_by first_auctions refusal command found kept)
same_step_by (Some refusal) command found kept = refl
same_step_by None command found kept =
    ap (λ reply. record { reply = reply; kept = option_map lifted kept })
    (ap (shaped.reply_to auctions command) (or_lifted kept found)
    ∙ same_reply command (option_or kept found))

same_step : (command : HouseCommand) (found : Option FirstAuction) → NamesNoReserve command
    → step_at command (option_map lifted found) ≡ lifted_step (first_step_at command found)
unfolding step_at first_step_at
same_step command found unnamed =
    let there : Option Auction = option_map lifted found in
    ap (λ refusals. shaped.step_by auctions (first_of refusals) command there
    (shaped.kept_by auctions command there)) (same_refusals command found)
    ∙ ap (shaped.step_by auctions (shaped.refusal_of first_auctions command found) command there)
    (same_kept command found unnamed)
    ∙ same_step_by (shaped.refusal_of first_auctions command found) command found
    (shaped.kept_by first_auctions command found)

-- ---- on a ledger

insert_lifted : (firsts : FirstLedger) (id : List ℕ) (first : FirstAuction)
    → insert (lifted_ledger firsts) id (lifted first) ≡ lifted_ledger (insert firsts id first)
insert_lifted firsts id first =
    same_map nat_list_cmp_total exact_bytes _ _ (λ asked.
    let same : Bool = eq_by_cmp (slice_cmp nat_cmp) asked id in
    get-insert nat_list_cmp_total (lifted_ledger firsts) id (lifted first) asked
    ∙ ap (cond same (Some (lifted first))) (get_lifted firsts asked)
    ∙ lifted_if same first (get firsts asked)
    ∙ ap (option_map lifted) (sym (get-insert nat_list_cmp_total firsts id first asked))
    ∙ sym (get_lifted (insert firsts id first) asked))

after_lifted : (firsts : FirstLedger) (id : List ℕ) (kept : Option FirstAuction)
    → ledger_after (lifted_ledger firsts) id (option_map lifted kept)
    ≡ lifted_ledger (ledger_after firsts id kept)
after_lifted firsts id None = refl
after_lifted firsts id (Some first) = insert_lifted firsts id first

abbrev lifted_end : FirstReply × FirstLedger → HouseReply × Ledger
lifted_end end = (lifted_reply end.0, lifted_ledger end.1)

pub same_house_step : (firsts : FirstLedger) (command : HouseCommand) → NamesNoReserve command
    → house_step (lifted_ledger firsts) command ≡ lifted_end (first_house_step firsts command)
same_house_step firsts command unnamed =
    let id = id_of command in
    let found = get firsts id in
    ap (λ (s : Step). (s.reply, ledger_after (lifted_ledger firsts) id s.kept))
    (ap (step_at command) (get_lifted firsts id) ∙ same_step command found unnamed)
    ∙ ap (λ (l : Ledger). (lifted_reply (first_step_at command found).reply, l))
    (after_lifted firsts id (first_step_at command found).kept)

-- ---- on any list of commands

abbrev lifted_ends : List FirstReply × FirstLedger → List HouseReply × Ledger
lifted_ends end = (map lifted_reply end.0, lifted_ledger end.1)

same_steps : (commands : List HouseCommand) (firsts : FirstLedger) → All NamesNoReserve commands
    → house_steps (lifted_ledger firsts) commands ≡ lifted_ends (first_house_steps firsts commands)
same_steps [] firsts each = refl
same_steps (command ∷ later) firsts each =
    let first = first_house_step firsts command in
    ap (λ (here : HouseReply × Ledger).
    (here.0 ∷ (house_steps here.1 later).0, (house_steps here.1 later).1))
    (same_house_step firsts command (All-head NamesNoReserve command later each))
    ∙ ap (λ (rest : List HouseReply × Ledger). (lifted_reply first.0 ∷ rest.0, rest.1))
    (same_steps later first.1 (All-tail NamesNoReserve command later each))

pub same_replies : (commands : List HouseCommand) (firsts : FirstLedger)
    → All NamesNoReserve commands
    → (house_steps (lifted_ledger firsts) commands).0
    ≡ map lifted_reply (first_house_steps firsts commands).0
same_replies commands firsts each =
    ap (λ (end : List HouseReply × Ledger). end.0) (same_steps commands firsts each)

pub same_ledger : (commands : List HouseCommand) (firsts : FirstLedger)
    → All NamesNoReserve commands
    → (house_steps (lifted_ledger firsts) commands).1
    ≡ lifted_ledger (first_house_steps firsts commands).1
same_ledger commands firsts each =
    ap (λ (end : List HouseReply × Ledger). end.1) (same_steps commands firsts each)
