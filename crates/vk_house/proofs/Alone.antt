-- The calls that speak of one auction are calls by themselves.
use Rattle.std.proofs.Common.{◌≡◌, ◌≢◌, ℕ, ◌⊎◌, inl, inr, Bool, true, false, cond, List, [], ◌∷◌, Option, Some, None, refl, sym, ap, subst, ◌∙◌}
use Rattle.std.specs.Option.{option_or}
use Rattle.std.specs.Str.{bytes_eq}
use Rattle.std.specs.FinMap.{empty, get, insert, get-empty, same_map}
use Rattle.std.proofs.lemmas.Cmp.{nat_list_cmp_total}
use Rattle.std.proofs.lemmas.Map.Lookups.{exact_bytes}
use Rattle.std.proofs.lemmas.Slice.Eq.{bytes_eq-Decides}
use Rattle.vk_keeper.specs.declared.auction.Auction.{Auction}
use Rattle.vk_keeper.specs.Ledgers.{Ledger}
use Rattle.vk_house.specs.Commands.{HouseCommand, id_of}
use Rattle.vk_house.specs.Replies.{HouseReply}
use Rattle.vk_house.specs.Steps.{Step, step_at, ledger_after, house_step, HouseCall}
use Rattle.vk_house.specs.Runs.{Event, HouseRun, events_of, holding, alone}
use Rattle.vk_house.proofs.Stepping.{same_or_other, get_after, get_here, here_after, call_moved, call_others}

-- what stands under the id in the ledger that holds that alone
held : (id : List ℕ) (found : Option Auction) → get (holding id found) id ≡ found
held id None = get-empty _ id
held id (Some auction) = get_here empty id auction

-- the last change at an id counts
last_counts : (test : Bool) (x y z : Option Auction) → cond test x (cond test y z) ≡ cond test x z
last_counts true x y z = refl
last_counts false x y z = refl

twice : (id : List ℕ) (first second : Auction)
    → insert (holding id (Some first)) id second ≡ holding id (Some second)
twice id first second =
    same_map nat_list_cmp_total exact_bytes _ _ (λ asked.
    get_after (holding id (Some first)) id asked second
    ∙ ap (cond (bytes_eq asked id) (Some second)) (get_after empty id asked first)
    ∙ last_counts (bytes_eq asked id) (Some second) (Some first) (get empty asked)
    ∙ sym (get_after empty id asked second))

-- what is kept alone
holding_after : (id : List ℕ) (found kept : Option Auction)
    → ledger_after (holding id found) id kept ≡ holding id (option_or kept found)
holding_after id found None = refl
holding_after id None (Some auction) = refl
holding_after id (Some before) (Some auction) = twice id before auction

step_alone : (old new : Ledger) (command : HouseCommand) (reply : HouseReply)
    → house_step old command ≡ (reply, new)
    → house_step (alone (id_of command) old) command ≡ (reply, alone (id_of command) new)
step_alone old new command reply is =
    let id = id_of command in
    let found = get old id in
    let step = step_at command found in
    let left : get new id ≡ option_or step.kept found =
    ap (λ (r : HouseReply × Ledger). get r.1 id) (sym is) ∙ here_after old id step.kept in
    let steps : house_step (alone id old) command
    ≡ (step.reply, ledger_after (alone id old) id step.kept) =
    ap (λ f. (let s : Step = step_at command f in (s.reply, ledger_after (alone id old) id s.kept)))
    (held id found) in
    steps
    ∙ ap (λ (l : Ledger). (step.reply, l))
    (holding_after id found step.kept ∙ ap (holding id) (sym left))
    ∙ ap (λ (r : HouseReply × Ledger). (r.0, alone id new)) is

call_alone : (old new : Ledger) (command : HouseCommand) (reply : HouseReply)
    → HouseCall old command reply new
    → HouseCall (alone (id_of command) old) command reply (alone (id_of command) new)
call_alone old new command reply =
    call_moved old new (alone (id_of command) old) (alone (id_of command) new) command reply
    (step_alone old new command reply) (ap (alone (id_of command)))

-- one event before the others
run_by : (id : List ℕ) (event : Event) (later : List Event) (old between new : Ledger)
    → HouseCall old event.command event.reply between
    → HouseRun (events_of id later) (alone id between) (alone id new) → (id_of event.command ≡ id)
    ⊎ ((id_of event.command ≢ id) × (bytes_eq (id_of event.command) id ≡ false))
    → HouseRun (events_of id (event ∷ later)) (alone id old) (alone id new)
run_by id event later old between new call rest (inl its) =
    let whole : HouseRun (event ∷ events_of id later) (alone id old) (alone id new) = (
      alone id between,
      subst (λ i. HouseCall (alone i old) event.command event.reply
          (alone i between)) its (call_alone old between event.command event.reply call),
      rest,
    ) in
    subst (λ b. HouseRun (cond b (event ∷ events_of id later) (events_of id later)) (alone id old)
    (alone id new)) (sym ((bytes_eq-Decides (id_of event.command) id).1 its)) whole
run_by id event later old between new call rest (inr differ) =
    let stays : alone id between ≡ alone id old =
    ap (holding id) (call_others old between event.command event.reply id call
    (λ same. differ.0 (sym same))) in
    subst (λ b. HouseRun (cond b (event ∷ events_of id later) (events_of id later)) (alone id old)
    (alone id new)) (sym differ.1)
    (subst (λ l. HouseRun (events_of id later) l (alone id new)) stays rest)

pub run_alone : (events : List Event) (old new : Ledger) (id : List ℕ) → HouseRun events old new
    → HouseRun (events_of id events) (alone id old) (alone id new)
run_alone [] old new id run = ap (alone id) run
run_alone (event ∷ later) old new id run =
    run_by id event later old run.0 new run.1 (run_alone later run.0 new id run.2)
    (same_or_other (id_of event.command) id)
