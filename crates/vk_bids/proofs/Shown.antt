-- The values that are gathered are inputs for which the circuit holds.
use Rattle.std.proofs.Common.{◌≡◌, All, List, [], ◌++◌, Option, Some, None, IfSome, sym, subst}
use Rattle.std.specs.Option.{option_to_list}
use Rattle.std.proofs.lemmas.List.Elements.{All-nil, All-cons, All-append}
use Rattle.vk_judge.specs.Statement.{StatementValue}
use Rattle.vk_judge.specs.Opened.{FileBase}
use Rattle.vk_bids.specs.declared.bids.LaneBids.{LaneBids}
use Rattle.vk_bids.specs.Opening.{LaneOpens}

found_opens : (s : StatementValue) (found : Option LaneBids) → IfSome found (LaneOpens s)
    → All (LaneOpens s) (option_to_list found)
found_opens s None opens = All-nil (LaneOpens s)
found_opens s (Some lane) opens = All-cons (LaneOpens s) lane [] opens (All-nil (LaneOpens s))

-- with those of a lane more
pub with_found : (s : StatementValue) (before after : List LaneBids) (found : Option LaneBids)
    → after ≡ before ++ option_to_list found
    → IfSome found (LaneOpens s) → All (LaneOpens s) before → All (LaneOpens s) after
with_found s before after found pushed opens so_far =
    let P : List LaneBids → Type 0 = λ lanes. All (LaneOpens s) lanes in
    subst P (sym pushed) (All-append (LaneOpens s) before (option_to_list found) so_far
    (found_opens s found opens))

-- the same of a base with the statement
pub by_statement : {H : Type 0} (base : Option (FileBase H)) (statement : StatementValue)
    (before after : List LaneBids)
    → IfSome base (λ known. known.base.statement ≡ statement)
    → (All (LaneOpens statement) before → All (LaneOpens statement) after)
    → IfSome base (λ known. All (LaneOpens known.base.statement) before
    → All (LaneOpens known.base.statement) after)
by_statement None statement before after is step = tt
by_statement (Some known) statement before after is step =
    let P : StatementValue → Type 0 = λ s. All (LaneOpens s) before → All (LaneOpens s) after in
    subst P (sym is) step
