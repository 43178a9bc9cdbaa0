use Rattle.std.proofs.Common.{Some, ap, sym, ◌∙◌, ◌-◌, get_or, length, arith}
use Rattle.std.specs.Prelude.{option_map, slice_index}
use Rattle.std.proofs.lemmas.List.{get_or-map}
use Rattle.vk_job.specs.Outcome.{position_in}
use Rattle.vk_job.specs.Jobs.{seats_of}
use Rattle.vk_job.proofs.Held.{winner_within}
use Rattle.vk_job.proofs.sale.winner_of.Goals as goal

pub overflow_sub-place : goal.overflow_sub-place
overflow_sub-place c =
    (winner_within c.args.auction.now c.in-Sold.position c.in-Sold.price c.requires.sealed
    (sym c.in-Sold.is ∙ c.requires.sale)).0

pub bounds-as_slice-place : goal.bounds-as_slice-place
bounds-as_slice-place c =
    omega (
      arith,
      ap length c.as_slice.ensures,
      (winner_within c.args.auction.now c.in-Sold.position c.in-Sold.price c.requires.sealed
          (sym c.in-Sold.is ∙ c.requires.sale)).1,
    )

pub returns-in-Sold : goal.returns-in-Sold
returns-in-Sold c =
    let auction = c.args.auction.now in
    let row = c.index-as_slice-place.result in
    let place = c.in-Sold.position - 1 in
    let sold = sym c.in-Sold.is ∙ c.requires.sale in
    let within = (winner_within auction c.in-Sold.position c.in-Sold.price c.requires.sealed sold).1
    in
    ap (λ row. Some row.seal.seat)
    (c.index-as_slice-place.is ∙ ap (λ rows. get_or rows place row) c.as_slice.ensures)
    ∙ ap Some (sym (get_or-map (λ row. row.seal.seat) auction.seals place row 0 within))
    ∙ ap (λ sale. option_map (λ position. slice_index (seats_of auction) (position - 1))
    (position_in sale)) sold
