use Rattle.std.proofs.Common.{◌∙◌, ap}
use Rattle.vk_vickrey.specs.BoardPlans.{board_numbers, board_row_count}
use Rattle.vk_report.proofs.shape.row_count_of.Goals as goal

pub returns : goal.returns
returns c =
    let head = c.args.head.now in
    c.board_row_count.ensures.count head.width
    ∙ ap (λ sale. board_row_count
    (board_numbers head.version head.seals head.width head.reserve sale)) c.sale_in-sale.ensures
