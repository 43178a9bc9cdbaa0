use Rattle.std.proofs.Common.{sym, ap, ◌∙◌, ◌++◌}
use Rattle.vk_files.proofs.Names.{store_name_by_ending}
use Rattle.vk_files.proofs.store_names.is_store_name.Goals as goal

pub returns-in-Some : goal.returns-in-Some
returns-in-Some c =
    let cut = c.in-Some.ensures.cases in
    let store = c.args.store.now in
    let ending = c.in-Some.ending.now in
    c.is_ending.ensures ∙ sym (store_name_by_ending c.args.name.now store ending
    (cut.1.1 ∙ ap (λ rest. store ++ rest) (sym cut.2)))
