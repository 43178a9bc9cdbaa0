use Rattle.std.proofs.Common.{◌≡◌, List, String, Global, false, not, rules, sym, subst}
use Rattle.std.proofs.lemmas.Fn.{filter_same}
use Rattle.std.specs.Str.{bytes_eq}
use Rattle.std.specs.String.{string_bytes}
use Rattle.vk_files.specs.Identity.{is_told}
use Rattle.vk_files.proofs.Names.{told_without}
use Rattle.vk_files.proofs.told_names.forget.Goals as goal

pub returns : goal.returns
returns c =
    let name = c.args.name.now in
    let P : List (String Global) → Type 0 = λ told. is_told told name ≡ false in
    subst P
    (sym (filter_same _ (λ other. not (bytes_eq (string_bytes other) name)) _
    (λ other b f' k. search rules) _ _ c.retain.ensures.filtered))
    (told_without name c.args.told.now.items)
