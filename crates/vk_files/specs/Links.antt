-- Where a link leads.
use Rattle.std.specs.Prelude.{ℕ, List}
use Rattle.std.specs.Path.{path_join}
use Rattle.vk_files.specs.Store.{folder_of}

-- to its target, beside the link where that doesn't begin at the root
abbrev pub leads_to : List ℕ → List ℕ → List ℕ
leads_to link target = path_join (folder_of link) target
