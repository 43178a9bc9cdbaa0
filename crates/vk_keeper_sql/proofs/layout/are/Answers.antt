use Rattle.std.proofs.lemmas.Bool.Decides.{Decides-eqb}
use Rattle.std.proofs.lemmas.Slice.Eq.{slice_eq-Decides}
use Rattle.vk_keeper_sql.proofs.layout.are.Goals as goal

pub returns : goal.returns
returns c = slice_eq-Decides Decides-eqb c.args.places.now c.args.wanted.now c.eq.result
    c.eq.ensures
