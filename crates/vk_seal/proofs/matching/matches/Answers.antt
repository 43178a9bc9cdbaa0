use Rattle.vk_seal.proofs.SealsMatch.{match_exact}
use Rattle.vk_seal.proofs.matching.matches.Goals as goal

pub returns-clause-exact : goal.returns-clause-exact
returns-clause-exact c = rw c.first_mismatch-found.ensures
    (match_exact c.args.secret.now c.args.seal.now)
