use Rattle.std.proofs.Common.{◌≡◌, Some}
use Rattle.vk_bids.specs.Confrontation.{index_of_seat}
use Rattle.vk_bids.proofs.Confronted.{few_kept, index_within, opened}
use Rattle.vk_bids.proofs.confrontation.confront_found.Goals as goal

pub confront_seal-requires-clause-few_kept : goal.confront_seal-requires-clause-few_kept
confront_seal-requires-clause-few_kept c =
    let front = c.args.found.front in
    let found : index_of_seat c.args.secret.now.seat front.seals ≡ Some c.in-Some.index =
    cc (c.index_of_seat.ensures, c.as_slice.ensures, c.in-Some.is) in
    few_kept front c.in-Some.index c.seal_at-seal.result c.requires.front
    (index_within c.args.secret.now.seat c.in-Some.index front.seals found)
    c.seal_at-seal.ensures

pub confront_seal-requires-clause-opened : goal.confront_seal-requires-clause-opened
confront_seal-requires-clause-opened c =
    opened c.args.found.front c.args.secret.now c.in-Some.index c.seal_at-seal.result
    c.args.found.lanes c.as_slice-in-Some.result.now c.seal_at-seal.ensures
    c.as_slice-in-Some.ensures c.requires.shows
