use Rattle.vk_auctioneer.proofs.command.house_command.Goals as goal

pub returns-in-Announce-clause-acts : goal.returns-in-Announce-clause-acts
returns-in-Announce-clause-acts g c =
    rw c.in-Announce.is (c.announce-said.ensures.acts (g.S.Shelf.held c.args.shelf.now))

pub returns-in-AnnounceReserve-clause-acts : goal.returns-in-AnnounceReserve-clause-acts
returns-in-AnnounceReserve-clause-acts g c =
    rw c.in-AnnounceReserve.is
    (c.announce_reserve-said.ensures.acts (g.S.Shelf.held c.args.shelf.now))

pub returns-in-Show-clause-acts : goal.returns-in-Show-clause-acts
returns-in-Show-clause-acts g c =
    rw c.in-Show.is (c.show-said.ensures.acts (g.S.Shelf.held c.args.shelf.now))
