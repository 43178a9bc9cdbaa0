use Rattle.std.proofs.Common.{◌∙◌}
use Rattle.page.specs.declared.room.WantedName.{WantedName}
use Rattle.page.specs.Shown.{held_under, wanted_bytes}
use Rattle.page.proofs.Rooms.{all_put, too_small}
use Rattle.page.proofs.room.show.Goals as goal

pub returns-in_err-at-2 : goal.returns-in_err-at-2
returns-in_err-at-2 c =
    let bytes = λ (file : WantedName). wanted_bytes
    (held_under c.args.shelf.now.files file.name.now) in
    let above = rw c.held_under.ensures at c.in_err-at-2.ensures in
    rw c.from_residual-in_err-at-2.ensures
    (too_small bytes c.args.wanted.now c.loop-file.file-index c.loop-file.at _ c.args.room.now
    c.loop-file.room c.put_wanted.new.room _
    c.loop-file-test.true c.loop-file.invariant.within c.loop-file.invariant.bytes above
    (c.loop-file.auto.room ∙ c.put_sized.auto.room))

pub returns : goal.returns
returns c =
    let bytes = λ (file : WantedName). wanted_bytes
    (held_under c.args.shelf.now.files file.name.now) in
    all_put bytes c.args.wanted.now c.loop-file.file-index c.loop-file.at c.args.room.now
    c.loop-file.room _
    c.loop-file-test.false c.loop-file.invariant.within c.loop-file.invariant.bytes
    (c.loop-file.auto.room ∙ c.put_sized.auto.room)
