use Rattle.std.proofs.Common.{sym, ◌∙◌, arith}
use Rattle.fax_legs.proofs.Bounds.{cut_whole, fewer_size, sendable_few}
use Rattle.fax_legs.proofs.bounding.cut_datagram.Goals as goal

pub returns-then-kept-count-clause-as_it_is : goal.returns-then-kept-count-clause-as_it_is
returns-then-kept-count-clause-as_it_is c =
    cut_whole c.args.limits c.args.octets.now c.args.datagram.now (sym c.kept-kept.ensures.kept ∙ c.if-kept-count.true ∙ c.in_ok-count.ensures.count)

pub write-requires-clause-room : goal.write-requires-clause-room
write-requires-clause-room c =
    omega (arith, fewer_size c.kept-kept.result c.args.datagram.now (sendable_few c.args.datagram.now c.in_ok-count.ensures.sendable), c.in_ok-count.ensures.octets, c.write-whole.ensures.same_room, c.requires)
