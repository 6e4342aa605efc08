use Rattle.std.proofs.Common.{is_some}
use Rattle.fax_gateway.specs.Turns.{call_of_rep}
use Rattle.fax_line.proofs.Heard.{settled_is, tells_more}
use Rattle.fax_line.proofs.line.Line.settle_peers.Goals as goal

pub returns-clause-tells : goal.returns-clause-tells
returns-clause-tells g c = tells_more c.args.self.now c.settle.new.self c.settle-2.new.self c.settle.ensures.tells c.settle-2.ensures.tells

pub returns-clause-peers : goal.returns-clause-peers
returns-clause-peers g c =
    let was = c.args.self.now in
    settled_is was.peers c.settle.new.self.peers c.settle-2.new.self.peers (is_some (call_of_rep was.gateway.calling)) (is_some was.gateway.book.sending)
    c.is_on-is_on.result c.is_sending-is_sending.result c.is_on-is_on.ensures c.is_sending-is_sending.ensures c.settle.ensures.peers c.settle-2.ensures.peers
