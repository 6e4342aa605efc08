use Rattle.fax_ifp.proofs.signals.Signals.take.Goals as goal

pub returns-in-Lost-clause-given : goal.returns-in-Lost-clause-given
returns-in-Lost-clause-given c = rw c.in-Lost.is c.missing.ensures

pub returns-in-Packet-clause-given : goal.returns-in-Packet-clause-given
returns-in-Packet-clause-given c = rw c.in-Packet.is c.packet.ensures.given
