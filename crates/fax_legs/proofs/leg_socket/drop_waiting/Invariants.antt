use Rattle.std.proofs.Common.{◌≡◌}
use Rattle.fax_legs.proofs.leg_socket.drop_waiting.Given as goal

-- nothing was handed over yet
abbrev pub invariant-loop : goal.invariant-loop
invariant-loop g l = g.S.DatagramSocket.known l.socket ≡ g.S.DatagramSocket.known l.fn.socket
