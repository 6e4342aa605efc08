use Rattle.std.proofs.Common.{arith}
use Rattle.fax_ifp.proofs.writing.write_frame.Goals as goal

pub put_frame-requires-clause-room : goal.put_frame-requires-clause-room
put_frame-requires-clause-room c = omega (arith, c.in_ok-octets.ensures.len, c.in_ok-octets.ensures.capacity)
