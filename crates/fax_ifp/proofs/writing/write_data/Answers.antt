use Rattle.std.proofs.Common.{arith}
use Rattle.fax_ifp.proofs.writing.write_data.Goals as goal

pub put_data-requires-clause-room : goal.put_data-requires-clause-room
put_data-requires-clause-room c = omega (arith, c.data_length.ensures c.args.kind, c.in_ok-octets.ensures.len, c.in_ok-octets.ensures.capacity)
