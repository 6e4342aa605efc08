use Rattle.std.proofs.Common.{arith}
use Rattle.fax_ifp.proofs.WritingLemmas.{frame_octets}
use Rattle.fax_ifp.proofs.writing.put_frame.Goals as goal

pub put_data-requires-clause-room : goal.put_data-requires-clause-room
put_data-requires-clause-room c = omega (arith, frame_octets c.code.result c.code-2.result c.args.frame.now, c.requires.room)
