use Rattle.std.proofs.Common.{arith}
use Rattle.fax_ifp.proofs.WritingLemmas.{image_octets}
use Rattle.fax_ifp.proofs.writing.put_image.Goals as goal

pub put_data-requires-clause-room : goal.put_data-requires-clause-room
put_data-requires-clause-room c = omega (arith, image_octets c.code.result c.args.own.now, c.requires.room)
