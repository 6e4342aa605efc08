use Rattle.std.proofs.Common.{ap}
use Rattle.fax_sdp.specs.Readers.{reading_of}
use Rattle.fax_sdp.specs.Sessions.{begun, medium_text}
use Rattle.fax_sdp.proofs.reading.with_current.Goals as goal

pub returns-in-Ok : goal.returns-in-Ok
returns-in-Ok c = ap (begun (reading_of c.args.reader) (medium_text c.args.medium)) c.in-Ok.ensures

pub returns-in-Err : goal.returns-in-Err
returns-in-Err c = ap (begun (reading_of c.args.reader) (medium_text c.args.medium)) c.in-Err.ensures
