use Rattle.std.proofs.Common.{◌∙◌, ap}
use Rattle.fax_sdp.specs.Readers.{reading_of}
use Rattle.fax_sdp.specs.Sessions.{with_medium}
use Rattle.fax_sdp.proofs.reading.begin_medium.Goals as goal

pub returns-in-Some : goal.returns-in-Some
returns-in-Some c = c.with_current.ensures ∙ ap (with_medium (reading_of c.args.reader)) c.in-Some.ensures

pub returns-in-None : goal.returns-in-None
returns-in-None c = ap (with_medium (reading_of c.args.reader)) c.in-None.ensures
