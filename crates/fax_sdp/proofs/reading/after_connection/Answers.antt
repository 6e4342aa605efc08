use Rattle.std.proofs.Common.{◌∙◌, ap, Ok}
use Rattle.fax_sdp.specs.Readers.{reading_of}
use Rattle.fax_sdp.specs.Sessions.{with_host}
use Rattle.fax_sdp.proofs.reading.after_connection.Goals as goal

pub returns-in-Some : goal.returns-in-Some
returns-in-Some c = ap Ok c.with_host.ensures ∙ ap (with_host (reading_of c.args.reader)) c.in-Some.ensures

pub returns-in-None : goal.returns-in-None
returns-in-None c = ap (with_host (reading_of c.args.reader)) c.in-None.ensures
