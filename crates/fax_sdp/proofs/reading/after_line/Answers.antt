use Rattle.std.proofs.Common.{◌∙◌, sym, ap}
use Rattle.fax_sdp.specs.Readers.{reading_of}
use Rattle.fax_sdp.specs.Sessions.{said}
use Rattle.fax_sdp.proofs.reading.after_line.Goals as goal

pub returns-in-Some : goal.returns-in-Some
returns-in-Some c = c.after_value.ensures ∙ ap (said (reading_of c.args.reader)) (sym c.in-Some.ensures.parts)

pub returns-in-None : goal.returns-in-None
returns-in-None c = ap (said (reading_of c.args.reader)) (sym c.in-None.ensures.parts)
