use Rattle.std.proofs.Common.{◌∙◌, ap, Result}
use Rattle.fax_sdp.specs.declared.fault.SdpFault.{SdpFault}
use Rattle.fax_sdp.specs.Sessions.{Reading, kept, ◌>>=◌}
use Rattle.fax_sdp.proofs.reading.media_in.Goals as goal

pub returns-in-Ok : goal.returns-in-Ok
returns-in-Ok c = c.session_read.ensures ∙ ap (λ (r : Result Reading SdpFault). r >>= (λ reading. kept reading.whole reading.current)) c.in-Ok.ensures

pub returns-in-Err : goal.returns-in-Err
returns-in-Err c = ap (λ (r : Result Reading SdpFault). r >>= (λ reading. kept reading.whole reading.current)) c.in-Err.ensures
