use Rattle.std.proofs.Common.{◌∙◌, sym, ap, arith}
use Rattle.fax_sdp.specs.Sessions.{described}
use Rattle.fax_sdp.specs.Texts.{lines_of}
use Rattle.fax_sdp.proofs.ReadLemmas.{media_of_text, media_of_no_text}
use Rattle.fax_sdp.proofs.reading.session_of.Goals as goal

pub returns-in-Ok : goal.returns-in-Ok
returns-in-Ok c =
    c.session_in.ensures ∙ ap (λ text. described (lines_of text)) c.in-Ok.ensures.cases.0
    ∙ sym (media_of_text c.args.octets.now (omega arith) c.in-Ok.ensures.cases.1)

pub returns-in-Err : goal.returns-in-Err
returns-in-Err c = sym (media_of_no_text c.args.octets.now (omega arith) c.in-Err.ensures.cases.0)
