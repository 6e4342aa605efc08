use Rattle.std.proofs.Common.{decimal, string_bytes}
use Rattle.fax_sdp.proofs.WriteLemmas.{added_as, medium_text_is}
use Rattle.fax_sdp.proofs.writing.put_medium.Goals as goal

pub returns : goal.returns
returns c =
    added_as c.write.result (string_bytes c.args.text.now) (string_bytes c.write.new.self) _ _ c.write.ensures.bytes
    (medium_text_is c.args.name.now (decimal c.args.port) c.args.transport.now c.args.formats.now)
