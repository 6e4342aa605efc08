use Rattle.std.proofs.Common.{decimal, string_bytes}
use Rattle.fax_sdp.proofs.WriteLemmas.{added_as, number_text}
use Rattle.fax_sdp.proofs.writing.put_number.Goals as goal

pub returns : goal.returns
returns c =
    added_as c.write.result (string_bytes c.args.text.now) (string_bytes c.write.new.self) _ _ c.write.ensures.bytes (number_text c.args.name.now (decimal c.args.number))
