use Rattle.std.proofs.Common.{string_bytes}
use Rattle.fax_sdp.specs.Writing.{medium_line}
use Rattle.fax_sdp.proofs.WriteLemmas.{only_line}
use Rattle.fax_sdp.proofs.writing.put_refused.Goals as goal

pub returns : goal.returns
returns c =
    let medium = c.args.medium.now in
    only_line c.put_medium.result (string_bytes c.args.text.now) (string_bytes c.put_medium.new.text) (medium_line medium.name.now 0 medium.transport.now medium.formats.now) c.put_medium.ensures
