use Rattle.std.proofs.Common.{sym, ◌∙◌, append-nil, arith, map}
use Rattle.std.proofs.lemmas.Result.{on_ok_weaker}
use Rattle.fax_runcodes.specs.Pixels.{pixel}
use Rattle.fax_command.proofs.putting.put_row.Goals as goal

pub returns-clause-text : goal.returns-clause-text
returns-clause-text g c =
    let octets = c.put_pixels.new.octets in
    let bits = c.put_pixels.ensures.bits ∙ sym (append-nil (map pixel c.args.row.now)) in
    on_ok_weaker c.put.result (λ p. (octets, (0, omega arith, bits), c.put.ensures.octets, p)) c.put.ensures.text
