use Rattle.std.proofs.Common.{refl}
use Rattle.std.proofs.lemmas.Result.{err_from_is_err_and}
use Rattle.fax_send_receive.specs.Naming.{naming_of}
use Rattle.fax_send_receive.proofs.StoringLemmas.{ends_before}
use Rattle.fax_send_receive.proofs.receiving.receive_pages.Goals as goal

-- the address is at fault, before the first call
pub returns-in_err-here-clause-files : goal.returns-in_err-here-clause-files
returns-in_err-here-clause-files g c =
    let p = err_from_is_err_and c.from_residual.result c.from_residual.ensures.1 in
    rw (p.1, p.2) (ends_before (naming_of c.args.options.naming) c.args.options.settings.preamble_ms _ c.args.pages.now.made c.args.pages.now.made refl)

pub returns-in_err-socket_at-clause-files : goal.returns-in_err-socket_at-clause-files
returns-in_err-socket_at-clause-files g c =
    let p = err_from_is_err_and c.from_residual-in_err-socket_at.result c.from_residual-in_err-socket_at.ensures.1 in
    rw (p.1, p.2) (ends_before (naming_of c.args.options.naming) c.args.options.settings.preamble_ms _ c.args.pages.now.made c.args.pages.now.made refl)
