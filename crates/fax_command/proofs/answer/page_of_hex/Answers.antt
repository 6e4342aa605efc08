use Rattle.std.proofs.lemmas.Result.{err_from_is_err_and}
use Rattle.fax_command.proofs.answer.page_of_hex.Goals as goal

pub returns-in_err-octets-clause-fault : goal.returns-in_err-octets-clause-fault
returns-in_err-octets-clause-fault c =
    let p = err_from_is_err_and c.from_residual.result c.from_residual.ensures.1 in
    rw (p.1, p.2) (c.in_err-octets.ensures.fault c.args.options)

pub returns-clause-page : goal.returns-clause-page
returns-clause-page c =
    let means = rw c.as_slice.ensures.value at c.in_ok-page.ensures.ok in
    (means.0, c.in_ok-octets.octets.items, c.in_ok-octets.ensures.ok, means.1)
