use Rattle.fax_trunks.specs.Routes.{fits_of}
use Rattle.fax_sip_service.proofs.NumberLemmas.{any_fits}
use Rattle.fax_sip_service.proofs.placing.has_route.Goals as goal

pub returns : goal.returns
returns c =
    let found = any_fits (fits_of c.args.routes.now c.args.number.now) c.choose.result c.choose.ensures.some c.choose.ensures.none in
    cc
