use Rattle.std.proofs.Common.{codes}
use Rattle.fax_http.specs.declared.page.TheConstants.{ILL, ILL_END}
use Rattle.fax_http.specs.Healths.{reason}
use Rattle.fax_http.specs.Pages.{ill_part}
use Rattle.fax_http.proofs.PartLemmas.{five}
use Rattle.fax_http.proofs.page.put_ill.Goals as goal

pub returns : goal.returns
unfolding ill_part
returns c =
    five c.put-2.result c.args.octets.now.items ILL.now (reason c.args.health.is_stopping (codes "<li>it was told to stop</li>\n")) (reason c.args.health.has_failed_disk (codes "<li>the spool's disk has failed</li>\n")) (reason c.args.health.is_late (codes "<li>turns are late</li>\n")) ILL_END.now
    _ _ _ _ _
    c.in_ok-put.ensures c.in_ok-put_if.ensures c.in_ok-put_if-2.ensures c.in_ok-put_if-3.ensures c.put-2.ensures
