use Rattle.std.proofs.Common.{◌∙◌}
use Rattle.fax_spool.proofs.ReadBack.{one_page}
use Rattle.fax_spool.proofs.reading.page_of.Goals as goal

pub returns-in_ok-copy_of-in-Page : goal.returns-in_ok-copy_of-in-Page
returns-in_ok-copy_of-in-Page c = λ page is. c.in_ok-copy_of-in-Page.ensures ∙ one_page c.args.octets.now c.in-Page.page page c.in-Page.ensures is
