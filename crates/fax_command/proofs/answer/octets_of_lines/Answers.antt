use Rattle.std.proofs.Common.{subst}
use Rattle.fax_pagestore.specs.Pages.{PageValue}
use Rattle.fax_pagestore.specs.WrittenPages.{WritesPage}
use Rattle.fax_command.proofs.answer.octets_of_lines.Goals as goal

pub returns-clause-octets : goal.returns-clause-octets
returns-clause-octets c =
    let (bits, written, padded) = c.in_ok-octets.ensures in
    let P : PageValue → Type 0 = λ page. WritesPage c.args.options.coding page.format.fine c.args.options.least_bits page.rows bits in
    (c.in_ok-rows.rows, bits, c.in_ok-rows.ensures.rows, c.in_ok-rows.ensures.told, subst P c.new-page.ensures written, padded)
