use Rattle.std.proofs.Common.{Ok, Err, ap, ◌∙◌}
use Rattle.fax_pagestore.specs.declared.fault.PageFault.{PageFault}
use Rattle.fax_pagestore.specs.Pages.{PageValue}
use Rattle.fax_pagestore.specs.Readers.{ReaderValue}
use Rattle.fax_pagestore.proofs.ReaderLemmas.{no_page, no_fault, same_fault, same_page}
use Rattle.fax_pagestore.proofs.reader.PageReader.finish.Goals as goal

pub returns-in-None-clause-reads : goal.returns-in-None-clause-reads
returns-in-None-clause-reads g c = λ octets page has means.
    let was = c.into_rows-rows.ensures ∙ ap (λ (r : ReaderValue). r.rows) c.replace.ensures.value in
    let made = c.new.ensures ∙ ap (λ (r : ReaderValue). let p : PageValue = record { format = r.format; rows = g.S.RowStore.rows c.into_rows-rows.result } in p) c.self.view_is
    ∙ ap (λ rows. let p : PageValue = record { format = c.args.self.now.format; rows = rows } in p) was in
    ap (λ (p : PageValue). Ok p) (same_page octets c.args.self.now page c.new.result (c.in-None.ensures.judged octets has) means made)

pub returns-in-None-clause-fails : goal.returns-in-None-clause-fails
returns-in-None-clause-fails g c = λ octets fault has fails.
    absurd (no_fault c.args.self.now.format c.args.self.now.coding octets fault c.args.self.now.rows (c.in-None.ensures.judged octets has) fails)

pub returns-in-Some-clause-reads : goal.returns-in-Some-clause-reads
returns-in-Some-clause-reads g c = λ octets page has means.
    absurd (no_page c.args.self.now.format c.args.self.now.coding octets c.in-Some.fault page (c.in-Some.ensures.judged octets has) means)

pub returns-in-Some-clause-fails : goal.returns-in-Some-clause-fails
returns-in-Some-clause-fails g c = λ octets fault has fails.
    ap (λ (f : PageFault). Err f) (same_fault c.args.self.now.format c.args.self.now.coding octets c.in-Some.fault fault (c.in-Some.ensures.judged octets has) fails)
