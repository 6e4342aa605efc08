use Rattle.std.proofs.Common.{List, Ok, ap, sym, ◌∙◌}
use Rattle.fax_tiff.specs.ReadTiffs.{PageText}
use Rattle.fax_tiff.proofs.MeaningLemmas.{failed_by, meant_by}
use Rattle.fax_tiff.proofs.reading.read_all.Goals as goal

pub returns-clause-ok : goal.returns-clause-ok
returns-clause-ok c =
    meant_by c.read_pages.result (λ v. v.items) c.args.octets.now c.as_slice.result.now (c.in_ok-texts.ensures.ok ∙ ap (λ (t : List PageText). Ok t) (sym c.as_slice.ensures.value)) c.read_pages.ensures.ok

pub returns-clause-fault : goal.returns-clause-fault
returns-clause-fault c =
    failed_by c.read_pages.result c.args.octets.now c.as_slice.result.now (c.in_ok-texts.ensures.ok ∙ ap (λ (t : List PageText). Ok t) (sym c.as_slice.ensures.value)) c.read_pages.ensures.fault
