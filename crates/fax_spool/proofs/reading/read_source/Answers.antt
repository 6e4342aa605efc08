use Rattle.std.proofs.Common.{◌∙◌, subst}
use Rattle.fax_spool.specs.StoredPages.{IsRecordOf}
use Rattle.fax_spool.specs.declared.stored_page.RecordSource.{RecordSource}
use Rattle.fax_spool.specs.declared.spool_record.SpoolRecord.TheVariants.{Page}
use Rattle.fax_spool.proofs.ReadRecords.{read_through}
use Rattle.fax_spool.proofs.reading.read_source.Goals as goal

pub returns-in_ok-page_of-in-File-clause-page : goal.returns-in_ok-page_of-in-File-clause-page
returns-in_ok-page_of-in-File-clause-page g c = λ clean rs page settled is.
    let it = subst (λ (s : RecordSource). IsRecordOf rs s page) c.in-File.is is in
    c.in_ok-page_of-in-File.ensures page (read_through _ _ (Page page) (c.as_slice-in-File.ensures.value ∙ c.in_ok-octets-in-File.ensures.octets clean rs it.0 settled it.1) it.2)
