use Rattle.std.proofs.Common.{◌∙◌, subst}
use Rattle.fax_spool.specs.StoredPages.{IsRecordOf}
use Rattle.fax_spool.specs.declared.stored_page.RecordSource.{RecordSource}
use Rattle.fax_spool.specs.declared.spool_record.SpoolRecord.TheVariants.{Page}
use Rattle.fax_spool.proofs.ReadRecords.{read_through}
use Rattle.fax_spool.proofs.stored_page.record_of.Goals as goal

pub returns-in_ok-to_vec-in-Memory : goal.returns-in_ok-to_vec-in-Memory
returns-in_ok-to_vec-in-Memory c = λ items page is.
    read_through _ _ (Page page) (c.in_ok-to_vec-in-Memory.ensures.items_if_clones_equal (λ x y e. e) ∙ c.as_slice.ensures.value) (subst (λ (o : RecordSource). IsRecordOf items o page) c.in-Memory.is is)
