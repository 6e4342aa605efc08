use Rattle.std.proofs.Common.{sym, subst}
use Rattle.fax_spool.specs.Places.{AreReadAt}
use Rattle.fax_spool.specs.Waits.{left_of, without}
use Rattle.fax_spool.specs.declared.spool_record.SpoolRecord.{SpoolRecord}
use Rattle.fax_spool.proofs.Places.{read_at_left, same_read_at}
use Rattle.fax_spool.proofs.placed_page.drop_ended_by.Goals as goal

pub returns-in-Ended : goal.returns-in-Ended
returns-in-Ended c = λ items waits are.
    subst (λ (r : SpoolRecord). AreReadAt items c.drop_job.new.pages.items (left_of waits r)) (sym c.in-Ended.is)
    (same_read_at items _ _ (without c.in-Ended.ended waits) c.drop_job.ensures (read_at_left items c.in-Ended.ended _ waits are))
