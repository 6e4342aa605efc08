use Rattle.std.proofs.Common.{[], ◌∷◌, ◌++◌, sym, subst}
use Rattle.fax_spool.specs.Places.{AreReadAt}
use Rattle.fax_spool.specs.SpoolRecords.{IsReadAs}
use Rattle.fax_spool.specs.Waits.{after, without}
use Rattle.fax_spool.specs.declared.spool_record.SpoolRecord.{SpoolRecord}
use Rattle.fax_spool.proofs.Places.{read_at_append, read_at_left, same_read_at}
use Rattle.fax_spool.proofs.placed_page.follow.Goals as goal

pub returns-in_ok-push-in-Page : goal.returns-in_ok-push-in-Page
returns-in_ok-push-in-Page c = λ items waits are stands is.
    subst (λ (r : SpoolRecord). AreReadAt items c.push.new.self.items (after waits r)) (sym c.in-Page.is)
    (same_read_at items _ _ (waits ++ c.in-Page.page ∷ []) c.in_ok-push-in-Page.ensures.items
    (read_at_append items c.args.pages.now.items _ waits (c.in-Page.page ∷ []) are
    ((c.copy-page.ensures, stands, subst (λ (r : SpoolRecord). IsReadAs c.args.item.now r) c.in-Page.is is), tt)))

pub returns-in-Ended : goal.returns-in-Ended
returns-in-Ended c = λ items waits are stands is.
    subst (λ (r : SpoolRecord). AreReadAt items c.drop_job.new.pages.items (after waits r)) (sym c.in-Ended.is)
    (same_read_at items _ _ (without c.in-Ended.ended waits) c.drop_job.ensures (read_at_left items c.in-Ended.ended _ waits are))
