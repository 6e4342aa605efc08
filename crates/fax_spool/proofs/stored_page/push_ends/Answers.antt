use Rattle.std.proofs.Common.{◌≤◌, length, sym, subst, arith}
use Rattle.fax_spool.specs.SpoolRecords.{IsReadAs}
use Rattle.fax_spool.specs.Waits.{PageName}
use Rattle.fax_spool.specs.StoredPages.{end_alone, ended_alone}
use Rattle.fax_spool.specs.declared.spool_record.SpoolRecord.TheVariants.{Ended}
use Rattle.fax_spool.proofs.KnownPages.{all_again, as_many, kept_at, next_again, no_more}
use Rattle.fax_spool.proofs.stored_page.push_ends.Goals as goal

pub loop-page-init : goal.loop-page-init
loop-page-init c = λ there records waits read are. no_more ended_alone _ records waits read

pub loop-page-preserved : goal.loop-page-preserved
loop-page-preserved c = λ there records waits read are.
    let it = kept_at there c.args.pages.now waits c.loop-page.page-index c.page-item.result are c.loop-page-test.true (sym c.page-item.is) in
    next_again ended_alone c.loop-page.items.items c.push.new.self.items c.in_ok-seal_end_of.field-0 records waits c.loop-page.page-index it.0 it.2 it.3 c.in_ok-push.ensures.items
    (subst (λ (n : PageName). IsReadAs c.in_ok-seal_end_of.field-0.items (Ended (end_alone n))) it.1.0 c.in_ok-seal_end_of.ensures)
    (c.loop-page.invariant there records waits read are)

pub returns : goal.returns
returns c = λ there records waits read are.
    let many : length waits ≤ c.loop-page.page-index = omega (arith, as_many there c.args.pages.now waits are, c.loop-page-test.false) in
    all_again ended_alone _ records waits c.loop-page.page-index many (c.loop-page.invariant there records waits read are)
