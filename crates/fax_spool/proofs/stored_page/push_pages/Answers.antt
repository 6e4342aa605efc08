use Rattle.std.proofs.Common.{◌≤◌, length, sym, arith}
use Rattle.fax_spool.specs.SpoolRecords.{page_record}
use Rattle.fax_spool.proofs.KnownPages.{all_again, as_many, kept_at, next_again, no_more}
use Rattle.fax_spool.proofs.stored_page.push_pages.Goals as goal

pub loop-page-init : goal.loop-page-init
loop-page-init c = λ there records waits read are. no_more page_record _ records waits read

pub loop-page-preserved : goal.loop-page-preserved
loop-page-preserved c = λ there records waits read are.
    let it = kept_at there c.args.pages.now waits c.loop-page.page-index c.page-item.result are c.loop-page-test.true (sym c.page-item.is) in
    next_again page_record c.loop-page.items.items c.push.new.self.items c.in_ok-record_of.field-0 records waits c.loop-page.page-index it.0 it.2 it.3 c.in_ok-push.ensures.items
    (c.in_ok-record_of.ensures there it.0 it.1.1)
    (c.loop-page.invariant there records waits read are)

pub returns : goal.returns
returns c = λ there records waits read are.
    let many : length waits ≤ c.loop-page.page-index = omega (arith, as_many there c.args.pages.now waits are, c.loop-page-test.false) in
    all_again page_record _ records waits c.loop-page.page-index many (c.loop-page.invariant there records waits read are)
