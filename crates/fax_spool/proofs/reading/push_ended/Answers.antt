use Rattle.std.proofs.Common.{sym, arith}
use Rattle.fax_spool.proofs.KnownPages.{as_many, kept_at}
use Rattle.fax_spool.proofs.ReadBack.{all_ended, next_ended, none_yet}
use Rattle.fax_spool.proofs.reading.push_ended.Goals as goal

pub loop-kept-init : goal.loop-kept-init
loop-kept-init g c = (λ clean rs waits settled kept. none_yet c.args.ended.now c.args.found.now.items waits, λ rs settled. settled, λ l left. left)

pub loop-kept-preserved : goal.loop-kept-preserved
loop-kept-preserved g c = (
  λ clean rs waits settled kept.
      let it = kept_at rs c.args.pages.now waits c.loop-kept.kept-index c.kept-item.result kept c.loop-kept-test.true (sym c.kept-item.is) in
      next_ended c.args.ended.now waits c.loop-kept.kept-index it.0 _ _ it.2 it.3 (c.in_ok-push_page.ensures.found clean rs it.0 (c.loop-kept.invariant.1 rs settled) it.1) _
      (c.loop-kept.invariant.0 (c.push_page.ensures.clean clean) rs waits settled kept),
  λ rs settled. c.push_page.ensures.settled rs (c.loop-kept.invariant.1 rs settled),
  λ l left. c.loop-kept.invariant.2 l (c.push_page.ensures.crash l left),
)

pub returns-clause-found : goal.returns-clause-found
returns-clause-found g c = λ clean rs waits settled kept.
    all_ended c.args.ended.now waits c.loop-kept.kept-index _ _ (omega (arith, as_many rs c.args.pages.now waits kept, c.loop-kept-test.false)) (c.loop-kept.invariant.0 clean rs waits settled kept)

pub returns-clause-settled : goal.returns-clause-settled
returns-clause-settled g c = c.loop-kept.invariant.1

pub returns-clause-crash : goal.returns-clause-crash
returns-clause-crash g c = c.loop-kept.invariant.2

pub returns-in_err-push_page-clause-settled : goal.returns-in_err-push_page-clause-settled
returns-in_err-push_page-clause-settled g c = λ rs settled. c.push_page.ensures.settled rs (c.loop-kept.invariant.1 rs settled)

pub returns-in_err-push_page-clause-crash : goal.returns-in_err-push_page-clause-crash
returns-in_err-push_page-clause-crash g c = λ l left. c.loop-kept.invariant.2 l (c.push_page.ensures.crash l left)
