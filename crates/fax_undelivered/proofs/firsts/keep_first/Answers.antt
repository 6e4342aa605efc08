use Rattle.std.proofs.Common.{◌≡◌, ◌∙◌, ◌++◌, List, drop, take, ap, sym, subst, arith}
use Rattle.fax_spool.specs.RecordOctets.{PageValue}
use Rattle.fax_undelivered.specs.Calls.{firsts_after}
use Rattle.fax_undelivered.proofs.PutAgain.{Answers, all_looked_at, at_place, goes_so, stays_so}
use Rattle.fax_undelivered.proofs.firsts.keep_first.Goals as goal

pub loop-i-preserved-then-is_put_again : goal.loop-i-preserved-then-is_put_again
loop-i-preserved-then-is_put_again c =
    let pages = c.loop-i.pages.items in
    let at = at_place pages c.loop-i.i (omega (arith, c.loop-i-test.true, c.len.ensures)) in
    let is : Answers pages c.loop-i.i c.is_put_again.result = subst (λ (l : List PageValue). Answers l c.loop-i.i c.is_put_again.result) c.as_slice.ensures.value c.is_put_again.ensures in
    ap (λ (l : List PageValue). take c.loop-i.i l ++ firsts_after (take c.loop-i.i l) (drop c.loop-i.i l)) c.remove.ensures.items
    ∙ sym (goes_so pages c.loop-i.i c.is_put_again.result at.0 c.if-is_put_again.true at.1 is)
    ∙ c.loop-i.invariant

pub loop-i-preserved : goal.loop-i-preserved
loop-i-preserved c =
    let pages = c.loop-i.pages.items in
    let at = at_place pages c.loop-i.i (omega (arith, c.loop-i-test.true, c.len.ensures)) in
    let is : Answers pages c.loop-i.i c.is_put_again.result = subst (λ (l : List PageValue). Answers l c.loop-i.i c.is_put_again.result) c.as_slice.ensures.value c.is_put_again.ensures in
    sym (stays_so pages c.loop-i.i c.is_put_again.result at.0 c.if-is_put_again.false at.1 is) ∙ c.loop-i.invariant

pub returns : goal.returns
returns c = sym (all_looked_at (take c.loop-i.i c.loop-i.pages.items) c.loop-i.pages.items c.loop-i.i (omega (arith, c.loop-i-test.false, c.len.ensures))) ∙ c.loop-i.invariant
