use Rattle.std.proofs.Common.{length, arith, ap}
use Rattle.std.proofs.lemmas.Result.{err_from_is_err_and}
use Rattle.std.specs.Vec.Iter.{into_iter_items}
use Rattle.fax_send_receive.specs.Runs.{pages_of}
use Rattle.fax_send_receive.proofs.FileLemmas.{all_joined, one_more_joined, too_many}
use Rattle.fax_send_receive.proofs.job_files.add_pages.Goals as goal

-- one page more
pub loop-page-preserved : goal.loop-page-preserved
loop-page-preserved c =
    let so_far = c.loop-page.invariant in
    let steps = c.in-Some.ensures.steps in
    record {
      begun = c.in_ok-add_page.ensures.begun;
      joined = one_more_joined (pages_of c.loop-page.longer) (into_iter_items c.next.new.self) (into_iter_items c.loop-page.page-iterator) _ c.in-Some.page _ c.in_ok-add_page.ensures.ok steps.0 so_far.joined;
      counted =
          let was = so_far.counted in
          let gone = steps.1 in
          let short = ap length steps.0 in
          omega arith;
    }

-- none fits
pub returns-in_err-add_page-clause-fault : goal.returns-in_err-add_page-clause-fault
returns-in_err-add_page-clause-fault c =
    let p = err_from_is_err_and c.from_residual.result c.from_residual.ensures.1 in
    rw (p.1, p.2)
    (too_many (pages_of c.loop-page.longer) (into_iter_items c.next.new.self) (into_iter_items c.loop-page.page-iterator) _ c.in-Some.page _ c.in-Some.ensures.steps.0 c.loop-page.invariant.joined
    c.in_err-add_page.ensures.fault)

-- all fitted
pub returns-clause-ok : goal.returns-clause-ok
returns-clause-ok c =
    let was = c.loop-page.invariant.counted in
    let none = c.in-None.ensures.steps.0 in
    all_joined (pages_of c.loop-page.longer) (into_iter_items c.loop-page.page-iterator) _ (omega arith) c.loop-page.invariant.joined
