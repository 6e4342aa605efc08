use Rattle.std.proofs.lemmas.Result.{err_from_is_err_and}
use Rattle.fax_capture.proofs.ReadingLemmas.{Breaks-untold, TakesRecords-found}
use Rattle.fax_capture.proofs.reading.take_records.Goals as goal

pub loop-read-preserved : goal.loop-read-preserved
loop-read-preserved c =
    let so_far = c.loop-read.invariant in
    let reads = rw c.in-Some.is at c.in_ok-read.ensures.ok in
    record {
      few = c.in_ok-tell.ensures.few;
      took = λ told holds.
          let took = so_far.took told holds in
          let one = c.in_ok-tell.ensures.ok took.next took.holds in
          TakesRecords-found _ _ _ told _ _ _ _ _ _ _ took reads one.0 one.1 one.2;
    }

pub returns-in_err-tell-clause-err : goal.returns-in_err-tell-clause-err
returns-in_err-tell-clause-err c = λ told holds.
    let took = c.loop-read.invariant.took told holds in
    let reads = rw c.in-Some.is at c.in_ok-read.ensures.ok in
    let p = err_from_is_err_and c.from_residual-in_err-tell.result c.from_residual-in_err-tell.ensures.1 in
    rw (p.1, p.2)
    (Breaks-untold _ _ _ told _ _ _ _ _ _ _ took reads (c.in_err-tell.ensures.err took.next took.holds))
