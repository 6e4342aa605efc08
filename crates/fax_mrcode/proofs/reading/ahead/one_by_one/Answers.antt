use Rattle.fax_mrcode.proofs.VerticalLemmas.{FirstAre-then, ShowsAfter-then}
use Rattle.fax_mrcode.proofs.reading.ahead.one_by_one.Goals as goal

pub returns-clause-after : goal.returns-clause-after
returns-clause-after c =
    let one = c.in-Some.first.ahead in
    let two = c.in-Some-short_run.second.ahead in
    ShowsAfter-then c.args.ahead.window c.args.ahead.left one.window one.left two.window two.left c.in-Some.ensures.after c.in-Some-short_run.ensures.after

pub returns-clause-spelt : goal.returns-clause-spelt
returns-clause-spelt c =
    let one = c.in-Some.first.ahead in
    let two = c.in-Some-short_run.second.ahead in
    let s = c.in-Some.ensures.spelt in
    let t = rw c.other.ensures at c.in-Some-short_run.ensures.spelt in
    let after = c.in-Some-short_run.ensures.after in (
      s.0,
      t.0,
      s.1,
      t.1,
      FirstAre-then c.args.ahead.window c.args.ahead.left one.window one.left two.left s.0 t.0 c.in-Some.ensures.after after.less s.2 t.2,
    )
