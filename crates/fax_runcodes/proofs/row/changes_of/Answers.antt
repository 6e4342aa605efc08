use Rattle.std.proofs.Common.{ℕ, ◌+◌, ◌-◌, ◌<◌, ◌≤◌, length, arith, append_assoc, length-take}
use Rattle.std.proofs.lemmas.List.{get_or-take, append-nil}
use Rattle.std.proofs.lemmas.List.Sums.{sum_by-drop_more}
use Rattle.fax_runcodes.proofs.RunsOfRow.{changes_between-drop_more, changes_between-drop_last}
use Rattle.fax_runcodes.proofs.row.changes_of.Goals as goal

pub loop-run-preserved : goal.loop-run-preserved
loop-run-preserved c =
    let index : c.loop-run.run-index < length c.args.runs.now - 1 = omega (arith, length-take (length c.args.runs.now - 1) c.args.runs.now) in
    let within : c.loop-run.run-index + 1 < length c.args.runs.now = omega arith in
    let here : c.loop-run.run-index < length c.args.runs.now = omega arith in
    rw (get_or-take (length c.args.runs.now - 1) c.args.runs.now c.loop-run.run-index 0 index) (record {
      all = rw (c.push_reserved.ensures.items, get_or-take (length c.args.runs.now - 1) c.args.runs.now c.loop-run.run-index 0 index, append_assoc, ← changes_between-drop_more c.loop-run.place c.args.runs.now c.loop-run.run-index within) c.loop-run.invariant.all;
      place = omega (arith, c.loop-run.invariant.place, sum_by-drop_more (λ (x : ℕ). x) c.args.runs.now c.loop-run.run-index 0 here);
      count = omega (arith, c.push_reserved.ensures.len, c.loop-run.invariant.count);
      room = omega (arith, c.push_reserved.ensures.capacity, c.loop-run.invariant.room);
    })

pub returns : goal.returns
returns c =
    let past : length c.args.runs.now ≤ c.loop-run.run-index + 1 = omega (arith, length-take (length c.args.runs.now - 1) c.args.runs.now) in
    let all = rw (changes_between-drop_last c.loop-run.place c.args.runs.now c.loop-run.run-index past, append-nil) at c.loop-run.invariant.all in
    all
