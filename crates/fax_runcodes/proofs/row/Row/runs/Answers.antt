use Rattle.std.proofs.Common.{◌≡◌, ◌+◌, ◌<◌, ◌≤◌, length, get_or, drop, ap, arith, append_assoc}
use Rattle.fax_runcodes.specs.Painted.{AreRising}
use Rattle.fax_runcodes.specs.Rows.{AreRuns}
use Rattle.fax_runcodes.proofs.PaintedLemmas.{rising_le, rising_lower}
use Rattle.fax_runcodes.proofs.RunsOfRow.{runs_between, runs_between-drop_more, runs_between-drop_all, rising-drop_more, runs_between_are_runs}
use Rattle.fax_runcodes.proofs.row.Row.runs.Goals as goal

pub overflow_sub-place : goal.overflow_sub-place
overflow_sub-place c =
    let within : c.loop-place.place-index < length c.self.inside.changes.items = omega (arith, ap length c.deref-place-items.ensures.value) in
    let next : (c.loop-place.from ≤ get_or c.self.inside.changes.items c.loop-place.place-index 0)
    × AreRising (get_or c.self.inside.changes.items c.loop-place.place-index 0 + 1) (drop (c.loop-place.place-index + 1) c.self.inside.changes.items) c.self.inside.width =
    rising-drop_more c.loop-place.from c.self.inside.changes.items c.loop-place.place-index c.self.inside.width within c.loop-place.invariant.rising in
    rw c.deref-place-items.ensures.value next.0

pub loop-place-preserved : goal.loop-place-preserved
loop-place-preserved c =
    let within : c.loop-place.place-index < length c.self.inside.changes.items = omega (arith, ap length c.deref-place-items.ensures.value) in
    let next : (c.loop-place.from ≤ get_or c.self.inside.changes.items c.loop-place.place-index 0)
    × AreRising (get_or c.self.inside.changes.items c.loop-place.place-index 0 + 1) (drop (c.loop-place.place-index + 1) c.self.inside.changes.items) c.self.inside.width =
    rising-drop_more c.loop-place.from c.self.inside.changes.items c.loop-place.place-index c.self.inside.width within c.loop-place.invariant.rising in
    rw c.deref-place-items.ensures.value (record {
      all = rw (c.push_reserved.ensures.items, c.deref-place-items.ensures.value, append_assoc, ← runs_between-drop_more c.loop-place.from c.self.inside.changes.items c.loop-place.place-index c.self.inside.width within) c.loop-place.invariant.all;
      rising = rising_lower (get_or c.self.inside.changes.items c.loop-place.place-index 0 + 1) (get_or c.self.inside.changes.items c.loop-place.place-index 0) (drop (c.loop-place.place-index + 1) c.self.inside.changes.items) c.self.inside.width (omega arith) next.1;
      count = omega (arith, c.push_reserved.ensures.len, c.loop-place.invariant.count);
      room = omega (arith, c.push_reserved.ensures.capacity, c.loop-place.invariant.room);
    })

pub overflow_sub-self-inside : goal.overflow_sub-self-inside
overflow_sub-self-inside c = rising_le c.loop-place.from (drop c.loop-place.place-index c.self.inside.changes.items) c.self.inside.width c.loop-place.invariant.rising

pub returns : goal.returns
returns c =
    let past : length c.self.inside.changes.items ≤ c.loop-place.place-index = omega (arith, ap length c.deref-place-items.ensures.value) in
    let runs : AreRuns (runs_between 0 c.self.inside.changes.items c.self.inside.width) c.args.self.now = rw (← c.self.view_is) (runs_between_are_runs c.self.inside.changes.items c.self.inside.width c.self.invariant.0) in
    let items : c.push_reserved-2.new.self.items ≡ runs_between 0 c.self.inside.changes.items c.self.inside.width =
    rw (c.push_reserved-2.ensures.items, ← runs_between-drop_all c.loop-place.from c.self.inside.changes.items c.loop-place.place-index c.self.inside.width past) c.loop-place.invariant.all in
    rw items runs
