use Rattle.std.proofs.Common.{◌≡◌, ◌+◌, ◌≤◌, ◌++◌, length, arith, vec_len, length-append}
use Rattle.fax_runcodes.proofs.PaintedLemmas.{rising_count}
use Rattle.fax_runcodes.proofs.TurningLemmas.{turned_at_all}
use Rattle.fax_runcodes.proofs.row.RowBuilder.turn_at_all.Goals as goal

pub push_all-requires : goal.push_all-requires
push_all-requires c =
    let turned = turned_at_all c.self.inside.changes.items c.args.places.now c.self.inside.len c.self.invariant.0 (rw (← c.self.view_is) at c.requires.rising) (rw (← c.self.view_is) at c.requires.same) in
    let count : 0 + length (c.self.inside.changes.items ++ c.args.places.now) ≤ c.self.inside.len = rising_count 0 (c.self.inside.changes.items ++ c.args.places.now) c.self.inside.len turned.rising in
    let len : vec_len c.self.inside.changes ≡ length c.self.inside.changes.items = c.self.inside.changes.ok.0 in
    record { room = omega (arith, length-append c.self.inside.changes.items c.args.places.now, c.self.invariant.1, c.self.invariant.2) }

pub invariant_of-self : goal.invariant_of-self
invariant_of-self c =
    let turned = turned_at_all c.self.inside.changes.items c.args.places.now c.self.inside.len c.self.invariant.0 (rw (← c.self.view_is) at c.requires.rising) (rw (← c.self.view_is) at c.requires.same) in
    rw c.push_all.ensures.items (turned.rising, c.self.invariant.1, omega (arith, c.push_all.ensures.room, c.self.invariant.2))

pub returns : goal.returns
returns c =
    let turned = turned_at_all c.self.inside.changes.items c.args.places.now c.self.inside.len c.self.invariant.0 (rw (← c.self.view_is) at c.requires.rising) (rw (← c.self.view_is) at c.requires.same) in
    rw (c.push_all.ensures.items, ← c.self.view_is) turned.row_is
