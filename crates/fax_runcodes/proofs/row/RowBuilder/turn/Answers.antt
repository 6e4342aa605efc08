use Rattle.std.proofs.Common.{◌≡◌, ◌+◌, ◌≤◌, length, ap, sym, ◌∙◌, arith, vec_len}
use Rattle.fax_runcodes.specs.Rows.{Elements}
use Rattle.fax_runcodes.proofs.PaintedLemmas.{length-painted_all, rising_count}
use Rattle.fax_runcodes.proofs.TurningLemmas.{changes_rise, turned_one, turned_one_rises}
use Rattle.fax_runcodes.proofs.row.RowBuilder.turn.Goals as goal

pub push_reserved-requires : goal.push_reserved-requires
push_reserved-requires c =
    let rises = changes_rise c.self.inside.changes.items c.self.inside.len c.args.place c.self.invariant.0 (rw (← c.self.view_is) at c.requires.within) (rw (← c.self.view_is) at c.requires.same) in
    let size : length c.args.self.now ≡ c.self.inside.len = ap (λ (es : Elements). length es) (sym c.self.view_is) ∙ length-painted_all c.self.inside.changes.items c.self.inside.len c.self.invariant.0 in
    let count : 0 + length c.self.inside.changes.items ≤ c.args.place = rising_count 0 c.self.inside.changes.items c.args.place rises in
    let len : vec_len c.self.inside.changes ≡ length c.self.inside.changes.items = c.self.inside.changes.ok.0 in
    omega (arith, c.requires.within, c.self.invariant.1, c.self.invariant.2)

pub invariant_of-self : goal.invariant_of-self
invariant_of-self c =
    rw c.push_reserved.ensures.items (
      turned_one_rises c.self.inside.changes.items c.self.inside.len c.args.place c.self.invariant.0 (rw (← c.self.view_is) at c.requires.within) (rw (← c.self.view_is) at c.requires.same),
      c.self.invariant.1,
      omega (arith, c.push_reserved.ensures.capacity, c.self.invariant.2),
    )

pub returns : goal.returns
returns c =
    rw (c.push_reserved.ensures.items, ← c.self.view_is)
    (turned_one c.self.inside.changes.items c.self.inside.len c.args.place c.self.invariant.0 (rw (← c.self.view_is) at c.requires.within) (rw (← c.self.view_is) at c.requires.same))
