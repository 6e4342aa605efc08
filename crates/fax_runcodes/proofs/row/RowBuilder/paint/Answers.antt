use Rattle.std.proofs.Common.{◌≡◌, ◌+◌, ◌<◌, ◌≤◌, length, ap, ◌∙◌, sym, arith, vec_len, vec_capacity}
use Rattle.fax_runcodes.specs.Rows.{Elements, other}
use Rattle.fax_runcodes.specs.Painted.{colour_after_changes}
use Rattle.fax_runcodes.proofs.PaintedLemmas.{length-painted_all, painted-same, painted-other, rising_longer, rising_push, rising_count, other_if_ne, same_if_not_ne}
use Rattle.fax_runcodes.proofs.row.RowBuilder.paint.Goals as goal
use Rattle.fax_runcodes.proofs.row.RowBuilder.paint.Goals.{then-ne, else-ne}

pub push_reserved-requires : goal.push_reserved-requires
push_reserved-requires c =
    let size : length c.args.self.now ≡ c.self.inside.len = ap (λ (es : Elements). length es) (sym c.self.view_is) ∙ length-painted_all c.self.inside.changes.items c.self.inside.len c.self.invariant.0 in
    let count : 0 + length c.self.inside.changes.items ≤ c.self.inside.len = rising_count 0 c.self.inside.changes.items c.self.inside.len c.self.invariant.0 in
    let room : 2432 ≤ vec_capacity c.self.inside.changes = c.self.invariant.2 in
    let len : vec_len c.self.inside.changes ≡ length c.self.inside.changes.items = c.self.inside.changes.ok.0 in
    omega arith

pub invariant_of-self : goal.invariant_of-self
invariant_of-self c =
    let some : 0 < c.args.n = omega arith in
    let size : length c.args.self.now ≡ c.self.inside.len = ap (λ (es : Elements). length es) (sym c.self.view_is) ∙ length-painted_all c.self.inside.changes.items c.self.inside.len c.self.invariant.0 in
    let fits : c.self.inside.len + c.args.n ≤ 2432 = omega arith in
    elim c.if-ne.branch [
      | then-ne w ↦
          let room : 2432 ≤ vec_capacity w.push_reserved.new.self = omega (arith, w.push_reserved.ensures.capacity, c.self.invariant.2) in
          rw (w.self-inside-is, w.push_reserved.ensures.items) (rising_push 0 c.self.inside.changes.items c.self.inside.len c.args.n some c.self.invariant.0, fits, room)
      | else-ne w ↦
          rw w.self-inside-is (rising_longer 0 c.self.inside.changes.items c.self.inside.len (c.self.inside.len + c.args.n) (omega arith) c.self.invariant.0, fits, c.self.invariant.2)
    ]

pub returns : goal.returns
returns c =
    let after : c.after_changes.result ≡ colour_after_changes (length c.self.inside.changes.items) = c.after_changes.ensures ∙ ap colour_after_changes (c.len.ensures ∙ c.self.inside.changes.ok.0) in
    elim c.if-ne.branch [
      | then-ne w ↦
          let differ : other c.after_changes.result ≡ c.args.colour = other_if_ne c.args.colour c.after_changes.result (sym c.ne.ensures ∙ w.if-ne.true) in
          rw (w.self-inside-is, w.push_reserved.ensures.items, ← c.self.view_is)
          (painted-other c.self.inside.changes.items c.self.inside.len c.args.n c.args.colour c.self.invariant.0 (ap other (sym after) ∙ differ))
      | else-ne w ↦
          let same : c.args.colour ≡ c.after_changes.result = same_if_not_ne c.args.colour c.after_changes.result (sym c.ne.ensures ∙ w.if-ne.false) in
          rw (w.self-inside-is, ← c.self.view_is)
          (painted-same c.self.inside.changes.items c.self.inside.len c.args.n c.args.colour c.self.invariant.0 (same ∙ after))
    ]
