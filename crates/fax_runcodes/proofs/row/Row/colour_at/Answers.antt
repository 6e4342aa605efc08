use Rattle.std.proofs.Common.{◌≡◌, ℕ, ◌<◌, ◌≤◌, true, false, leb, length, get_or, Some, sym, ap, ◌∙◌, arith, rules}
use Rattle.std.specs.List.Sorted.{IsPartitionPoint}
use Rattle.std.proofs.lemmas.Option.{slice_get-get_or}
use Rattle.std.proofs.lemmas.List.Sorted.{IsPartitionPoint-from_clause, IsPartitionedBy-leb}
use Rattle.fax_runcodes.specs.declared.Colour.TheVariants.{White}
use Rattle.fax_runcodes.specs.Painted.{painted, colour_after_changes}
use Rattle.fax_runcodes.proofs.PaintedLemmas.{length-painted_all}
use Rattle.fax_runcodes.proofs.ChangesOfRow.{painted-count, rising_in_order}
use Rattle.fax_runcodes.proofs.row.Row.colour_at.Goals as goal

pub returns : goal.returns
returns c =
    let size : length c.args.self.now ≡ c.self.inside.width = rw (← c.self.view_is) (length-painted_all c.self.inside.changes.items c.self.inside.width c.self.invariant.0) in
    let within : c.args.i < c.self.inside.width = omega arith in
    let parted = IsPartitionedBy-leb (λ (y : ℕ). y) c.self.inside.changes.items c.args.i (rising_in_order c.self.inside.changes.items c.self.inside.width c.self.invariant.0) in
    let point : IsPartitionPoint (λ p. leb p c.args.i ≡ true) (λ p. leb p c.args.i ≡ false) c.self.inside.changes.items c.partition_point.result =
    rw (← c.as_slice.ensures.value) (IsPartitionPoint-from_clause (λ p. leb p c.args.i) _ _ c.partition_point.ensures.partitioned (rw c.as_slice.ensures.value parted) (λ a r q k. search rules)) in
    let few : c.partition_point.result ≤ length c.self.inside.changes.items = omega (arith, ap length c.as_slice.ensures.value) in
    let colour : get_or (painted White 0 c.self.inside.changes.items c.self.inside.width) c.args.i White ≡ colour_after_changes c.partition_point.result =
    painted-count c.self.inside.changes.items c.self.inside.width c.args.i c.partition_point.result White c.self.invariant.0 within few point in
    slice_get-get_or c.args.self.now c.args.i White c.requires ∙ ap Some (ap (λ es. get_or es c.args.i White) (sym c.self.view_is) ∙ colour ∙ sym c.after_changes.ensures)
