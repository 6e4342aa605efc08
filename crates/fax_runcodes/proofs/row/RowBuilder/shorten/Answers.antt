use Rattle.std.proofs.Common.{◌≡◌, ◌-◌, ◌<◌, length, take, get_or, sym, ◌∙◌, ap, arith}
use Rattle.std.proofs.lemmas.List.{drop_all, drop_more, get_or_default}
use Rattle.fax_runcodes.specs.Rows.{Elements}
use Rattle.fax_runcodes.specs.Painted.{AreRising}
use Rattle.fax_runcodes.proofs.PaintedLemmas.{length-painted_all}
use Rattle.fax_runcodes.proofs.RunsOfRow.{rising-drop_more}
use Rattle.fax_runcodes.proofs.TurningLemmas.{rising_after, rising_below, shortened}
use Rattle.fax_runcodes.proofs.row.RowBuilder.shorten.Goals as goal
use Rattle.fax_runcodes.proofs.row.RowBuilder.shorten.Goals.{After-truncate, then-loop-count-test+else-index-n, else-loop-count-test}

pub loop-count-init : goal.loop-count-init
unfolding AreRising
loop-count-init c =
    let size : length c.args.self.now ≡ c.self.inside.len = ap (λ (es : Elements). length es) (sym c.self.view_is) ∙ length-painted_all c.self.inside.changes.items c.self.inside.len c.self.invariant.0 in
    let count : c.len-count.result ≡ length c.self.inside.changes.items = c.len-count.ensures ∙ c.self.inside.changes.ok.0 in
    record {
      after = rw (drop_all c.len-count.result c.self.inside.changes.items (omega arith)) (omega (arith, c.requires));
      few = omega arith;
    }

pub loop-count-preserved : goal.loop-count-preserved
unfolding AreRising
loop-count-preserved c =
    let ps = c.self.inside.changes.items in
    let last = c.loop-count.count - 1 in
    let within : last < length ps = omega (arith, c.loop-count.invariant.few, c.loop-count-test.true) in
    let place : c.index.result.now ≡ get_or ps last 0 = c.index.ensures ∙ get_or_default ps last c.index.result.now 0 within in
    let next = (rising-drop_more 0 ps last c.self.inside.len within (rising_after 0 ps c.self.inside.len last c.self.invariant.0)).1 in
    record {
      after = rw (drop_more ps last 0 within) (omega (arith, c.if-index-n.true), next);
      few = omega (arith, c.loop-count.invariant.few);
    }

-- the changes that are kept lie before the end
kept : (c : After-truncate) → AreRising 0 (take c.loop-count.count c.self.inside.changes.items) c.args.n
kept c =
    let ps = c.self.inside.changes.items in
    let last = c.loop-count.count - 1 in
    rising_below ps c.self.inside.len c.loop-count.count c.args.n c.loop-count.invariant.few (λ some. elim c.loop-count-test.branch [
      | then-loop-count-test+else-index-n w ↦ omega (arith, w.if-index-n.false, w.index.ensures, get_or_default ps last w.index.result.now 0 (omega (arith, some, c.loop-count.invariant.few)))
      | else-loop-count-test w ↦ absurd (omega (arith, w.loop-count-test.false))
    ]) c.self.invariant.0

pub invariant_of-self : goal.invariant_of-self
invariant_of-self c =
    let size : length c.args.self.now ≡ c.self.inside.len = ap (λ (es : Elements). length es) (sym c.self.view_is) ∙ length-painted_all c.self.inside.changes.items c.self.inside.len c.self.invariant.0 in
    rw c.truncate.ensures.items (kept (goal.at.invariant_of-self c).After-truncate, omega (arith, c.requires, c.self.invariant.1), omega (arith, c.truncate.ensures.capacity, c.self.invariant.2))

pub returns : goal.returns
returns c =
    rw (c.truncate.ensures.items, ← c.self.view_is)
    (shortened c.self.inside.changes.items c.self.inside.len c.args.n c.loop-count.count (kept (goal.at.returns c).After-truncate) c.loop-count.invariant.after)
