use Rattle.std.proofs.Common.{◌≡◌, ◌≤◌, sym, ◌∙◌, ap, arith, length}
use Rattle.fax_runcodes.specs.declared.Colour.TheVariants.{White}
use Rattle.fax_runcodes.specs.Painted.{painted}
use Rattle.fax_mrcode.proofs.FaultLaws.{passes_from, stops_from, IsWidth-few}
use Rattle.fax_mrcode.proofs.reading.passing.pass_line_2d.Goals as goal
use Rattle.fax_mrcode.proofs.reading.passing.pass_line_2d.Goals.{After-pass_steps}

-- the changing places are those of the reference
same : (c : After-pass_steps) → painted White 0 c.changes.result.now c.width.result ≡ c.args.reference.now
same c = ap (painted White 0 c.changes.result.now) c.width.ensures.len ∙ sym c.changes.ensures.painted

few : (c : After-pass_steps) → length c.args.reference.now ≤ 2432
few c = omega (arith, IsWidth-few c.width.result c.width.ensures.is_width, c.width.ensures.len)

pub returns-clause-fault : goal.returns-clause-fault
returns-clause-fault c =
    let steps = (goal.at.returns-clause-fault c).After-pass_steps in
    rw (same steps) at c.pass_steps.ensures.fault

pub returns-clause-reads : goal.returns-clause-reads
returns-clause-reads c =
    let steps = (goal.at.returns-clause-reads c).After-pass_steps in
    passes_from c.args.reference.now c.args.reader.now c.pass_steps.new.reader c.pass_steps.result (few steps) (rw (same steps) at c.pass_steps.ensures.fault)

pub returns-clause-fails : goal.returns-clause-fails
returns-clause-fails c =
    let steps = (goal.at.returns-clause-fails c).After-pass_steps in
    stops_from c.args.reference.now c.args.reader.now c.pass_steps.new.reader c.pass_steps.result (few steps) (rw (same steps) at c.pass_steps.ensures.ok) (rw (same steps) at c.pass_steps.ensures.fault)
