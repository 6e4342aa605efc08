use Rattle.std.proofs.Common.{◌≢◌}
use Rattle.fax_ifp.specs.declared.fault.IfpFault.TheVariants.{Extension}
use Rattle.fax_ifp.proofs.SignalsLemmas.{refusal_said}
use Rattle.fax_ifp.proofs.signals.Signals.refused.Goals as goal

pub returns-then-ne-clause-given : goal.returns-then-ne-clause-given
returns-then-ne-clause-given c =
    let other : c.args.fault ≢ Extension = λ e. (let same = rw e at c.if-ne.ensures in cc) in
    let said = refusal_said c.args.fault other in
    rw said c.missing.ensures
