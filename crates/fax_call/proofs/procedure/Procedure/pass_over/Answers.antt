use Rattle.std.proofs.Common.{◌≡◌, ap, refl, subst, rules}
use Rattle.fax_call.specs.declared.decision.Decision.TheVariants.{PassOver}
use Rattle.fax_call.proofs.FollowingLemmas.{waits_is}
use Rattle.fax_call.proofs.Tellings.{tells_of}
use Rattle.fax_call.proofs.procedure.Procedure.pass_over.Goals as goal

pub returns : goal.returns
returns g c writes job core writer f =
    tells_of g.W.Watcher.tells c.args.watcher.now c.tell.new.self _ _ _ _ _ PassOver f.state (waits_is writes job core writer c.args.self.now _ c.requires f c.is_waiting.ensures.waits c.is_waiting.ensures.none) c.tell.ensures
