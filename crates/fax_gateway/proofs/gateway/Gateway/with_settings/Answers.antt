use Rattle.std.proofs.Common.{sym, subst, map}
use Rattle.std.proofs.lemmas.Result.{IfOk-weaker}
use Rattle.fax_gateway.specs.Restored.{call_shown}
use Rattle.fax_gateway.specs.Setups.{AreSetWith}
use Rattle.fax_gateway.proofs.gateway.Gateway.with_settings.Goals as goal

pub returns-clause-reached : goal.returns-clause-reached
returns-clause-reached g c =
    IfOk-weaker c.restore.result _ _
    (λ gateway h setup writes set. h setup writes (subst (λ calls. AreSetWith setup c.args.settings (map call_shown calls)) (sym c.new.ensures.items) set))
    c.restore.ensures.reached
