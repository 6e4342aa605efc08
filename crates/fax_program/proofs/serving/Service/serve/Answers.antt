use Rattle.std.proofs.Common.{subst}
use Rattle.fax_serve.specs.Served.{RanServer}
use Rattle.fax_program.specs.Services.{ServiceValue}
use Rattle.fax_program.proofs.serving.Service.serve.Goals as goal

pub returns : goal.returns
returns g c = subst (λ (v : ServiceValue). RanServer _ v.config) c.self.view_is (record { alone = c.in_ok-end.ensures.alone; kept = c.in_ok-end.ensures.kept })
