use Rattle.std.proofs.Common.{◌∙◌, ap, refl, sym}
use Rattle.fax_program.specs.Services.{ServiceValue}
use Rattle.fax_program.proofs.Services.{gone_back}
use Rattle.fax_program.proofs.serving.Service.go_back.Goals as goal

pub returns-in-Some : goal.returns-in-Some
returns-in-Some c =
    gone_back _ _ c.in-Some.before (ap (λ (v : ServiceValue). v.before) (sym c.self.view_is) ∙ sym c.take.ensures.value ∙ c.in-Some.is) refl c.take.ensures.after
    (ap (λ (v : ServiceValue). v.failures) c.self.view_is)
