use Rattle.std.proofs.Common.{refl, subst}
use Rattle.fax_redial.specs.Tries.{IsAsked, TryValue}
use Rattle.fax_redial.proofs.Trying.{tried_asked}
use Rattle.fax_redial.proofs.job_try.JobTry.ask.Goals as goal

pub returns : goal.returns
returns g c =
    let inside = c.self.inside in
    let now = c.max-self-inside.result in
    let left = c.ask.new.self in
    let old : TryValue = record { job = inside.job; lines = inside.lines; moment = inside.moment; total = inside.total } in
    let new : TryValue = record { job = inside.job; lines = left; moment = now; total = inside.total } in
    subst (λ (t : TryValue). IsAsked c.args.now c.args.what c.ask.result t new) c.self.view_is record {
      job = refl;
      goes = tried_asked c.args.now c.args.what c.ask.result old new c.max-self-inside.ensures c.ask.ensures.went c.ask.ensures.frees c.ask.ensures.waits c.ask.ensures.slot;
      total = refl;
    }
