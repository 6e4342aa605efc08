use Rattle.std.proofs.Common.{◌≡◌, ℕ, max, Option, Some, refl, sym, ◌∙◌, ap, subst}
use Rattle.fax_jobs.specs.Jobs.{JobValue}
use Rattle.fax_gateway.specs.declared.caller_endpoint.CallerEndpoint.{CallerEndpoint}
use Rattle.fax_gateway.specs.Events.{clock}
use Rattle.fax_gateway.specs.CallingLegs.{CallingLeg, calling_leg, told_calling}
use Rattle.fax_gateway.specs.CalledLegs.{CalledLeg}
use Rattle.fax_gateway.specs.BothLegs.{in_tick}
use Rattle.fax_gateway.specs.Reached.{GatewayValue, IsCalling, IsCalled, IsReachedBy, TicksOn, ended_if, outcome_of_rep, report_if, ticked_on}
use Rattle.fax_gateway.proofs.Turning.{call_told, page_told, refusal_told}
use Rattle.fax_gateway.proofs.Ticking.{IsHeard, same_served, serves_on, ticks}
use Rattle.fax_gateway.proofs.gateway.Gateway.tick_in_call.Goals as goal

pub returns-clause-ticked : goal.returns-clause-ticked
returns-clause-ticked g c setup writes trace writing r =
    let at : ℕ = c.args.now in
    let inside = c.self.inside in
    let s = subst (λ (k : GatewayValue). IsReachedBy setup writes trace k) (sym c.self.view_is) r in
    let old : GatewayValue = record { settings = inside.settings; clock = inside.clock; rings = inside.rings; calling = inside.calling; called = inside.called; book = inside.jobs.book; spare = inside.jobs.spare; refusals = inside.refusals } in
    let left = c.end_job-report.new.jobs in
    let endpoint : CallerEndpoint = c.tick.new.self in
    let new : GatewayValue = record { settings = inside.settings; clock = c.read-moment.new.self; rings = inside.rings; calling = c.serve_calling-served.new.calling; called = endpoint; book = left.book; spare = left.spare; refusals = inside.refusals } in
    let leg : Option CallingLeg = calling_leg setup trace in
    let now_is : c.read-moment.result ≡ max at (clock trace) = c.read-moment.ensures.moment ∙ c.read-moment.ensures.later ∙ ap (λ (m : ℕ). max at m) s.at in
    let served = c.serve_calling-served.ensures in
    let heard = c.serve_calling-served.new.jobs.book in
    let job : JobValue = c.in-Some.job.now in
    let sends : inside.jobs.book.sending ≡ Some job = sym c.in-Some.ensures in
    let still : heard.sending ≡ Some job = served.sending ∙ sends in
    let o = outcome_of_rep endpoint.caller.procedure in
    let d : ℕ = endpoint.caller.procedure.counts.delivered in
    let given = c.in_ok-called-in-Some.called in
    ticks setup writes trace at _ old new s c.read-moment.ensures.later refl refl
    (subst (λ (m : ℕ). IsCalling setup (ticked_on leg m) new.calling) now_is (served.ticked setup leg s.calling))
    (served.told setup leg s.calling ∙ ap (λ (m : ℕ). told_calling setup leg m) now_is)
    (same_served setup writes (max at (clock trace)) (in_tick setup writes trace at) (in_tick setup writes trace at) endpoint given _ c.end_job-report.result _ left.book refl
    (c.end_job-report.ensures.report ∙ ap (λ (x : Option JobValue). report_if x o d) still)
    (c.end_job-report.ensures.ended ∙ ap (λ (x : Option JobValue). ended_if x o d heard) still)
    (serves_on setup writes trace at old job endpoint given heard s sends
    (subst (λ (m : ℕ). IsHeard setup trace m old heard) now_is (served.heard setup leg s.calling))
    (λ l is on same k. subst (λ (m : ℕ). TicksOn setup writes l m given endpoint) now_is (c.in_ok-called-in-Some.ensures.ticked setup writes l writing same k))))

pub returns-clause-confirmed : goal.returns-clause-confirmed
returns-clause-confirmed g c setup writes trace r =
    let inside = c.self.inside in
    let s = subst (λ (k : GatewayValue). IsReachedBy setup writes trace k) (sym c.self.view_is) r in
    let now_is : c.read-moment.result ≡ max c.args.now (clock trace) = c.read-moment.ensures.moment ∙ c.read-moment.ensures.later ∙ ap (λ (m : ℕ). max c.args.now m) s.at in
    page_told (calling_leg setup trace) c.read-moment.result (max c.args.now (clock trace)) inside.calling.number c.serve_calling-served.result.kept now_is s.calling.number
    (c.serve_calling-served.ensures.kept setup (calling_leg setup trace) s.calling)

pub returns-clause-refused : goal.returns-clause-refused
returns-clause-refused g c setup writes trace r =
    let inside = c.self.inside in
    let s = subst (λ (k : GatewayValue). IsReachedBy setup writes trace k) (sym c.self.view_is) r in
    let now_is : c.read-moment.result ≡ max c.args.now (clock trace) = c.read-moment.ensures.moment ∙ c.read-moment.ensures.later ∙ ap (λ (m : ℕ). max c.args.now m) s.at in
    refusal_told (calling_leg setup trace) c.read-moment.result (max c.args.now (clock trace)) inside.calling.number c.serve_calling-served.result.refused now_is s.calling.number
    (c.serve_calling-served.ensures.refused setup (calling_leg setup trace) s.calling)

pub returns-clause-given_up : goal.returns-clause-given_up
returns-clause-given_up g c setup writes trace r =
    let inside = c.self.inside in
    let s = subst (λ (k : GatewayValue). IsReachedBy setup writes trace k) (sym c.self.view_is) r in
    let now_is : c.read-moment.result ≡ max c.args.now (clock trace) = c.read-moment.ensures.moment ∙ c.read-moment.ensures.later ∙ ap (λ (m : ℕ). max c.args.now m) s.at in
    call_told (calling_leg setup trace) c.read-moment.result (max c.args.now (clock trace)) inside.calling.number c.serve_calling-served.result.gave_up now_is s.calling.number
    (c.serve_calling-served.ensures.gave_up setup (calling_leg setup trace) s.calling)
