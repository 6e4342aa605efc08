use Rattle.std.proofs.Common.{◌≡◌, Bool, sym, ◌∙◌, ap, subst, rules}
use Rattle.fax_call.specs.declared.pending.Pending.TheVariants.{Nothing}
use Rattle.fax_call.specs.declared.procedure.Procedure.{Procedure}
use Rattle.fax_call.specs.declared.state.State.TheVariants.{Idle}
use Rattle.fax_timers.specs.Moments.{is_due}
use Rattle.fax_call.specs.Calls.{CallerCore}
use Rattle.fax_call.specs.Table.{on_timers}
use Rattle.fax_call.specs.Rep.{counts_shown}
use Rattle.fax_call.specs.Following.{Follows}
use Rattle.fax_call.proofs.FollowingLemmas.{core_waits, not_timed, timers_acted}
use Rattle.fax_call.proofs.JobLemmas.{acted_job}
use Rattle.fax_call.proofs.procedure.Procedure.act.Goals as goal

pub returns-then-is_waiting-clause-acted : goal.returns-then-is_waiting-clause-acted
returns-then-is_waiting-clause-acted c writes job core writer f =
    let some : c.args.self.now.pending ≡ Nothing → ⊥ = search rules in
    subst (λ (a : CallerCore). Follows writes job a writer c.args.self.now)
    (sym (not_timed core c.args.now (core_waits writes job core writer c.args.self.now c.requires f some))) f

pub returns-clause-acted : goal.returns-clause-acted
returns-clause-acted c writes job core writer f =
    let none : c.args.self.now.pending ≡ Nothing = search rules in
    let p = c.args.self.now in
    let told = c.on_timers-decided.ensures.decided c.args.now
    ∙ ap (λ (b : Bool). on_timers b c.due-2.result p.state (counts_shown p.counts)) c.due.ensures.test
    ∙ ap (λ (b : Bool). on_timers (is_due p.t1 c.args.now) b p.state (counts_shown p.counts)) c.due-2.ensures.test in
    subst (λ (a : CallerCore). Follows writes job a writer c.make.new.self)
    (sym (timers_acted writes job core writer p c.args.now _ f none told)) (c.make.ensures.made writes job core writer writer f)

pub returns-clause-job : goal.returns-clause-job
returns-clause-job c job h n =
    let old : Procedure = c.args.self.now in
    let on : old.state ≡ Idle → ⊥ = λ e. n (ap (λ (p : Procedure). p.state) (c.make.ensures.stays (c.on_timers-decided.ensures.idle e)) ∙ e) in
    acted_job old c.make.new.self job c.args.now (returns-clause-acted c) c.make.ensures.fit (h on)
