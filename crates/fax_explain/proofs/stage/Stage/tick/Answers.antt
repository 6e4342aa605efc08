use Rattle.std.proofs.Common.{◌≡◌, ℕ, List, Option, is_some, ◌∷◌, ◌++◌, refl, sym, ◌∙◌, ap, ap₂, subst, append_assoc}
use Rattle.fax_command.proofs.PutLemmas.{OnOk-then}
use Rattle.fax_jobs.specs.Jobs.{JobValue}
use Rattle.fax_gateway.specs.BothLegs.{BothLegs, both_legs, heard_in_tick, in_tick}
use Rattle.fax_gateway.specs.CallingLegs.{calling_leg}
use Rattle.fax_gateway.specs.Events.{Given, Tick, clock}
use Rattle.fax_gateway.specs.Reached.{GatewayValue, IsReachedBy, given_on, given_shown}
use Rattle.fax_gateway.specs.Reports.{job_sent}
use Rattle.fax_gateway.specs.declared.given.Kept.{Kept}
use Rattle.fax_gateway.specs.Turns.{call_on, kept_at}
use Rattle.fax_gateway.proofs.IdleLegs.{rests_of}
use Rattle.fax_trace.specs.declared.event.ScriptEvent.TheVariants as script
use Rattle.fax_descriptions.specs.declared.lane.Lane.TheVariants.{FromCaller, FromCalled, ToCaller}
use Rattle.fax_descriptions.specs.Tellings.{Description}
use Rattle.fax_explain.specs.declared.called.CalledLeg.{CalledLeg}
use Rattle.fax_explain.specs.declared.calling.CallingLeg.{CallingLeg}
use Rattle.fax_explain.specs.declared.listener.Listener.{Listener}
use Rattle.fax_explain.specs.Given.{given_datagrams, given_to}
use Rattle.fax_explain.specs.Ladders.{TellsTick, begun_tellings, called_timers_told, came_from_called, came_from_caller, newly_sent, over_tellings, pages_so_far, report_tellings, timers_told, with_page, with_why}
use Rattle.fax_explain.specs.Listening.{in_call}
use Rattle.fax_explain.specs.Places.{next_if}
use Rattle.fax_explain.specs.Staged.{BeginsIf, GivesCall, GivesIf, GivesJob, HearsCall, HearsJob, HearsOutside}
use Rattle.fax_explain.proofs.CalledLemmas.{gives_job_ticked, gives_served, hears_served, job_is, outside_if, some_copied}
use Rattle.fax_explain.proofs.StagedLemmas.{gives_ticked, hears_ticked}
use Rattle.fax_explain.proofs.PictureLemmas.{picture_found}
use Rattle.fax_explain.proofs.PlayLemmas.{accepted_on, always}
use Rattle.fax_explain.proofs.LadderLemmas.{begun_told, goes_both}
use Rattle.fax_explain.proofs.stage.Stage.tick.Goals as goal

pub returns-clause-answers : goal.returns-clause-answers
returns-clause-answers c = OnOk-then c.end_job.result c.end_job.ensures.told (λ told setup writes old written reached.
    let given = c.in_ok-given.given in
    let event = Tick c.args.moment (given_shown given) in
    let now = clock (event ∷ old.trace) in
    let leg = calling_leg setup old.trace in
    let both = both_legs setup writes old.trace in
    let after = (both_legs setup writes (event ∷ old.trace)).leg in
    let gone = c.in_ok-given.ensures.ticked setup writes old.trace written reached.reached in
    let answered = gone.is_trace.0 in
    let given_calling = c.in_ok-give_calling.ensures in
    let gone_calling = subst (λ (g : GatewayValue). IsReachedBy setup writes (event ∷ old.trace) g) (sym given_calling.gateway) gone in
    let gone_begun = subst (λ (g : GatewayValue). IsReachedBy setup writes (event ∷ old.trace) g) (sym c.in_ok-begin_job.ensures.gateway) gone_calling in
    let was : c.is_some-was_sending.result ≡ is_some (job_sent both.leg) =
    c.is_some-was_sending.ensures ∙ sym (some_copied c.sending.result) ∙ ap (λ (o : Option JobValue). is_some o) (c.sending.ensures.sending ∙ sym (job_is setup writes old.trace c.args.self.now.gateway c.jobs_have_states.ensures reached.reached)) in
    let is : c.give_calling.new.self.gateway.book.sending ≡ job_sent after =
    ap (λ (g : GatewayValue). g.book.sending) given_calling.gateway ∙ sym (job_is setup writes (event ∷ old.trace) _ c.jobs_have_states.ensures gone) in
    let serving : BothLegs = record both { steps = heard_in_tick leg now both.steps } in
    let called : c.give_calling.new.self.called ≡ c.args.self.now.called = given_calling.called in
    let begins : BeginsIf c.is_some-was_sending.result c.give_calling.new.self.gateway.book.sending c.args.self.now.called.theirs c.begin_job.new.self.called.theirs =
    subst (λ (l : Listener). BeginsIf c.is_some-was_sending.result c.give_calling.new.self.gateway.book.sending l c.begin_job.new.self.called.theirs)
    (ap (λ (l : CalledLeg). l.theirs) called) c.in_ok-begin_job.ensures.called in
    let gives : GivesIf c.is_some-was_sending.result c.give_calling.new.self.gateway.book.sending c.args.self.now.called.ours c.begin_job.new.self.called.ours =
    subst (λ (l : Listener). GivesIf c.is_some-was_sending.result c.give_calling.new.self.gateway.book.sending l c.begin_job.new.self.called.ours)
    (ap (λ (l : CalledLeg). l.ours) called) c.in_ok-begin_job.ensures.giving in
    let gives_job : GivesJob setup (in_tick setup writes old.trace c.args.moment).leg c.begin_job.new.self.called.ours =
    gives_served setup writes now serving c.is_some-was_sending.result c.give_calling.new.self.gateway.book.sending c.args.self.now.called.ours c.begin_job.new.self.called.ours reached.gives_job was is gives in
    let timers = timers_told leg now ++ called_timers_told writes both.leg now in
    let to_caller = given_calling.told (in_call ToCaller) reached.gives.0 (given_datagrams setup (given_on leg)) reached.gives.1 in
    let kept_is : given.kept ≡ kept_at leg now = c.in_ok-given.ensures.confirmed setup writes old.trace reached.reached in
    let pages_are : c.give_calling.new.self.calling.pages ≡ pages_so_far setup (event ∷ old.trace) = given_calling.pages ∙ ap₂ next_if kept_is reached.pages in
    let own_told = with_why given.refused (with_page (kept_at leg now) (pages_so_far setup (event ∷ old.trace)) to_caller.0) in
    let to_caller_is : c.give_calling.new.scene.tale ≡ c.tell_timers.new.tale ++ own_told =
    to_caller.2 ∙ ap₂ (λ (k : Option Kept) (n : ℕ). c.tell_timers.new.tale ++ with_why given.refused (with_page k n to_caller.0)) kept_is pages_are in
    let to_called = c.in_ok-give_called.ensures.told setup writes (event ∷ old.trace) gone_begun (given_datagrams setup (given_to (in_tick setup writes old.trace c.args.moment).leg)) gives_job.1 gives_job.0 in
    let over = over_tellings (call_on leg) (call_on (calling_leg setup (event ∷ old.trace))) in
    let begun = begun_tellings (newly_sent (job_sent both.leg) (job_sent after)) in
    let over_told : c.tell_over.new.tale ≡ c.give_calling.new.scene.tale ++ over =
    c.in_ok-tell_over.ensures.told setup writes (event ∷ old.trace) gone_calling
    ∙ ap (λ (call : Option ℕ). c.give_calling.new.scene.tale ++ over_tellings call (call_on (calling_leg setup (event ∷ old.trace)))) (c.call-call.ensures.told setup writes old.trace reached.reached) in
    let begun_is : c.begin_job.new.tale ≡ c.tell_over.new.tale ++ begun =
    c.in_ok-begin_job.ensures.told ∙ ap (λ (t : List Description). c.tell_over.new.tale ++ t) (begun_told c.is_some-was_sending.result c.give_calling.new.self.gateway.book.sending (job_sent both.leg) (job_sent after) was is) in
    let acted = c.in_ok-tell_timers.ensures setup writes old.trace reached.reached in
    let ended = report_tellings given.report in
    let five = goes_both _ _ _ to_called.0 ended to_called.2 told in
    let four = goes_both _ _ _ begun (to_called.0 ++ ended) begun_is five in
    let three = goes_both _ _ _ over (begun ++ (to_called.0 ++ ended)) over_told four in
    let two = goes_both _ _ _ own_told (over ++ (begun ++ (to_called.0 ++ ended))) to_caller_is three in
    let rest = own_told ++ (over ++ (begun ++ (to_called.0 ++ ended))) in
    let all = goes_both _ _ _ timers rest acted two in
    let answer : TellsTick setup writes old.trace c.args.moment (given_shown given) c.end_job.new.tale =
    record {
      to_caller = to_caller.0;
      gives_caller = to_caller.1;
      refused = given.refused;
      is_refused = c.in_ok-given.ensures.refused setup writes old.trace reached.reached;
      to_called = to_called.0;
      gives_called = to_called.1;
      told_is = all ∙ ap (λ (t : List Description). t ++ (timers ++ rest)) c.requires ∙ append_assoc (timers_told leg now) (called_timers_told writes both.leg now) rest;
    } in
    let same = c.end_job.ensures.calling ∙ c.in_ok-give_called.ensures.calling ∙ c.in_ok-begin_job.ensures.calling in
    let theirs = ap (λ (l : CallingLeg). l.theirs) same ∙ given_calling.theirs in
    let served = c.end_job.ensures.theirs ∙ c.in_ok-give_called.ensures.theirs in
    accepted_on setup writes old (script.Tick c.args.moment) _ _ event refl refl answer
    (record {
      reached = subst (λ (g : GatewayValue). IsReachedBy setup writes (event ∷ old.trace) g) (sym (c.end_job.ensures.gateway ∙ c.in_ok-give_called.ensures.gateway)) gone_begun;
      hears = subst (λ (listener : Listener). HearsCall (calling_leg setup (event ∷ old.trace)) listener) (sym theirs)
          (hears_ticked setup leg now c.args.moment (given_shown given) c.args.self.now.calling.theirs (rests_of setup old.trace) reached.hears);
      hears_job = subst (λ (listener : Listener). HearsJob writes after listener) (sym served)
          (hears_served setup writes now serving c.is_some-was_sending.result c.give_calling.new.self.gateway.book.sending c.args.self.now.called.theirs c.begin_job.new.self.called.theirs
          reached.hears_job was is begins);
      caller_outside = subst (λ (listener : Listener). HearsOutside FromCaller (came_from_caller old.trace) listener) (sym theirs) reached.caller_outside;
      called_outside = subst (λ (listener : Listener). HearsOutside FromCalled (came_from_called setup writes (event ∷ old.trace)) listener) (sym served)
          (outside_if c.is_some-was_sending.result c.give_calling.new.self.gateway.book.sending (job_sent both.leg) (job_sent after) (came_from_called setup writes old.trace)
          c.args.self.now.called.theirs c.begin_job.new.self.called.theirs was is reached.called_outside begins);
      gives = subst (λ (listener : Listener). GivesCall setup (calling_leg setup (event ∷ old.trace)) listener) (sym (ap (λ (l : CallingLeg). l.ours) same))
          (gives_ticked setup leg now c.args.moment (given_shown given) given.calling c.args.self.now.calling.ours c.give_calling.new.self.calling.ours
          (ap (λ (g : Given). g.on_calling) answered) reached.gives given_calling.hearing given_calling.ear);
      gives_job = subst (λ (listener : Listener). GivesJob setup after listener) (sym c.end_job.ensures.ours)
          (gives_job_ticked setup writes now (in_tick setup writes old.trace c.args.moment).leg given.called c.begin_job.new.self.called.ours c.give_called.new.self.called.ours
          (ap (λ (g : Given). g.on_called) answered) gives_job c.in_ok-give_called.ensures.hearing c.in_ok-give_called.ensures.ear);
      pages = ap (λ (l : CallingLeg). l.pages) same ∙ pages_are;
    }))

pub returns-clause-pictures : goal.returns-clause-pictures
returns-clause-pictures c = always c.end_job.result (λ setup writes trace written reached confirmed is.
    let given = c.in_ok-given.given in
    picture_found setup writes trace c.args.moment (given_shown given) _ confirmed given.kept _ _ _ _ c.confirms_the_newest.ensures
    (c.in_ok-given.ensures.ticked setup writes trace written reached) is (c.in_ok-given.ensures.confirmed setup writes trace reached) c.in_ok-give_calling.ensures.page c.in_ok-give_called.ensures.pages)
