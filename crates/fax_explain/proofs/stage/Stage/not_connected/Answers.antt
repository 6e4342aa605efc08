use Rattle.std.proofs.Common.{List, ◌∷◌, [], ◌++◌, Err, false, codes, refl, sym, ◌∙◌, ap, subst, rules}
use Rattle.fax_command.proofs.PutLemmas.{OnOk-then}
use Rattle.fax_jobs.specs.Books.{Book}
use Rattle.fax_gateway.specs.Asking.{asked_after}
use Rattle.fax_gateway.specs.BothLegs.{book_of, both_legs}
use Rattle.fax_gateway.specs.CallingLegs.{calling_leg}
use Rattle.fax_gateway.specs.Events.{Placed, clock}
use Rattle.fax_gateway.specs.Reached.{GatewayValue, IsReachedBy}
use Rattle.fax_trace.specs.declared.event.ScriptEvent.TheVariants as script
use Rattle.fax_descriptions.specs.declared.lane.Lane.TheVariants.{FromCaller}
use Rattle.fax_descriptions.specs.Tales.{inside}
use Rattle.fax_descriptions.specs.Tellings.{Description}
use Rattle.fax_explain.specs.declared.calling.CallingLeg.{CallingLeg}
use Rattle.fax_explain.specs.declared.listener.Listener.{Listener}
use Rattle.fax_explain.specs.Ladders.{HasAnswer, came_from_caller}
use Rattle.fax_explain.specs.Staged.{GivesCall, HearsCall, HearsOutside}
use Rattle.fax_explain.proofs.PlayLemmas.{accepted_on, refused_on}
use Rattle.fax_explain.proofs.CalledLemmas.{gives_begun, hears_failed, job_taken, outside_unplaced}
use Rattle.fax_explain.proofs.StagedLemmas.{gives_placed, hears_placed}
use Rattle.fax_explain.proofs.stage.Stage.not_connected.Goals as goal

pub returns-in-Err-NotAsked : goal.returns-in-Err-NotAsked
returns-in-Err-NotAsked c = OnOk-then c.tell-in-Err-NotAsked.result c.tell-in-Err-NotAsked.ensures (λ told setup writes old reached.
    let none = (c.in-Err-NotAsked.ensures.not_asked setup writes old.trace reached.reached).0 (ap Err c.in-Err-NotAsked.field-0-is) in
    refused_on setup writes old (script.NotConnected c.args.moment) _ _ (codes "not-connected refused 1 NotAsked") (codes ": no call is asked for") (none, refl)
    (told ∙ ap (λ (a : List Description). a ++ inside (codes "not-connected refused 1 NotAsked: no call is asked for") ∷ []) c.requires) (record { reached = rw c.in-Err-NotAsked.ensures.err reached.reached; hears = reached.hears; hears_job = reached.hears_job; caller_outside = reached.caller_outside; called_outside = reached.called_outside; gives = reached.gives; gives_job = reached.gives_job; pages = reached.pages }))

pub returns-in-Ok : goal.returns-in-Ok
returns-in-Ok c = OnOk-then c.tell.result c.tell.ensures (λ told setup writes old reached.
    let event = Placed c.args.moment false in
    let placed = c.in-Ok.ensures.placed setup writes old.trace reached.reached in
    let answer : HasAnswer setup writes old.trace event c.tell.new.self = search rules in
    accepted_on setup writes old (script.NotConnected c.args.moment) _ _ event refl refl answer
    (record {
      reached = subst (λ (g : GatewayValue). IsReachedBy setup writes (event ∷ old.trace) g) (sym c.fail_call.ensures.gateway) placed;
      hears = subst (λ (listener : Listener). HearsCall (calling_leg setup (event ∷ old.trace)) listener) (sym (ap (λ (l : CallingLeg). l.theirs) c.fail_call.ensures.calling))
          (hears_placed setup (calling_leg setup old.trace) (clock (event ∷ old.trace)) c.args.moment false c.args.self.now.calling.theirs reached.hears);
      hears_job = hears_failed writes _ _ _ _ (both_legs setup writes old.trace).leg c.args.self.now.called.theirs c.fail_call.new.self.called.theirs
          (ap (λ (b : Book). b.sending) placed.book) reached.hears_job c.fail_call.ensures.called;
      caller_outside = subst (λ (listener : Listener). HearsOutside FromCaller (came_from_caller old.trace) listener) (sym (ap (λ (l : CallingLeg). l.theirs) c.fail_call.ensures.calling)) reached.caller_outside;
      called_outside = outside_unplaced _ (asked_after setup writes old.trace) answer.0 c.args.self.now.called.theirs c.fail_call.new.self.called.theirs
          (ap (λ (b : Book). b.sending) placed.book ∙ job_taken setup.asks (book_of (both_legs setup writes old.trace)) placed.is_trace.0) answer.1 c.fail_call.ensures.called;
      gives = subst (λ (listener : Listener). GivesCall setup (calling_leg setup (event ∷ old.trace)) listener) (sym (ap (λ (l : CallingLeg). l.ours) c.fail_call.ensures.calling))
          (gives_placed setup (calling_leg setup old.trace) (clock (event ∷ old.trace)) c.args.moment false c.args.self.now.calling.ours reached.gives);
      gives_job = gives_begun setup false _ _ _ _ (both_legs setup writes old.trace).leg c.args.self.now.called.ours c.fail_call.new.self.called.ours
          (ap (λ (b : Book). b.sending) placed.book) reached.gives_job c.fail_call.ensures.giving;
      pages = ap (λ (l : CallingLeg). l.pages) c.fail_call.ensures.calling ∙ reached.pages;
    }))
