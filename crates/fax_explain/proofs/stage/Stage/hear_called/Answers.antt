use Rattle.std.proofs.Common.{◌≡◌, ◌∷◌, refl, sym, ◌∙◌, ap, subst}
use Rattle.fax_command.proofs.PutLemmas.{OnOk-then}
use Rattle.fax_udptl.specs.Datagrams.{datagram_of}
use Rattle.fax_call.specs.declared.state.State.TheVariants.{Idle}
use Rattle.fax_gateway.specs.BothLegs.{both_legs}
use Rattle.fax_gateway.specs.CallingLegs.{calling_leg}
use Rattle.fax_gateway.specs.Events.{FromCalled, clock}
use Rattle.fax_gateway.specs.Watched.{called_state}
use Rattle.fax_trace.specs.declared.event.ScriptEvent.TheVariants as script
use Rattle.fax_descriptions.specs.declared.lane.Lane.TheVariants as lanes
use Rattle.fax_explain.specs.declared.called.CalledLeg.{CalledLeg}
use Rattle.fax_explain.specs.declared.listener.Listener.{Listener}
use Rattle.fax_explain.specs.Ladders.{called_marks, came_from_called}
use Rattle.fax_explain.specs.Staged.{GivesJob}
use Rattle.fax_explain.proofs.MarkLemmas.{called_marked, each_called}
use Rattle.fax_explain.proofs.CalledLemmas.{gives_job_heard, hears_called_more, hears_over, tells_called, tells_over}
use Rattle.fax_explain.proofs.PlayLemmas.{OnOk-both, accepted_on}
use Rattle.fax_explain.proofs.StagedLemmas.{gives_called, hears_called, outside_more, outside_on, told_outside}
use Rattle.fax_explain.proofs.stage.Stage.hear_called.Goals as goal

pub returns-in-Idle : goal.returns-in-Idle
returns-in-Idle c = OnOk-then c.hear_outside.result (OnOk-both _ _ c.hear_outside.result c.hear_outside.ensures.told (OnOk-both _ _ c.hear_outside.result c.hear_outside.ensures.hearing c.hear_outside.ensures.ear)) (λ told setup writes old at reached.
    let theirs = c.args.self.now.called.theirs in
    let octets = c.args.octets.now in
    let decided = c.in_ok-from_called_watched.field-0 in
    let event = FromCalled octets c.args.moment decided in
    let leg = (both_legs setup writes old.trace).leg in
    let over : called_state writes leg ≡ Idle = sym (c.called_state-state.ensures setup writes old.trace reached.reached) ∙ c.in-Idle.is in
    accepted_on setup writes old (script.FromCalled octets) _ _ event refl at (tells_over writes leg (called_marks writes leg (clock (event ∷ old.trace)) octets) (came_from_called setup writes old.trace) octets _ over
    (told_outside lanes.FromCalled (came_from_called setup writes old.trace) theirs octets c.args.tale.now c.hear_outside.new.tale reached.called_outside c.requires told.0))
    (record {
      reached = c.in_ok-from_called_watched.ensures.heard setup writes old.trace reached.reached;
      hears = hears_called setup (calling_leg setup old.trace) (clock (event ∷ old.trace)) octets c.args.moment decided c.args.self.now.calling.theirs reached.hears;
      hears_job = hears_over writes leg octets (clock (event ∷ old.trace)) c.hear_outside.new.self.theirs over;
      caller_outside = reached.caller_outside;
      called_outside = outside_on lanes.FromCalled (came_from_called setup writes old.trace) theirs c.hear_outside.new.self.theirs (datagram_of octets) reached.called_outside told.1.0 told.1.1;
      gives = gives_called setup (calling_leg setup old.trace) (clock (event ∷ old.trace)) octets c.args.moment decided c.args.self.now.calling.ours reached.gives;
      gives_job = subst (λ (l : Listener). GivesJob setup (both_legs setup writes (event ∷ old.trace)).leg l) (sym (ap (λ (l : CalledLeg). l.ours) c.hear_outside.ensures.left))
          (gives_job_heard setup writes leg octets (clock (event ∷ old.trace)) c.args.self.now.called.ours reached.gives_job);
      pages = reached.pages;
    }))

pub returns : goal.returns
returns c = OnOk-then c.hear.result (OnOk-both _ _ c.hear.result c.hear.ensures.told (OnOk-both _ _ c.hear.result c.hear.ensures.hearing c.hear.ensures.ear)) (λ heard setup writes old at reached.
    let octets = c.args.octets.now in
    let decided = c.in_ok-from_called_watched.field-0 in
    let event = FromCalled octets c.args.moment decided in
    let leg = (both_legs setup writes old.trace).leg in
    let theirs = c.args.self.now.called.theirs in
    accepted_on setup writes old (script.FromCalled octets) _ _ event refl at
    (tells_called setup writes old.trace (called_marks writes leg (clock (event ∷ old.trace)) octets) c.in_ok-marks.marks.items (came_from_called setup writes old.trace) octets theirs c.args.tale.now c.hear.new.tale reached.hears_job c.requires
    (called_marked writes leg (clock (event ∷ old.trace)) octets c.in_ok-marks.marks.items c.as_slice.result.now c.new-notes.result c.from_called_watched.new.watcher c.keeps_calls.ensures c.new-notes.ensures
    (c.in_ok-from_called_watched.ensures.told setup writes old.trace reached.reached) c.is_lacking.result c.is_lacking.ensures c.if-is_lacking.false c.as_slice.ensures c.in_ok-marks.ensures) heard.0 (each_called writes leg (clock (event ∷ old.trace)) octets)
    (λ idle. c.in_default.not-Idle (c.called_state-state.ensures setup writes old.trace reached.reached ∙ idle)))
    (record {
      reached = c.in_ok-from_called_watched.ensures.heard setup writes old.trace reached.reached;
      hears = hears_called setup (calling_leg setup old.trace) (clock (event ∷ old.trace)) octets c.args.moment decided c.args.self.now.calling.theirs reached.hears;
      hears_job = hears_called_more writes leg octets (clock (event ∷ old.trace)) theirs c.hear.new.self.theirs reached.hears_job heard.1.0 heard.1.1;
      caller_outside = reached.caller_outside;
      called_outside = outside_more lanes.FromCalled (came_from_called setup writes old.trace) theirs c.hear.new.self.theirs (datagram_of octets) reached.called_outside heard.1.0 heard.1.1;
      gives = gives_called setup (calling_leg setup old.trace) (clock (event ∷ old.trace)) octets c.args.moment decided c.args.self.now.calling.ours reached.gives;
      gives_job = subst (λ (l : Listener). GivesJob setup (both_legs setup writes (event ∷ old.trace)).leg l) (sym c.hear.ensures.ours)
          (gives_job_heard setup writes leg octets (clock (event ∷ old.trace)) c.args.self.now.called.ours reached.gives_job);
      pages = reached.pages;
    }))
