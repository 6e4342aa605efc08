use Rattle.std.proofs.Common.{◌≡◌, ◌∷◌, None, Some, refl, sym, ◌∙◌, ap, subst}
use Rattle.fax_command.proofs.PutLemmas.{OnOk-then}
use Rattle.fax_udptl.specs.Datagrams.{datagram_of}
use Rattle.fax_gateway.specs.CallingLegs.{calling_leg}
use Rattle.fax_gateway.specs.Events.{FromCalling, clock}
use Rattle.fax_gateway.specs.Turns.{call_on}
use Rattle.fax_trace.specs.declared.event.ScriptEvent.TheVariants as script
use Rattle.fax_descriptions.specs.declared.lane.Lane.TheVariants.{FromCaller}
use Rattle.fax_explain.specs.declared.calling.CallingLeg.{CallingLeg}
use Rattle.fax_explain.specs.declared.listener.Listener.{Listener}
use Rattle.fax_explain.specs.Staged.{GivesCall}
use Rattle.fax_explain.proofs.PlayLemmas.{OnOk-both, accepted_on}
use Rattle.fax_explain.specs.Ladders.{came_from_caller, caller_marks}
use Rattle.fax_explain.proofs.MarkLemmas.{caller_marked, each_caller}
use Rattle.fax_explain.proofs.StagedLemmas.{gives_heard, hears_more, hears_outside, outside_more, outside_on, tells_caller, tells_outside, told_outside}
use Rattle.fax_explain.proofs.stage.Stage.hear_calling.Goals as goal

pub returns-in_default : goal.returns-in_default
returns-in_default c = OnOk-then c.hear_outside.result (OnOk-both _ _ c.hear_outside.result c.hear_outside.ensures.told (OnOk-both _ _ c.hear_outside.result c.hear_outside.ensures.hearing c.hear_outside.ensures.ear)) (λ told setup writes old at reached.
    let theirs = c.args.self.now.calling.theirs in
    let heard = (c.in_ok-from_calling_watched.ensures.heard setup writes old.trace reached.reached).hears in
    let leg = calling_leg setup old.trace in
    let octets = c.args.octets.now in
    let decided = c.in_ok-from_calling_watched.field-0 in
    let event = FromCalling octets c.args.moment decided heard.read in
    let none : call_on leg ≡ None = sym (c.call-call.ensures.told setup writes old.trace reached.reached) ∙ c.in_default.is in
    accepted_on setup writes old (script.FromCalling octets) _ _ event refl at
    (tells_outside leg (calling_leg setup (event ∷ old.trace)) (caller_marks leg (clock (event ∷ old.trace)) octets heard.read) (came_from_caller old.trace) octets _ none
    (told_outside FromCaller (came_from_caller old.trace) theirs octets c.args.tale.now c.hear_outside.new.tale reached.caller_outside c.requires told.0))
    (record {
      reached = heard.reached;
      hears = hears_outside setup leg (clock (event ∷ old.trace)) octets c.args.moment decided heard.read c.hear_outside.new.self.theirs none;
      hears_job = reached.hears_job;
      caller_outside = outside_on FromCaller (came_from_caller old.trace) theirs c.hear_outside.new.self.theirs (datagram_of octets) reached.caller_outside told.1.0 told.1.1;
      called_outside = reached.called_outside;
      gives = subst (λ (l : Listener). GivesCall setup (calling_leg setup (event ∷ old.trace)) l) (sym (ap (λ (l : CallingLeg). l.ours) c.hear_outside.ensures.left))
          (gives_heard setup leg (clock (event ∷ old.trace)) octets c.args.moment decided heard.read c.args.self.now.calling.ours reached.gives);
      gives_job = reached.gives_job;
      pages = ap (λ (l : CallingLeg). l.pages) c.hear_outside.ensures.left ∙ reached.pages;
    }))

pub returns : goal.returns
returns c = OnOk-then c.tell_over.result c.tell_over.ensures.told (λ over setup writes old at reached.
    let heard = (c.in_ok-from_calling_watched.ensures.heard setup writes old.trace reached.reached).hears in
    let leg = calling_leg setup old.trace in
    let octets = c.args.octets.now in
    let decided = c.in_ok-from_calling_watched.field-0 in
    let event = FromCalling octets c.args.moment decided heard.read in
    let theirs = c.args.self.now.calling.theirs in
    let on : Some c.in-Some.call ≡ call_on leg = sym c.in-Some.is ∙ c.call-call.ensures.told setup writes old.trace reached.reached in
    accepted_on setup writes old (script.FromCalling octets) _ _ event refl at
    (tells_caller leg (calling_leg setup (event ∷ old.trace)) (caller_marks leg (clock (event ∷ old.trace)) octets heard.read) c.in_ok-marks.marks.items (came_from_caller old.trace) octets c.in-Some.call theirs
    c.args.tale.now c.hear.new.tale c.tell_over.new.tale reached.hears c.requires
    (caller_marked leg (clock (event ∷ old.trace)) octets heard.read c.in_ok-marks.marks.items c.as_slice.result.now c.new-notes.result c.from_calling_watched.new.watcher c.keeps_answers.ensures c.new-notes.ensures
    (c.in_ok-from_calling_watched.ensures.heard setup writes old.trace reached.reached).told c.is_lacking.result c.is_lacking.ensures c.if-is_lacking.false c.as_slice.ensures c.in_ok-marks.ensures)
    c.in_ok-hear.ensures.told (each_caller leg (clock (event ∷ old.trace)) octets heard.read) on (over setup writes (event ∷ old.trace) heard.reached))
    (record {
      reached = heard.reached;
      hears = hears_more setup leg (clock (event ∷ old.trace)) octets c.args.moment decided heard.read theirs c.hear.new.self.theirs
          reached.hears c.in_ok-hear.ensures.hearing c.in_ok-hear.ensures.ear;
      hears_job = reached.hears_job;
      caller_outside = outside_more FromCaller (came_from_caller old.trace) theirs c.hear.new.self.theirs (datagram_of octets) reached.caller_outside c.in_ok-hear.ensures.hearing c.in_ok-hear.ensures.ear;
      called_outside = reached.called_outside;
      gives = subst (λ (l : Listener). GivesCall setup (calling_leg setup (event ∷ old.trace)) l) (sym (ap (λ (l : CallingLeg). l.ours) c.hear.ensures.left))
          (gives_heard setup leg (clock (event ∷ old.trace)) octets c.args.moment decided heard.read c.args.self.now.calling.ours reached.gives);
      gives_job = reached.gives_job;
      pages = ap (λ (l : CallingLeg). l.pages) c.hear.ensures.left ∙ reached.pages;
    }))
