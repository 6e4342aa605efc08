use Rattle.std.proofs.Common.{◌≡◌, ℕ, true, false, List, Option, refl, sym, ◌∙◌, ap, subst, rules}
use Rattle.std.proofs.lemmas.Result.{IfOk-weaker}
use Rattle.fax_frames.specs.declared.dcs.Dcs.{Dcs}
use Rattle.fax_frames.specs.declared.writing.Plain.{Plain}
use Rattle.fax_pagestore.specs.Writers.{WriterValue}
use Rattle.fax_ifp.specs.Tracked.{TrackState, IsTracked}
use Rattle.fax_call.specs.declared.pending.Pending.TheVariants.{Nothing, Tone, Image, Text}
use Rattle.fax_call.specs.declared.procedure.Procedure.{Procedure}
use Rattle.fax_call.specs.declared.state.State.TheVariants.{Idle}
use Rattle.fax_ifp.specs.Elements.{Slot}
use Rattle.fax_call.specs.Writings.{Writing}
use Rattle.fax_call.specs.Calls.{CallerCore, timed, ticked}
use Rattle.fax_call.specs.Following.{Follows, HasFormats, gives_now, IsJobOfCall}
use Rattle.fax_call.specs.Reached.{Rep, IsReached, IsGiven}
use Rattle.fax_call.proofs.GivingLemmas.{given_gives, on_err, reached_rests, reached_gives, image_next, packet_next, if_given, if_on, on_both, on_given, packet_job}
use Rattle.fax_call.proofs.PacketLemmas.{short_as}
use Rattle.fax_call.proofs.caller.Caller.tick.Goals as goal

pub returns-then-not-gives-clause-ticked : goal.returns-then-not-gives-clause-ticked
returns-then-not-gives-clause-ticked g c writes heard core writing r =
    let now : ℕ = c.args.now in
    let job = c.args.job.now in
    let s = subst (λ (k : Rep). IsReached writes job heard core k) (sym c.self.view_is) r in
    let acted = c.act.ensures.acted writes job core _ s.follows in
    let none : gives_now (timed core now) now ≡ false = sym (c.gives.ensures.gives writes job (timed core now) _ acted) ∙ c.if-not-gives.true in
    reached_rests writes job heard core now (record { tracked = c.self.inside.signals; procedure = c.act.new.self; writer = c.self.inside.writer; spare = c.self.inside.room }) s.tracked none acted

pub returns-in-Image-clause-ticked : goal.returns-in-Image-clause-ticked
returns-in-Image-clause-ticked g c =
    let new : Rep = c.begin_text.new.self in
    if_given c.begin_text.result _ _ _ c.begin_text.ensures.packet (on_both c.begin_text.result _ _ c.begin_text.ensures.left c.begin_text.ensures.same)
    (λ given writes heard core writing r.
    let now : ℕ = c.args.now in
    let job = c.args.job.now in
    let s = subst (λ (k : Rep). IsReached writes job heard core k) (sym c.self.view_is) r in
    let acted = c.act.ensures.acted writes job core _ s.follows in
    let on : gives_now (timed core now) now ≡ true = sym (c.gives.ensures.gives writes job (timed core now) _ acted) ∙ c.if-not-gives.false in
    reached_gives writes job heard core now _ _ _ new
    (subst (λ (t : TrackState). IsTracked heard t) (sym (ap (λ (k : Rep). k.tracked) given.1)) r.tracked) on
    (image_next writes job (timed core now) _ new.writer c.act.new.self now c.in-Image.dcs c.act.ensures.fit acted c.in-Image.is (given.0 writes writing))
    (ap (λ (k : Rep). k.procedure) given.1) refl)

pub returns-in-Text : goal.returns-in-Text
returns-in-Text g c =
    let now : ℕ = c.args.now in
    let job = c.args.job.now in
    let p : Procedure = c.act.new.self in
    let new : Rep = c.give_text.new.self in
    let some : p.pending ≡ Nothing → ⊥ = λ e. let both = sym c.in-Text.is ∙ e in cc in
    let other : (dcs : Dcs) → p.pending ≡ Image dcs → ⊥ = λ dcs e. let both = sym c.in-Text.is ∙ e in cc in
    let on_call : c.self.inside.procedure.state ≡ Idle → ⊥ =
    λ e. some (ap (λ (x : Procedure). x.pending) (c.act.ensures.idle e) ∙ c.self.invariant.0.rests e) in
    let on_now : c.args.self.now.procedure.state ≡ Idle → ⊥ =
    λ e. on_call (ap (λ (k : Rep). k.procedure.state) c.self.view_is ∙ e) in
    let job_inside : IsJobOfCall c.self.inside.procedure job = subst (λ (k : Rep). IsJobOfCall k.procedure job) (sym c.self.view_is) c.requires in
    let acted_of : (p.state ≡ Idle → ⊥) → HasFormats p job = c.act.ensures.job job job_inside in
    record {
      ticked =
          if_on c.give_text.result _ _ _ c.give_text.ensures.given c.give_text.ensures.same
          (λ given gives same writes heard core writing r.
          let s = subst (λ (k : Rep). IsReached writes job heard core k) (sym c.self.view_is) r in
          let acted = c.act.ensures.acted writes job core _ s.follows in
          let on : gives_now (timed core now) now ≡ true = sym (c.gives.ensures.gives writes job (timed core now) _ acted) ∙ c.if-not-gives.false in
          let shown : Follows writes job (timed core now) c.args.self.now.writer p = subst (λ (k : Rep). Follows writes job (timed core now) k.writer p) c.self.view_is acted in
          let next = gives writes (timed core now) shown in
          subst (λ (o : Option (List ℕ)). IsReached writes job heard (ticked writes job core now).core new × IsGiven (ticked writes job core now) o) (sym next.octets)
          (reached_gives writes job heard core now next.packet new.writer new.procedure new
          (subst (λ (t : TrackState). IsTracked heard t) (sym (ap (λ (k : Rep). k.tracked) same.1)) r.tracked) on next.next refl refl));
      job =
          on_given c.give_text.result _ _ c.give_text.ensures.same
          (λ same. subst (λ (k : Rep). IsJobOfCall k.procedure job) (sym same.1)
          (λ n. packet_job p same.0 now job other (acted_of (λ e. some (c.act.ensures.fit.rests e)))));
      idle = λ e. absurd (on_now e);
      err = c.give_text.ensures.err;
      memory =
          on_err c.give_text.result
          (λ (writes : Writing) (heard : List Slot) (core : CallerCore) (r : IsReached writes job heard core c.args.self.now).
          let s = subst (λ (k : Rep). IsReached writes job heard core k) (sym c.self.view_is) r in
          let acted = c.act.ensures.acted writes job core _ s.follows in
          given_gives writes job core now (sym (c.gives.ensures.gives writes job (timed core now) _ acted) ∙ c.if-not-gives.false));
      spared =
          λ (e : c.args.self.now.procedure.pending ≡ Tone).
          let waits : c.self.inside.procedure.pending ≡ Tone = ap (λ (k : Rep). k.procedure.pending) c.self.view_is ∙ e in
          let same : p ≡ c.self.inside.procedure = c.act.ensures.waiting (λ n. cc) in
          let both = sym c.in-Text.is ∙ ap (λ (x : Procedure). x.pending) same ∙ waits in absurd (cc);
      short = c.give_text.ensures.short;
    }

pub returns-in_default : goal.returns-in_default
returns-in_default g c =
    let now : ℕ = c.args.now in
    let job = c.args.job.now in
    let p : Procedure = c.act.new.self in
    let writer : WriterValue = c.args.self.now.writer in
    let some : p.pending ≡ Nothing → ⊥ = search rules in
    let other : (dcs : Dcs) → p.pending ≡ Image dcs → ⊥ = c.in_default.not-Image in
    let no_text : (dcs : Dcs) (asks : Plain) → p.pending ≡ Text dcs asks → ⊥ = c.in_default.not-Text in
    let on_call : c.self.inside.procedure.state ≡ Idle → ⊥ =
    λ e. some (ap (λ (x : Procedure). x.pending) (c.act.ensures.idle e) ∙ c.self.invariant.0.rests e) in
    let on_now : c.args.self.now.procedure.state ≡ Idle → ⊥ =
    λ e. on_call (ap (λ (k : Rep). k.procedure.state) c.self.view_is ∙ e) in
    let job_inside : IsJobOfCall c.self.inside.procedure job = subst (λ (k : Rep). IsJobOfCall k.procedure job) (sym c.self.view_is) c.requires in
    let acted_of : (p.state ≡ Idle → ⊥) → HasFormats p job = c.act.ensures.job job job_inside in
    record {
      ticked =
          if_given c.give_packet.result _ _ _ c.give_packet.ensures.packet c.give_packet.ensures.given
          (λ new writes heard core writing r.
          let s = subst (λ (k : Rep). IsReached writes job heard core k) (sym c.self.view_is) r in
          let acted_inside = c.act.ensures.acted writes job core _ s.follows in
          let acted : Follows writes job (timed core now) writer p = subst (λ (k : Rep). Follows writes job (timed core now) k.writer p) c.self.view_is acted_inside in
          let on : gives_now (timed core now) now ≡ true = sym (c.gives.ensures.gives writes job (timed core now) _ acted) ∙ c.if-not-gives.false in
          reached_gives writes job heard core now _ _ _ c.give_packet.new.self
          (subst (λ (t : TrackState). IsTracked heard t) (sym (ap (λ (k : Rep). k.tracked) new)) r.tracked) on
          (packet_next writes job (timed core now) writer p now c.act.ensures.fit acted some other no_text)
          (ap (λ (k : Rep). k.procedure) new) (ap (λ (k : Rep). k.writer) new));
      job =
          on_given c.give_packet.result _ _ c.give_packet.ensures.given
          (λ new. subst (λ (k : Rep). IsJobOfCall k.procedure job) (sym new)
          (λ n. packet_job p false now job other (acted_of (λ e. some (c.act.ensures.fit.rests e)))));
      idle = λ e. absurd (on_now e);
      err = c.give_packet.ensures.err;
      memory =
          on_err c.give_packet.result
          (λ (writes : Writing) (heard : List Slot) (core : CallerCore) (r : IsReached writes job heard core c.args.self.now).
          let s = subst (λ (k : Rep). IsReached writes job heard core k) (sym c.self.view_is) r in
          let acted = c.act.ensures.acted writes job core _ s.follows in
          given_gives writes job core now (sym (c.gives.ensures.gives writes job (timed core now) _ acted) ∙ c.if-not-gives.false));
      spared =
          λ (e : c.args.self.now.procedure.pending ≡ Tone).
          let waits : c.self.inside.procedure.pending ≡ Tone = ap (λ (k : Rep). k.procedure.pending) c.self.view_is ∙ e in
          let same : p ≡ c.self.inside.procedure = c.act.ensures.waiting (λ n. cc) in
          c.give_packet.ensures.spared (ap (λ (x : Procedure). x.pending) same ∙ waits);
      short = IfOk-weaker c.give_packet.result _ _ (λ given is. short_as p.pending given is) c.give_packet.ensures.packet;
    }

pub returns-in-Image-clause-short : goal.returns-in-Image-clause-short
returns-in-Image-clause-short g c = IfOk-weaker c.begin_text.result _ _ (λ given is. short_as c.act.new.self.pending given is) c.begin_text.ensures.packet

pub returns-in-Image-clause-memory : goal.returns-in-Image-clause-memory
returns-in-Image-clause-memory g c =
    let now : ℕ = c.args.now in
    let job = c.args.job.now in
    on_err c.begin_text.result
    (λ (writes : Writing) (heard : List Slot) (core : CallerCore) (r : IsReached writes job heard core c.args.self.now).
    let s = subst (λ (k : Rep). IsReached writes job heard core k) (sym c.self.view_is) r in
    let acted = c.act.ensures.acted writes job core _ s.follows in
    given_gives writes job core now (sym (c.gives.ensures.gives writes job (timed core now) _ acted) ∙ c.if-not-gives.false))
