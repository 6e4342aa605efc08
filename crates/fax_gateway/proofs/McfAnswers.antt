-- Each MCF given confirms a page or is given again, and no other tick confirms a page.
use Rattle.std.proofs.Common.{◌≡◌, ℕ, max, Bool, true, false, List, [], ◌∷◌, ◌⊎◌, inl, inr, Option, Some, None, refl, sym, ◌∙◌, ap, subst, if◌then◌else◌}
use Rattle.fax_jobs.specs.declared.outcome.Outcome.{Outcome}
use Rattle.fax_jobs.specs.Pasts.{Step, Confirms, CallEnds, Sends, Ends}
use Rattle.fax_answer.specs.Replies.{ConfirmedPage, WaitingPacket, mcf_packet}
use Rattle.fax_answer.specs.Calls.{rung}
use Rattle.fax_answer.specs.Confirmation.{AreRead, IsRepeatedIn}
use Rattle.fax_answer.proofs.Confirmations.{gives_confirmations}
use Rattle.fax_answer.proofs.EachMcf.{each_mcf}
use Rattle.fax_call.specs.Writings.{Writing}
use Rattle.fax_gateway.specs.Setups.{Setup}
use Rattle.fax_gateway.specs.Events.{Event, Given, clock}
use Rattle.fax_gateway.specs.CallingLegs.{CallingLeg, core_of, calling_leg, answers, told_calling, confirmed_by}
use Rattle.fax_gateway.specs.CalledLegs.{outcome_told, delivered_told}
use Rattle.fax_gateway.specs.BothLegs.{BothLegs, begins_next, confirms_if, ends_if, heard_in_tick, sends, sends_if, enters, serves, before_serving, both_legs}
use Rattle.fax_gateway.specs.Traces.{IsTrace}
use Rattle.fax_gateway.specs.Told.{gives_mcf}
use Rattle.fax_gateway.specs.Answers.{AddsNoPage, ConfirmsNow, GivesAgain, EachMcfAnswers}
use Rattle.fax_gateway.proofs.Confirmed.{given_with}
use Rattle.fax_gateway.proofs.LegsRead.{leg_is_read}
use Rattle.fax_gateway.proofs.Replied.{IfNeat, NeatLeg, neat_of, ticked_neat, told_mcf, mcf_only}

-- steps that confirm no page
none_yet : (steps : List Step) → AddsNoPage steps steps
none_yet steps = record { later = []; no_page = refl; steps_are = refl }

ends_none : (b : Bool) (old steps : List Step) → AddsNoPage old steps → AddsNoPage old (ends_if b steps)
ends_none true old steps a = record { later = CallEnds ∷ a.later; no_page = a.no_page; steps_are = ap (λ (s : List Step). CallEnds ∷ s) a.steps_are }
ends_none false old steps a = a

sends_none : (setup : Setup) (writes : Writing) (now : ℕ) (s : BothLegs) (old : List Step) → AddsNoPage old s.steps → AddsNoPage old (sends_if setup writes now s).steps
sends_none setup writes now s old a = by (begins_next setup s.leg)
  where
    by : (b : Bool) → AddsNoPage old (if◌then◌else◌ {A = BothLegs} b (sends true setup writes now s) s).steps
    by true = record { later = Sends ∷ a.later; no_page = a.no_page; steps_are = ap (λ (x : List Step). Sends ∷ x) a.steps_are }
    by false = a

enters_none : (delivered : ℕ) (o : Option Outcome) (old steps : List Step) → AddsNoPage old steps → AddsNoPage old (enters delivered o steps)
enters_none delivered None old steps a = a
enters_none delivered (Some outcome) old steps a =
    record { later = Ends outcome delivered ∷ a.later; no_page = a.no_page; steps_are = ap (λ (s : List Step). Ends outcome delivered ∷ s) a.steps_are }

-- what a tick does after what the book hears of the calling leg
after_heard : (setup : Setup) (writes : Writing) (leg : Option CallingLeg) (now : ℕ) (s : BothLegs) (old : List Step) → AddsNoPage old (heard_in_tick leg now s.steps) → AddsNoPage old (serves writes now (before_serving setup writes leg now s)).steps
after_heard setup writes leg now s old a =
    let z : BothLegs = before_serving setup writes leg now s in
    enters_none (delivered_told writes z.leg now) (outcome_told writes z.leg now) old z.steps (sends_none setup writes now (record s { steps = heard_in_tick leg now s.steps }) old a)

-- by what the tick confirms
heard_as : (l : CallingLeg) (now : ℕ) (steps : List Step) (o : Option ConfirmedPage) → confirmed_by (answers l now).given ≡ o → AddsNoPage (confirms_if l.number o steps) (heard_in_tick (Some l) now steps)
heard_as l now steps o e =
    ends_none (answers l now).ended (confirms_if l.number o steps) (confirms_if l.number (confirmed_by (answers l now).given) steps)
    (subst (λ (p : Option ConfirmedPage). AddsNoPage (confirms_if l.number o steps) (confirms_if l.number p steps)) (sym e) (none_yet (confirms_if l.number o steps)))

confirmed_of : (o : Option WaitingPacket) (w : WaitingPacket) (c : Option ConfirmedPage) → o ≡ Some w → w.confirmed ≡ c → confirmed_by o ≡ c
confirmed_of o w c e f = ap confirmed_by e ∙ f

mcf_with : (setup : Setup) (writes : Writing) (l : CallingLeg) (now : ℕ) (s : BothLegs) (w : WaitingPacket) → AreRead (rung l.before l.begun) l.events → (answers l now).given ≡ Some w → w.packet ≡ mcf_packet →
    let new : List Step = (serves writes now (before_serving setup writes (Some l) now s)).steps in ConfirmsNow l s.steps new ⊎ GivesAgain l s.steps new
mcf_with setup writes l now s w right is mcf = by w.confirmed refl
  where
    new : List Step
    new = (serves writes now (before_serving setup writes (Some l) now s)).steps

    by_law : w.confirmed ≡ None → ((c : ConfirmedPage) × (w.confirmed ≡ Some c)) ⊎ IsRepeatedIn (core_of l).history → ConfirmsNow l s.steps new ⊎ GivesAgain l s.steps new
    by_law e (inl c) = let q : None ≡ Some c.0 = sym e ∙ c.1 in cc
    by_law e (inr r) = inr (record { repeated = r; no_page = after_heard setup writes (Some l) now s s.steps (heard_as l now s.steps None (confirmed_of (answers l now).given w None is e)) })

    by : (o : Option ConfirmedPage) → w.confirmed ≡ o → ConfirmsNow l s.steps new ⊎ GivesAgain l s.steps new
    by (Some c) e =
        let r = gives_confirmations l.before l.begun now l.events w c right is e in
        inl (record {
          confirmed = c;
          confirmation = r.1;
          one_page = after_heard setup writes (Some l) now s (Confirms l.number c.page c.closes ∷ s.steps) (heard_as l now s.steps (Some c) (confirmed_of (answers l now).given w (Some c) is e));
        })
    by None e = by_law e (each_mcf l.before l.begun now l.events w right is mcf)

if_mcf : (setup : Setup) (writes : Writing) (earlier : List Event) (now : ℕ) (o : Option CallingLeg) (s : BothLegs) → IsTrace setup writes earlier → calling_leg setup earlier ≡ o → gives_mcf (told_calling setup o now) ≡ true →
    let new : List Step = (serves writes now (before_serving setup writes o now s)).steps in (leg : CallingLeg) × (o ≡ Some leg) × (ConfirmsNow leg s.steps new ⊎ GivesAgain leg s.steps new)
if_mcf setup writes earlier now None s t is m = cc
if_mcf setup writes earlier now (Some l) s t is m =
    let n : NeatLeg l = subst IfNeat is (neat_of setup earlier) in
    let g = mcf_only setup l.given (answers l now).given n.short (ticked_neat (core_of l) now n.core).given m in
    (l, refl, mcf_with setup writes l now s g.0 (leg_is_read setup writes earlier l t is) g.1 g.2)

-- where no MCF is given, no page is confirmed
confirms_none : (setup : Setup) (writes : Writing) (earlier : List Event) (now : ℕ) (l : CallingLeg) (o : Option ConfirmedPage) → IsTrace setup writes earlier → calling_leg setup earlier ≡ Some l → gives_mcf (told_calling setup (Some l) now) ≡ false →
    confirmed_by (answers l now).given ≡ o → o ≡ None
confirms_none setup writes earlier now l None t is m e = refl
confirms_none setup writes earlier now l (Some c) t is m e =
    let n : NeatLeg l = subst IfNeat is (neat_of setup earlier) in
    let g = given_with (answers l now).given c e in
    let r = gives_confirmations l.before l.begun now l.events g.0 c (leg_is_read setup writes earlier l t is) g.1 g.2 in
    let k : gives_mcf (told_calling setup (Some l) now) ≡ true = told_mcf setup l.given (answers l now).given g.0 n.short (ticked_neat (core_of l) now n.core).given g.1 r.0 in
    let q : true ≡ false = sym k ∙ m in
    cc

pub if_none : (setup : Setup) (writes : Writing) (earlier : List Event) (now : ℕ) (o : Option CallingLeg) (s : BothLegs) → IsTrace setup writes earlier → calling_leg setup earlier ≡ o → gives_mcf (told_calling setup o now) ≡ false →
    AddsNoPage s.steps (serves writes now (before_serving setup writes o now s)).steps
if_none setup writes earlier now None s t is m = after_heard setup writes None now s s.steps (none_yet s.steps)
if_none setup writes earlier now (Some l) s t is m =
    after_heard setup writes (Some l) now s s.steps (heard_as l now s.steps None (confirms_none setup writes earlier now l (confirmed_by (answers l now).given) t is m refl))

pub each_mcf_answers : EachMcfAnswers
each_mcf_answers setup writes earlier at given t =
    let now : ℕ = max at (clock earlier) in
    let same : gives_mcf given.on_calling ≡ gives_mcf (told_calling setup (calling_leg setup earlier) now) = ap (λ (g : Given). gives_mcf g.on_calling) t.0 in (
      λ m. if_mcf setup writes earlier now (calling_leg setup earlier) (both_legs setup writes earlier) t.1 refl (sym same ∙ m),
      λ m. if_none setup writes earlier now (calling_leg setup earlier) (both_legs setup writes earlier) t.1 refl (sym same ∙ m),
    )
