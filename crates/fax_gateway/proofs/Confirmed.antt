-- Each page that the book's steps confirm was confirmed in the trace, in the call of its number.
use Rattle.std.proofs.Common.{◌≡◌, ℕ, max, Bool, true, false, not, ◌&&◌, List, [], ◌∷◌, Option, Some, None, refl, sym, ◌∙◌, ap, subst, if◌then◌else◌}
use Rattle.fax_runcodes.specs.Widths.{elements_of}
use Rattle.fax_runcodes.specs.declared.format.Format.{Format}
use Rattle.fax_runcodes.specs.declared.format.Coding.{Coding}
use Rattle.fax_pagestore.specs.Pages.{PageValue, IsPage}
use Rattle.fax_pagestore.specs.PageRows.{AreRows}
use Rattle.fax_pagestore.specs.PageTexts.{MeansPage}
use Rattle.fax_jobs.specs.declared.outcome.Outcome.{Outcome}
use Rattle.fax_jobs.specs.Pasts.{Step}
use Rattle.fax_answer.specs.Replies.{ConfirmedPage, WaitingPacket, mcf_packet}
use Rattle.fax_answer.proofs.Confirmations.{gives_confirmations}
use Rattle.fax_call.specs.Writings.{Writing}
use Rattle.fax_gateway.specs.Setups.{Setup}
use Rattle.fax_gateway.specs.Events.{Event, Ring, FromCalling, FromCalled, Tick, Placed, Given, clock}
use Rattle.fax_gateway.specs.CallingLegs.{CallingLeg, core_of, calling_leg, idle_after, answers, told_calling, confirmed_by}
use Rattle.fax_gateway.specs.CalledLegs.{outcome_told, delivered_told}
use Rattle.fax_gateway.specs.BothLegs.{BothLegs, begins_next, confirms_if, ends_if, heard_in_tick, sends, sends_if, enters, both_legs, in_tick}
use Rattle.fax_gateway.specs.Traces.{IsTrace}
use Rattle.fax_gateway.specs.Told.{gives_mcf}
use Rattle.fax_gateway.specs.Restored.{pages_restored}
use Rattle.fax_gateway.specs.Forwards.{WasConfirmedIn, WasConfirmed}
use Rattle.fax_gateway.proofs.Held.{StepsHold, steps_map}
use Rattle.fax_gateway.proofs.LegsRead.{leg_is_read}
use Rattle.fax_gateway.proofs.Replied.{IfNeat, neat_of, ticked_neat, told_mcf}
use Rattle.fax_gateway.proofs.Restoring.{restored_hold, or_own, or_map, each_restored}

-- what was confirmed in a trace was confirmed in what comes after it
pub later_in : (setup : Setup) (e : Event) (trace : List Event) (call : ℕ) (page : PageValue) → WasConfirmedIn setup trace call page → WasConfirmedIn setup (e ∷ trace) call page
later_in setup e trace call page w =
    record {
      later = e ∷ w.later;
      at = w.at;
      given = w.given;
      earlier = w.earlier;
      split = ap (λ (t : List Event). e ∷ t) w.split;
      mcf = w.mcf;
      leg = w.leg;
      is_leg = w.is_leg;
      in_call = w.in_call;
      confirmed = w.confirmed;
      same_page = w.same_page;
      gives = w.gives;
      confirmation = w.confirmation;
    }

pub was_later : (setup : Setup) (e : Event) (trace : List Event) (call : ℕ) (page : PageValue) → WasConfirmed setup trace call page → WasConfirmed setup (e ∷ trace) call page
was_later setup e trace call page w =
    or_map (pages_restored setup.restored) call page (WasConfirmedIn setup trace call page) (WasConfirmedIn setup (e ∷ trace) call page) (later_in setup e trace call page) w

-- a tick that gives a confirmed page
pub given_with : (o : Option WaitingPacket) (c : ConfirmedPage) → confirmed_by o ≡ Some c → (w : WaitingPacket) × (o ≡ Some w) × (w.confirmed ≡ Some c)
given_with None c h = cc
given_with (Some w) c h = (w, refl, h)

told_in : (setup : Setup) (l : CallingLeg) (now : ℕ) (w : WaitingPacket) → IfNeat (Some l) → (answers l now).given ≡ Some w → w.packet ≡ mcf_packet → gives_mcf (told_calling setup (Some l) now) ≡ true
told_in setup l now w n is e = told_mcf setup l.given (answers l now).given w n.short (ticked_neat (core_of l) now n.core).given is e

pub confirmed_now : (setup : Setup) (writes : Writing) (earlier : List Event) (at : ℕ) (given : Given) (l : CallingLeg) (c : ConfirmedPage) → IsTrace setup writes (Tick at given ∷ earlier) →
    calling_leg setup earlier ≡ Some l → confirmed_by (answers l (max at (clock earlier))).given ≡ Some c → WasConfirmedIn setup (Tick at given ∷ earlier) l.number c.page
confirmed_now setup writes earlier at given l c t is h =
    let now : ℕ = max at (clock earlier) in
    let g = given_with (answers l now).given c h in
    let r = gives_confirmations l.before l.begun now l.events g.0 c (leg_is_read setup writes earlier l t.1 is) g.1 g.2 in
    record {
      later = [];
      at = at;
      given = given;
      earlier = earlier;
      split = refl;
      mcf = ap (λ (g : Given). gives_mcf g.on_calling) t.0 ∙ ap (λ (o : Option CallingLeg). gives_mcf (told_calling setup o now)) is
          ∙ told_in setup l now g.0 (subst IfNeat is (neat_of setup earlier)) g.1 r.0;
      leg = l;
      is_leg = is;
      in_call = refl;
      confirmed = c;
      same_page = refl;
      gives = h;
      confirmation = r.1;
    }

-- a confirmed page is one
means_one : (format : Format) (coding : Coding) (octets : List ℕ) (page : PageValue) → MeansPage format coding octets page → IsPage page
means_one format coding octets page m = subst (λ (f : Format). AreRows (elements_of f.width) page.rows) (sym m.0) m.1.are_rows

pub page_is : (setup : Setup) (trace : List Event) (call : ℕ) (page : PageValue) → WasConfirmedIn setup trace call page → IsPage page
page_is setup trace call page w = subst IsPage w.same_page (means_one _ _ _ w.confirmed.page w.confirmation.confirmation.means)

-- what the steps confirm
ends_hold : (P : ℕ → PageValue → Type 0) (b : Bool) (steps : List Step) → StepsHold P steps → StepsHold P (ends_if b steps)
ends_hold P true steps h = h
ends_hold P false steps h = h

confirms_hold : (P : ℕ → PageValue → Type 0) (number : ℕ) (o : Option ConfirmedPage) (steps : List Step) → ((c : ConfirmedPage) → o ≡ Some c → P number c.page × IsPage c.page) → StepsHold P steps → StepsHold P (confirms_if number o steps)
confirms_hold P number None steps f h = h
confirms_hold P number (Some c) steps f h = ((f c refl).0, ((f c refl).1, h))

tick_hold : (setup : Setup) (writes : Writing) (earlier : List Event) (at : ℕ) (given : Given) (o : Option CallingLeg) (steps : List Step) → IsTrace setup writes (Tick at given ∷ earlier) → calling_leg setup earlier ≡ o →
    StepsHold (WasConfirmed setup (Tick at given ∷ earlier)) steps → StepsHold (WasConfirmed setup (Tick at given ∷ earlier)) (heard_in_tick o (max at (clock earlier)) steps)
tick_hold setup writes earlier at given None steps t is h = h
tick_hold setup writes earlier at given (Some l) steps t is h =
    let trace : List Event = Tick at given ∷ earlier in
    let P : ℕ → PageValue → Type 0 = WasConfirmed setup trace in
    let a = answers l (max at (clock earlier)) in
    ends_hold P a.ended (confirms_if l.number (confirmed_by a.given) steps)
    (confirms_hold P l.number (confirmed_by a.given) steps
    (λ c e. let w : WasConfirmedIn setup trace l.number c.page = confirmed_now setup writes earlier at given l c t is e in
    (or_own (pages_restored setup.restored) l.number c.page (WasConfirmedIn setup trace l.number c.page) w, page_is setup trace l.number c.page w)) h)

sends_hold : (setup : Setup) (P : ℕ → PageValue → Type 0) (writes : Writing) (now : ℕ) (s : BothLegs) → StepsHold P s.steps → StepsHold P (sends_if setup writes now s).steps
sends_hold setup P writes now s h = by (begins_next setup s.leg)
  where
    by : (b : Bool) → StepsHold P (if◌then◌else◌ {A = BothLegs} b (sends true setup writes now s) s).steps
    by true = h
    by false = h

enters_hold : (P : ℕ → PageValue → Type 0) (delivered : ℕ) (o : Option Outcome) (steps : List Step) → StepsHold P steps → StepsHold P (enters delivered o steps)
enters_hold P delivered None steps h = h
enters_hold P delivered (Some outcome) steps h = h

pub tick_holds_from : (setup : Setup) (writes : Writing) (earlier : List Event) (at : ℕ) (given : Given) → IsTrace setup writes (Tick at given ∷ earlier) → StepsHold (WasConfirmed setup (Tick at given ∷ earlier)) (both_legs setup writes earlier).steps →
    StepsHold (WasConfirmed setup (Tick at given ∷ earlier)) (in_tick setup writes earlier at).steps
tick_holds_from setup writes earlier at given t h =
    let P : ℕ → PageValue → Type 0 = WasConfirmed setup (Tick at given ∷ earlier) in
    let now : ℕ = max at (clock earlier) in
    let s : BothLegs = both_legs setup writes earlier in
    sends_hold setup P writes now (record s { steps = heard_in_tick (calling_leg setup earlier) now s.steps })
    (tick_hold setup writes earlier at given (calling_leg setup earlier) s.steps t refl h)

event_holds : (setup : Setup) (writes : Writing) (e : Event) (earlier : List Event) → IsTrace setup writes (e ∷ earlier) → StepsHold (WasConfirmed setup (e ∷ earlier)) (both_legs setup writes earlier).steps →
    StepsHold (WasConfirmed setup (e ∷ earlier)) (both_legs setup writes (e ∷ earlier)).steps
event_holds setup writes (Ring at n) earlier t h = h
event_holds setup writes (FromCalling octets at decided read) earlier t h =
    ends_hold (WasConfirmed setup (FromCalling octets at decided read ∷ earlier)) (not (idle_after (calling_leg setup earlier)) && idle_after (calling_leg setup (FromCalling octets at decided read ∷ earlier))) (both_legs setup writes earlier).steps h
event_holds setup writes (FromCalled octets at decided) earlier t h = h
event_holds setup writes (Placed at connected) earlier t h = h
event_holds setup writes (Tick at given) earlier t h =
    let P : ℕ → PageValue → Type 0 = WasConfirmed setup (Tick at given ∷ earlier) in
    let now : ℕ = max at (clock earlier) in
    let z : BothLegs = in_tick setup writes earlier at in
    enters_hold P (delivered_told writes z.leg now) (outcome_told writes z.leg now) z.steps (tick_holds_from setup writes earlier at given t h)

pub steps_hold : (setup : Setup) (writes : Writing) (trace : List Event) → IsTrace setup writes trace → StepsHold (WasConfirmed setup trace) (both_legs setup writes trace).steps
steps_hold setup writes [] t =
    restored_hold (WasConfirmed setup []) setup.restored [] (each_restored (WasConfirmedIn setup []) (pages_restored setup.restored)) setup.are_pages tt
steps_hold setup writes (e ∷ earlier) t =
    event_holds setup writes e earlier t
    (steps_map (WasConfirmed setup earlier) (WasConfirmed setup (e ∷ earlier)) (both_legs setup writes earlier).steps (λ call page w. was_later setup e earlier call page w) (steps_hold setup writes earlier t.1))

-- the same in a tick, when the called leg is served
pub tick_holds : (setup : Setup) (writes : Writing) (earlier : List Event) (at : ℕ) (given : Given) → IsTrace setup writes (Tick at given ∷ earlier) → StepsHold (WasConfirmed setup (Tick at given ∷ earlier)) (in_tick setup writes earlier at).steps
tick_holds setup writes earlier at given t =
    tick_holds_from setup writes earlier at given t
    (steps_map (WasConfirmed setup earlier) (WasConfirmed setup (Tick at given ∷ earlier)) (both_legs setup writes earlier).steps (λ call page w. was_later setup (Tick at given) earlier call page w) (steps_hold setup writes earlier t.1))
