-- What an answerer keeps stands for the core of its call.
use Rattle.std.proofs.Common.{◌≡◌, ℕ, Bool, true, false, ◌&&◌, List, [], ◌∷◌, Option, Some, None, IsSome, refl, sym, ◌∙◌, ap, subst, if◌then◌else◌}
use Rattle.fax_answer.specs.History.{Entry}
use Rattle.fax_frames.specs.declared.dcs.Dcs.{Dcs}
use Rattle.fax_pagestore.specs.Readers.{ReaderValue}
use Rattle.fax_answer.specs.declared.image.Accepted.{Accepted}
use Rattle.fax_answer.specs.declared.state.State.{State}
use Rattle.fax_answer.specs.declared.state.State.TheVariants.{Idle, Identify, Listen, Train, Page, Again, Closing}
use Rattle.fax_answer.specs.Images.{ImageValue, Confirms}
use Rattle.fax_timers.specs.Moments.{is_due}
use Rattle.fax_ifp.specs.Elements.{Slot}
use Rattle.fax_answer.specs.declared.step.Step.{Step}
use Rattle.fax_answer.specs.declared.pending.Pending.{Pending}
use Rattle.fax_answer.specs.declared.pending.Pending.TheVariants.{Nothing, Tone, Preamble, Frame}
use Rattle.fax_answer.specs.declared.procedure.Procedure.{Procedure}
use Rattle.fax_timers.specs.Paces.{pace_allows}
use Rattle.fax_answer.specs.Replies.{ConfirmedPage, WaitingPacket, is_waiting}
use Rattle.fax_answer.specs.Calls.{AnswererCore, TickResult, ticked, timed, timed_in, given_first, says_goodbye, identifies_again, identifies_anew, state_when_given}
use Rattle.fax_answer.specs.Pending.{packet_text}
use Rattle.fax_answer.specs.Following.{Follows, GivesNext, gives_now, confirmed_left, confirmed_with}
use Rattle.fax_answer.specs.Reached.{Holds, Rep, Stands, IsReached}
use Rattle.fax_answer.specs.declared.refusal.Refusal.{Refusal}
use Rattle.fax_answer.specs.Refusals.{HasReason}
use Rattle.fax_answer.specs.declared.pending.Reply.TheVariants.{Plain}
use Rattle.fax_frames.specs.declared.writing.Plain.TheVariants.{Rtn}
use Rattle.fax_answer.specs.Shown.{IsStep, packet_in, confirmed_in, confirmed_shown}
use Rattle.fax_answer.proofs.Held.{holds_none, holds_on}
use Rattle.fax_answer.proofs.Refused.{first_tells, reason_left, reason_timed}
use Rattle.fax_answer.proofs.FollowingLemmas.{ticked_rests, ticked_gives, timed_history, given_history}

-- AT REST
pub settled_confirms : (accepted : Option Accepted) (readers : List ReaderValue) (k : Option ConfirmedPage) → accepted ≡ None → Confirms accepted readers k k
settled_confirms accepted readers k e = subst (λ (a : Option Accepted). Confirms a readers k k) (sym e) refl

confirmed_settled : (accepted : Option Accepted) (readers : List ReaderValue) (k c : Option ConfirmedPage) → accepted ≡ None → Confirms accepted readers k c → c ≡ k
confirmed_settled None readers k c e f = f
confirmed_settled (Some a) readers k c e f = cc

pub settled_follows : (heard : List Slot) (core : AnswererCore) (kept : Rep) → IsReached heard core kept → Follows core kept.confirmed kept.procedure
settled_follows heard core kept r =
    subst (λ (c : Option ConfirmedPage). Follows core c kept.procedure) (confirmed_settled kept.image.accepted kept.image.readers kept.confirmed r.stands.confirmed r.settled r.stands.confirms) r.stands.follows

abbrev pub no_image : ImageValue
no_image = record { readers = []; accepted = None; run = 0; longest = 0 }

pub stands_new : (core : AnswererCore) (kept : Rep) → ((dcs : Dcs) → core.state ≡ Page dcs → ⊥) → core.history ≡ [] → kept.image ≡ no_image → Follows core kept.confirmed kept.procedure → HasReason core kept.refused → Stands core kept
stands_new core kept n h i f r = record {
  confirmed = kept.confirmed;
  confirms = subst (λ (x : ImageValue). Confirms x.accepted x.readers kept.confirmed kept.confirmed) (sym i) refl;
  follows = f;
  reason = r;
  holds = subst (λ (x : ImageValue). Holds core.state core.history x) (sym i) (subst (λ (x : List Entry). Holds core.state x no_image) (sym h) (holds_none core.state n));
}

-- the timers enter no Page
by_if : (b : Bool) (x y : AnswererCore) (dcs : Dcs) (P : Type 0) → (x.state ≡ Page dcs → P) → (y.state ≡ Page dcs → P) → (if b then x else y).state ≡ Page dcs → P
by_if true x y dcs P f g e = f e
by_if false x y dcs P f g e = g e

closed : (a : AnswererCore) (dcs : Dcs) → (says_goodbye a).state ≡ Page dcs → a.state ≡ Page dcs
closed a dcs e = cc

anew : (a : AnswererCore) (now : ℕ) (dcs : Dcs) → (identifies_anew a now).state ≡ Page dcs → a.state ≡ Page dcs
anew a now dcs e = cc

timed_in_page : (s : State) (a : AnswererCore) (now : ℕ) (dcs : Dcs) → (timed_in s a now).state ≡ Page dcs → a.state ≡ Page dcs
timed_in_page Idle a now dcs e = e
timed_in_page Closing a now dcs e = e
timed_in_page Identify a now dcs e =
    by_if (is_due a.timers.t1 now) (says_goodbye a) (if is_due a.timers.t4 now then identifies_again a else a) dcs (a.state ≡ Page dcs) (closed a dcs)
    (by_if (is_due a.timers.t4 now) (identifies_again a) a dcs (a.state ≡ Page dcs) (λ h. h) (λ h. h)) e
timed_in_page Again a now dcs e = by_if (is_due a.timers.t2 now) (identifies_anew a now) a dcs (a.state ≡ Page dcs) (anew a now dcs) (λ h. h) e
timed_in_page Listen a now dcs e = by_if (is_due a.timers.t2 now) (says_goodbye a) a dcs (a.state ≡ Page dcs) (closed a dcs) (λ h. h) e
timed_in_page (Train t) a now dcs e = by_if (is_due a.timers.t2 now) (says_goodbye a) a dcs (a.state ≡ Page dcs) (closed a dcs) (λ h. h) e
timed_in_page (Page t) a now dcs e = by_if (is_due a.timers.t2 now) (says_goodbye a) a dcs (a.state ≡ Page dcs) (closed a dcs) (λ h. h) e

timed_page : (a : AnswererCore) (now : ℕ) (dcs : Dcs) → (timed a now).state ≡ Page dcs → a.state ≡ Page dcs
timed_page a now dcs e = by_if (is_waiting a.waiting) a (timed_in a.state a now) dcs (a.state ≡ Page dcs) (λ h. h) (timed_in_page a.state a now dcs) e

state_given : (s : State) (dcs : Dcs) → state_when_given s ≡ Page dcs → s ≡ Page dcs
state_given Idle dcs e = e
state_given Identify dcs e = e
state_given Listen dcs e = e
state_given (Train t) dcs e = e
state_given (Page t) dcs e = e
state_given Again dcs e = e
state_given Closing dcs e = cc

given_page : (a : AnswererCore) (now : ℕ) (ws : List WaitingPacket) (dcs : Dcs) → (given_first a now ws).core.state ≡ Page dcs → a.state ≡ Page dcs
given_page a now [] dcs e = e
given_page a now (w ∷ []) dcs e = state_given a.state dcs e
given_page a now (w ∷ v ∷ ws) dcs e = e

pub ticked_page : (a : AnswererCore) (now : ℕ) (dcs : Dcs) → (ticked a now).core.state ≡ Page dcs → a.state ≡ Page dcs
ticked_page a now dcs e = timed_page a now dcs (by (pace_allows (timed a now).pace.last now) (timed a now) e)
  where
    by : (b : Bool) (x : AnswererCore) → (if◌then◌else◌ {A = TickResult} b (given_first x now x.waiting) (record { core = x; given = None; ended = false })).core.state ≡ Page dcs → x.state ≡ Page dcs
    by true x e = given_page x now x.waiting dcs e
    by false x e = e

-- A TICK that gives nothing
pub reached_rests : (heard : List Slot) (core : AnswererCore) (now : ℕ) (old : Rep) (procedure : Procedure) → IsReached heard core old → Follows (timed core now) old.confirmed procedure
    → gives_now (timed core now) now ≡ false
    → IsReached heard (ticked core now).core (record { tracked = old.tracked; procedure = procedure; image = old.image; confirmed = old.confirmed; refused = old.refused; spare = old.spare })
reached_rests heard core now old procedure r f none =
    let new : Rep = record { tracked = old.tracked; procedure = procedure; image = old.image; confirmed = old.confirmed; refused = old.refused; spare = old.spare } in
    let there : IsReached heard (timed core now) new = record {
      tracked = r.tracked;
      stands = record {
        confirmed = old.confirmed;
        confirms = settled_confirms old.image.accepted old.image.readers old.confirmed r.settled;
        follows = f;
        reason = reason_timed core now old.refused r.stands.reason;
        holds = holds_on core.state (timed core now).state core.history (timed core now).history old.image (timed_page core now) (timed_history core now) r.stands.holds;
      };
      settled = r.settled;
    } in
    subst (λ (t : TickResult). IsReached heard t.core new) (sym (ticked_rests core now none)) there

pub step_rests : {S : Type 0} → (core : AnswererCore) (now : ℕ) → gives_now (timed core now) now ≡ false → IsStep {S = S} (ticked core now) (record { packet = None; confirmed = None; refused = None; ended = false })
step_rests {S = S} core now none =
    let s : Step S = record { packet = None; confirmed = None; refused = None; ended = false } in
    subst (λ (t : TickResult). IsStep {S = S} t s) (sym (ticked_rests core now none)) (record { packet = refl; confirmed = refl; refused = record { rtn = λ h. absurd h; silent = λ off. refl }; ends = refl })

-- and one that gives a packet
pub reached_gives : (heard : List Slot) (core : AnswererCore) (now : ℕ) (old : Rep) (acted procedure : Procedure) (ended : Bool) (spare : ℕ) → IsReached heard core old
    → GivesNext (timed core now) old.confirmed now acted procedure ended → gives_now (timed core now) now ≡ true
    → IsReached heard (ticked core now).core (record { tracked = old.tracked; procedure = procedure; image = old.image; confirmed = confirmed_left procedure.pending old.confirmed; refused = old.refused; spare = spare })
reached_gives heard core now old acted procedure ended spare r n gives =
    let a : AnswererCore = timed core now in
    let new : Rep = record { tracked = old.tracked; procedure = procedure; image = old.image; confirmed = confirmed_left procedure.pending old.confirmed; refused = old.refused; spare = spare } in
    let same = given_history a now a.waiting ∙ timed_history core now in
    let there : IsReached heard (given_first a now a.waiting).core new = record {
      tracked = r.tracked;
      stands = record {
        confirmed = confirmed_left procedure.pending old.confirmed;
        confirms = settled_confirms old.image.accepted old.image.readers (confirmed_left procedure.pending old.confirmed) r.settled;
        follows = n.follows;
        reason = reason_left a now old.refused (reason_timed core now old.refused r.stands.reason);
        holds = holds_on core.state (given_first a now a.waiting).core.state core.history (given_first a now a.waiting).core.history old.image (λ dcs e. timed_page core now dcs (given_page a now a.waiting dcs e)) same r.stands.holds;
      };
      settled = r.settled;
    } in
    subst (λ (t : TickResult). IsReached heard t.core new) (sym (ticked_gives core now gives)) there

pub step_gives : {S : Type 0} → (core : AnswererCore) (now : ℕ) (confirmed : Option ConfirmedPage) (refused : Option Refusal) (acted procedure : Procedure) (step : Step S) → HasReason core refused → GivesNext (timed core now) confirmed now acted procedure step.ended → gives_now (timed core now) now ≡ true
    → step.packet ≡ Some (packet_text acted.pending) → confirmed_shown step.confirmed ≡ confirmed_with procedure.pending confirmed
    → (acted.pending ≡ Frame (Plain Rtn) → step.refused ≡ refused) → ((acted.pending ≡ Frame (Plain Rtn) → ⊥) → step.refused ≡ None)
    → IsStep {S = S} (ticked core now) step
step_gives {S = S} core now confirmed refused acted procedure step r n gives packet page rtn other =
    let a : AnswererCore = timed core now in
    subst (λ (t : TickResult). IsStep {S = S} t step) (sym (ticked_gives core now gives)) (record {
      packet = packet ∙ sym (ap packet_in n.given);
      confirmed = page ∙ sym (ap confirmed_in n.given);
      refused = first_tells a now acted.pending refused step.refused (confirmed_with procedure.pending confirmed) (reason_timed core now refused r) n.given rtn other;
      ends = n.ends;
    })

-- where a packet is to be given, one is
given_first_gives : (a : AnswererCore) (now : ℕ) (ws : List WaitingPacket) → is_waiting ws ≡ true → IsSome (given_first a now ws).given
given_first_gives a now [] h = cc
given_first_gives a now (w ∷ []) h = refl
given_first_gives a now (w ∷ v ∷ ws) h = refl

both_first : (b c : Bool) → (b && c) ≡ true → b ≡ true
both_first true c h = refl
both_first false c h = cc

pub given_gives : (core : AnswererCore) (now : ℕ) → gives_now (timed core now) now ≡ true → IsSome (ticked core now).given
given_gives core now gives =
    let a : AnswererCore = timed core now in
    subst (λ (t : TickResult). IsSome t.given) (sym (ticked_gives core now gives))
    (given_first_gives a now a.waiting (both_first (is_waiting a.waiting) (pace_allows a.pace.last now) gives))

-- the page that is given with the last packet of a reply
pub left_if : {S : Type 0} → (p : Pending) (is_given : Bool) (old new : Option S) (view : Option S → Option ConfirmedPage) → view None ≡ None → (is_given ≡ true → p ≡ Nothing) → (is_given ≡ false → p ≡ Nothing → ⊥)
    → new ≡ (if is_given then None else old) → view new ≡ confirmed_left p (view old)
left_if Nothing true old new view n t f e = ap view e ∙ n
left_if Nothing false old new view n t f e = absurd (f refl refl)
left_if Tone true old new view n t f e = let h : Tone ≡ Nothing = t refl in cc
left_if Tone false old new view n t f e = ap view e
left_if (Preamble reply) true old new view n t f e = let h : Preamble reply ≡ Nothing = t refl in cc
left_if (Preamble reply) false old new view n t f e = ap view e
left_if (Frame reply) true old new view n t f e = let h : Frame reply ≡ Nothing = t refl in cc
left_if (Frame reply) false old new view n t f e = ap view e

pub taken_if : {S : Type 0} → (p : Pending) (is_given : Bool) (old taken : Option S) (view : Option S → Option ConfirmedPage) → view None ≡ None → (is_given ≡ true → p ≡ Nothing) → (is_given ≡ false → p ≡ Nothing → ⊥)
    → taken ≡ (if is_given then old else None) → view taken ≡ confirmed_with p (view old)
taken_if Nothing true old taken view n t f e = ap view e
taken_if Nothing false old taken view n t f e = absurd (f refl refl)
taken_if Tone true old taken view n t f e = let h : Tone ≡ Nothing = t refl in cc
taken_if Tone false old taken view n t f e = ap view e ∙ n
taken_if (Preamble reply) true old taken view n t f e = let h : Preamble reply ≡ Nothing = t refl in cc
taken_if (Preamble reply) false old taken view n t f e = ap view e ∙ n
taken_if (Frame reply) true old taken view n t f e = let h : Frame reply ≡ Nothing = t refl in cc
taken_if (Frame reply) false old taken view n t f e = ap view e ∙ n
