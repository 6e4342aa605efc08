-- The pages that ticks confirmed are those for which MCF was decided, in their order, but for one that may wait.
use Rattle.std.proofs.Common.{◌≡◌, ℕ, ◌<◌, Bool, true, false, List, [], ◌∷◌, ◌++◌, length, Option, Some, None, refl, sym, ◌∙◌, ap, subst, arith, if◌then◌else◌, append_assoc, append-nil}
use Rattle.fax_pagestore.specs.Pages.{PageValue}
use Rattle.fax_ifp.specs.Pieces.{Piece}
use Rattle.fax_timers.specs.Moments.{is_due}
use Rattle.fax_timers.specs.Paces.{pace_allows}
use Rattle.fax_answer.specs.declared.state.State.{State}
use Rattle.fax_answer.specs.declared.state.State.TheVariants.{Idle, Identify, Listen, Train, Page, Again, Closing}
use Rattle.fax_answer.specs.History.{Decision, PassesOver, Trains, HangsUp, GivesCfr, GivesFtt, GivesMcf, GivesRtn}
use Rattle.fax_answer.specs.Table.{Reading, decision}
use Rattle.fax_answer.specs.Replies.{ConfirmedPage, WaitingPacket, reply_to, is_waiting}
use Rattle.fax_answer.specs.Calls.{AnswererCore, CallEvent, Comes, Ticks, after_events, rung, came, ticked, TickResult, timed, timed_in, given_first, says_goodbye, identifies_again, identifies_anew}
use Rattle.fax_answer.specs.Following.{Rests}
use Rattle.fax_answer.specs.Sent.{page_accepted, page_with, confirmed_with, confirmed_in_tick, pages_confirmed, pages_accepted, pages_waiting, ConfirmsWhatItAccepted}
use Rattle.fax_answer.proofs.Rests.{NoneIf, none_if, rests_after, ticked_rests}

record Account (a : AnswererCore) (given : List PageValue) : Type 0 where
  rests : Rests a.state a.waiting
  same : pages_accepted a.history ≡ pages_waiting a.waiting ++ given
  few : length (pages_waiting a.waiting) < 2

waiting_both : (ws rs : List WaitingPacket) → pages_waiting (ws ++ rs) ≡ pages_waiting rs ++ pages_waiting ws
waiting_both [] rs = sym (append-nil (pages_waiting rs))
waiting_both (w ∷ ws) rs = ap (λ (x : List PageValue). x ++ confirmed_with w.confirmed []) (waiting_both ws rs) ∙ append_assoc (pages_waiting rs) (pages_waiting ws) (confirmed_with w.confirmed [])

-- a reply without a page
record Adds (d : Decision) (ws : List WaitingPacket) (accepted given : List PageValue) : Type 0 where
  same : page_with (page_accepted d) accepted ≡ pages_waiting (ws ++ reply_to d) ++ given
  few : length (pages_waiting (ws ++ reply_to d)) < 2

none_adds : (d : Decision) (ws : List WaitingPacket) (accepted given : List PageValue) → page_accepted d ≡ None → pages_waiting (reply_to d) ≡ [] → accepted ≡ pages_waiting ws ++ given → length (pages_waiting ws) < 2 → Adds d ws accepted given
none_adds d ws accepted given n r e f =
    let w : pages_waiting (ws ++ reply_to d) ≡ pages_waiting ws = waiting_both ws (reply_to d) ∙ ap (λ (x : List PageValue). x ++ pages_waiting ws) r in
    record {
      same = ap (λ (p : Option PageValue). page_with p accepted) n ∙ e ∙ ap (λ (x : List PageValue). x ++ given) (sym w);
      few = subst (λ (x : List PageValue). length x < 2) (sym w) f;
    }

adds : (d : Decision) (ws : List WaitingPacket) (accepted given : List PageValue) → NoneIf ws d → accepted ≡ pages_waiting ws ++ given → length (pages_waiting ws) < 2 → Adds d ws accepted given
adds PassesOver ws accepted given n e f = none_adds PassesOver ws accepted given refl refl e f
adds (Trains dcs) ws accepted given n e f = none_adds (Trains dcs) ws accepted given refl refl e f
adds HangsUp ws accepted given n e f = none_adds HangsUp ws accepted given refl refl e f
adds (GivesCfr dcs) ws accepted given n e f = none_adds (GivesCfr dcs) ws accepted given refl refl e f
adds GivesFtt ws accepted given n e f = none_adds GivesFtt ws accepted given refl refl e f
adds GivesRtn ws accepted given n e f = none_adds GivesRtn ws accepted given refl refl e f
adds (GivesMcf c None) ws accepted given n e f = none_adds (GivesMcf c None) ws accepted given refl refl e f
adds (GivesMcf c (Some page)) [] accepted given n e f = record { same = ap (λ (x : List PageValue). page ∷ x) e; few = omega arith }
adds (GivesMcf c (Some page)) (w ∷ ws) accepted given n e f = cc

comes_adds : (read : Reading) (a : AnswererCore) (p : Piece) (now : ℕ) (given : List PageValue) → Account a given → Account (came read a p now) given
comes_adds read a p now given i =
    let d : Decision = decision read a.state (is_waiting a.waiting) a.history p in
    let x : Adds d a.waiting (pages_accepted a.history) given = adds d a.waiting (pages_accepted a.history) given (none_if read a.state a.waiting a.history p i.rests) i.same i.few in
    record { rests = rests_after read a.state a.waiting a.history p i.rests; same = x.same; few = x.few }

-- a tick
record Even (a : AnswererCore) (given : List PageValue) : Type 0 where
  same : pages_accepted a.history ≡ pages_waiting a.waiting ++ given
  few : length (pages_waiting a.waiting) < 2

even_if : (b : Bool) (x y : AnswererCore) (given : List PageValue) → Even x given → Even y given → Even (if b then x else y) given
even_if true x y given p q = p
even_if false x y given p q = q

timed_even : (a : AnswererCore) (now : ℕ) (given : List PageValue) → Even a given → Even (timed a now) given
timed_even a now given e = by a.waiting refl
  where
    empty : a.waiting ≡ [] → pages_accepted a.history ≡ given
    empty w = e.same ∙ ap (λ (ws : List WaitingPacket). pages_waiting ws ++ given) w

    goodbye : a.waiting ≡ [] → Even (says_goodbye a) given
    goodbye w = record { same = empty w; few = omega arith }

    again : a.waiting ≡ [] → Even (identifies_again a) given
    again w = record { same = empty w; few = omega arith }

    anew : a.waiting ≡ [] → Even (identifies_anew a now) given
    anew w = record { same = empty w; few = omega arith }

    phases : (state : State) → a.waiting ≡ [] → Even (timed_in state a now) given
    phases Idle w = e
    phases Closing w = e
    phases Identify w = even_if (is_due a.timers.t1 now) (says_goodbye a) (if is_due a.timers.t4 now then identifies_again a else a) given (goodbye w) (even_if (is_due a.timers.t4 now) (identifies_again a) a given (again w) e)
    phases Listen w = even_if (is_due a.timers.t2 now) (says_goodbye a) a given (goodbye w) e
    phases (Train d) w = even_if (is_due a.timers.t2 now) (says_goodbye a) a given (goodbye w) e
    phases (Page d) w = even_if (is_due a.timers.t2 now) (says_goodbye a) a given (goodbye w) e
    phases Again w = even_if (is_due a.timers.t2 now) (identifies_anew a now) a given (anew w) e

    by : (ws : List WaitingPacket) → a.waiting ≡ ws → Even (if is_waiting a.waiting then a else timed_in a.state a now) given
    by [] w = even_if (is_waiting a.waiting) a (timed_in a.state a now) given e (phases a.state w)
    by (v ∷ ws) w = subst (λ (x : AnswererCore). Even x given) (sym (ap (λ (x : List WaitingPacket). if◌then◌else◌ {A = AnswererCore} (is_waiting x) a (timed_in a.state a now)) w)) e

fewer : (xs ys : List PageValue) → length (xs ++ ys) < 2 → length xs < 2
fewer [] ys h = omega arith
fewer (x ∷ []) ys h = omega arith
fewer (x ∷ y ∷ xs) ys h = absurd (omega arith)

given_one : (xs given : List PageValue) (w : WaitingPacket) → (xs ++ confirmed_with w.confirmed []) ++ given ≡ xs ++ confirmed_with w.confirmed given
given_one xs given w = append_assoc xs (confirmed_with w.confirmed []) given ∙ by w.confirmed
  where
    by : (c : Option ConfirmedPage) → xs ++ (confirmed_with c [] ++ given) ≡ xs ++ confirmed_with c given
    by None = refl
    by (Some c) = refl

first_even : (a : AnswererCore) (now : ℕ) (ws : List WaitingPacket) (given : List PageValue) → a.waiting ≡ ws → Even a given → Even (given_first a now ws).core (confirmed_in_tick ((given_first a now ws).given) given)
first_even a now [] given w e = e
first_even a now (v ∷ []) given w e =
    record { same = e.same ∙ ap (λ (ws : List WaitingPacket). pages_waiting ws ++ given) w ∙ given_one [] given v; few = omega arith }
first_even a now (v ∷ u ∷ ws) given w e =
    record {
      same = e.same ∙ ap (λ (ws : List WaitingPacket). pages_waiting ws ++ given) w ∙ given_one (pages_waiting (u ∷ ws)) given v;
      few = fewer (pages_waiting (u ∷ ws)) (confirmed_with v.confirmed []) (subst (λ (ws : List WaitingPacket). length (pages_waiting ws) < 2) w e.few);
    }

paced_even : (b : Bool) (a : AnswererCore) (t : TickResult) (given : List PageValue) → Even a given → Even t.core (confirmed_in_tick t.given given) →
    Even (if◌then◌else◌ {A = TickResult} b t (record { core = a; given = None; ended = false })).core (confirmed_in_tick ((if◌then◌else◌ {A = TickResult} b t (record { core = a; given = None; ended = false })).given) given)
paced_even true a t given p q = q
paced_even false a t given p q = p

tick_gives : (a : AnswererCore) (now : ℕ) (given : List PageValue) → Account a given → Account (ticked a now).core (confirmed_in_tick ((ticked a now).given) given)
tick_gives a now given i =
    let b : AnswererCore = timed a now in
    let e : Even b given = timed_even a now given (record { same = i.same; few = i.few }) in
    let f : Even (ticked a now).core (confirmed_in_tick ((ticked a now).given) given) = paced_even (pace_allows b.pace.last now) b (given_first b now b.waiting) given e (first_even b now b.waiting given refl e) in
    record { rests = ticked_rests a now i.rests; same = f.same; few = f.few }

accounts : (a : AnswererCore) (events : List CallEvent) → Account a [] → Account (after_events a events) (pages_confirmed a events)
accounts a [] i = i
accounts a (Comes piece now read ∷ before) i = comes_adds read (after_events a before) piece now (pages_confirmed a before) (accounts a before i)
accounts a (Ticks now ∷ before) i = tick_gives (after_events a before) now (pages_confirmed a before) (accounts a before i)

pub confirms_what_it_accepted : ConfirmsWhatItAccepted
confirms_what_it_accepted core start events =
    let i = accounts (rung core start) events (record { rests = tt; same = refl; few = omega arith }) in
    (i.same, i.few)
