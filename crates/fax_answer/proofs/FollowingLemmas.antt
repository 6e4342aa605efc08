-- The steps of a procedure are those of the core that it stands for.
use Rattle.std.proofs.Common.{◌≡◌, ◌⊎◌, inl, inr, ℕ, Bool, true, false, ◌&&◌, List, [], ◌∷◌, ◌++◌, Option, Some, None, refl, sym, ◌∙◌, ap, subst, if◌then◌else◌}
use Rattle.std.proofs.lemmas.List.{append-nil}
use Rattle.fax_ifp.specs.Pieces.{Piece}
use Rattle.fax_timers.specs.Paces.{PaceValue, pace_after, pace_allows}
use Rattle.fax_answer.specs.declared.timers.Timers.{Timers}
use Rattle.fax_answer.specs.declared.state.State.{State}
use Rattle.fax_answer.specs.declared.state.State.TheVariants.{Idle, Identify, Listen, Train, Page, Again, Closing}
use Rattle.fax_answer.specs.declared.pending.Pending.{Pending}
use Rattle.fax_answer.specs.declared.pending.Pending.TheVariants.{Nothing, Tone, Preamble, Frame}
use Rattle.fax_answer.specs.declared.pending.Reply.{Reply}
use Rattle.fax_answer.specs.declared.pending.Reply.TheVariants.{Dis}
use Rattle.fax_answer.specs.declared.procedure.Procedure.{Procedure}
use Rattle.fax_answer.specs.History.{Decision, PassesOver, Trains, HangsUp, GivesCfr, GivesFtt, GivesMcf, GivesRtn}
use Rattle.fax_answer.specs.Table.{state_after}
use Rattle.fax_answer.specs.Replies.{ConfirmedPage, WaitingPacket, confirmed_if, reply_to, silent, called_tone, preamble, is_preamble, is_waiting}
use Rattle.fax_answer.specs.Calls.{AnswererCore, TickResult, decided, timers_after, given_first, timed, timed_in, ticked, says_goodbye, identifies_again, identifies_anew, state_when_given, timers_when_given, is_closing}
use Rattle.fax_answer.specs.Rep.{counts_of}
use Rattle.fax_answer.specs.Pending.{packet_text, waiting_of, framed}
use Rattle.fax_answer.specs.Following.{Rests, Follows, CanDecide, confirmed_after, confirmed_with, confirmed_left, GivesNext, gives_now, gives_up, repeats_dis, begins_again}

-- WHAT WAITS
quiet_after : (d : Decision) (c : Option ConfirmedPage) (pending : Pending) → c ≡ None → waiting_of pending (confirmed_after d None) ≡ reply_to d → pending ≡ Nothing → confirmed_after d c ≡ None
quiet_after PassesOver c pending e h n = e
quiet_after (Trains dcs) c pending e h n = e
quiet_after HangsUp c pending e h n = e
quiet_after (GivesCfr dcs) c pending e h n = e
quiet_after GivesFtt c pending e h n = e
quiet_after (GivesMcf command None) c pending e h n = refl
quiet_after (GivesMcf command (Some page)) c pending e h n =
    let k : [] ≡ reply_to (GivesMcf command (Some page)) = sym (ap (λ (p : Pending). waiting_of p (confirmed_if command (Some page))) n) ∙ h' in cc
  where
    h' : waiting_of pending (confirmed_if command (Some page)) ≡ reply_to (GivesMcf command (Some page))
    h' = h
quiet_after GivesRtn c pending e h n = e

-- a decision where nothing waits
pub noted_free : (core : AnswererCore) (confirmed : Option ConfirmedPage) (old new : Procedure) (piece : Piece) (d : Decision) (now : ℕ) → Follows core confirmed old → CanDecide core d
    → old.pending ≡ Nothing → new.state ≡ state_after core.state d → new.counts ≡ counts_of (record { piece = piece; decision = d } ∷ core.history)
    → new.timers ≡ timers_after core piece d now → new.pace ≡ old.pace → waiting_of new.pending (confirmed_after d None) ≡ reply_to d
    → Follows (decided core piece d now) (confirmed_after d confirmed) new
noted_free core confirmed old new piece d now f can nothing state counts timers pace reply =
    let none : confirmed ≡ None = f.quiet nothing in
    let empty : core.waiting ≡ [] = sym f.waiting ∙ ap (λ (p : Pending). waiting_of p confirmed) nothing in
    record {
      state = state;
      counts = counts;
      waiting = ap (λ (c : Option ConfirmedPage). waiting_of new.pending (confirmed_after d c)) none ∙ reply ∙ sym (ap (λ (ws : List WaitingPacket). ws ++ reply_to d) empty);
      quiet = λ n. quiet_after d confirmed new.pending none reply n;
      timers = timers;
      pace = pace ∙ f.pace;
      rests = can.rests;
    }

some_waits : (pending : Pending) (c : Option ConfirmedPage) → (pending ≡ Nothing → ⊥) → waiting_of pending c ≡ [] → ⊥
some_waits Nothing c n h = n refl
some_waits Tone c n h = cc
some_waits (Preamble reply) c n h = cc
some_waits (Frame reply) c n h = cc

same_after : (d : Decision) (c : Option ConfirmedPage) → reply_to d ≡ [] → confirmed_after d c ≡ c
same_after PassesOver c h = refl
same_after (Trains dcs) c h = refl
same_after HangsUp c h = refl
same_after (GivesCfr dcs) c h = refl
same_after GivesFtt c h = refl
same_after (GivesMcf command page) c h = cc
same_after GivesRtn c h = refl

no_reply : (core : AnswererCore) (confirmed : Option ConfirmedPage) (old : Procedure) (d : Decision) → Follows core confirmed old → (old.pending ≡ Nothing → ⊥) → (core.waiting ≡ []) ⊎ (reply_to d ≡ []) → reply_to d ≡ []
no_reply core confirmed old d f n (inl e) = absurd (some_waits old.pending confirmed n (f.waiting ∙ e))
no_reply core confirmed old d f n (inr e) = e

-- a decision where a packet waits
pub noted_waiting : (core : AnswererCore) (confirmed : Option ConfirmedPage) (old new : Procedure) (piece : Piece) (d : Decision) (now : ℕ) → Follows core confirmed old → CanDecide core d
    → (old.pending ≡ Nothing → ⊥) → new.state ≡ state_after core.state d → new.counts ≡ counts_of (record { piece = piece; decision = d } ∷ core.history)
    → new.timers ≡ timers_after core piece d now → new.pace ≡ old.pace → new.pending ≡ old.pending
    → Follows (decided core piece d now) (confirmed_after d confirmed) new
noted_waiting core confirmed old new piece d now f can some state counts timers pace pending =
    let silent : reply_to d ≡ [] = no_reply core confirmed old d f some can.free in
    let same : confirmed_after d confirmed ≡ confirmed = same_after d confirmed silent in
    record {
      state = state;
      counts = counts;
      waiting = ap (λ (c : Option ConfirmedPage). waiting_of new.pending c) same ∙ ap (λ (p : Pending). waiting_of p confirmed) pending ∙ f.waiting ∙ sym (ap (λ (r : List WaitingPacket). core.waiting ++ r) silent ∙ append-nil core.waiting);
      quiet = λ n. absurd (some (sym pending ∙ n));
      timers = timers;
      pace = pace ∙ f.pace;
      rests = can.rests;
    }

-- TIMERS
abbrev chosen : Bool → Bool → Bool → AnswererCore → ℕ → AnswererCore
chosen b c d a now = if b then says_goodbye a else if c then identifies_again a else if d then identifies_anew a now else a

timed_in_is : (s : State) (a : AnswererCore) (now : ℕ) → timed_in s a now ≡ chosen (gives_up s a.timers now) (repeats_dis s a.timers now) (begins_again s a.timers now) a now
timed_in_is Idle a now = refl
timed_in_is Identify a now = refl
timed_in_is Listen a now = refl
timed_in_is (Train dcs) a now = refl
timed_in_is (Page dcs) a now = refl
timed_in_is Again a now = refl
timed_in_is Closing a now = refl

acts : (core : AnswererCore) (confirmed : Option ConfirmedPage) (old : Procedure) (now : ℕ) → Follows core confirmed old → old.pending ≡ Nothing →
    timed core now ≡ chosen (gives_up old.state old.timers now) (repeats_dis old.state old.timers now) (begins_again old.state old.timers now) core now
acts core confirmed old now f nothing =
    let empty : core.waiting ≡ [] = sym f.waiting ∙ ap (λ (p : Pending). waiting_of p confirmed) nothing in
    ap (λ (ws : List WaitingPacket). if is_waiting ws then core else timed_in core.state core now) empty
    ∙ timed_in_is core.state core now
    ∙ ap (λ (s : State). chosen (gives_up s core.timers now) (repeats_dis s core.timers now) (begins_again s core.timers now) core now) (sym f.state)
    ∙ ap (λ (t : Timers). chosen (gives_up old.state t now) (repeats_dis old.state t now) (begins_again old.state t now) core now) (sym f.timers)

waits_on : (ws : List WaitingPacket) (x y : AnswererCore) → (ws ≡ [] → ⊥) → (if is_waiting ws then x else y) ≡ x
waits_on [] x y n = absurd (n refl)
waits_on (w ∷ ws) x y n = refl

pub acts_waiting : (core : AnswererCore) (confirmed : Option ConfirmedPage) (old : Procedure) (now : ℕ) → Follows core confirmed old → (old.pending ≡ Nothing → ⊥) → Follows (timed core now) confirmed old
acts_waiting core confirmed old now f some =
    subst (λ (a : AnswererCore). Follows a confirmed old) (sym (waits_on core.waiting core (timed_in core.state core now) (λ e. some_waits old.pending confirmed some (f.waiting ∙ e)))) f

pub acts_goodbye : (core : AnswererCore) (confirmed : Option ConfirmedPage) (old new : Procedure) (now : ℕ) → Follows core confirmed old → old.pending ≡ Nothing → gives_up old.state old.timers now ≡ true
    → Follows (says_goodbye core) confirmed new → Follows (timed core now) confirmed new
acts_goodbye core confirmed old new now f nothing up g =
    subst (λ (a : AnswererCore). Follows a confirmed new) (sym (acts core confirmed old now f nothing ∙ ap (λ (b : Bool). chosen b (repeats_dis old.state old.timers now) (begins_again old.state old.timers now) core now) up)) g

pub acts_again : (core : AnswererCore) (confirmed : Option ConfirmedPage) (old new : Procedure) (now : ℕ) → Follows core confirmed old → old.pending ≡ Nothing → gives_up old.state old.timers now ≡ false → repeats_dis old.state old.timers now ≡ true
    → Follows (identifies_again core) confirmed new → Follows (timed core now) confirmed new
acts_again core confirmed old new now f nothing up again g =
    subst (λ (a : AnswererCore). Follows a confirmed new) (sym (acts core confirmed old now f nothing ∙ ap (λ (b : Bool). chosen b (repeats_dis old.state old.timers now) (begins_again old.state old.timers now) core now) up ∙ ap (λ (b : Bool). chosen false b (begins_again old.state old.timers now) core now) again)) g

pub acts_anew : (core : AnswererCore) (confirmed : Option ConfirmedPage) (old new : Procedure) (now : ℕ) → Follows core confirmed old → old.pending ≡ Nothing → gives_up old.state old.timers now ≡ false → repeats_dis old.state old.timers now ≡ false → begins_again old.state old.timers now ≡ true
    → Follows (identifies_anew core now) confirmed new → Follows (timed core now) confirmed new
acts_anew core confirmed old new now f nothing up again anew g =
    subst (λ (a : AnswererCore). Follows a confirmed new) (sym (acts core confirmed old now f nothing ∙ ap (λ (b : Bool). chosen b (repeats_dis old.state old.timers now) (begins_again old.state old.timers now) core now) up ∙ ap (λ (b : Bool). chosen false b (begins_again old.state old.timers now) core now) again ∙ ap (λ (b : Bool). chosen false false b core now) anew)) g

pub acts_none : (core : AnswererCore) (confirmed : Option ConfirmedPage) (old : Procedure) (now : ℕ) → Follows core confirmed old → old.pending ≡ Nothing → gives_up old.state old.timers now ≡ false → repeats_dis old.state old.timers now ≡ false → begins_again old.state old.timers now ≡ false
    → Follows (timed core now) confirmed old
acts_none core confirmed old now f nothing up again anew =
    subst (λ (a : AnswererCore). Follows a confirmed old) (sym (acts core confirmed old now f nothing ∙ ap (λ (b : Bool). chosen b (repeats_dis old.state old.timers now) (begins_again old.state old.timers now) core now) up ∙ ap (λ (b : Bool). chosen false b (begins_again old.state old.timers now) core now) again ∙ ap (λ (b : Bool). chosen false false b core now) anew)) f

-- PACKETS
fewer : (s : State) (w v : WaitingPacket) (ws : List WaitingPacket) → Rests s (w ∷ v ∷ ws) → Rests s (v ∷ ws)
fewer Idle w v ws r = cc
fewer Identify w v ws r = tt
fewer Listen w v ws r = tt
fewer (Train d) w v ws r = cc
fewer (Page d) w v ws r = tt
fewer Again w v ws r = tt
fewer Closing w v ws r = tt

-- a packet after which another waits
given_more : (core : AnswererCore) (confirmed : Option ConfirmedPage) (old : Procedure) (now : ℕ) (next : Pending) (w v : WaitingPacket) (ws : List WaitingPacket) → Follows core confirmed old
    → waiting_of old.pending confirmed ≡ w ∷ v ∷ ws → waiting_of next confirmed ≡ v ∷ ws → (next ≡ Nothing → ⊥)
    → let new : Procedure = record { state = old.state; counts = old.counts; pending = next; timers = old.timers; pace = pace_after (is_preamble w.packet) old.pace now } in
    let t : TickResult = given_first core now core.waiting in
    Follows t.core confirmed new × (t.given ≡ Some w) × (t.ended ≡ false)
given_more core confirmed old now next w v ws f here after some =
    let new : Procedure = record { state = old.state; counts = old.counts; pending = next; timers = old.timers; pace = pace_after (is_preamble w.packet) old.pace now } in
    let is : core.waiting ≡ w ∷ v ∷ ws = sym f.waiting ∙ here in
    let e : given_first core now core.waiting ≡ given_first core now (w ∷ v ∷ ws) = ap (given_first core now) is in
    let g : Follows (given_first core now (w ∷ v ∷ ws)).core confirmed new = record {
      state = f.state;
      counts = f.counts;
      waiting = after;
      quiet = λ n. absurd (some n);
      timers = f.timers;
      pace = ap (λ (p : PaceValue). pace_after (is_preamble w.packet) p now) f.pace;
      rests = fewer core.state w v ws (subst (Rests core.state) is f.rests);
    } in
    (subst (λ (t : TickResult). Follows t.core confirmed new) (sym e) g, ap (λ (t : TickResult). t.given) e, ap (λ (t : TickResult). t.ended) e)

pub gives_tone : (core : AnswererCore) (confirmed : Option ConfirmedPage) (old : Procedure) (now : ℕ) → Follows core confirmed old → old.pending ≡ Tone
    → GivesNext core confirmed now old (record { state = old.state; counts = old.counts; pending = Preamble Dis; timers = old.timers; pace = pace_after false old.pace now }) false
gives_tone core confirmed old now f e =
    let g = given_more core confirmed old now (Preamble Dis) (silent called_tone) (silent preamble) (framed Dis confirmed) f (ap (λ (p : Pending). waiting_of p confirmed) e) refl (λ n. cc) in
    record {
      follows = g.0;
      given = g.1 ∙ sym (ap (λ (p : Pending). let w : WaitingPacket = record { packet = packet_text p; confirmed = None } in Some w) e);
      ends = sym g.2;
    }

pub gives_preamble : (core : AnswererCore) (confirmed : Option ConfirmedPage) (old : Procedure) (now : ℕ) (reply : Reply) → Follows core confirmed old → old.pending ≡ Preamble reply
    → GivesNext core confirmed now old (record { state = old.state; counts = old.counts; pending = Frame reply; timers = old.timers; pace = pace_after true old.pace now }) false
gives_preamble core confirmed old now reply f e =
    let g = given_more core confirmed old now (Frame reply) (silent preamble) (record { packet = packet_text (Frame reply); confirmed = confirmed }) [] f (ap (λ (p : Pending). waiting_of p confirmed) e) refl (λ n. cc) in
    record {
      follows = g.0;
      given = g.1 ∙ sym (ap (λ (p : Pending). let w : WaitingPacket = record { packet = packet_text p; confirmed = None } in Some w) e);
      ends = sym g.2;
    }

given_rests : (s : State) → Rests (state_when_given s) []
given_rests Idle = refl
given_rests Identify = tt
given_rests Listen = tt
given_rests (Train d) = refl
given_rests (Page d) = tt
given_rests Again = tt
given_rests Closing = refl

pub gives_frame : (core : AnswererCore) (confirmed : Option ConfirmedPage) (old new : Procedure) (now : ℕ) (reply : Reply) (ended : Bool) → Follows core confirmed old → old.pending ≡ Frame reply
    → new.state ≡ state_when_given old.state → new.counts ≡ old.counts → new.pending ≡ Nothing → new.pace ≡ pace_after false old.pace now
    → new.timers ≡ timers_when_given old.state old.timers now → ended ≡ is_closing old.state
    → GivesNext core confirmed now old new ended
gives_frame core confirmed old new now reply ended f e state counts pending pace timers ends =
    let w : WaitingPacket = record { packet = packet_text (Frame reply); confirmed = confirmed } in
    let is : core.waiting ≡ w ∷ [] = sym f.waiting ∙ ap (λ (p : Pending). waiting_of p confirmed) e in
    let t : given_first core now core.waiting ≡ given_first core now (w ∷ []) = ap (given_first core now) is in
    let g : Follows (given_first core now (w ∷ [])).core None new = record {
      state = state ∙ ap state_when_given f.state;
      counts = counts ∙ f.counts;
      waiting = ap (λ (p : Pending). waiting_of p None) pending;
      quiet = λ n. refl;
      timers = timers ∙ ap (λ (s : State). timers_when_given s old.timers now) f.state ∙ ap (λ (x : Timers). timers_when_given core.state x now) f.timers;
      pace = pace ∙ ap (λ (p : PaceValue). pace_after false p now) f.pace;
      rests = given_rests core.state;
    } in
    let left : confirmed_left new.pending confirmed ≡ None = ap (λ (p : Pending). confirmed_left p confirmed) pending in
    record {
      follows = subst (λ (c : Option ConfirmedPage). Follows (given_first core now core.waiting).core c new) (sym left) (subst (λ (x : TickResult). Follows x.core None new) (sym t) g);
      given = ap (λ (x : TickResult). x.given) t
          ∙ ap (λ (c : Option ConfirmedPage). let v : WaitingPacket = record { packet = packet_text (Frame reply); confirmed = c } in Some v) (sym (ap (λ (p : Pending). confirmed_with p confirmed) pending))
          ∙ sym (ap (λ (p : Pending). let v : WaitingPacket = record { packet = packet_text p; confirmed = confirmed_with new.pending confirmed } in Some v) e);
      ends = ends ∙ ap is_closing f.state ∙ sym (ap (λ (x : TickResult). x.ended) t);
    }

-- A TICK
abbrev rest : AnswererCore → TickResult
rest a = record { core = a; given = None; ended = false }

rests_or_gives : (a : AnswererCore) (now : ℕ) (ws : List WaitingPacket) (b : Bool) → a.waiting ≡ ws → (is_waiting ws && b) ≡ false → if◌then◌else◌ {A = TickResult} b (given_first a now ws) (rest a) ≡ rest a
rests_or_gives a now [] true e h = refl
rests_or_gives a now [] false e h = refl
rests_or_gives a now (w ∷ ws) true e h = cc
rests_or_gives a now (w ∷ ws) false e h = refl

pub ticked_rests : (core : AnswererCore) (now : ℕ) → gives_now (timed core now) now ≡ false → ticked core now ≡ rest (timed core now)
ticked_rests core now h = let a : AnswererCore = timed core now in rests_or_gives a now a.waiting (pace_allows a.pace.last now) refl h

gives_both : (a : AnswererCore) (now : ℕ) (x b : Bool) (t : TickResult) → (x && b) ≡ true → if◌then◌else◌ {A = TickResult} b t (rest a) ≡ t
gives_both a now true true t h = refl
gives_both a now true false t h = cc
gives_both a now false b t h = cc

pub ticked_gives : (core : AnswererCore) (now : ℕ) → gives_now (timed core now) now ≡ true → ticked core now ≡ given_first (timed core now) now (timed core now).waiting
ticked_gives core now h = let a : AnswererCore = timed core now in gives_both a now (is_waiting a.waiting) (pace_allows a.pace.last now) (given_first a now a.waiting) h

-- timers leave the history
same_if : (b : Bool) (x y a : AnswererCore) → x.history ≡ a.history → y.history ≡ a.history → (if b then x else y).history ≡ a.history
same_if true x y a p q = p
same_if false x y a p q = q

pub timed_history : (a : AnswererCore) (now : ℕ) → (timed a now).history ≡ a.history
timed_history a now =
    same_if (is_waiting a.waiting) a (timed_in a.state a now) a refl
    (ap (λ (x : AnswererCore). x.history) (timed_in_is a.state a now)
    ∙ same_if (gives_up a.state a.timers now) (says_goodbye a) (if repeats_dis a.state a.timers now then identifies_again a else if begins_again a.state a.timers now then identifies_anew a now else a) a refl
    (same_if (repeats_dis a.state a.timers now) (identifies_again a) (if begins_again a.state a.timers now then identifies_anew a now else a) a refl
    (same_if (begins_again a.state a.timers now) (identifies_anew a now) a a refl refl)))

pub given_history : (a : AnswererCore) (now : ℕ) (ws : List WaitingPacket) → (given_first a now ws).core.history ≡ a.history
given_history a now [] = refl
given_history a now (w ∷ []) = refl
given_history a now (w ∷ v ∷ ws) = refl
