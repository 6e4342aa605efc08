-- A call of the calling leg that is on was heard lately; and so a long one is one that was heard often.
use Rattle.std.proofs.Common.{◌≡◌, ℕ, suc, ◌+◌, ◌-◌, ◌*◌, ◌<◌, ◌≤◌, ◌^◌, nat_le, Bool, true, false, not, ◌&&◌, ◌||◌, List, [], ◌∷◌, Option, Some, None, Result, Ok, Err, ◌⊎◌, inl, inr, refl, sym, ◌∙◌, ap, subst, arith, if◌then◌else◌}
use Rattle.std.proofs.Math.Nat.{suc-mul}
use Rattle.fax_udptl.specs.declared.fault.UdptlFault.{UdptlFault}
use Rattle.fax_udptl.specs.Datagrams.{DatagramValue, datagram_of}
use Rattle.fax_udptl.specs.Laws.{SlotsGoOn}
use Rattle.fax_timers.specs.Moments.{earlier}
use Rattle.fax_timers.specs.Paces.{PaceValue, allowed_from, pace_allows}
use Rattle.fax_timers.specs.Spans as spans
use Rattle.fax_ifp.specs.Pieces.{Piece}
use Rattle.fax_answer.specs.declared.state.State.{State}
use Rattle.fax_answer.specs.declared.state.State.TheVariants.{Idle}
use Rattle.fax_answer.specs.declared.timers.Timers.{Timers}
use Rattle.fax_answer.specs.History.{Decision, Entry, PassesOver, Trains, HangsUp, GivesCfr, GivesFtt, GivesMcf, GivesRtn}
use Rattle.fax_answer.specs.Table.{Reading, decision}
use Rattle.fax_answer.specs.Replies.{WaitingPacket, is_waiting}
use Rattle.fax_answer.specs.Calls.{AnswererCore, CallEvent, Comes, TickResult, after_event, after_events, given_first, is_heard, new_answering, rung, ticked}
use Rattle.fax_answer.specs.Readings.{comes_all}
use Rattle.fax_answer.specs.Silence as answer
use Rattle.fax_answer.specs.Silence.{AllUntil, IsPassedOver, NoCallHangs}
use Rattle.fax_call.specs.Writings.{Writing}
use Rattle.fax_gateway.specs.Setups.{Setup}
use Rattle.fax_gateway.specs.Events.{Event, Ring, FromCalling, FromCalled, Tick, Placed, Given, clock}
use Rattle.fax_gateway.specs.Legs.{decides, new_pieces}
use Rattle.fax_gateway.specs.CallingLegs.{CallingLeg, calling_after, calling_leg, core_of, is_idle, leg_ticked, leg_with, rung_leg}
use Rattle.fax_laws.specs.deadlines.Deadlines.{CallsAreHeardLately, IsInTime, IsPrompt, LongCallsAreHeard, deadline, deciding, heard_at, hears, is_passed_over, last_heard, longest_silence, wanted}
use Rattle.fax_laws.proofs.deadlines.LongestSilence.{silent_most}
use Rattle.fax_laws.proofs.deadlines.Prompts.{IsNear, comes_soon, near_begin, reached}
use Rattle.fax_laws.proofs.deadlines.SilentCalls.{IfKnown, IsFilled, Known, Stands, goes_on, known, no_pieces, reaches, ticks_on}

-- ---- PIECES of which none is heard

over_if : (d : Decision) → is_passed_over d ≡ true → d ≡ PassesOver
over_if PassesOver e = refl
over_if (Trains dcs) e = cc
over_if HangsUp e = cc
over_if (GivesCfr dcs) e = cc
over_if GivesFtt e = cc
over_if (GivesMcf command page) e = cc
over_if GivesRtn e = cc

both_false : (b c : Bool) → (not b || c) ≡ false → (b ≡ true) × (c ≡ false)
both_false true c e = (refl, e)
both_false false c e = cc

passed : (read : Reading) (a : AnswererCore) (piece : Piece) → hears read a piece ≡ false → IsPassedOver read a piece
passed read a piece e =
    let d : Decision = decision read a.state (is_waiting a.waiting) a.history piece in
    let both = both_false (is_passed_over d) (not (is_waiting a.waiting) && is_heard a.state piece) e in
    (over_if d both.0, both.1)

-- none of these, which come after others, is heard
abbrev AreUnheard : (begun : AnswererCore) → (now : ℕ) → Reading → List Piece → List CallEvent → Type 0
AreUnheard begun now read [] events = Unit {0}
AreUnheard begun now read (piece ∷ more) events =
    (hears read (after_events begun events) piece ≡ false) × AreUnheard begun now read more (Comes piece now read ∷ events)

-- they leave what was heard last; else that is now
abbrev HeardSo : (begun : AnswererCore) → (start now : ℕ) → Reading → List Piece → List CallEvent → Type 0
HeardSo begun start now read ps events =
    (last_heard begun start (comes_all ps now read events) ≡ now)
    ⊎ (AreUnheard begun now read ps events × (last_heard begun start (comes_all ps now read events) ≡ last_heard begun start events))

heard_first : (begun : AnswererCore) (start now : ℕ) (read : Reading) (piece : Piece) (more : List Piece) (events : List CallEvent) (b : Bool)
    → hears read (after_events begun events) piece ≡ b → HeardSo begun start now read more (Comes piece now read ∷ events) → HeardSo begun start now read (piece ∷ more) events
heard_first begun start now read piece more events b h (inl e) = inl e
heard_first begun start now read piece more events true h (inr u) =
    inl (u.1 ∙ ap (λ (c : Bool). if◌then◌else◌ {A = ℕ} c now (last_heard begun start events)) h)
heard_first begun start now read piece more events false h (inr u) =
    inr ((h, u.0), u.1 ∙ ap (λ (c : Bool). if◌then◌else◌ {A = ℕ} c now (last_heard begun start events)) h)

heard_so : (begun : AnswererCore) (start now : ℕ) (read : Reading) (ps : List Piece) (events : List CallEvent) → HeardSo begun start now read ps events
heard_so begun start now read [] events = inr (tt, refl)
heard_so begun start now read (piece ∷ more) events =
    heard_first begun start now read piece more events (hears read (after_events begun events) piece) refl
    (heard_so begun start now read more (Comes piece now read ∷ events))

-- and they are silence
fill_pieces : (a begun : AnswererCore) (from gap last now : ℕ) (read : Reading) (ps : List Piece) (events : List CallEvent) → AreUnheard begun now read ps events
    → IsFilled a from gap (after_events begun events) last → IsFilled a from gap (after_events begun (comes_all ps now read events)) last
fill_pieces a begun from gap last now read [] events u f = f
fill_pieces a begun from gap last now read (piece ∷ more) events u f =
    fill_pieces a begun from gap last now read more (Comes piece now read ∷ events) u.1
    (record {
      events = Comes piece now read ∷ f.events;
      core_is = ap (λ (c : AnswererCore). after_event c (Comes piece now read)) f.core_is;
      silence = (subst (λ (c : AnswererCore). IsPassedOver read c piece) (sym f.core_is) (passed read (after_events begun events) piece u.0), f.silence);
      last_is = f.last_is;
    })

-- ---- A CALL THAT IS OVER stays so in ticks

abbrev leg : State → List Entry → List WaitingPacket → Timers → PaceValue → AnswererCore
leg s h ws t p = record { state = s; history = h; waiting = ws; timers = t; pace = p }

rests_so : (c : Bool) (now : ℕ) (h : List Entry) (ws : List WaitingPacket) (t : Timers) (p : PaceValue)
    → (if◌then◌else◌ {A = TickResult} c (given_first (leg Idle h ws t p) now ws) (record { core = leg Idle h ws t p; given = None; ended = false })).core.state ≡ Idle
rests_so true now h [] t p = refl
rests_so true now h (w ∷ []) t p = refl
rests_so true now h (w ∷ v ∷ ws) t p = refl
rests_so false now h ws t p = refl

idle_ticks : (now : ℕ) (h : List Entry) (ws : List WaitingPacket) (t : Timers) (p : PaceValue) → (ticked (leg Idle h ws t p) now).core.state ≡ Idle
idle_ticks now h [] t p = rests_so (pace_allows p.last now) now h [] t p
idle_ticks now h (w ∷ ws) t p = rests_so (pace_allows p.last now) now h (w ∷ ws) t p

stays_idle : (a : AnswererCore) (now : ℕ) (s : State) → a.state ≡ s → is_idle s ≡ true → (ticked a now).core.state ≡ Idle
stays_idle a now s e i = ap (λ (x : State). (ticked (leg x a.history a.waiting a.timers a.pace) now).core.state) (e ∙ only_idle s i) ∙ idle_ticks now a.history a.waiting a.timers a.pace
  where
    only_idle : (s : State) → is_idle s ≡ true → s ≡ Idle
    only_idle Idle i = refl
    only_idle s i = cc

was_on : (a : AnswererCore) (now : ℕ) → is_idle (ticked a now).core.state ≡ false → is_idle a.state ≡ false
was_on a now on = by (is_idle a.state) refl
  where
    by : (b : Bool) → is_idle a.state ≡ b → b ≡ false
    by false e = refl
    by true e = let over : is_idle (ticked a now).core.state ≡ true = ap is_idle (stays_idle a now a.state refl e) in cc

-- ---- WHERE A CALL STANDS since it was heard last

record Held (setup : Setup) (writes : Writing) (gap from : ℕ) (trace : List Event) : Type 0 where
  first : CallingLeg
  begun : first.begun ≤ from
  pace : allowed_from first.before.pace.last ≤ first.begun + spans.longest_pause
  until : AllUntil from first.events
  stands : Stands setup writes (core_of first) from gap trace

the_leg : (x y : CallingLeg) → Some x ≡ Some y → x ≡ y
the_leg x y e = cc

no_leg : {P : Type 0} → (x : CallingLeg) → None ≡ Some x → P
no_leg x e = cc

-- it was heard now
held_now : (setup : Setup) (writes : Writing) (gap from : ℕ) (trace : List Event) (l : CallingLeg) → calling_leg setup trace ≡ Some l → from ≡ clock trace → Held setup writes gap from trace
held_now setup writes gap from trace l is at =
    let k : Known trace l = subst (IfKnown trace) is (known setup trace) in
    let same : clock trace ≡ from = sym at in
    let b : l.begun ≤ clock trace = k.begun in
    record {
      first = l;
      begun = omega arith;
      pace = k.pace;
      until = subst (λ (m : ℕ). AllUntil m l.events) same k.until;
      stands = record {
        l = l;
        is = is;
        last = from;
        filled = record { events = []; core_is = refl; silence = tt; last_is = refl };
        near = subst (λ (m : ℕ). IsNear (deadline setup writes trace) (clock trace) m) same (near_begin (deadline setup writes trace) (clock trace));
        after = omega arith;
        most = omega arith;
        soon = omega arith;
      };
    }

-- something came that was not heard
held_on : (setup : Setup) (writes : Writing) (gap from : ℕ) (e : Event) (past : List Event) (old new : CallingLeg) → clock (e ∷ past) < 2 ^ 64
    → IsInTime (deadline setup writes past) from gap (clock (e ∷ past))
    → deadline setup writes (e ∷ past) ≡ earlier (deadline setup writes past) (wanted setup writes (e ∷ past))
    → calling_leg setup past ≡ Some old → calling_leg setup (e ∷ past) ≡ Some new
    → ((a : AnswererCore) (last : ℕ) → IsFilled a from (gap + 1) (core_of old) last → IsFilled a from (gap + 1) (core_of new) last)
    → Held setup writes gap from past → Held setup writes gap from (e ∷ past)
held_on setup writes gap from e past old new few prompt same was is brings h =
    let s : Stands setup writes (core_of h.first) from gap past = h.stands in
    let its : s.l ≡ old = the_leg s.l old (sym s.is ∙ was) in
    record {
      first = h.first;
      begun = h.begun;
      pace = h.pace;
      until = h.until;
      stands = goes_on setup writes (core_of h.first) from gap e past few prompt same s new is
          (λ last f. brings (core_of h.first) last (subst (λ (x : CallingLeg). IsFilled (core_of h.first) from (gap + 1) (core_of x) last) its f));
    }

-- what is known of the call before an event
abbrev HeldBefore : Setup → Writing → (gap from : ℕ) → List Event → Type 0
HeldBefore setup writes gap from past = (l : CallingLeg) → calling_leg setup past ≡ Some l → is_idle (core_of l).state ≡ false → from ≡ heard_at l → Held setup writes gap from past

-- a datagram comes
held_with : (setup : Setup) (writes : Writing) (gap from : ℕ) (octets : List ℕ) (at : ℕ) (decided : Bool) (read : Reading) (past : List Event) (old new : CallingLeg) (r : Result DatagramValue UdptlFault)
    → clock (FromCalling octets at decided read ∷ past) < 2 ^ 64 → IsInTime (deadline setup writes past) from gap (clock (FromCalling octets at decided read ∷ past))
    → calling_leg setup past ≡ Some old → calling_leg setup (FromCalling octets at decided read ∷ past) ≡ Some new
    → leg_with old (clock (FromCalling octets at decided read ∷ past)) read r ≡ new → is_idle (core_of old).state ≡ false → from ≡ heard_at new
    → HeldBefore setup writes gap from past → Held setup writes gap from (FromCalling octets at decided read ∷ past)
held_with setup writes gap from octets at decided read past old new (Err fault) few prompt was is made on heard before =
    held_on setup writes gap from (FromCalling octets at decided read) past old new few prompt refl was is
    (λ a last f. subst (λ (x : CallingLeg). IsFilled a from (gap + 1) (core_of x) last) made f)
    (before old was on (heard ∙ ap heard_at (sym made)))
held_with setup writes gap from octets at decided read past old new (Ok d) few prompt was is made on heard before =
    by (heard_so (rung old.before old.begun) old.begun now read (new_pieces old.arrived d) old.events)
  where
    now : ℕ
    now = clock (FromCalling octets at decided read ∷ past)

    at_with : heard_at new ≡ last_heard (rung old.before old.begun) old.begun (comes_all (new_pieces old.arrived d) now read old.events)
    at_with = ap heard_at (sym made)

    by : HeardSo (rung old.before old.begun) old.begun now read (new_pieces old.arrived d) old.events → Held setup writes gap from (FromCalling octets at decided read ∷ past)
    by (inl e) = held_now setup writes gap from (FromCalling octets at decided read ∷ past) new is (heard ∙ at_with ∙ e)
    by (inr u) =
        held_on setup writes gap from (FromCalling octets at decided read) past old new few prompt refl was is
        (λ a last f. subst (λ (x : CallingLeg). IsFilled a from (gap + 1) (core_of x) last) made
        (fill_pieces a (rung old.before old.begun) from (gap + 1) last now read (new_pieces old.arrived d) old.events u.0 f))
        (before old was on (heard ∙ at_with ∙ u.1))

-- the call goes on
held_hearing : (setup : Setup) (writes : Writing) (gap from : ℕ) (octets : List ℕ) (at : ℕ) (decided : Bool) (read : Reading) (past : List Event) (old new : CallingLeg) (b : Bool)
    → clock (FromCalling octets at decided read ∷ past) < 2 ^ 64 → IsInTime (deadline setup writes past) from gap (clock (FromCalling octets at decided read ∷ past))
    → calling_leg setup past ≡ Some old → calling_leg setup (FromCalling octets at decided read ∷ past) ≡ Some new
    → is_idle (core_of old).state ≡ b
    → (if◌then◌else◌ {A = Option CallingLeg} b (Some old) (Some (leg_with old (clock (FromCalling octets at decided read ∷ past)) read (datagram_of octets)))) ≡ Some new
    → is_idle (core_of new).state ≡ false → from ≡ heard_at new
    → HeldBefore setup writes gap from past → Held setup writes gap from (FromCalling octets at decided read ∷ past)
held_hearing setup writes gap from octets at decided read past old new true few prompt was is idle made on heard before =
    let same : is_idle (core_of old).state ≡ false = ap (λ (x : CallingLeg). is_idle (core_of x).state) (the_leg old new made) ∙ on in cc
held_hearing setup writes gap from octets at decided read past old new false few prompt was is idle made on heard before =
    held_with setup writes gap from octets at decided read past old new (datagram_of octets) few prompt was is
    (the_leg (leg_with old (clock (FromCalling octets at decided read ∷ past)) read (datagram_of octets)) new made) idle heard before

held_ticking : (setup : Setup) (writes : Writing) (gap from at : ℕ) (given : Given) (past : List Event) (old new : CallingLeg) → clock (Tick at given ∷ past) < 2 ^ 64
    → IsInTime (deadline setup writes past) from gap (clock (Tick at given ∷ past)) → calling_leg setup past ≡ Some old → leg_ticked old (clock (Tick at given ∷ past)) ≡ new
    → is_idle (core_of new).state ≡ false → from ≡ heard_at new → HeldBefore setup writes gap from past → Held setup writes gap from (Tick at given ∷ past)
held_ticking setup writes gap from at given past old new few prompt was made on heard before =
    let now : ℕ = clock (Tick at given ∷ past) in
    let on_now : is_idle (ticked (core_of old) now).core.state ≡ false = ap (λ (x : CallingLeg). is_idle (core_of x).state) made ∙ on in
    let h : Held setup writes gap from past = before old was (was_on (core_of old) now on_now) (heard ∙ ap heard_at (sym made)) in
    record {
      first = h.first;
      begun = h.begun;
      pace = h.pace;
      until = h.until;
      stands = ticks_on setup writes (core_of h.first) from gap at given past few prompt h.stands;
    }

-- an event of the called leg
held_beside : (setup : Setup) (writes : Writing) (gap from : ℕ) (e : Event) (past : List Event) (l : CallingLeg) → clock (e ∷ past) < 2 ^ 64
    → IsInTime (deadline setup writes past) from gap (clock (e ∷ past))
    → deadline setup writes (e ∷ past) ≡ earlier (deadline setup writes past) (wanted setup writes (e ∷ past))
    → calling_leg setup past ≡ Some l → calling_leg setup (e ∷ past) ≡ Some l → is_idle (core_of l).state ≡ false → from ≡ heard_at l
    → HeldBefore setup writes gap from past → Held setup writes gap from (e ∷ past)
held_beside setup writes gap from e past l few prompt same was is on heard before =
    held_on setup writes gap from e past l l few prompt same was is (λ a last f. f) (before l was on heard)

held_after : (setup : Setup) (writes : Writing) (gap from : ℕ) (e : Event) (past : List Event) (leg : Option CallingLeg) (l : CallingLeg) → clock (e ∷ past) < 2 ^ 64
    → IsInTime (deadline setup writes past) from gap (clock (e ∷ past)) → calling_leg setup past ≡ leg → calling_leg setup (e ∷ past) ≡ Some l
    → calling_after setup leg (clock (e ∷ past)) e ≡ Some l → is_idle (core_of l).state ≡ false → from ≡ heard_at l
    → HeldBefore setup writes gap from past → Held setup writes gap from (e ∷ past)
held_after setup writes gap from (Ring at number) past None l few prompt was is made on heard before =
    held_now setup writes gap from (Ring at number ∷ past) l is (heard ∙ ap heard_at (sym (the_leg (rung_leg (new_answering setup.pause) (clock (Ring at number ∷ past)) number) l made)))
held_after setup writes gap from (Ring at number) past (Some old) l few prompt was is made on heard before =
    held_now setup writes gap from (Ring at number ∷ past) l is (heard ∙ ap heard_at (sym (the_leg (rung_leg (core_of old) (clock (Ring at number ∷ past)) number) l made)))
held_after setup writes gap from (FromCalling octets at decided read) past None l few prompt was is made on heard before = no_leg l made
held_after setup writes gap from (FromCalling octets at decided read) past (Some old) l few prompt was is made on heard before =
    held_hearing setup writes gap from octets at decided read past old l (is_idle (core_of old).state) few prompt was is refl made on heard before
held_after setup writes gap from (Tick at given) past None l few prompt was is made on heard before = no_leg l made
held_after setup writes gap from (Tick at given) past (Some old) l few prompt was is made on heard before =
    held_ticking setup writes gap from at given past old l few prompt was (the_leg (leg_ticked old (clock (Tick at given ∷ past))) l made) on heard before
held_after setup writes gap from (FromCalled octets at decided) past leg l few prompt was is made on heard before =
    held_beside setup writes gap from (FromCalled octets at decided) past l few prompt refl (was ∙ by leg made) is on heard before
  where
    by : (x : Option CallingLeg) → calling_after setup x (clock (FromCalled octets at decided ∷ past)) (FromCalled octets at decided) ≡ Some l → x ≡ Some l
    by None w = w
    by (Some y) w = w
held_after setup writes gap from (Placed at connected) past leg l few prompt was is made on heard before =
    held_beside setup writes gap from (Placed at connected) past l few prompt refl (was ∙ by leg made) is on heard before
  where
    by : (x : Option CallingLeg) → calling_after setup x (clock (Placed at connected ∷ past)) (Placed at connected) ≡ Some l → x ≡ Some l
    by None w = w
    by (Some y) w = w

held : (setup : Setup) (writes : Writing) (gap from : ℕ) (trace : List Event) → clock trace < 2 ^ 64 → IsPrompt setup writes gap from trace → HeldBefore setup writes gap from trace
held setup writes gap from [] few prompt l is on heard = no_leg l is
held setup writes gap from (e ∷ past) few prompt l is on heard =
    held_after setup writes gap from e past (calling_leg setup past) l few prompt.0 refl is is on heard
    (λ x was still at. held setup writes gap from past (omega arith) prompt.1 x was still at)

-- ---- THE BOUND

le_if : (m n : ℕ) → nat_le m n ≡ true → m ≤ n
le_if m n e = grind (arith)

lt_if : (m n : ℕ) → nat_le m n ≡ false → n < m
lt_if m n e = grind (arith)

up_to : (m l f s x : ℕ) → m ≤ l → l ≡ f + s → s ≤ x → m ≤ f + x
up_to m l f s x a b c = omega arith

adds : (k s h x g : ℕ) → k ≤ s + g → s ≤ h + x → k ≤ h + x + g
adds k s h x g a b = omega arith

adds_both : (k s h x g : ℕ) → k ≤ s + g → s ≤ h + x → k ≤ h + (x + g)
adds_both k s h x g a b = omega arith

-- ticks up to a moment, at which the call is not over
not_over : NoCallHangs → (setup : Setup) (writes : Writing) (gap from : ℕ) (trace : List Event) (h : Held setup writes gap from trace) (core : AnswererCore) (last : ℕ)
    → IsFilled (core_of h.first) from (gap + 1) core last → is_idle core.state ≡ false → last ≤ from + longest_silence (gap + 1)
not_over hangs setup writes gap from trace h core last f on = by (nat_le last limit) refl
  where
    limit : ℕ
    limit = from + answer.silent_time (gap + 1) (core_of h.first)

    most : answer.silent_time (gap + 1) (core_of h.first) ≤ longest_silence (gap + 1)
    most = silent_most h.first.before h.first.begun h.first.events (gap + 1)

    over : limit < last → is_idle core.state ≡ true
    over long =
        ap is_idle (ap (λ (a : AnswererCore). a.state) (sym f.core_is)
        ∙ hangs h.first.before h.first.begun from (gap + 1) h.first.events f.events h.pace h.begun h.until f.silence (subst (λ (m : ℕ). limit < m) (sym f.last_is) long))

    by : (b : Bool) → nat_le last limit ≡ b → last ≤ from + longest_silence (gap + 1)
    by true e = up_to last limit from (answer.silent_time (gap + 1) (core_of h.first)) (longest_silence (gap + 1)) (le_if last limit e) refl most
    by false e = let idle : is_idle core.state ≡ true = over (lt_if last limit e) in cc

its_state : (setup : Setup) (trace : List Event) (x l : CallingLeg) → calling_leg setup trace ≡ Some x → calling_leg setup trace ≡ Some l → is_idle (core_of l).state ≡ false → is_idle (core_of x).state ≡ false
its_state setup trace x l a b on = ap (λ (y : CallingLeg). is_idle (core_of y).state) (the_leg x l (sym a ∙ b)) ∙ on

pub heard_lately : NoCallHangs → CallsAreHeardLately
heard_lately hangs setup writes trace l gap t few is on prompt =
    let h : Held setup writes gap (heard_at l) trace = held setup writes gap (heard_at l) trace few prompt l is on refl in
    let s : Stands setup writes (core_of h.first) (heard_at l) gap trace = h.stands in
    adds (clock trace) s.last (heard_at l) (longest_silence (gap + 1)) (gap + 1) s.soon
    (not_over hangs setup writes gap (heard_at l) trace h (core_of s.l) s.last s.filled (its_state setup trace s.l l s.is is on))

-- the next event comes as soon
next_soon : NoCallHangs → (setup : Setup) (writes : Writing) (trace : List Event) (l : CallingLeg) (gap next : ℕ) → next < 2 ^ 64 → clock trace ≤ next → calling_leg setup trace ≡ Some l
    → is_idle (core_of l).state ≡ false → IsPrompt setup writes gap (heard_at l) trace → IsInTime (deadline setup writes trace) (heard_at l) gap next
    → next ≤ heard_at l + (longest_silence (gap + 1) + (gap + 1))
next_soon hangs setup writes trace l gap next few late is on prompt soon =
    let h : Held setup writes gap (heard_at l) trace = held setup writes gap (heard_at l) trace (omega arith) prompt l is on refl in
    let s : Stands setup writes (core_of h.first) (heard_at l) gap trace = h.stands in
    let last : ℕ = reached (deadline setup writes trace) s.last next in
    let f : IsFilled (core_of h.first) (heard_at l) (gap + 1) (core_of s.l) last =
    reaches setup writes trace s.l (core_of h.first) (heard_at l) gap s.last next s.is few s.near s.filled in
    adds_both next last (heard_at l) (longest_silence (gap + 1)) (gap + 1)
    (comes_soon (deadline setup writes trace) (clock trace) s.last next (heard_at l) gap s.near s.most late s.after soon)
    (not_over hangs setup writes gap (heard_at l) trace h (core_of s.l) last f (its_state setup trace s.l l s.is is on))

-- ---- PROMPT from a moment on, and so from each later one

in_time_later : (d : Option ℕ) (from later gap now : ℕ) → from ≤ later → IsInTime d from gap now → IsInTime d later gap now
in_time_later None from later gap now l i = tt
in_time_later (Some moment) from later gap now l i = omega arith

prompt_later : (setup : Setup) (writes : Writing) (gap from later : ℕ) (trace : List Event) → from ≤ later → IsPrompt setup writes gap from trace → IsPrompt setup writes gap later trace
prompt_later setup writes gap from later [] l p = tt
prompt_later setup writes gap from later (e ∷ past) l p =
    (in_time_later (deadline setup writes past) from later gap (clock (e ∷ past)) l p.0, prompt_later setup writes gap from later past l p.1)

-- ---- LONG CALLS

abbrev span : ℕ → ℕ
span gap = longest_silence (gap + 1) + (gap + 1)

-- what was heard last came after so many silences at most
record IsCounted (gap : ℕ) (l : CallingLeg) : Type 0 where
  after : l.begun ≤ heard_at l
  most : heard_at l ≤ l.begun + deciding l.arrived * span gap

abbrev CountedBefore : Setup → (gap : ℕ) → (begun : ℕ) → List Event → Type 0
CountedBefore setup gap begun past = (l : CallingLeg) → calling_leg setup past ≡ Some l → is_idle (core_of l).state ≡ false → l.begun ≡ begun → IsCounted gap l

at_most : (a b p : ℕ) → a ≡ b → (b ≤ a) × (a ≤ b + p)
at_most a b p e = (omega arith, omega arith)

counted_now : (gap : ℕ) (l : CallingLeg) → heard_at l ≡ l.begun → IsCounted gap l
counted_now gap l e = let m = at_most (heard_at l) l.begun (deciding l.arrived * span gap) e in record { after = m.0; most = m.1 }

more : (n s : ℕ) → (n + 1) * s ≡ n * s + s
more n s = let e : n + 1 ≡ suc n = omega arith in ap (λ (k : ℕ). k * s) e ∙ suc-mul n s

no_less : (a b c : ℕ) → b ≡ a + c → a ≤ b
no_less a b c e = omega arith

decides_more : (b : Bool) (n s : ℕ) → n * s ≤ (if◌then◌else◌ {A = ℕ} b (n + 1) n) * s
decides_more true n s = no_less (n * s) ((n + 1) * s) s (more n s)
decides_more false n s = no_less (n * s) (n * s) 0 (omega arith)

-- nothing was heard
kept_most : (b c g h p q : ℕ) → c ≡ b → h ≡ g → p ≤ q → b ≤ g → g ≤ b + p → (c ≤ h) × (h ≤ c + q)
kept_most b c g h p q e f l after most = (omega arith, omega arith)

counted_same : (gap : ℕ) (old new : CallingLeg) → new.begun ≡ old.begun → heard_at new ≡ heard_at old → deciding old.arrived * span gap ≤ deciding new.arrived * span gap → IsCounted gap old → IsCounted gap new
counted_same gap old new b h m c =
    let k = kept_most old.begun new.begun (heard_at old) (heard_at new) (deciding old.arrived * span gap) (deciding new.arrived * span gap) b h m c.after c.most in
    record { after = k.0; most = k.1 }

at_last : (a b c : ℕ) → a ≤ b → b ≤ c → a ≤ c
at_last a b c x y = omega arith

-- something was, at this moment
heard_most : (b c g h now p q s : ℕ) → c ≡ b → h ≡ now → b ≤ now → q ≡ p + s → g ≤ b + p → now ≤ g + s → (c ≤ h) × (h ≤ c + q)
heard_most b c g h now p q s e f late more most soon = (omega arith, omega arith)

counted_with : NoCallHangs → SlotsGoOn → (setup : Setup) (writes : Writing) (gap begun : ℕ) (octets : List ℕ) (at : ℕ) (decided : Bool) (read : Reading) (past : List Event) (old new : CallingLeg) (r : Result DatagramValue UdptlFault)
    → clock (FromCalling octets at decided read ∷ past) < 2 ^ 64 → IsPrompt setup writes gap begun (FromCalling octets at decided read ∷ past) → calling_leg setup past ≡ Some old
    → leg_with old (clock (FromCalling octets at decided read ∷ past)) read r ≡ new → is_idle (core_of old).state ≡ false → new.begun ≡ begun
    → CountedBefore setup gap begun past → IsCounted gap new
counted_with hangs go setup writes gap begun octets at decided read past old new (Err fault) few prompt was made on first before =
    subst (IsCounted gap) made (before old was on (ap (λ (x : CallingLeg). x.begun) made ∙ first))
counted_with hangs go setup writes gap begun octets at decided read past old new (Ok d) few prompt was made on first before = by (decides old.arrived d) refl
  where
    now : ℕ
    now = clock (FromCalling octets at decided read ∷ past)

    same_begun : new.begun ≡ old.begun
    same_begun = ap (λ (x : CallingLeg). x.begun) (sym made)

    its : IsCounted gap old
    its = before old was on (sym same_begun ∙ first)

    arrived : deciding new.arrived ≡ (if◌then◌else◌ {A = ℕ} (decides old.arrived d) (deciding old.arrived + 1) (deciding old.arrived))
    arrived = ap (λ (x : CallingLeg). deciding x.arrived) (sym made)

    at_with : heard_at new ≡ last_heard (rung old.before old.begun) old.begun (comes_all (new_pieces old.arrived d) now read old.events)
    at_with = ap heard_at (sym made)

    if_same : heard_at new ≡ heard_at old → IsCounted gap new
    if_same e =
        counted_same gap old new same_begun e
        (subst (λ (n : ℕ). deciding old.arrived * span gap ≤ n * span gap) (sym arrived) (decides_more (decides old.arrived d) (deciding old.arrived) (span gap))) its

    clocks : clock past ≤ clock (FromCalling octets at decided read ∷ past)
    clocks = omega arith

    late : old.begun ≤ now
    late =
        let k : Known past old = subst (IfKnown past) was (known setup past) in
        at_last old.begun (clock past) now k.begun clocks

    soon : now ≤ heard_at old + span gap
    soon =
        let after : begun ≤ heard_at old = subst (λ (m : ℕ). m ≤ heard_at old) (sym same_begun ∙ first) its.after in
        next_soon hangs setup writes past old gap now few clocks was on (prompt_later setup writes gap begun (heard_at old) past after prompt.1)
        (in_time_later (deadline setup writes past) begun (heard_at old) gap now after prompt.0)

    if_heard : decides old.arrived d ≡ true → HeardSo (rung old.before old.begun) old.begun now read (new_pieces old.arrived d) old.events → IsCounted gap new
    if_heard e (inr u) = if_same (at_with ∙ u.1)
    if_heard e (inl h) =
        let count : deciding new.arrived * span gap ≡ deciding old.arrived * span gap + span gap =
        ap (λ (n : ℕ). n * span gap) (arrived ∙ ap (λ (b : Bool). if◌then◌else◌ {A = ℕ} b (deciding old.arrived + 1) (deciding old.arrived)) e) ∙ more (deciding old.arrived) (span gap) in
        let k = heard_most old.begun new.begun (heard_at old) (heard_at new) now (deciding old.arrived * span gap) (deciding new.arrived * span gap) (span gap) same_begun (at_with ∙ h) late count its.most soon in
        record { after = k.0; most = k.1 }

    by : (b : Bool) → decides old.arrived d ≡ b → IsCounted gap new
    by false e = if_same (at_with ∙ ap (λ (ps : List Piece). last_heard (rung old.before old.begun) old.begun (comes_all ps now read old.events)) (no_pieces go old.arrived d e))
    by true e = if_heard e (heard_so (rung old.before old.begun) old.begun now read (new_pieces old.arrived d) old.events)

counted_hearing : NoCallHangs → SlotsGoOn → (setup : Setup) (writes : Writing) (gap begun : ℕ) (octets : List ℕ) (at : ℕ) (decided : Bool) (read : Reading) (past : List Event) (old new : CallingLeg) (b : Bool)
    → clock (FromCalling octets at decided read ∷ past) < 2 ^ 64 → IsPrompt setup writes gap begun (FromCalling octets at decided read ∷ past) → calling_leg setup past ≡ Some old
    → is_idle (core_of old).state ≡ b
    → (if◌then◌else◌ {A = Option CallingLeg} b (Some old) (Some (leg_with old (clock (FromCalling octets at decided read ∷ past)) read (datagram_of octets)))) ≡ Some new
    → is_idle (core_of new).state ≡ false → new.begun ≡ begun → CountedBefore setup gap begun past → IsCounted gap new
counted_hearing hangs go setup writes gap begun octets at decided read past old new true few prompt was idle made on first before =
    let same : is_idle (core_of old).state ≡ false = ap (λ (x : CallingLeg). is_idle (core_of x).state) (the_leg old new made) ∙ on in cc
counted_hearing hangs go setup writes gap begun octets at decided read past old new false few prompt was idle made on first before =
    counted_with hangs go setup writes gap begun octets at decided read past old new (datagram_of octets) few prompt was
    (the_leg (leg_with old (clock (FromCalling octets at decided read ∷ past)) read (datagram_of octets)) new made) idle first before

counted_ticking : (setup : Setup) (gap begun now : ℕ) (past : List Event) (old new : CallingLeg) → calling_leg setup past ≡ Some old → leg_ticked old now ≡ new → is_idle (core_of new).state ≡ false
    → new.begun ≡ begun → CountedBefore setup gap begun past → IsCounted gap new
counted_ticking setup gap begun now past old new was made on first before =
    let on_now : is_idle (ticked (core_of old) now).core.state ≡ false = ap (λ (x : CallingLeg). is_idle (core_of x).state) made ∙ on in
    let its : IsCounted gap old = before old was (was_on (core_of old) now on_now) (ap (λ (x : CallingLeg). x.begun) made ∙ first) in
    subst (IsCounted gap) made (record { after = its.after; most = its.most })

counted_after : NoCallHangs → SlotsGoOn → (setup : Setup) (writes : Writing) (gap begun : ℕ) (e : Event) (past : List Event) (leg : Option CallingLeg) (l : CallingLeg) → clock (e ∷ past) < 2 ^ 64
    → IsPrompt setup writes gap begun (e ∷ past) → calling_leg setup past ≡ leg → calling_after setup leg (clock (e ∷ past)) e ≡ Some l → is_idle (core_of l).state ≡ false → l.begun ≡ begun
    → CountedBefore setup gap begun past → IsCounted gap l
counted_after hangs go setup writes gap begun (Ring at number) past None l few prompt was made on first before =
    counted_now gap l (subst (λ (x : CallingLeg). heard_at x ≡ x.begun) (the_leg (rung_leg (new_answering setup.pause) (clock (Ring at number ∷ past)) number) l made) refl)
counted_after hangs go setup writes gap begun (Ring at number) past (Some old) l few prompt was made on first before =
    counted_now gap l (subst (λ (x : CallingLeg). heard_at x ≡ x.begun) (the_leg (rung_leg (core_of old) (clock (Ring at number ∷ past)) number) l made) refl)
counted_after hangs go setup writes gap begun (FromCalling octets at decided read) past None l few prompt was made on first before = no_leg l made
counted_after hangs go setup writes gap begun (FromCalling octets at decided read) past (Some old) l few prompt was made on first before =
    counted_hearing hangs go setup writes gap begun octets at decided read past old l (is_idle (core_of old).state) few prompt was refl made on first before
counted_after hangs go setup writes gap begun (Tick at given) past None l few prompt was made on first before = no_leg l made
counted_after hangs go setup writes gap begun (Tick at given) past (Some old) l few prompt was made on first before =
    counted_ticking setup gap begun (clock (Tick at given ∷ past)) past old l was (the_leg (leg_ticked old (clock (Tick at given ∷ past))) l made) on first before
counted_after hangs go setup writes gap begun (FromCalled octets at decided) past None l few prompt was made on first before = no_leg l made
counted_after hangs go setup writes gap begun (FromCalled octets at decided) past (Some old) l few prompt was made on first before = before l (was ∙ made) on first
counted_after hangs go setup writes gap begun (Placed at connected) past None l few prompt was made on first before = no_leg l made
counted_after hangs go setup writes gap begun (Placed at connected) past (Some old) l few prompt was made on first before = before l (was ∙ made) on first

counted : NoCallHangs → SlotsGoOn → (setup : Setup) (writes : Writing) (gap begun : ℕ) (trace : List Event) → clock trace < 2 ^ 64 → IsPrompt setup writes gap begun trace → CountedBefore setup gap begun trace
counted hangs go setup writes gap begun [] few prompt l is on first = no_leg l is
counted hangs go setup writes gap begun (e ∷ past) few prompt l is on first =
    counted_after hangs go setup writes gap begun e past (calling_leg setup past) l few prompt refl is on first
    (λ x was still at. counted hangs go setup writes gap begun past (omega arith) prompt.1 x was still at)

ends : (k h b p q x y : ℕ) → k ≤ h + x + y → h ≤ b + p → q ≡ p + (x + y) → k ≤ b + q
ends k h b p q x y l m e = omega arith

pub long_are_heard : NoCallHangs → SlotsGoOn → LongCallsAreHeard
long_are_heard hangs go setup writes trace l gap t few is on prompt =
    let c : IsCounted gap l = counted hangs go setup writes gap l.begun trace few prompt l is on refl in
    ends (clock trace) (heard_at l) l.begun (deciding l.arrived * span gap) ((deciding l.arrived + 1) * span gap) (longest_silence (gap + 1)) (gap + 1)
    (heard_lately hangs setup writes trace l gap t few is on (prompt_later setup writes gap l.begun (heard_at l) trace c.after prompt)) c.most (more (deciding l.arrived) (span gap))
