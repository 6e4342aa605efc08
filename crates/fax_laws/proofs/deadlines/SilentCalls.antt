-- Silent calls of the calling leg end.
use Rattle.std.proofs.Common.{◌≡◌, ℕ, zero, suc, ◌+◌, ◌-◌, ◌<◌, ◌≤◌, ◌^◌, nat_le, nat_lt, Bool, true, false, List, [], ◌∷◌, ◌++◌, reverse, length, drop, Option, Some, None, Result, Ok, Err, refl, sym, ◌∙◌, ap, subst, arith, length-append, if◌then◌else◌}
use Rattle.std.proofs.lemmas.List.{reverse-append, length-reverse, drop_all}
use Rattle.fax_udptl.specs.declared.fault.UdptlFault.{UdptlFault}
use Rattle.fax_udptl.specs.Datagrams.{DatagramValue, datagram_of}
use Rattle.fax_udptl.specs.Slots.{newest_slots, slots}
use Rattle.fax_udptl.specs.Laws.{SlotsGoOn}
use Rattle.fax_timers.specs.Moments.{earlier}
use Rattle.fax_timers.specs.Paces.{allowed_from}
use Rattle.fax_timers.specs.Spans as spans
use Rattle.fax_ifp.specs.Pieces.{Piece, pieces}
use Rattle.fax_answer.specs.declared.state.State.TheVariants.{Idle}
use Rattle.fax_answer.specs.Table.{Reading}
use Rattle.fax_answer.specs.Calls.{AnswererCore, CallEvent, Comes, Ticks, TickResult, after_events, rung, ticked}
use Rattle.fax_answer.specs.Readings.{comes_all}
use Rattle.fax_answer.specs.Due.{due_at, untouched}
use Rattle.fax_answer.specs.Silence as answer
use Rattle.fax_answer.specs.Silence.{AllUntil, IsSilence, NoCallHangs}
use Rattle.fax_call.specs.Writings.{Writing}
use Rattle.fax_gateway.specs.Setups.{Setup}
use Rattle.fax_gateway.specs.Events.{Event, Ring, FromCalling, FromCalled, Tick, Placed, Given, clock}
use Rattle.fax_gateway.specs.Legs.{decided_by, decides, new_pieces}
use Rattle.fax_gateway.specs.CallingLegs.{CallingLeg, calling_after, decided_calling, calling_leg, core_of, idle_after, is_idle, leg_ticked, leg_with}
use Rattle.fax_gateway.specs.BothLegs.{book_of, both_legs}
use Rattle.fax_gateway.specs.Due as gateway
use Rattle.fax_gateway.specs.Due.{called_due, calling_due}
use Rattle.fax_gateway.specs.Traces.{IsTrace}
use Rattle.fax_answer.proofs.DueLemmas.{rests_before}
use Rattle.fax_answer.proofs.Silence.{IsPaced, until_paced}
use Rattle.fax_laws.specs.deadlines.Deadlines.{IsInTime, IsPrompt, IsQuiet, SilentCallsEnd, deadline, wanted}
use Rattle.fax_laws.proofs.deadlines.Prompts.{IsBefore, IsNear, before_due, before_left, between, comes_soon, near_begin, near_next, near_tick, not_due, reached, reached_most, upto, upto_most}

-- ---- A DATAGRAM THAT DECIDES NO SLOT has no pieces

longer : (n k more : ℕ) → k ≡ more + 1 + n → nat_lt n k ≡ false → ⊥
longer n k more e h = grind (arith)

count_with : (x : Option (List ℕ)) (more s : List (Option (List ℕ))) → length (reverse (x ∷ more) ++ s) ≡ length more + 1 + length s
count_with x more s =
    let both : length (reverse (x ∷ more) ++ s) ≡ length (reverse (x ∷ more)) + length s = length-append (reverse (x ∷ more)) s in
    let front : length (reverse (x ∷ more)) ≡ suc (length more) = length-reverse (x ∷ more) in
    omega arith

newest_with : (arrived : List DatagramValue) (d : DatagramValue) (more : List (Option (List ℕ))) → slots (d ∷ arrived) ≡ slots arrived ++ more → newest_slots (d ∷ arrived) ≡ reverse more ++ newest_slots arrived
unfolding newest_slots
newest_with arrived d more e = ap (λ (s : List (Option (List ℕ))). reverse s) e ∙ reverse-append (slots arrived) more

same_if : (arrived : List DatagramValue) (d : DatagramValue) (more : List (Option (List ℕ))) → slots (d ∷ arrived) ≡ slots arrived ++ more → decides arrived d ≡ false → newest_slots (d ∷ arrived) ≡ newest_slots arrived
unfolding decides
same_if arrived d [] e none = newest_with arrived d [] e
same_if arrived d (x ∷ more) e none =
    let count : length (newest_slots (d ∷ arrived)) ≡ length more + 1 + length (newest_slots arrived) =
    ap (λ (s : List (Option (List ℕ))). length s) (newest_with arrived d (x ∷ more) e) ∙ count_with x more (newest_slots arrived) in
    absurd (longer (length (newest_slots arrived)) (length (newest_slots (d ∷ arrived))) (length more) count none)

same_newest : SlotsGoOn → (arrived : List DatagramValue) (d : DatagramValue) → decides arrived d ≡ false → newest_slots (d ∷ arrived) ≡ newest_slots arrived
same_newest go arrived d none = let m = go d arrived in same_if arrived d m.0 m.1 none

pub no_pieces : SlotsGoOn → (arrived : List DatagramValue) (d : DatagramValue) → decides arrived d ≡ false → new_pieces arrived d ≡ []
unfolding new_pieces
no_pieces go arrived d none =
    let before : List Piece = pieces (newest_slots arrived) in
    ap (λ (s : List (Option (List ℕ))). drop (length before) (pieces s)) (same_newest go arrived d none) ∙ drop_all (length before) before (omega arith)

-- ---- WHAT IS KNOWN of the calling leg after a trace

pub record Known (trace : List Event) (l : CallingLeg) : Type 0 where
  pub begun : l.begun ≤ clock trace
  pub pace : allowed_from l.before.pace.last ≤ l.begun + spans.longest_pause
  pub until : AllUntil (clock trace) l.events

abbrev pub IfKnown : List Event → Option CallingLeg → Type 0
IfKnown trace None = Unit {0}
IfKnown trace (Some l) = Known trace l

until_later : (x y : ℕ) (events : List CallEvent) → x ≤ y → AllUntil x events → AllUntil y events
until_later x y [] h u = tt
until_later x y (Comes piece now read ∷ before) h u = let n : now ≤ x = u.0 in (omega arith, until_later x y before h u.1)
until_later x y (Ticks now ∷ before) h u = let n : now ≤ x = u.0 in (omega arith, until_later x y before h u.1)

stays : (e : Event) (earlier : List Event) (l : CallingLeg) → Known earlier l → Known (e ∷ earlier) l
stays e earlier l k =
    let b : l.begun ≤ clock earlier = k.begun in
    record { begun = omega arith; pace = k.pace; until = until_later (clock earlier) (clock (e ∷ earlier)) l.events (omega arith) k.until }

comes_until : (ps : List Piece) (now from : ℕ) (read : Reading) (events : List CallEvent) → now ≤ from → AllUntil from events → AllUntil from (comes_all ps now read events)
comes_until [] now from read events h u = u
comes_until (p ∷ ps) now from read events h u = comes_until ps now from read (Comes p now read ∷ events) h (h, u)

with_known : (trace : List Event) (l : CallingLeg) (read : Reading) (r : Result DatagramValue UdptlFault) → Known trace l → Known trace (leg_with l (clock trace) read r)
with_known trace l read (Err fault) k = k
with_known trace l read (Ok d) k =
    record { begun = k.begun; pace = k.pace; until = comes_until (new_pieces l.arrived d) (clock trace) (clock trace) read l.events (omega arith) k.until }

hears_known : (octets : List ℕ) (at : ℕ) (decided : Bool) (read : Reading) (earlier : List Event) (l : CallingLeg) → Known earlier l → (b : Bool)
    → IfKnown (FromCalling octets at decided read ∷ earlier) (if◌then◌else◌ {A = Option CallingLeg} b (Some l) (Some (leg_with l (clock (FromCalling octets at decided read ∷ earlier)) read (datagram_of octets))))
hears_known octets at decided read earlier l k true = stays (FromCalling octets at decided read) earlier l k
hears_known octets at decided read earlier l k false =
    with_known (FromCalling octets at decided read ∷ earlier) l read (datagram_of octets) (stays (FromCalling octets at decided read) earlier l k)

known_after : (setup : Setup) (e : Event) (earlier : List Event) (leg : Option CallingLeg) → IfKnown earlier leg → IfKnown (e ∷ earlier) (calling_after setup leg (clock (e ∷ earlier)) e)
known_after setup (Ring at number) earlier None k = record { begun = omega arith; pace = omega arith; until = tt }
known_after setup (Ring at number) earlier (Some l) k =
    let b : l.begun ≤ clock earlier = k.begun in
    let p : IsPaced (clock (Ring at number ∷ earlier)) (core_of l) =
    until_paced l.before l.begun (clock (Ring at number ∷ earlier)) l.events k.pace (omega arith) (until_later (clock earlier) (clock (Ring at number ∷ earlier)) l.events (omega arith) k.until) in
    record { begun = omega arith; pace = p; until = tt }
known_after setup (FromCalling octets at decided read) earlier None k = tt
known_after setup (FromCalling octets at decided read) earlier (Some l) k = hears_known octets at decided read earlier l k (is_idle (core_of l).state)
known_after setup (Tick at given) earlier None k = tt
known_after setup (Tick at given) earlier (Some l) k =
    let o : Known (Tick at given ∷ earlier) l = stays (Tick at given) earlier l k in
    record { begun = o.begun; pace = o.pace; until = (omega arith, o.until) }
known_after setup (FromCalled octets at decided) earlier None k = tt
known_after setup (FromCalled octets at decided) earlier (Some l) k = stays (FromCalled octets at decided) earlier l k
known_after setup (Placed at connected) earlier None k = tt
known_after setup (Placed at connected) earlier (Some l) k = stays (Placed at connected) earlier l k

pub known : (setup : Setup) (trace : List Event) → IfKnown trace (calling_leg setup trace)
known setup [] = tt
known setup (e ∷ earlier) = known_after setup e earlier (calling_leg setup earlier) (known setup earlier)

-- ---- TICKS IN BETWEEN: `last` is the last of them, by which the call is as it was

-- ticks of which the core is that one
pub record IsFilled (a : AnswererCore) (from gap : ℕ) (core : AnswererCore) (last : ℕ) : Type 0 where
  pub events : List CallEvent
  pub core_is : after_events a events ≡ core
  pub silence : IsSilence a gap from events
  pub last_is : answer.last_tick from events ≡ last

fill : (a : AnswererCore) (from gap last n : ℕ) (core : AnswererCore) → 1 ≤ gap → ((y : ℕ) → last < y → y ≤ last + n → ticked core y ≡ untouched core) → IsFilled a from gap core last → IsFilled a from gap core (last + n)
fill a from gap last zero core g rests f = subst (IsFilled a from gap core) (none last) f
  where
    none : (x : ℕ) → x ≡ x + 0
    none x = omega arith
fill a from gap last (suc n) core g rests f =
    let k : IsFilled a from gap core (last + n) = fill a from gap last n core g (λ y b c. rests y b (omega arith)) f in
    let at : ℕ = last + suc n in
    let was : answer.last_tick from k.events ≡ last + n = k.last_is in
    record {
      events = Ticks at ∷ k.events;
      core_is = ap (λ (c : AnswererCore). (ticked c at).core) k.core_is ∙ ap (λ (t : TickResult). t.core) (rests at (omega arith) (omega arith));
      silence = (omega arith, omega arith, k.silence);
      last_is = refl;
    }

-- between the clock and the deadline a tick leaves the call as it is
leg_rests : (setup : Setup) (writes : Writing) (trace : List Event) (l : CallingLeg) (now : ℕ) → calling_leg setup trace ≡ Some l → now < 2 ^ 64 → clock trace < now
    → IsBefore now (deadline setup writes trace) → ticked (core_of l) now ≡ untouched (core_of l)
leg_rests setup writes trace l now is few late h =
    let due : IsBefore now (calling_due setup (calling_leg setup trace)) =
    before_left now (calling_due setup (calling_leg setup trace)) (called_due setup.asks writes (both_legs setup writes trace).leg (book_of (both_legs setup writes trace)).waiting) (before_due setup writes trace now late h) in
    let own : IsBefore now (due_at (core_of l)) = subst (λ (leg : Option CallingLeg). IsBefore now (calling_due setup leg)) is due in
    rests_before (core_of l) now few (not_due now (due_at (core_of l)) own)

pub reaches : (setup : Setup) (writes : Writing) (trace : List Event) (l : CallingLeg) (a : AnswererCore) (from gap last next : ℕ) → calling_leg setup trace ≡ Some l → next < 2 ^ 64 → IsNear (deadline setup writes trace) (clock trace) last
    → IsFilled a from (gap + 1) (core_of l) last → IsFilled a from (gap + 1) (core_of l) (reached (deadline setup writes trace) last next)
reaches setup writes trace l a from gap last next is few near f =
    let d : Option ℕ = deadline setup writes trace in
    fill a from (gap + 1) last (upto d next - last) (core_of l) (omega arith)
    (λ y b c.
    let least : y ≤ upto d next = in_reach (upto d next) last y b c in
    let most : upto d next ≤ next = upto_most d next in
    let k = between d (clock trace) last next y near b least in
    leg_rests setup writes trace l y is (omega arith) k.0 k.1)
    f
  where
    in_reach : (x z y : ℕ) → z < y → y ≤ z + (x - z) → y ≤ x
    in_reach x z y b c = omega arith

-- ---- A SILENCE

-- where the leg stands
pub record Stands (setup : Setup) (writes : Writing) (a : AnswererCore) (from gap : ℕ) (trace : List Event) : Type 0 where
  pub l : CallingLeg
  pub is : calling_leg setup trace ≡ Some l
  pub last : ℕ
  pub filled : IsFilled a from (gap + 1) (core_of l) last
  pub near : IsNear (deadline setup writes trace) (clock trace) last
  pub after : from ≤ last
  pub most : last ≤ clock trace
  pub soon : clock trace ≤ last + (gap + 1)

-- an event but a tick, after which the core is one that the same ticks and what it brought lead to
pub goes_on : (setup : Setup) (writes : Writing) (a : AnswererCore) (from gap : ℕ) (e : Event) (trace : List Event) → clock (e ∷ trace) < 2 ^ 64 → IsInTime (deadline setup writes trace) from gap (clock (e ∷ trace))
    → deadline setup writes (e ∷ trace) ≡ earlier (deadline setup writes trace) (wanted setup writes (e ∷ trace)) → (s : Stands setup writes a from gap trace)
    → (n : CallingLeg) → calling_leg setup (e ∷ trace) ≡ Some n → ((last : ℕ) → IsFilled a from (gap + 1) (core_of s.l) last → IsFilled a from (gap + 1) (core_of n) last) → Stands setup writes a from gap (e ∷ trace)
goes_on setup writes a from gap e trace few prompt same s n is brings =
    let d : Option ℕ = deadline setup writes trace in
    let next : ℕ = clock (e ∷ trace) in
    let after : from ≤ s.last = s.after in
    let f : IsFilled a from (gap + 1) (core_of s.l) (reached d s.last next) = reaches setup writes trace s.l a from gap s.last next s.is few s.near s.filled in
    record {
      l = n;
      is = is;
      last = reached d s.last next;
      filled = brings (reached d s.last next) f;
      near = subst (λ (x : Option ℕ). IsNear x next (reached d s.last next)) (sym same) (near_next d (gateway.due_at setup writes (e ∷ trace)) (clock trace) s.last next s.near s.most (omega arith));
      after = omega arith;
      most = reached_most d (clock trace) s.last next s.most (omega arith);
      soon = comes_soon d (clock trace) s.last next from gap s.near s.most (omega arith) s.after prompt;
    }

-- one that brings nothing
pub quiet_on : (setup : Setup) (writes : Writing) (a : AnswererCore) (from gap : ℕ) (e : Event) (trace : List Event) → clock (e ∷ trace) < 2 ^ 64 → IsInTime (deadline setup writes trace) from gap (clock (e ∷ trace))
    → deadline setup writes (e ∷ trace) ≡ earlier (deadline setup writes trace) (wanted setup writes (e ∷ trace)) → (s : Stands setup writes a from gap trace)
    → (n : CallingLeg) → calling_leg setup (e ∷ trace) ≡ Some n → core_of n ≡ core_of s.l → Stands setup writes a from gap (e ∷ trace)
quiet_on setup writes a from gap e trace few prompt same s n is core =
    goes_on setup writes a from gap e trace few prompt same s n is (λ last f. subst (λ (c : AnswererCore). IsFilled a from (gap + 1) c last) (sym core) f)

-- a tick
pub ticks_on : (setup : Setup) (writes : Writing) (a : AnswererCore) (from gap at : ℕ) (given : Given) (trace : List Event) → clock (Tick at given ∷ trace) < 2 ^ 64 → IsInTime (deadline setup writes trace) from gap (clock (Tick at given ∷ trace))
    → Stands setup writes a from gap trace → Stands setup writes a from gap (Tick at given ∷ trace)
ticks_on setup writes a from gap at given trace few prompt s =
    let d : Option ℕ = deadline setup writes trace in
    let now : ℕ = clock (Tick at given ∷ trace) in
    let f : IsFilled a from (gap + 1) (core_of s.l) (reached d s.last now) = reaches setup writes trace s.l a from gap s.last now s.is few s.near s.filled in
    let was : answer.last_tick from f.events ≡ reached d s.last now = f.last_is in
    let most : reached d s.last now ≤ now = reached_most d (clock trace) s.last now s.most (omega arith) in
    let soon : now ≤ reached d s.last now + (gap + 1) = comes_soon d (clock trace) s.last now from gap s.near s.most (omega arith) s.after prompt in
    let after : from ≤ s.last = s.after in
    record {
      l = leg_ticked s.l now;
      is = ap (λ (leg : Option CallingLeg). calling_after setup leg now (Tick at given)) s.is;
      last = now;
      filled = record {
        events = Ticks now ∷ f.events;
        core_is = ap (λ (c : AnswererCore). (ticked c now).core) f.core_is;
        silence = (omega arith, omega arith, f.silence);
        last_is = refl;
      };
      near = near_tick (gateway.due_at setup writes (Tick at given ∷ trace)) now;
      after = omega arith;
      most = omega arith;
      soon = omega arith;
    }

quiet_with : SlotsGoOn → (l : CallingLeg) (now : ℕ) (read : Reading) (r : Result DatagramValue UdptlFault) → decided_by false l.arrived r ≡ false → core_of (leg_with l now read r) ≡ core_of l
quiet_with go l now read (Err fault) h = refl
quiet_with go l now read (Ok d) h = ap (λ (ps : List Piece). after_events (rung l.before l.begun) (comes_all ps now read l.events)) (no_pieces go l.arrived d h)

quiet_hears : SlotsGoOn → (l : CallingLeg) (now : ℕ) (read : Reading) (octets : List ℕ) (b : Bool) → decided_by b l.arrived (datagram_of octets) ≡ false
    → (n : CallingLeg) × ((if◌then◌else◌ {A = Option CallingLeg} b (Some l) (Some (leg_with l now read (datagram_of octets)))) ≡ Some n) × (core_of n ≡ core_of l)
quiet_hears go l now read octets true h = (l, refl, refl)
quiet_hears go l now read octets false h = (leg_with l now read (datagram_of octets), refl, quiet_with go l now read (datagram_of octets) h)

stands_on : SlotsGoOn → (setup : Setup) (writes : Writing) (before later : List Event) (l : CallingLeg) (gap : ℕ) → IsTrace setup writes (later ++ before) → clock (later ++ before) < 2 ^ 64 → calling_leg setup before ≡ Some l → IsQuiet later
    → IsPrompt setup writes gap (clock before) (later ++ before) → Stands setup writes (core_of l) (clock before) gap (later ++ before)
stands_on go setup writes before [] l gap t few is q p =
    record {
      l = l;
      is = is;
      last = clock before;
      filled = record { events = []; core_is = refl; silence = tt; last_is = refl };
      near = near_begin (deadline setup writes before) (clock before);
      after = omega arith;
      most = omega arith;
      soon = omega arith;
    }
stands_on go setup writes before (Ring at number ∷ later) l gap t few is q p = absurd q
stands_on go setup writes before (FromCalling octets at decided read ∷ later) l gap t few is q p =
    let e : Event = FromCalling octets at decided read in
    let trace : List Event = later ++ before in
    let s : Stands setup writes (core_of l) (clock before) gap trace = stands_on go setup writes before later l gap t.1 (omega arith) is q.1 p.1 in
    let none : decided_by (is_idle (core_of s.l).state) s.l.arrived (datagram_of octets) ≡ false =
    sym (ap (λ (leg : Option CallingLeg). decided_calling leg octets) s.is) ∙ sym t.0.0 ∙ q.0 in
    let n = quiet_hears go s.l (clock (e ∷ trace)) read octets (is_idle (core_of s.l).state) none in
    quiet_on setup writes (core_of l) (clock before) gap e trace few p.0 refl s n.0 (ap (λ (leg : Option CallingLeg). calling_after setup leg (clock (e ∷ trace)) e) s.is ∙ n.1) n.2
stands_on go setup writes before (FromCalled octets at decided ∷ later) l gap t few is q p =
    let e : Event = FromCalled octets at decided in
    let trace : List Event = later ++ before in
    let s : Stands setup writes (core_of l) (clock before) gap trace = stands_on go setup writes before later l gap t.1 (omega arith) is q p.1 in
    quiet_on setup writes (core_of l) (clock before) gap e trace few p.0 refl s s.l (ap (λ (leg : Option CallingLeg). calling_after setup leg (clock (e ∷ trace)) e) s.is) refl
stands_on go setup writes before (Placed at connected ∷ later) l gap t few is q p =
    let e : Event = Placed at connected in
    let trace : List Event = later ++ before in
    let s : Stands setup writes (core_of l) (clock before) gap trace = stands_on go setup writes before later l gap t.1 (omega arith) is q p.1 in
    quiet_on setup writes (core_of l) (clock before) gap e trace few p.0 refl s s.l (ap (λ (leg : Option CallingLeg). calling_after setup leg (clock (e ∷ trace)) e) s.is) refl
stands_on go setup writes before (Tick at given ∷ later) l gap t few is q p =
    let trace : List Event = later ++ before in
    let s : Stands setup writes (core_of l) (clock before) gap trace = stands_on go setup writes before later l gap t.1 (omega arith) is q p.1 in
    ticks_on setup writes (core_of l) (clock before) gap at given trace few p.0 s

pub silent_calls : NoCallHangs → SlotsGoOn → SilentCallsEnd
silent_calls hangs go setup writes before later l gap t few is quiet prompt on = by (nat_le s.last limit) refl
  where
    from : ℕ
    from = clock before

    s : Stands setup writes (core_of l) (clock before) gap (later ++ before)
    s = stands_on go setup writes before later l gap t few is quiet prompt

    limit : ℕ
    limit = clock before + answer.silent_time (gap + 1) (core_of l)

    k : Known before l
    k = subst (IfKnown before) is (known setup before)

    over : limit < s.last → idle_after (calling_leg setup (later ++ before)) ≡ true
    over long =
        let rests : (after_events (core_of l) s.filled.events).state ≡ Idle =
        hangs l.before l.begun (clock before) (gap + 1) l.events s.filled.events k.pace k.begun k.until s.filled.silence (subst (λ (m : ℕ). limit < m) (sym s.filled.last_is) long) in
        ap idle_after s.is ∙ ap is_idle (ap (λ (a : AnswererCore). a.state) (sym s.filled.core_is) ∙ rests)

    by : (b : Bool) → nat_le s.last limit ≡ b → clock (later ++ before) ≤ limit + (gap + 1)
    by true e = let m : s.last ≤ limit = grind (arith) in let near : clock (later ++ before) ≤ s.last + (gap + 1) = s.soon in omega arith
    by false e = let m : limit < s.last = grind (arith) in not_both (idle_after (calling_leg setup (later ++ before))) (over m) on
      where
        not_both : (b : Bool) → b ≡ true → b ≡ false → clock (later ++ before) ≤ limit + (gap + 1)
        not_both true e f = cc
        not_both false e f = cc
