-- Each job that is sent is reported in time.
use Rattle.std.proofs.Common.{◌≡◌, ℕ, zero, suc, ◌+◌, ◌-◌, ◌<◌, ◌≤◌, ◌^◌, max, nat_le, Bool, true, false, is_some, IsSome, List, [], ◌∷◌, ◌++◌, length, Option, Some, None, Result, Ok, Err, option_map, refl, sym, ◌∙◌, ap, subst, arith, if◌then◌else◌}
use Rattle.fax_udptl.specs.declared.fault.UdptlFault.{UdptlFault}
use Rattle.fax_udptl.specs.Datagrams.{DatagramValue, datagram_of}
use Rattle.fax_timers.specs.Moments.{earlier}
use Rattle.fax_timers.specs.Paces.{PaceValue, allowed_from}
use Rattle.fax_timers.specs.Spans as spans
use Rattle.fax_ifp.specs.Pieces as pieces
use Rattle.fax_jobs.specs.declared.outcome.Outcome.{Outcome}
use Rattle.fax_jobs.specs.Jobs.{JobValue, IsJob}
use Rattle.fax_jobs.specs.Pasts.{Sends, as_list, after_steps, jobs_of, new_past}
use Rattle.fax_call.specs.declared.state.State.{State}
use Rattle.fax_call.specs.declared.state.State.TheVariants.{Idle}
use Rattle.fax_call.specs.Writings.{IsWriting, Writing}
use Rattle.fax_call.specs.Calls.{CallerCore, CallEvent, Comes, Ticks, TickResult, after_events, came, not_placed, started, ticked}
use Rattle.fax_call.specs.Delivery.{is_over}
use Rattle.fax_call.specs.Due.{due_at, untouched}
use Rattle.fax_call.specs.Ending.{AreSteady, NoTextIsLonger, longest_call}
use Rattle.fax_call.specs.Silence as call
use Rattle.fax_call.specs.Silence.{AllUntil}
use Rattle.fax_call.proofs.DueLemmas.{rests_before}
use Rattle.fax_call.proofs.Ending.{every_call_ends}
use Rattle.fax_call.proofs.Silence.{gt_if, until_timely}
use Rattle.fax_gateway.specs.Setups.{Setup}
use Rattle.fax_gateway.specs.Events.{Event, Ring, FromCalling, FromCalled, Tick, Placed, Given, clock}
use Rattle.fax_gateway.specs.Legs.{new_pieces}
use Rattle.fax_gateway.specs.CallingLegs.{calling_leg}
use Rattle.fax_gateway.specs.CalledLegs.{CalledLeg, begun_core, begun_leg, calls, comes_to, core_left, core_of, hears, leg_ticked, leg_with, outcome_of, placed_leg, with_tick}
use Rattle.fax_gateway.specs.BothLegs.{BothLegs, begins_next, book_of, both_legs, heard_in_tick, leg_of, past_of, sends}
use Rattle.fax_gateway.specs.Due as gateway
use Rattle.fax_gateway.specs.Due.{call_due, called_due, calling_due, job_due}
use Rattle.fax_gateway.specs.Origins.{AreOfTheirCalls, JobsAreOfTheirCalls}
use Rattle.fax_gateway.specs.Reports.{HaveStates, JobsHaveStates, job_sent}
use Rattle.fax_gateway.specs.Traces.{IsTrace}
use Rattle.fax_gateway.proofs.Unplaced.{stays_over}
use Rattle.fax_laws.specs.deadlines.Deadlines.{IsPrompt, JobsEndInTime, deadline, wanted}
use Rattle.fax_laws.proofs.deadlines.Prompts.{IsBefore, IsNear, before_due, before_right, between, comes_soon, near_begin, near_next, near_tick, not_due, reached, reached_most, upto, upto_most}

-- ---- THE CALL OF A JOB, by its events

abbrev begins : Bool → CallerCore → JobValue → ℕ → CallerCore
begins placed before job begun = if placed then started before job begun else not_placed before job

-- what a leg leaves of the pace
pace_left : (writes : Writing) (job : JobValue) (before : CallerCore) (begun from : ℕ) (events : List CallEvent) (placed : Bool) → allowed_from before.pace.last ≤ begun + spans.longest_pause → begun ≤ from
    → AllUntil from events → allowed_from (after_events writes job (begins placed before job begun) events).pace.last ≤ from + spans.longest_pause
pace_left writes job before begun from events true p b u = (until_timely writes job before begun from events p b u).pace
pace_left writes job before begun from events false p b u =
    let same : (after_events writes job (not_placed before job) events).pace ≡ before.pace = ap (λ (c : CallerCore). c.pace) (stays_over writes before job events) in
    let most : allowed_from before.pace.last ≤ from + spans.longest_pause = omega arith in
    subst (λ (x : PaceValue). allowed_from x.last ≤ from + spans.longest_pause) (sym same) most

-- the last tick left the call on
abbrev IsOn : Writing → JobValue → (begun : CallerCore) → List CallEvent → Type 0
IsOn writes job begun [] = Unit {0}
IsOn writes job begun (Comes piece now ∷ before) = IsOn writes job begun before
IsOn writes job begun (Ticks now ∷ before) = outcome_of (after_events writes job begun (Ticks now ∷ before)) ≡ None

over_not_on : (core : CallerCore) → core.state ≡ Idle → IsSome core.outcome → outcome_of core ≡ None → ⊥
over_not_on core idle some none =
    by core.outcome some (sym (ap (λ (s : State). if◌then◌else◌ {A = Option Outcome} (is_over s) core.outcome None) idle) ∙ none)
  where
    by : (o : Option Outcome) → IsSome o → o ≡ None → ⊥
    by None s e = cc
    by (Some outcome) s e = cc

unplaced_not_on : (writes : Writing) (job : JobValue) (before : CallerCore) (events : List CallEvent) → outcome_of (after_events writes job (not_placed before job) events) ≡ None → ⊥
unplaced_not_on writes job before events none =
    let is : outcome_of (not_placed before job) ≡ None = subst (λ (c : CallerCore). outcome_of c ≡ None) (stays_over writes before job events) none in cc

-- while it is on, the last tick came in time
in_time : (writes : Writing) (job : JobValue) (before : CallerCore) (begun gap longest : ℕ) (placed : Bool) (events : List CallEvent) → IsWriting writes → IsJob job
    → allowed_from before.pace.last ≤ begun + spans.longest_pause → NoTextIsLonger writes job gap longest → AreSteady gap begun events
    → IsOn writes job (begins placed before job begun) events → call.last_tick begun events ≤ begun + longest_call (length job.pages) gap longest
in_time writes job before begun gap longest placed [] writing is p long steady on = omega arith
in_time writes job before begun gap longest placed (Comes piece now ∷ events) writing is p long steady on = in_time writes job before begun gap longest placed events writing is p long steady.1 on
in_time writes job before begun gap longest false (Ticks now ∷ events) writing is p long steady on = absurd (unplaced_not_on writes job before (Ticks now ∷ events) on)
in_time writes job before begun gap longest true (Ticks now ∷ events) writing is p long steady on = by (nat_le now (begun + longest_call (length job.pages) gap longest)) refl
  where
    most : ℕ
    most = begun + longest_call (length job.pages) gap longest

    by : (b : Bool) → nat_le now most ≡ b → now ≤ most
    by true e = grind (arith)
    by false e =
        let z = every_call_ends writes job before begun gap longest (Ticks now ∷ events) writing is p long steady (gt_if now most e) in
        absurd (over_not_on (after_events writes job (started before job begun) (Ticks now ∷ events)) z.0 z.1 on)

-- ---- TICKS IN BETWEEN: `last` is the last of them, by which the call is as it was

-- events of which the core is that of others, steady up to a moment
record IsFilled (writes : Writing) (job : JobValue) (begun : CallerCore) (start gap : ℕ) (core : CallerCore) (last : ℕ) : Type 0 where
  events : List CallEvent
  core_is : after_events writes job begun events ≡ core
  steady : AreSteady gap start events
  on : IsOn writes job begun events
  last_is : call.last_tick start events ≡ last

-- ticks of a core that each of them leaves as it is, and which is on
fill : (writes : Writing) (job : JobValue) (begun : CallerCore) (start gap last n : ℕ) (core : CallerCore) → 1 ≤ gap
    → ((y : ℕ) → last < y → y ≤ last + n → (ticked writes job core y ≡ untouched core) × (outcome_of core ≡ None))
    → IsFilled writes job begun start gap core last → IsFilled writes job begun start gap core (last + n)
fill writes job begun start gap last zero core g rests f = subst (IsFilled writes job begun start gap core) (none last) f
  where
    none : (x : ℕ) → x ≡ x + 0
    none x = omega arith
fill writes job begun start gap last (suc n) core g rests f =
    let k : IsFilled writes job begun start gap core (last + n) = fill writes job begun start gap last n core g (λ y a b. rests y a (omega arith)) f in
    let at : ℕ = last + suc n in
    let r = rests at (omega arith) (omega arith) in
    let is : (ticked writes job (after_events writes job begun k.events) at).core ≡ core =
    ap (λ (c : CallerCore). (ticked writes job c at).core) k.core_is ∙ ap (λ (t : TickResult). t.core) r.0 in
    let was : call.last_tick start k.events ≡ last + n = k.last_is in
    record {
      events = Ticks at ∷ k.events;
      core_is = is;
      steady = (omega arith, omega arith, k.steady);
      on = ap outcome_of is ∙ r.1;
      last_is = refl;
    }

-- ---- WHAT IS KNOWN of the called leg after a trace

record Known (setup : Setup) (writes : Writing) (trace : List Event) (l : CalledLeg) : Type 0 where
  begun : l.begun ≤ clock trace
  pace : allowed_from l.before.pace.last ≤ l.begun + spans.longest_pause
  until : AllUntil (clock trace) l.events
  filled : l.entered ≡ false → (gap : ℕ) → clock trace < 2 ^ 64 → IsPrompt setup writes gap l.begun trace
      → (last : ℕ) × IsFilled writes l.job (begun_core l) l.begun (gap + 1) (core_of writes l) last × IsNear (deadline setup writes trace) (clock trace) last × (l.begun ≤ last) × (last ≤ clock trace) × (clock trace ≤ last + (gap + 1))

abbrev IfKnown : Setup → Writing → List Event → Option CalledLeg → Type 0
IfKnown setup writes trace None = Unit {0}
IfKnown setup writes trace (Some l) = Known setup writes trace l

until_later : (x y : ℕ) (events : List CallEvent) → x ≤ y → AllUntil x events → AllUntil y events
until_later x y [] h u = tt
until_later x y (Comes piece now ∷ before) h u = let n : now ≤ x = u.0 in (omega arith, until_later x y before h u.1)
until_later x y (Ticks now ∷ before) h u = let n : now ≤ x = u.0 in (omega arith, until_later x y before h u.1)

-- between the clock and the deadline a tick leaves an going call as it is, which is on
call_rests : (writes : Writing) (job : JobValue) (core : CallerCore) (now : ℕ) → now < 2 ^ 64 → IsBefore now (call_due core) → (ticked writes job core now ≡ untouched core) × (outcome_of core ≡ None)
call_rests writes job core now few h = by (outcome_of core) refl h
  where
    by : (o : Option Outcome) → outcome_of core ≡ o → IsBefore now (if◌then◌else◌ {A = Option ℕ} (is_some o) (Some 0) (due_at core)) → (ticked writes job core now ≡ untouched core) × (outcome_of core ≡ None)
    by None e g = (rests_before writes job core now few (not_due now (due_at core) g), e)
    by (Some outcome) e g = absurd (omega (arith, g))

leg_rests : (setup : Setup) (writes : Writing) (trace : List Event) (l : CalledLeg) (now : ℕ) → (both_legs setup writes trace).leg ≡ Some l → l.entered ≡ false → now < 2 ^ 64 → clock trace < now
    → IsBefore now (deadline setup writes trace) → (ticked writes l.job (core_of writes l) now ≡ untouched (core_of writes l)) × (outcome_of (core_of writes l) ≡ None)
leg_rests setup writes trace l now is going few late h =
    let waiting : List JobValue = (book_of (both_legs setup writes trace)).waiting in
    let due : IsBefore now (called_due setup.asks writes (both_legs setup writes trace).leg waiting) =
    before_right now (calling_due setup (calling_leg setup trace)) (called_due setup.asks writes (both_legs setup writes trace).leg waiting) (before_due setup writes trace now late h) in
    let own : IsBefore now (called_due setup.asks writes (Some l) waiting) = subst (λ (leg : Option CalledLeg). IsBefore now (called_due setup.asks writes leg waiting)) is due in
    call_rests writes l.job (core_of writes l) now few
    (subst (λ (b : Bool). IsBefore now (if◌then◌else◌ {A = Option ℕ} b (job_due setup.asks waiting) (call_due (core_of writes l)))) going own)

-- up to the next event ticks are put in
reaches : (setup : Setup) (writes : Writing) (trace : List Event) (l : CalledLeg) (gap last next : ℕ) → (both_legs setup writes trace).leg ≡ Some l → l.entered ≡ false → next < 2 ^ 64 → IsNear (deadline setup writes trace) (clock trace) last
    → IsFilled writes l.job (begun_core l) l.begun (gap + 1) (core_of writes l) last → IsFilled writes l.job (begun_core l) l.begun (gap + 1) (core_of writes l) (reached (deadline setup writes trace) last next)
reaches setup writes trace l gap last next is going few near f =
    let d : Option ℕ = deadline setup writes trace in
    fill writes l.job (begun_core l) l.begun (gap + 1) last (upto d next - last) (core_of writes l) (omega arith)
    (λ y a b.
    let least : y ≤ upto d next = in_reach (upto d next) last y a b in
    let most : upto d next ≤ next = upto_most d next in
    let k = between d (clock trace) last next y near a least in
    leg_rests setup writes trace l y is going (omega arith) k.0 k.1)
    f
  where
    in_reach : (x z y : ℕ) → z < y → y ≤ z + (x - z) → y ≤ x
    in_reach x z y a b = omega arith

-- an event that is no tick, and of the other leg
stays : (setup : Setup) (writes : Writing) (e : Event) (trace : List Event) (l : CalledLeg) → (both_legs setup writes trace).leg ≡ Some l
    → deadline setup writes (e ∷ trace) ≡ earlier (deadline setup writes trace) (wanted setup writes (e ∷ trace)) → Known setup writes trace l → Known setup writes (e ∷ trace) l
stays setup writes e trace l is same k =
    let b : l.begun ≤ clock trace = k.begun in
    let d : Option ℕ = deadline setup writes trace in
    let next : ℕ = clock (e ∷ trace) in
    record {
      begun = omega arith;
      pace = k.pace;
      until = until_later (clock trace) next l.events (omega arith) k.until;
      filled = λ going gap few prompt.
          let f = k.filled going gap (omega arith) prompt.1 in
          let last : ℕ = f.0 in
          let from : l.begun ≤ last = f.3 in
          let late : last ≤ clock trace = f.4 in
          let most : reached d last next ≤ next = reached_most d (clock trace) last next late (omega arith) in
          let soon : next ≤ reached d last next + (gap + 1) = comes_soon d (clock trace) last next l.begun gap f.2 late (omega arith) from prompt.0 in (
            reached d last next,
            reaches setup writes trace l gap last next is going few f.2 f.1,
            subst (λ (x : Option ℕ). IsNear x next (reached d last next)) (sym same) (near_next d (gateway.due_at setup writes (e ∷ trace)) (clock trace) last next f.2 late (omega arith)),
            omega arith,
            most,
            soon,
          );
    }

all_stay : (setup : Setup) (writes : Writing) (e : Event) (trace : List Event) (leg : Option CalledLeg) → (both_legs setup writes trace).leg ≡ leg
    → deadline setup writes (e ∷ trace) ≡ earlier (deadline setup writes trace) (wanted setup writes (e ∷ trace)) → IfKnown setup writes trace leg → IfKnown setup writes (e ∷ trace) leg
all_stay setup writes e trace None is same k = tt
all_stay setup writes e trace (Some l) is same k = stays setup writes e trace l is same k

-- pieces come
comes_core : (writes : Writing) (job : JobValue) (begun : CallerCore) (ps : List pieces.Piece) (now : ℕ) (a b : List CallEvent) → after_events writes job begun a ≡ after_events writes job begun b
    → after_events writes job begun (comes_to ps now a) ≡ after_events writes job begun (comes_to ps now b)
comes_core writes job begun [] now a b e = e
comes_core writes job begun (p ∷ ps) now a b e = comes_core writes job begun ps now (Comes p now ∷ a) (Comes p now ∷ b) (ap (λ (c : CallerCore). came c p now) e)

comes_last : (ps : List pieces.Piece) (now from : ℕ) (events : List CallEvent) → call.last_tick from (comes_to ps now events) ≡ call.last_tick from events
comes_last [] now from events = refl
comes_last (p ∷ ps) now from events = comes_last ps now from (Comes p now ∷ events)

comes_until : (ps : List pieces.Piece) (now from : ℕ) (events : List CallEvent) → now ≤ from → AllUntil from events → AllUntil from (comes_to ps now events)
comes_until [] now from events h u = u
comes_until (p ∷ ps) now from events h u = comes_until ps now from (Comes p now ∷ events) h (h, u)

comes_steady : (ps : List pieces.Piece) (now gap from : ℕ) (events : List CallEvent) → now ≤ call.last_tick from events + gap → AreSteady gap from events → AreSteady gap from (comes_to ps now events)
comes_steady [] now gap from events h s = s
comes_steady (p ∷ ps) now gap from events h s = comes_steady ps now gap from (Comes p now ∷ events) h (h, s)

comes_on : (writes : Writing) (job : JobValue) (begun : CallerCore) (ps : List pieces.Piece) (now : ℕ) (events : List CallEvent) → IsOn writes job begun events → IsOn writes job begun (comes_to ps now events)
comes_on writes job begun [] now events o = o
comes_on writes job begun (p ∷ ps) now events o = comes_on writes job begun ps now (Comes p now ∷ events) o

comes_filled : (writes : Writing) (job : JobValue) (begun : CallerCore) (start gap last now : ℕ) (ps : List pieces.Piece) (events : List CallEvent) → now ≤ last + gap
    → IsFilled writes job begun start gap (after_events writes job begun events) last → IsFilled writes job begun start gap (after_events writes job begun (comes_to ps now events)) last
comes_filled writes job begun start gap last now ps events soon f =
    record {
      events = comes_to ps now f.events;
      core_is = comes_core writes job begun ps now f.events events f.core_is;
      steady = comes_steady ps now gap start f.events (subst (λ (m : ℕ). now ≤ m + gap) (sym f.last_is) soon) f.steady;
      on = comes_on writes job begun ps now f.events f.on;
      last_is = comes_last ps now start f.events ∙ f.last_is;
    }

with_known : (setup : Setup) (writes : Writing) (octets : List ℕ) (at : ℕ) (decided : Bool) (trace : List Event) (l : CalledLeg) (r : Result DatagramValue UdptlFault) → (both_legs setup writes trace).leg ≡ Some l
    → Known setup writes trace l → Known setup writes (FromCalled octets at decided ∷ trace) (leg_with r (clock (FromCalled octets at decided ∷ trace)) l)
with_known setup writes octets at decided trace l (Err fault) is k = stays setup writes (FromCalled octets at decided) trace l is refl k
with_known setup writes octets at decided trace l (Ok x) is k =
    let more : List Event = FromCalled octets at decided ∷ trace in
    let now : ℕ = clock more in
    let d : Option ℕ = deadline setup writes trace in
    let ps : List pieces.Piece = new_pieces l.arrived x in
    let o : Known setup writes more l = stays setup writes (FromCalled octets at decided) trace l is refl k in
    record {
      begun = o.begun;
      pace = o.pace;
      until = comes_until ps now now l.events (omega arith) o.until;
      filled = λ going gap few prompt.
          let f = k.filled going gap (omega arith) prompt.1 in
          let last : ℕ = f.0 in
          let from : l.begun ≤ last = f.3 in
          let late : last ≤ clock trace = f.4 in
          let most : reached d last now ≤ now = reached_most d (clock trace) last now late (omega arith) in
          let soon : now ≤ reached d last now + (gap + 1) = comes_soon d (clock trace) last now l.begun gap f.2 late (omega arith) from prompt.0 in (
            reached d last now,
            comes_filled writes l.job (begun_core l) l.begun (gap + 1) (reached d last now) now ps l.events soon (reaches setup writes trace l gap last now is going few f.2 f.1),
            near_next d (gateway.due_at setup writes more) (clock trace) last now f.2 late (omega arith),
            omega arith,
            most,
            soon,
          );
    }

hears_known : (setup : Setup) (writes : Writing) (octets : List ℕ) (at : ℕ) (decided : Bool) (trace : List Event) (leg : Option CalledLeg) → (both_legs setup writes trace).leg ≡ leg → IfKnown setup writes trace leg
    → IfKnown setup writes (FromCalled octets at decided ∷ trace) (option_map (hears writes octets (clock (FromCalled octets at decided ∷ trace))) leg)
hears_known setup writes octets at decided trace None is k = tt
hears_known setup writes octets at decided trace (Some l) is k = by (is_over (core_of writes l).state)
  where
    now : ℕ
    now = clock (FromCalled octets at decided ∷ trace)

    by : (b : Bool) → Known setup writes (FromCalled octets at decided ∷ trace) (if◌then◌else◌ {A = CalledLeg} b l (leg_with (datagram_of octets) now l))
    by true = stays setup writes (FromCalled octets at decided) trace l is refl k
    by false = with_known setup writes octets at decided trace l (datagram_of octets) is k

-- a tick in the call, which was on until then
none_if : (o : Option Outcome) → is_some o ≡ false → o ≡ None
none_if None e = refl
none_if (Some outcome) e = cc

ticks_filled : (writes : Writing) (job : JobValue) (begun : CallerCore) (start gap last now : ℕ) (core : CallerCore) → last ≤ now → now ≤ last + gap → outcome_of (ticked writes job core now).core ≡ None
    → IsFilled writes job begun start gap core last → IsFilled writes job begun start gap (ticked writes job core now).core now
ticks_filled writes job begun start gap last now core late soon none f =
    let was : call.last_tick start f.events ≡ last = f.last_is in
    let is : (ticked writes job (after_events writes job begun f.events) now).core ≡ (ticked writes job core now).core = ap (λ (c : CallerCore). (ticked writes job c now).core) f.core_is in
    record {
      events = Ticks now ∷ f.events;
      core_is = is;
      steady = (omega arith, omega arith, f.steady);
      on = ap outcome_of is ∙ none;
      last_is = refl;
    }

ticks_on : (setup : Setup) (writes : Writing) (at : ℕ) (given : Given) (trace : List Event) (l : CalledLeg) → (both_legs setup writes trace).leg ≡ Some l → l.entered ≡ false → Known setup writes trace l
    → Known setup writes (Tick at given ∷ trace) (with_tick (calls writes l (clock (Tick at given ∷ trace))) (clock (Tick at given ∷ trace)) l)
ticks_on setup writes at given trace l is going k =
    let more : List Event = Tick at given ∷ trace in
    let now : ℕ = clock more in
    let d : Option ℕ = deadline setup writes trace in
    let b : l.begun ≤ clock trace = k.begun in
    record {
      begun = omega arith;
      pace = k.pace;
      until = (omega arith, until_later (clock trace) now l.events (omega arith) k.until);
      filled = λ on gap few prompt.
          let f = k.filled going gap (omega arith) prompt.1 in
          let last : ℕ = f.0 in
          let from : l.begun ≤ last = f.3 in
          let late : last ≤ clock trace = f.4 in
          let most : reached d last now ≤ now = reached_most d (clock trace) last now late (omega arith) in
          let soon : now ≤ reached d last now + (gap + 1) = comes_soon d (clock trace) last now l.begun gap f.2 late (omega arith) from prompt.0 in (
            now,
            ticks_filled writes l.job (begun_core l) l.begun (gap + 1) (reached d last now) now (core_of writes l) most soon (none_if (outcome_of (calls writes l now).core) on) (reaches setup writes trace l gap last now is going few f.2 f.1),
            near_tick (gateway.due_at setup writes more) now,
            omega arith,
            omega arith,
            omega arith,
          );
    }

-- a tick after the end of the call was entered
ticks_after : (setup : Setup) (writes : Writing) (at : ℕ) (given : Given) (trace : List Event) (l : CalledLeg) → l.entered ≡ true → Known setup writes trace l → Known setup writes (Tick at given ∷ trace) l
ticks_after setup writes at given trace l done k =
    let b : l.begun ≤ clock trace = k.begun in
    record {
      begun = omega arith;
      pace = k.pace;
      until = until_later (clock trace) (clock (Tick at given ∷ trace)) l.events (omega arith) k.until;
      filled = λ going. cc;
    }

ticks_known : (setup : Setup) (writes : Writing) (at : ℕ) (given : Given) (trace : List Event) (leg : Option CalledLeg) → (both_legs setup writes trace).leg ≡ leg → IfKnown setup writes trace leg
    → IfKnown setup writes (Tick at given ∷ trace) (option_map (leg_ticked writes (clock (Tick at given ∷ trace))) leg)
ticks_known setup writes at given trace None is k = tt
ticks_known setup writes at given trace (Some l) is k = by l.entered refl
  where
    now : ℕ
    now = clock (Tick at given ∷ trace)

    by : (b : Bool) → l.entered ≡ b → Known setup writes (Tick at given ∷ trace) (if◌then◌else◌ {A = CalledLeg} b l (with_tick (calls writes l now) now l))
    by true e = ticks_after setup writes at given trace l e k
    by false e = ticks_on setup writes at given trace l is e k

-- the call of a job begins at this event
begins_filled : (writes : Writing) (l : CalledLeg) (gap : ℕ) → l.events ≡ [] → IsFilled writes l.job (begun_core l) l.begun (gap + 1) (core_of writes l) l.begun
begins_filled writes l gap none = record { events = []; core_is = ap (λ (events : List CallEvent). after_events writes l.job (begun_core l) events) (sym none); steady = tt; on = tt; last_is = refl }

begins_known : (setup : Setup) (writes : Writing) (e : Event) (trace : List Event) (connected : Bool) (job : JobValue) (before : CallerCore)
    → allowed_from before.pace.last ≤ clock (e ∷ trace) + spans.longest_pause → Known setup writes (e ∷ trace) (placed_leg connected job before (clock (e ∷ trace)))
begins_known setup writes e trace connected job before p =
    let now : ℕ = clock (e ∷ trace) in
    record {
      begun = omega arith;
      pace = p;
      until = tt;
      filled = λ going gap few prompt. (now, begins_filled writes (placed_leg connected job before now) gap refl, near_begin (deadline setup writes (e ∷ trace)) now, omega arith, omega arith, omega arith);
    }

-- and in a tick, which serves it
begins_ticked : (setup : Setup) (writes : Writing) (at : ℕ) (given : Given) (trace : List Event) (job : JobValue) (before : CallerCore)
    → allowed_from before.pace.last ≤ clock (Tick at given ∷ trace) + spans.longest_pause
    → Known setup writes (Tick at given ∷ trace) (leg_ticked writes (clock (Tick at given ∷ trace)) (begun_leg job before (clock (Tick at given ∷ trace))))
begins_ticked setup writes at given trace job before p =
    let now : ℕ = clock (Tick at given ∷ trace) in
    let l : CalledLeg = begun_leg job before now in
    record {
      begun = omega arith;
      pace = p;
      until = (omega arith, tt);
      filled = λ on gap few prompt. (
        now,
        ticks_filled writes job (begun_core l) now (gap + 1) now now (core_of writes l) (omega arith) (omega arith) (none_if (outcome_of (calls writes l now).core) on) (begins_filled writes l gap refl),
        near_tick (gateway.due_at setup writes (Tick at given ∷ trace)) now,
        omega arith,
        omega arith,
        omega arith,
      );
    }

-- the pace that a leg leaves
left_known : (setup : Setup) (writes : Writing) (e : Event) (trace : List Event) (leg : Option CalledLeg) → IfKnown setup writes trace leg
    → allowed_from (core_left setup writes leg).pace.last ≤ clock (e ∷ trace) + spans.longest_pause
left_known setup writes e trace None k = omega arith
left_known setup writes e trace (Some l) k =
    let b : l.begun ≤ clock trace = k.begun in
    pace_left writes l.job l.before l.begun (clock (e ∷ trace)) l.events l.placed k.pace (omega arith) (until_later (clock trace) (clock (e ∷ trace)) l.events (omega arith) k.until)

tick_known : (setup : Setup) (writes : Writing) (at : ℕ) (given : Given) (trace : List Event) (z : BothLegs) → z.leg ≡ (both_legs setup writes trace).leg → IfKnown setup writes trace z.leg → (b : Bool)
    → IfKnown setup writes (Tick at given ∷ trace) (option_map (leg_ticked writes (clock (Tick at given ∷ trace))) (if◌then◌else◌ {A = BothLegs} b (sends true setup writes (clock (Tick at given ∷ trace)) z) z).leg)
tick_known setup writes at given trace z is k false = ticks_known setup writes at given trace z.leg (sym is) k
tick_known setup writes at given trace z is k true = by (after_steps new_past (Sends ∷ z.steps)).book.sending
  where
    now : ℕ
    now = clock (Tick at given ∷ trace)

    by : (o : Option JobValue) → IfKnown setup writes (Tick at given ∷ trace) (option_map (leg_ticked writes now) (leg_of true o (core_left setup writes z.leg) now z.leg))
    by None = ticks_known setup writes at given trace z.leg (sym is) k
    by (Some job) = begins_ticked setup writes at given trace job (core_left setup writes z.leg) (left_known setup writes (Tick at given) trace z.leg k)

placed_known : (setup : Setup) (writes : Writing) (at : ℕ) (connected : Bool) (trace : List Event) (o : Option JobValue) → IfKnown setup writes trace (both_legs setup writes trace).leg
    → IfKnown setup writes (Placed at connected ∷ trace) (leg_of connected o (core_left setup writes (both_legs setup writes trace).leg) (clock (Placed at connected ∷ trace)) (both_legs setup writes trace).leg)
placed_known setup writes at connected trace None k = all_stay setup writes (Placed at connected) trace (both_legs setup writes trace).leg refl refl k
placed_known setup writes at connected trace (Some job) k =
    let leg : Option CalledLeg = (both_legs setup writes trace).leg in
    begins_known setup writes (Placed at connected) trace connected job (core_left setup writes leg) (left_known setup writes (Placed at connected) trace leg k)

known : (setup : Setup) (writes : Writing) (trace : List Event) → IfKnown setup writes trace (both_legs setup writes trace).leg
known setup writes [] = tt
known setup writes (Ring at number ∷ trace) = all_stay setup writes (Ring at number) trace (both_legs setup writes trace).leg refl refl (known setup writes trace)
known setup writes (FromCalling octets at decided read ∷ trace) =
    all_stay setup writes (FromCalling octets at decided read) trace (both_legs setup writes trace).leg refl refl (known setup writes trace)
known setup writes (FromCalled octets at decided ∷ trace) = hears_known setup writes octets at decided trace (both_legs setup writes trace).leg refl (known setup writes trace)
known setup writes (Placed at connected ∷ trace) =
    let s : BothLegs = both_legs setup writes trace in
    placed_known setup writes at connected trace (after_steps new_past (Sends ∷ s.steps)).book.sending (known setup writes trace)
known setup writes (Tick at given ∷ trace) =
    let s : BothLegs = both_legs setup writes trace in
    tick_known setup writes at given trace (record s { steps = heard_in_tick (calling_leg setup trace) (max at (clock trace)) s.steps }) refl (known setup writes trace) (begins_next setup s.leg)

-- ---- THE JOB that is being sent is one

of_its_call : (setup : Setup) (trace : List Event) (before : List JobValue) (job : JobValue) (later : List JobValue) → AreOfTheirCalls setup trace (before ++ (job ∷ later)) → IsJob job
of_its_call setup trace [] job later a = a.0.is_job
of_its_call setup trace (j ∷ before) job later a = of_its_call setup trace before job later a.1

sent_is_job : JobsAreOfTheirCalls → JobsHaveStates → (setup : Setup) (writes : Writing) (trace : List Event) (l : CalledLeg) → IsTrace setup writes trace → (both_legs setup writes trace).leg ≡ Some l
    → l.entered ≡ false → IsJob l.job
sent_is_job of states setup writes trace l t is going =
    let h : HaveStates setup writes trace = states setup writes trace t in
    let waiting : List JobValue = (past_of (both_legs setup writes trace)).book.waiting in
    let sent : job_sent (both_legs setup writes trace).leg ≡ Some l.job =
    ap job_sent is ∙ ap (λ (b : Bool). if◌then◌else◌ {A = Option JobValue} b None (Some l.job)) going in
    let jobs : jobs_of (past_of (both_legs setup writes trace)) ≡ h.ended ++ (l.job ∷ waiting) = h.jobs_are ∙ ap (λ (o : Option JobValue). h.ended ++ (as_list o ++ waiting)) sent in
    of_its_call setup trace h.ended l.job waiting (subst (AreOfTheirCalls setup trace) jobs (of setup writes trace t).0)

pub jobs_end : JobsAreOfTheirCalls → JobsHaveStates → JobsEndInTime
jobs_end of states setup writes trace l gap longest writing t few is going long prompt =
    let k : Known setup writes trace l = subst (IfKnown setup writes trace) is (known setup writes trace) in
    let f = k.filled going gap few prompt in
    let last : ℕ = f.0 in
    let most : last ≤ l.begun + longest_call (length l.job.pages) (gap + 1) longest =
    subst (λ (m : ℕ). m ≤ l.begun + longest_call (length l.job.pages) (gap + 1) longest) f.1.last_is
    (in_time writes l.job l.before l.begun (gap + 1) longest l.placed f.1.events writing (sent_is_job of states setup writes trace l t is going) k.pace long f.1.steady f.1.on) in
    let near : clock trace ≤ last + (gap + 1) = f.5 in
    omega arith
