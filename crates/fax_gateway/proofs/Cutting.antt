-- The jobs of every trace are cut from its calls.
use Rattle.std.proofs.Common.{◌≡◌, ℕ, max, Bool, true, false, not, ◌&&◌, List, [], ◌∷◌, ◌++◌, length, Option, Some, None, Result, Ok, Err, refl, sym, ◌∙◌, ap, subst, arith, if◌then◌else◌}
use Rattle.fax_udptl.specs.declared.fault.UdptlFault.{UdptlFault}
use Rattle.fax_udptl.specs.Datagrams.{DatagramValue, datagram_of}
use Rattle.fax_jobs.specs.declared.outcome.Outcome.{Outcome}
use Rattle.fax_jobs.specs.Jobs.{JobValue}
use Rattle.fax_jobs.specs.Pasts.{Step, Confirms, CallEnds, Sends, Ends, Past, new_past, after_step, after_steps, jobs_of}
use Rattle.fax_jobs.specs.Cuts.{Confirmation, confirmations, AreInCall, IsCutOf, IsCutSoFar}
use Rattle.fax_jobs.proofs.CallCuts.{cuts_each_call, keeps_jobs}
use Rattle.fax_answer.specs.Table.{Reading}
use Rattle.fax_answer.specs.Replies.{ConfirmedPage}
use Rattle.fax_answer.specs.Calls.{AnswererCore, TickResult}
use Rattle.fax_call.specs.Writings.{Writing}
use Rattle.fax_gateway.specs.Restored.{RestoredCall}
use Rattle.fax_gateway.specs.Setups.{Setup}
use Rattle.fax_gateway.specs.Events.{Event, Ring, FromCalling, FromCalled, Tick, Placed, Given, clock, rings}
use Rattle.fax_gateway.specs.CallingLegs.{CallingLeg, core_of, is_idle, idle_after, leg_with, calling_after, calling_leg, answers, confirmed_by}
use Rattle.fax_gateway.specs.CalledLegs.{outcome_told, delivered_told}
use Rattle.fax_gateway.specs.BothLegs.{BothLegs, begins_next, past_of, confirms_if, ends_if, heard_in_tick, sends, sends_if, enters, both_legs, in_tick}
use Rattle.fax_gateway.specs.Traces.{IsTrace}
use Rattle.fax_gateway.specs.Cuts.{confirmed_at, with_confirmed, calls_of, AreCutsOfRestored, AreCutsOf, IsBookOf, JobsAreCut}
use Rattle.fax_gateway.proofs.IdleLegs.{IfRests, rests_of, idle_tick, busy_tick}
use Rattle.fax_gateway.proofs.Restoring.{AreCut, restored_cut}

-- a call that is on: the book's past since it began
record Since (rs : List RestoredCall) (calls : List (List Confirmation)) (number : ℕ) (cs : List Confirmation) (past : Past) : Type 0 where
  old : Past
  since : List Step
  past_is : past ≡ after_steps old since
  in_call : AreInCall number since
  same : confirmations since ≡ cs
  none_open : old.book.open_job ≡ None
  before : AreCutsOf rs calls (jobs_of old)
  number_is : number ≡ length calls

abbrev So : List RestoredCall → Bool → List (List Confirmation) → Past → ℕ → Type 0
So rs false calls past number = AreCutsOf rs calls (jobs_of past) × (past.book.open_job ≡ None)
So rs true [] past number = ⊥
So rs true (cs ∷ calls) past number = Since rs calls number cs past

-- steps of the answerer
sends_so : (rs : List RestoredCall) (on : Bool) (calls : List (List Confirmation)) (past : Past) (number : ℕ) → So rs on calls past number → So rs on calls (after_step past Sends) number
sends_so rs false calls past number s =
    let k = keeps_jobs past (Sends ∷ []) s.1 tt in (subst (AreCutsOf rs calls) (sym k.0) s.0, k.1)
sends_so rs true [] past number s = s
sends_so rs true (cs ∷ calls) past number s =
    record { old = s.old; since = Sends ∷ s.since; past_is = ap (λ (p : Past). after_step p Sends) s.past_is; in_call = s.in_call; same = s.same; none_open = s.none_open; before = s.before; number_is = s.number_is }

ended_so : (rs : List RestoredCall) (on : Bool) (calls : List (List Confirmation)) (past : Past) (number : ℕ) (outcome : Outcome) (delivered : ℕ) → So rs on calls past number → So rs on calls (after_step past (Ends outcome delivered)) number
ended_so rs false calls past number outcome delivered s =
    let k = keeps_jobs past (Ends outcome delivered ∷ []) s.1 tt in (subst (AreCutsOf rs calls) (sym k.0) s.0, k.1)
ended_so rs true [] past number outcome delivered s = s
ended_so rs true (cs ∷ calls) past number outcome delivered s =
    record { old = s.old; since = Ends outcome delivered ∷ s.since; past_is = ap (λ (p : Past). after_step p (Ends outcome delivered)) s.past_is; in_call = s.in_call; same = s.same; none_open = s.none_open; before = s.before; number_is = s.number_is }

-- the call ends
end_so : (rs : List RestoredCall) (calls : List (List Confirmation)) (past : Past) (number : ℕ) → So rs true calls past number → So rs false calls (after_step past CallEnds) number
end_so rs [] past number s = absurd s
end_so rs (cs ∷ calls) past number s =
    let e = (cuts_each_call s.old number s.since s.none_open s.in_call).1 in
    let is : after_step past CallEnds ≡ after_steps s.old (CallEnds ∷ s.since) = ap (λ (p : Past). after_step p CallEnds) s.past_is in
    let cut : IsCutOf (length calls) cs e.jobs = subst (λ (n : ℕ). IsCutOf n cs e.jobs) s.number_is (subst (λ (xs : List Confirmation). IsCutOf number xs e.jobs) s.same e.cut) in (
      (jobs_of s.old, e.jobs, ap jobs_of is ∙ e.closes.jobs_are, cut, s.before),
      ap (λ (p : Past). p.book.open_job) is ∙ e.none_open,
    )

ends_so : (rs : List RestoredCall) (b : Bool) (calls : List (List Confirmation)) (steps : List Step) (number : ℕ) → So rs true calls (after_steps new_past steps) number → So rs (not b) calls (after_steps new_past (ends_if b steps)) number
ends_so rs true calls steps number s = end_so rs calls (after_steps new_past steps) number s
ends_so rs false calls steps number s = s

-- a page is confirmed
confirms_so : (rs : List RestoredCall) (o : Option ConfirmedPage) (calls : List (List Confirmation)) (steps : List Step) (number : ℕ) → So rs true calls (after_steps new_past steps) number →
    So rs true (with_confirmed o calls) (after_steps new_past (confirms_if number o steps)) number
confirms_so rs None calls steps number s = s
confirms_so rs (Some c) [] steps number s = s
confirms_so rs (Some c) (cs ∷ calls) steps number s =
    let step : Step = Confirms number c.page c.closes in
    record {
      old = s.old;
      since = step ∷ s.since;
      past_is = ap (λ (p : Past). after_step p step) s.past_is;
      in_call = (refl, s.in_call);
      same = ap (λ (xs : List Confirmation). xs ++ record { page = c.page; closes = c.closes } ∷ []) s.same;
      none_open = s.none_open;
      before = s.before;
      number_is = s.number_is;
    }

-- a tick of the calling leg
abbrev heard_of : ℕ → TickResult → List Step → List Step
heard_of number t steps = ends_if t.ended (confirms_if number (confirmed_by t.given) steps)

abbrev TickSo : List RestoredCall → List (List Confirmation) → List Step → ℕ → TickResult → Type 0
TickSo rs calls steps number t = So rs (not (is_idle t.core.state)) (with_confirmed (confirmed_by t.given) calls) (after_steps new_past (heard_of number t steps)) number

tick_so : (rs : List RestoredCall) (l : CallingLeg) (now : ℕ) (calls : List (List Confirmation)) (steps : List Step) → IfRests (Some l) → So rs (not (is_idle (core_of l).state)) calls (after_steps new_past steps) l.number →
    TickSo rs calls steps l.number (answers l now)
tick_so rs l now calls steps r s = by (is_idle (core_of l).state) refl s
  where
    a : AnswererCore
    a = core_of l

    by : (b : Bool) → is_idle (core_of l).state ≡ b → So rs (not b) calls (after_steps new_past steps) l.number → TickSo rs calls steps l.number (answers l now)
    by true e s =
        subst (TickSo rs calls steps l.number) (sym (idle_tick (core_of l) now e r))
        (subst (λ (b : Bool). So rs (not b) calls (after_steps new_past steps) l.number) (sym e) s)
    by false e s =
        let t : TickResult = answers l now in
        subst (λ (b : Bool). So rs (not b) (with_confirmed (confirmed_by t.given) calls) (after_steps new_past (heard_of l.number t steps)) l.number) (sym (busy_tick (core_of l) now e))
        (ends_so rs t.ended (with_confirmed (confirmed_by t.given) calls) (confirms_if l.number (confirmed_by t.given) steps) l.number
        (confirms_so rs (confirmed_by t.given) calls steps l.number s))

abbrev number_of : Option CallingLeg → ℕ
number_of None = 0
number_of (Some l) = l.number

heard_so : (setup : Setup) (o : Option CallingLeg) (now at : ℕ) (given : Given) (calls : List (List Confirmation)) (steps : List Step) → IfRests o → So setup.restored (not (idle_after o)) calls (after_steps new_past steps) (number_of o) →
    So setup.restored (not (idle_after (calling_after setup o now (Tick at given)))) (with_confirmed (confirmed_at o now) calls) (after_steps new_past (heard_in_tick o now steps)) (number_of (calling_after setup o now (Tick at given)))
heard_so setup None now at given calls steps r s = s
heard_so setup (Some l) now at given calls steps r s = tick_so setup.restored l now calls steps r s

if_sends_so : (setup : Setup) (writes : Writing) (now : ℕ) (s : BothLegs) (on : Bool) (calls : List (List Confirmation)) (number : ℕ) → So setup.restored on calls (past_of s) number → So setup.restored on calls (past_of (sends_if setup writes now s)) number
if_sends_so setup writes now s on calls number k = by (begins_next setup s.leg)
  where
    by : (b : Bool) → So setup.restored on calls (past_of (if◌then◌else◌ {A = BothLegs} b (sends true setup writes now s) s)) number
    by true = sends_so setup.restored on calls (past_of s) number k
    by false = k

enters_so : (rs : List RestoredCall) (delivered : ℕ) (o : Option Outcome) (steps : List Step) (on : Bool) (calls : List (List Confirmation)) (number : ℕ) → So rs on calls (after_steps new_past steps) number → So rs on calls (after_steps new_past (enters delivered o steps)) number
enters_so rs delivered None steps on calls number k = k
enters_so rs delivered (Some outcome) steps on calls number k = ended_so rs on calls (after_steps new_past steps) number outcome delivered k

-- a datagram of the calling leg
with_number : (l : CallingLeg) (now : ℕ) (read : Reading) (r : Result DatagramValue UdptlFault) → (leg_with l now read r).number ≡ l.number
with_number l now read (Ok d) = refl
with_number l now read (Err f) = refl

came_so : (setup : Setup) (o : Option CallingLeg) (now : ℕ) (octets : List ℕ) (at : ℕ) (decided : Bool) (read : Reading) (calls : List (List Confirmation)) (steps : List Step) → So setup.restored (not (idle_after o)) calls (after_steps new_past steps) (number_of o) →
    let new : Option CallingLeg = calling_after setup o now (FromCalling octets at decided read) in
    So setup.restored (not (idle_after new)) calls (after_steps new_past (ends_if (not (idle_after o) && idle_after new) steps)) (number_of new)
came_so setup None now octets at decided read calls steps s = s
came_so setup (Some l) now octets at decided read calls steps s = by (is_idle (core_of l).state) refl s
  where
    m : CallingLeg
    m = leg_with l now read (datagram_of octets)

    by : (b : Bool) → is_idle (core_of l).state ≡ b → So setup.restored (not b) calls (after_steps new_past steps) l.number →
        let new : Option CallingLeg = if◌then◌else◌ {A = Option CallingLeg} b (Some l) (Some (leg_with l now read (datagram_of octets))) in
        So setup.restored (not (idle_after new)) calls (after_steps new_past (ends_if (not b && idle_after new) steps)) (number_of new)
    by true e s = subst (λ (b : Bool). So setup.restored (not b) calls (after_steps new_past steps) l.number) (sym e) s
    by false e s =
        let idle : Bool = is_idle (core_of m).state in
        subst (λ (n : ℕ). So setup.restored (not idle) calls (after_steps new_past (ends_if idle steps)) n) (sym (with_number l now read (datagram_of octets)))
        (ends_so setup.restored idle calls steps l.number s)

-- a ring
rings_are : (setup : Setup) (trace : List Event) → rings trace ≡ length (calls_of setup trace)
rings_are setup [] = refl
rings_are setup (Ring at n ∷ earlier) = let e : rings earlier ≡ length (calls_of setup earlier) = rings_are setup earlier in omega arith
rings_are setup (FromCalling octets at d read ∷ earlier) = rings_are setup earlier
rings_are setup (FromCalled octets at d ∷ earlier) = rings_are setup earlier
rings_are setup (Placed at connected ∷ earlier) = rings_are setup earlier
rings_are setup (Tick at given ∷ earlier) = rings_are setup earlier ∙ sym (by (confirmed_at (calling_leg setup earlier) (clock (Tick at given ∷ earlier))) (calls_of setup earlier))
  where
    by : (o : Option ConfirmedPage) (calls : List (List Confirmation)) → length (with_confirmed o calls) ≡ length calls
    by None calls = refl
    by (Some c) [] = refl
    by (Some c) (cs ∷ calls) = refl

begun_so : (setup : Setup) (o : Option CallingLeg) (now at number : ℕ) (calls : List (List Confirmation)) (past : Past) → number ≡ length calls → So setup.restored false calls past (number_of o) →
    So setup.restored (not (idle_after (calling_after setup o now (Ring at number)))) ([] ∷ calls) past (number_of (calling_after setup o now (Ring at number)))
begun_so setup None now at number calls past e s =
    record { old = past; since = []; past_is = refl; in_call = tt; same = refl; none_open = s.1; before = s.0; number_is = e }
begun_so setup (Some l) now at number calls past e s =
    record { old = past; since = []; past_is = refl; in_call = tt; same = refl; none_open = s.1; before = s.0; number_is = e }

book_so : (setup : Setup) (writes : Writing) (trace : List Event) → IsTrace setup writes trace → So setup.restored (not (idle_after (calling_leg setup trace))) (calls_of setup trace) (past_of (both_legs setup writes trace)) (number_of (calling_leg setup trace))
book_so setup writes [] t =
    let c : AreCut setup.restored new_past (past_of (both_legs setup writes [])) = restored_cut setup.restored [] refl in
    (subst (AreCutsOfRestored setup.restored) (sym c.jobs_are) c.cut, c.none_open)
book_so setup writes (Ring at n ∷ earlier) t =
    let o : Option CallingLeg = calling_leg setup earlier in
    begun_so setup o (clock (Ring at n ∷ earlier)) at n (calls_of setup earlier) (past_of (both_legs setup writes earlier)) (t.0.0 ∙ rings_are setup earlier)
    (subst (λ (b : Bool). So setup.restored (not b) (calls_of setup earlier) (past_of (both_legs setup writes earlier)) (number_of o)) t.0.2 (book_so setup writes earlier t.1))
book_so setup writes (FromCalling octets at decided read ∷ earlier) t =
    came_so setup (calling_leg setup earlier) (clock (FromCalling octets at decided read ∷ earlier)) octets at decided read (calls_of setup earlier) (both_legs setup writes earlier).steps (book_so setup writes earlier t.1)
book_so setup writes (FromCalled octets at decided ∷ earlier) t = by (calling_leg setup earlier) (book_so setup writes earlier t.1)
  where
    by : (o : Option CallingLeg) → So setup.restored (not (idle_after o)) (calls_of setup earlier) (past_of (both_legs setup writes earlier)) (number_of o) →
        let new : Option CallingLeg = calling_after setup o (clock (FromCalled octets at decided ∷ earlier)) (FromCalled octets at decided) in
        So setup.restored (not (idle_after new)) (calls_of setup earlier) (past_of (both_legs setup writes earlier)) (number_of new)
    by None s = s
    by (Some l) s = s
book_so setup writes (Placed at connected ∷ earlier) t = by (calling_leg setup earlier) (book_so setup writes earlier t.1)
  where
    by : (o : Option CallingLeg) → So setup.restored (not (idle_after o)) (calls_of setup earlier) (past_of (both_legs setup writes earlier)) (number_of o) →
        let new : Option CallingLeg = calling_after setup o (clock (Placed at connected ∷ earlier)) (Placed at connected) in
        So setup.restored (not (idle_after new)) (calls_of setup earlier) (past_of (both_legs setup writes (Placed at connected ∷ earlier))) (number_of new)
    by None s = sends_so setup.restored false (calls_of setup earlier) (past_of (both_legs setup writes earlier)) 0 s
    by (Some l) s = sends_so setup.restored (not (idle_after (Some l))) (calls_of setup earlier) (past_of (both_legs setup writes earlier)) l.number s
book_so setup writes (Tick at given ∷ earlier) t =
    let now : ℕ = max at (clock earlier) in
    let o : Option CallingLeg = calling_leg setup earlier in
    let new : Option CallingLeg = calling_leg setup (Tick at given ∷ earlier) in
    let s : BothLegs = both_legs setup writes earlier in
    let z : BothLegs = in_tick setup writes earlier at in
    let calls : List (List Confirmation) = with_confirmed (confirmed_at o now) (calls_of setup earlier) in
    enters_so setup.restored (delivered_told writes z.leg now) (outcome_told writes z.leg now) z.steps (not (idle_after new)) calls (number_of new)
    (if_sends_so setup writes now (record s { steps = heard_in_tick o now s.steps }) (not (idle_after new)) calls (number_of new)
    (heard_so setup o now at given (calls_of setup earlier) s.steps (rests_of setup earlier) (book_so setup writes earlier t.1)))

book_is : (rs : List RestoredCall) (on : Bool) (calls : List (List Confirmation)) (past : Past) (number : ℕ) → So rs on calls past number → IsBookOf rs on calls past
book_is rs false calls past number s = s
book_is rs true [] past number s = s
book_is rs true (cs ∷ calls) past number s =
    let e = (cuts_each_call s.old number s.since s.none_open s.in_call).0 in
    let open_is : past.book.open_job ≡ (after_steps s.old s.since).book.open_job = ap (λ (p : Past). p.book.open_job) s.past_is in
    record {
      old = jobs_of s.old;
      own = e.jobs;
      jobs_are = ap jobs_of s.past_is ∙ e.closes.jobs_are;
      cut = subst (λ (n : ℕ). IsCutSoFar n cs e.jobs past.book.open_job) s.number_is
          (subst (λ (xs : List Confirmation). IsCutSoFar number xs e.jobs past.book.open_job) s.same
          (subst (λ (o : Option JobValue). IsCutSoFar number (confirmations s.since) e.jobs o) (sym open_is) e.cut));
      before = s.before;
    }

pub jobs_are_cut : JobsAreCut
jobs_are_cut setup writes trace t =
    book_is setup.restored (not (idle_after (calling_leg setup trace))) (calls_of setup trace) (past_of (both_legs setup writes trace)) (number_of (calling_leg setup trace)) (book_so setup writes trace t)
