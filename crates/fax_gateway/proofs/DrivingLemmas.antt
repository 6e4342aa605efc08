-- Logs that follow one another.
use Rattle.std.proofs.Common.{◌≡◌, ℕ, ◌+◌, ◌*◌, ◌^◌, ◌<◌, ◌≤◌, ◌↔◌, min, take, IsTrue, suc, inl, inr, nat_eq, Bool, true, false, not, cond, List, [], ◌∷◌, ◌++◌, Option, Some, None, Result, Ok, Err, IfOk, OnErr, refl, sym, ◌∙◌, ap, subst, length, length-append, append_assoc, zero-add, arith}
use Rattle.std.specs.Result.{is_ok, is_err}
use Rattle.std.specs.List.{All, count_by, list_any}
use Rattle.std.proofs.lemmas.List.Elements.{All-head, All-tail}
use mir.Val.{bool_byte}
use Rattle.std.proofs.lemmas.Bool.{false≢true}
use Rattle.std.proofs.Math.Nat.{lt_of_not-le}
use Rattle.fax_gateway.specs.Setups.{Setup}
use Rattle.fax_gateway.specs.declared.driven.Driven.{Driven}
use Rattle.std.proofs.lemmas.List.Sums.{sum_by-append, sum_by-cons, count_by-le-length}
use Rattle.std.proofs.lemmas.Grind.{flat_map-append}
use Rattle.std.proofs.Math.Seq.{take-append_seam}
use Rattle.fax_bits.specs.declared.memory.NoMemory.{NoMemory}
use Rattle.fax_gateway.specs.declared.leg.Leg.{Leg}
use Rattle.fax_gateway.specs.declared.leg.Leg.TheVariants as legs
use Rattle.fax_gateway.specs.declared.wire.WireFault.{WireFault}
use Rattle.fax_gateway.specs.declared.fault.RingFault.{RingFault}
use Rattle.fax_gateway.specs.declared.fault.RingFault.TheVariants as ring_faults
use Rattle.fax_gateway.specs.Events.{Event, Ring, FromCalling, FromCalled, Tick, Placed, rings}
use Rattle.fax_call.specs.Writings.{Writing}
use Rattle.fax_gateway.specs.Reached.{GatewayValue}
use Rattle.fax_gateway.specs.CallingLegs.{calling_leg, decided_calling, idle_after}
use Rattle.fax_gateway.specs.CalledLegs.{decided_called}
use Rattle.fax_gateway.specs.BothLegs.{both_legs}
use Rattle.fax_gateway.specs.Reached.{HearsFrom, IsReachedBy, refusals_if, refusing}
use Rattle.fax_gateway.specs.Wires.{KnownWire, Came, Nothing, Failed, Grows, buffer_octets, greatest_count, failures_after, receipt_of}
use Rattle.fax_gateway.proofs.Steps.{reached_refusing}
use Rattle.fax_gateway.specs.Driving.{Entry, AreWanting, IsWanting, Accepts, GivesNoDatagram, moment_of, AreReceives, AreRounds, HasFailed, IsRing, IsRingIf, IsRingRefused, IsRound, IsTick, IsTurn, RefusesRing, Tells, log_of, is_refused_ring, RefusesDatagram, RefusesTick, ReceivesNothing, FailsToReceive, Sends, DriverValue, Carries, Happens, HasMade, RiseAlike, Steps, WireGoes, GoesBy, GoesByEvent, Comes, IsHanded, IsSent, counted, events, events_in, failed_in_a_row, most_failed, receipts, receipts_in, sent, sent_in, is_failed_receive, is_failed_send, is_refused_event}

pub grows_more : {A : Type 0} (older newer : List A) (a b c : Option (List A)) → Grows older a b → Grows newer b c → Grows (newer ++ older) a c
grows_more older newer a b None first second = tt
grows_more {A} older newer a b (Some told) first (mid, is, same) =
    let f : Grows older a (Some mid) = subst (λ (x : Option (List A)). Grows older a x) is first in
    (f.0, f.1, same ∙ ap (λ (l : List A). newer ++ l) f.2 ∙ sym (append_assoc newer older f.0))

pub grows_none : {A : Type 0} (a : Option (List A)) → Grows [] a a
grows_none None = tt
grows_none (Some told) = (told, refl, refl)

pub grows_as : {A : Type 0} (l k : List A) (a b : Option (List A)) → l ≡ k → Grows l a b → Grows k a b
grows_as {A} l k a b is g = subst (λ (x : List A). Grows x a b) is g

pub count_by-append : {X : Type 0} (p : X → Bool) (xs ys : List X) → count_by p (xs ++ ys) ≡ count_by p xs + count_by p ys
count_by-append p xs ys = sum_by-append (λ x. cond (p x) 1 0) xs ys

pub count_none : {X : Type 0} (p : X → Bool) (x : X) (xs : List X) → p x ≡ false → count_by p (x ∷ xs) ≡ count_by p xs
count_none p x xs h = sum_by-cons (λ y. cond (p y) 1 0) x xs ∙ ap (λ b. cond b 1 0 + count_by p xs) h ∙ zero-add (count_by p xs)

pub count_one : {X : Type 0} (p : X → Bool) (x : X) (xs : List X) → p x ≡ true → count_by p (x ∷ xs) ≡ count_by p xs + 1
count_one p x xs h =
    let e = sum_by-cons (λ y. cond (p y) 1 0) x xs ∙ ap (λ b. cond b 1 0 + count_by p xs) h in
    omega arith

-- one more, where a count may have stopped
pub counts_on : (g m n k : ℕ) → m ≡ min n g → k ≡ n + 1 → min (m + 1) g ≡ min k g
counts_on g m n k = omega arith

-- the failures of both, where the count did not stop
pub rises : (g a b c m n : ℕ) → (b < g → b ≡ a + m) → (c < g → c ≡ b + n) → c < g → c ≡ a + (n + m)
rises g a b c m n first second low =
    let e = second low in
    let f = first (omega arith) in
    omega arith

pub rises_by_one : (g a b : ℕ) → b ≡ min (a + 1) g → b < g → b ≡ a + 1
rises_by_one g a b = omega arith

pub carries_more : (older newer : List Entry) (a b c : KnownWire) → Carries older a b → Carries newer b c → Carries (newer ++ older) a c
carries_more older newer a b c first second = record {
  received = grows_as (receipts newer ++ receipts older) (receipts (newer ++ older)) a.received c.received (sym (flat_map-append receipts_in newer older)) (grows_more (receipts older) (receipts newer) a.received b.received c.received first.received second.received);
  sent = grows_as (sent newer ++ sent older) (sent (newer ++ older)) a.sent c.sent (sym (flat_map-append sent_in newer older)) (grows_more (sent older) (sent newer) a.sent b.sent c.sent first.sent second.sent);
  failures = λ low.
      let e = rises greatest_count a.failures b.failures c.failures _ _ first.failures second.failures low in
      let r = count_by-append is_failed_receive newer older in
      let s = count_by-append is_failed_send newer older in
      omega arith;
}

pub reached_more : (setup : Setup) (writes : Writing) (older newer : List Entry) (trace : List Event) (g : GatewayValue) → IsReachedBy setup writes (events newer ++ (events older ++ trace)) g → IsReachedBy setup writes (events (newer ++ older) ++ trace) g
reached_more setup writes older newer trace g r =
    subst (λ (t : List Event). IsReachedBy setup writes t g) (sym (append_assoc (events newer) (events older) trace) ∙ ap (λ (l : List Event). l ++ trace) (sym (flat_map-append events_in newer older))) r

pub wanting_more : (setup : Setup) (writes : Writing) (older newer : List Entry) (trace : List Event) → AreWanting setup writes trace older → AreWanting setup writes (events older ++ trace) newer → AreWanting setup writes trace (newer ++ older)
wanting_more setup writes older [] trace first second = first
wanting_more setup writes older (e ∷ newer) trace first second = (
  subst (λ (t : List Event). IsWanting setup writes t e) (sym (append_assoc (events newer) (events older) trace) ∙ ap (λ (l : List Event). l ++ trace) (sym (flat_map-append events_in newer older))) second.0,
  wanting_more setup writes older newer trace first second.1,
)

pub happens_more :
    (setup : Setup) (writes : Writing) (older newer : List Entry) (trace : List Event) (g h : GatewayValue) (a b c : KnownWire)
    → Happens setup writes older trace g a b → Happens setup writes newer (events older ++ trace) h b c → Happens setup writes (newer ++ older) trace h a c
happens_more setup writes older newer trace g h a b c first second = record {
  reached = reached_more setup writes older newer trace h second.reached;
  wanting = wanting_more setup writes older newer trace first.wanting second.wanting;
  carried = carries_more older newer a b c first.carried second.carried;
}

pub steps_more :
    (setup : Setup) (writes : Writing) (older newer : List Entry) (trace : List Event) (earlier : List Entry) (g h : GatewayValue) (a b c : KnownWire) (d e : DriverValue)
    → Steps setup writes older trace earlier g a b d → Steps setup writes newer (events older ++ trace) (older ++ earlier) h b c e
    → Steps setup writes (newer ++ older) trace earlier h a c e
steps_more setup writes older newer trace earlier g h a b c d e first second = record {
  happens = happens_more setup writes older newer trace g h a b c first.happens second.happens;
  made = subst (λ (l : List Entry). HasMade l e) (sym (append_assoc newer older earlier)) second.made;
}

-- ---- what is refused is counted

pub alike_none : (g g' e e' : ℕ) → g' ≡ g → e' ≡ e → RiseAlike g g' e e'
alike_none g g' e e' is same = (0, λ _. omega arith, λ _. omega arith)

pub alike_by : (refused : Bool) (g g' e e' : ℕ) → g' ≡ refusals_if refused g → e' ≡ refusals_if refused e → RiseAlike g g' e e'
alike_by true g g' e e' is same = (1, rises_by_one greatest_count g g' is, rises_by_one greatest_count e e' same)
alike_by false g g' e e' is same = alike_none g g' e e' is same

-- a datagram that was not accepted is one that was refused
pub counts_refused : (g g' : ℕ) (r : Result Bool NoMemory) (accepted : Bool) → accepted ≡ is_ok r → g' ≡ refusals_if (is_err r) g → g' ≡ refusals_if (not accepted) g
counts_refused g g' (Ok decided) accepted is same = same ∙ ap (λ b. refusals_if (not b) g) (sym is)
counts_refused g g' (Err fault) accepted is same = same ∙ ap (λ b. refusals_if (not b) g) (sym is)

pub alike_more : (g h i d e f : ℕ) → RiseAlike g h d e → RiseAlike h i e f → RiseAlike g i d f
alike_more g h i d e f (m, first, one) (n, second, two) = (n + m, rises greatest_count g h i m n first second, rises greatest_count d e f m n one two)

asked_more : (g a b c n : ℕ) → a ≡ min b g → c ≡ a + n → (m : ℕ) → c ≡ min (m + b) g → c < g → n ≡ m
asked_more g a b c n was rise m is low = omega arith

pub asked_each : (log earlier : List Entry) (old new : DriverValue) (refusals refusals' : ℕ) → HasMade earlier old → HasMade (log ++ earlier) new
    → RiseAlike refusals refusals' old.events_refused new.events_refused → refusals' < greatest_count → new.events_refused < greatest_count
    → refusals' ≡ refusals + count_by is_refused_event log
asked_each log earlier old new refusals refusals' was made (n, first, second) low few =
    let m : ℕ = count_by is_refused_event log in
    let e = asked_more greatest_count old.events_refused (count_by is_refused_event earlier) new.events_refused n was.events_refused (second few) m
    (made.events_refused ∙ ap counted (count_by-append is_refused_event log earlier)) few in
    first low ∙ ap (λ k. refusals + k) e

-- ---- what the wire goes through

pub wire_more : {W : Type 0} (receives : Leg → W → W → Type 0) (sends : Leg → List ℕ → Bool → W → W → Type 0) (older newer : List Entry) (a b c : W)
    → WireGoes receives sends older a b → WireGoes receives sends newer b c → WireGoes receives sends (newer ++ older) a c
wire_more receives sends older [] a b c first second = subst (λ w. WireGoes receives sends older a w) (sym second) first
wire_more receives sends older (e ∷ newer) a b c first second = (second.0, wire_more receives sends older newer a b second.0 first second.1, second.2)

pub wire_by : {W : Type 0} (receives : Leg → W → W → Type 0) (sends : Leg → List ℕ → Bool → W → W → Type 0) (e : Entry) (a b : W)
    → GoesBy receives sends e a b → WireGoes receives sends (e ∷ []) a b
wire_by receives sends e a b by = (a, refl, by)

-- a datagram that came was received on its leg
pub wire_came : {W : Type 0} (receives : Leg → W → W → Type 0) (sends : Leg → List ℕ → Bool → W → W → Type 0) (at : Leg) (now : ℕ) (e : Entry) (a b : W)
    → Comes at now e → receives at a b → WireGoes receives sends (e ∷ []) a b
wire_came receives sends at now (Accepts (Ring moment number)) a b comes by = absurd comes
wire_came receives sends at now (Accepts (FromCalling octets moment decided read)) a b comes by = (a, refl, subst (λ (s : Leg). receives s a b) comes.0 by)
wire_came receives sends at now (Accepts (FromCalled octets moment decided)) a b comes by = (a, refl, subst (λ (s : Leg). receives s a b) comes.0 by)
wire_came receives sends at now (Accepts (Placed moment connected)) a b comes by = absurd comes
wire_came receives sends at now (Accepts (Tick moment given)) a b comes by = absurd comes
wire_came receives sends at now (RefusesRing fault) a b comes by = absurd comes
wire_came receives sends at now (RefusesDatagram on octets) a b comes by = (a, refl, subst (λ (s : Leg). receives s a b) (sym comes) by)
wire_came receives sends at now (RefusesTick moment) a b comes by = absurd comes
wire_came receives sends at now (ReceivesNothing on) a b comes by = absurd comes
wire_came receives sends at now (FailsToReceive on) a b comes by = absurd comes
wire_came receives sends at now (Sends on octets fails) a b comes by = absurd comes

-- what is shown of a wire goes so too, where each of its calls does
by_event_shown : {W V : Type 0} (shown : W → V) (receives : Leg → W → W → Type 0) (receives' : Leg → V → V → Type 0) (event : Event) (a b : W)
    → ((at : Leg) (old new : W) → receives at old new → receives' at (shown old) (shown new)) → GoesByEvent receives event a b → GoesByEvent receives' event (shown a) (shown b)
by_event_shown shown receives receives' (Ring now number) a b on_receive by = ap shown by
by_event_shown shown receives receives' (FromCalling octets now decided read) a b on_receive by = on_receive legs.Calling a b by
by_event_shown shown receives receives' (FromCalled octets now decided) a b on_receive by = on_receive legs.Called a b by
by_event_shown shown receives receives' (Placed now connected) a b on_receive by = ap shown by
by_event_shown shown receives receives' (Tick now given) a b on_receive by = ap shown by

by_shown : {W V : Type 0} (shown : W → V) (receives : Leg → W → W → Type 0) (sends : Leg → List ℕ → Bool → W → W → Type 0) (receives' : Leg → V → V → Type 0) (sends' : Leg → List ℕ → Bool → V → V → Type 0)
    (e : Entry) (a b : W) → ((at : Leg) (old new : W) → receives at old new → receives' at (shown old) (shown new))
    → ((at : Leg) (octets : List ℕ) (is_sent : Bool) (old new : W) → sends at octets is_sent old new → sends' at octets is_sent (shown old) (shown new))
    → GoesBy receives sends e a b → GoesBy receives' sends' e (shown a) (shown b)
by_shown shown receives sends receives' sends' (Accepts event) a b on_receive on_send by = by_event_shown shown receives receives' event a b on_receive by
by_shown shown receives sends receives' sends' (RefusesRing fault) a b on_receive on_send by = ap shown by
by_shown shown receives sends receives' sends' (RefusesDatagram at octets) a b on_receive on_send by = on_receive at a b by
by_shown shown receives sends receives' sends' (RefusesTick now) a b on_receive on_send by = ap shown by
by_shown shown receives sends receives' sends' (ReceivesNothing at) a b on_receive on_send by = on_receive at a b by
by_shown shown receives sends receives' sends' (FailsToReceive at) a b on_receive on_send by = on_receive at a b by
by_shown shown receives sends receives' sends' (Sends at octets fails) a b on_receive on_send by = on_send at octets (not fails) a b by

pub wire_shown : {W V : Type 0} (shown : W → V) (receives : Leg → W → W → Type 0) (sends : Leg → List ℕ → Bool → W → W → Type 0) (receives' : Leg → V → V → Type 0) (sends' : Leg → List ℕ → Bool → V → V → Type 0)
    (log : List Entry) (a b : W) → ((at : Leg) (old new : W) → receives at old new → receives' at (shown old) (shown new))
    → ((at : Leg) (octets : List ℕ) (is_sent : Bool) (old new : W) → sends at octets is_sent old new → sends' at octets is_sent (shown old) (shown new))
    → WireGoes receives sends log a b → WireGoes receives' sends' log (shown a) (shown b)
wire_shown shown receives sends receives' sends' [] a b on_receive on_send goes = ap shown goes
wire_shown shown receives sends receives' sends' (e ∷ earlier) a b on_receive on_send goes = (
  shown goes.0,
  wire_shown shown receives sends receives' sends' earlier a goes.0 on_receive on_send goes.1,
  by_shown shown receives sends receives' sends' e goes.0 b on_receive on_send goes.2,
)

-- ---- one entry

pub carries_none : (a : KnownWire) → Carries [] a a
carries_none a = record { received = grows_none a.received; sent = grows_none a.sent; failures = λ _. omega arith }

pub steps_none : (setup : Setup) (writes : Writing) (trace : List Event) (earlier : List Entry) (g : GatewayValue) (a : KnownWire) (d : DriverValue)
    → IsReachedBy setup writes trace g → HasMade earlier d → Steps setup writes [] trace earlier g a a d
steps_none setup writes trace earlier g a d reached made = record { happens = record { reached = reached; wanting = tt; carried = carries_none a }; made = made }

-- an entry that the wire does not see
pub carries_unseen : (e : Entry) (a : KnownWire) → receipts_in e ≡ [] → sent_in e ≡ [] → is_failed_receive e ≡ false → is_failed_send e ≡ false → Carries (e ∷ []) a a
carries_unseen e a r s f n = record {
  received = grows_as [] (receipts (e ∷ [])) a.received a.received (ap (λ l. l ++ []) (sym r)) (grows_none a.received);
  sent = grows_as [] (sent (e ∷ [])) a.sent a.sent (ap (λ l. l ++ []) (sym s)) (grows_none a.sent);
  failures = λ _. let x = count_none is_failed_receive e [] f in let y = count_none is_failed_send e [] n in omega arith;
}

-- a receive, by what it answered
pub carries_datagram :
    (at : Leg) (buffer octets : List ℕ) (count : ℕ) (e : Entry) (a b : KnownWire) (r : Result (Option ℕ) WireFault)
    → r ≡ Ok (Some count) → length buffer ≡ buffer_octets → octets ≡ take count buffer → (accepted : Bool) → IsHanded accepted at octets e
    → b.failures ≡ failures_after a.failures r → Grows (receipt_of at buffer r ∷ []) a.received b.received → Grows [] a.sent b.sent → Carries (e ∷ []) a b
carries_datagram at buffer octets count e a b r is room same accepted h failures received sent_on = record {
  received = grows_as (receipt_of at buffer r ∷ []) (receipts (e ∷ [])) a.received b.received (ap (λ x. receipt_of at buffer x ∷ []) is ∙ ap (λ n. Came at n (take count buffer) ∷ []) room ∙ ap (λ o. Came at buffer_octets o ∷ []) (sym same) ∙ ap (λ l. l ++ []) (sym h.receipt)) received;
  sent = grows_as [] (sent (e ∷ [])) a.sent b.sent (ap (λ l. l ++ []) (sym h.none_sent)) sent_on;
  failures = λ _.
      let x = count_none is_failed_receive e [] h.received in
      let y = count_none is_failed_send e [] h.sends_none in
      let z = failures ∙ ap (failures_after a.failures) is in
      omega arith;
}

pub carries_nothing :
    (at : Leg) (buffer : List ℕ) (a b : KnownWire) (r : Result (Option ℕ) WireFault) → r ≡ Ok None → length buffer ≡ buffer_octets
    → b.failures ≡ failures_after a.failures r → Grows (receipt_of at buffer r ∷ []) a.received b.received → Grows [] a.sent b.sent → Carries (ReceivesNothing at ∷ []) a b
carries_nothing at buffer a b r is room failures received sent = record {
  received = grows_as (receipt_of at buffer r ∷ []) (receipts (ReceivesNothing at ∷ [])) a.received b.received (ap (λ x. receipt_of at buffer x ∷ []) is ∙ ap (λ n. Nothing at n ∷ []) room) received;
  sent = sent;
  failures = λ _. let z = failures ∙ ap (failures_after a.failures) is in omega arith;
}

pub carries_failure :
    (at : Leg) (buffer : List ℕ) (a b : KnownWire) (r : Result (Option ℕ) WireFault) (fault : WireFault) → r ≡ Err fault → length buffer ≡ buffer_octets
    → b.failures ≡ failures_after a.failures r → Grows (receipt_of at buffer r ∷ []) a.received b.received → Grows [] a.sent b.sent → Carries (FailsToReceive at ∷ []) a b
carries_failure at buffer a b r fault is room failures received sent = record {
  received = grows_as (receipt_of at buffer r ∷ []) (receipts (FailsToReceive at ∷ [])) a.received b.received (ap (λ x. receipt_of at buffer x ∷ []) is ∙ ap (λ n. Failed at n ∷ []) room) received;
  sent = sent;
  failures = λ low. rises_by_one greatest_count a.failures b.failures (failures ∙ ap (failures_after a.failures) is) low;
}

-- a send, by whether it failed
pub carries_send :
    (at : Leg) (octets : List ℕ) (a b : KnownWire) (fails : Bool)
    → b.failures ≡ cond fails (min (a.failures + 1) greatest_count) a.failures → Grows [] a.received b.received → Grows (record { leg = at; octets = octets } ∷ []) a.sent b.sent
    → Carries (Sends at octets fails ∷ []) a b
carries_send at octets a b true failures received sent = record {
  received = received;
  sent = sent;
  failures = λ low. rises_by_one greatest_count a.failures b.failures failures low;
}
carries_send at octets a b false failures received sent = record {
  received = received;
  sent = sent;
  failures = λ _. omega arith;
}

-- ---- what a driver keeps of an entry

pub made_nothing : (log : List Entry) (at : Leg) (d : DriverValue) → HasMade log d
    → HasMade (ReceivesNothing at ∷ log) (record { failed_in_a_row = 0; events_refused = d.events_refused; receives_failed = d.receives_failed; sends_failed = d.sends_failed })
made_nothing log at d made = record {
  row = refl;
  events_refused = made.events_refused ∙ ap counted (sym (count_none is_refused_event (ReceivesNothing at) log refl));
  receives_failed = made.receives_failed ∙ ap counted (sym (count_none is_failed_receive (ReceivesNothing at) log refl));
  sends_failed = made.sends_failed ∙ ap counted (sym (count_none is_failed_send (ReceivesNothing at) log refl));
}

-- an entry that it does not count
pub made_unseen : (log : List Entry) (e : Entry) (d : DriverValue) → receipts_in e ≡ [] → is_refused_event e ≡ false → is_failed_receive e ≡ false → is_failed_send e ≡ false → HasMade log d → HasMade (e ∷ log) d
made_unseen log e d r v f n made = record {
  row = made.row ∙ ap (λ l. min (failed_in_a_row (l ++ receipts log)) most_failed) (sym r);
  events_refused = made.events_refused ∙ ap counted (sym (count_none is_refused_event e log v));
  receives_failed = made.receives_failed ∙ ap counted (sym (count_none is_failed_receive e log f));
  sends_failed = made.sends_failed ∙ ap counted (sym (count_none is_failed_send e log n));
}

pub made_refused_tick : (now : ℕ) (log : List Entry) (d : DriverValue) (k : ℕ) → k ≡ min (d.events_refused + 1) greatest_count → HasMade log d
    → HasMade (RefusesTick now ∷ log) (record { failed_in_a_row = d.failed_in_a_row; events_refused = k; receives_failed = d.receives_failed; sends_failed = d.sends_failed })
made_refused_tick now log d k is made = record {
  row = made.row;
  events_refused = is ∙ counts_on greatest_count d.events_refused (count_by is_refused_event log) _ made.events_refused (count_one is_refused_event (RefusesTick now) log refl);
  receives_failed = made.receives_failed ∙ ap counted (sym (count_none is_failed_receive (RefusesTick now) log refl));
  sends_failed = made.sends_failed ∙ ap counted (sym (count_none is_failed_send (RefusesTick now) log refl));
}

pub made_failed_send : (log : List Entry) (at : Leg) (octets : List ℕ) (d : DriverValue) (k : ℕ) → k ≡ min (d.sends_failed + 1) greatest_count → HasMade log d
    → HasMade (Sends at octets true ∷ log) (record { failed_in_a_row = d.failed_in_a_row; events_refused = d.events_refused; receives_failed = d.receives_failed; sends_failed = k })
made_failed_send log at octets d k is made = record {
  row = made.row;
  events_refused = made.events_refused ∙ ap counted (sym (count_none is_refused_event (Sends at octets true) log refl));
  receives_failed = made.receives_failed ∙ ap counted (sym (count_none is_failed_receive (Sends at octets true) log refl));
  sends_failed = is ∙ counts_on greatest_count d.sends_failed (count_by is_failed_send log) _ made.sends_failed (count_one is_failed_send (Sends at octets true) log refl);
}

-- ---- a datagram is handed on

-- where only what decides nothing is sure of an answer, what has none decides
pub must_decide : (decides : Bool) (r : Result Bool NoMemory) (fault : NoMemory) → r ≡ Err fault → (decides ≡ false → r ≡ Ok false) → decides ≡ true
must_decide true r fault is sure = refl
must_decide false r fault is sure = let e : r ≡ Ok false = sure refl in cc

abbrev pub HandsOn : Setup → Writing → List Event → Leg → List ℕ → ℕ → Bool → GatewayValue → Type 0
HandsOn setup writes trace at octets now accepted g = (e : Entry) × Comes at now e × IsHanded accepted at octets e × IsWanting setup writes trace e × IsReachedBy setup writes (events (e ∷ []) ++ trace) g

pub hands_on_calling :
    (setup : Setup) (writes : Writing) (trace : List Event) (octets : List ℕ) (now : ℕ) (old new : GatewayValue) (r : Result Bool NoMemory)
    → IfOk r (λ decided. (setup : Setup) (writes : Writing) (trace : List Event) → IsReachedBy setup writes trace old → HearsFrom setup writes trace octets now decided new)
    → ((setup : Setup) (writes : Writing) (trace : List Event) → IsReachedBy setup writes trace old → decided_calling (calling_leg setup trace) octets ≡ false → r ≡ Ok false)
    → OnErr r (new ≡ refusing old) → IsReachedBy setup writes trace old → HandsOn setup writes trace legs.Calling octets now (is_ok r) new
hands_on_calling setup writes trace octets now old new (Ok decided) heard memory err reached =
    let h = heard setup writes trace reached in
    (Accepts (FromCalling octets now decided h.read), (refl, refl), record { receipt = refl; refused = refl; none_sent = refl; received = refl; sends_none = refl }, tt, h.reached)
hands_on_calling setup writes trace octets now old new (Err fault) heard memory err reached =
    (RefusesDatagram legs.Calling octets, refl, record { receipt = refl; refused = refl; none_sent = refl; received = refl; sends_none = refl }, must_decide _ (Err fault) fault refl (memory setup writes trace reached), subst (λ (g : GatewayValue). IsReachedBy setup writes trace g) (sym err) (reached_refusing setup writes trace old reached))

pub hands_on_called :
    (setup : Setup) (writes : Writing) (trace : List Event) (octets : List ℕ) (now : ℕ) (old new : GatewayValue) (r : Result Bool NoMemory)
    → IfOk r (λ decided. (setup : Setup) (writes : Writing) (trace : List Event) → IsReachedBy setup writes trace old → IsReachedBy setup writes (FromCalled octets now decided ∷ trace) new)
    → ((setup : Setup) (writes : Writing) (trace : List Event) → IsReachedBy setup writes trace old → decided_called writes (both_legs setup writes trace).leg octets ≡ false → r ≡ Ok false)
    → OnErr r (new ≡ refusing old) → IsReachedBy setup writes trace old → HandsOn setup writes trace legs.Called octets now (is_ok r) new
hands_on_called setup writes trace octets now old new (Ok decided) heard memory err reached =
    (Accepts (FromCalled octets now decided), (refl, refl), record { receipt = refl; refused = refl; none_sent = refl; received = refl; sends_none = refl }, tt, heard setup writes trace reached)
hands_on_called setup writes trace octets now old new (Err fault) heard memory err reached =
    (RefusesDatagram legs.Called octets, refl, record { receipt = refl; refused = refl; none_sent = refl; received = refl; sends_none = refl }, must_decide _ (Err fault) fault refl (memory setup writes trace reached), subst (λ (g : GatewayValue). IsReachedBy setup writes trace g) (sym err) (reached_refusing setup writes trace old reached))

-- ---- sends

-- sends are no events
pub sends_no_event : (at : Leg) (given : Option (List ℕ)) (log : List Entry) → IsSent at given log → events log ≡ []
sends_no_event at None log is = ap events is
sends_no_event at (Some octets) log (fails, is) = ap events is

pub sends_want_nothing : (setup : Setup) (writes : Writing) (trace : List Event) (at : Leg) (given : Option (List ℕ)) (log : List Entry) → IsSent at given log → AreWanting setup writes trace log
sends_want_nothing setup writes trace at None log is = subst (λ (l : List Entry). AreWanting setup writes trace l) (sym is) tt
sends_want_nothing setup writes trace at (Some octets) log (fails, is) = subst (λ (l : List Entry). AreWanting setup writes trace l) (sym is) (tt, tt)

pub is_sent : (at : Leg) (given : Option (List ℕ)) (o octets : List ℕ) (fails : Bool) → given ≡ Some o → octets ≡ o → IsSent at given (Sends at octets fails ∷ [])
is_sent at given o octets fails is same =
    subst (λ (x : Option (List ℕ)). IsSent at x (Sends at octets fails ∷ [])) (sym is) (fails, ap (λ (y : List ℕ). Sends at y fails ∷ []) same)

pub steps_send :
    (setup : Setup) (writes : Writing) (at : Leg) (given : Option (List ℕ)) (log : List Entry) (trace : List Event) (earlier : List Entry) (g : GatewayValue) (a b : KnownWire) (d : DriverValue)
    → IsSent at given log → Carries log a b → HasMade (log ++ earlier) d → IsReachedBy setup writes trace g → Steps setup writes log trace earlier g a b d
steps_send setup writes at given log trace earlier g a b d is carried made reached = record {
  happens = record {
    reached = subst (λ (l : List Event). IsReachedBy setup writes (l ++ trace) g) (sym (sends_no_event at given log is)) reached;
    wanting = sends_want_nothing setup writes trace at given log is;
    carried = carried;
  };
  made = made;
}

-- what a buffer has in front, where the rest of its memory lies after it
pub take_front : (count len : ℕ) (front rest : List ℕ) → length front ≡ len → take count (take len (front ++ rest)) ≡ take count front
take_front count len front rest is = ap (λ (n : ℕ). take count (take n (front ++ rest))) (sym is) ∙ ap (take count) (take-append_seam front rest)

-- ---- a run

pub receives_are_few : (at : Leg) (now : ℕ) (log : List Entry) → AreReceives at now log → length log ≤ 16
receives_are_few at now log (inl (each, many)) = omega arith
receives_are_few at now log (inr (came, last, is, each, low, none)) = let e = ap length is in omega arith

pub sent_is_short : (at : Leg) (given : Option (List ℕ)) (log : List Entry) → IsSent at given log → length log ≤ 1
sent_is_short at None log is = let e = ap length is in omega arith
sent_is_short at (Some octets) log (fails, is) = let e = ap length is in omega arith

pub tick_is_short : (now : ℕ) (log : List Entry) → IsTick now log → length log ≤ 3
tick_is_short now log (inl (given, calling, called, first, second, is)) =
    let e = ap length is ∙ length-append called (calling ++ Accepts (Tick now given) ∷ []) in
    let f = length-append calling (Accepts (Tick now given) ∷ []) in
    let k = sent_is_short legs.Calling given.on_calling calling first in
    let l = sent_is_short legs.Called given.on_called called second in
    omega arith
tick_is_short now log (inr is) = let e = ap length is in omega arith

pub turn_is_short : (now : ℕ) (log : List Entry) → IsTurn now log → length log ≤ 35
turn_is_short now log t =
    let a = receives_are_few legs.Calling now t.calling t.on_calling in
    let b = receives_are_few legs.Called now t.called t.on_called in
    let k = tick_is_short now t.tick t.ticks in
    let e = ap length t.log_is ∙ length-append t.tick (t.called ++ t.calling) in
    let f = length-append t.called t.calling in
    omega arith

pub ring_is_short : (due : Bool) (now : ℕ) (log : List Entry) → IsRingIf due now log → length log ≤ 1
ring_is_short false now log is = let e = ap length is in omega arith
ring_is_short true now log (inl (number, is)) = let e = ap length is in omega arith
ring_is_short true now log (inr (fault, is)) = let e = ap length is in omega arith

pub round_is_short : (now : ℕ) (due : Bool) (log : List Entry) → IsRound now due log → length log ≤ 36
round_is_short now due log (ring, turn, is, rings, turns) =
    let e = ap length is ∙ length-append turn ring in
    let a = ring_is_short due now ring rings in
    let b = turn_is_short now turn turns in
    omega arith

pub rounds_are_short : (start : ℕ) (rings : List ℕ) (rounds : List (List Entry)) → AreRounds start rings rounds → length (log_of rounds) ≤ 36 * length rounds
rounds_are_short start rings [] all = omega arith
rounds_are_short start rings (round ∷ earlier) (is, goes, all) =
    let e = length-append round (log_of earlier) in
    let a = round_is_short _ _ round is in
    let b = rounds_are_short start rings earlier all in
    omega arith

-- no count stops in so many rounds
pub counts_whole : (p : Entry → Bool) (start : ℕ) (rings : List ℕ) (rounds : List (List Entry)) → AreRounds start rings rounds → length rounds < 2 ^ 32 → counted (count_by p (log_of rounds)) ≡ count_by p (log_of rounds)
counts_whole p start rings rounds all few =
    let a = rounds_are_short start rings rounds all in
    let b = count_by-le-length p (log_of rounds) in
    omega arith

-- a ring is not seen by the wire, nor by the driver
pub steps_ring :
    (setup : Setup) (writes : Writing) (due : Bool) (now : ℕ) (log : List Entry) (trace : List Event) (earlier : List Entry) (g : GatewayValue) (a : KnownWire) (d : DriverValue)
    → IsRingIf due now log → AreWanting setup writes trace log → IsReachedBy setup writes (events log ++ trace) g → HasMade earlier d → Steps setup writes log trace earlier g a a d
steps_ring setup writes false now log trace earlier g a d is wanting reached made = record {
  happens = record { reached = reached; wanting = wanting; carried = subst (λ (l : List Entry). Carries l a a) (sym is) (carries_none a) };
  made = subst (λ (l : List Entry). HasMade (l ++ earlier) d) (sym is) made;
}
steps_ring setup writes true now log trace earlier g a d (inl (number, is)) wanting reached made = record {
  happens = record { reached = reached; wanting = wanting; carried = subst (λ (l : List Entry). Carries l a a) (sym is) (carries_unseen (Accepts (Ring now number)) a refl refl refl refl) };
  made = subst (λ (l : List Entry). HasMade (l ++ earlier) d) (sym is) (made_unseen earlier (Accepts (Ring now number)) d refl refl refl refl made);
}
steps_ring setup writes true now log trace earlier g a d (inr (fault, is)) wanting reached made = record {
  happens = record { reached = reached; wanting = wanting; carried = subst (λ (l : List Entry). Carries l a a) (sym is) (carries_unseen (RefusesRing fault) a refl refl refl refl) };
  made = subst (λ (l : List Entry). HasMade (l ++ earlier) d) (sym is) (made_unseen earlier (RefusesRing fault) d refl refl refl refl made);
}

-- the cause of a ring that is refused
abbrev pub refuses : RingFault → Result ℕ RingFault
refuses fault = Err fault

same_fault : (a b : RingFault) → refuses a ≡ refuses b → a ≡ b
same_fault a b e = cc

pub refused_so :
    (setup : Setup) (trace : List Event) (fault : RingFault)
    → (refuses fault ≡ refuses ring_faults.Busy ↔ idle_after (calling_leg setup trace) ≡ false)
    → (idle_after (calling_leg setup trace) ≡ true → refuses fault ≡ refuses ring_faults.NoNumber ↔ 4294967296 ≤ rings trace)
    → IsRingRefused setup trace fault
refused_so setup trace fault busy none = (
  (λ e. busy.0 (ap refuses e), λ p. same_fault fault ring_faults.Busy (busy.1 p)),
  λ idle. (λ e. (none idle).0 (ap refuses e), λ p. same_fault fault ring_faults.NoNumber ((none idle).1 p)),
)

-- a ring, by its result
pub rings_so :
    (setup : Setup) (writes : Writing) (trace : List Event) (now : ℕ) (old new : GatewayValue) (r : Result ℕ RingFault)
    → IfOk r (λ number. (setup : Setup) (writes : Writing) (trace : List Event) → IsReachedBy setup writes trace old → IsReachedBy setup writes (Ring now number ∷ trace) new)
    → (r ≡ Err ring_faults.Busy ↔ idle_after (calling_leg setup trace) ≡ false)
    → (idle_after (calling_leg setup trace) ≡ true → r ≡ Err ring_faults.NoNumber ↔ 4294967296 ≤ rings trace)
    → OnErr r (new ≡ old) → IsReachedBy setup writes trace old
    → (log : List Entry) × IsRing now log × (count_by is_refused_ring log ≡ cond (is_err r) 1 0) × IsReachedBy setup writes (events log ++ trace) new × AreWanting setup writes trace log
rings_so setup writes trace now old new (Ok number) rung busy none err reached = (Accepts (Ring now number) ∷ [], inl (number, refl), refl, rung setup writes trace reached, (tt, tt))
rings_so setup writes trace now old new (Err fault) rung busy none err reached = (
  RefusesRing fault ∷ [],
  inr (fault, refl),
  refl,
  subst (λ (g : GatewayValue). IsReachedBy setup writes trace g) (sym err) reached,
  (refused_so setup trace fault busy none, tt),
)

-- what a run tells
pub tells :
    (wanted : ℕ) (start : ℕ) (rings : List ℕ) (rounds : List (List Entry)) (d : DriverValue) (refused : ℕ) (stopped : Bool)
    → AreRounds start rings rounds → HasMade (log_of rounds) d → refused ≡ count_by is_refused_ring (log_of rounds)
    → (IsTrue stopped ↔ HasFailed (log_of rounds)) → (stopped ≡ false → length rounds ≡ wanted) → length rounds ≤ wanted → wanted < 2 ^ 32
    → Tells wanted rounds (record { turns = length rounds; rings_refused = refused; events_refused = d.events_refused; sends_failed = d.sends_failed; receives_failed = d.receives_failed; stopped = stopped })
tells wanted start rings rounds d refused stopped all made same stops whole most few =
    let low : length rounds < 2 ^ 32 = omega arith in
    record {
      turns = refl;
      rings_refused = same;
      events_refused = made.events_refused ∙ counts_whole is_refused_event start rings rounds all low;
      sends_failed = made.sends_failed ∙ counts_whole is_failed_send start rings rounds all low;
      receives_failed = made.receives_failed ∙ counts_whole is_failed_receive start rings rounds all low;
      stopped = stops;
      all = whole;
      at_most = most;
    }

-- ---- a turn rings not

pub comes_no_ring : (at : Leg) (now : ℕ) (e : Entry) → Comes at now e → is_refused_ring e ≡ false
comes_no_ring at now (Accepts event) h = refl
comes_no_ring at now (RefusesRing fault) h = absurd h
comes_no_ring at now (RefusesDatagram on octets) h = refl
comes_no_ring at now (RefusesTick moment) h = refl
comes_no_ring at now (ReceivesNothing on) h = refl
comes_no_ring at now (FailsToReceive on) h = refl
comes_no_ring at now (Sends on octets fails) h = refl

pub all_come_no_ring : (at : Leg) (now : ℕ) (log : List Entry) → All (Comes at now) log → count_by is_refused_ring log ≡ 0
all_come_no_ring at now [] all = refl
all_come_no_ring at now (e ∷ log) all =
    count_none is_refused_ring e log (comes_no_ring at now e (All-head (Comes at now) e log all)) ∙ all_come_no_ring at now log (All-tail (Comes at now) e log all)

pub gives_no_ring : (at : Leg) (e : Entry) → GivesNoDatagram at e → is_refused_ring e ≡ false
gives_no_ring at e (inl is) = ap is_refused_ring is
gives_no_ring at e (inr is) = ap is_refused_ring is

pub receives_no_ring : (at : Leg) (now : ℕ) (log : List Entry) → AreReceives at now log → count_by is_refused_ring log ≡ 0
receives_no_ring at now log (inl (each, many)) = all_come_no_ring at now log each
receives_no_ring at now log (inr (came, last, is, each, low, none)) =
    ap (λ (l : List Entry). count_by is_refused_ring l) is ∙ count_none is_refused_ring last came (gives_no_ring at last none) ∙ all_come_no_ring at now came each

pub sends_no_ring : (at : Leg) (given : Option (List ℕ)) (log : List Entry) → IsSent at given log → count_by is_refused_ring log ≡ 0
sends_no_ring at None log is = ap (λ (l : List Entry). count_by is_refused_ring l) is
sends_no_ring at (Some octets) log (fails, is) = ap (λ (l : List Entry). count_by is_refused_ring l) is

pub tick_no_ring : (now : ℕ) (log : List Entry) → IsTick now log → count_by is_refused_ring log ≡ 0
tick_no_ring now log (inl (given, calling, called, first, second, is)) =
    let tick : List Entry = Accepts (Tick now given) ∷ [] in
    let e = ap (λ (l : List Entry). count_by is_refused_ring l) is ∙ count_by-append is_refused_ring called (calling ++ tick) in
    let f = count_by-append is_refused_ring calling tick in
    let a = sends_no_ring legs.Calling given.on_calling calling first in
    let b = sends_no_ring legs.Called given.on_called called second in
    let t : count_by is_refused_ring tick ≡ 0 = refl in
    omega arith
tick_no_ring now log (inr is) = ap (λ (l : List Entry). count_by is_refused_ring l) is

pub turn_no_ring : (now : ℕ) (log : List Entry) → IsTurn now log → count_by is_refused_ring log ≡ 0
turn_no_ring now log t =
    let e = ap (λ (l : List Entry). count_by is_refused_ring l) t.log_is ∙ count_by-append is_refused_ring t.tick (t.called ++ t.calling) in
    let f = count_by-append is_refused_ring t.called t.calling in
    let a = receives_no_ring legs.Calling now t.calling t.on_calling in
    let b = receives_no_ring legs.Called now t.called t.on_called in
    let k = tick_no_ring now t.tick t.ticks in
    omega arith

pub round_counts : (now : ℕ) (ring turn log : List Entry) (n k : ℕ) → IsTurn now turn → count_by is_refused_ring ring ≡ k → n ≡ count_by is_refused_ring log → n + k ≡ count_by is_refused_ring ((turn ++ ring) ++ log)
round_counts now ring turn log n k t r s =
    let e = count_by-append is_refused_ring (turn ++ ring) log in
    let f = count_by-append is_refused_ring turn ring in
    let z = turn_no_ring now turn t in
    omega arith

pub byte_is : (b : Bool) → bool_byte b ≡ cond b 1 0
byte_is true = refl
byte_is false = refl

-- ---- a round

pub record Rounds (setup : Setup) (writes : Writing) (start : ℕ) (rings : List ℕ) (rounds : List (List Entry)) (trace : List Event) (g : GatewayValue) (a b : KnownWire) (d : DriverValue) (refused : ℕ) : Type 0 where
  pub are : AreRounds start rings rounds
  pub happens : Happens setup writes (log_of rounds) trace g a b
  pub made : HasMade (log_of rounds) d
  pub refused_is : refused ≡ count_by is_refused_ring (log_of rounds)

pub round_more :
    (setup : Setup) (writes : Writing) (start turn_number now : ℕ) (rings : List ℕ) (due : Bool) (rounds : List (List Entry)) (ring turn : List Entry) (trace : List Event)
    (g h i : GatewayValue) (a b c : KnownWire) (d e : DriverValue) (refused k : ℕ)
    → AreRounds start rings rounds → length rounds ≡ turn_number → failed_in_a_row (receipts (log_of rounds)) < most_failed
    → Happens setup writes (log_of rounds) trace g a b → HasMade (log_of rounds) d → refused ≡ count_by is_refused_ring (log_of rounds)
    → now ≡ moment_of start turn_number → due ≡ list_any (λ t. nat_eq t turn_number) rings
    → IsRingIf due now ring → count_by is_refused_ring ring ≡ k → AreWanting setup writes (events (log_of rounds) ++ trace) ring → IsReachedBy setup writes (events ring ++ (events (log_of rounds) ++ trace)) h
    → IsTurn now turn → Happens setup writes turn (events ring ++ (events (log_of rounds) ++ trace)) i b c → HasMade (turn ++ (ring ++ log_of rounds)) e
    → Rounds setup writes start rings ((turn ++ ring) ∷ rounds) trace i a c e (refused + k)
round_more setup writes start turn_number now rings due rounds ring turn trace g h i a b c d e refused k all many goes happens made same at_moment is_due rung counted_ring wanting reached turned happened did =
    let log : List Entry = log_of rounds in
    let first = (steps_ring setup writes due now ring (events log ++ trace) log h b d rung wanting reached made).happens in
    let round = happens_more setup writes ring turn (events log ++ trace) h i b b c first happened in
    let place : IsRound (moment_of start turn_number) (list_any (λ t. nat_eq t turn_number) rings) (turn ++ ring) =
    subst (λ (n : ℕ). IsRound n (list_any (λ t. nat_eq t turn_number) rings) (turn ++ ring)) at_moment
    (subst (λ (x : Bool). IsRound now x (turn ++ ring)) is_due (ring, turn, refl, rung, turned)) in
    record {
      are = (subst (λ (n : ℕ). IsRound (moment_of start n) (list_any (λ t. nat_eq t n) rings) (turn ++ ring)) (sym many) place, goes, all);
      happens = happens_more setup writes log (turn ++ ring) trace g i a b c happens round;
      made = subst (λ (l : List Entry). HasMade l e) (sym (append_assoc turn ring log)) did;
      refused_is = round_counts now ring turn log refused k turned counted_ring same;
    }

pub ring_made : (setup : Setup) (writes : Writing) (due : Bool) (now : ℕ) (ring log : List Entry) (trace : List Event) (g : GatewayValue) (a : KnownWire) (d : DriverValue)
    → IsRingIf due now ring → AreWanting setup writes trace ring → IsReachedBy setup writes (events ring ++ trace) g → HasMade log d → HasMade (ring ++ log) d
ring_made setup writes due now ring log trace g a d rung wanting reached made = (steps_ring setup writes due now ring trace log g a d rung wanting reached made).made

pub has_failed : (row : ℕ) → (IsTrue false ↔ (row < most_failed)) → most_failed ≤ row
has_failed row h =
    let k : most_failed < suc row = lt_of_not-le {n = suc row} {m = most_failed} (λ low. false≢true (h.1 low)) in
    omega arith

-- a run that stopped, and one that did not
pub tells_stopped :
    (wanted start : ℕ) (rings : List ℕ) (rounds : List (List Entry)) (d : DriverValue) (n refused : ℕ) (driven : Driven)
    → driven ≡ record { turns = n; rings_refused = refused; events_refused = d.events_refused; sends_failed = d.sends_failed; receives_failed = d.receives_failed; stopped = true }
    → length rounds ≡ n → AreRounds start rings rounds → HasMade (log_of rounds) d → refused ≡ count_by is_refused_ring (log_of rounds)
    → HasFailed (log_of rounds) → n ≤ wanted → wanted < 2 ^ 32 → Tells wanted rounds driven
tells_stopped wanted start rings rounds d n refused driven is many all made same failed most few =
    let low : length rounds ≤ wanted = omega arith in
    subst (λ (x : Driven). Tells wanted rounds x)
    (ap (λ (m : ℕ). record { turns = m; rings_refused = refused; events_refused = d.events_refused; sends_failed = d.sends_failed; receives_failed = d.receives_failed; stopped = true }) many ∙ sym is)
    (tells wanted start rings rounds d refused true all made same (λ _. failed, λ _. refl) (λ (e : true ≡ false). absurd (false≢true (sym e))) low few)

pub tells_whole :
    (wanted start : ℕ) (rings : List ℕ) (rounds : List (List Entry)) (d : DriverValue) (refused : ℕ) (driven : Driven)
    → driven ≡ record { turns = wanted; rings_refused = refused; events_refused = d.events_refused; sends_failed = d.sends_failed; receives_failed = d.receives_failed; stopped = false }
    → length rounds ≡ wanted → AreRounds start rings rounds → HasMade (log_of rounds) d → refused ≡ count_by is_refused_ring (log_of rounds)
    → failed_in_a_row (receipts (log_of rounds)) < most_failed → wanted < 2 ^ 32 → Tells wanted rounds driven
tells_whole wanted start rings rounds d refused driven is many all made same goes few =
    let low : length rounds ≤ wanted = omega arith in
    subst (λ (x : Driven). Tells wanted rounds x)
    (ap (λ (m : ℕ). record { turns = m; rings_refused = refused; events_refused = d.events_refused; sends_failed = d.sends_failed; receives_failed = d.receives_failed; stopped = false }) many ∙ sym is)
    (tells wanted start rings rounds d refused false all made same (λ (e : false ≡ true). absurd (false≢true e), λ (f : HasFailed (log_of rounds)). absurd (omega arith)) (λ _. many) low few)

-- the failures that a run tells are those that the wire counts
pub failures_told : (wanted : ℕ) (rounds : List (List Entry)) (driven : Driven) (a b : KnownWire) → Carries (log_of rounds) a b → Tells wanted rounds driven
    → b.failures < greatest_count → b.failures ≡ a.failures + (driven.sends_failed + driven.receives_failed)
failures_told wanted rounds driven a b carried t low =
    let e = carried.failures low in
    let r = t.receives_failed in
    let s = t.sends_failed in
    omega arith
