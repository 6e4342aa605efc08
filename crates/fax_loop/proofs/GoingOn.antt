-- An exchange over linked lines goes on.
use Rattle.std.proofs.Common.{◌≡◌, ℕ, zero, suc, ◌+◌, ◌*◌, ◌<◌, ◌≤◌, ◌⊎◌, inl, inr, is_some, false, List, [], ◌∷◌, ◌++◌, length, reverse, Option, Some, None, IsSome, refl, sym, ◌∙◌, ap, subst, arith, append-nil, append_assoc, length-append}
use Rattle.std.specs.Prelude.{All, Contains, flat_map}
use Rattle.std.proofs.Math.Nat.{eq-or-lt_of_le, lt_of_not-le}
use Rattle.std.proofs.lemmas.List.{length-map, reverse-reverse}
use Rattle.std.proofs.lemmas.List.Concat.{flat_map-append}
use Rattle.std.proofs.lemmas.List.Elements.{All-append, All-cons, All-nil, All-weaker, Contains-append_right}
use Rattle.fax_jobs.specs.declared.report.Report.{Report}
use Rattle.fax_jobs.specs.Jobs.{JobValue}
use Rattle.fax_answer.proofs.Readings.{questions_are_known}
use Rattle.fax_call.specs.Writings.{Writing}
use Rattle.fax_gateway.specs.declared.leg.Leg.{Leg}
use Rattle.fax_gateway.specs.declared.leg.Leg.TheVariants as legs
use Rattle.fax_gateway.specs.Setups.{Setup}
use Rattle.fax_gateway.specs.Events.{Event, FromCalling, FromCalled, Tick, Given}
use Rattle.fax_gateway.specs.CallingLegs.{CallingLeg, question, told_calling}
use Rattle.fax_gateway.specs.CalledLegs.{CalledLeg, calls, told_by}
use Rattle.fax_gateway.specs.Driving.{Entry, Accepts, ReceivesNothing, FailsToReceive, Sends, AreReceives, Comes, IsSent, IsTick, IsTurn, events, events_in, failed_in_a_row, most_datagrams, most_failed, receipts, receipts_in, sent, sent_in}
use Rattle.fax_gateway.specs.GoesOn.{TracesGoOn}
use Rattle.fax_gateway.specs.Reached.{given_on}
use Rattle.fax_gateway.specs.Traces.{IsTrace}
use Rattle.fax_gateway.specs.Wires as wires
use Rattle.fax_gateway.specs.Wires.{Grows, HandedDatagram, Receipt}
use Rattle.fax_terminal.specs.Ends.{handed}
use Rattle.fax_loop.specs.Exchanges.{AreRounds, CarriesRounds, IsOver, Round, answerer_after, caller_after, log_after, moment_after, reported, trace_after}
use Rattle.fax_loop.specs.GoesOn as going
use Rattle.fax_loop.specs.GoesOn.{GoesOn, IsLinkedSoFar, LinksArePlayed, LinksBegin, LinksGoOn, by_answerer, by_caller, by_gateway, lines_after}
use Rattle.fax_loop.specs.Links.{AreLinked, AreLinkedBack, came_called, came_calling, handed_called, most_near}
use Rattle.fax_terminal.specs.Terminals.{AreCame, ReadDatagram, called_turned, called_with, calling_turned, calling_with, datagrams_of, octets_of, pages_on, rung_once}
use Rattle.fax_terminal.proofs.AnsweringLemmas.{called_with-given, datagrams_of-ticked}
use Rattle.fax_terminal.proofs.CallingLemmas as caller
use Rattle.fax_loop.proofs.OneCall as one
use Rattle.fax_loop.proofs.OneCall.{AreQuiet, after_is, quiet_both, quiet_sent, receives_quiet}

-- ---- what was handed over stays, and each turn adds one datagram at most
stays : (newer older some : List (List ℕ)) → All (Contains older) some → All (Contains (newer ++ older)) some
stays newer older some a = All-weaker (Contains older) (Contains (newer ++ older)) (λ x c. Contains-append_right newer older x c) some a

one_at_most : (o : Option (List ℕ)) → length (handed o) ≤ 1
one_at_most None = omega arith
one_at_most (Some octets) = omega arith

few_more : (o : Option (List ℕ)) (older all : List (List ℕ)) (n : ℕ) → all ≡ handed o ++ older → length older ≤ n → length all ≤ suc n
few_more o older all n e few =
    let l : length all ≡ length (handed o) + length older = ap (λ (xs : List (List ℕ)). length xs) e ∙ length-append (handed o) older in
    let one : length (handed o) ≤ 1 = one_at_most o in
    omega arith

-- the machine that calls
caller_hands : (setup : Setup) (writes : Writing) (now : ℕ) (came : List (List ℕ)) (l : CalledLeg)
    → (o : Option (List ℕ)) × (datagrams_of setup (calling_turned writes now came l).given ≡ handed o ++ datagrams_of setup l.given)
caller_hands setup writes now came l =
    let k : CalledLeg = calling_with writes now came l in
    let o : Option (List ℕ) = told_by setup k.given (calls writes k now).given in
    (o, caller.datagrams_of-given setup (calls writes k now).given k.given ∙ ap (λ (xs : List (List ℕ)). handed o ++ datagrams_of setup xs) (caller.calling_with-given writes now came l))

caller_few : (setup : Setup) (writes : Writing) (job : JobValue) (rounds : List Round) → length (datagrams_of setup (caller_after setup writes job rounds).given) ≤ length rounds
caller_few setup writes job [] = omega arith
caller_few setup writes job (round ∷ rounds) =
    let h = caller_hands setup writes (moment_after rounds) round.calling (caller_after setup writes job rounds) in
    few_more h.0 (datagrams_of setup (caller_after setup writes job rounds).given) (datagrams_of setup (caller_after setup writes job (round ∷ rounds)).given) (length rounds) h.1 (caller_few setup writes job rounds)

-- the machine that is called
answerer_hands : (setup : Setup) (now : ℕ) (came : List ReadDatagram) (leg : Option CallingLeg)
    → (o : Option (List ℕ)) × (datagrams_of setup (given_on (called_turned setup now came leg)) ≡ handed o ++ datagrams_of setup (given_on leg))
answerer_hands setup now came leg =
    let k : Option CallingLeg = called_with setup now came leg in
    let o : Option (List ℕ) = told_calling setup k now in
    (o, datagrams_of-ticked setup k now ∙ ap (λ (xs : List (List ℕ)). handed o ++ datagrams_of setup xs) (called_with-given setup now came leg))

answerer_few : (setup : Setup) (rounds : List Round) → length (by_answerer setup rounds) ≤ length rounds
answerer_few setup [] = omega arith
answerer_few setup (round ∷ rounds) =
    let h = answerer_hands setup (moment_after rounds) round.called (answerer_after setup rounds) in
    few_more h.0 (by_answerer setup rounds) (by_answerer setup (round ∷ rounds)) (length rounds) h.1 (answerer_few setup rounds)

-- the gateway on its called leg
record Hands (log : List Entry) : Type 0 where
  given : Option (List ℕ)
  hands : (earlier : List HandedDatagram) → handed_called (sent log ++ earlier) ≡ handed given ++ handed_called earlier

tick_hands : (now : ℕ) (log : List Entry) → IsTick now log → Hands log
tick_hands now log (inr e) = record { given = None; hands = λ earlier. ap (λ (l : List Entry). handed_called (sent l ++ earlier)) e }
tick_hands now log (inl k) = record { given = k.0.on_called; hands = λ earlier. one.tick_hands k.0 k.1 k.2 log (Accepts (Tick now k.0)) earlier refl k.3 k.4 k.5 }

turn_hands : (now : ℕ) (log : List Entry) → IsTurn now log → Hands log
turn_hands now log turn =
    let came : List Entry = turn.called ++ turn.calling in
    let quiet : AreQuiet came = quiet_both turn.called turn.calling (receives_quiet legs.Called now turn.called turn.on_called) (receives_quiet legs.Calling now turn.calling turn.on_calling) in
    let all : sent log ≡ sent turn.tick =
    ap sent turn.log_is ∙ flat_map-append sent_in turn.tick came ∙ ap (λ (hs : List HandedDatagram). sent turn.tick ++ hs) (quiet_sent came quiet) ∙ append-nil (sent turn.tick) in
    let h : Hands turn.tick = tick_hands now turn.tick turn.ticks in
    record { given = h.given; hands = λ earlier. ap (λ (hs : List HandedDatagram). handed_called (hs ++ earlier)) all ∙ h.hands earlier }

-- with what it handed over before
turn_adds : (now : ℕ) (turn older : List Entry) → IsTurn now turn → (o : Option (List ℕ)) × (handed_called (sent (turn ++ older)) ≡ handed o ++ handed_called (sent older))
turn_adds now turn older is =
    let h : Hands turn = turn_hands now turn is in
    (h.given, ap handed_called (flat_map-append sent_in turn older) ∙ h.hands (sent older))

gateway_few : (setup : Setup) (writes : Writing) (rounds : List Round) → AreRounds setup writes rounds → length (handed_called (sent (log_after rounds))) ≤ length rounds
gateway_few setup writes [] a = omega arith
gateway_few setup writes (round ∷ rounds) a =
    let h = turn_adds (moment_after rounds) round.gateway (log_after rounds) a.0.turn in
    few_more h.0 (handed_called (sent (log_after rounds))) (handed_called (sent (log_after (round ∷ rounds)))) (length rounds) h.1 (gateway_few setup writes rounds a.1)

-- ---- what came
came_calling-append : (rs older : List Receipt) → came_calling (rs ++ older) ≡ came_calling rs ++ came_calling older
came_calling-append [] older = refl
came_calling-append (wires.Came legs.Calling room octets ∷ rs) older = ap (λ (xs : List (List ℕ)). octets ∷ xs) (came_calling-append rs older)
came_calling-append (wires.Came legs.Called room octets ∷ rs) older = came_calling-append rs older
came_calling-append (wires.Nothing at room ∷ rs) older = came_calling-append rs older
came_calling-append (wires.Failed at room ∷ rs) older = came_calling-append rs older

came_called-append : (rs older : List Receipt) → came_called (rs ++ older) ≡ came_called rs ++ came_called older
came_called-append [] older = refl
came_called-append (wires.Came legs.Calling room octets ∷ rs) older = came_called-append rs older
came_called-append (wires.Came legs.Called room octets ∷ rs) older = ap (λ (xs : List (List ℕ)). octets ∷ xs) (came_called-append rs older)
came_called-append (wires.Nothing at room ∷ rs) older = came_called-append rs older
came_called-append (wires.Failed at room ∷ rs) older = came_called-append rs older

-- ---- A TURN in which these datagrams come

-- what a log leaves, and what came as it tells
abbrev IsLogOf : Setup → Writing → List Event → (calling called : List (List ℕ)) → List Entry → Type 0
IsLogOf setup writes trace calling called log = IsTrace setup writes (events log ++ trace) × (came_calling (receipts log) ≡ calling) × (came_called (receipts log) ≡ called)

-- those of one leg
record ComeOn (setup : Setup) (writes : Writing) (at : Leg) (now : ℕ) (trace : List Event) (many : ℕ) (calling called : List (List ℕ)) : Type 0 where
  log : List Entry
  come : All (Comes at now) log
  many_are : length log ≡ many
  of : IsLogOf setup writes trace calling called log

none_come : (setup : Setup) (writes : Writing) (at : Leg) (now : ℕ) (trace : List Event) → IsTrace setup writes trace → ComeOn setup writes at now trace 0 [] []
none_come setup writes at now trace t = record { log = []; come = All-nil (Comes at now); many_are = refl; of = (t, refl, refl) }

one_comes : (setup : Setup) (writes : Writing) (at : Leg) (now : ℕ) (trace : List Event) (many : ℕ) (calling called more others : List (List ℕ)) (r : ComeOn setup writes at now trace many calling called) (entry : Entry)
    → Comes at now entry → IsLogOf setup writes trace more others (entry ∷ r.log) → ComeOn setup writes at now trace (suc many) more others
one_comes setup writes at now trace many calling called more others r entry comes of =
    record { log = entry ∷ r.log; come = All-cons (Comes at now) entry r.log comes r.come; many_are = ap (λ (n : ℕ). suc n) r.many_are; of = of }

on_calling : TracesGoOn → (setup : Setup) (writes : Writing) (now : ℕ) (trace : List Event) (some : List (List ℕ)) → IsTrace setup writes trace
    → ComeOn setup writes legs.Calling now trace (length some) some []
on_calling law setup writes now trace [] t = none_come setup writes legs.Calling now trace t
on_calling law setup writes now trace (octets ∷ some) t =
    let r : ComeOn setup writes legs.Calling now trace (length some) some [] = on_calling law setup writes now trace some t in
    let next = (law setup writes (events r.log ++ trace) r.of.0).from_calling octets now in
    one_comes setup writes legs.Calling now trace (length some) some [] (octets ∷ some) [] r (Accepts (FromCalling octets now next.0 next.1)) (refl, refl)
    (next.2, ap (λ (xs : List (List ℕ)). octets ∷ xs) r.of.1, r.of.2)

on_called : TracesGoOn → (setup : Setup) (writes : Writing) (now : ℕ) (trace : List Event) (some : List (List ℕ)) → IsTrace setup writes trace
    → ComeOn setup writes legs.Called now trace (length some) [] some
on_called law setup writes now trace [] t = none_come setup writes legs.Called now trace t
on_called law setup writes now trace (octets ∷ some) t =
    let r : ComeOn setup writes legs.Called now trace (length some) [] some = on_called law setup writes now trace some t in
    let next = (law setup writes (events r.log ++ trace) r.of.0).from_called octets now in
    one_comes setup writes legs.Called now trace (length some) [] some [] (octets ∷ some) r (Accepts (FromCalled octets now next.0)) (refl, refl)
    (next.1, r.of.1, ap (λ (xs : List (List ℕ)). octets ∷ xs) r.of.2)

-- and then none, where there is room
record AreReceived (setup : Setup) (writes : Writing) (at : Leg) (now : ℕ) (trace : List Event) (calling called : List (List ℕ)) : Type 0 where
  log : List Entry
  receives : AreReceives at now log
  of : IsLogOf setup writes trace calling called log

received : (setup : Setup) (writes : Writing) (at : Leg) (now : ℕ) (trace : List Event) (many : ℕ) (calling called : List (List ℕ)) → ComeOn setup writes at now trace many calling called → (many ≡ most_datagrams) ⊎ (many < most_datagrams)
    → AreReceived setup writes at now trace calling called
received setup writes at now trace many calling called c (inl full) = record { log = c.log; receives = inl (c.come, c.many_are ∙ full); of = c.of }
received setup writes at now trace many calling called c (inr low) = record {
  log = ReceivesNothing at ∷ c.log;
  receives = inr (c.log, ReceivesNothing at, refl, c.come, subst (λ (n : ℕ). n < most_datagrams) (sym c.many_are) low, inl refl);
  of = c.of;
}

-- the tick, all of whose sends succeed
abbrev hands_at : Leg → Option (List ℕ) → List Entry
hands_at at None = []
hands_at at (Some octets) = Sends at octets false ∷ []

hands_sent : (at : Leg) (o : Option (List ℕ)) → IsSent at o (hands_at at o)
hands_sent at None = refl
hands_sent at (Some octets) = (false, refl)

abbrev tick_log : ℕ → Given → List Entry
tick_log now given = hands_at legs.Called given.on_called ++ (hands_at legs.Calling given.on_calling ++ Accepts (Tick now given) ∷ [])

tick_receipts : (a b : Option (List ℕ)) (entry : Entry) → receipts (hands_at legs.Called a ++ (hands_at legs.Calling b ++ entry ∷ [])) ≡ receipts (entry ∷ [])
tick_receipts None None entry = refl
tick_receipts None (Some y) entry = refl
tick_receipts (Some x) None entry = refl
tick_receipts (Some x) (Some y) entry = refl

-- the turn: the receives of both legs, and the tick
record Turns (setup : Setup) (writes : Writing) (now : ℕ) (trace : List Event) (calling called : List Entry) : Type 0 where
  log : List Entry
  is_turn : IsTurn now log
  is_trace : IsTrace setup writes (events log ++ trace)
  receipts_are : receipts log ≡ receipts called ++ receipts calling

turns : TracesGoOn → (setup : Setup) (writes : Writing) (now : ℕ) (trace : List Event) (calling called : List Entry) → AreReceives legs.Calling now calling → AreReceives legs.Called now called
    → IsTrace setup writes (events called ++ (events calling ++ trace)) → Turns setup writes now trace calling called
turns law setup writes now trace calling called first second t =
    let earlier : List Event = events called ++ (events calling ++ trace) in
    let next = (law setup writes earlier t).tick now in
    let given : Given = next.0 in
    let tick : List Entry = tick_log now given in
    let came : List Entry = called ++ calling in
    let told : events tick ≡ Tick now given ∷ [] = one.tick_event now given (hands_at legs.Calling given.on_calling) (hands_at legs.Called given.on_called) tick (hands_sent legs.Calling given.on_calling) (hands_sent legs.Called given.on_called) refl in
    let is : events (tick ++ came) ++ trace ≡ Tick now given ∷ earlier =
    ap (λ (es : List Event). es ++ trace) (flat_map-append events_in tick came ∙ ap (λ (es : List Event). es ++ events came) told ∙ ap (λ (es : List Event). Tick now given ∷ es) (flat_map-append events_in called calling))
    ∙ ap (λ (es : List Event). Tick now given ∷ es) (append_assoc (events called) (events calling) trace) in
    record {
      log = tick ++ came;
      is_turn = record {
        calling = calling;
        called = called;
        tick = tick;
        log_is = refl;
        on_calling = first;
        on_called = second;
        ticks =
            inl (given, hands_at legs.Calling given.on_calling, hands_at legs.Called given.on_called, hands_sent legs.Calling given.on_calling, hands_sent legs.Called given.on_called, refl);
      };
      is_trace = subst (IsTrace setup writes) (sym is) next.1;
      receipts_are =
          flat_map-append receipts_in tick came ∙ ap (λ (rs : List Receipt). rs ++ receipts came) (tick_receipts given.on_called given.on_calling (Accepts (Tick now given)))
          ∙ flat_map-append receipts_in called calling;
    }

-- ---- A ROUND more

-- what came to the machine that is called, each with a reading
record AreHeard (setup : Setup) (now : ℕ) (leg : Option CallingLeg) (some : List (List ℕ)) : Type 0 where
  came : List ReadDatagram
  octets_are : octets_of came ≡ some
  read : AreCame setup now came leg

heard : (setup : Setup) (now : ℕ) (leg : Option CallingLeg) (some : List (List ℕ)) → AreHeard setup now leg some
heard setup now leg [] = record { came = []; octets_are = refl; read = tt }
heard setup now leg (octets ∷ some) =
    let r : AreHeard setup now leg some = heard setup now leg some in
    let read = questions_are_known (question (Some (rung_once setup now (called_with setup now r.came leg))) now octets) in
    record { came = record { octets = octets; read = read.0 } ∷ r.came; octets_are = ap (λ (xs : List (List ℕ)). octets ∷ xs) r.octets_are; read = (read.1, r.read) }

-- what is known of the lines
grows : {A : Type 0} (newer : List A) → Grows newer (Some []) (Some newer)
grows newer = ([], refl, sym (append-nil newer))

carries : (setup : Setup) (writes : Writing) (job : JobValue) (rounds : List Round) → CarriesRounds setup writes job rounds (lines_after setup writes job []) (lines_after setup writes job rounds)
carries setup writes job rounds = record {
  came_to_caller = grows (flat_map (λ round. round.calling) rounds);
  caller_sent = grows (datagrams_of setup (caller_after setup writes job rounds).given);
  wire = record { received = grows (receipts (log_after rounds)); sent = grows (sent (log_after rounds)); failures = λ low. omega arith };
  came_to_answerer = grows (flat_map (λ round. octets_of round.called) rounds);
  answerer_sent = grows (by_answerer setup rounds);
}

-- what is known of an exchange so far: each datagram that came was handed over
record Stands (setup : Setup) (writes : Writing) (job : JobValue) (rounds : List Round) : Type 0 where
  are_rounds : AreRounds setup writes rounds
  trace : IsTrace setup writes (trace_after rounds)
  few : length rounds < most_near
  to_gateway : All (Contains (datagrams_of setup (caller_after setup writes job rounds).given)) (came_calling (receipts (log_after rounds)))
  to_answerer : All (Contains (handed_called (sent (log_after rounds)))) (flat_map (λ round. octets_of round.called) rounds)
  from_answerer : All (Contains (by_answerer setup rounds)) (came_called (receipts (log_after rounds)))

low : (k n m : ℕ) → k ≤ n → n < m → k < m
low k n m a b = omega arith

is_linked : (setup : Setup) (writes : Writing) (job : JobValue) (rounds : List Round) → Stands setup writes job rounds → IsLinkedSoFar setup writes job rounds
is_linked setup writes job rounds s = record {
  are_rounds = s.are_rounds;
  trace = s.trace;
  carried = carries setup writes job rounds;
  linked = record {
    caller_sent = datagrams_of setup (caller_after setup writes job rounds).given;
    caller_tells = (refl, refl);
    receipts = receipts (log_after rounds);
    receipts_told = (refl, refl);
    handed = sent (log_after rounds);
    handed_told = (refl, refl);
    answerer_received = flat_map (λ round. octets_of round.called) rounds;
    answerer_tells = (refl, refl);
    to_gateway = s.to_gateway;
    few_to_gateway = low (length (datagrams_of setup (caller_after setup writes job rounds).given)) (length rounds) most_near (caller_few setup writes job rounds) s.few;
    to_answerer = s.to_answerer;
    few_to_answerer = low (length (handed_called (sent (log_after rounds)))) (length rounds) most_near (gateway_few setup writes rounds s.are_rounds) s.few;
  };
  linked_back = record {
    answerer_sent = by_answerer setup rounds;
    answerer_tells = (refl, refl);
    receipts = receipts (log_after rounds);
    receipts_told = (refl, refl);
    from_answerer = s.from_answerer;
    few_from_answerer = low (length (by_answerer setup rounds)) (length rounds) most_near (answerer_few setup rounds) s.few;
  };
}

same_told : {A : Type 0} (told list : List A) → ◌≡◌ {A = Option (List A)} (Some told) (Some list) → told ≡ list
same_told told list e = cc

stands : (setup : Setup) (writes : Writing) (job : JobValue) (rounds : List Round) → length rounds < most_near → IsLinkedSoFar setup writes job rounds → Stands setup writes job rounds
stands setup writes job rounds few s =
    let l : AreLinked (lines_after setup writes job []) (lines_after setup writes job rounds) = s.linked in
    let b : AreLinkedBack (lines_after setup writes job []) (lines_after setup writes job rounds) = s.linked_back in
    let by_it : List (List ℕ) = datagrams_of setup (caller_after setup writes job rounds).given in
    let caller_is : by_it ≡ l.caller_sent = same_told by_it l.caller_sent l.caller_tells.1 in
    let receipts_are : receipts (log_after rounds) ≡ l.receipts = same_told (receipts (log_after rounds)) l.receipts l.receipts_told.1 in
    let handed_are : sent (log_after rounds) ≡ l.handed = same_told (sent (log_after rounds)) l.handed l.handed_told.1 in
    let received : List (List ℕ) = flat_map (λ round. octets_of round.called) rounds in
    let received_is : received ≡ l.answerer_received = same_told received l.answerer_received l.answerer_tells.1 in
    let answerer_is : by_answerer setup rounds ≡ b.answerer_sent = same_told (by_answerer setup rounds) b.answerer_sent b.answerer_tells.1 in
    let receipts_back : receipts (log_after rounds) ≡ b.receipts = same_told (receipts (log_after rounds)) b.receipts b.receipts_told.1 in
    record {
      are_rounds = s.are_rounds;
      trace = s.trace;
      few = few;
      to_gateway =
          subst (λ (xs : List (List ℕ)). All (Contains xs) (came_calling (receipts (log_after rounds)))) (sym caller_is)
          (subst (λ (rs : List Receipt). All (Contains l.caller_sent) (came_calling rs)) (sym receipts_are) l.to_gateway);
      to_answerer =
          subst (λ (hs : List HandedDatagram). All (Contains (handed_called hs)) received) (sym handed_are)
          (subst (λ (xs : List (List ℕ)). All (Contains (handed_called l.handed)) xs) (sym received_is) l.to_answerer);
      from_answerer =
          subst (λ (xs : List (List ℕ)). All (Contains xs) (came_called (receipts (log_after rounds)))) (sym answerer_is)
          (subst (λ (rs : List Receipt). All (Contains b.answerer_sent) (came_called rs)) (sym receipts_back) b.from_answerer);
    }

-- where it is not over
unreported : (o : Option Report) → (IsSome o → ⊥) → o ≡ None
unreported None f = refl
unreported (Some report) f = absurd (f refl)

-- the round is one of the exchange
record IsNext (setup : Setup) (writes : Writing) (job : JobValue) (rounds : List Round) (round : Round) : Type 0 where
  few : length rounds + 1 < most_near
  unreported : reported setup writes rounds ≡ None
  receives : failed_in_a_row (receipts (log_after rounds)) < most_failed
  few_to_caller : length round.calling ≤ most_datagrams
  few_to_answerer : length (octets_of round.called) ≤ most_datagrams
  turn : IsTurn (moment_after rounds) round.gateway
  read : AreCame setup (moment_after rounds) round.called (answerer_after setup rounds)
  trace : IsTrace setup writes (events round.gateway ++ trace_after rounds)
  to_gateway : All (Contains (by_caller setup writes job rounds round.calling)) (came_calling (receipts round.gateway))
  to_answerer : All (Contains (by_gateway rounds round.gateway)) (octets_of round.called)
  from_answerer : All (Contains (by_answerer setup rounds)) (came_called (receipts round.gateway))

played : (setup : Setup) (writes : Writing) (job : JobValue) (rounds : List Round) (round : Round) → Stands setup writes job rounds → IsNext setup writes job rounds round → Stands setup writes job (round ∷ rounds)
played setup writes job rounds round s n =
    let now : ℕ = moment_after rounds in
    let older : List Receipt = receipts (log_after rounds) in
    let newer : List Receipt = receipts round.gateway in
    let c = caller_hands setup writes now round.calling (caller_after setup writes job rounds) in
    let a = answerer_hands setup now round.called (answerer_after setup rounds) in
    let g = turn_adds now round.gateway (log_after rounds) n.turn in
    let all : receipts (round.gateway ++ log_after rounds) ≡ newer ++ older = flat_map-append receipts_in round.gateway (log_after rounds) in
    let calling : came_calling (receipts (round.gateway ++ log_after rounds)) ≡ came_calling newer ++ came_calling older = ap came_calling all ∙ came_calling-append newer older in
    let called : came_called (receipts (round.gateway ++ log_after rounds)) ≡ came_called newer ++ came_called older = ap came_called all ∙ came_called-append newer older in
    let by_it : List (List ℕ) = by_caller setup writes job rounds round.calling in
    let by_them : List (List ℕ) = by_answerer setup (round ∷ rounds) in
    let by_turn : List (List ℕ) = by_gateway rounds round.gateway in
    record {
      are_rounds = (
        record {
          few = let l : length rounds + 1 < most_near = n.few in omega arith;
          unreported = n.unreported;
          receives = n.receives;
          few_calling = n.few_to_caller;
          turn = n.turn;
          few_called = subst (λ (k : ℕ). k ≤ most_datagrams) (length-map round.called (λ (x : ReadDatagram). x.octets)) n.few_to_answerer;
          read = n.read;
        },
        s.are_rounds,
      );
      trace = subst (IsTrace setup writes) (sym (after_is round rounds)) n.trace;
      few = let l : length rounds + 1 < most_near = n.few in omega arith;
      to_gateway =
          subst (λ (xs : List (List ℕ)). All (Contains by_it) xs) (sym calling)
          (All-append (Contains by_it) (came_calling newer) (came_calling older) n.to_gateway
          (subst (λ (xs : List (List ℕ)). All (Contains xs) (came_calling older)) (sym c.1) (stays (handed c.0) (datagrams_of setup (caller_after setup writes job rounds).given) (came_calling older) s.to_gateway)));
      to_answerer =
          All-append (Contains by_turn) (octets_of round.called) (flat_map (λ r. octets_of r.called) rounds) n.to_answerer
          (subst (λ (xs : List (List ℕ)). All (Contains xs) (flat_map (λ r. octets_of r.called) rounds)) (sym g.1) (stays (handed g.0) (handed_called (sent (log_after rounds))) (flat_map (λ r. octets_of r.called) rounds) s.to_answerer));
      from_answerer =
          subst (λ (xs : List (List ℕ)). All (Contains by_them) xs) (sym called)
          (subst (λ (ys : List (List ℕ)). All (Contains ys) (came_called newer ++ came_called older)) (sym a.1)
          (stays (handed a.0) (by_answerer setup rounds) (came_called newer ++ came_called older)
          (All-append (Contains (by_answerer setup rounds)) (came_called newer) (came_called older) n.from_answerer s.from_answerer)));
    }

-- ---- THE LAWS
begun : (setup : Setup) (writes : Writing) (job : JobValue) → Stands setup writes job []
begun setup writes job = record {
  are_rounds = tt;
  trace = ((refl, omega arith, refl), tt);
  few = omega arith;
  to_gateway = All-nil (Contains []);
  to_answerer = All-nil (Contains []);
  from_answerer = All-nil (Contains []);
}

pub links_begin : LinksBegin
links_begin setup writes job = is_linked setup writes job [] (begun setup writes job)

-- a turn in which just these come
record IsHearing (setup : Setup) (writes : Writing) (now : ℕ) (trace : List Event) (calling called : List (List ℕ)) : Type 0 where
  log : List Entry
  is_turn : IsTurn now log
  of : IsLogOf setup writes trace calling called log

both_come : (setup : Setup) (writes : Writing) (now : ℕ) (trace : List Event) (calling called : List (List ℕ)) (first : AreReceived setup writes legs.Calling now trace calling [])
    (second : AreReceived setup writes legs.Called now (events first.log ++ trace) [] called) → Turns setup writes now trace first.log second.log → IsHearing setup writes now trace calling called
both_come setup writes now trace calling called first second t = record {
  log = t.log;
  is_turn = t.is_turn;
  of = (
    t.is_trace,
    ap came_calling t.receipts_are ∙ came_calling-append (receipts second.log) (receipts first.log)
        ∙ ap (λ (xs : List (List ℕ)). xs ++ came_calling (receipts first.log)) second.of.1 ∙ first.of.1,
    ap came_called t.receipts_are ∙ came_called-append (receipts second.log) (receipts first.log)
        ∙ ap (λ (xs : List (List ℕ)). came_called (receipts second.log) ++ xs) first.of.2 ∙ append-nil (came_called (receipts second.log)) ∙ second.of.2,
  );
}

on_both : TracesGoOn → (setup : Setup) (writes : Writing) (now : ℕ) (trace : List Event) (calling called : List (List ℕ)) → length calling ≤ most_datagrams → length called ≤ most_datagrams
    → IsTrace setup writes trace → IsHearing setup writes now trace calling called
on_both law setup writes now trace calling called few_calling few_called is =
    let first : AreReceived setup writes legs.Calling now trace calling [] =
    received setup writes legs.Calling now trace (length calling) calling [] (on_calling law setup writes now trace calling is) (eq-or-lt_of_le few_calling) in
    let second : AreReceived setup writes legs.Called now (events first.log ++ trace) [] called =
    received setup writes legs.Called now (events first.log ++ trace) (length called) [] called (on_called law setup writes now (events first.log ++ trace) called first.of.0) (eq-or-lt_of_le few_called) in
    both_come setup writes now trace calling called first second (turns law setup writes now trace first.log second.log first.receives second.receives second.of.0)

-- and the round with it
next_round : (setup : Setup) (writes : Writing) (job : JobValue) (rounds : List Round) (to_caller calling called to_answerer : List (List ℕ)) (t : IsHearing setup writes (moment_after rounds) (trace_after rounds) calling called)
    (h : AreHeard setup (moment_after rounds) (answerer_after setup rounds) to_answerer) → length rounds + 1 < most_near → (IsOver setup writes rounds → ⊥) → going.Comes setup writes job rounds to_caller calling called
    → length to_answerer ≤ most_datagrams → All (Contains (by_gateway rounds t.log)) to_answerer → IsNext setup writes job rounds (record { calling = to_caller; gateway = t.log; called = h.came })
next_round setup writes job rounds to_caller calling called to_answerer t h few not_over c few_to_answerer from_gateway = record {
  few = few;
  unreported = unreported (reported setup writes rounds) (λ some. not_over (inl some));
  receives = lt_of_not-le (λ failed. not_over (inr (inl failed)));
  few_to_caller = c.few_to_caller;
  few_to_answerer = subst (λ (xs : List (List ℕ)). length xs ≤ most_datagrams) (sym h.octets_are) few_to_answerer;
  turn = t.is_turn;
  read = h.read;
  trace = t.of.0;
  to_gateway = subst (λ (xs : List (List ℕ)). All (Contains (by_caller setup writes job rounds to_caller)) xs) (sym t.of.1) c.from_caller;
  to_answerer = subst (λ (xs : List (List ℕ)). All (Contains (by_gateway rounds t.log)) xs) (sym h.octets_are) from_gateway;
  from_answerer = subst (λ (xs : List (List ℕ)). All (Contains (by_answerer setup rounds)) xs) (sym t.of.2) c.from_answerer;
}

with_round : (setup : Setup) (writes : Writing) (job : JobValue) (rounds : List Round) (to_caller calling called : List (List ℕ)) → IsHearing setup writes (moment_after rounds) (trace_after rounds) calling called
    → Stands setup writes job rounds → length rounds + 1 < most_near → (IsOver setup writes rounds → ⊥) → going.Comes setup writes job rounds to_caller calling called → GoesOn setup writes job rounds to_caller calling called
with_round setup writes job rounds to_caller calling called t s few not_over c = record {
  turn = t.log;
  calling_is = t.of.1;
  called_is = t.of.2;
  round = λ to_answerer few_to_answerer from_gateway.
      let h : AreHeard setup (moment_after rounds) (answerer_after setup rounds) to_answerer = heard setup (moment_after rounds) (answerer_after setup rounds) to_answerer in
      let round : Round = record { calling = to_caller; gateway = t.log; called = h.came } in (
        h.came,
        h.octets_are,
        is_linked setup writes job (round ∷ rounds)
            (played setup writes job rounds round s (next_round setup writes job rounds to_caller calling called to_answerer t h few not_over c few_to_answerer from_gateway)),
      );
}

pub links_go_on : TracesGoOn → LinksGoOn
links_go_on law setup writes job rounds to_caller calling called so_far not_over few c =
    let s : Stands setup writes job rounds = stands setup writes job rounds (low (length rounds) (length rounds + 1) most_near (omega arith) few) so_far in
    with_round setup writes job rounds to_caller calling called
    (on_both law setup writes (moment_after rounds) (trace_after rounds) calling called c.few_on_calling c.few_on_called s.trace) s few not_over c

-- ---- one that is played to its end: both receives of each turn fail
abbrev fails_on : Leg → List Entry
fails_on at = FailsToReceive at ∷ []

fails_received : (at : Leg) (now : ℕ) → AreReceives at now (fails_on at)
fails_received at now = inr ([], FailsToReceive at, refl, All-nil (Comes at now), omega arith, inr refl)

record Fails (setup : Setup) (writes : Writing) (job : JobValue) (rounds : List Round) : Type 0 where
  stands : Stands setup writes job rounds
  row : failed_in_a_row (receipts (log_after rounds)) ≡ 2 * length rounds

fails_once : TracesGoOn → (setup : Setup) (writes : Writing) (job : JobValue) (rounds : List Round) → length rounds < 50 → reported setup writes rounds ≡ None → Fails setup writes job rounds
    → (round : Round) × Fails setup writes job (round ∷ rounds)
fails_once law setup writes job rounds few none f =
    let now : ℕ = moment_after rounds in
    let trace : List Event = trace_after rounds in
    let s : Stands setup writes job rounds = f.stands in
    let t : Turns setup writes now trace (fails_on legs.Calling) (fails_on legs.Called) =
    turns law setup writes now trace (fails_on legs.Calling) (fails_on legs.Called) (fails_received legs.Calling now) (fails_received legs.Called now) s.trace in
    let round : Round = record { calling = []; gateway = t.log; called = [] } in
    let row : failed_in_a_row (receipts (log_after rounds)) ≡ 2 * length rounds = f.row in
    let next : IsNext setup writes job rounds round = record {
      few = omega arith;
      unreported = none;
      receives = omega arith;
      few_to_caller = omega arith;
      few_to_answerer = omega arith;
      turn = t.is_turn;
      read = tt;
      trace = t.is_trace;
      to_gateway = subst (λ (rs : List Receipt). All (Contains (by_caller setup writes job rounds [])) (came_calling rs)) (sym t.receipts_are) (All-nil (Contains (by_caller setup writes job rounds [])));
      to_answerer = All-nil (Contains (by_gateway rounds t.log));
      from_answerer = subst (λ (rs : List Receipt). All (Contains (by_answerer setup rounds)) (came_called rs)) (sym t.receipts_are) (All-nil (Contains (by_answerer setup rounds)));
    } in
    let all : failed_in_a_row (receipts (log_after (round ∷ rounds))) ≡ failed_in_a_row (receipts (log_after rounds)) + 1 + 1 =
    ap failed_in_a_row (flat_map-append receipts_in t.log (log_after rounds) ∙ ap (λ (rs : List Receipt). rs ++ receipts (log_after rounds)) t.receipts_are) in
    (round, record { stands = played setup writes job rounds round s next; row = omega arith })

record HasEnded (setup : Setup) (writes : Writing) (job : JobValue) : Type 0 where
  rounds : List Round
  over : IsOver setup writes rounds
  stands : Stands setup writes job rounds

-- the next round, where the job was not reported
next_end : TracesGoOn → (setup : Setup) (writes : Writing) (job : JobValue) (rounds : List Round) → length rounds < 50 → (o : Option Report) → reported setup writes rounds ≡ o → Fails setup writes job rounds
    → ((round : Round) → Fails setup writes job (round ∷ rounds) → HasEnded setup writes job) → HasEnded setup writes job
next_end law setup writes job rounds few (Some report) is f go = record { rounds = rounds; over = inl (ap is_some is); stands = f.stands }
next_end law setup writes job rounds few None is f go = let next = fails_once law setup writes job rounds few is f in go next.0 next.1

fails_on_end : TracesGoOn → (setup : Setup) (writes : Writing) (job : JobValue) (left : ℕ) (rounds : List Round) → length rounds + left ≡ 50 → Fails setup writes job rounds → HasEnded setup writes job
fails_on_end law setup writes job zero rounds e f =
    let row : failed_in_a_row (receipts (log_after rounds)) ≡ 2 * length rounds = f.row in
    record { rounds = rounds; over = inr (inl (omega arith)); stands = f.stands }
fails_on_end law setup writes job (suc left) rounds e f =
    next_end law setup writes job rounds (omega arith) (reported setup writes rounds) refl f (λ round g. fails_on_end law setup writes job left (round ∷ rounds) (omega arith) g)

pub links_are_played : TracesGoOn → LinksArePlayed
links_are_played law setup writes job =
    let ended : HasEnded setup writes job = fails_on_end law setup writes job 50 [] (omega arith) (record { stands = begun setup writes job; row = omega arith }) in
    let rounds : List Round = ended.rounds in
    let l : IsLinkedSoFar setup writes job rounds = is_linked setup writes job rounds ended.stands in (
      lines_after setup writes job [],
      lines_after setup writes job rounds,
      reported setup writes rounds,
      reverse (pages_on (answerer_after setup rounds)),
      record {
        rounds = rounds;
        are_rounds = l.are_rounds;
        over = ended.over;
        trace = l.trace;
        carried = l.carried;
        report_is = refl;
        pages_are = reverse-reverse (pages_on (answerer_after setup rounds));
      },
      l.linked,
      l.linked_back,
    )
