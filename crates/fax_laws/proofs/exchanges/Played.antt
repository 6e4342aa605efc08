-- An exchange that is played as a gateway between two machines is.
use Rattle.std.proofs.Common.{◌≡◌, ℕ, zero, suc, ◌+◌, ◌*◌, ◌<◌, ◌≤◌, min, Bool, true, false, List, [], ◌∷◌, ◌++◌, length, slice_get, Option, Some, None, ◌⊎◌, inl, inr, option_map, refl, sym, ◌∙◌, ap, subst, arith, if◌then◌else◌}
use Rattle.std.specs.Prelude.{IsSome}
use Rattle.std.proofs.lemmas.List.Elements.{All-from_recursion}
use Rattle.fax_pagestore.specs.Pages.{PageValue, IsPage}
use Rattle.fax_jobs.specs.declared.outcome.Outcome.TheVariants as outcomes
use Rattle.fax_jobs.specs.declared.report.Report.{Report}
use Rattle.fax_jobs.specs.Books.{job_of, report_of}
use Rattle.fax_jobs.specs.Jobs.{JobValue}
use Rattle.fax_answer.specs.Calls.{new_answering}
use Rattle.fax_answer.specs.Confirmation.{IsRead}
use Rattle.fax_answer.specs.Table.{Question}
use Rattle.fax_call.specs.Writings.{Writing, IsWriting}
use Rattle.fax_gateway.specs.declared.leg.Leg.TheVariants as legs
use Rattle.fax_gateway.specs.Setups.{Setup}
use Rattle.fax_gateway.specs.Events.{Event, FromCalling, FromCalled, Tick, Given}
use Rattle.fax_gateway.specs.Driving.{Entry, Accepts, ReceivesNothing, Sends, AreReceives, Comes, IsSent, IsTurn, events, failed_in_a_row, receipts, sent}
use Rattle.fax_udptl.specs.Datagrams.{datagram_of}
use Rattle.fax_gateway.specs.Reached.{ticked_on}
use Rattle.fax_gateway.specs.CallingLegs as answers
use Rattle.fax_gateway.specs.CallingLegs.{CallingLeg, calling_leg, decided_calling, is_idle, question, rung_leg}
use Rattle.fax_gateway.specs.CalledLegs as calls
use Rattle.fax_gateway.specs.CalledLegs.{CalledLeg, decided_called, with_tick}
use Rattle.fax_gateway.specs.BothLegs.{book_of, both_legs}
use Rattle.fax_gateway.specs.Traces.{IsTrace}
use Rattle.fax_laws.specs.delivery.Datagrams.{by_caller, caller_with}
use Rattle.fax_laws.specs.delivery.Delivered.{most_rounds}
use Rattle.fax_laws.specs.delivery.Gateways as relays
use Rattle.fax_laws.specs.delivery.Gateways.{GatewaysPassPages, IsRelayed, Relay, ReportsAreDeliveries, by_machine, given_at, machine_with, relay_begun, relay_round, relay_rounds, with_called, with_calling}
use Rattle.fax_laws.specs.delivery.Links.{IsReader, Reader, read_by}
use Rattle.fax_terminal.specs.Ends.{handed}
use Rattle.fax_loop.specs.Exchanges.{AreRounds, Round, answerer_after, caller_after, log_after, moment_after, reported, trace_after}
use Rattle.fax_loop.specs.Links.{came_called, came_calling, handed_called}
use Rattle.fax_terminal.specs.Terminals.{AreCame, ReadDatagram, called_turned, called_with, calling_turned, calling_with, octets_of, pages_on, rung_once}
use Rattle.fax_loop.proofs.OneCall.{after_is}
use Rattle.fax_laws.specs.exchanges.Exchanges.{EachComesOnce, EndsWell, ExchangesEndWell, by_answerer, by_gateway, handed_calling}

-- ---- THE LOG of a turn in which these come

abbrev came_on_calling : Setup → Reader → ℕ → Option (List ℕ) → List Event → List Entry
came_on_calling setup reads now None trace = []
came_on_calling setup reads now (Some octets) trace = Accepts (FromCalling octets now (decided_calling (calling_leg setup trace) octets) (read_by reads (question (calling_leg setup trace) now octets))) ∷ []

abbrev came_on_called : Setup → Writing → ℕ → Option (List ℕ) → List Event → List Entry
came_on_called setup writes now None trace = []
came_on_called setup writes now (Some octets) trace = Accepts (FromCalled octets now (decided_called writes (both_legs setup writes trace).leg octets)) ∷ []

abbrev sends_on : Bool → Option (List ℕ) → List Entry
sends_on calling None = []
sends_on true (Some octets) = Sends legs.Calling octets false ∷ []
sends_on false (Some octets) = Sends legs.Called octets false ∷ []

abbrev tick_log : ℕ → Given → List Entry
tick_log now given = sends_on false given.on_called ++ (sends_on true given.on_calling ++ Accepts (Tick now given) ∷ [])

abbrev turn_log : ℕ → Given → (calling called : List Entry) → List Entry
turn_log now given calling called = tick_log now given ++ ((ReceivesNothing legs.Called ∷ called) ++ (ReceivesNothing legs.Calling ∷ calling))

-- what is read off it, whichever there is
record Reads (setup : Setup) (writes : Writing) (reads : Reader) (now : ℕ) (given : Given) (one two : Option (List ℕ)) (trace : List Event) : Type 0 where
  tells : events (turn_log now given (came_on_calling setup reads now one trace) (came_on_called setup writes now two (with_calling setup reads now one trace))) ++ trace
      ≡ Tick now given ∷ with_called setup writes now two (with_calling setup reads now one trace)
  calling : came_calling (receipts (turn_log now given (came_on_calling setup reads now one trace) (came_on_called setup writes now two (with_calling setup reads now one trace)))) ≡ handed one
  called : came_called (receipts (turn_log now given (came_on_calling setup reads now one trace) (came_on_called setup writes now two (with_calling setup reads now one trace)))) ≡ handed two
  none_fails : (earlier : List Entry) → failed_in_a_row (receipts (turn_log now given (came_on_calling setup reads now one trace) (came_on_called setup writes now two (with_calling setup reads now one trace)) ++ earlier)) ≡ 0
  hands_calling : handed_calling (sent (turn_log now given (came_on_calling setup reads now one trace) (came_on_called setup writes now two (with_calling setup reads now one trace)))) ≡ handed given.on_calling
  hands_called : handed_called (sent (turn_log now given (came_on_calling setup reads now one trace) (came_on_called setup writes now two (with_calling setup reads now one trace)))) ≡ handed given.on_called

reads_so : (setup : Setup) (writes : Writing) (reads : Reader) (now : ℕ) (a b : Option (List ℕ)) (report : Option Report) (one two : Option (List ℕ)) (trace : List Event)
    → Reads setup writes reads now (record { on_calling = a; on_called = b; report = report }) one two trace
reads_so setup writes reads now None None report None None trace = record { tells = refl; calling = refl; called = refl; none_fails = λ e. refl; hands_calling = refl; hands_called = refl }
reads_so setup writes reads now None None report None (Some y) trace = record { tells = refl; calling = refl; called = refl; none_fails = λ e. refl; hands_calling = refl; hands_called = refl }
reads_so setup writes reads now None None report (Some x) None trace = record { tells = refl; calling = refl; called = refl; none_fails = λ e. refl; hands_calling = refl; hands_called = refl }
reads_so setup writes reads now None None report (Some x) (Some y) trace = record { tells = refl; calling = refl; called = refl; none_fails = λ e. refl; hands_calling = refl; hands_called = refl }
reads_so setup writes reads now None (Some b) report None None trace = record { tells = refl; calling = refl; called = refl; none_fails = λ e. refl; hands_calling = refl; hands_called = refl }
reads_so setup writes reads now None (Some b) report None (Some y) trace = record { tells = refl; calling = refl; called = refl; none_fails = λ e. refl; hands_calling = refl; hands_called = refl }
reads_so setup writes reads now None (Some b) report (Some x) None trace = record { tells = refl; calling = refl; called = refl; none_fails = λ e. refl; hands_calling = refl; hands_called = refl }
reads_so setup writes reads now None (Some b) report (Some x) (Some y) trace = record { tells = refl; calling = refl; called = refl; none_fails = λ e. refl; hands_calling = refl; hands_called = refl }
reads_so setup writes reads now (Some a) None report None None trace = record { tells = refl; calling = refl; called = refl; none_fails = λ e. refl; hands_calling = refl; hands_called = refl }
reads_so setup writes reads now (Some a) None report None (Some y) trace = record { tells = refl; calling = refl; called = refl; none_fails = λ e. refl; hands_calling = refl; hands_called = refl }
reads_so setup writes reads now (Some a) None report (Some x) None trace = record { tells = refl; calling = refl; called = refl; none_fails = λ e. refl; hands_calling = refl; hands_called = refl }
reads_so setup writes reads now (Some a) None report (Some x) (Some y) trace = record { tells = refl; calling = refl; called = refl; none_fails = λ e. refl; hands_calling = refl; hands_called = refl }
reads_so setup writes reads now (Some a) (Some b) report None None trace = record { tells = refl; calling = refl; called = refl; none_fails = λ e. refl; hands_calling = refl; hands_called = refl }
reads_so setup writes reads now (Some a) (Some b) report None (Some y) trace = record { tells = refl; calling = refl; called = refl; none_fails = λ e. refl; hands_calling = refl; hands_called = refl }
reads_so setup writes reads now (Some a) (Some b) report (Some x) None trace = record { tells = refl; calling = refl; called = refl; none_fails = λ e. refl; hands_calling = refl; hands_called = refl }
reads_so setup writes reads now (Some a) (Some b) report (Some x) (Some y) trace = record { tells = refl; calling = refl; called = refl; none_fails = λ e. refl; hands_calling = refl; hands_called = refl }

-- it is a turn
receives_calling : (setup : Setup) (reads : Reader) (now : ℕ) (o : Option (List ℕ)) (trace : List Event) → AreReceives legs.Calling now (ReceivesNothing legs.Calling ∷ came_on_calling setup reads now o trace)
receives_calling setup reads now None trace = inr ([], ReceivesNothing legs.Calling, refl, All-from_recursion (Comes legs.Calling now) [] tt, omega arith, inl refl)
receives_calling setup reads now (Some x) trace = inr (came_on_calling setup reads now (Some x) trace, ReceivesNothing legs.Calling, refl, All-from_recursion (Comes legs.Calling now) (came_on_calling setup reads now (Some x) trace) ((refl, refl), tt), omega arith, inl refl)

receives_called : (setup : Setup) (writes : Writing) (now : ℕ) (o : Option (List ℕ)) (trace : List Event) → AreReceives legs.Called now (ReceivesNothing legs.Called ∷ came_on_called setup writes now o trace)
receives_called setup writes now None trace = inr ([], ReceivesNothing legs.Called, refl, All-from_recursion (Comes legs.Called now) [] tt, omega arith, inl refl)
receives_called setup writes now (Some x) trace = inr (came_on_called setup writes now (Some x) trace, ReceivesNothing legs.Called, refl, All-from_recursion (Comes legs.Called now) (came_on_called setup writes now (Some x) trace) ((refl, refl), tt), omega arith, inl refl)

sent_calling : (o : Option (List ℕ)) → IsSent legs.Calling o (sends_on true o)
sent_calling None = refl
sent_calling (Some x) = (false, refl)

sent_called : (o : Option (List ℕ)) → IsSent legs.Called o (sends_on false o)
sent_called None = refl
sent_called (Some x) = (false, refl)

is_turn : (setup : Setup) (writes : Writing) (reads : Reader) (now : ℕ) (given : Given) (one two : Option (List ℕ)) (trace : List Event)
    → IsTurn now (turn_log now given (came_on_calling setup reads now one trace) (came_on_called setup writes now two (with_calling setup reads now one trace)))
is_turn setup writes reads now given one two trace =
    record {
      calling = ReceivesNothing legs.Calling ∷ came_on_calling setup reads now one trace;
      called = ReceivesNothing legs.Called ∷ came_on_called setup writes now two (with_calling setup reads now one trace);
      tick = tick_log now given;
      log_is = refl;
      on_calling = receives_calling setup reads now one trace;
      on_called = receives_called setup writes now two (with_calling setup reads now one trace);
      ticks = inl (given, sends_on true given.on_calling, sends_on false given.on_called, sent_calling given.on_calling, sent_called given.on_called, refl);
    }

-- ---- THE MACHINES of an exchange are those of a relay

calling_so : (writes : Writing) (now : ℕ) (o : Option (List ℕ)) (l : CalledLeg) → calling_with writes now (handed o) l ≡ caller_with writes now o l
calling_so writes now None l = refl
calling_so writes now (Some octets) l = refl

-- a datagram that comes to the machine that is called, as it is read
abbrev read_one : Setup → Reader → ℕ → Option (List ℕ) → Option CallingLeg → List ReadDatagram
read_one setup reads now None leg = []
read_one setup reads now (Some octets) leg = record { octets = octets; read = read_by reads (question (Some (rung_once setup now leg)) now octets) } ∷ []

either : (b : Bool) (x y : CallingLeg) → (if◌then◌else◌ {A = Option CallingLeg} b (Some x) (Some y)) ≡ Some (if◌then◌else◌ {A = CallingLeg} b x y)
either true x y = refl
either false x y = refl

called_so : (setup : Setup) (reads : Reader) (now : ℕ) (o : Option (List ℕ)) (leg : Option CallingLeg) → called_with setup now (read_one setup reads now o leg) leg ≡ machine_with setup reads now o leg
called_so setup reads now None leg = refl
called_so setup reads now (Some octets) None =
    let l : CallingLeg = rung_leg (new_answering setup.pause) now 0 in
    either (is_idle (answers.core_of l).state) l (answers.leg_with l now (read_by reads (question (Some l) now octets)) (datagram_of octets))
called_so setup reads now (Some octets) (Some l) = either (is_idle (answers.core_of l).state) l (answers.leg_with l now (read_by reads (question (Some l) now octets)) (datagram_of octets))

ticked_so : (now : ℕ) (leg : Option CallingLeg) → ticked_on leg now ≡ option_map (λ (l : CallingLeg). answers.leg_ticked l now) leg
ticked_so now None = refl
ticked_so now (Some l) = refl

octets_so : (setup : Setup) (reads : Reader) (now : ℕ) (o : Option (List ℕ)) (leg : Option CallingLeg) → octets_of (read_one setup reads now o leg) ≡ handed o
octets_so setup reads now None leg = refl
octets_so setup reads now (Some octets) leg = refl

read_so : (reads : Reader) → IsReader reads → (q : Option Question) → IsRead q (read_by reads q)
read_so reads is None = refl
read_so reads is (Some q) = is q

came_so : (setup : Setup) (reads : Reader) (now : ℕ) (o : Option (List ℕ)) (leg : Option CallingLeg) → IsReader reads → AreCame setup now (read_one setup reads now o leg) leg
came_so setup reads now None leg is = tt
came_so setup reads now (Some octets) leg is = (read_so reads is (question (Some (rung_once setup now leg)) now octets), tt)

few_handed : (o : Option (List ℕ)) → length (handed o) ≤ 16
few_handed None = omega arith
few_handed (Some octets) = omega arith

few_read : (setup : Setup) (reads : Reader) (now : ℕ) (o : Option (List ℕ)) (leg : Option CallingLeg) → length (read_one setup reads now o leg) ≤ 16
few_read setup reads now None leg = omega arith
few_read setup reads now (Some octets) leg = omega arith

pages_so : (o : Option CallingLeg) → pages_on o ≡ relays.pages_on o
pages_so None = refl
pages_so (Some l) = refl

-- ---- ROUNDS that are played so

record Plays (setup : Setup) (writes : Writing) (reads : Reader) (page : PageValue) (many : ℕ) (rounds : List Round) (r : Relay) : Type 0 where
  caller : caller_after setup writes (job_of 0 page) rounds ≡ r.caller
  trace : trace_after rounds ≡ r.trace
  answerer : answerer_after setup rounds ≡ r.answerer
  to_caller : by_gateway rounds ≡ handed r.to_caller
  to_gateway : by_answerer setup rounds ≡ handed r.to_gateway
  none_fails : failed_in_a_row (receipts (log_after rounds)) ≡ 0
  length_is : length rounds ≡ many
  are_rounds : AreRounds setup writes rounds
  once : EachComesOnce setup writes (job_of 0 page) rounds

abbrev one_in : Setup → Writing → ℕ → Relay → Option (List ℕ)
one_in setup writes now r = by_caller setup writes now (caller_with writes now r.to_caller r.caller)

abbrev heard_in : Setup → Writing → Reader → ℕ → Relay → List Event
heard_in setup writes reads now r = with_called setup writes now r.to_gateway (with_calling setup reads now (one_in setup writes now r) r.trace)

abbrev next_round : Setup → Writing → Reader → ℕ → Relay → Round
next_round setup writes reads now r =
    record {
      calling = handed r.to_caller;
      gateway =
          turn_log now (given_at setup writes now (heard_in setup writes reads now r)) (came_on_calling setup reads now (one_in setup writes now r) r.trace)
          (came_on_called setup writes now r.to_gateway (with_calling setup reads now (one_in setup writes now r) r.trace));
      called = read_one setup reads now (given_at setup writes now (heard_in setup writes reads now r)).on_called r.answerer;
    }

plays_on : (setup : Setup) (writes : Writing) (reads : Reader) (page : PageValue) (many now : ℕ) (rounds : List Round) (r : Relay) → IsReader reads → now ≡ moment_after rounds → many < 300000 → reported setup writes rounds ≡ None
    → Plays setup writes reads page many rounds r → Plays setup writes reads page (suc many) (next_round setup writes reads now r ∷ rounds) (relay_round setup setup setup writes reads now r)
unfolding relay_round
plays_on setup writes reads page many now rounds r is at few none p =
    let job : JobValue = job_of 0 page in
    let given : Given = given_at setup writes now (heard_in setup writes reads now r) in
    let round : Round = next_round setup writes reads now r in
    let seen : Reads setup writes reads now given (one_in setup writes now r) r.to_gateway r.trace =
    reads_so setup writes reads now given.on_calling given.on_called given.report (one_in setup writes now r) r.to_gateway r.trace in
    let c : calling_with writes now (handed r.to_caller) (caller_after setup writes job rounds) ≡ caller_with writes now r.to_caller r.caller =
    calling_so writes now r.to_caller (caller_after setup writes job rounds) ∙ ap (λ (l : CalledLeg). caller_with writes now r.to_caller l) p.caller in
    let a : called_with setup now round.called (answerer_after setup rounds) ≡ machine_with setup reads now given.on_called r.answerer =
    ap (λ (l : Option CallingLeg). called_with setup now round.called l) p.answerer ∙ called_so setup reads now given.on_called r.answerer in
    let size : length rounds ≡ many = p.length_is in
    let quiet : failed_in_a_row (receipts (log_after rounds)) ≡ 0 = p.none_fails in
    record {
      caller =
          ap (λ (t : ℕ). calling_turned writes t (handed r.to_caller) (caller_after setup writes job rounds)) (sym at)
          ∙ ap (λ (l : CalledLeg). with_tick (calls.calls writes l now) now l) c;
      trace = after_is round rounds ∙ ap (λ (es : List Event). events round.gateway ++ es) p.trace ∙ seen.tells;
      answerer =
          ap (λ (t : ℕ). called_turned setup t round.called (answerer_after setup rounds)) (sym at)
          ∙ ap (λ (l : Option CallingLeg). ticked_on l now) a ∙ ticked_so now (machine_with setup reads now given.on_called r.answerer);
      to_caller = seen.hands_calling;
      to_gateway =
          ap (λ (t : ℕ). handed (by_machine setup t (called_with setup t round.called (answerer_after setup rounds)))) (sym at)
          ∙ ap (λ (l : Option CallingLeg). handed (by_machine setup now l)) a;
      none_fails = seen.none_fails (log_after rounds);
      length_is = ap (λ (n : ℕ). suc n) size;
      are_rounds = (
        record {
          few = omega arith;
          unreported = none;
          receives = omega arith;
          few_calling = few_handed r.to_caller;
          turn = subst (λ (t : ℕ). IsTurn t round.gateway) at (is_turn setup writes reads now given (one_in setup writes now r) r.to_gateway r.trace);
          few_called = few_read setup reads now given.on_called r.answerer;
          read = subst (λ (t : ℕ). AreCame setup t round.called (answerer_after setup rounds)) at
              (subst (λ (l : Option CallingLeg). AreCame setup now round.called l) (sym p.answerer) (came_so setup reads now given.on_called r.answerer is));
        },
        p.are_rounds,
      );
      once = (
        record {
          to_caller = sym p.to_caller;
          on_calling = seen.calling ∙ ap (λ (l : CalledLeg). handed (by_caller setup writes now l)) (sym c)
              ∙ ap (λ (t : ℕ). handed (by_caller setup writes t (calling_with writes t (handed r.to_caller) (caller_after setup writes job rounds)))) at;
          on_called = seen.called ∙ sym p.to_gateway;
          to_answerer = octets_so setup reads now given.on_called r.answerer ∙ sym seen.hands_called;
        },
        p.once,
      );
    }

-- one round more at the end
relay_last : (setup : Setup) (writes : Writing) (reads : Reader) (many now : ℕ) (r : Relay)
    → relay_rounds setup setup setup writes reads (suc many) now r ≡ relay_round setup setup setup writes reads (now + 40 * many) (relay_rounds setup setup setup writes reads many now r)
unfolding relay_rounds
relay_last setup writes reads zero now r = ap (λ (t : ℕ). relay_round setup setup setup writes reads t r) (let e : now ≡ now + 40 * 0 = omega arith in e)
relay_last setup writes reads (suc many) now r =
    relay_last setup writes reads many (now + 40) (relay_round setup setup setup writes reads now r)
    ∙ ap (λ (t : ℕ). relay_round setup setup setup writes reads t (relay_rounds setup setup setup writes reads many (now + 40) (relay_round setup setup setup writes reads now r)))
    (let e : now + 40 + 40 * many ≡ now + 40 * suc many = omega arith in e)

abbrev relay_at : Setup → Writing → Reader → PageValue → ℕ → Relay
relay_at setup writes reads page many = relay_rounds setup setup setup writes reads many 0 (relay_begun setup writes (job_of 0 page) 0)

-- played so far, and what is told of it then
ends_now : (setup : Setup) (writes : Writing) (reads : Reader) (page : PageValue) (many : ℕ) (rounds : List Round) → Plays setup writes reads page many rounds (relay_at setup writes reads page many)
    → IsRelayed setup writes page (relay_at setup writes reads page many) → EndsWell setup writes page
ends_now setup writes reads page many rounds p is =
    let told : reported setup writes rounds ≡ Some (report_of (job_of 0 page) outcomes.Delivered 1) =
    ap (λ (t : List Event). slice_get (book_of (both_legs setup writes t)).reports 0) p.trace ∙ ap (λ (rs : List Report). slice_get rs 0) is.reports in
    record {
      rounds = rounds;
      are_rounds = p.are_rounds;
      over = inl (subst IsSome (sym told) refl);
      trace = subst (IsTrace setup writes) (sym p.trace) is.is_trace;
      once = p.once;
      report = told;
      pages = ap pages_on p.answerer ∙ pages_so (relay_at setup writes reads page many).answerer ∙ is.pages;
    }

play : (left : ℕ) (setup : Setup) (writes : Writing) (reads : Reader) (page : PageValue) (many : ℕ) (rounds : List Round) → ReportsAreDeliveries → GatewaysPassPages → setup.asks ≡ false → setup.restored ≡ [] → IsWriting writes → IsReader reads
    → IsPage page → many + left ≡ 2 * most_rounds writes page → 2 * most_rounds writes page ≤ 300000 → Plays setup writes reads page many rounds (relay_at setup writes reads page many) → EndsWell setup writes page
play zero setup writes reads page many rounds always law asks restored is_writing is_reader is_page all fits p =
    ends_now setup writes reads page many rounds p (law setup setup setup writes reads page 0 0 many asks restored is_writing is_reader is_page (omega arith) (omega arith))
play (suc left) setup writes reads page many rounds always law asks restored is_writing is_reader is_page all fits p =
    by (always setup setup setup writes reads page 0 0 many asks restored is_writing is_reader is_page (omega arith))
    (λ none.
    play left setup writes reads page (suc many) (next_round setup writes reads (0 + 40 * many) (relay_at setup writes reads page many) ∷ rounds) always law asks restored is_writing is_reader is_page (omega arith) fits
    (subst (λ (r : Relay). Plays setup writes reads page (suc many) (next_round setup writes reads (0 + 40 * many) (relay_at setup writes reads page many) ∷ rounds) r) (sym (relay_last setup writes reads many 0 (relay_begun setup writes (job_of 0 page) 0)))
    (plays_on setup writes reads page many (0 + 40 * many) rounds (relay_at setup writes reads page many) is_reader (at (length rounds) p.length_is) (omega arith)
    (ap (λ (t : List Event). slice_get (book_of (both_legs setup writes t)).reports 0) p.trace ∙ ap (λ (rs : List Report). slice_get rs 0) none) p)))
  where
    at : (n : ℕ) → n ≡ many → 0 + 40 * many ≡ min (0 + 40 * n) 18446744073709551615
    at n e = omega arith

    by : ((book_of (both_legs setup writes (relay_at setup writes reads page many).trace)).reports ≡ []) ⊎ IsRelayed setup writes page (relay_at setup writes reads page many)
        → ((book_of (both_legs setup writes (relay_at setup writes reads page many).trace)).reports ≡ [] → EndsWell setup writes page) → EndsWell setup writes page
    by (inl none) go = go none
    by (inr is) go = ends_now setup writes reads page many rounds p is

played_none : (setup : Setup) (writes : Writing) (reads : Reader) (page : PageValue) → Plays setup writes reads page 0 [] (relay_at setup writes reads page 0)
unfolding relay_rounds
played_none setup writes reads page =
    record { caller = refl; trace = refl; answerer = refl; to_caller = refl; to_gateway = refl; none_fails = refl; length_is = refl; are_rounds = tt; once = tt }

pub exchanges_end_well : ReportsAreDeliveries → GatewaysPassPages → ExchangesEndWell
exchanges_end_well always law setup writes reads page asks restored is_writing is_reader is_page fits =
    play (2 * most_rounds writes page) setup writes reads page 0 [] always law asks restored is_writing is_reader is_page (omega arith) fits (played_none setup writes reads page)
