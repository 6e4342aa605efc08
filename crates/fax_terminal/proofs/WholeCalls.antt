-- The calls of terminals, turn by turn.
use Rattle.std.proofs.Common.{◌≡◌, ℕ, ◌≤◌, Bool, true, false, List, [], ◌∷◌, ◌++◌, flat_map, is_some, Option, Some, None, Result, Ok, Err, refl, sym, ◌∙◌, ap, subst, if◌then◌else◌}
use Rattle.fax_udptl.specs.declared.fault.UdptlFault.{UdptlFault}
use Rattle.fax_udptl.specs.Datagrams.{DatagramValue, datagram_of}
use Rattle.fax_pagestore.specs.Pages.{PageValue}
use Rattle.fax_jobs.specs.Jobs.{JobValue}
use Rattle.fax_answer.specs.declared.state.State.TheVariants as answerer_state
use Rattle.fax_answer.specs.Table.{Reading}
use Rattle.fax_answer.specs.Calls as answering
use Rattle.fax_answer.specs.Confirmation.{AreRead}
use Rattle.fax_answer.specs.Sent.{pages_confirmed}
use Rattle.fax_call.specs.Calls.{CallerCore, after_events, not_placed, started}
use Rattle.fax_call.specs.Writings.{IsWriting, Writing}
use Rattle.fax_gateway.specs.declared.settings.Settings.{Settings}
use Rattle.fax_gateway.specs.declared.caller_endpoint.CallerEndpoint.{CallerEndpoint}
use Rattle.fax_gateway.specs.CalledLegs.{CalledLeg, core_left, core_of}
use Rattle.fax_gateway.specs.CallingLegs as calling_legs
use Rattle.fax_gateway.specs.CallingLegs.{CallingLeg, idle_after, is_idle}
use Rattle.fax_gateway.specs.Reached.{IsCalled, confirmed_on, given_on, ticked_on}
use Rattle.fax_gateway.specs.Setups.{AreAllowed, HasSettings, Setup}
use Rattle.fax_gateway.specs.Wires.{Grows}
use Rattle.fax_gateway.proofs.DrivingLemmas.{grows_as, grows_more, grows_none}
use Rattle.fax_gateway.proofs.Hearing.{heard_by}
use Rattle.fax_gateway.proofs.IdleLegs.{idle_is}
use Rattle.fax_gateway.proofs.LegsRead.{LegRead, step_read}
use Rattle.fax_terminal.specs.declared.fault.TerminalFault.{TerminalFault}
use Rattle.fax_terminal.specs.declared.fault.TerminalFault.TheVariants as faults
use Rattle.fax_terminal.specs.declared.sending.SentJob.{SentJob}
use Rattle.fax_terminal.specs.Calls.{AnswererTurn, AnswersCall, AnswersCallOver, AnswersOver, AreFew, AreHeard, CallerTurn, CallsOver, SendsJob, SendsOver, StoresConfirmed, StoresWholeCall, TellsCall, TellsCore, TellsLeg, answerer_after, caller_after, core_after, rung_at}
use Rattle.fax_terminal.specs.Ends.{EndTraffic, handed}
use Rattle.fax_terminal.specs.Stores.{AreGiven, stored_all}
use Rattle.fax_terminal.specs.Terminals.{AreCame, ReadDatagram, called_turned, called_with, calling_turned, calling_with, datagrams_of, octets_of, pages_on, rung_once}
use Rattle.fax_terminal.specs.Turns.{AnswererListens, AnswererTurned, AnswererTurns, CallerTurns, IsAnswering, ReceivingValue, handed_if}
use Rattle.fax_terminal.proofs.AnsweringLemmas.{answerer_sends, called_first-given, called_first-pages, called_first-some, called_turned-pages, called_turned-some}
use Rattle.fax_terminal.proofs.CallingLemmas.{caller_sends, calling_with-job}
use Rattle.fax_terminal.proofs.EachCame.{came_each}

-- settings have a setup
pub setup_of : (settings : Settings) → AreAllowed settings → Setup
setup_of settings allowed =
    record { redundancy = settings.redundancy; few = allowed.0; pause = settings.preamble_ms; is_pause = allowed.1; asks = settings.asks; restored = []; are_pages = tt }

pub is_set : (settings : Settings) (allowed : AreAllowed settings) → HasSettings (setup_of settings allowed) settings
unfolding setup_of
is_set settings allowed = record { redundancy = refl; pause = refl; asks = refl }

-- ---- THE TERMINAL THAT CALLS. Its call is the one that began
record HasBegun (setup : Setup) (writes : Writing) (job : JobValue) (start : ℕ) (l : CalledLeg) : Type 0 where
  job_is : l.job ≡ job
  before_is : l.before ≡ core_left setup writes None
  begun_is : l.begun ≡ start
  is_placed : l.placed ≡ true

caller_after-begun : (setup : Setup) (writes : Writing) (job : JobValue) (start : ℕ) (turns : List CallerTurn) → HasBegun setup writes job start (caller_after setup writes job start turns)
caller_after-begun setup writes job start [] = record { job_is = refl; before_is = refl; begun_is = refl; is_placed = refl }
caller_after-begun setup writes job start (turn ∷ turns) =
    let h = came_each (HasBegun setup writes job start) (λ k n d e. record { job_is = e.job_is; before_is = e.before_is; begun_is = e.begun_is; is_placed = e.is_placed }) writes turn.now turn.came
    (caller_after setup writes job start turns) (caller_after-begun setup writes job start turns) in
    record { job_is = h.job_is; before_is = h.before_is; begun_is = h.begun_is; is_placed = h.is_placed }

core_is : (setup : Setup) (writes : Writing) (job : JobValue) (start : ℕ) (l : CalledLeg) → HasBegun setup writes job start l → core_of writes l ≡ core_after writes setup.pause job start l.events
core_is setup writes job start l h =
    ap (λ (b : Bool). after_events writes l.job (if◌then◌else◌ {A = CallerCore} b (started l.before l.job l.begun) (not_placed l.before l.job)) l.events) h.is_placed
    ∙ ap (λ (j : JobValue). after_events writes j (started l.before j l.begun) l.events) h.job_is
    ∙ ap (λ (before : CallerCore). after_events writes job (started before job l.begun) l.events) h.before_is
    ∙ ap (λ (n : ℕ). after_events writes job (started (core_left setup writes None) job n) l.events) h.begun_is

-- so far these turns led to it, over this end
pub record IsCallingOver (settings : Settings) (job : JobValue) (before after : EndTraffic) (endpoint : CallerEndpoint) : Type 0 where
  pub each : (setup : Setup) (writes : Writing) → HasSettings setup settings → IsWriting writes
      → (start : ℕ) × (turns : List CallerTurn) × CallsOver setup writes job before after start turns × IsCalled setup writes (Some (caller_after setup writes job start turns)) endpoint

pub calls_none : (settings : Settings) (job : JobValue) (start : ℕ) (told : EndTraffic) (endpoint : CallerEndpoint)
    → ((setup : Setup) (writes : Writing) → HasSettings setup settings → IsCalled setup writes (Some (caller_after setup writes job start [])) endpoint) → IsCallingOver settings job told told endpoint
calls_none settings job start told endpoint begun = record {
  each = λ setup writes set writing. (start, [], record { few = tt; received = grows_none told.received; sent = grows_none told.sent }, begun setup writes set);
}

-- one turn more, before which the end may go on
pub calls_more : (settings : Settings) (job : JobValue) (now : ℕ) (first a b c : EndTraffic) (old new : CallerEndpoint) → Grows [] a.received b.received → Grows [] a.sent b.sent
    → ((setup : Setup) (writes : Writing) (l : CalledLeg) → IsWriting writes → l.job ≡ job → IsCalled setup writes (Some l) old → CallerTurns setup writes l now b c new)
    → IsCallingOver settings job first a old → IsCallingOver settings job first c new
calls_more settings job now first a b c old new received sent turns so_far = record {
  each = λ setup writes set writing.
      let (start, before, over, called) = so_far.each setup writes set writing in
      let l = caller_after setup writes job start before in
      let t = turns setup writes l writing (caller_after-begun setup writes job start before).job_is called in
      let came = flat_map (λ (turn : CallerTurn). turn.came) before in (
        start,
        record { now = now; came = t.came } ∷ before,
        record {
          few = (t.few, over.few);
          received = grows_more came t.came first.received b.received c.received (grows_more came [] first.received a.received b.received over.received received) t.received;
          sent = caller_sends setup writes now t.came l first b c (grows_more (datagrams_of setup l.given) [] first.sent a.sent b.sent over.sent sent) t.sent;
        },
        t.called,
      );
}

-- a call that is over
pub sends_job : (settings : Settings) (job : JobValue) (before after : EndTraffic) (endpoint : CallerEndpoint) (sent : SentJob)
    → ((setup : Setup) (writes : Writing) (l : CalledLeg) → IsCalled setup writes (Some l) endpoint → TellsLeg writes l sent)
    → IsCallingOver settings job before after endpoint → SendsJob settings job before after sent
sends_job settings job before after endpoint sent tells c = λ setup writes set writing.
    let (start, turns, over, called) = c.each setup writes set writing in
    record { start = start; turns = turns; over_end = over; tells = tells setup writes (caller_after setup writes job start turns) called }

pub tells_call : (settings : Settings) → AreAllowed settings → (job : JobValue) (before after : EndTraffic) (sent : SentJob) → SendsJob settings job before after sent → TellsCall settings.preamble_ms job sent
unfolding setup_of
tells_call settings allowed job before after sent s = record {
  after = λ writes writing.
      let setup = setup_of settings allowed in
      let over = s setup writes (is_set settings allowed) writing in
      let l = caller_after setup writes job over.start over.turns in (
        over.start,
        l.events,
        subst (λ (core : CallerCore). TellsCore core sent) (core_is setup writes job over.start l (caller_after-begun setup writes job over.start over.turns)) over.tells,
      );
}

-- ---- THE TERMINAL THAT IS CALLED. Its leg had no call before
HasRung : Setup → Option CallingLeg → Type 0
HasRung setup None = Unit {0}
HasRung setup (Some l) = l.before ≡ answering.new_answering setup.pause

heard-rung : (setup : Setup) (b : Bool) (l : CallingLeg) (now : ℕ) (read : Reading) (r : Result DatagramValue UdptlFault) → HasRung setup (Some l) → HasRung setup (heard_by b l now read r)
unfolding HasRung
heard-rung setup true l now read r h = h
heard-rung setup false l now read (Ok d) h = h
heard-rung setup false l now read (Err fault) h = h

rung-rung : (setup : Setup) (now : ℕ) (leg : Option CallingLeg) → HasRung setup leg → HasRung setup (Some (rung_once setup now leg))
unfolding HasRung
rung-rung setup now None h = refl
rung-rung setup now (Some l) h = h

with-rung : (setup : Setup) (now : ℕ) (came : List ReadDatagram) (leg : Option CallingLeg) → HasRung setup leg → HasRung setup (called_with setup now came leg)
with-rung setup now [] leg h = h
with-rung setup now (c ∷ came) leg h =
    let l : CallingLeg = rung_once setup now (called_with setup now came leg) in
    heard-rung setup (is_idle (calling_legs.core_of l).state) l now c.read (datagram_of c.octets) (rung-rung setup now (called_with setup now came leg) (with-rung setup now came leg h))

ticked-rung : (setup : Setup) (leg : Option CallingLeg) (now : ℕ) → HasRung setup leg → HasRung setup (ticked_on leg now)
unfolding HasRung
ticked-rung setup None now h = h
ticked-rung setup (Some l) now h = h

none-rung : (setup : Setup) → HasRung setup None
unfolding HasRung
none-rung setup = tt

after-rung : (setup : Setup) (start : ℕ) (first : ReadDatagram) (turns : List AnswererTurn) → HasRung setup (answerer_after setup start first turns)
after-rung setup start first [] = with-rung setup start (first ∷ []) None (none-rung setup)
after-rung setup start first (turn ∷ turns) =
    let leg = answerer_after setup start first turns in
    ticked-rung setup (called_with setup turn.now turn.came leg) turn.now (with-rung setup turn.now turn.came leg (after-rung setup start first turns))

-- each image was rightly read
rung-read : (setup : Setup) (now : ℕ) (leg : Option CallingLeg) → LegRead leg → LegRead (Some (rung_once setup now leg))
rung-read setup now None h = tt
rung-read setup now (Some l) h = h

with-read : (setup : Setup) (now : ℕ) (came : List ReadDatagram) (leg : Option CallingLeg) → AreCame setup now came leg → LegRead leg → LegRead (called_with setup now came leg)
with-read setup now [] leg are h = h
with-read setup now (c ∷ came) leg are h =
    let before = called_with setup now came leg in
    step_read setup (Some (rung_once setup now before)) now c.octets now true c.read are.0 (rung-read setup now before (with-read setup now came leg are.1 h))

ticked-read : (leg : Option CallingLeg) (now : ℕ) → LegRead leg → LegRead (ticked_on leg now)
ticked-read None now h = tt
ticked-read (Some l) now h = h

after-read : (setup : Setup) (start : ℕ) (first : ReadDatagram) (turns : List AnswererTurn) → AreHeard setup start first turns → LegRead (answerer_after setup start first turns)
after-read setup start first [] are = with-read setup start (first ∷ []) None are tt
after-read setup start first (turn ∷ turns) are =
    let leg = answerer_after setup start first turns in
    ticked-read (called_with setup turn.now turn.came leg) turn.now (with-read setup turn.now turn.came leg are.1 (after-read setup start first turns are.2))

after-some : (setup : Setup) (start : ℕ) (first : ReadDatagram) (turns : List AnswererTurn) → is_some (answerer_after setup start first turns) ≡ true
after-some setup start first [] = called_first-some setup start first
after-some setup start first (turn ∷ turns) = called_turned-some setup turn.now turn.came (answerer_after setup start first turns) (after-some setup start first turns)

-- a store was given pages, and then others
AreGiven-more : {K : Type 0} (keeps : PageValue → Bool → K → K → Type 0) (all_stored : Bool) (newer pages : List PageValue) (first old new : K)
    → AreGiven keeps true pages first old → AreGiven keeps all_stored newer old new → AreGiven keeps all_stored (newer ++ pages) first new
AreGiven-more keeps true [] pages first old new before after = subst (λ store. AreGiven keeps true pages first store) (sym after) before
AreGiven-more keeps false [] pages first old new before after = absurd after
AreGiven-more keeps all_stored (page ∷ newer) pages first old new before (between, given, is) =
    (between, AreGiven-more keeps true newer pages first old between before given, is)

-- what a store was given in a call
confirmed_on_leg : {K : Type 0} (keeps : PageValue → Bool → K → K → Type 0) (setup : Setup) (all_stored : Bool) (leg : Option CallingLeg) (old new : K) → HasRung setup leg → LegRead leg
    → AreGiven keeps all_stored (pages_on leg) old new → StoresConfirmed keeps setup.pause all_stored old new
unfolding HasRung
confirmed_on_leg keeps setup all_stored None old new rung read given = record { start = 0; events = []; right = tt; given = given }
confirmed_on_leg keeps setup all_stored (Some l) old new rung read given = record {
  start = l.begun;
  events = l.events;
  right = subst (λ (before : answering.AnswererCore). AreRead (answering.rung before l.begun) l.events) rung read;
  given = subst (λ (before : answering.AnswererCore). AreGiven keeps all_stored (pages_confirmed (answering.rung before l.begun) l.events) old new) rung given;
}

whole_on_leg : {K : Type 0} (keeps : PageValue → Bool → K → K → Type 0) (setup : Setup) (leg : Option CallingLeg) (old new : K) → is_some leg ≡ true → HasRung setup leg → LegRead leg
    → AreGiven keeps true (pages_on leg) old new → idle_after leg ≡ true → StoresWholeCall keeps setup.pause old new
unfolding HasRung confirmed_on_leg
whole_on_leg keeps setup None old new some rung read given idle = cc
whole_on_leg keeps setup (Some l) old new some rung read given idle = record {
  kept = confirmed_on_leg keeps setup true (Some l) old new rung read given;
  over = subst (λ (before : answering.AnswererCore). (answering.after_events (answering.rung before l.begun) l.events).state ≡ answerer_state.Idle) rung (idle_is (calling_legs.core_of l).state idle);
}

-- so far these turns led to it, over this end, and the store to this
pub record IsAnsweringOver {K : Type 0} (keeps : PageValue → Bool → K → K → Type 0) (settings : Settings) (octets : List ℕ) (before after : EndTraffic) (old new : K) (terminal : ReceivingValue) : Type 0 where
  pub each : (setup : Setup) → HasSettings setup settings
      → (start : ℕ) × (first : ReadDatagram) × (first.octets ≡ octets) × (turns : List AnswererTurn)
      × AnswersOver keeps setup start first turns before after old new × IsAnswering setup (answerer_after setup start first turns) terminal

-- the first datagram came
pub answers_first : {K : Type 0} (keeps : PageValue → Bool → K → K → Type 0) (settings : Settings) (octets : List ℕ) (start : ℕ) (told : EndTraffic) (store : K) (new : ReceivingValue)
    → ((setup : Setup) → HasSettings setup settings → AnswererListens setup (rung_once setup start None) start octets new)
    → IsAnsweringOver keeps settings octets told told store store new
answers_first keeps settings octets start told store new heard = record {
  each = λ setup set.
      let l = heard setup set in
      let first : ReadDatagram = record { octets = octets; read = l.read } in (
        start,
        first,
        refl,
        [],
        record {
          heard = (l.right, tt);
          received = grows_none told.received;
          given = subst (λ (pages : List PageValue). AreGiven keeps true pages store store) (sym (called_first-pages setup start first)) refl;
          sent = grows_as [] _ told.sent told.sent (ap (datagrams_of setup) (sym (called_first-given setup start first))) (grows_none told.sent);
        },
        l.answering,
      );
}

-- one turn more, before which the end may go on
pub answers_more : {K : Type 0} (keeps : PageValue → Bool → K → K → Type 0) (settings : Settings) (octets : List ℕ) (now : ℕ) (first a b c : EndTraffic) (begun before after : K) (old new : ReceivingValue) → Grows [] a.received b.received
    → Grows [] a.sent b.sent → ((setup : Setup) (leg : Option CallingLeg) → IsAnswering setup leg old → AnswererTurns keeps true setup leg now b c before after new)
    → IsAnsweringOver keeps settings octets first a begun before old → IsAnsweringOver keeps settings octets first c begun after new
answers_more keeps settings octets now first a b c begun before after old new received sent turns so_far = record {
  each = λ setup set.
      let (start, datagram, is, earlier, over, answering) = so_far.each setup set in
      let leg = answerer_after setup start datagram earlier in
      let t = turns setup leg answering in
      let came = flat_map (λ (turn : AnswererTurn). octets_of turn.came) earlier in (
        start,
        datagram,
        is,
        record { now = now; came = t.came } ∷ earlier,
        record {
          heard = (t.few, t.read, over.heard);
          received = grows_more came (octets_of t.came) first.received b.received c.received (grows_more came [] first.received a.received b.received over.received received) t.received;
          given = subst (λ (pages : List PageValue). AreGiven keeps true pages begun after) (sym (called_turned-pages setup now t.came leg)) (AreGiven-more keeps true _ (pages_on leg) begun before after over.given t.given);
          sent = answerer_sends setup now t.came leg first b c (grows_more (datagrams_of setup (given_on leg)) [] first.sent a.sent b.sent over.sent sent) t.sent;
        },
        t.answering,
      );
}

-- a call that is over
pub answers_call : {K : Type 0} (keeps : PageValue → Bool → K → K → Type 0) (settings : Settings) (octets : List ℕ) (before after : EndTraffic) (old new : K) (terminal : ReceivingValue) (is_over : Bool) → is_over ≡ true
    → ((setup : Setup) (leg : Option CallingLeg) → IsAnswering setup leg terminal → is_over ≡ idle_after leg)
    → IsAnsweringOver keeps settings octets before after old new terminal → AnswersCall keeps settings octets before after old new
answers_call keeps settings octets before after old new terminal is_over is tells a = λ setup set.
    let (start, first, first_is, turns, over, answering) = a.each setup set in
    record { start = start; first = first; first_is = first_is; turns = turns; over_end = over; over = sym (tells setup (answerer_after setup start first turns) answering) ∙ is }

-- what the store was given
pub stores_confirmed : {K : Type 0} (keeps : PageValue → Bool → K → K → Type 0) (settings : Settings) → AreAllowed settings → (octets : List ℕ) (before after : EndTraffic) (old new : K) (terminal : ReceivingValue)
    → IsAnsweringOver keeps settings octets before after old new terminal → StoresConfirmed keeps settings.preamble_ms true old new
unfolding setup_of
stores_confirmed keeps settings allowed octets before after old new terminal a =
    let setup = setup_of settings allowed in
    let (start, first, first_is, turns, over, answering) = a.each setup (is_set settings allowed) in
    confirmed_on_leg keeps setup true (answerer_after setup start first turns) old new (after-rung setup start first turns) (after-read setup start first turns over.heard) over.given

-- and where a turn goes no further
turned_confirmed : {K : Type 0} (keeps : PageValue → Bool → K → K → Type 0) (setup : Setup) (leg : Option CallingLeg) (now : ℕ) (b c : EndTraffic) (begun before after : K) (new : ReceivingValue) (all_stored : Bool)
    → HasRung setup leg → LegRead leg → AreGiven keeps true (pages_on leg) begun before → AnswererTurns keeps all_stored setup leg now b c before after new → StoresConfirmed keeps setup.pause all_stored begun after
turned_confirmed keeps setup leg now b c begun before after new all_stored rung read given t =
    let k = called_with setup now t.came leg in
    confirmed_on_leg keeps setup all_stored (called_turned setup now t.came leg) begun after (ticked-rung setup k now (with-rung setup now t.came leg rung)) (ticked-read k now (with-read setup now t.came leg t.read read))
    (subst (λ (pages : List PageValue). AreGiven keeps all_stored pages begun after) (sym (called_turned-pages setup now t.came leg)) (AreGiven-more keeps all_stored _ (pages_on leg) begun before after given t.given))

turned_so : {K : Type 0} (keeps : PageValue → Bool → K → K → Type 0) (setup : Setup) (leg : Option CallingLeg) (now : ℕ) (b c : EndTraffic) (begun before after : K) (new : ReceivingValue) (result : Result (Option PageValue) TerminalFault)
    → HasRung setup leg → LegRead leg → AreGiven keeps true (pages_on leg) begun before → AnswererTurned keeps result setup leg now b c before after new → StoresConfirmed keeps setup.pause (stored_all result) begun after
turned_so keeps setup leg now b c begun before after new (Ok page) rung read given t = turned_confirmed keeps setup leg now b c begun before after new true rung read given t.0
turned_so keeps setup leg now b c begun before after new (Err faults.Storing) rung read given t = turned_confirmed keeps setup leg now b c begun before after new false rung read given t
turned_so {K} keeps setup leg now b c begun before after new (Err faults.NoMemory) rung read given t =
    subst (λ (k : K). StoresConfirmed keeps setup.pause true begun k) (sym t.0) (confirmed_on_leg keeps setup true leg begun before rung read given)
turned_so {K} keeps setup leg now b c begun before after new (Err faults.Clock) rung read given t = absurd t

pub stores_until : {K : Type 0} (keeps : PageValue → Bool → K → K → Type 0) (settings : Settings) → AreAllowed settings → (octets : List ℕ) (now : ℕ) (first a b c : EndTraffic) (begun before after : K) (old new : ReceivingValue) (result : Result (Option PageValue) TerminalFault)
    → ((setup : Setup) (leg : Option CallingLeg) → IsAnswering setup leg old → AnswererTurned keeps result setup leg now b c before after new)
    → IsAnsweringOver keeps settings octets first a begun before old → StoresConfirmed keeps settings.preamble_ms (stored_all result) begun after
unfolding setup_of
stores_until keeps settings allowed octets now first a b c begun before after old new result turns so_far =
    let setup = setup_of settings allowed in
    let (start, datagram, is, earlier, over, answering) = so_far.each setup (is_set settings allowed) in
    let leg = answerer_after setup start datagram earlier in
    turned_so keeps setup leg now b c begun before after new result (after-rung setup start datagram earlier) (after-read setup start datagram earlier over.heard) over.given (turns setup leg answering)

-- one that is over
pub stores_whole : {K : Type 0} (keeps : PageValue → Bool → K → K → Type 0) (settings : Settings) → AreAllowed settings → (octets : List ℕ) (before after : EndTraffic) (old new : K)
    → AnswersCall keeps settings octets before after old new → StoresWholeCall keeps settings.preamble_ms old new
unfolding setup_of
stores_whole keeps settings allowed octets before after old new a =
    let setup = setup_of settings allowed in
    let c = a setup (is_set settings allowed) in
    whole_on_leg keeps setup (answerer_after setup c.start c.first c.turns) old new (after-some setup c.start c.first c.turns) (after-rung setup c.start c.first c.turns) (after-read setup c.start c.first c.turns c.over_end.heard)
    c.over_end.given c.over

-- before the first datagram
pub stores_nothing : {K : Type 0} (keeps : PageValue → Bool → K → K → Type 0) (pause : ℕ) (store : K) → StoresConfirmed keeps pause true store store
stores_nothing keeps pause store = record { start = 0; events = []; right = tt; given = refl }
