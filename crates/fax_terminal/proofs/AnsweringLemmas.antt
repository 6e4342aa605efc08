-- The terminal that is called, step by step.
use Rattle.std.proofs.Common.{◌≡◌, ℕ, ◌+◌, ◌≤◌, Bool, true, false, List, [], ◌∷◌, ◌++◌, inl, is_some, not, ◌&&◌, Option, Some, None, Result, Ok, Err, IfErr, IfOk, OnErr, refl, sym, ◌∙◌, ap, subst, arith, append-nil}
use Rattle.fax_udptl.specs.declared.fault.UdptlFault.{UdptlFault}
use Rattle.fax_udptl.specs.Datagrams.{DatagramValue, datagram_of}
use Rattle.fax_ifp.specs.Pieces.{Piece}
use Rattle.fax_pagestore.specs.Pages.{PageValue}
use Rattle.fax_answer.specs.declared.step.Confirmed.{Confirmed}
use Rattle.fax_answer.specs.declared.step.Step.{Step}
use Rattle.fax_answer.specs.Table.{Reading}
use Rattle.fax_answer.specs.Replies.{ConfirmedPage, WaitingPacket}
use Rattle.fax_answer.specs.Calls.{AnswererCore, CallEvent, Comes, rung}
use Rattle.fax_answer.specs.Readings.{comes_all}
use Rattle.fax_answer.specs.Sent.{confirmed_in_tick, confirmed_with, pages_confirmed}
use Rattle.fax_answer.specs.Shown.{confirmed_shown}
use Rattle.fax_gateway.specs.Setups.{Setup}
use Rattle.fax_gateway.specs.Legs.{new_pieces}
use Rattle.fax_gateway.specs.CallingLegs.{CallingLeg, answers, confirmed_by, core_of, idle_after, is_idle, packets_with, rung_leg, told_by, told_calling}
use Rattle.fax_gateway.specs.Driving.{most_datagrams}
use Rattle.fax_gateway.specs.Reached.{CallingValue, HearsCalling, IsCalling, TellsTick, answering_of, confirmed_on, given_on, ticked_on}
use Rattle.fax_gateway.specs.Wires.{Grows}
use Rattle.fax_gateway.proofs.DrivingLemmas.{grows_as, grows_more, grows_none}
use Rattle.fax_gateway.proofs.Hearing.{heard_by}
use Rattle.fax_terminal.specs.declared.fault.TerminalFault.{TerminalFault}
use Rattle.fax_terminal.specs.declared.fault.TerminalFault.TheVariants as faults
use Rattle.fax_terminal.specs.Ends.{EndTraffic, handed}
use Rattle.fax_terminal.specs.Stores.{AreGiven, page_in, pages_of, stored_all}
use Rattle.fax_terminal.specs.Terminals.{ReadDatagram, called_turned, called_with, datagrams_of, octets_of, page_given, pages_on, rung_once}
use Rattle.fax_terminal.specs.Turns.{AnswererHears, AnswererListens, AnswererStops, AnswererTurned, AnswererTurns, IsAnswering, MayBeRung, ReceivingValue, handed_if}

-- ---- a datagram, by whether the call is over
-- pieces confirm nothing
pages_confirmed-comes : (a : AnswererCore) (given : List Piece) (now : ℕ) (read : Reading) (events : List CallEvent)
    → pages_confirmed a (comes_all given now read events) ≡ pages_confirmed a events
pages_confirmed-comes a [] now read events = refl
pages_confirmed-comes a (piece ∷ more) now read events = pages_confirmed-comes a more now read (Comes piece now read ∷ events)

heard-pages : (b : Bool) (l : CallingLeg) (now : ℕ) (read : Reading) (r : Result DatagramValue UdptlFault) → pages_on (heard_by b l now read r) ≡ pages_on (Some l)
heard-pages true l now read r = refl
heard-pages false l now read (Ok d) = pages_confirmed-comes (rung l.before l.begun) (new_pieces l.arrived d) now read l.events
heard-pages false l now read (Err e) = refl

heard-some : (b : Bool) (l : CallingLeg) (now : ℕ) (read : Reading) (r : Result DatagramValue UdptlFault) → is_some (heard_by b l now read r) ≡ true
heard-some true l now read r = refl
heard-some false l now read r = refl

heard-given : (b : Bool) (l : CallingLeg) (now : ℕ) (read : Reading) (r : Result DatagramValue UdptlFault) → given_on (heard_by b l now read r) ≡ l.given
heard-given true l now read r = refl
heard-given false l now read (Ok d) = refl
heard-given false l now read (Err e) = refl

-- it is heard
pub listens : (setup : Setup) (l : CallingLeg) (now : ℕ) (octets : List ℕ) (old new : ReceivingValue) → new.redundancy ≡ old.redundancy → new.has_rung ≡ old.has_rung
    → HearsCalling setup (Some l) now octets new.endpoint → IsAnswering setup (Some l) old → AnswererListens setup l now octets new
listens setup l now octets old new redundancy has_rung h r = record {
  read = h.read;
  right = h.right;
  answering = record {
    set = redundancy ∙ r.set;
    calling = h.calling;
    rung = has_rung ∙ r.rung ∙ sym (heard-some (is_idle (core_of l).state) l now h.read (datagram_of octets));
  };
}

-- ---- the ring
pub answers_ring : (setup : Setup) (leg : Option CallingLeg) (now : ℕ) (old new : ReceivingValue) → old.has_rung ≡ false → new.has_rung ≡ true → new.redundancy ≡ old.redundancy
    → ((setup : Setup) (leg : Option CallingLeg) → old.redundancy ≡ setup.redundancy → IsCalling setup leg old.endpoint → IsCalling setup (Some (rung_leg (answering_of setup leg) now 0)) new.endpoint)
    → IsAnswering setup leg old → IsAnswering setup (Some (rung_once setup now leg)) new
answers_ring setup None now old new has rung_now redundancy rings r = record {
  set = redundancy ∙ r.set;
  calling = rings setup None r.set r.calling;
  rung = rung_now;
}
answers_ring setup (Some l) now old new has rung_now redundancy rings r = let no : true ≡ false = sym r.rung ∙ has in cc

-- where it was rung it is so still; one that was not is idle
pub was_rung : (setup : Setup) (leg : Option CallingLeg) (now : ℕ) (terminal : ReceivingValue) (idle : Bool) → (not terminal.has_rung && idle) ≡ false
    → ((setup : Setup) (leg : Option CallingLeg) → IsAnswering setup leg terminal → idle ≡ idle_after leg)
    → IsAnswering setup leg terminal → IsAnswering setup (Some (rung_once setup now leg)) terminal
was_rung setup None now terminal idle rests is_idle r =
    let no : true ≡ false = sym (ap (λ (b : Bool). not b && true) r.rung) ∙ ap (λ (b : Bool). not terminal.has_rung && b) (sym (is_idle setup None r)) ∙ rests in
    cc
was_rung setup (Some l) now terminal idle rests is_idle r = r

-- ---- what is heard in a turn
pub answerer_hears_none : (setup : Setup) (leg : Option CallingLeg) (now : ℕ) (told : EndTraffic) (terminal : ReceivingValue) → IsAnswering setup leg terminal
    → AnswererHears setup leg now 0 told told terminal
answerer_hears_none setup leg now told terminal r = record { came = []; few = omega arith; read = tt; received = grows_none told.received; answering = r }

-- one datagram more
pub answerer_hears_more : (setup : Setup) (leg : Option CallingLeg) (now most : ℕ) (octets : List ℕ) (a b c : EndTraffic) (old new : ReceivingValue) → Grows (octets ∷ []) b.received c.received
    → ((k : Option CallingLeg) → IsAnswering setup k old → AnswererListens setup (rung_once setup now k) now octets new)
    → AnswererHears setup leg now most a b old → AnswererHears setup leg now (most + 1) a c new
answerer_hears_more setup leg now most octets a b c old new grew heard h =
    let before = called_with setup now h.came leg in
    let l = heard before h.answering in
    record {
      came = record { octets = octets; read = l.read } ∷ h.came;
      few = let few = h.few in omega arith;
      read = (l.right, h.read);
      received = grows_more (octets_of h.came) (octets ∷ []) a.received b.received c.received h.received grew;
      answering = l.answering;
    }

-- and then none
pub answerer_hears_all : (setup : Setup) (leg : Option CallingLeg) (now some most : ℕ) (a b c : EndTraffic) (terminal : ReceivingValue) → some ≤ most → Grows [] b.received c.received
    → AnswererHears setup leg now some a b terminal → AnswererHears setup leg now most a c terminal
answerer_hears_all setup leg now some most a b c terminal low grew h = record {
  came = h.came;
  few = let few = h.few in omega arith;
  read = h.read;
  received = grows_more (octets_of h.came) [] a.received b.received c.received h.received grew;
  answering = h.answering;
}

pub on_err : {A E : Type 0} {P : Type 0} (r : Result A E) → P → OnErr r P
on_err (Ok a) p = tt
on_err (Err e) p = p

-- or memory is refused for the next
pub answerer_stops : (setup : Setup) (leg : Option CallingLeg) (now some most : ℕ) (octets : List ℕ) (a b c : EndTraffic) (old new : ReceivingValue) → some ≤ most → Grows (octets ∷ []) b.received c.received
    → ((k : Option CallingLeg) → IsAnswering setup k old → MayBeRung setup k now new)
    → AnswererHears setup leg now some a b old → AnswererStops setup leg now most a c new
answerer_stops setup leg now some most octets a b c old new low grew left h = record {
  came = h.came;
  few = let few = h.few in omega arith;
  read = h.read;
  lost = octets ∷ [];
  one = omega arith;
  received = grows_more (octets_of h.came) (octets ∷ []) a.received b.received c.received h.received grew;
  left = left (called_with setup now h.came leg) h.answering;
}

-- or then, for the tick
pub answerer_waits : (setup : Setup) (leg : Option CallingLeg) (now most : ℕ) (a b : EndTraffic) (old new : ReceivingValue) → new.redundancy ≡ old.redundancy → new.has_rung ≡ old.has_rung
    → ((setup : Setup) (leg : Option CallingLeg) → IsCalling setup leg old.endpoint → IsCalling setup leg new.endpoint)
    → AnswererHears setup leg now most a b old → AnswererStops setup leg now most a b new
answerer_waits setup leg now most a b old new redundancy has_rung same h = record {
  came = h.came;
  few = h.few;
  read = h.read;
  lost = [];
  one = omega arith;
  received = h.received;
  left = inl record { set = redundancy ∙ h.answering.set; calling = same setup (called_with setup now h.came leg) h.answering.calling; rung = has_rung ∙ h.answering.rung };
}

-- ---- a turn
-- the page that a tick gives
page-shown : {S : Type 0} (s : Option (Confirmed S)) (o : Option ConfirmedPage) → confirmed_shown s ≡ o → page_in s ≡ page_given o
page-shown None o e = ap page_given e
page-shown (Some c) o e = ap page_given e

is_some-ticked : (leg : Option CallingLeg) (now : ℕ) → is_some (ticked_on leg now) ≡ is_some leg
is_some-ticked None now = refl
is_some-ticked (Some l) now = refl

-- a tick: the page that it confirms is given to a store, and what it gives is handed over
pub answerer_turns : {S K : Type 0} (keeps : PageValue → Bool → K → K → Type 0) (all_stored : Bool) (setup : Setup) (leg : Option CallingLeg) (now : ℕ) (a b c : EndTraffic) (first last : K) (old new : ReceivingValue) (step : Step S)
    → new.redundancy ≡ old.redundancy → new.has_rung ≡ old.has_rung
    → ((setup : Setup) (leg : Option CallingLeg) → IsCalling setup leg old.endpoint → IsCalling setup (ticked_on leg now) new.endpoint)
    → ((setup : Setup) (leg : Option CallingLeg) → IsCalling setup leg old.endpoint → TellsTick setup leg now step)
    → AreGiven keeps all_stored (pages_of (page_in step.confirmed)) first last
    → Grows [] a.sent b.sent → Grows [] b.received c.received → Grows (handed_if all_stored step.packet) b.sent c.sent
    → AnswererHears setup leg now most_datagrams a b old → AnswererTurns keeps all_stored setup leg now a c first last new
answerer_turns {S} {K} keeps all_stored setup leg now a b c first last old new step redundancy has_rung ticks tells given quiet still grew h =
    let k : Option CallingLeg = called_with setup now h.came leg in
    let r = h.answering in
    let t = tells setup k r.calling in
    let sent = handed_if all_stored step.packet in
    record {
      came = h.came;
      few = h.few;
      read = h.read;
      received = grows_more (octets_of h.came) [] a.received b.received c.received h.received still;
      given = subst (λ (page : Option PageValue). AreGiven keeps all_stored (pages_of page) first last) (page-shown step.confirmed (confirmed_on k now) t.confirmed) given;
      sent =
          grows_as sent _ a.sent c.sent (ap (handed_if all_stored) t.packet)
          (grows_as (sent ++ []) sent a.sent c.sent (append-nil sent) (grows_more [] sent a.sent b.sent c.sent quiet grew));
      answering = record {
        set = redundancy ∙ r.set;
        calling = ticks setup k r.calling;
        rung = has_rung ∙ r.rung ∙ sym (is_some-ticked k now);
      };
    }

-- by what came of it
pub answerer_turned : {S K : Type 0} (keeps : PageValue → Bool → K → K → Type 0) (result : Result (Option PageValue) TerminalFault) (setup : Setup) (leg : Option CallingLeg) (now : ℕ) (a b c : EndTraffic) (first last : K) (old new : ReceivingValue) (step : Step S)
    → IfErr result (λ fault. fault ≡ faults.Storing) → IfOk result (λ page. page ≡ page_in step.confirmed) → new.redundancy ≡ old.redundancy → new.has_rung ≡ old.has_rung
    → ((setup : Setup) (leg : Option CallingLeg) → IsCalling setup leg old.endpoint → IsCalling setup (ticked_on leg now) new.endpoint)
    → ((setup : Setup) (leg : Option CallingLeg) → IsCalling setup leg old.endpoint → TellsTick setup leg now step)
    → AreGiven keeps (stored_all result) (pages_of (page_in step.confirmed)) first last
    → Grows [] a.sent b.sent → Grows [] b.received c.received → Grows (handed_if (stored_all result) step.packet) b.sent c.sent
    → AnswererHears setup leg now most_datagrams a b old → AnswererTurned keeps result setup leg now a c first last new
unfolding answerer_turns
answerer_turned keeps (Ok page) setup leg now a b c first last old new step fault is redundancy has_rung ticks tells given quiet still grew h = (
  answerer_turns keeps true setup leg now a b c first last old new step redundancy has_rung ticks tells given quiet still grew h,
  is ∙ page-shown step.confirmed (confirmed_on (called_with setup now h.came leg) now) (tells setup (called_with setup now h.came leg) h.answering.calling).confirmed,
)
answerer_turned keeps (Err faults.Storing) setup leg now a b c first last old new step fault is redundancy has_rung ticks tells given quiet still grew h =
    answerer_turns keeps false setup leg now a b c first last old new step redundancy has_rung ticks tells given quiet still grew h
answerer_turned keeps (Err faults.NoMemory) setup leg now a b c first last old new step fault is redundancy has_rung ticks tells given quiet still grew h = cc
answerer_turned keeps (Err faults.Clock) setup leg now a b c first last old new step fault is redundancy has_rung ticks tells given quiet still grew h = cc

-- ---- what was sent
rung-given : (setup : Setup) (now : ℕ) (leg : Option CallingLeg) → (rung_once setup now leg).given ≡ given_on leg
rung-given setup now None = refl
rung-given setup now (Some l) = refl

pub called_with-given : (setup : Setup) (now : ℕ) (came : List ReadDatagram) (leg : Option CallingLeg) → given_on (called_with setup now came leg) ≡ given_on leg
called_with-given setup now [] leg = refl
called_with-given setup now (c ∷ came) leg =
    let l : CallingLeg = rung_once setup now (called_with setup now came leg) in
    heard-given (is_idle (core_of l).state) l now c.read (datagram_of c.octets) ∙ rung-given setup now (called_with setup now came leg) ∙ called_with-given setup now came leg

datagrams_of-given : (setup : Setup) (o : Option WaitingPacket) (given : List (List ℕ)) → datagrams_of setup (packets_with o given) ≡ handed (told_by setup given o) ++ datagrams_of setup given
datagrams_of-given setup None given = refl
datagrams_of-given setup (Some w) given = refl

pub datagrams_of-ticked : (setup : Setup) (leg : Option CallingLeg) (now : ℕ) → datagrams_of setup (given_on (ticked_on leg now)) ≡ handed (told_calling setup leg now) ++ datagrams_of setup (given_on leg)
datagrams_of-ticked setup None now = refl
datagrams_of-ticked setup (Some l) now = datagrams_of-given setup (answers l now).given l.given

pub answerer_sends : (setup : Setup) (now : ℕ) (came : List ReadDatagram) (leg : Option CallingLeg) (a b c : EndTraffic) → Grows (datagrams_of setup (given_on leg)) a.sent b.sent
    → Grows (handed (told_calling setup (called_with setup now came leg) now)) b.sent c.sent
    → Grows (datagrams_of setup (given_on (called_turned setup now came leg))) a.sent c.sent
answerer_sends setup now came leg a b c first second =
    let k : Option CallingLeg = called_with setup now came leg in
    let before = grows_as (datagrams_of setup (given_on leg)) (datagrams_of setup (given_on k)) a.sent b.sent (ap (datagrams_of setup) (sym (called_with-given setup now came leg))) first in
    grows_as _ _ a.sent c.sent (sym (datagrams_of-ticked setup k now)) (grows_more (datagrams_of setup (given_on k)) (handed (told_calling setup k now)) a.sent b.sent c.sent before second)

-- ---- the pages that were confirmed
rung-pages : (setup : Setup) (now : ℕ) (leg : Option CallingLeg) → pages_on (Some (rung_once setup now leg)) ≡ pages_on leg
rung-pages setup now None = refl
rung-pages setup now (Some l) = refl

called_with-pages : (setup : Setup) (now : ℕ) (came : List ReadDatagram) (leg : Option CallingLeg) → pages_on (called_with setup now came leg) ≡ pages_on leg
called_with-pages setup now [] leg = refl
called_with-pages setup now (c ∷ came) leg =
    let l : CallingLeg = rung_once setup now (called_with setup now came leg) in
    heard-pages (is_idle (core_of l).state) l now c.read (datagram_of c.octets) ∙ rung-pages setup now (called_with setup now came leg) ∙ called_with-pages setup now came leg

confirmed-by : (o : Option WaitingPacket) (pages : List PageValue) → confirmed_in_tick o pages ≡ confirmed_with (confirmed_by o) pages
confirmed-by None pages = refl
confirmed-by (Some w) pages = refl

confirmed-given : (o : Option ConfirmedPage) (pages : List PageValue) → confirmed_with o pages ≡ pages_of (page_given o) ++ pages
confirmed-given None pages = refl
confirmed-given (Some c) pages = refl

ticked-pages : (leg : Option CallingLeg) (now : ℕ) → pages_on (ticked_on leg now) ≡ pages_of (page_given (confirmed_on leg now)) ++ pages_on leg
ticked-pages None now = refl
ticked-pages (Some l) now =
    let pages = pages_confirmed (rung l.before l.begun) l.events in
    confirmed-by (answers l now).given pages ∙ confirmed-given (confirmed_by (answers l now).given) pages

pub called_turned-pages : (setup : Setup) (now : ℕ) (came : List ReadDatagram) (leg : Option CallingLeg)
    → pages_on (called_turned setup now came leg) ≡ pages_of (page_given (confirmed_on (called_with setup now came leg) now)) ++ pages_on leg
called_turned-pages setup now came leg =
    let k : Option CallingLeg = called_with setup now came leg in
    ticked-pages k now ∙ ap (λ pages. pages_of (page_given (confirmed_on k now)) ++ pages) (called_with-pages setup now came leg)

-- a call stays one
pub called_turned-some : (setup : Setup) (now : ℕ) (came : List ReadDatagram) (leg : Option CallingLeg) → is_some leg ≡ true → is_some (called_turned setup now came leg) ≡ true
called_turned-some setup now came leg some = is_some-ticked (called_with setup now came leg) now ∙ with-some came
  where
    with-some : (came : List ReadDatagram) → is_some (called_with setup now came leg) ≡ true
    with-some [] = some
    with-some (c ∷ came) =
        let l : CallingLeg = rung_once setup now (called_with setup now came leg) in
        heard-some (is_idle (core_of l).state) l now c.read (datagram_of c.octets)

pub called_first-some : (setup : Setup) (now : ℕ) (c : ReadDatagram) → is_some (called_with setup now (c ∷ []) None) ≡ true
called_first-some setup now c =
    let l : CallingLeg = rung_once setup now None in
    heard-some (is_idle (core_of l).state) l now c.read (datagram_of c.octets)

pub called_first-given : (setup : Setup) (now : ℕ) (c : ReadDatagram) → given_on (called_with setup now (c ∷ []) None) ≡ []
called_first-given setup now c = called_with-given setup now (c ∷ []) None

pub called_first-pages : (setup : Setup) (now : ℕ) (c : ReadDatagram) → pages_on (called_with setup now (c ∷ []) None) ≡ []
called_first-pages setup now c = called_with-pages setup now (c ∷ []) None
