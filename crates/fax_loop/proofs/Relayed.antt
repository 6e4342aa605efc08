-- The pages that a gateway confirms, and those of its jobs, where the datagrams of its one call are those of a caller that sends one
-- page.
use Rattle.std.proofs.Common.{◌≡◌, ℕ, Bool, true, false, List, [], ◌∷◌, ◌++◌, length, reverse, Option, Some, None, Result, Ok, Err, inr, refl, sym, ◌∙◌, ap, subst, if◌then◌else◌}
use Rattle.std.specs.Prelude.{IfSome}
use Rattle.fax_udptl.specs.declared.fault.UdptlFault.{UdptlFault}
use Rattle.fax_udptl.specs.Datagrams.{DatagramValue, datagram_of}
use Rattle.fax_udptl.specs.Schedules.{Arrival, IsHonest, datagrams}
use Rattle.fax_ifp.specs.Pieces as pieces
use Rattle.fax_ifp.proofs.SentFrames.{contains}
use Rattle.fax_pagestore.specs.Pages.{PageValue}
use Rattle.fax_jobs.specs.Jobs.{JobValue, IsJob}
use Rattle.fax_answer.specs.Table.{Reading}
use Rattle.fax_answer.specs.Replies.{ConfirmedPage}
use Rattle.fax_answer.specs.History.{Decision, Entry}
use Rattle.fax_answer.specs.Confirmation.{IsConfirmedIn}
use Rattle.fax_answer.specs.Sent.{page_accepted, pieces_heard}
use Rattle.fax_call.specs.Writings.{Writing, IsWriting}
use Rattle.fax_gateway.specs.Setups.{Setup}
use Rattle.fax_gateway.specs.Events.{Event, Ring, FromCalling, FromCalled, Tick, Placed, clock}
use Rattle.fax_gateway.specs.CallingLegs.{CallingLeg, calling_after, calling_leg, core_of, is_idle, leg_with}
use Rattle.fax_gateway.specs.CalledLegs.{CalledLeg}
use Rattle.fax_gateway.specs.Forwards.{OrRestored, WasConfirmed, WasConfirmedIn}
use Rattle.fax_gateway.specs.Reached.{arrived_on}
use Rattle.fax_gateway.specs.Restored.{RestoredCall, pages_restored}
use Rattle.fax_gateway.specs.BothLegs.{both_legs}
use Rattle.fax_gateway.specs.Traces.{IsTrace}
use Rattle.fax_gateway.proofs.SentPages.{leg_confirms_signals, leg_hears_sent_frames}
use Rattle.fax_loop.specs.Faithful.{AreCarried}
use Rattle.fax_gateway.proofs.Chained.{KeptLeg, hears_kept, kept_leg, later_kept, turned, with_tick_kept}
use Rattle.fax_loop.specs.Exchanges.{Round, caller_after, moment_after}
use Rattle.fax_terminal.specs.Terminals.{calling_with}
use Rattle.fax_terminal.proofs.EachCame.{came_each}
use Rattle.fax_gateway.proofs.EachLeg.{IfLeg, RingsFirst, any_back, leg_each}
use Rattle.fax_gateway.proofs.OnePage.{Accepts, AreAll, Gives, IsThe, accepts_the_page}

-- ---- THE MACHINE THAT CALLS gives what the call of its job gives
came_kept : (writes : Writing) (page : PageValue) (now : ℕ) (came : List (List ℕ)) (l : CalledLeg) → KeptLeg writes (IsThe page) l → KeptLeg writes (IsThe page) (calling_with writes now came l)
came_kept writes page now [] l k = k
came_kept writes page now (octets ∷ earlier) l k = hears_kept (IsThe page) writes (Some (calling_with writes now earlier l)) octets now (came_kept writes page now earlier l k)

pub caller_gives : (setup : Setup) (writes : Writing) (page : PageValue) (job : JobValue) (rounds : List Round) → IsWriting writes → IsJob job → AreAll page job.pages → Gives writes page (caller_after setup writes job rounds)
caller_gives setup writes page job [] w is all = record { placed = refl; kept = record { holds = record { is_job = is; pages = all }; given_is = refl; closed = tt } }
caller_gives setup writes page job (round ∷ earlier) w is all =
    let now : ℕ = moment_after earlier in
    let l : CalledLeg = caller_after setup writes job earlier in
    let g : Gives writes page l = caller_gives setup writes page job earlier w is all in
    record {
      placed = came_each (λ (k : CalledLeg). k.placed ≡ true) (λ k n d e. e) writes now round.calling l g.placed;
      kept = with_tick_kept (IsThe page) writes (calling_with writes now round.calling l) now w (came_kept writes page now round.calling l g.kept);
    }

-- ---- WHAT A GATEWAY CONFIRMS in a call, where what came there is what a caller gave
pub hears_the_page : (setup : Setup) (writes : Writing) (trace : List Event) (l : CallingLeg) (page : PageValue) (others : Writing) (caller : CalledLeg)
    → IsTrace setup writes trace → calling_leg setup trace ≡ Some l → IsWriting others → Gives others page caller → AreCarried caller.given l.arrived → Accepts page (core_of l).history
hears_the_page setup writes trace l page others caller t is w g c =
    let packets : List (List ℕ) = reverse caller.given in
    accepts_the_page others page caller (core_of l).history (length packets) w g
    (leg_confirms_signals setup writes trace l packets c.arrivals t is c.honest c.arrived_are)
    (λ octets has. leg_hears_sent_frames setup writes trace l packets c.arrivals t is c.honest c.arrived_are (inr (turned caller.given [] g.kept.closed tt)) octets (contains (pieces_heard (core_of l).history) octets has))

-- ---- A TRACE WITH ONE RING: what came before was carried too
abbrev IsBack : List (List ℕ) → Option CallingLeg → Option CallingLeg → Type 0
IsBack given new old = AreCarried given (arrived_on new) → AreCarried given (arrived_on old)

older_carried : (given : List (List ℕ)) (d : DatagramValue) (arrived : List DatagramValue) (arrivals : List Arrival) → IsHonest (reverse given) arrivals → d ∷ arrived ≡ datagrams arrivals → AreCarried given arrived
older_carried given d arrived [] h e = cc
older_carried given d arrived (a ∷ arrivals) h e = record { arrivals = arrivals; honest = h.2; arrived_are = tails d a.datagram arrived (datagrams arrivals) e }
  where
    tails : (x y : DatagramValue) (xs ys : List DatagramValue) → x ∷ xs ≡ y ∷ ys → xs ≡ ys
    tails x y xs ys e = cc

with_back : (given : List (List ℕ)) (l : CallingLeg) (now : ℕ) (read : Reading) (r : Result DatagramValue UdptlFault) → IsBack given (Some (leg_with l now read r)) (Some l)
with_back given l now read (Ok d) c = older_carried given d l.arrived c.arrivals c.honest c.arrived_are
with_back given l now read (Err f) c = c

heard_back : (setup : Setup) (given : List (List ℕ)) (o : Option CallingLeg) (now : ℕ) (octets : List ℕ) (at : ℕ) (decided : Bool) (read : Reading) → IsBack given (calling_after setup o now (FromCalling octets at decided read)) o
heard_back setup given None now octets at decided read c = c
heard_back setup given (Some l) now octets at decided read c = by (is_idle (core_of l).state) c
  where
    by : (b : Bool) → IsBack given (if◌then◌else◌ {A = Option CallingLeg} b (Some l) (Some (leg_with l now read (datagram_of octets)))) (Some l)
    by true c = c
    by false c = with_back given l now read (datagram_of octets) c

-- what came in its one call is what was given at the other end
pub record Carries (setup : Setup) (writes : Writing) (given : List (List ℕ)) (trace : List Event) : Type 0 where
  pub is_trace : IsTrace setup writes trace
  pub rings : RingsFirst trace
  pub carried : AreCarried given (arrived_on (calling_leg setup trace))

earlier_rings : (e : Event) (earlier : List Event) → RingsFirst (e ∷ earlier) → RingsFirst earlier
earlier_rings (Ring at n) earlier r = subst RingsFirst (sym r) tt
earlier_rings (FromCalling octets at decided read) earlier r = r
earlier_rings (FromCalled octets at decided) earlier r = r
earlier_rings (Tick at told) earlier r = r
earlier_rings (Placed at connected) earlier r = absurd r

earlier_back : (setup : Setup) (given : List (List ℕ)) (e : Event) (earlier : List Event) (o : Option CallingLeg) → calling_leg setup earlier ≡ o → RingsFirst (e ∷ earlier) → IsBack given (calling_after setup o (clock (e ∷ earlier)) e) o
earlier_back setup given (Ring at n) earlier o is r c = subst (λ (k : Option CallingLeg). AreCarried given (arrived_on k)) (sym (ap (calling_leg setup) r) ∙ is) (record { arrivals = []; honest = tt; arrived_are = refl })
earlier_back setup given (FromCalling octets at decided read) earlier o is r c = heard_back setup given o (clock (FromCalling octets at decided read ∷ earlier)) octets at decided read c
earlier_back setup given (FromCalled octets at decided) earlier None is r c = c
earlier_back setup given (FromCalled octets at decided) earlier (Some l) is r c = c
earlier_back setup given (Tick at told) earlier None is r c = c
earlier_back setup given (Tick at told) earlier (Some l) is r c = c
earlier_back setup given (Placed at connected) earlier o is r c = absurd r

earlier_carries : (setup : Setup) (writes : Writing) (given : List (List ℕ)) (e : Event) (earlier : List Event) → Carries setup writes given (e ∷ earlier) → Carries setup writes given earlier
earlier_carries setup writes given e earlier c =
    record { is_trace = c.is_trace.1; rings = earlier_rings e earlier c.rings; carried = earlier_back setup given e earlier (calling_leg setup earlier) refl c.rings c.carried }

before_carries : (setup : Setup) (writes : Writing) (given : List (List ℕ)) (later earlier : List Event) → Carries setup writes given (later ++ earlier) → Carries setup writes given earlier
before_carries setup writes given [] earlier c = c
before_carries setup writes given (e ∷ later) earlier c = before_carries setup writes given later earlier (earlier_carries setup writes given e (later ++ earlier) c)

-- ---- EACH PAGE THAT IT CONFIRMED is the caller's
accepted_at : (page : PageValue) (later : List Entry) (e : Entry) (before : List Entry) → Accepts page (later ++ e ∷ before) → IfSome (page_accepted e.decision) (λ p. p ≡ page)
accepted_at page [] e before a = a.0
accepted_at page (x ∷ later) e before a = accepted_at page later e before a.1

confirmed_in : (page : PageValue) (history : List Entry) (confirmed : ConfirmedPage) → Accepts page history → IsConfirmedIn history confirmed → confirmed.page ≡ page
confirmed_in page history confirmed a c =
    let e : Entry = record { piece = pieces.Frame c.octets; decision = c.decision } in
    let accepted : IfSome (page_accepted c.decision) (λ p. p ≡ page) = accepted_at page c.later e c.before (subst (Accepts page) c.split a) in
    subst (λ (d : Decision). IfSome (page_accepted d) (λ p. p ≡ page)) c.accepts accepted

-- what a caller gave, who sends one page
pub record Sends (page : PageValue) (given : List (List ℕ)) : Type 0 where
  others : Writing
  are_texts : IsWriting others
  caller : CalledLeg
  gives : Gives others page caller
  given_is : given ≡ caller.given

pub sends_of : (page : PageValue) (others : Writing) (caller : CalledLeg) → IsWriting others → Gives others page caller → Sends page caller.given
sends_of page others caller w g = record { others = others; are_texts = w; caller = caller; gives = g; given_is = refl }

carried_to : (setup : Setup) (writes : Writing) (trace : List Event) (l : CallingLeg) (page : PageValue) (given : List (List ℕ)) → calling_leg setup trace ≡ Some l → Sends page given → Carries setup writes given trace → Accepts page (core_of l).history
carried_to setup writes trace l page given is s c =
    hears_the_page setup writes trace l page s.others s.caller c.is_trace is s.are_texts s.gives
    (subst (λ (g : List (List ℕ)). AreCarried g l.arrived) s.given_is (subst (λ (o : Option CallingLeg). AreCarried given (arrived_on o)) is c.carried))

was_the_page : (setup : Setup) (writes : Writing) (trace : List Event) (page : PageValue) (given : List (List ℕ)) (call : ℕ) (p : PageValue) → Sends page given → Carries setup writes given trace → WasConfirmedIn setup trace call p → p ≡ page
was_the_page setup writes trace page given call p s c w =
    let after : Carries setup writes given (Tick w.at w.given ∷ w.earlier) = before_carries setup writes given w.later (Tick w.at w.given ∷ w.earlier) (subst (Carries setup writes given) w.split c) in
    let earlier : Carries setup writes given w.earlier = earlier_carries setup writes given (Tick w.at w.given) w.earlier after in
    sym w.same_page ∙ confirmed_in page (core_of w.leg).history w.confirmed (carried_to setup writes w.earlier w.leg page given w.is_leg s earlier) w.confirmation

own : (restored : List RestoredCall) (call : ℕ) (p : PageValue) (this : Type 0) → restored ≡ [] → OrRestored (pages_restored restored) call p this → this
own [] call p this e w = w
own (r ∷ restored) call p this e w = cc

-- ---- THE CALLED LEG gives what a caller gives who sends that page
abbrev pub IfGives : Writing → PageValue → Option CalledLeg → Type 0
IfGives writes page o = IfLeg (Gives writes page) o

pub called_gives : (setup : Setup) (writes : Writing) (trace : List Event) (page : PageValue) (given : List (List ℕ)) → setup.restored ≡ [] → IsWriting writes → Sends page given → Carries setup writes given trace
    → IfGives writes page (both_legs setup writes trace).leg
called_gives setup writes trace page given new w s c = by (both_legs setup writes trace).leg refl placed
  where
    placed : IfLeg (λ l. l.placed ≡ true) (both_legs setup writes trace).leg
    placed =
        leg_each (λ octets. Unit {0}) (λ (l : CalledLeg). l.placed ≡ true) writes (record { begins = λ job before now. refl; comes = λ l now octets d on r e. e; ticks = λ l now e. e }) setup trace c.rings (any_back trace)

    is_the : (call : ℕ) (p : PageValue) → WasConfirmed setup trace call p → p ≡ page
    is_the call p k = was_the_page setup writes trace page given call p s c (own setup.restored call p (WasConfirmedIn setup trace call p) new k)

    by : (o : Option CalledLeg) → (both_legs setup writes trace).leg ≡ o → IfLeg (λ l. l.placed ≡ true) o → IfGives writes page o
    by None is p = tt
    by (Some l) is p = record { placed = p; kept = later_kept writes (WasConfirmed setup trace) (IsThe page) (Some l) is_the (kept_leg setup writes trace l w c.is_trace is) }
