-- Each page that the machine that is called confirms is the page of the machine that calls.
use Rattle.std.proofs.Common.{◌≡◌, ℕ, ◌<◌, List, [], ◌∷◌, ◌++◌, reverse, Option, Some, None, ◌⊎◌, inl, inr, refl, sym, subst, arith}
use Rattle.std.specs.Prelude.{IfSome}
use Rattle.std.proofs.lemmas.List.Elements.{All-cons, All-head, All-nil, All-tail}
use Rattle.std.proofs.lemmas.List.{reverse-reverse}
use mathlib.Core.List.{reverse_aux}
use Rattle.fax_pagestore.specs.Pages.{PageValue, IsPage}
use Rattle.fax_jobs.specs.Books.{job_of}
use Rattle.fax_jobs.specs.Jobs.{IsJob}
use Rattle.fax_answer.specs.History.{Entry}
use Rattle.fax_answer.specs.Sent.{Rises, RisesBy, page_accepted, page_with, pages_accepted, pages_waiting}
use Rattle.fax_answer.proofs.Accepted.{confirms_what_it_accepted}
use Rattle.fax_call.specs.Writings.{Writing, IsWriting}
use Rattle.fax_gateway.specs.Setups.{Setup}
use Rattle.fax_gateway.specs.Events.{Event, Ring, FromCalling, FromCalled, Tick, Placed}
use Rattle.fax_gateway.specs.Driving.{events}
use Rattle.fax_gateway.specs.CallingLegs.{CallingLeg, calling_leg, core_of}
use Rattle.fax_gateway.specs.CalledLegs.{CalledLeg}
use Rattle.fax_gateway.specs.Reached.{arrived_on}
use Rattle.fax_gateway.specs.BothLegs.{both_legs}
use Rattle.fax_gateway.specs.Traces.{IsTrace}
use Rattle.fax_gateway.proofs.SentPages.{leg_confirms_signals}
use Rattle.fax_loop.specs.Exchanges.{AreRounds, Round, answerer_after, caller_after, moment_after, trace_after}
use Rattle.fax_loop.specs.Faithful.{AreCarried, AreThePage, ConfirmsThePage, given_by}
use Rattle.fax_terminal.specs.Terminals.{pages_on}
use Rattle.fax_loop.proofs.AnswererTrace.{IsFollowed, answerer_followed}
use Rattle.fax_gateway.proofs.EachLeg.{RingsFirst}
use Rattle.fax_loop.proofs.OneCall.{IsTicked, IsTurned, OnlyComes, after_is, is_turned}
use Rattle.fax_gateway.proofs.OnePage.{Accepts, AreAll, Gives}
use Rattle.fax_loop.proofs.Relayed.{Carries, IfGives, called_gives, caller_gives, hears_the_page, sends_of}

-- ---- THE ONE RING of the gateway's trace, in which no call is placed
rings_on : (came trace : List Event) → OnlyComes came → RingsFirst trace → RingsFirst (came ++ trace)
rings_on [] trace o r = r
rings_on (Ring at number ∷ came) trace o r = absurd o
rings_on (FromCalling octets at decided read ∷ came) trace o r = rings_on came trace o r
rings_on (FromCalled octets at decided ∷ came) trace o r = rings_on came trace o r
rings_on (Tick at given ∷ came) trace o r = absurd o
rings_on (Placed at connected ∷ came) trace o r = absurd o

turn_rings : (before trace : List Event) → IsTurned before trace → RingsFirst before → RingsFirst trace
turn_rings before trace t r = by t.tick
  where
    by : (trace ≡ t.came ++ before) ⊎ IsTicked (t.came ++ before) trace → RingsFirst trace
    by (inl is) = subst RingsFirst (sym is) (rings_on t.came before t.only r)
    by (inr k) = subst RingsFirst (sym k.is) (rings_on t.came before t.only r)

pub one_ring : (setup : Setup) (writes : Writing) (rounds : List Round) → AreRounds setup writes rounds → RingsFirst (trace_after rounds)
one_ring setup writes [] a = refl
one_ring setup writes (round ∷ earlier) a =
    turn_rings (trace_after earlier) (trace_after (round ∷ earlier)) (is_turned (moment_after earlier) round.gateway (trace_after earlier) (trace_after (round ∷ earlier)) a.0.turn (after_is round earlier)) (one_ring setup writes earlier a.1)

-- ---- THE MACHINE THAT IS CALLED
-- where nothing was given, nothing is confirmed
none_accepted : (page : PageValue) (packets : List (List ℕ)) (h : List Entry) → Rises packets h 0 → Accepts page h
none_accepted page packets [] r = tt
none_accepted page packets (e ∷ h) r = by (page_accepted e.decision) (none_accepted page packets h) r
  where
    by : (o : Option PageValue) → (Rises packets h 0 → Accepts page h) → RisesBy packets h o 0 (Rises packets h) → IfSome o (λ p. p ≡ page) × Accepts page h
    by None go r = (tt, go r)
    by (Some p) go r = let l : r.0 < 0 = r.1 in absurd (omega arith)

-- the gateway's called leg gave it what it heard
from_leg : (setup : Setup) (writes others : Writing) (page : PageValue) (leg : Option CalledLeg) (l : CallingLeg) (trace : List Event) → IsWriting others → IsTrace setup writes trace → calling_leg setup trace ≡ Some l
    → IfGives others page leg → AreCarried (given_by leg) l.arrived → Accepts page (core_of l).history
from_leg setup writes others page None l trace w t is g c = none_accepted page [] (core_of l).history (leg_confirms_signals setup writes trace l [] c.arrivals t is c.honest c.arrived_are)
from_leg setup writes others page (Some leg) l trace w t is g c = hears_the_page setup writes trace l page others leg t is w g c

-- what was decided is what was confirmed
accepted_all : (page : PageValue) (h : List Entry) → Accepts page h → AreAll page (pages_accepted h)
accepted_all page [] a = tt
accepted_all page (e ∷ h) a = by (page_accepted e.decision) a.0 (accepted_all page h a.1)
  where
    by : (o : Option PageValue) → IfSome o (λ p. p ≡ page) → AreAll page (pages_accepted h) → AreAll page (page_with o (pages_accepted h))
    by None i rest = rest
    by (Some p) i rest = (i, rest)

after_all : (page : PageValue) (xs ys : List PageValue) → AreAll page (xs ++ ys) → AreAll page ys
after_all page [] ys a = a
after_all page (x ∷ xs) ys a = after_all page xs ys a.1

as_all : (page : PageValue) (pages : List PageValue) → AreAll page pages → AreThePage page pages
as_all page [] a = All-nil (λ p. p ≡ page)
as_all page (p ∷ pages) a = All-cons (λ q. q ≡ page) p pages a.0 (as_all page pages a.1)

confirmed_all : (page : PageValue) (l : CallingLeg) → Accepts page (core_of l).history → AreThePage page (pages_on (Some l))
confirmed_all page l a =
    let e = confirms_what_it_accepted l.before l.begun l.events in
    as_all page (pages_on (Some l)) (after_all page (pages_waiting (core_of l).waiting) (pages_on (Some l)) (subst (AreAll page) e.0 (accepted_all page (core_of l).history a)))

answered : (setup : Setup) (writes others : Writing) (page : PageValue) (leg : Option CalledLeg) (o : Option CallingLeg) (now : ℕ) → IsWriting others → IsFollowed setup writes now o
    → IfGives others page leg → AreCarried (given_by leg) (arrived_on o) → AreThePage page (pages_on o)
answered setup writes others page leg None now w t g c = All-nil (λ p. p ≡ page)
answered setup writes others page leg (Some l) now w t g c = confirmed_all page l (from_leg setup writes others page leg l t.0 w t.1.is_trace t.1.is_leg g c)

-- ---- THE LAW
pub is_job_of : (page : PageValue) → IsPage page → IsJob (job_of 0 page)
is_job_of page is = record { some = omega arith; few = omega arith; of_first = refl; are_pages = All-cons IsPage page [] is (All-nil IsPage) }

pub confirms_the_page : ConfirmsThePage
confirms_the_page setup writes page rounds new w is rounds_are t h =
    let caller : CalledLeg = caller_after setup writes (job_of 0 page) rounds in
    let gives : Gives writes page caller = caller_gives setup writes page (job_of 0 page) rounds w (is_job_of page is) (refl, tt) in
    let carries : Carries setup writes caller.given (trace_after rounds) = record { is_trace = t; rings = one_ring setup writes rounds rounds_are; carried = h.to_gateway } in
    let called : IfGives writes page (both_legs setup writes (trace_after rounds)).leg = called_gives setup writes (trace_after rounds) page caller.given new w (sends_of page writes caller w gives) carries in
    answered setup writes writes page (both_legs setup writes (trace_after rounds)).leg (answerer_after setup rounds) (moment_after rounds) w (answerer_followed setup writes writes rounds rounds_are) called h.to_answerer

-- ---- OF AN EXCHANGE
from_all : (page : PageValue) (pages : List PageValue) → AreThePage page pages → AreAll page pages
from_all page [] a = tt
from_all page (p ∷ pages) a = (All-head (λ q. q ≡ page) p pages a, from_all page pages (All-tail (λ q. q ≡ page) p pages a))

all_turned : (page : PageValue) (xs ys : List PageValue) → AreAll page xs → AreAll page ys → AreAll page (reverse_aux xs ys)
all_turned page [] ys a b = b
all_turned page (x ∷ xs) ys a b = all_turned page xs (x ∷ ys) a.1 (a.0, b)

pub in_order : (page : PageValue) (pages newest : List PageValue) → reverse pages ≡ newest → AreThePage page newest → AreThePage page pages
in_order page pages newest e a =
    let turned : AreAll page (reverse (reverse pages)) = all_turned page (reverse pages) [] (from_all page (reverse pages) (subst (AreThePage page) (sym e) a)) tt in
    as_all page pages (subst (AreAll page) (reverse-reverse pages) turned)
