-- The packets that a call gives are short: each datagram of them can be written, and is read back.
use Rattle.std.proofs.Common.{List, [], ◌∷◌, map, Option, Some, None, sym, subst, arith}
use Rattle.fax_udptl.specs.Sending.{AreShort}
use Rattle.fax_pagestore.specs.Pages.{PageValue}
use Rattle.fax_jobs.specs.Jobs.{JobValue}
use Rattle.fax_call.specs.Writings.{Writing}
use Rattle.fax_call.specs.Replies.{Packet, written}
use Rattle.fax_call.specs.Calls.{CallerCore, CallEvent, Comes, Ticks, after_events, heard, ticked}
use Rattle.fax_call.specs.Given.{packets_given, packets_with}
use Rattle.fax_gateway.specs.CalledLegs.{CalledLeg}
use Rattle.fax_gateway.proofs.Fitting.{AllFit, FitGiven, moved_fits, ticked_fits}
use Rattle.fax_gateway.proofs.OnePage.{Gives, call_begun, call_gave}

events_fit : (writes : Writing) (job : JobValue) (a : CallerCore) (events : List CallEvent) → AllFit a.waiting → AllFit (after_events writes job a events).waiting
events_fit writes job a [] f = f
events_fit writes job a (Comes piece now ∷ before) f = let c : CallerCore = after_events writes job a before in moved_fits c (heard c piece now) (events_fit writes job a before f)
events_fit writes job a (Ticks now ∷ before) f = (ticked_fits writes job (after_events writes job a before) now (events_fit writes job a before f)).core

with_fit : (o : Option Packet) (packets : List Packet) → FitGiven o → AreShort (map written packets) → AreShort (map written (packets_with o packets))
with_fit None packets f s = s
with_fit (Some packet) packets f s = (f, s)

given_fits : (writes : Writing) (job : JobValue) (a : CallerCore) (events : List CallEvent) → AllFit a.waiting → AreShort (map written (packets_given writes job a events))
given_fits writes job a [] f = tt
given_fits writes job a (Comes piece now ∷ before) f = given_fits writes job a before f
given_fits writes job a (Ticks now ∷ before) f =
    let c : CallerCore = after_events writes job a before in
    with_fit (ticked writes job c now).given (packets_given writes job a before) (ticked_fits writes job c now (events_fit writes job a before f)).given (given_fits writes job a before f)

pub gives_short : (writes : Writing) (page : PageValue) (l : CalledLeg) → Gives writes page l → AreShort l.given
gives_short writes page l g = subst AreShort (sym (call_gave writes page l g)) (given_fits writes l.job (call_begun l) l.events (omega arith, tt))
