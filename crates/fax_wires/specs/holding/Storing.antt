-- No confirmation goes out of a page that is not stored. Lists have the newest first, but those of pages. (This project's profile.)
use Rattle.std.specs.Prelude.{◌≡◌, Bool, true, false, not, ◌&&◌, ◌||◌, ℕ, List, [], ◌∷◌, ◌++◌, Option, Some, None, if◌then◌else◌}
use Rattle.fax_gateway.specs.declared.leg.Leg.{Leg}
use Rattle.fax_gateway.specs.declared.leg.Leg.TheVariants as legs
use Rattle.fax_gateway.specs.Wires.{HandedDatagram}
use Rattle.fax_gateway.specs.Driving.{Entry, Accepts, FailsToReceive, ReceivesNothing, RefusesDatagram, RefusesRing, RefusesTick, Sends, WireGoes}
use Rattle.fax_wires.specs.holding.Holding.{HoldingValue, Stays}
use Rattle.fax_wires.specs.holding.Holding as holding

-- What happens on the calling leg of a line: a turn, which gave a datagram or none, confirmed a page or not, and had it stored or
-- not; or the next call begins.
pub data LegAction : Type 0 where
  Turn : (given : Option (List ℕ)) → (confirms : Bool) → (is_stored : Bool) → LegAction
  Begins : LegAction

-- a turn whose page was not stored
abbrev pub failed : Bool → Bool → Bool
failed confirms is_stored = confirms && not is_stored

-- The leg is silenced after a turn whose page was not stored, until the next call begins.
abbrev pub silenced_after : List LegAction → Bool
silenced_after [] = false
silenced_after (Begins ∷ earlier) = false
silenced_after (Turn given confirms is_stored ∷ earlier) =
    silenced_after earlier || failed confirms is_stored

abbrev pub with_given : Option (List ℕ) → List (List ℕ) → List (List ℕ)
with_given None earlier = earlier
with_given (Some octets) earlier = octets ∷ earlier

-- the datagrams that went out on the leg: what a turn gave, unless the leg is silenced after it
abbrev pub went_out : List LegAction → List (List ℕ)
went_out [] = []
went_out (Begins ∷ earlier) = went_out earlier
went_out (Turn given confirms is_stored ∷ earlier) =
    if silenced_after earlier || failed confirms is_stored
    then went_out earlier else with_given given (went_out earlier)

abbrev pub is_calling : Leg → Bool
is_calling legs.Calling = true
is_calling legs.Called = false

-- of what a wire was handed, the datagrams of the calling leg
abbrev pub on_calling : List HandedDatagram → List (List ℕ)
on_calling [] = []
on_calling (h ∷ earlier) =
    if is_calling h.leg then h.octets ∷ on_calling earlier else on_calling earlier

-- of a wire that tells what it was handed, these are the datagrams of its calling leg
abbrev pub HasSent : List (List ℕ) → Option (List HandedDatagram) → Type 0
HasSent out told = (sent : List HandedDatagram) → told ≡ Some sent → on_calling sent ≡ out

-- A WIRE HAS DONE THESE ACTIONS: it holds nothing, it is silenced where they say so, and what went out below is what they let out.
pub record HasDone (actions : List LegAction) (wire : HoldingValue) : Type 0 where
  pub held : wire.held ≡ None
  pub is_silenced : wire.is_silenced ≡ silenced_after actions
  pub out : HasSent (went_out actions) wire.wire.sent

-- In a turn after these actions it holds what the turn gave, unless it is silenced, and none of that went out.
pub record HoldsAfter (actions : List LegAction) (given : Option (List ℕ)) (wire : HoldingValue) :
    Type 0 where
  pub held : wire.held ≡ (if silenced_after actions then None else given)
  pub is_silenced : wire.is_silenced ≡ silenced_after actions
  pub out : HasSent (went_out actions) wire.wire.sent

-- ---- what the log of a turn makes of it

-- What a log handed over on the calling leg, the last, where it was not lost for want of memory.
abbrev pub handed_last : Leg → List ℕ → Bool → Option (List ℕ) → Option (List ℕ)
handed_last legs.Calling octets true before = None
handed_last legs.Calling octets false before = Some octets
handed_last legs.Called octets fails before = before

abbrev pub handed_by : List Entry → Option (List ℕ)
handed_by [] = None
handed_by (Accepts event ∷ earlier) = handed_by earlier
handed_by (RefusesRing fault ∷ earlier) = handed_by earlier
handed_by (RefusesDatagram at octets ∷ earlier) = handed_by earlier
handed_by (RefusesTick now ∷ earlier) = handed_by earlier
handed_by (ReceivesNothing at ∷ earlier) = handed_by earlier
handed_by (FailsToReceive at ∷ earlier) = handed_by earlier
handed_by (Sends at octets fails ∷ earlier) = handed_last at octets fails (handed_by earlier)

-- BY A LOG A WIRE COMES TO HOLD WHAT IT HANDED OVER on the calling leg, whatever actions it had done before, and lets none of it out.
abbrev pub HoldsByLog : List Entry → HoldingValue → HoldingValue → Type 0
HoldsByLog log old new = (actions : List LegAction)
    → HasDone actions old → HoldsAfter actions (handed_by log) new

-- It does so by any log, whose receives and sends are all that is done with it.
abbrev pub LogsAreHeld : Type 0
LogsAreHeld = (log : List Entry) (old new : HoldingValue)
    → WireGoes (λ at. Stays) holding.Sends log old new → HoldsByLog log old new

-- no call begins in these actions
abbrev pub BeginsNone : List LegAction → Type 0
BeginsNone [] = Unit {0}
BeginsNone (Begins ∷ earlier) = ⊥
BeginsNone (Turn given confirms is_stored ∷ earlier) = BeginsNone earlier

-- a turn that confirmed a page that was not stored gave nothing that went out
abbrev pub StoredFirst : Type 0
StoredFirst = (given : Option (List ℕ)) (earlier : List LegAction)
    → went_out (Turn given true false ∷ earlier) ≡ went_out earlier

-- and nothing goes out after it until the next call begins
abbrev pub SilencedUntilTheNextCall : Type 0
SilencedUntilTheNextCall = (later earlier : List LegAction) (given : Option (List ℕ))
    → BeginsNone later → went_out (later ++ Turn given true false ∷ earlier) ≡ went_out earlier

-- ---- where pages are stored

-- Pages are put, all of them at once, by a store that tells what its puts make of it. Where there are none it is not asked.
abbrev pub PutsIf : {P K : Type 0}
    → (List P → Bool → K → K → Type 0) → List P → Bool → K → K → Type 0
PutsIf puts [] is_stored old new = (is_stored ≡ true) × (new ≡ old)
PutsIf puts (page ∷ pages) is_stored old new = puts (page ∷ pages) is_stored old new
