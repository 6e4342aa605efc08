-- WHAT GOES OUT ON A LINE'S CALLING LEG, beside the trace of its gateway: the actions of its wire are the ticks and rings of the trace. Lists
-- have the newest first, but those of pages, which have the oldest first. (This project's profile.)
use Rattle.std.specs.Prelude.{◌≡◌, ◌⊎◌, ℕ, Bool, true, false, List, [], ◌∷◌, ◌++◌, Option, Some, None}
use Rattle.fax_answer.specs.Replies.{ConfirmedPage}
use Rattle.fax_gateway.specs.Restored.{CallPage}
use Rattle.fax_gateway.specs.Setups.{Setup}
use Rattle.fax_gateway.specs.Events.{Event, Given, Ring, FromCalling, FromCalled, Tick, Placed, clock}
use Rattle.fax_gateway.specs.CallingLegs.{CallingLeg, calling_leg}
use Rattle.fax_gateway.specs.Cuts.{confirmed_at}
use Rattle.fax_wires.specs.holding.Storing.{LegAction, Turn, Begins, went_out}

-- What a turn handed over is what its tick gave on the calling leg, or nothing, where memory for that was refused.
abbrev pub IsHandedOver : (gave handed : Option (List ℕ)) → Type 0
IsHandedOver gave handed = (handed ≡ gave) ⊎ (handed ≡ None)

-- the page that a tick confirms on the calling leg, and the call that it came in
abbrev pub page_if : ℕ → Option ConfirmedPage → Option CallPage
page_if number None = None
page_if number (Some c) = Some (record { call = number; page = c.page })

abbrev pub page_at : Option CallingLeg → ℕ → Option CallPage
page_at None now = None
page_at (Some l) now = page_if l.number (confirmed_at (Some l) now)

-- The action of a tick: it confirms no page; or it confirms this one, which was put with an Ok and is the last of those that were, or was
-- not put. What went before is told by `rest`.
abbrev pub IsTurnOnLeg : (rest : List LegAction → List CallPage → Type 0)
    → (gave : Option (List ℕ)) → Option CallPage → List LegAction → (kept : List CallPage) → Type 0
IsTurnOnLeg rest gave None actions kept =
    (handed : Option (List ℕ)) × (is_stored : Bool) × (before : List LegAction)
    × IsHandedOver gave handed × (actions ≡ Turn handed false is_stored ∷ before) × rest before kept
IsTurnOnLeg rest gave (Some page) actions kept =
    (handed : Option (List ℕ)) × (before : List LegAction)
    × IsHandedOver gave handed × (((actions ≡ Turn handed true true ∷ before)
    × ((pages : List CallPage) × (kept ≡ pages ++ page ∷ []) × rest before pages))
    ⊎ ((actions ≡ Turn handed true false ∷ before) × rest before kept))

-- THE ACTIONS OF A WIRE ARE THOSE OF THIS TRACE: each tick is a turn, which hands over what the tick gave on the calling leg, and confirms a
-- page where the tick does, which is stored where it was put with an Ok; these are the pages that were. Each ring begins a call. Nothing
-- else is done: a call that is placed is one of the called leg.
abbrev pub AreOnLeg : Setup → List LegAction → List Event → List CallPage → Type 0
AreOnLeg setup actions [] kept = (actions ≡ []) × (kept ≡ [])
AreOnLeg setup actions (Ring at number ∷ earlier) kept =
    (before : List LegAction) × (actions ≡ Begins ∷ before) × AreOnLeg setup before earlier kept
AreOnLeg setup actions (FromCalling octets at decided read ∷ earlier) kept =
    AreOnLeg setup actions earlier kept
AreOnLeg setup actions (FromCalled octets at decided ∷ earlier) kept =
    AreOnLeg setup actions earlier kept
AreOnLeg setup actions (Tick at given ∷ earlier) kept =
    IsTurnOnLeg (λ before pages. AreOnLeg setup before earlier pages) given.on_calling
    (page_at (calling_leg setup earlier) (clock (Tick at given ∷ earlier))) actions kept
AreOnLeg setup actions (Placed at connected ∷ earlier) kept = AreOnLeg setup actions earlier kept

-- WHERE A PAGE WAS NOT PUT WITH AN OK, NOTHING GOES OUT in the tick that confirms it: by the actions of a wire that are those of a trace.
abbrev pub UnputPagesLetNothingOut : Type 0
UnputPagesLetNothingOut = (setup : Setup) (at : ℕ) (given : Given)
    (earlier : List Event) (actions : List LegAction) (kept : List CallPage) (page : CallPage)
    → page_at (calling_leg setup earlier) (clock (Tick at given ∷ earlier)) ≡ Some page
    → AreOnLeg setup actions (Tick at given ∷ earlier) kept
    → ((pages : List CallPage) × (kept ≡ pages ++ page ∷ [])) ⊎ ((before : List LegAction)
    × AreOnLeg setup before earlier kept × (went_out actions ≡ went_out before))
