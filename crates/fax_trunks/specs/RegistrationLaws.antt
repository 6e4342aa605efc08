-- What holds of a registration, whatever happens at whatever moments.
use Rattle.std.specs.Prelude.{◌≡◌, ℕ, ◌+◌, ◌*◌, ◌^◌, ◌≤◌, ◌<◌, Bool, true, false, List, [], ◌∷◌, Some}
use Rattle.fax_trunks.specs.declared.registration.Registration.{Registration}
use Rattle.fax_trunks.specs.declared.registration.Registration.TheVariants.{Waiting, Asking, Ending, Leaving, Over}
use Rattle.fax_trunks.specs.declared.registration_event.RegistrationAction.{RegistrationAction}
use Rattle.fax_trunks.specs.declared.registration_event.RegistrationAction.TheVariants.{Nothing, Register, RegisterWithCredentials, Unregister, UnregisterWithCredentials}
use Rattle.fax_trunks.specs.declared.registration_event.RegistrationEvent.{RegistrationEvent}
use Rattle.fax_trunks.specs.declared.registration_event.RegistrationEvent.TheVariants.{TimePassed, Granted, Challenged, TooBrief, Refused, Ended}
use Rattle.fax_trunks.specs.Pauses.{answer_time, first_pause, later, least_pause, longest_pause, refresh}
use Rattle.fax_trunks.specs.Registrations.{begun, next_due, row}
use Rattle.fax_trunks.specs.Runs.{count_of, moments_of, stale_in, state_after, AreFrom, IsInOrder}

-- a REGISTER goes out that answers no challenge
abbrev pub is_register : RegistrationAction → Bool
is_register (Register seconds) = true
is_register (RegisterWithCredentials seconds) = false
is_register Nothing = false
is_register Unregister = false
is_register UnregisterWithCredentials = false

-- a REGISTER goes out that answers a challenge, and one that answers none
abbrev pub has_credentials : RegistrationAction → Bool
has_credentials (RegisterWithCredentials seconds) = true
has_credentials UnregisterWithCredentials = true
has_credentials (Register seconds) = false
has_credentials Unregister = false
has_credentials Nothing = false

abbrev pub has_none : RegistrationAction → Bool
has_none (Register seconds) = true
has_none Unregister = true
has_none (RegisterWithCredentials seconds) = false
has_none UnregisterWithCredentials = false
has_none Nothing = false

-- it is not the end
abbrev pub GoesOn : RegistrationEvent → Type 0
GoesOn Ended = ⊥
GoesOn TimePassed = Unit {0}
GoesOn (Granted given) = Unit {0}
GoesOn (Challenged stale) = Unit {0}
GoesOn (TooBrief least) = Unit {0}
GoesOn Refused = Unit {0}

-- all of it happens before a moment, and none is the end
abbrev pub AreBefore : ℕ → List (ℕ × RegistrationEvent) → Type 0
AreBefore moment [] = Unit {0}
AreBefore moment (happening ∷ happened) =
    (happening.0 < moment) × GoesOn happening.1 × AreBefore moment happened

-- an answer is waited for at a moment
abbrev pub Asks : Registration → ℕ → Type 0
Asks (Asking limit stage standing) now = now < limit
Asks (Waiting due standing) now = ⊥
Asks (Ending limit deadline) now = ⊥
Asks (Leaving stage deadline) now = ⊥
Asks Over now = ⊥

-- it has not been ended
abbrev pub IsOn : Registration → Type 0
IsOn (Waiting due standing) = Unit {0}
IsOn (Asking limit stage standing) = Unit {0}
IsOn (Ending limit deadline) = ⊥
IsOn (Leaving stage deadline) = ⊥
IsOn Over = ⊥

-- After a grant, whatever happens before the moment of the refresh, whatever happens first from then on, a REGISTER goes out.
-- Ruled out: a refresh that stray answers put off; one that is due a pause of failures later; a registration that rests after a grant.
abbrev pub RefreshesInTime : Type 0
RefreshesInTime = (state : Registration) (at given : ℕ)
    (happened : List (ℕ × RegistrationEvent)) (now : ℕ) (event : RegistrationEvent) → Asks state at
    → 10 ≤ given → AreBefore (refresh at given) happened → refresh at given ≤ now → GoesOn event
    → is_register (row (state_after (row state at (Granted given)).0 happened) now event).1 ≡ true

-- That moment is 5 s before the registration is over, at least; where that is granted for more than 124 s, a REGISTER that nobody answers
-- is given up and the next one goes out before it is over.
abbrev pub RefreshLeavesTime : Type 0
RefreshLeavesTime = (at given : ℕ)
    → 10 ≤ given → at + 1000 * given < 2 ^ 64 → (refresh at given + 5000 ≤ at + 1000 * given)
    × (124 < given → refresh at given + answer_time + first_pause < at + 1000 * given)

-- Two REGISTERs, but for those that answer a challenge, are the least pause apart.
-- Ruled out: a retry at once after a refusal or a 423; a refresh at each moment of a short grant; a pause that is reckoned from the one before.
abbrev pub RegistersApart : Type 0
RegistersApart = (began seconds : ℕ)
    (before happened : List (ℕ × RegistrationEvent)) (sent : ℕ) (event : RegistrationEvent)
    → is_register (row (state_after (begun began seconds) before) sent event).1 ≡ true
    → IsInOrder sent happened → AreFrom (later sent least_pause)
    (moments_of is_register (row (state_after (begun began seconds) before) sent event).0 happened)

-- A challenge is answered once for each REGISTER without credentials, and once more where its nonce alone was too old.
-- Ruled out: credentials that are sent at each challenge while a registrar refuses them; a REGISTER with credentials that nobody asked for.
abbrev pub CredentialsAreSentOnce : Type 0
CredentialsAreSentOnce = (began seconds : ℕ) (happened : List (ℕ × RegistrationEvent))
    → count_of has_credentials (begun began seconds) happened
    ≤ count_of has_none (begun began seconds) happened + stale_in happened

-- After a refusal the next REGISTER is due within 30 minutes, and 30 s after it at least, whatever happened before.
-- Ruled out: a pause that grows without an end; a registration that gives up; a refusal that is passed over.
abbrev pub IsDueWithin : ℕ → ℕ → Registration → Type 0
IsDueWithin from to (Waiting due standing) = (from ≤ due) × (due ≤ to)
IsDueWithin from to (Asking limit stage standing) = ⊥
IsDueWithin from to (Ending limit deadline) = ⊥
IsDueWithin from to (Leaving stage deadline) = ⊥
IsDueWithin from to Over = ⊥

abbrev pub RefusalsAreTriedAgain : Type 0
RefusalsAreTriedAgain = (began seconds : ℕ) (happened : List (ℕ × RegistrationEvent)) (now : ℕ)
    → Asks (state_after (begun began seconds) happened) now → IsDueWithin (later now first_pause)
    (later now longest_pause) (row (state_after (begun began seconds) happened) now Refused).0

-- Once it is to end, it is over after 64 s, whatever happened.
-- Ruled out: a deadline that begins anew at a challenge; one that waits for an answer that never comes; one that a second end puts off.
abbrev pub RegistrationEnds : Type 0
RegistrationEnds = (state : Registration) (ended : ℕ) (happened : List (ℕ × RegistrationEvent))
    (now : ℕ) (event : RegistrationEvent) → IsOn state → ended + 64000 ≤ now
    → (row (state_after (row state ended Ended).0 happened) now event).0 ≡ Over

-- Before what is due next, time changes nothing.
-- Ruled out: a REGISTER a millisecond early; an answer that is given up before its time.
abbrev pub RegistrationRests : Type 0
RegistrationRests = (state : Registration) (now due : ℕ)
    → next_due state ≡ Some due → now < due → row state now TimePassed ≡ (state, Nothing)
