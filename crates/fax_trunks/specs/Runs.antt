-- Runs of a registration: what happens, each at its moment, and what is done.
use Rattle.std.specs.Prelude.{ℕ, ◌+◌, ◌≤◌, Bool, true, false, if◌then◌else◌, List, [], ◌∷◌}
use Rattle.fax_trunks.specs.declared.registration.Registration.{Registration}
use Rattle.fax_trunks.specs.declared.registration_event.RegistrationAction.{RegistrationAction}
use Rattle.fax_trunks.specs.declared.registration_event.RegistrationEvent.{RegistrationEvent}
use Rattle.fax_trunks.specs.declared.registration_event.RegistrationEvent.TheVariants.{TimePassed, Granted, Challenged, TooBrief, Refused, Ended}
use Rattle.fax_trunks.specs.Registrations.{row}

-- the state after what happened
abbrev pub state_after : Registration → List (ℕ × RegistrationEvent) → Registration
state_after state [] = state
state_after state (happening ∷ happened) =
    state_after (row state happening.0 happening.1).0 happened

-- the moments at which what is done passes a test
abbrev pub moments_of : (RegistrationAction → Bool)
    → Registration → List (ℕ × RegistrationEvent) → List ℕ
moments_of test state [] = []
moments_of test state (happening ∷ happened) =
    if test (row state happening.0 happening.1).1
    then happening.0 ∷ moments_of test (row state happening.0 happening.1).0 happened
    else moments_of test (row state happening.0 happening.1).0 happened

abbrev pub one_if : Bool → ℕ
one_if true = 1
one_if false = 0

-- how many of the things done pass a test
abbrev pub count_of : (RegistrationAction → Bool) → Registration → List (ℕ × RegistrationEvent) → ℕ
count_of test state [] = 0
count_of test state (happening ∷ happened) = one_if (test (row state happening.0 happening.1).1)
    + count_of test (row state happening.0 happening.1).0 happened

-- how many challenges say that their nonce alone was too old
abbrev pub is_stale : RegistrationEvent → Bool
is_stale (Challenged stale) = stale
is_stale TimePassed = false
is_stale (Granted given) = false
is_stale (TooBrief least) = false
is_stale Refused = false
is_stale Ended = false

abbrev pub stale_in : List (ℕ × RegistrationEvent) → ℕ
stale_in [] = 0
stale_in (happening ∷ happened) = one_if (is_stale happening.1) + stale_in happened

-- time does not go back
abbrev pub IsInOrder : ℕ → List (ℕ × RegistrationEvent) → Type 0
IsInOrder from [] = Unit {0}
IsInOrder from (happening ∷ happened) = (from ≤ happening.0) × IsInOrder happening.0 happened

-- none of these moments is before this one
abbrev pub AreFrom : ℕ → List ℕ → Type 0
AreFrom from [] = Unit {0}
AreFrom from (moment ∷ moments) = (from ≤ moment) × AreFrom from moments
