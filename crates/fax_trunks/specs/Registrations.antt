-- A registration with a trunk (RFC 3261, 10.2), state by state. An answer is that to the REGISTER under way.
use Rattle.std.specs.Prelude.{ℕ, nat_le, nat_lt, min, Bool, false, if◌then◌else◌, Option, None, Some}
use Rattle.fax_trunks.specs.declared.registration.Registration.{Registration}
use Rattle.fax_trunks.specs.declared.registration.Registration.TheVariants.{Waiting, Asking, Ending, Leaving, Over}
use Rattle.fax_trunks.specs.declared.registration_event.RegistrationAction.{RegistrationAction}
use Rattle.fax_trunks.specs.declared.registration_event.RegistrationAction.TheVariants.{Nothing, Register, RegisterWithCredentials, Unregister, UnregisterWithCredentials}
use Rattle.fax_trunks.specs.declared.registration_event.RegistrationEvent.{RegistrationEvent}
use Rattle.fax_trunks.specs.declared.registration_event.RegistrationEvent.TheVariants.{TimePassed, Granted, Challenged, TooBrief, Refused, Ended}
use Rattle.fax_trunks.specs.declared.stage.Stage.{Stage}
use Rattle.fax_trunks.specs.declared.stage.Stage.TheVariants.{First, Answering, Renewing}
use Rattle.fax_trunks.specs.declared.standing.Standing.{Standing}
use Rattle.fax_trunks.specs.Pauses.{answer_time, ending_time, expiry, first_pause, later, least_pause, longer, refresh}

-- the first REGISTER is due at once
abbrev pub begun : ℕ → ℕ → Registration
begun now seconds = Waiting now (record { pause = first_pause; seconds = seconds; until = 0 })

-- A challenge is answered once, and once more where its nonce alone was too old (RFC 7616, 3.3).
abbrev pub next_stage : Stage → Bool → Option Stage
next_stage First stale = Some Answering
next_stage Answering stale = if stale then Some Renewing else None
next_stage Renewing stale = None

-- A REGISTER came to nothing: the next is due after a pause, and the pause doubles.
abbrev pub failed : Standing → ℕ → Registration × RegistrationAction
failed standing now = (
  Waiting (later now standing.pause) (record {
    pause = longer standing.pause;
    seconds = standing.seconds;
    until = standing.until;
  }),
  Nothing,
)

-- Our contact is registered. Less than 10 seconds are as good as none.
abbrev pub granted : Standing → ℕ → ℕ → Registration × RegistrationAction
granted standing now given =
    if nat_lt given 10 then failed standing now else (
      Waiting (refresh now given) (record {
        pause = first_pause;
        seconds = standing.seconds;
        until = expiry now given;
      }),
      Nothing,
    )

abbrev pub challenged : Option Stage → Standing → ℕ → Registration × RegistrationAction
challenged None standing now = failed standing now
challenged (Some stage) standing now =
    (Asking (later now answer_time) stage standing, RegisterWithCredentials standing.seconds)

-- 10.2.8: the next one, after the least pause, asks for as many seconds as the registrar wants at least
abbrev pub too_brief : Standing → ℕ → ℕ → Registration × RegistrationAction
too_brief standing now least = if nat_le least standing.seconds
    then failed standing now else (
      Waiting (later now least_pause) (record {
        pause = standing.pause;
        seconds = least;
        until = standing.until;
      }),
      Nothing,
    )

-- the REGISTER that ends it is sent (10.2.2)
abbrev pub leave_by : ℕ → Registration × RegistrationAction
leave_by deadline = (Leaving First deadline, Unregister)

abbrev pub due_row : ℕ → Standing → ℕ → Registration × RegistrationAction
due_row due standing now = if nat_lt now due then (Waiting due standing, Nothing)
    else (Asking (later now answer_time) First standing, Register standing.seconds)

-- no REGISTER is under way
abbrev pub waiting_row : ℕ → Standing → ℕ → RegistrationEvent → Registration × RegistrationAction
waiting_row due standing now Ended = leave_by (later now ending_time)
waiting_row due standing now TimePassed = due_row due standing now
waiting_row due standing now (Granted given) = due_row due standing now
waiting_row due standing now (Challenged stale) = due_row due standing now
waiting_row due standing now (TooBrief least) = due_row due standing now
waiting_row due standing now Refused = due_row due standing now

-- no answer came in time
abbrev pub overdue_row : Standing → ℕ → RegistrationEvent → Registration × RegistrationAction
overdue_row standing now Ended = leave_by (later now ending_time)
overdue_row standing now TimePassed = failed standing now
overdue_row standing now (Granted given) = failed standing now
overdue_row standing now (Challenged stale) = failed standing now
overdue_row standing now (TooBrief least) = failed standing now
overdue_row standing now Refused = failed standing now

-- an answer is waited for
abbrev pub asking_row : ℕ
    → Stage → Standing → ℕ → RegistrationEvent → Registration × RegistrationAction
asking_row limit stage standing now TimePassed = (Asking limit stage standing, Nothing)
asking_row limit stage standing now (Granted given) = granted standing now given
asking_row limit stage standing now (Challenged stale) =
    challenged (next_stage stage stale) standing now
asking_row limit stage standing now (TooBrief least) = too_brief standing now least
asking_row limit stage standing now Refused = failed standing now
asking_row limit stage standing now Ended = (Ending limit (later now ending_time), Nothing)

-- It is to end: the REGISTER that ends it is sent once the one under way is answered (10.2).
abbrev pub ending_row : ℕ → ℕ → RegistrationEvent → Registration × RegistrationAction
ending_row limit deadline TimePassed = (Ending limit deadline, Nothing)
ending_row limit deadline Ended = (Ending limit deadline, Nothing)
ending_row limit deadline (Granted given) = leave_by deadline
ending_row limit deadline (Challenged stale) = leave_by deadline
ending_row limit deadline (TooBrief least) = leave_by deadline
ending_row limit deadline Refused = leave_by deadline

abbrev pub left : Option Stage → ℕ → Registration × RegistrationAction
left None deadline = (Over, Nothing)
left (Some stage) deadline = (Leaving stage deadline, UnregisterWithCredentials)

-- the answer to its end is waited for
abbrev pub leaving_row : Stage → ℕ → RegistrationEvent → Registration × RegistrationAction
leaving_row stage deadline TimePassed = (Leaving stage deadline, Nothing)
leaving_row stage deadline Ended = (Leaving stage deadline, Nothing)
leaving_row stage deadline (Challenged stale) = left (next_stage stage stale) deadline
leaving_row stage deadline (Granted given) = (Over, Nothing)
leaving_row stage deadline (TooBrief least) = (Over, Nothing)
leaving_row stage deadline Refused = (Over, Nothing)

-- What happens at a moment: the next state, and what is to be done. What is due comes first.
abbrev pub row : Registration → ℕ → RegistrationEvent → Registration × RegistrationAction
row (Waiting due standing) now event = waiting_row due standing now event
row (Asking limit stage standing) now event = if nat_le limit now
    then overdue_row standing now event else asking_row limit stage standing now event
row (Ending limit deadline) now event = if nat_le deadline now then (Over, Nothing)
    else if nat_le limit now then leave_by deadline else ending_row limit deadline event
row (Leaving stage deadline) now event =
    if nat_le deadline now then (Over, Nothing) else leaving_row stage deadline event
row Over now event = (Over, Nothing)

-- the moment from which something is due although nothing else happens
abbrev pub next_due : Registration → Option ℕ
next_due (Waiting due standing) = Some due
next_due (Asking limit stage standing) = Some limit
next_due (Ending limit deadline) = Some (min limit deadline)
next_due (Leaving stage deadline) = Some deadline
next_due Over = None

-- our contact is registered, as far as the registrar said, and is to stay so
abbrev pub is_registered : Registration → ℕ → Bool
is_registered (Waiting due standing) now = nat_lt now standing.until
is_registered (Asking limit stage standing) now = nat_lt now standing.until
is_registered (Ending limit deadline) now = false
is_registered (Leaving stage deadline) now = false
is_registered Over now = false
