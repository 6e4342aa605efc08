-- The client transaction of a request that is neither an INVITE nor an ACK, over UDP (RFC 3261, 17.1.2; figure 6).
use Rattle.std.specs.Prelude.{ℕ, min, nat_le, nat_lt, if◌then◌else◌, Option, None, Some}
use Rattle.fax_transactions.specs.declared.client.ClientAction.{ClientAction}
use Rattle.fax_transactions.specs.declared.client.ClientAction.TheVariants.{Nothing, SendAgain, Tell, TimedOut, Failed}
use Rattle.fax_transactions.specs.declared.client.ClientEvent.{ClientEvent}
use Rattle.fax_transactions.specs.declared.client.ClientEvent.TheVariants.{TimePassed, Answered, NotSent, Cancelled}
use Rattle.fax_transactions.specs.declared.client_request.ClientRequest.{ClientRequest}
use Rattle.fax_transactions.specs.declared.client_request.ClientRequest.TheVariants.{Trying, Proceeding, Completed, Terminated}
use Rattle.fax_transactions.specs.Spans.{t1, t2, t4, timeout, later, longer}

-- 17.1.2.2: the request is sent, Timer E begins with T1, and Timer F with 64 T1
abbrev pub begun : ℕ → ClientRequest
begun now = Trying (later now t1) t1 (later now timeout)

-- An answer, where none or a provisional one came. The user is told of it. After a final one Timer K begins, with T4.
abbrev pub answered_row : ℕ → ℕ → ℕ → ℕ → ClientRequest × ClientAction
answered_row again until now status = if nat_lt status 200
    then (Proceeding again until, Tell status) else (Completed (later now t4), Tell status)

-- Trying. Timer E: the request is sent again, and the pause doubles up to T2. What cannot be sent ends it (17.1.4). There is no CANCEL of it (9.1).
abbrev pub trying_row : ℕ → ℕ → ℕ → ℕ → ClientEvent → ClientRequest × ClientAction
trying_row again pause until now TimePassed =
    if nat_lt now again then (Trying again pause until, Nothing)
    else (Trying (later now (longer pause)) (longer pause) until, SendAgain)
trying_row again pause until now (Answered status) = answered_row again until now status
trying_row again pause until now NotSent = (Terminated, Failed)
trying_row again pause until now Cancelled = (Trying again pause until, Nothing)

-- Proceeding. Timer E: the request is sent again, and the pause is T2.
abbrev pub proceeding_row : ℕ → ℕ → ℕ → ClientEvent → ClientRequest × ClientAction
proceeding_row again until now TimePassed = if nat_lt now again
    then (Proceeding again until, Nothing) else (Proceeding (later now t2) until, SendAgain)
proceeding_row again until now (Answered status) = answered_row again until now status
proceeding_row again until now NotSent = (Terminated, Failed)
proceeding_row again until now Cancelled = (Proceeding again until, Nothing)

-- What happens at a moment: the next state, and what is to be done. What is due comes first: Timer F, of which the user is told; Timer K. Completed: repeats of the
-- final answer are passed over.
abbrev pub row : ClientRequest → ℕ → ClientEvent → ClientRequest × ClientAction
row (Trying again pause until) now event =
    if nat_le until now then (Terminated, TimedOut) else trying_row again pause until now event
row (Proceeding again until) now event =
    if nat_le until now then (Terminated, TimedOut) else proceeding_row again until now event
row (Completed until) now event =
    if nat_le until now then (Terminated, Nothing) else (Completed until, Nothing)
row Terminated now event = (Terminated, Nothing)

-- the moment from which something is due although nothing else happens
abbrev pub next_due : ClientRequest → Option ℕ
next_due (Trying again pause until) = Some (min again until)
next_due (Proceeding again until) = Some (min again until)
next_due (Completed until) = Some until
next_due Terminated = None
