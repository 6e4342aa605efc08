-- The server transaction of an INVITE over UDP (RFC 3261, 17.2.1; figure 7).
use Rattle.std.specs.Prelude.{ℕ, min, nat_le, nat_lt, if◌then◌else◌, Option, None, Some}
use Rattle.fax_transactions.specs.declared.server.ServerAction.{ServerAction}
use Rattle.fax_transactions.specs.declared.server.ServerAction.TheVariants.{Nothing, Send, SendAgain, TimedOut, Unacknowledged, Failed}
use Rattle.fax_transactions.specs.declared.server.ServerEvent.{ServerEvent}
use Rattle.fax_transactions.specs.declared.server.ServerEvent.TheVariants.{TimePassed, Repeated, Answered, Acknowledged, NotSent}
use Rattle.fax_transactions.specs.declared.server_invite.ServerInvite.{ServerInvite}
use Rattle.fax_transactions.specs.declared.server_invite.ServerInvite.TheVariants.{Proceeding, Completed, Confirmed, Terminated}
use Rattle.fax_transactions.specs.Spans.{t1, t4, timeout, later, longer}

-- 17.2.1: 100 is sent at once
abbrev pub begun : ℕ → ServerInvite
begun limit = Proceeding limit

-- The user answers, and that is sent. A 2xx ends the transaction; after a refusal Timer G begins, with T1, and Timer H, with 64 T1.
abbrev pub answered_row : ℕ → ℕ → ℕ → ServerInvite × ServerAction
answered_row until now status =
    if nat_lt status 200 then (Proceeding until, Send) else if nat_lt status 300
    then (Terminated, Send) else (Completed (later now t1) t1 (later now timeout), Send)

-- Proceeding. A repeat of the INVITE gets the last provisional answer again. What cannot be sent ends it (17.2.4).
abbrev pub proceeding_row : ℕ → ℕ → ServerEvent → ServerInvite × ServerAction
proceeding_row until now Repeated = (Proceeding until, SendAgain)
proceeding_row until now (Answered status) = answered_row until now status
proceeding_row until now NotSent = (Terminated, Failed)
proceeding_row until now TimePassed = (Proceeding until, Nothing)
proceeding_row until now Acknowledged = (Proceeding until, Nothing)

-- Completed. Timer G: the refusal is sent again, and the pause doubles up to T2. A repeat of the INVITE gets the refusal again. After the ACK Timer I begins, with T4.
-- What else the user answers is passed over.
abbrev pub completed_row : ℕ → ℕ → ℕ → ℕ → ServerEvent → ServerInvite × ServerAction
completed_row again pause until now TimePassed =
    if nat_lt now again then (Completed again pause until, Nothing)
    else (Completed (later now (longer pause)) (longer pause) until, SendAgain)
completed_row again pause until now Repeated = (Completed again pause until, SendAgain)
completed_row again pause until now (Answered status) = (Completed again pause until, Nothing)
completed_row again pause until now Acknowledged = (Confirmed (later now t4), Nothing)
completed_row again pause until now NotSent = (Terminated, Failed)

-- What happens at a moment: the next state, and what is to be done. What is due comes first: the limit, and Timer H, of which the user is told; Timer I. Confirmed:
-- repeats of the INVITE and of its ACK are passed over.
abbrev pub row : ServerInvite → ℕ → ServerEvent → ServerInvite × ServerAction
row (Proceeding until) now event =
    if nat_le until now then (Terminated, TimedOut) else proceeding_row until now event
row (Completed again pause until) now event = if nat_le until now
    then (Terminated, Unacknowledged) else completed_row again pause until now event
row (Confirmed until) now event =
    if nat_le until now then (Terminated, Nothing) else (Confirmed until, Nothing)
row Terminated now event = (Terminated, Nothing)

-- the moment from which something is due although nothing else happens
abbrev pub next_due : ServerInvite → Option ℕ
next_due (Proceeding until) = Some until
next_due (Completed again pause until) = Some (min again until)
next_due (Confirmed until) = Some until
next_due Terminated = None
