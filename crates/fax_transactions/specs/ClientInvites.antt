-- The client transaction of an INVITE over UDP (RFC 3261, 17.1.1; figure 5).
use Rattle.std.specs.Prelude.{ℕ, min, nat_le, nat_lt, if◌then◌else◌, Option, None, Some}
use Rattle.fax_transactions.specs.declared.client.ClientAction.{ClientAction}
use Rattle.fax_transactions.specs.declared.client.ClientAction.TheVariants.{Nothing, SendAgain, Tell, TellAndAcknowledge, AcknowledgeAgain, TimedOut, Failed, AcknowledgementFailed}
use Rattle.fax_transactions.specs.declared.client.ClientEvent.{ClientEvent}
use Rattle.fax_transactions.specs.declared.client.ClientEvent.TheVariants.{TimePassed, Answered, NotSent, Cancelled}
use Rattle.fax_transactions.specs.declared.client_invite.ClientInvite.{ClientInvite}
use Rattle.fax_transactions.specs.declared.client_invite.ClientInvite.TheVariants.{Calling, Proceeding, Completed, Terminated}
use Rattle.fax_transactions.specs.Spans.{t1, timeout, later, doubled}

-- 17.1.1.2: the INVITE is sent, Timer A begins with T1, and Timer B with 64 T1
abbrev pub begun : ℕ → ℕ → ClientInvite
begun now limit = Calling (later now t1) t1 (later now timeout) limit

-- An answer, where none or a provisional one came. The user is told of it. After a provisional one the INVITE is not sent again, and a final one is waited for until
-- the limit; a 2xx ends the transaction; a refusal gets its ACK, and Timer D begins, with 32 s.
abbrev pub answered_row : ℕ → ℕ → ℕ → ClientInvite × ClientAction
answered_row limit now status =
    if nat_lt status 200 then (Proceeding limit, Tell status) else if nat_lt status 300
    then (Terminated, Tell status) else (Completed (later now timeout), TellAndAcknowledge status)

-- Calling. Timer A: the INVITE is sent again, and the pause doubles. What cannot be sent ends it (17.1.4). No CANCEL goes out before a provisional answer came (9.1).
abbrev pub calling_row : ℕ → ℕ → ℕ → ℕ → ℕ → ClientEvent → ClientInvite × ClientAction
calling_row again pause until limit now TimePassed =
    if nat_lt now again then (Calling again pause until limit, Nothing)
    else (Calling (later now (doubled pause)) (doubled pause) until limit, SendAgain)
calling_row again pause until limit now (Answered status) = answered_row limit now status
calling_row again pause until limit now NotSent = (Terminated, Failed)
calling_row again pause until limit now Cancelled = (Calling again pause until limit, Nothing)

-- Proceeding. After a CANCEL a final answer is waited for 64 T1 more at most (9.1).
abbrev pub proceeding_row : ℕ → ℕ → ClientEvent → ClientInvite × ClientAction
proceeding_row until now (Answered status) = answered_row until now status
proceeding_row until now Cancelled = (Proceeding (min (later now timeout) until), Nothing)
proceeding_row until now TimePassed = (Proceeding until, Nothing)
proceeding_row until now NotSent = (Proceeding until, Nothing)

-- Completed. A repeat of a refusal gets its ACK again, and the user does not hear of it.
abbrev pub completed_row : ℕ → ClientEvent → ClientInvite × ClientAction
completed_row until (Answered status) =
    if nat_lt status 300 then (Completed until, Nothing) else (Completed until, AcknowledgeAgain)
completed_row until NotSent = (Terminated, AcknowledgementFailed)
completed_row until TimePassed = (Completed until, Nothing)
completed_row until Cancelled = (Completed until, Nothing)

-- What happens at a moment: the next state, and what is to be done. What is due comes first: Timer B, and the limit, of which the user is told; Timer D.
abbrev pub row : ClientInvite → ℕ → ClientEvent → ClientInvite × ClientAction
row (Calling again pause until limit) now event = if nat_le until now
    then (Terminated, TimedOut) else calling_row again pause until limit now event
row (Proceeding until) now event =
    if nat_le until now then (Terminated, TimedOut) else proceeding_row until now event
row (Completed until) now event =
    if nat_le until now then (Terminated, Nothing) else completed_row until event
row Terminated now event = (Terminated, Nothing)

-- the moment from which something is due although nothing else happens
abbrev pub next_due : ClientInvite → Option ℕ
next_due (Calling again pause until limit) = Some (min again until)
next_due (Proceeding until) = Some until
next_due (Completed until) = Some until
next_due Terminated = None
