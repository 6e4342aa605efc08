-- The server transaction of a request that is neither an INVITE nor an ACK, over UDP (RFC 3261, 17.2.2; figure 8).
use Rattle.std.specs.Prelude.{ℕ, nat_le, nat_lt, if◌then◌else◌, Option, None, Some}
use Rattle.fax_transactions.specs.declared.server.ServerAction.{ServerAction}
use Rattle.fax_transactions.specs.declared.server.ServerAction.TheVariants.{Nothing, Send, SendAgain, TimedOut, Failed}
use Rattle.fax_transactions.specs.declared.server.ServerEvent.{ServerEvent}
use Rattle.fax_transactions.specs.declared.server.ServerEvent.TheVariants.{TimePassed, Repeated, Answered, Acknowledged, NotSent}
use Rattle.fax_transactions.specs.declared.server_request.ServerRequest.{ServerRequest}
use Rattle.fax_transactions.specs.declared.server_request.ServerRequest.TheVariants.{Trying, Proceeding, Completed, Terminated}
use Rattle.fax_transactions.specs.Spans.{timeout, later}

-- 17.2.2: the user is told of the request
abbrev pub begun : ℕ → ServerRequest
begun limit = Trying limit

-- The user answers, and that is sent. After a final answer Timer J begins, with 64 T1.
abbrev pub answered_row : ℕ → ℕ → ℕ → ServerRequest × ServerAction
answered_row until now status =
    if nat_lt status 200 then (Proceeding until, Send) else (Completed (later now timeout), Send)

-- Trying. A repeat of the request is passed over.
abbrev pub trying_row : ℕ → ℕ → ServerEvent → ServerRequest × ServerAction
trying_row until now (Answered status) = answered_row until now status
trying_row until now TimePassed = (Trying until, Nothing)
trying_row until now Repeated = (Trying until, Nothing)
trying_row until now Acknowledged = (Trying until, Nothing)
trying_row until now NotSent = (Trying until, Nothing)

-- Proceeding. A repeat of the request gets the last provisional answer again. What cannot be sent ends it (17.2.4).
abbrev pub proceeding_row : ℕ → ℕ → ServerEvent → ServerRequest × ServerAction
proceeding_row until now Repeated = (Proceeding until, SendAgain)
proceeding_row until now (Answered status) = answered_row until now status
proceeding_row until now NotSent = (Terminated, Failed)
proceeding_row until now TimePassed = (Proceeding until, Nothing)
proceeding_row until now Acknowledged = (Proceeding until, Nothing)

-- Completed. A repeat of the request gets the final answer again. What else the user answers is passed over.
abbrev pub completed_row : ℕ → ServerEvent → ServerRequest × ServerAction
completed_row until Repeated = (Completed until, SendAgain)
completed_row until NotSent = (Terminated, Failed)
completed_row until TimePassed = (Completed until, Nothing)
completed_row until (Answered status) = (Completed until, Nothing)
completed_row until Acknowledged = (Completed until, Nothing)

-- What happens at a moment: the next state, and what is to be done. What is due comes first: the limit, of which the user is told; Timer J.
abbrev pub row : ServerRequest → ℕ → ServerEvent → ServerRequest × ServerAction
row (Trying until) now event =
    if nat_le until now then (Terminated, TimedOut) else trying_row until now event
row (Proceeding until) now event =
    if nat_le until now then (Terminated, TimedOut) else proceeding_row until now event
row (Completed until) now event =
    if nat_le until now then (Terminated, Nothing) else completed_row until event
row Terminated now event = (Terminated, Nothing)

-- the moment from which something is due although nothing else happens
abbrev pub next_due : ServerRequest → Option ℕ
next_due (Trying until) = Some until
next_due (Proceeding until) = Some until
next_due (Completed until) = Some until
next_due Terminated = None
