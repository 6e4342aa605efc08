-- What holds of the client transaction of a request that is neither an INVITE nor an ACK, whatever happens at whatever moments.
use Rattle.std.specs.Prelude.{◌≡◌, ℕ, ◌+◌, ◌≤◌, ◌<◌, Bool, true, false, List, Some}
use Rattle.fax_transactions.specs.declared.client.ClientAction.TheVariants.{Nothing}
use Rattle.fax_transactions.specs.declared.client.ClientEvent.{ClientEvent}
use Rattle.fax_transactions.specs.declared.client.ClientEvent.TheVariants.{TimePassed}
use Rattle.fax_transactions.specs.declared.client_request.ClientRequest.{ClientRequest}
use Rattle.fax_transactions.specs.declared.client_request.ClientRequest.TheVariants.{Trying, Proceeding, Completed, Terminated}
use Rattle.fax_transactions.specs.ClientInviteLaws.{is_sent_again, tells_outcome}
use Rattle.fax_transactions.specs.ClientRequests.{begun, next_due, row}
use Rattle.fax_transactions.specs.Runs.{actions_of, count_of, moments_of, one_if, state_after, ApartGrowing}

-- a final answer is waited for
abbrev pub is_waiting : ClientRequest → Bool
is_waiting (Trying again pause until) = true
is_waiting (Proceeding again until) = true
is_waiting (Completed until) = false
is_waiting Terminated = false

-- It ends: whatever happened, after Timer F and Timer K nothing leaves it on.
-- Ruled out: Timer F that begins anew at a provisional answer; Timer K that begins anew at each repeat; no Timer F after a provisional answer.
abbrev pub RequestEnds : Type 0
RequestEnds = (sent now : ℕ) (happened : List (ℕ × ClientEvent)) (event : ClientEvent)
    → sent + 32000 + 5000 ≤ now
    → (row (state_after row (begun sent) happened) now event).0 ≡ Terminated

-- One outcome is told, or is waited for.
-- Ruled out: a machine that tells of each repeat of a final answer; one that tells of a timeout at Timer K; one that fails untold.
abbrev pub RequestTellsOnce : Type 0
RequestTellsOnce = (sent : ℕ) (happened : List (ℕ × ClientEvent))
    → count_of tells_outcome (actions_of row (begun sent) happened)
    + one_if (is_waiting (state_after row (begun sent) happened)) ≡ 1

-- It is sent again at least T1, 2 T1, 4 T1 and so on after the time before, up to T2.
-- Ruled out: a pause that stays T1; a sending at each provisional answer; a pause that begins anew with T1 after one.
abbrev pub RequestIsSentApart : Type 0
RequestIsSentApart = (sent : ℕ) (happened : List (ℕ × ClientEvent))
    → ApartGrowing sent 500 (moments_of is_sent_again (actions_of row (begun sent) happened))

-- Before what is due next, time changes nothing.
-- Ruled out: a sending a millisecond early; an end after a final answer before Timer K; a pause that grows while nothing is sent.
abbrev pub RequestRests : Type 0
RequestRests = (state : ClientRequest) (now due : ℕ)
    → next_due state ≡ Some due → now < due → row state now TimePassed ≡ (state, Nothing)
