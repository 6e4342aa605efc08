-- What holds of the client transaction of an INVITE, whatever happens at whatever moments.
use Rattle.std.specs.Prelude.{◌≡◌, ℕ, ◌+◌, ◌≤◌, ◌<◌, max, Bool, true, false, nat_le, List, Some}
use Rattle.fax_transactions.specs.declared.client.ClientAction.{ClientAction}
use Rattle.fax_transactions.specs.declared.client.ClientAction.TheVariants.{Nothing, SendAgain, Tell, TellAndAcknowledge, AcknowledgeAgain, TimedOut, Failed, AcknowledgementFailed}
use Rattle.fax_transactions.specs.declared.client.ClientEvent.{ClientEvent}
use Rattle.fax_transactions.specs.declared.client.ClientEvent.TheVariants.{TimePassed, Answered}
use Rattle.fax_transactions.specs.declared.client_invite.ClientInvite.{ClientInvite}
use Rattle.fax_transactions.specs.declared.client_invite.ClientInvite.TheVariants.{Calling, Proceeding, Completed, Terminated}
use Rattle.fax_transactions.specs.ClientInvites.{begun, next_due, row}
use Rattle.fax_transactions.specs.Runs.{actions_of, count_of, moments_of, one_if, state_after, ApartDoubling}

-- a final answer is waited for
abbrev pub is_waiting : ClientInvite → Bool
is_waiting (Calling again pause until limit) = true
is_waiting (Proceeding until) = true
is_waiting (Completed until) = false
is_waiting Terminated = false

-- the user hears how the request ended: by a final answer, or by none
abbrev pub tells_outcome : ClientAction → Bool
tells_outcome (Tell status) = nat_le 200 status
tells_outcome (TellAndAcknowledge status) = true
tells_outcome TimedOut = true
tells_outcome Failed = true
tells_outcome Nothing = false
tells_outcome SendAgain = false
tells_outcome AcknowledgeAgain = false
tells_outcome AcknowledgementFailed = false

abbrev pub is_sent_again : ClientAction → Bool
is_sent_again SendAgain = true
is_sent_again other = false

-- an ACK goes out
abbrev pub acknowledges : ClientAction → Bool
acknowledges (TellAndAcknowledge status) = true
acknowledges AcknowledgeAgain = true
acknowledges other = false

-- it is not over at a moment
abbrev pub IsOn : ClientInvite → ℕ → Type 0
IsOn (Calling again pause until limit) now = now < until
IsOn (Proceeding until) now = now < until
IsOn (Completed until) now = now < until
IsOn Terminated now = ⊥

-- It ends: whatever happened, after Timer B or the limit, and Timer D, nothing leaves it on.
-- Ruled out: Timer B that begins anew at each sending; Timer D that begins anew at each repeat; a provisional answer after which nothing is due.
abbrev pub InviteEnds : Type 0
InviteEnds = (sent limit now : ℕ) (happened : List (ℕ × ClientEvent)) (event : ClientEvent)
    → max (sent + 32000) limit + 32000 ≤ now
    → (row (state_after row (begun sent limit) happened) now event).0 ≡ Terminated

-- One outcome is told, or is waited for.
-- Ruled out: a machine that tells of each repeat of a refusal; one that tells of a timeout at Timer D; one that a 2xx ends untold.
abbrev pub InviteTellsOnce : Type 0
InviteTellsOnce = (sent limit : ℕ) (happened : List (ℕ × ClientEvent))
    → count_of tells_outcome (actions_of row (begun sent limit) happened)
    + one_if (is_waiting (state_after row (begun sent limit) happened)) ≡ 1

-- It is sent again at least T1, 2 T1, 4 T1 and so on after the time before.
-- Ruled out: a pause that stays T1; a sending at each moment that passes; a next time that is reckoned from the first.
abbrev pub InviteIsSentApart : Type 0
InviteIsSentApart = (sent limit : ℕ) (happened : List (ℕ × ClientEvent))
    → ApartDoubling sent 500 (moments_of is_sent_again (actions_of row (begun sent limit) happened))

-- Each refusal that comes while it is on gets an ACK, and nothing else does.
-- Ruled out: an ACK for the first refusal alone; none after a provisional answer; one for a 2xx, which is its dialog's.
abbrev pub RefusalsAreAcknowledged : Type 0
RefusalsAreAcknowledged = (state : ClientInvite) (now status : ℕ)
    → 300 ≤ status → IsOn state now → acknowledges (row state now (Answered status)).1 ≡ true

abbrev pub NothingElseIsAcknowledged : Type 0
NothingElseIsAcknowledged = (state : ClientInvite) (now : ℕ) (event : ClientEvent)
    → acknowledges (row state now event).1 ≡ true
    → (status : ℕ) × (event ≡ Answered status) × (300 ≤ status)

-- Before what is due next, time changes nothing.
-- Ruled out: a sending a millisecond early; an end after a refusal before Timer D; a pause that grows while nothing is sent.
abbrev pub InviteRests : Type 0
InviteRests = (state : ClientInvite) (now due : ℕ)
    → next_due state ≡ Some due → now < due → row state now TimePassed ≡ (state, Nothing)
