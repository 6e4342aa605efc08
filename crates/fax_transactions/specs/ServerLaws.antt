-- What holds of both server transactions, whatever happens at whatever moments.
use Rattle.std.specs.Prelude.{◌≡◌, ℕ, ◌+◌, ◌≤◌, ◌<◌, Bool, true, false, List, Some}
use Rattle.fax_transactions.specs.declared.server.ServerAction.{ServerAction}
use Rattle.fax_transactions.specs.declared.server.ServerAction.TheVariants.{Nothing, Send, SendAgain}
use Rattle.fax_transactions.specs.declared.server.ServerEvent.{ServerEvent}
use Rattle.fax_transactions.specs.declared.server.ServerEvent.TheVariants.{TimePassed, Repeated, Answered}
use Rattle.fax_transactions.specs.declared.server_invite.ServerInvite.{ServerInvite}
use Rattle.fax_transactions.specs.declared.server_invite.ServerInvite.TheVariants as invite
use Rattle.fax_transactions.specs.declared.server_request.ServerRequest.{ServerRequest}
use Rattle.fax_transactions.specs.declared.server_request.ServerRequest.TheVariants as request
use Rattle.fax_transactions.specs.Runs.{actions_of, count_of, state_after}
use Rattle.fax_transactions.specs.ServerInvites as invites
use Rattle.fax_transactions.specs.ServerRequests as requests

-- an answer of the user is sent
abbrev pub is_new : ServerAction → Bool
is_new Send = true
is_new other = false

-- an answer was sent, and a repeat of the request gets it
abbrev pub InviteHasAnswer : ServerInvite → ℕ → Type 0
InviteHasAnswer (invite.Proceeding until) now = now < until
InviteHasAnswer (invite.Completed again pause until) now = now < until
InviteHasAnswer (invite.Confirmed until) now = ⊥
InviteHasAnswer invite.Terminated now = ⊥

abbrev pub RequestHasAnswer : ServerRequest → ℕ → Type 0
RequestHasAnswer (request.Trying until) now = ⊥
RequestHasAnswer (request.Proceeding until) now = now < until
RequestHasAnswer (request.Completed until) now = now < until
RequestHasAnswer request.Terminated now = ⊥

-- It ends: whatever happened, after the limit and Timers H and I, or J, nothing leaves it on.
-- Ruled out: Timer H or J that begins anew at each repeat of the request; a user who never answers; Timer I that begins anew at each ACK.
abbrev pub InviteEnds : Type 0
InviteEnds = (limit now : ℕ) (happened : List (ℕ × ServerEvent)) (event : ServerEvent)
    → limit + 32000 + 5000 ≤ now
    → (invites.row (state_after invites.row (invites.begun limit) happened) now event).0
    ≡ invite.Terminated

abbrev pub RequestEnds : Type 0
RequestEnds = (limit now : ℕ) (happened : List (ℕ × ServerEvent)) (event : ServerEvent)
    → limit + 32000 ≤ now
    → (requests.row (state_after requests.row (requests.begun limit) happened) now event).0
    ≡ request.Terminated

-- It is answered once: after a final answer that was sent the user's answers are passed over, whatever happens.
-- Ruled out: a 2xx after a refusal; a provisional answer after a final one; a second refusal in place of the first.
abbrev pub InviteIsAnsweredOnce : Type 0
InviteIsAnsweredOnce = (state : ServerInvite) (now status : ℕ) (happened : List (ℕ × ServerEvent))
    → 200 ≤ status → (invites.row state now (Answered status)).1 ≡ Send
    → count_of is_new (actions_of invites.row (invites.row state now (Answered status)).0 happened)
    ≡ 0

abbrev pub RequestIsAnsweredOnce : Type 0
RequestIsAnsweredOnce = (state : ServerRequest) (now status : ℕ) (happened : List (ℕ × ServerEvent))
    → 200 ≤ status → (requests.row state now (Answered status)).1 ≡ Send → count_of
    is_new (actions_of requests.row (requests.row state now (Answered status)).0 happened) ≡ 0

-- A repeat of the request gets the last answer again.
-- Ruled out: a machine that passes repeats over after a final answer; one that does before it; one that tells the user of them anew.
abbrev pub InviteRepeatsAreAnswered : Type 0
InviteRepeatsAreAnswered = (state : ServerInvite) (now : ℕ)
    → InviteHasAnswer state now → (invites.row state now Repeated).1 ≡ SendAgain

abbrev pub RequestRepeatsAreAnswered : Type 0
RequestRepeatsAreAnswered = (state : ServerRequest) (now : ℕ)
    → RequestHasAnswer state now → (requests.row state now Repeated).1 ≡ SendAgain

-- Before what is due next, time changes nothing.
-- Ruled out: a refusal that is sent a millisecond early; an end before Timer I or J; a limit that comes nearer.
abbrev pub InviteRests : Type 0
InviteRests = (state : ServerInvite) (now due : ℕ) → invites.next_due state ≡ Some due
    → now < due → invites.row state now TimePassed ≡ (state, Nothing)

abbrev pub RequestRests : Type 0
RequestRests = (state : ServerRequest) (now due : ℕ) → requests.next_due state ≡ Some due
    → now < due → requests.row state now TimePassed ≡ (state, Nothing)
