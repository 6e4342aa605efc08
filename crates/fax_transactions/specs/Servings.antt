-- A server transaction with the octets of its last answer (RFC 3261, 17.2).
use Rattle.std.specs.Prelude.{ℕ, List, Option}
use Rattle.fax_transactions.specs.declared.server.ServerAction.{ServerAction}
use Rattle.fax_transactions.specs.declared.server.ServerEvent.{ServerEvent}
use Rattle.fax_transactions.specs.declared.serving.Server.{Server}
use Rattle.fax_transactions.specs.declared.serving.Server.TheVariants.{Invite, Request}
use Rattle.fax_transactions.specs.ServerInvites as invites
use Rattle.fax_transactions.specs.ServerRequests as requests

pub record ServingValue : Type 0 where
  pub server : Server
  pub answer : List ℕ

abbrev pub begun_by_invite : ℕ → Server
begun_by_invite limit = Invite (invites.begun limit)

abbrev pub begun_by_request : ℕ → Server
begun_by_request limit = Request (requests.begun limit)

-- what happens at a moment: the next state, and what is to be done
abbrev pub served : Server → ℕ → ServerEvent → Server × ServerAction
served (Invite state) now event =
    (Invite (invites.row state now event).0, (invites.row state now event).1)
served (Request state) now event =
    (Request (requests.row state now event).0, (requests.row state now event).1)

abbrev pub due_of : Server → Option ℕ
due_of (Invite state) = invites.next_due state
due_of (Request state) = requests.next_due state
