-- What is said in a word, and what waits after it (this project's profile).
use Rattle.std.specs.Prelude.{ℕ, ◌+◌, ◌-◌, ◌^◌, min, Bool, List, Option, Some, None, option_map}
use Rattle.std.specs.declared.net.socket_addr.SocketAddr.{SocketAddr}
use Rattle.fax_control.specs.declared.word.Bounds.{Bounds as SaidBounds}
use Rattle.fax_gateway.specs.declared.leg.Leg.{Leg}
use Rattle.fax_gateway.specs.declared.leg.Leg.TheVariants as legs
use Rattle.fax_wires.specs.declared.repeat.peers.Bounds.{Bounds}
use Rattle.fax_desk.specs.declared.desk.LookOutcome.{LookOutcome}
use Rattle.fax_desk.specs.declared.desk.LookOutcome.TheVariants as looked
use Rattle.fax_desk.specs.declared.desk.Waits.{Waits}
use Rattle.fax_desk.specs.declared.next.Next.{Next}
use Rattle.fax_desk.specs.declared.next.Next.TheVariants as next
use Rattle.fax_desk.specs.declared.next.Note.{Note}
use Rattle.fax_desk.specs.declared.next.Note.TheVariants as note
use Rattle.fax_desk.specs.declared.next.PeerAsk.{PeerAsk}
use Rattle.fax_desk.specs.declared.tag.Tag.{Tag}
use Rattle.fax_desk.specs.declared.told.LineEvent.{LineEvent}
use Rattle.fax_desk.specs.declared.told.LineEvent.TheVariants as happened
use Rattle.fax_desk.specs.Tags.{tag_of_text}

abbrev pub bounds_of : SaidBounds → Bounds
bounds_of said = record { redundancy = said.redundancy; octets = said.octets }

-- the tag of a ring that says one or none; none: it is too long
abbrev pub tag_said : Option (List ℕ) → Option (Option Tag)
tag_said None = Some None
tag_said (Some text) = option_map (λ tag. Some tag) (tag_of_text text)

abbrev pub peer_with : Leg → Option SocketAddr → SaidBounds → Bool → PeerAsk
peer_with at address bounds is_moved = record {
  leg = at;
  peer = record { address = address; bounds = bounds_of bounds };
  is_moved = is_moved;
}

-- the peer that is said; none: any, of a called leg
abbrev pub peer_said : Leg → Option SocketAddr → SaidBounds → Bool → Option PeerAsk
peer_said legs.Calling address bounds is_moved =
    Some (peer_with legs.Calling address bounds is_moved)
peer_said legs.Called None bounds is_moved = None
peer_said legs.Called (Some address) bounds is_moved =
    Some (peer_with legs.Called (Some address) bounds is_moved)

-- Where a word gives an order, who asked waits for its end; no one else does. An asker is known by its place.
abbrev pub waits_if : ℕ → Next → Option Waits
waits_if asker (next.Orders order) = Some (record { asker = Some asker; order = order })
waits_if asker (next.Replies reply) = None
waits_if asker (next.Reports line) = None
waits_if asker next.Undelivered = None
waits_if asker next.Discards = None
waits_if asker next.Retries = None
waits_if asker next.Status = None
waits_if asker next.Metrics = None
waits_if asker next.Events = None
waits_if asker (next.Frames line) = None
waits_if asker next.Reloads = None

-- the end of an order that nobody asked for is waited for by nobody
abbrev pub unasked_if : LookOutcome → Option Waits
unasked_if looked.Nothing = None
unasked_if (looked.Asks asked) = None
unasked_if (looked.Orders order) = Some (record { asker = None; order = order })

-- the line from which on any is looked for: after the one that was taken last
abbrev pub any_from : ℕ → ℕ → Note → ℕ
any_from from line (note.RingAny tag) = min (line + 1) (2 ^ 64 - 1)
any_from from line note.Nothing = from
any_from from line (note.Ring tag) = from
any_from from line (note.Connect job) = from
any_from from line (note.Refuse why) = from

abbrev pub any_after : ℕ → Next → ℕ
any_after from (next.Orders order) = any_from from order.line order.note
any_after from (next.Replies reply) = from
any_after from (next.Reports line) = from
any_after from next.Undelivered = from
any_after from next.Discards = from
any_after from next.Retries = from
any_after from next.Status = from
any_after from next.Metrics = from
any_after from next.Events = from
any_after from (next.Frames line) = from
any_after from next.Reloads = from

-- a call was rung, with the tag that was said
abbrev pub rung_happened : Note → ℕ → Option LineEvent
rung_happened (note.Ring tag) call = Some (happened.Rung (record { call = call; tag = tag }))
rung_happened (note.RingAny tag) call = Some (happened.Rung (record { call = call; tag = tag }))
rung_happened note.Nothing call = Some (happened.Rung (record { call = call; tag = None }))
rung_happened (note.Connect job) call = Some (happened.Rung (record { call = call; tag = None }))
rung_happened (note.Refuse why) call = Some (happened.Rung (record { call = call; tag = None }))
