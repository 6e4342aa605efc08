-- What a control word comes to, and how it is answered (this project's profile).
use Rattle.std.specs.Prelude.{ℕ, Bool, true, false, not, ◌&&◌, Option, Some, None, is_some, Ok, Err}
use Rattle.fax_control.specs.declared.refusal.Refusal.{Refusal}
use Rattle.fax_control.specs.declared.refusal.Refusal.TheVariants as refusal
use Rattle.fax_gateway.specs.declared.fault.PlaceFault.TheVariants as place
use Rattle.fax_gateway.specs.declared.fault.RingFault.TheVariants as ring
use Rattle.fax_gateway.specs.declared.leg.Leg.{Leg}
use Rattle.fax_gateway.specs.declared.leg.Leg.TheVariants as legs
use Rattle.fax_line.specs.declared.asked.LineAnswer.{LineAnswer}
use Rattle.fax_line.specs.declared.asked.LineAnswer.TheVariants as answered
use Rattle.fax_line.specs.declared.asked.LineRequest.TheVariants as asked
use Rattle.fax_wires.specs.declared.repeat.peers.Bounds.{Bounds}
use Rattle.fax_desk.specs.declared.next.Ask.{Ask}
use Rattle.fax_desk.specs.declared.next.Ask.TheVariants as ask
use Rattle.fax_desk.specs.declared.next.Next.{Next}
use Rattle.fax_desk.specs.declared.next.Next.TheVariants as next
use Rattle.fax_desk.specs.declared.next.Note.{Note}
use Rattle.fax_desk.specs.declared.next.Note.TheVariants as note
use Rattle.fax_desk.specs.declared.next.Order.{Order}
use Rattle.fax_desk.specs.declared.next.PeerAsk.{PeerAsk}
use Rattle.fax_desk.specs.declared.next.Reply.{Reply}
use Rattle.fax_desk.specs.declared.next.Reply.TheVariants as reply
use Rattle.fax_desk.specs.declared.questions.Cause.{Cause}
use Rattle.fax_desk.specs.declared.questions.Cause.TheVariants as cause
use Rattle.fax_desk.specs.declared.questions.Question.{Question}
use Rattle.fax_desk.specs.declared.view.AskedView.{AskedView}
use Rattle.fax_desk.specs.declared.view.FirstJob.{FirstJob}
use Rattle.fax_desk.specs.declared.view.LegView.{LegView}
use Rattle.fax_desk.specs.declared.view.LineView.{LineView}

abbrev pub refuses : Refusal → Next
refuses why = next.Replies (reply.Refused (record { why = why }))

abbrev pub orders_if : Bool → Refusal → Order → Next
orders_if true why order = next.Orders order
orders_if false why order = refuses why

-- ---- the orders

-- a ring of any line forgets the peer of the call before
abbrev pub ring_order : ℕ → Bool → Bounds → Note → Order
ring_order i forgets bounds kept = record {
  line = i;
  what = asked.Ring (record { bounds = bounds; forgets_peer = forgets });
  note = kept;
}

abbrev pub peer_order : ℕ → PeerAsk → Order
peer_order i said = record {
  line = i;
  what = asked.Peer (record { leg = said.leg; peer = said.peer });
  note = note.Nothing;
}

abbrev pub connect_order : ℕ → PeerAsk → FirstJob → AskedView → Order
connect_order i said first job = record {
  line = i;
  what = asked.Connect (record {
    peer = said.peer;
  });
  note = note.Connect (record { call = job.call; first = first });
}

abbrev pub refusal_order : ℕ → Cause → Order
refusal_order i why = record { line = i; what = asked.NotConnected; note = note.Refuse why }

abbrev pub hang_up_order : ℕ → Leg → Order
hang_up_order i leg =
    record { line = i; what = asked.HangUp (record { leg = leg }); note = note.Nothing }

-- ---- what a line is

-- the call of a job is on: the called leg has a peer
abbrev pub is_connected : LineView → Bool
is_connected line = is_some line.sending && line.called.has_peer

-- the call of a leg is on
abbrev pub is_on : Leg → LineView → Bool
is_on legs.Calling line = is_some line.call
is_on legs.Called line = is_connected line

-- the job whose call the line asks for, where clients were told so
abbrev pub job_asked : Option Question → LineView → Option AskedView
job_asked None line = None
job_asked (Some question) line = line.asked

-- a leg takes a peer, but where its call is on, was heard, and its peer has not moved
abbrev pub takes_peer : Bool → LegView → Bool → Bool
takes_peer has_call leg is_moved = not (has_call && leg.is_heard && not is_moved)

-- ---- WHAT IS ASKED OF LINE i, which is so, where this question of it is open, comes to this

abbrev pub peer_if : Bool → ℕ → LineView → PeerAsk → Next
peer_if true i line peer =
    orders_if (takes_peer true line.called peer.is_moved) refusal.InCall (peer_order i peer)
peer_if false i line peer = refuses refusal.NoCall

-- A peer of the called leg: the configuration's stays; where the call of a job is asked for, that begins; else a call is on.
abbrev pub called_peer : Bool → Option AskedView → ℕ → LineView → PeerAsk → Next
called_peer true job i line peer = refuses refusal.Fixed
called_peer false (Some job) i line peer = next.Orders (connect_order i peer line.first job)
called_peer false None i line peer = peer_if (is_connected line) i line peer

abbrev pub peer_of : Leg → Option Question → ℕ → LineView → PeerAsk → Next
peer_of legs.Calling question i line peer = orders_if
    (takes_peer (is_some line.call) line.calling peer.is_moved) refusal.InCall (peer_order i peer)
peer_of legs.Called question i line peer =
    called_peer line.called.is_fixed (job_asked question line) i line peer

abbrev pub refuse_of : Option AskedView → ℕ → Cause → Next
refuse_of None i why = refuses refusal.NoCall
refuse_of (Some job) i why = next.Orders (refusal_order i why)

abbrev pub next_of : Option Question → ℕ → LineView → Ask → Next
next_of question i line (ask.Ring rung) = orders_if
    line.calling.has_peer refusal.NoPeer (ring_order i false rung.bounds (note.Ring rung.tag))
next_of question i line (ask.Peer peer) = peer_of peer.leg question i line peer
next_of question i line (ask.Refuse why) = refuse_of (job_asked question line) i (cause.Said why)
next_of question i line (ask.HangUp gone) =
    orders_if (is_on gone.leg line) refusal.NoCall (hang_up_order i gone.leg)
next_of question i line ask.Report = next.Reports i
next_of question i line ask.Frames = next.Frames i

-- ---- HOW A WORD IS ANSWERED whose order its line answered so; none: there is no such line

abbrev pub rung_reply : Note → ℕ → ℕ → Reply
rung_reply note.Nothing line call = reply.Rung call
rung_reply (note.Ring tag) line call = reply.Rung call
rung_reply (note.RingAny tag) line call = reply.RungOn (record { line = line; call = call })
rung_reply (note.Connect job) line call = reply.Rung call
rung_reply (note.Refuse why) line call = reply.Rung call

abbrev pub refused : Refusal → Reply
refused why = reply.Refused (record { why = why })

abbrev pub reply_to : Order → Option LineAnswer → Reply
reply_to order None = refused refusal.NoLine
reply_to order (Some (answered.Rung (Ok call))) = rung_reply order.note order.line call
reply_to order (Some (answered.Rung (Err ring.Busy))) = refused refusal.Busy
reply_to order (Some (answered.Rung (Err ring.NoNumber))) = refused refusal.NoNumber
reply_to order (Some (answered.Rung (Err ring.NoMemory))) = refused refusal.NoMemory
reply_to order (Some (answered.Placed (Ok done))) = reply.Done
reply_to order (Some (answered.Placed (Err place.NotAsked))) = refused refusal.NoCall
reply_to order (Some (answered.Placed (Err place.NoMemory))) = refused refusal.NoMemory
reply_to order (Some answered.NoRoute) = refused refusal.NoRoute
reply_to order (Some answered.Done) = reply.Done
