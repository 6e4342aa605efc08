-- What is given on the calling leg fits a datagram; a frame MCF is read back from it exactly where the MCF packet is given, and
-- a frame RTN only where the RTN packet is.
use Rattle.std.proofs.Common.{◌≡◌, ℕ, ◌≤◌, ◌⊎◌, inl, inr, Bool, true, false, List, [], ◌∷◌, length, Option, Some, None, Result, Ok, Err, refl, sym, ◌∙◌, ap, arith, if◌then◌else◌}
use Rattle.fax_frames.specs.declared.writing.Plain.{Plain}
use Rattle.fax_frames.specs.declared.writing.Plain.TheVariants as plain
use Rattle.fax_frames.specs.Written.{written_plain}
use Rattle.fax_udptl.specs.declared.fault.UdptlFault.{UdptlFault}
use Rattle.fax_udptl.specs.Datagrams.{DatagramValue, datagram_of}
use Rattle.fax_udptl.specs.Sending.{AreShort}
use Rattle.fax_ifp.specs.Elements as elements
use Rattle.fax_bits.specs.Bits as bits
use Rattle.fax_ifp.specs.Packets as packets
use Rattle.fax_ifp.specs.Packets.{packet_of, fields_at}
use Rattle.fax_ifp.specs.Pieces as pieces
use Rattle.fax_ifp.specs.WrittenPackets.{written_after}
use Rattle.fax_answer.specs.History.{Decision, PassesOver, Trains, HangsUp, GivesCfr, GivesFtt, GivesMcf, GivesRtn}
use Rattle.fax_answer.specs.Table.{Reading}
use Rattle.fax_answer.specs.Replies.{ConfirmedPage, WaitingPacket, silent, called_tone, preamble, frame_packet, mcf_packet, reply_to, plain_reply}
use Rattle.fax_answer.specs.Calls.{AnswererCore, rung, dis_reply, ticked, CallEvent, Comes, after_events}
use Rattle.fax_answer.specs.Readings.{comes_all}
use Rattle.fax_call.specs.Emission.{ended_frame}
use Rattle.fax_gateway.specs.Setups.{Setup}
use Rattle.fax_gateway.specs.Events.{Event, Ring, FromCalling, FromCalled, Tick, Placed, clock}
use Rattle.fax_gateway.specs.Legs.{new_pieces}
use Rattle.fax_gateway.specs.CallingLegs.{CallingLeg, core_of, is_idle, answers, rung_leg, leg_with, packets_with, calling_after, calling_leg, told_by}
use Rattle.fax_answer.specs.EachRtn.{rtn_packet}
use Rattle.fax_gateway.specs.Told.{has_mcf, gives_mcf, has_rtn, gives_rtn}
use Rattle.fax_answer.proofs.EachReply.{Each, EachTick, IfGiven, OfReplies, came_each, ticked_each}
use Rattle.fax_gateway.proofs.Fitting.{told_back}

abbrev pub mcf_in : List ℕ → Bool
mcf_in packet = has_mcf [] (elements.elements_in (packet_of packet))

abbrev pub rtn_in : List ℕ → Bool
rtn_in packet = has_rtn [] (elements.elements_in (packet_of packet))

pub record IsNeat (w : WaitingPacket) : Type 0 where
  pub short : length w.packet ≤ 16383
  pub only : (mcf_in w.packet ≡ false) ⊎ (w.packet ≡ mcf_packet)
  pub rtn : (rtn_in w.packet ≡ false) ⊎ (w.packet ≡ rtn_packet)

tone_neat : IsNeat (silent called_tone)
unfolding packet_of bits.bit packets.fields_after
tone_neat = record { short = omega arith; only = inl refl; rtn = inl refl }

preamble_neat : IsNeat (silent preamble)
unfolding packet_of bits.bit packets.fields_after
preamble_neat = record { short = omega arith; only = inl refl; rtn = inl refl }

dis_neat : Each IsNeat dis_reply
unfolding written_after fields_at ended_frame packet_of bits.bit packets.fields_after packets.field_at packets.octets_at
dis_neat = (preamble_neat, (record { short = omega arith; only = inl refl; rtn = inl refl }, tt))

plain_only : (p : Plain) → (mcf_in (frame_packet (written_plain p false)) ≡ false) ⊎ (frame_packet (written_plain p false) ≡ mcf_packet)
unfolding written_after fields_at ended_frame packet_of bits.bit packets.fields_after packets.field_at packets.octets_at
plain_only plain.Cfr = inl refl
plain_only plain.Ftt = inl refl
plain_only plain.Eom = inl refl
plain_only plain.Mps = inl refl
plain_only plain.Eop = inl refl
plain_only plain.Mcf = inr refl
plain_only plain.Rtn = inl refl
plain_only plain.Dcn = inl refl

plain_rtn : (p : Plain) → (rtn_in (frame_packet (written_plain p false)) ≡ false) ⊎ (frame_packet (written_plain p false) ≡ rtn_packet)
unfolding written_after fields_at ended_frame packet_of bits.bit packets.fields_after packets.field_at packets.octets_at
plain_rtn plain.Cfr = inl refl
plain_rtn plain.Ftt = inl refl
plain_rtn plain.Eom = inl refl
plain_rtn plain.Mps = inl refl
plain_rtn plain.Eop = inl refl
plain_rtn plain.Mcf = inl refl
plain_rtn plain.Rtn = inr refl
plain_rtn plain.Dcn = inl refl

plain_short : (p : Plain) → length (frame_packet (written_plain p false)) ≤ 16383
unfolding written_after
plain_short p = omega arith

plain_neat : (p : Plain) (confirmed : Option ConfirmedPage) → Each IsNeat (plain_reply p confirmed)
plain_neat p confirmed = (preamble_neat, (record { short = plain_short p; only = plain_only p; rtn = plain_rtn p }, tt))

reply_neat : (d : Decision) → Each IsNeat (reply_to d)
reply_neat PassesOver = tt
reply_neat (Trains dcs) = tt
reply_neat HangsUp = tt
reply_neat (GivesCfr dcs) = plain_neat plain.Cfr None
reply_neat GivesFtt = plain_neat plain.Ftt None
reply_neat (GivesMcf command page) = plain_neat plain.Mcf _
reply_neat GivesRtn = plain_neat plain.Rtn None

replies_neat : OfReplies IsNeat
replies_neat = record { tone = tone_neat; dis = dis_neat; goodbye = plain_neat plain.Dcn None; reply = reply_neat }

pub ticked_neat : (a : AnswererCore) (now : ℕ) → Each IsNeat a.waiting → EachTick IsNeat (ticked a now)
ticked_neat a now h = ticked_each IsNeat replies_neat a now h

-- the calling leg
pub record NeatLeg (l : CallingLeg) : Type 0 where
  pub core : Each IsNeat (core_of l).waiting
  pub short : AreShort l.given

abbrev pub IfNeat : Option CallingLeg → Type 0
IfNeat None = Unit {0}
IfNeat (Some l) = NeatLeg l

short_with : (o : Option WaitingPacket) (given : List (List ℕ)) → IfGiven IsNeat o → AreShort given → AreShort (packets_with o given)
short_with None given n s = s
short_with (Some w) given n s = (n.short, s)

comes_neat : (a : AnswererCore) (ps : List pieces.Piece) (now : ℕ) (read : Reading) (events : List CallEvent) → Each IsNeat (after_events a events).waiting → Each IsNeat (after_events a (comes_all ps now read events)).waiting
comes_neat a [] now read events h = h
comes_neat a (p ∷ ps) now read events h = comes_neat a ps now read (Comes p now read ∷ events) (came_each IsNeat replies_neat read (after_events a events) p now h)

rung_neat : (before : AnswererCore) (now number : ℕ) → NeatLeg (rung_leg before now number)
rung_neat before now number = record { core = (tone_neat, dis_neat); short = tt }

with_neat : (l : CallingLeg) (now : ℕ) (read : Reading) (r : Result DatagramValue UdptlFault) → NeatLeg l → NeatLeg (leg_with l now read r)
with_neat l now read (Err f) n = n
with_neat l now read (Ok d) n = record { core = comes_neat (rung l.before l.begun) (new_pieces l.arrived d) now read l.events n.core; short = n.short }

step_neat : (setup : Setup) (o : Option CallingLeg) (now : ℕ) (e : Event) → IfNeat o → IfNeat (calling_after setup o now e)
step_neat setup None now (Ring at number) n = rung_neat _ now number
step_neat setup None now (FromCalling octets at decided read) n = tt
step_neat setup None now (FromCalled octets at decided) n = tt
step_neat setup None now (Placed at connected) n = tt
step_neat setup None now (Tick at given) n = tt
step_neat setup (Some l) now (Ring at number) n = rung_neat (core_of l) now number
step_neat setup (Some l) now (FromCalling octets at decided read) n = by (is_idle (core_of l).state)
  where
    by : (t : Bool) → IfNeat (if t then Some l else Some (leg_with l now read (datagram_of octets)))
    by true = n
    by false = with_neat l now read (datagram_of octets) n
step_neat setup (Some l) now (FromCalled octets at decided) n = n
step_neat setup (Some l) now (Placed at connected) n = n
step_neat setup (Some l) now (Tick at given) n =
    let t : EachTick IsNeat (answers l now) = ticked_neat (core_of l) now n.core in
    record { core = t.core; short = short_with (answers l now).given l.given t.given n.short }

pub neat_of : (setup : Setup) (trace : List Event) → IfNeat (calling_leg setup trace)
neat_of setup [] = tt
neat_of setup (e ∷ earlier) = step_neat setup (calling_leg setup earlier) (clock (e ∷ earlier)) e (neat_of setup earlier)

-- the packet of the frame MCF gives it
is_mcf : mcf_in mcf_packet ≡ true
unfolding written_after fields_at ended_frame packet_of bits.bit packets.fields_after packets.field_at packets.octets_at
is_mcf = refl

pub told_mcf : (setup : Setup) (given : List (List ℕ)) (o : Option WaitingPacket) (w : WaitingPacket) → AreShort given → IfGiven IsNeat o → o ≡ Some w → w.packet ≡ mcf_packet → gives_mcf (told_by setup given o) ≡ true
told_mcf setup given None w s n is e = cc
told_mcf setup given (Some v) w s n is e =
    let same : v ≡ w = cc in
    ap (has_mcf []) (told_back setup given v.packet s n.short) ∙ ap mcf_in (ap (λ (x : WaitingPacket). x.packet) same ∙ e) ∙ is_mcf

-- and no other packet does
pub mcf_only : (setup : Setup) (given : List (List ℕ)) (o : Option WaitingPacket) → AreShort given → IfGiven IsNeat o → gives_mcf (told_by setup given o) ≡ true → (w : WaitingPacket) × (o ≡ Some w) × (w.packet ≡ mcf_packet)
mcf_only setup given None s n h = cc
mcf_only setup given (Some w) s n h = (w, refl, by n.only)
  where
    by : (mcf_in w.packet ≡ false) ⊎ (w.packet ≡ mcf_packet) → w.packet ≡ mcf_packet
    by (inl f) = let q : true ≡ false = sym h ∙ (ap (has_mcf []) (told_back setup given w.packet s n.short) ∙ f) in cc
    by (inr e) = e

-- the same of the frame RTN, which has no MCF
pub rtn_only : (setup : Setup) (given : List (List ℕ)) (o : Option WaitingPacket) → AreShort given → IfGiven IsNeat o → gives_rtn (told_by setup given o) ≡ true → (w : WaitingPacket) × (o ≡ Some w) × (w.packet ≡ rtn_packet)
rtn_only setup given None s n h = cc
rtn_only setup given (Some w) s n h = (w, refl, by n.rtn)
  where
    by : (rtn_in w.packet ≡ false) ⊎ (w.packet ≡ rtn_packet) → w.packet ≡ rtn_packet
    by (inl f) = let q : true ≡ false = sym h ∙ (ap (has_rtn []) (told_back setup given w.packet s n.short) ∙ f) in cc
    by (inr e) = e

rtn_has_no_mcf : mcf_in rtn_packet ≡ false
unfolding written_after fields_at ended_frame packet_of bits.bit packets.fields_after packets.field_at packets.octets_at
rtn_has_no_mcf = refl

pub rtn_is_no_mcf : (setup : Setup) (given : List (List ℕ)) (o : Option WaitingPacket) (w : WaitingPacket) → AreShort given → IfGiven IsNeat o → o ≡ Some w → w.packet ≡ rtn_packet → gives_mcf (told_by setup given o) ≡ false
rtn_is_no_mcf setup given None w s n is e = cc
rtn_is_no_mcf setup given (Some v) w s n is e =
    let same : v ≡ w = cc in
    ap (has_mcf []) (told_back setup given v.packet s n.short) ∙ ap mcf_in (ap (λ (x : WaitingPacket). x.packet) same ∙ e) ∙ rtn_has_no_mcf
