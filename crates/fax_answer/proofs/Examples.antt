-- Calls worked through on the definitions: what a tick gives after these events, computed. The newest event stands first.
use Rattle.std.proofs.Common.{◌≡◌, ℕ, true, false, List, [], ◌∷◌, Option, Some, None, refl, replicate}
use Rattle.fax_runcodes.specs.declared.Width.TheVariants.{W1728}
use Rattle.fax_frames.specs.declared.writing.Plain.TheVariants.{Cfr, Ftt, Rtn, Dcn}
use Rattle.fax_frames.specs.Capabilities.{our_dis}
use Rattle.fax_frames.specs.Written.{written_plain, written_dis}
use Rattle.fax_pagestore.specs.Pages.{PageValue}
use Rattle.fax_ifp.specs.Pieces.{Piece, Frame, Start, Octets, End, Gap}
use Rattle.fax_ifp.specs.WrittenPackets.{written_after}
use Rattle.fax_answer.specs.Orders.{order_of}
use Rattle.fax_answer.specs.Replies.{WaitingPacket, silent, preamble, frame_packet, mcf_packet}
use Rattle.fax_answer.specs.Calls.{new_answering, rung, ticked, CallEvent, Comes, Ticks, after_events}

-- a page that an image is read as
page : PageValue
page = record { format = record { width = W1728; fine = false }; rows = [] }

-- what a tick gives in a call that was rung at 0
given_at : ℕ → List CallEvent → Option WaitingPacket
given_at now events = (ticked (after_events (rung (new_answering 40) 0) events) now).given

packet_of : Option WaitingPacket → Option (List ℕ)
packet_of None = None
packet_of (Some w) = Some w.packet

-- CED, the preamble and our DIS are given; a DCS comes, 2400 bits a second, standard, one-dimensional
begins : List CallEvent
begins = Comes (Frame (0xFF ∷ 0xC8 ∷ 0xC1 ∷ 0x00 ∷ 0x40 ∷ 0x00 ∷ [])) 80 None ∷ Ticks 80 ∷ Ticks 40 ∷ Ticks 0 ∷ []

-- a training check of 300 zero octets is confirmed, and the CFR is given
trains : List CallEvent
trains = Ticks 160 ∷ Ticks 120 ∷ Comes (End true) 80 None ∷ Comes (Octets (replicate 300 0)) 80 None ∷ Comes (Start 1) 80 None ∷ begins

-- an image, whole
image : List CallEvent
image = Comes (End true) 160 None ∷ Comes (Octets (0x00 ∷ 0x14 ∷ [])) 160 None ∷ Comes (Start 1) 160 None ∷ trains

eop : Piece
eop = Frame (0xFF ∷ 0xC8 ∷ 0xF4 ∷ [])

-- EOP after it, where the image means the page
confirmed : List CallEvent
confirmed = Ticks 200 ∷ Comes eop 160 (Some page) ∷ image

-- the training is confirmed by CFR
gives_cfr : packet_of (given_at 160 (Ticks 120 ∷ Comes (End true) 80 None ∷ Comes (Octets (replicate 300 0)) 80 None ∷ Comes (Start 1) 80 None ∷ begins)) ≡ Some (frame_packet (written_plain Cfr false))
unfolding given_at begins packet_of order_of written_after
gives_cfr = refl

-- and fails by FTT with 299 zero octets
gives_ftt : packet_of (given_at 160 (Ticks 120 ∷ Comes (End true) 80 None ∷ Comes (Octets (replicate 299 0)) 80 None ∷ Comes (Start 1) 80 None ∷ begins)) ≡ Some (frame_packet (written_plain Ftt false))
unfolding given_at begins packet_of order_of written_after
gives_ftt = refl

-- a page is confirmed by MCF
gives_mcf : given_at 240 confirmed ≡ Some (record { packet = mcf_packet; confirmed = Some (record { page = page; closes = true }) })
unfolding given_at confirmed image trains begins eop page order_of written_after
gives_mcf = refl

-- and refused by RTN where the image means none
gives_rtn : packet_of (given_at 240 (Ticks 200 ∷ Comes eop 160 None ∷ image)) ≡ Some (frame_packet (written_plain Rtn false))
unfolding given_at image trains begins eop packet_of order_of written_after
gives_rtn = refl

-- the command again is answered by MCF, with no page
repeats : given_at 320 (Ticks 280 ∷ Comes eop 240 None ∷ Ticks 240 ∷ confirmed) ≡ Some (silent mcf_packet)
unfolding given_at confirmed image trains begins eop page order_of written_after
repeats = refl

-- and after a missing slot by RTN
missing : packet_of (given_at 320 (Ticks 280 ∷ Comes eop 240 None ∷ Comes Gap 240 None ∷ Ticks 240 ∷ confirmed)) ≡ Some (frame_packet (written_plain Rtn false))
unfolding given_at confirmed image trains begins eop page packet_of order_of written_after
missing = refl

-- without a peer the DIS is given again when T4 is due, and no sooner
no_peer : packet_of (given_at 3079 (Ticks 80 ∷ Ticks 40 ∷ Ticks 0 ∷ [])) ≡ None
unfolding given_at packet_of written_after
no_peer = refl

again : packet_of (given_at 3080 (Ticks 80 ∷ Ticks 40 ∷ Ticks 0 ∷ [])) ≡ Some preamble
unfolding given_at packet_of written_after
again = refl

-- and DCN when T1 is
goodbye : packet_of (given_at 35040 (Ticks 35000 ∷ Ticks 80 ∷ Ticks 40 ∷ Ticks 0 ∷ [])) ≡ Some (frame_packet (written_plain Dcn false))
unfolding given_at packet_of written_after
goodbye = refl

-- AN EOM: the page is confirmed, and no job is closed
eom : Piece
eom = Frame (0xFF ∷ 0xC8 ∷ 0xF1 ∷ [])

turned : List CallEvent
turned = Ticks 240 ∷ Ticks 200 ∷ Comes eom 160 (Some page) ∷ image

confirms_eom : given_at 240 (Ticks 200 ∷ Comes eom 160 (Some page) ∷ image) ≡ Some (record { packet = mcf_packet; confirmed = Some (record { page = page; closes = false }) })
unfolding given_at image trains begins eom page order_of written_after
confirms_eom = refl

-- the EOM again is answered by MCF, with no page; after a missing slot by RTN, and after an image too
eom_again : given_at 320 (Ticks 280 ∷ Comes eom 240 None ∷ turned) ≡ Some (silent mcf_packet)
unfolding given_at turned image trains begins eom page order_of written_after
eom_again = refl

eom_after_a_gap : packet_of (given_at 320 (Ticks 280 ∷ Comes eom 240 None ∷ Comes Gap 240 None ∷ turned)) ≡ Some (frame_packet (written_plain Rtn false))
unfolding given_at turned image trains begins eom page packet_of order_of written_after
eom_after_a_gap = refl

eom_after_an_image : packet_of (given_at 320 (Ticks 280 ∷ Comes eom 240 (Some page) ∷ Comes (End true) 240 None ∷ Comes (Octets (0x00 ∷ [])) 240 None ∷ turned)) ≡ Some (frame_packet (written_plain Rtn false))
unfolding given_at turned image trains begins eom page packet_of order_of written_after
eom_after_an_image = refl

-- an EOP there is answered by RTN, and changes nothing: the EOM after it still gets MCF
eop_in_again : packet_of (given_at 320 (Ticks 280 ∷ Comes eop 240 None ∷ turned)) ≡ Some (frame_packet (written_plain Rtn false))
unfolding given_at turned image trains begins eom eop page packet_of order_of written_after
eop_in_again = refl

eom_after_eop : given_at 400 (Ticks 360 ∷ Comes eom 320 None ∷ Ticks 320 ∷ Ticks 280 ∷ Comes eop 240 None ∷ turned) ≡ Some (silent mcf_packet)
unfolding given_at turned image trains begins eom eop page order_of written_after
eom_after_eop = refl

-- six seconds after the MCF our DIS is given again, and no sooner
still_quiet : packet_of (given_at 6239 turned) ≡ None
unfolding given_at turned image trains begins eom page packet_of order_of written_after
still_quiet = refl

dis_anew : packet_of (given_at 6280 (Ticks 6240 ∷ turned)) ≡ Some (frame_packet (written_dis our_dis))
unfolding given_at turned image trains begins eom page packet_of order_of written_after
dis_anew = refl

-- a DCS, now fine, a training check, an image and EOP: this page closes the job
trains_anew : List CallEvent
trains_anew =
    Ticks 6360 ∷ Ticks 6320 ∷ Comes (End true) 6280 None ∷ Comes (Octets (replicate 300 0)) 6280 None ∷ Comes (Start 1) 6280 None
    ∷ Comes (Frame (0xFF ∷ 0xC8 ∷ 0xC1 ∷ 0x00 ∷ 0x42 ∷ 0x00 ∷ [])) 6280 None ∷ Ticks 6280 ∷ Ticks 6240 ∷ turned

fine_page : PageValue
fine_page = record { format = record { width = W1728; fine = true }; rows = [] }

confirms_anew : given_at 6440 (Ticks 6400 ∷ Comes eop 6360 (Some fine_page) ∷ Comes (End true) 6360 None ∷ Comes (Octets (0x00 ∷ 0x14 ∷ [])) 6360 None ∷ Comes (Start 1) 6360 None ∷ trains_anew)
    ≡ Some (record { packet = mcf_packet; confirmed = Some (record { page = fine_page; closes = true }) })
unfolding given_at trains_anew turned image trains begins eom eop page fine_page order_of written_after
confirms_anew = refl
