-- What the octets of an answer say, read by the grammars that read what comes.
use Rattle.std.specs.Prelude.{ℕ, Bool, true, false, ◌||◌, List, [], ◌∷◌, Option, Some, None, Result, Ok, Err, if◌then◌else◌}
use Rattle.fax_udptl.specs.declared.fault.UdptlFault.{UdptlFault}
use Rattle.fax_udptl.specs.Datagrams.{DatagramValue, datagram_of}
use Rattle.fax_frames.specs.declared.frame.Frame.{Frame}
use Rattle.fax_frames.specs.declared.frame.Frame.TheVariants as frames
use Rattle.fax_ifp.specs.Elements as elements
use Rattle.fax_ifp.specs.Packets.{packet_of}
use Rattle.fax_ifp.specs.Pieces.{Piece}
use Rattle.fax_jobs.specs.Jobs.{JobValue}
use Rattle.fax_call.specs.Writings.{Writing}
use Rattle.fax_call.specs.Delivery.{is_over}
use Rattle.fax_call.specs.Emission.{Emission, emitted_at, frame_at, Mark, Gave, Begins, gave_all, elements_given, marks_heard}
use Rattle.fax_gateway.specs.Setups.{Setup}
use Rattle.fax_gateway.specs.Events.{Event, Ring, FromCalling, FromCalled, Tick, Placed}
use Rattle.fax_gateway.specs.Legs.{new_pieces}
use Rattle.fax_gateway.specs.CalledLegs.{CalledLeg, core_of}
use Rattle.fax_gateway.specs.BothLegs.{begins_next, book_of, both_legs, in_tick}

-- the elements of the packet that a datagram has first; a datagram that cannot be read is missing
abbrev pub elements_read : Result DatagramValue UdptlFault → List elements.Element
elements_read (Ok d) = elements.elements_in (packet_of d.primary)
elements_read (Err fault) = elements.Missing ∷ []

abbrev pub elements_told : Option (List ℕ) → List elements.Element
elements_told None = []
elements_told (Some octets) = elements_read (datagram_of octets)

-- whether a datagram has the frame MCF
abbrev pub is_mcf : Option Frame → Bool
is_mcf (Some frames.Mcf) = true
is_mcf frame = false

abbrev pub has_mcf : List elements.Element → List elements.Element → Bool
has_mcf before [] = false
has_mcf before (e ∷ es) = is_mcf (frame_at before e) || has_mcf (e ∷ before) es

abbrev pub gives_mcf : Option (List ℕ) → Bool
gives_mcf told = has_mcf [] (elements_told told)

-- whether it has the frame RTN
abbrev pub is_rtn : Option Frame → Bool
is_rtn (Some frames.Rtn) = true
is_rtn frame = false

abbrev pub has_rtn : List elements.Element → List elements.Element → Bool
has_rtn before [] = false
has_rtn before (e ∷ es) = is_rtn (frame_at before e) || has_rtn (e ∷ before) es

abbrev pub gives_rtn : Option (List ℕ) → Bool
gives_rtn told = has_rtn [] (elements_told told)

-- What the called leg heard and gave, over all its calls, and where they began: what it gave is read off the answers.
abbrev pub heard_all : List Piece → List Mark → List Mark
heard_all [] marks = marks
heard_all (piece ∷ more) marks = heard_all more (marks_heard piece marks)

abbrev pub heard_with : CalledLeg → Result DatagramValue UdptlFault → List Mark → List Mark
heard_with l (Ok d) marks = heard_all (new_pieces l.arrived d) marks
heard_with l (Err fault) marks = marks

abbrev pub heard_by : Writing → Option CalledLeg → List ℕ → List Mark → List Mark
heard_by writes None octets marks = marks
heard_by writes (Some l) octets marks =
    if is_over (core_of writes l).state then marks else heard_with l (datagram_of octets) marks

-- a call begins in a tick that begins the next one, or where it is placed, where no job was being sent and one is
abbrev pub begun_if : (begins : Bool) → Option JobValue → List Mark → List Mark
begun_if true (Some job) marks = Begins ∷ marks
begun_if begins sending marks = marks

-- what stands before that which a tick gives
abbrev pub marks_before : Setup → Writing → List Event → ℕ → List Mark → List Mark
marks_before setup writes earlier at marks =
    begun_if (begins_next setup (both_legs setup writes earlier).leg)
    (book_of (in_tick setup writes earlier at)).sending marks

abbrev pub leg_marks : Setup → Writing → List Event → List Mark
leg_marks setup writes [] = []
leg_marks setup writes (Ring at number ∷ earlier) = leg_marks setup writes earlier
leg_marks setup writes (FromCalling octets at decided read ∷ earlier) =
    leg_marks setup writes earlier
leg_marks setup writes (FromCalled octets at decided ∷ earlier) =
    heard_by writes (both_legs setup writes earlier).leg octets (leg_marks setup writes earlier)
leg_marks setup writes (Tick at given ∷ earlier) = gave_all (elements_told given.on_called)
    (marks_before setup writes earlier at (leg_marks setup writes earlier))
leg_marks setup writes (Placed at connected ∷ earlier) =
    begun_if true (book_of (both_legs setup writes (Placed at connected
    ∷ earlier))).sending (leg_marks setup writes earlier)

-- what holds of each image that these elements end, by what stood before its end
abbrev pub IfEmits : (List Mark → Emission → Type 0) → List Mark → Option Emission → Type 0
IfEmits P marks None = Unit {0}
IfEmits P marks (Some emission) = P marks emission

abbrev pub EachEmission : (List Mark → Emission → Type 0)
    → List Mark → List elements.Element → Type 0
EachEmission P marks [] = Unit {0}
EachEmission P marks (e ∷ es) =
    IfEmits P marks (emitted_at (elements_given marks) e) × EachEmission P (Gave e ∷ marks) es
