-- What is given on the called leg fits a datagram, and is read back from it.
use Rattle.std.proofs.Common.{◌≡◌, ℕ, zero, suc, ◌+◌, ◌/◌, ◌%◌, ◌<◌, ◌≤◌, Bool, true, false, nat_le, List, [], ◌∷◌, ◌++◌, length, take, drop, Option, Some, None, Ok, refl, ap, arith, if◌then◌else◌, length-take}
use Rattle.std.proofs.lemmas.List.{append-nil}
use Rattle.fax_frames.specs.declared.dcs.Dcs.{Dcs}
use Rattle.fax_frames.specs.declared.rate.Rate.{Rate}
use Rattle.fax_frames.specs.declared.rate.Rate.TheVariants.{V27At2400, V27At4800, V29At7200, V29At9600, V17At7200, V17At9600, V17At12000, V17At14400}
use Rattle.fax_frames.specs.declared.writing.Plain.{Plain}
use Rattle.fax_frames.specs.Rates.{bits_a_second, kind_of}
use Rattle.fax_timers.specs.Paces.{pace_allows}
use Rattle.fax_udptl.specs.Datagrams.{datagram_of}
use Rattle.fax_udptl.specs.Sending.{AreShort, datagram_for}
use Rattle.fax_udptl.proofs.WrittenLemmas.{datagram_back}
use Rattle.fax_ifp.specs.Elements as elements
use Rattle.fax_ifp.specs.Packets.{packet_of}
use Rattle.fax_ifp.specs.WrittenPackets.{written_after}
use Rattle.fax_jobs.specs.Jobs.{JobValue}
use Rattle.fax_call.specs.Writings.{Writing}
use Rattle.fax_call.specs.Replies.{Packet, Part, written, Due, One, Text, parts_of, part_length, training_check, command_after, command}
use Rattle.fax_call.specs.Table.{Move, Stays, Trains, Sends, AsksAgain, Turns, Closes, HangsUp}
use Rattle.fax_call.specs.Calls.{CallerCore, moved, TakenPart, taken, taken_text, text_at, after_giving, given_first, paced, timed, TickResult, ticked}
use Rattle.fax_call.specs.Emission.{Mark, marks_given, gave_all}
use Rattle.fax_gateway.specs.Setups.{Setup}
use Rattle.fax_gateway.specs.Legs.{sent}
use Rattle.fax_gateway.specs.CalledLegs.{told_by, packets_given}
use Rattle.fax_gateway.specs.Told.{elements_read, elements_told}

-- a datagram that is sent is read back
short_take : (n : ℕ) (ps : List (List ℕ)) → AreShort ps → AreShort (take n ps)
short_take zero ps h = tt
short_take (suc n) [] h = tt
short_take (suc n) (p ∷ ps) h = (h.0, short_take n ps h.1)

few : (n : ℕ) (ps : List (List ℕ)) → n ≤ 8 → length (take n ps) ≤ 16383
few n ps h = grind (arith, length-take)

number_fits : (n : ℕ) → n % 65536 < 65536
number_fits n = omega arith

pub sent_back : (setup : Setup) (given : List (List ℕ)) (packet : List ℕ) → AreShort given → length packet ≤ 16383 → datagram_of (sent setup given packet) ≡ Ok (datagram_for setup.redundancy given packet)
sent_back setup given packet s p = datagram_back (datagram_for setup.redundancy given packet) (number_fits (length given)) p (short_take setup.redundancy given s) (few setup.redundancy given setup.few)

pub told_back : (setup : Setup) (given : List (List ℕ)) (packet : List ℕ) → AreShort given → length packet ≤ 16383 → elements_told (Some (sent setup given packet)) ≡ elements.elements_in (packet_of packet)
told_back setup given packet s p = ap elements_read (sent_back setup given packet s p)

-- what waits fits
abbrev pub IsFit : Due → Type 0
IsFit (One packet) = length (written packet) ≤ 16383
IsFit (Text page dcs from) = Unit {0}

abbrev pub AllFit : List Due → Type 0
AllFit [] = Unit {0}
AllFit (d ∷ due) = IsFit d × AllFit due

part_fits : (kind : ℕ) (last : Bool) (octets : List ℕ) → length octets ≤ 1000 → length (written (Part kind last octets)) ≤ 16383
unfolding written_after
part_fits kind last octets h = let e : length (octets ++ []) ≡ length octets = ap length (append-nil octets) in omega arith

le_if : (m n : ℕ) → nat_le m n ≡ true → m ≤ n
le_if m n h = grind (arith)

taken_le : (n : ℕ) (octets : List ℕ) → n ≤ 1000 → length (take n octets) ≤ 1000
taken_le n octets h = grind (arith, length-take)

parts_fit : (most kind n : ℕ) (octets : List ℕ) → n ≤ 1000 → AllFit (parts_of most kind n octets)
parts_fit zero kind n octets h = tt
parts_fit (suc most) kind n octets h = by (nat_le (length octets) n) refl (parts_fit most kind n (drop n octets) h)
  where
    by : (t : Bool) → nat_le (length octets) n ≡ t → AllFit (parts_of most kind n (drop n octets)) →
        AllFit (if t then One (Part kind true octets) ∷ [] else One (Part kind false (take n octets)) ∷ parts_of most kind n (drop n octets))
    by true e r = let l : length octets ≤ n = le_if (length octets) n e in (part_fits kind true octets (omega arith), tt)
    by false e r = (part_fits kind false (take n octets) (taken_le n octets h), r)

small : (rate : Rate) → bits_a_second rate / 200 ≤ 1000
small V27At2400 = omega arith
small V27At4800 = omega arith
small V29At7200 = omega arith
small V29At9600 = omega arith
small V17At7200 = omega arith
small V17At9600 = omega arith
small V17At12000 = omega arith
small V17At14400 = omega arith

check_fits : (dcs : Dcs) → AllFit (training_check dcs)
unfolding training_check
check_fits dcs = parts_fit _ (kind_of dcs.rate) (part_length dcs) _ (small dcs.rate)

command_fits : (plain : Plain) → AllFit (command plain)
unfolding written_after
command_fits plain = (omega arith, (omega arith, tt))

pub moved_fits : (a : CallerCore) (m : Move) → AllFit a.waiting → AllFit (moved a m).waiting
unfolding written_after
moved_fits a Stays h = h
moved_fits a (Trains dis dcs c) h = (omega arith, (omega arith, (omega arith, check_fits dcs)))
moved_fits a (Sends dis dcs c) h = (omega arith, (tt, command_fits (command_after a.formats a.pages c.page)))
moved_fits a (AsksAgain c) h = command_fits (command_after a.formats a.pages c.page)
moved_fits a (Turns format t1 c) h = tt
moved_fits a (Closes outcome c) h = (omega arith, (omega arith, tt))
moved_fits a HangsUp h = tt

abbrev pub FitGiven : Option Packet → Type 0
FitGiven None = Unit {0}
FitGiven (Some packet) = length (written packet) ≤ 16383

pub record FitTick (t : TickResult) : Type 0 where
  pub core : AllFit t.core.waiting
  pub given : FitGiven t.given

record FitTaken (t : TakenPart) : Type 0 where
  packet : length (written t.packet) ≤ 16383
  rest : AllFit t.rest

text_fits : (page : ℕ) (dcs : Dcs) (from : ℕ) (text : List ℕ) (due : List Due) → AllFit due → FitTaken (taken_text page dcs from text due)
text_fits page dcs from text due h = by (nat_le (length (drop from text)) (part_length dcs)) refl
  where
    by : (t : Bool) → nat_le (length (drop from text)) (part_length dcs) ≡ t →
        FitTaken (if◌then◌else◌ {A = TakenPart} t (record { packet = Part (kind_of dcs.rate) true (drop from text); rest = due }) (record { packet = Part (kind_of dcs.rate) false (take (part_length dcs) (drop from text)); rest = Text page dcs (from + part_length dcs) ∷ due }))
    by true e =
        let l : length (drop from text) ≤ part_length dcs = le_if (length (drop from text)) (part_length dcs) e in
        let k : part_length dcs ≤ 1000 = small dcs.rate in
        record { packet = part_fits (kind_of dcs.rate) true (drop from text) (omega arith); rest = h }
    by false e = record { packet = part_fits (kind_of dcs.rate) false (take (part_length dcs) (drop from text)) (taken_le (part_length dcs) (drop from text) (small dcs.rate)); rest = (tt, h) }

taken_fits : (writes : Writing) (job : JobValue) (d : Due) (due : List Due) → IsFit d → AllFit due → FitTaken (taken writes job d due)
taken_fits writes job (One p) due h k = record { packet = h; rest = k }
taken_fits writes job (Text n dcs from) due h k = text_fits n dcs from (text_at writes job n dcs) due k

after_fits : (a : CallerCore) (now : ℕ) (packet : Packet) (due : List Due) → AllFit due → AllFit (after_giving a now packet due).waiting
after_fits a now packet [] h = tt
after_fits a now packet (d ∷ due) h = h

first_fits : (writes : Writing) (job : JobValue) (a : CallerCore) (now : ℕ) (due : List Due) → AllFit a.waiting → AllFit due → FitTick (given_first writes job a now due)
first_fits writes job a now [] g h = record { core = g; given = tt }
first_fits writes job a now (d ∷ due) g h =
    let t : FitTaken (taken writes job d due) = taken_fits writes job d due h.0 h.1 in
    record { core = after_fits a now (taken writes job d due).packet (taken writes job d due).rest t.rest; given = t.packet }

paced_fits : (writes : Writing) (job : JobValue) (a : CallerCore) (now : ℕ) → AllFit a.waiting → FitTick (paced writes job a now)
paced_fits writes job a now h = by (pace_allows a.pace.last now)
  where
    by : (t : Bool) → FitTick (if◌then◌else◌ {A = TickResult} t (given_first writes job a now a.waiting) (record { core = a; given = None }))
    by true = first_fits writes job a now a.waiting h h
    by false = record { core = h; given = tt }

pub ticked_fits : (writes : Writing) (job : JobValue) (a : CallerCore) (now : ℕ) → AllFit a.waiting → FitTick (ticked writes job a now)
ticked_fits writes job a now h = paced_fits writes job (timed a now) now (moved_fits a _ h)

pub short_given : (o : Option Packet) (given : List (List ℕ)) → FitGiven o → AreShort given → AreShort (packets_given o given)
short_given None given f s = s
short_given (Some p) given f s = (f, s)

-- so the marks are those of what is given
pub marks_back : (setup : Setup) (given : List (List ℕ)) (o : Option Packet) (marks : List Mark) → AreShort given → FitGiven o →
    gave_all (elements_told (told_by setup given o)) marks ≡ marks_given o marks
marks_back setup given None marks s f = refl
marks_back setup given (Some p) marks s f = ap (λ (es : List elements.Element). gave_all es marks) (told_back setup given (written p) s f)
