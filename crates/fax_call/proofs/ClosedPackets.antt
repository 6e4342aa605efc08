-- Each packet that the caller gives can be read, and one of V.21 data ends at a boundary.
use Rattle.std.proofs.Common.{◌≡◌, ℕ, ◌+◌, ◌<◌, ◌≤◌, Bool, true, false, nat_le, List, [], ◌∷◌, length, take, drop, ◌-◌, Option, Some, None, Ok, refl, sym, ◌∙◌, ap, subst, arith, if◌then◌else◌, length-drop, length-take}
use Rattle.std.proofs.lemmas.List.Elements.{All-from_recursion}
use Rattle.fax_runcodes.specs.declared.format.Format.{Format}
use Rattle.fax_frames.specs.declared.dcs.Dcs.{Dcs}
use Rattle.fax_frames.specs.declared.rate.Rate.{Rate}
use Rattle.fax_frames.specs.declared.rate.Rate.TheVariants.{V27At2400, V27At4800, V29At7200, V29At9600, V17At7200, V17At9600, V17At12000, V17At14400}
use Rattle.fax_frames.specs.declared.writing.Plain.TheVariants as plain
use Rattle.fax_frames.specs.Rates.{kind_of, training_of}
use Rattle.fax_frames.specs.Written.{written_dcs, written_plain}
use Rattle.fax_ifp.specs.Packets.{Message, packet_of}
use Rattle.fax_ifp.specs.Elements.{Element}
use Rattle.fax_ifp.specs.WrittenPackets.{IsWritableField, frame_fields, image_fields}
use Rattle.fax_ifp.specs.Schedules.{is_closed}
use Rattle.fax_ifp.proofs.ReadBackLemmas.{indicators, messages_back}
use Rattle.fax_jobs.specs.Jobs.{JobValue, IsJob}
use Rattle.fax_call.specs.Replies.{Signals, Tells, Part, Due, One, Text, written, part_length, training_check, is_last_page, turn_after, command_by, command}
use Rattle.fax_call.specs.Replies as replies
use Rattle.fax_call.specs.Table.{Move, Stays, Trains, Sends, AsksAgain, Turns, Closes, HangsUp}
use Rattle.fax_call.specs.Calls.{CallerCore, started, moved, heard, timed, text_at, TakenPart, taken_text, taken, after_giving, given_first, TickResult, CallEvent, Comes, Ticks, after_events, ticked}
use Rattle.fax_call.specs.Emission.{Mark, Begins, elements_given, marks_after}
use Rattle.fax_call.specs.Given.{GivesClosedPackets}
use Rattle.fax_call.proofs.PacketsBack.{known_kind}
use Rattle.fax_call.proofs.Waiting.{Texts, SafeTo, AreParts, check_parts, code_fits, part_some}
use Rattle.fax_call.proofs.Emitted.{Good, timed_good, start_good, events_good}
use Rattle.fax_timers.specs.Paces.{pace_allows}

-- single packets
abbrev pub Closed : replies.Packet → Type 0
Closed p = is_closed (packet_of (written p)) ≡ true

pub signal_closed : (code : ℕ) → code < 16 → Closed (Signals code)
signal_closed code h = ap is_closed (indicators code (omega arith))

pub frame_closed : (frame : List ℕ) → 1 ≤ length frame → length frame ≤ 256 → Closed (Tells frame)
frame_closed frame some few =
    ap is_closed
    (messages_back 0 (frame_fields frame) (record {
      known = omega arith;
      few = omega arith;
      each = All-from_recursion IsWritableField (frame_fields frame) (record { what = omega arith; octets = (some, omega arith) }, (record { what = omega arith; octets = tt }, tt));
    }))

no_v21 : (rate : Rate) (last : Bool) (octets : List ℕ) → is_closed (Ok (Message (kind_of rate) (image_fields last octets))) ≡ true
no_v21 V27At2400 last octets = refl
no_v21 V27At4800 last octets = refl
no_v21 V29At7200 last octets = refl
no_v21 V29At9600 last octets = refl
no_v21 V17At7200 last octets = refl
no_v21 V17At9600 last octets = refl
no_v21 V17At12000 last octets = refl
no_v21 V17At14400 last octets = refl

part_closed : (rate : Rate) (last : Bool) (octets : List ℕ) → 1 ≤ length octets → length octets ≤ 65535 → Closed (Part (kind_of rate) last octets)
part_closed rate last octets some few =
    ap is_closed
    (messages_back (kind_of rate) (image_fields last octets) (record {
      known = known_kind rate;
      few = omega arith;
      each = All-from_recursion IsWritableField (image_fields last octets) (record { what = what_is last; octets = (some, few) }, tt);
    }))
    ∙ no_v21 rate last octets
  where
    what_is : (end : Bool) → (if end then 7 else 6) ≤ 7
    what_is true = omega arith
    what_is false = omega arith

-- what waits
abbrev IsClosedDue : Due → Type 0
IsClosedDue (One p) = Closed p
IsClosedDue (Text page dcs from) = Unit {0}

abbrev AllClosed : List Due → Type 0
AllClosed [] = Unit {0}
AllClosed (d ∷ due) = IsClosedDue d × AllClosed due

parts_closed : (rate : Rate) (due : List Due) → AreParts rate due → AllClosed due
parts_closed rate [] a = tt
parts_closed rate (One (Part kind last os) ∷ due) a = (subst (λ (k : ℕ). Closed (Part k last os)) (sym a.0) (part_closed rate last os a.1 a.2), parts_closed rate due a.3)
parts_closed rate (One (Signals c) ∷ due) a = absurd a
parts_closed rate (One (Tells f) ∷ due) a = absurd a
parts_closed rate (Text p d f ∷ due) a = absurd a

command_closed : (end : Bool) (turn : Option Format) → AllClosed (command (command_by end turn))
command_closed true turn = (signal_closed 3 (omega arith), (frame_closed (written_plain plain.Eop true) (omega arith) (omega arith), tt))
command_closed false (Some format) = (signal_closed 3 (omega arith), (frame_closed (written_plain plain.Eom true) (omega arith) (omega arith), tt))
command_closed false None = (signal_closed 3 (omega arith), (frame_closed (written_plain plain.Mps true) (omega arith) (omega arith), tt))

moved_closed : (a : CallerCore) (m : Move) → AllClosed a.waiting → AllClosed (moved a m).waiting
moved_closed a Stays h = h
moved_closed a (Trains dis dcs c) h =
    (signal_closed 3 (omega arith), (frame_closed (written_dcs dcs) (omega arith) (omega arith), (signal_closed (training_of dcs.rate true) (code_fits dcs.rate true), parts_closed dcs.rate (training_check dcs) (check_parts dcs))))
moved_closed a (Sends dis dcs c) h = (signal_closed (training_of dcs.rate false) (code_fits dcs.rate false), (tt, command_closed (is_last_page a.pages c.page) (turn_after a.formats c.page)))
moved_closed a (AsksAgain c) h = command_closed (is_last_page a.pages c.page) (turn_after a.formats c.page)
moved_closed a (Turns format t1 c) h = tt
moved_closed a (Closes outcome c) h = (signal_closed 3 (omega arith), (frame_closed (written_plain plain.Dcn true) (omega arith) (omega arith), tt))
moved_closed a HangsUp h = tt

-- what is taken of a text
record ClosedTaken (t : TakenPart) : Type 0 where
  packet : Closed t.packet
  rest : AllClosed t.rest

le_so : (m n : ℕ) → nat_le m n ≡ true → m ≤ n
le_so m n h = grind (arith)

lt_so : (m n : ℕ) → nat_le m n ≡ false → n < m
lt_so m n h = grind (arith)

taken_all : (n : ℕ) (octets : List ℕ) → n ≤ length octets → length (take n octets) ≡ n
taken_all n octets h = grind (arith, length-take)

text_closed : (page : ℕ) (dcs : Dcs) (from : ℕ) (text : List ℕ) (due : List Due) → from < length text → AllClosed due → ClosedTaken (taken_text page dcs from text due)
text_closed page dcs from text due left h = by (nat_le (length (drop from text)) (part_length dcs)) refl
  where
    some : 1 ≤ length (drop from text)
    some = let l : length (drop from text) ≡ length text - from = length-drop from text in omega arith

    by : (t : Bool) → nat_le (length (drop from text)) (part_length dcs) ≡ t
        → ClosedTaken (if◌then◌else◌ {A = TakenPart} t (record { packet = Part (kind_of dcs.rate) true (drop from text); rest = due }) (record { packet = Part (kind_of dcs.rate) false (take (part_length dcs) (drop from text)); rest = Text page dcs (from + part_length dcs) ∷ due }))
    by true e =
        let l : length (drop from text) ≤ part_length dcs = le_so (length (drop from text)) (part_length dcs) e in
        let k : part_length dcs ≤ 65535 = (part_some dcs.rate).1 in
        record { packet = part_closed dcs.rate true (drop from text) some (omega arith); rest = h }
    by false e =
        let l : part_length dcs < length (drop from text) = lt_so (length (drop from text)) (part_length dcs) e in
        let n : 1 ≤ part_length dcs = (part_some dcs.rate).0 in
        let k : part_length dcs ≤ 65535 = (part_some dcs.rate).1 in
        let m : length (take (part_length dcs) (drop from text)) ≡ part_length dcs = taken_all (part_length dcs) (drop from text) (omega arith) in
        record { packet = part_closed dcs.rate false (take (part_length dcs) (drop from text)) (omega arith) (omega arith); rest = (tt, h) }

taken_closed : (texts : Texts) (job : JobValue) (page : ℕ) (Post : List Element → Type 0) (d : Due) (due : List Due) (before : List Element)
    → SafeTo texts job page Post (d ∷ due) before → AllClosed (d ∷ due) → ClosedTaken (taken texts.writes job d due)
taken_closed texts job page Post (One p) due before s h = record { packet = h.0; rest = h.1 }
taken_closed texts job page Post (Text n dcs from) due before s h =
    text_closed n dcs from (text_at texts.writes job n dcs) due
    (subst (λ (m : ℕ). from < length (text_at texts.writes job m dcs)) (sym s.0) s.1.left) h.1

after_closed : (a : CallerCore) (now : ℕ) (packet : replies.Packet) (due : List Due) → AllClosed due → AllClosed (after_giving a now packet due).waiting
after_closed a now packet [] h = tt
after_closed a now packet (d ∷ due) h = h

abbrev ClosedIf : Option replies.Packet → Type 0
ClosedIf None = Unit {0}
ClosedIf (Some p) = Closed p

record ClosedTick (t : TickResult) : Type 0 where
  core : AllClosed t.core.waiting
  given : ClosedIf t.given

first_closed : (texts : Texts) (job : JobValue) (a : CallerCore) (now page : ℕ) (Post : List Element → Type 0) (due : List Due) (before : List Element)
    → SafeTo texts job page Post due before → AllClosed a.waiting → AllClosed due → ClosedTick (given_first texts.writes job a now due)
first_closed texts job a now page Post [] before s g h = record { core = g; given = tt }
first_closed texts job a now page Post (d ∷ due) before s g h =
    let t : ClosedTaken (taken texts.writes job d due) = taken_closed texts job page Post d due before s h in
    record { core = after_closed a now (taken texts.writes job d due).packet (taken texts.writes job d due).rest t.rest; given = t.packet }

paced_closed : (b : Bool) (a : CallerCore) (t : TickResult) → AllClosed a.waiting → ClosedTick t → ClosedTick (if◌then◌else◌ {A = TickResult} b t (record { core = a; given = None }))
paced_closed true a t g h = h
paced_closed false a t g h = record { core = g; given = tt }

tick_closed : (texts : Texts) (job : JobValue) (a : CallerCore) (now : ℕ) (marks : List Mark) → Good texts job a marks → AllClosed a.waiting → ClosedTick (ticked texts.writes job a now)
tick_closed texts job a now marks g h =
    let b : CallerCore = timed a now in
    let good : Good texts job b marks = timed_good texts job a now marks g in
    let closed : AllClosed b.waiting = moved_closed a _ h in
    paced_closed (pace_allows b.pace.last now) b (given_first texts.writes job b now b.waiting) closed
    (first_closed texts job b now b.counts.page _ b.waiting (elements_given marks) good.kept.safe closed closed)

events_closed : (texts : Texts) (job : JobValue) (a : CallerCore) (events : List CallEvent) → IsJob job → Good texts job a (Begins ∷ []) → AllClosed a.waiting → AllClosed (after_events texts.writes job a events).waiting
events_closed texts job a [] is g h = h
events_closed texts job a (Comes piece now ∷ before) is g h =
    let c : CallerCore = after_events texts.writes job a before in
    moved_closed c (heard c piece now) (events_closed texts job a before is g h)
events_closed texts job a (Ticks now ∷ before) is g h =
    (tick_closed texts job (after_events texts.writes job a before) now (marks_after texts.writes job [] a before) (events_good texts job [] a before is g) (events_closed texts job a before is g h)).core

if_some : (o : Option replies.Packet) (packet : replies.Packet) → o ≡ Some packet → ClosedIf o → Closed packet
if_some None packet e h = cc
if_some (Some p) packet e h = let same : p ≡ packet = cc in subst Closed same h

pub gives_closed_packets : GivesClosedPackets
gives_closed_packets writes job core start now events packet w is given =
    let texts : Texts = record { writes = writes; are = w } in
    let a : CallerCore = started core job start in
    let g : Good texts job a (Begins ∷ []) = start_good texts job [] core start is in
    if_some (ticked writes job (after_events writes job a events) now).given packet given
    (tick_closed texts job (after_events writes job a events) now (marks_after writes job [] a events) (events_good texts job [] a events is g)
    (events_closed texts job a events is g (signal_closed 1 (omega arith), tt))).given
