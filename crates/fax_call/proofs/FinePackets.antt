-- Each packet that a call gives is read back as it was meant, and each DCS that is heard of them is of one kind.
use Rattle.std.proofs.Common.{◌≡◌, ℕ, ◌+◌, ◌<◌, ◌≤◌, Bool, true, false, nat_le, List, [], ◌∷◌, length, map, take, drop, ◌-◌, Option, Some, None, refl, sym, ◌∙◌, subst, arith, if◌then◌else◌, length-drop, length-take}
use Rattle.std.specs.List.{list_any}
use Rattle.std.specs.Prelude.{Contains}
use Rattle.fax_frames.specs.declared.dcs.Dcs.{Dcs}
use Rattle.fax_frames.specs.declared.rate.Rate.{Rate}
use Rattle.fax_frames.specs.Rates.{kind_of}
use Rattle.fax_ifp.specs.Elements.{Element}
use Rattle.fax_jobs.specs.Jobs.{JobValue, IsJob}
use Rattle.fax_call.specs.Writings.{Writing, IsWriting}
use Rattle.fax_call.specs.Replies.{Signals, Tells, Part, Due, One, Text, written, part_length, training_check, is_last_page, turn_after, command_by, command}
use Rattle.fax_call.specs.Replies as replies
use Rattle.fax_call.specs.Table.{Move, Stays, Trains, Sends, AsksAgain, Turns, Closes, HangsUp}
use Rattle.fax_call.specs.Calls.{CallerCore, started, moved, heard, timed, text_at, TakenPart, taken_text, taken, after_giving, given_first, TickResult, CallEvent, Comes, Ticks, after_events, ticked}
use Rattle.fax_call.specs.Emission.{Mark, Begins, elements_given, marks_after}
use Rattle.fax_call.specs.Given.{packets_with, packets_given, dcs_in, EachDcs, IsOfKind, tells_eom, is_eom_frame, TellsOneKind}
use Rattle.std.specs.Prelude.{IfSome}
use Rattle.fax_runcodes.specs.declared.format.Format.{Format}
use Rattle.fax_runcodes.specs.declared.format.Coding.{Coding}
use Rattle.fax_frames.specs.declared.frame.Frame.{Frame}
use Rattle.fax_frames.specs.declared.frame.Frame.TheVariants as frames
use Rattle.fax_frames.specs.Frames.{frame_of}
use Rattle.fax_ifp.specs.Pieces as pieces
use Rattle.fax_call.proofs.ToldFrames.{IsFine, AreFine, EachTold, told_frames, HearsEom, eom_heard}
use Rattle.fax_call.proofs.OneKind.{gives_one_kind}
use Rattle.fax_call.proofs.Waiting.{Texts, SafeTo, AreParts, check_parts, code_fits, part_some}
use Rattle.fax_call.proofs.Emitted.{Good, timed_good, start_good, events_good}
use Rattle.fax_timers.specs.Paces.{pace_allows}

-- what waits
abbrev IsFineDue : Due → Type 0
IsFineDue (One p) = IsFine p
IsFineDue (Text page dcs from) = Unit {0}

abbrev AllFine : List Due → Type 0
AllFine [] = Unit {0}
AllFine (d ∷ due) = IsFineDue d × AllFine due

parts_fine : (rate : Rate) (due : List Due) → AreParts rate due → AllFine due
parts_fine rate [] a = tt
parts_fine rate (One (Part kind last os) ∷ due) a = ((rate, a.0, a.1, a.2), parts_fine rate due a.3)
parts_fine rate (One (Signals c) ∷ due) a = absurd a
parts_fine rate (One (Tells f) ∷ due) a = absurd a
parts_fine rate (Text p d f ∷ due) a = absurd a

command_fine : (end : Bool) (turn : Option Format) → AllFine (command (command_by end turn))
command_fine true turn = (omega arith, ((omega arith, omega arith), tt))
command_fine false (Some format) = (omega arith, ((omega arith, omega arith), tt))
command_fine false None = (omega arith, ((omega arith, omega arith), tt))

moved_fine : (a : CallerCore) (m : Move) → AllFine a.waiting → AllFine (moved a m).waiting
moved_fine a Stays h = h
moved_fine a (Trains dis dcs c) h =
    (omega arith, ((omega arith, omega arith), (code_fits dcs.rate true, parts_fine dcs.rate (training_check dcs) (check_parts dcs))))
moved_fine a (Sends dis dcs c) h = (code_fits dcs.rate false, (tt, command_fine (is_last_page a.pages c.page) (turn_after a.formats c.page)))
moved_fine a (AsksAgain c) h = command_fine (is_last_page a.pages c.page) (turn_after a.formats c.page)
moved_fine a (Turns format t1 c) h = tt
moved_fine a (Closes outcome c) h = (omega arith, ((omega arith, omega arith), tt))
moved_fine a HangsUp h = tt

-- what is taken of a text
record FineTaken (t : TakenPart) : Type 0 where
  packet : IsFine t.packet
  rest : AllFine t.rest

le_so : (m n : ℕ) → nat_le m n ≡ true → m ≤ n
le_so m n h = grind (arith)

lt_so : (m n : ℕ) → nat_le m n ≡ false → n < m
lt_so m n h = grind (arith)

taken_all : (n : ℕ) (octets : List ℕ) → n ≤ length octets → length (take n octets) ≡ n
taken_all n octets h = grind (arith, length-take)

text_fine : (page : ℕ) (dcs : Dcs) (from : ℕ) (text : List ℕ) (due : List Due) → from < length text → AllFine due → FineTaken (taken_text page dcs from text due)
text_fine page dcs from text due left h = by (nat_le (length (drop from text)) (part_length dcs)) refl
  where
    some : 1 ≤ length (drop from text)
    some = let l : length (drop from text) ≡ length text - from = length-drop from text in omega arith

    by : (t : Bool) → nat_le (length (drop from text)) (part_length dcs) ≡ t
        → FineTaken (if◌then◌else◌ {A = TakenPart} t (record { packet = Part (kind_of dcs.rate) true (drop from text); rest = due }) (record { packet = Part (kind_of dcs.rate) false (take (part_length dcs) (drop from text)); rest = Text page dcs (from + part_length dcs) ∷ due }))
    by true e =
        let l : length (drop from text) ≤ part_length dcs = le_so (length (drop from text)) (part_length dcs) e in
        let k : part_length dcs ≤ 65535 = (part_some dcs.rate).1 in
        record { packet = (dcs.rate, refl, some, omega arith); rest = h }
    by false e =
        let l : part_length dcs < length (drop from text) = lt_so (length (drop from text)) (part_length dcs) e in
        let n : 1 ≤ part_length dcs = (part_some dcs.rate).0 in
        let k : part_length dcs ≤ 65535 = (part_some dcs.rate).1 in
        let m : length (take (part_length dcs) (drop from text)) ≡ part_length dcs = taken_all (part_length dcs) (drop from text) (omega arith) in
        record { packet = (dcs.rate, refl, omega arith, omega arith); rest = (tt, h) }

taken_fine : (texts : Texts) (job : JobValue) (page : ℕ) (Post : List Element → Type 0) (d : Due) (due : List Due) (before : List Element)
    → SafeTo texts job page Post (d ∷ due) before → AllFine (d ∷ due) → FineTaken (taken texts.writes job d due)
taken_fine texts job page Post (One p) due before s h = record { packet = h.0; rest = h.1 }
taken_fine texts job page Post (Text n dcs from) due before s h =
    text_fine n dcs from (text_at texts.writes job n dcs) due
    (subst (λ (m : ℕ). from < length (text_at texts.writes job m dcs)) (sym s.0) s.1.left) h.1

after_fine : (a : CallerCore) (now : ℕ) (packet : replies.Packet) (due : List Due) → AllFine due → AllFine (after_giving a now packet due).waiting
after_fine a now packet [] h = tt
after_fine a now packet (d ∷ due) h = h

abbrev FineIf : Option replies.Packet → Type 0
FineIf None = Unit {0}
FineIf (Some p) = IsFine p

record FineTick (t : TickResult) : Type 0 where
  core : AllFine t.core.waiting
  given : FineIf t.given

first_fine : (texts : Texts) (job : JobValue) (a : CallerCore) (now page : ℕ) (Post : List Element → Type 0) (due : List Due) (before : List Element)
    → SafeTo texts job page Post due before → AllFine a.waiting → AllFine due → FineTick (given_first texts.writes job a now due)
first_fine texts job a now page Post [] before s g h = record { core = g; given = tt }
first_fine texts job a now page Post (d ∷ due) before s g h =
    let t : FineTaken (taken texts.writes job d due) = taken_fine texts job page Post d due before s h in
    record { core = after_fine a now (taken texts.writes job d due).packet (taken texts.writes job d due).rest t.rest; given = t.packet }

paced_fine : (b : Bool) (a : CallerCore) (t : TickResult) → AllFine a.waiting → FineTick t → FineTick (if◌then◌else◌ {A = TickResult} b t (record { core = a; given = None }))
paced_fine true a t g h = h
paced_fine false a t g h = record { core = g; given = tt }

tick_fine : (texts : Texts) (job : JobValue) (a : CallerCore) (now : ℕ) (marks : List Mark) → Good texts job a marks → AllFine a.waiting → FineTick (ticked texts.writes job a now)
tick_fine texts job a now marks g h =
    let b : CallerCore = timed a now in
    let good : Good texts job b marks = timed_good texts job a now marks g in
    let closed : AllFine b.waiting = moved_fine a _ h in
    paced_fine (pace_allows b.pace.last now) b (given_first texts.writes job b now b.waiting) closed
    (first_fine texts job b now b.counts.page _ b.waiting (elements_given marks) good.kept.safe closed closed)

events_fine : (texts : Texts) (job : JobValue) (a : CallerCore) (events : List CallEvent) → IsJob job → Good texts job a (Begins ∷ []) → AllFine a.waiting → AllFine (after_events texts.writes job a events).waiting
events_fine texts job a [] is g h = h
events_fine texts job a (Comes piece now ∷ before) is g h =
    let c : CallerCore = after_events texts.writes job a before in
    moved_fine c (heard c piece now) (events_fine texts job a before is g h)
events_fine texts job a (Ticks now ∷ before) is g h =
    (tick_fine texts job (after_events texts.writes job a before) now (marks_after texts.writes job [] a before) (events_good texts job [] a before is g) (events_fine texts job a before is g h)).core

if_some : (o : Option replies.Packet) (packet : replies.Packet) → o ≡ Some packet → FineIf o → IsFine packet
if_some None packet e h = cc
if_some (Some p) packet e h = let same : p ≡ packet = cc in subst IsFine same h

pub given_fine : (texts : Texts) (job : JobValue) (a : CallerCore) (events : List CallEvent) → IsJob job → Good texts job a (Begins ∷ []) → AllFine a.waiting → AreFine (packets_given texts.writes job a events)
given_fine texts job a [] is g h = tt
given_fine texts job a (Comes piece now ∷ before) is g h = given_fine texts job a before is g h
given_fine texts job a (Ticks now ∷ before) is g h =
    let t : FineTick (ticked texts.writes job (after_events texts.writes job a before) now) =
    tick_fine texts job (after_events texts.writes job a before) now (marks_after texts.writes job [] a before) (events_good texts job [] a before is g) (events_fine texts job a before is g h) in
    with_fine (ticked texts.writes job (after_events texts.writes job a before) now).given (packets_given texts.writes job a before) t.given (given_fine texts job a before is g h)
  where
    with_fine : (o : Option replies.Packet) (packets : List replies.Packet) → FineIf o → AreFine packets → AreFine (packets_with o packets)
    with_fine None packets f k = k
    with_fine (Some p) packets f k = (f, k)

-- each DCS that is heard of the packets was told by one of them
abbrev OfKind : Format → Coding → List ℕ → Type 0
OfKind format coding octets = (dcs : Dcs) → frame_of octets ≡ Some (frames.Dcs dcs) → IsOfKind format coding dcs

told_kind : (format : Format) (coding : Coding) (o : Option Frame) (dcs : Dcs) → IfSome (dcs_in o) (IsOfKind format coding) → o ≡ Some (frames.Dcs dcs) → IsOfKind format coding dcs
told_kind format coding o dcs k e = subst (λ (x : Option Frame). IfSome (dcs_in x) (IsOfKind format coding)) e k

each_told : (format : Format) (coding : Coding) (packets : List replies.Packet) → EachDcs (IsOfKind format coding) packets → EachTold (OfKind format coding) packets
each_told format coding [] k = tt
each_told format coding (Tells frame ∷ packets) k = (λ dcs e. told_kind format coding (frame_of frame) dcs k.0 e, each_told format coding packets k.1)
each_told format coding (Signals code ∷ packets) k = each_told format coding packets k.1
each_told format coding (Part kind last octets ∷ packets) k = each_told format coding packets k.1

-- of all packets of a call, and of what is heard of them
pub record OneKind (writes : Writing) (job : JobValue) (core : CallerCore) (start : ℕ) (events : List CallEvent) : Type 0 where
  pub coding : Coding
  pub given : EachDcs (IsOfKind job.format coding) (packets_given writes job (started core job start) events)
  pub heard : (octets : List ℕ) (dcs : Dcs) → Contains (pieces.pieces (map Some (map written (packets_given writes job (started core job start) events)))) (pieces.Frame octets)
      → frame_of octets ≡ Some (frames.Dcs dcs) → IsOfKind job.format coding dcs

all_fine : (texts : Texts) (job : JobValue) (core : CallerCore) (start : ℕ) (events : List CallEvent) → IsJob job → AreFine (packets_given texts.writes job (started core job start) events)
all_fine texts job core start events is = given_fine texts job (started core job start) events is (start_good texts job [] core start is) (omega arith, tt)

no_eom : (packets : List replies.Packet) → AreFine packets → list_any is_eom_frame (pieces.pieces (map Some (map written packets))) ≡ false → list_any tells_eom packets ≡ false
no_eom packets f h = by (list_any tells_eom packets) refl
  where
    by : (b : Bool) → list_any tells_eom packets ≡ b → b ≡ false
    by false e = refl
    by true e = let heard : HearsEom packets = eom_heard packets f e in let x : true ≡ false = sym heard ∙ h in cc

-- where it gave no EOM, and where who hears it hears none
pub one_kind_given : (writes : Writing) (job : JobValue) (core : CallerCore) (start : ℕ) (events : List CallEvent) → IsWriting writes → IsJob job
    → list_any tells_eom (packets_given writes job (started core job start) events) ≡ false → OneKind writes job core start events
one_kind_given writes job core start events w is none =
    let texts : Texts = record { writes = writes; are = w } in
    let packets : List replies.Packet = packets_given writes job (started core job start) events in
    let one = gives_one_kind writes job core start events none in
    record {
      coding = one.0;
      given = one.1;
      heard = λ octets dcs c. told_frames (OfKind job.format one.0) packets octets (all_fine texts job core start events is) (each_told job.format one.0 packets one.1) c dcs;
    }

pub one_kind : (writes : Writing) (job : JobValue) (core : CallerCore) (start : ℕ) (events : List CallEvent) → IsWriting writes → IsJob job
    → list_any is_eom_frame (pieces.pieces (map Some (map written (packets_given writes job (started core job start) events)))) ≡ false → OneKind writes job core start events
one_kind writes job core start events w is none =
    one_kind_given writes job core start events w is
    (no_eom (packets_given writes job (started core job start) events) (all_fine (record { writes = writes; are = w }) job core start events is) none)

pub tells_one_kind : TellsOneKind
tells_one_kind writes job core start events w is none = let one : OneKind writes job core start events = one_kind writes job core start events w is none in (one.coding, one.heard)
