-- Records that are read and told piece by piece.
use Rattle.std.proofs.Common.{◌≡◌, ◌≢◌, inl, inr, ℕ, ◌≤◌, ◌^◌, List, [], ◌∷◌, ◌++◌, Option, None, Some, Result, Ok, Err, IfOk, IfErr, OnOk, refl, sym, subst}
use Rattle.fax_command.proofs.TellLemmas.{text_of_lines-append}
use Rattle.fax_command.specs.RowLines.{text_of_lines}
use Rattle.fax_capture.specs.declared.pcap.fault.CaptureFault.{CaptureFault}
use Rattle.fax_capture.specs.declared.pcap.fault.CaptureFault.TheVariants as capture
use Rattle.fax_capture.specs.pcap.Captures.{TimedPacket, HeadValue, FailsAs, Follow, ReadsAs, fault_of_end, head_record, read_of, record_at, record_of_kind, untold_head}
use Rattle.fax_capture.specs.pcap.Fields.{front_of}
use Rattle.fax_capture.proofs.pcap.PieceLemmas.{Follow-append, Follow-more, Follow-push, ReadsAs-more, refused-more}
use Rattle.fax_capture.specs.declared.options.CaptureOptions.{CaptureOptions}
use Rattle.fax_capture.specs.declared.script.Script.{Script}
use Rattle.fax_capture.specs.declared.script_fault.ScriptFault.{ScriptFault}
use Rattle.fax_capture.specs.declared.script_fault.ScriptFault.TheVariants.{Capture, NoAddress, NoCall, TooLong}
use Rattle.fax_capture.specs.Answers.{Fails, FailsCapture, FailsReading, Refuses, ToldSoFar, ToldWhole}
use Rattle.fax_capture.specs.Growing.{Stops}
use Rattle.fax_capture.specs.Rep.{Breaks, BreaksAt, HasRead, Holds, TakesAllRecords, TakesRecords, Untold}
use Rattle.fax_capture.specs.Scripts.{ScriptSoFar, TellsAll, TellsFound, only_ring, script_lines, tick_lines}
use Rattle.fax_capture.proofs.FollowLemmas.{TellsAll-append, TellsAll-push}
use Rattle.fax_capture.proofs.StopLemmas.{Stops-more, Stops-same}

-- ---- one record more

pub TakesRecords-found : (options : CaptureOptions) (old : HeadValue) (octets : List ℕ) (told : ScriptSoFar) (mid : HeadValue) (rest : List ℕ) (new : HeadValue) (after : List ℕ) (script grown : Script) (found : Option TimedPacket)
    → (took : TakesRecords options old octets told mid rest script) → ReadsAs (record_at mid rest) found new after
    → (next : ScriptSoFar) → TellsFound options took.next found next → Holds grown next → TakesRecords options old octets told new after grown
TakesRecords-found options old octets told mid rest new after script grown found took reads next tells holds = record {
  found = took.found ++ found ∷ [];
  next = next;
  follow = Follow-push old octets took.found found mid rest new after took.follow reads;
  tells = TellsAll-push options told took.found found took.next next took.tells tells;
  holds = holds;
}

-- ---- faults

refused : (head : HeadValue) (octets : List ℕ) (told : ScriptSoFar) (fault : CaptureFault)
    → FailsAs (record_at head octets) fault → fault ≢ capture.Cut → BreaksAt head octets told (Capture fault)
refused head octets told capture.NoMemory fails other = tt
refused head octets told capture.Cut fails other = absurd (other refl)
refused head octets told capture.Snapped (inl memory) other = let wrong : capture.Snapped ≡ capture.NoMemory = memory in cc
refused head octets told capture.Snapped (inr is) other = inl is
refused head octets told capture.NoCapture (inl memory) other = let wrong : capture.NoCapture ≡ capture.NoMemory = memory in cc
refused head octets told capture.NoCapture (inr is) other = is
refused head octets told capture.Damaged (inl memory) other = let wrong : capture.Damaged ≡ capture.NoMemory = memory in cc
refused head octets told capture.Damaged (inr is) other = is

pub Breaks-refused : (options : CaptureOptions) (old : HeadValue) (octets : List ℕ) (told : ScriptSoFar) (mid : HeadValue) (rest : List ℕ) (script : Script) (fault : CaptureFault)
    → TakesRecords options old octets told mid rest script → FailsAs (record_at mid rest) fault → fault ≢ capture.Cut → Breaks options old octets told (Capture fault)
Breaks-refused options old octets told mid rest script fault took fails other =
    (took.found, mid, rest, took.next, took.follow, took.tells, refused mid rest took.next fault fails other)

-- a text that stops to grow
stopped : (head : HeadValue) (octets : List ℕ) (told : ScriptSoFar) (fault : ScriptFault)
    → Stops fault (text_of_lines told.lines) → BreaksAt head octets told fault
stopped head octets told TooLong stops =
    Stops-same TooLong _ _ (sym (text_of_lines-append told.lines (tick_lines told.ticks 1000))) (Stops-more TooLong (text_of_lines told.lines) (text_of_lines (tick_lines told.ticks 1000)) stops)
stopped head octets told (NoAddress counts) stops = absurd stops
stopped head octets told (NoCall counts) stops = absurd stops
stopped head octets told (Capture capture.NoMemory) stops = tt
stopped head octets told (Capture capture.NoCapture) stops = absurd stops
stopped head octets told (Capture capture.Cut) stops = absurd stops
stopped head octets told (Capture capture.Snapped) stops = absurd stops
stopped head octets told (Capture capture.Damaged) stops = absurd stops

untold : (options : CaptureOptions) (old : HeadValue) (octets : List ℕ) (told : ScriptSoFar) (mid : HeadValue) (rest : List ℕ) (new : HeadValue) (after : List ℕ) (script : Script) (captured : TimedPacket) (fault : ScriptFault)
    → (took : TakesRecords options old octets told mid rest script) → ReadsAs (record_at mid rest) (Some captured) new after
    → Untold options took.next (Some captured) fault → Breaks options old octets told fault
untold options old octets told mid rest new after script captured fault took reads (inl lacking) =
    subst (λ (f : ScriptFault). Breaks options old octets told f) (sym lacking.1)
    (took.found, mid, rest, took.next, took.follow, took.tells, inr (captured, new, after, reads, lacking.0))
untold options old octets told mid rest new after script captured fault took reads (inr stops) = (
  took.found ++ Some captured ∷ [],
  new,
  after,
  stops.0,
  Follow-push old octets took.found (Some captured) mid rest new after took.follow reads,
  TellsAll-push options told took.found (Some captured) took.next stops.0 took.tells stops.1,
  stopped new after stops.0 fault stops.2,
)

pub Breaks-untold : (options : CaptureOptions) (old : HeadValue) (octets : List ℕ) (told : ScriptSoFar) (mid : HeadValue) (rest : List ℕ) (new : HeadValue) (after : List ℕ) (script : Script) (found : Option TimedPacket) (fault : ScriptFault)
    → (took : TakesRecords options old octets told mid rest script) → ReadsAs (record_at mid rest) found new after
    → Untold options took.next found fault → Breaks options old octets told fault
Breaks-untold options old octets told mid rest new after script None fault took reads fails = absurd fails
Breaks-untold options old octets told mid rest new after script (Some captured) fault took reads fails =
    untold options old octets told mid rest new after script captured fault took reads fails

-- memory may be wanting anywhere
pub Breaks-memory : (options : CaptureOptions) (old : HeadValue) (octets : List ℕ) (told : ScriptSoFar) → Breaks options old octets told (Capture capture.NoMemory)
Breaks-memory options old octets told = ([], old, octets, told, (refl, refl), refl, tt)

-- ---- pieces

-- nothing was read
nothing : read_of (record_at untold_head []) ≡ Err capture.Cut
unfolding read_of record_of_kind head_record front_of
nothing = refl

pub HasRead-nothing : (options : CaptureOptions) (script : Script) → script.ticks ≤ 2 ^ 103 → Holds script (only_ring options) → HasRead options [] untold_head script []
HasRead-nothing options script few holds = record {
  few = few;
  took = record { found = []; next = only_ring options; follow = (refl, refl); tells = refl; holds = holds };
  waits = nothing;
}

pub HasRead-take : (options : CaptureOptions) (read piece : List ℕ) (head : HeadValue) (script : Script) (left : List ℕ) (new : HeadValue) (grown : Script) (still : List ℕ)
    → (has : HasRead options read head script left) → TakesAllRecords options head (left ++ piece) has.took.next new still grown → grown.ticks ≤ 2 ^ 103
    → HasRead options (read ++ piece) new grown still
HasRead-take options read piece head script left new grown still has all few = record {
  few = few;
  took = record {
    found = has.took.found ++ all.took.found;
    next = all.took.next;
    follow = Follow-append untold_head (read ++ piece) has.took.found all.took.found head (left ++ piece) new still
        (Follow-more untold_head read has.took.found head left piece has.took.follow) all.took.follow;
    tells = TellsAll-append options (only_ring options) has.took.found all.took.found has.took.next all.took.next has.took.tells all.took.tells;
    holds = all.took.holds;
  };
  waits = all.waits;
}

pub HasRead-start : (options : CaptureOptions) (head : HeadValue) (script : Script) (left : List ℕ) → head ≡ untold_head → left ≡ [] → script.ticks ≤ 2 ^ 103 → Holds script (only_ring options)
    → HasRead options [] head script left
HasRead-start options head script left head_is left_is few holds =
    subst (λ (h : HeadValue). HasRead options [] h script left) (sym head_is)
    (subst (λ (l : List ℕ). HasRead options [] untold_head script l) (sym left_is) (HasRead-nothing options script few holds))

pub HasRead-same : (options : CaptureOptions) (read other : List ℕ) (head same : HeadValue) (script like : Script) (left equal : List ℕ)
    → HasRead options read head script left → other ≡ read → same ≡ head → like ≡ script → equal ≡ left → HasRead options other same like equal
HasRead-same options read other head same script like left equal has read_is head_is script_is left_is =
    subst (λ (r : List ℕ). HasRead options r same like equal) (sym read_is)
    (subst (λ (h : HeadValue). HasRead options read h like equal) (sym head_is)
    (subst (λ (s : Script). HasRead options read head s equal) (sym script_is)
    (subst (λ (l : List ℕ). HasRead options read head script l) (sym left_is) has)))

-- what a piece was taken to
pub take_ok : {V : Type 0} → (options : CaptureOptions) (read piece : List ℕ) (head : HeadValue) (script : Script) (left octets : List ℕ) (new : HeadValue) (grown : Script) (result : Result V ScriptFault) (items : V → List ℕ)
    → HasRead options read head script left → octets ≡ left ++ piece
    → ((told : ScriptSoFar) → Holds script told → IfOk result (λ still. TakesAllRecords options head octets told new (items still) grown)) → OnOk result (grown.ticks ≤ 2 ^ 103)
    → IfOk result (λ still. HasRead options (read ++ piece) new grown (items still))
take_ok options read piece head script left octets new grown (Ok still) items has is took few =
    HasRead-take options read piece head script left new grown (items still) has
    (subst (λ (o : List ℕ). TakesAllRecords options head o has.took.next new (items still) grown) is (took has.took.next has.took.holds)) few
take_ok options read piece head script left octets new grown (Err fault) items has is took few = tt

-- a fault is met whatever follows
Refuses-more : (told : ScriptSoFar) (head : HeadValue) (octets more : List ℕ) (fault : CaptureFault) → Refuses told head octets fault → Refuses told head (octets ++ more) fault
Refuses-more told head octets more capture.Cut r = absurd r
Refuses-more told head octets more capture.Snapped (inl is) =
    inl (refused-more head octets more capture.Snapped (λ (e : capture.Snapped ≡ capture.Cut). cc) is)
Refuses-more told head octets more capture.Snapped (inr lacks) =
    inr (lacks.0, lacks.1, lacks.2 ++ more, ReadsAs-more head octets (Some lacks.0) lacks.1 lacks.2 more lacks.3, lacks.4)
Refuses-more told head octets more capture.NoCapture is = refused-more head octets more capture.NoCapture (λ (e : capture.NoCapture ≡ capture.Cut). cc) is
Refuses-more told head octets more capture.Damaged is = refused-more head octets more capture.Damaged (λ (e : capture.Damaged ≡ capture.Cut). cc) is
Refuses-more told head octets more capture.NoMemory is = refused-more head octets more capture.NoMemory (λ (e : capture.NoMemory ≡ capture.Cut). cc) is

fails_by : (options : CaptureOptions) (input : List ℕ) (head : HeadValue) (rest more : List ℕ) (told : ScriptSoFar) (fault : ScriptFault)
    → ToldSoFar options input head (rest ++ more) told → BreaksAt head rest told fault → Fails options input fault
fails_by options input head rest more told TooLong so_far breaks = (head, rest ++ more, told, so_far, breaks)
fails_by options input head rest more told (NoAddress counts) so_far breaks = absurd breaks
fails_by options input head rest more told (NoCall counts) so_far breaks = absurd breaks
fails_by options input head rest more told (Capture capture.NoMemory) so_far breaks = tt
fails_by options input head rest more told (Capture capture.Cut) so_far breaks = absurd breaks
fails_by options input head rest more told (Capture capture.Snapped) so_far breaks =
    (head, rest ++ more, told, so_far, inl (Refuses-more told head rest more capture.Snapped breaks))
fails_by options input head rest more told (Capture capture.NoCapture) so_far breaks =
    (head, rest ++ more, told, so_far, inl (Refuses-more told head rest more capture.NoCapture breaks))
fails_by options input head rest more told (Capture capture.Damaged) so_far breaks =
    (head, rest ++ more, told, so_far, inl (Refuses-more told head rest more capture.Damaged breaks))

pub Breaks-fails : (options : CaptureOptions) (read piece more : List ℕ) (head : HeadValue) (script : Script) (left : List ℕ) (fault : ScriptFault)
    → (has : HasRead options read head script left) → Breaks options head (left ++ piece) has.took.next fault
    → Fails options ((read ++ piece) ++ more) fault
Breaks-fails options read piece more head script left fault has breaks =
    let one = Follow-more untold_head read has.took.found head left piece has.took.follow in
    let ahead = Follow-more untold_head (read ++ piece) has.took.found head (left ++ piece) more one in
    let here = Follow-more head (left ++ piece) breaks.0 breaks.1 breaks.2 more breaks.4 in
    fails_by options ((read ++ piece) ++ more) breaks.1 breaks.2 more breaks.3 fault
    (record {
      found = has.took.found ++ breaks.0;
      follow = Follow-append untold_head ((read ++ piece) ++ more) has.took.found breaks.0 head ((left ++ piece) ++ more) breaks.1 (breaks.2 ++ more) ahead here;
      tells = TellsAll-append options (only_ring options) has.took.found breaks.0 has.took.next breaks.3 has.took.tells breaks.5;
    })
    breaks.6

-- ---- the end

so_far_of : (options : CaptureOptions) (read : List ℕ) (head : HeadValue) (script : Script) (left : List ℕ) → (has : HasRead options read head script left) → ToldSoFar options read head left has.took.next
so_far_of options read head script left has = record { found = has.took.found; follow = has.took.follow; tells = has.took.tells }

ended_by : (options : CaptureOptions) (read : List ℕ) (fault : CaptureFault) → FailsCapture options read fault → FailsReading options read fault
ended_by options read capture.NoMemory h = tt
ended_by options read capture.NoCapture h = h
ended_by options read capture.Cut h = h
ended_by options read capture.Snapped h = h
ended_by options read capture.Damaged h = h

pub fails_end : (options : CaptureOptions) (read : List ℕ) (head : HeadValue) (script : Script) (left : List ℕ) (fault : CaptureFault)
    → HasRead options read head script left → fault_of_end head.kind left ≡ Some fault → Fails options read (Capture fault)
fails_end options read head script left fault has is =
    ended_by options read fault (head, left, has.took.next, so_far_of options read head script left has, inr (has.waits, is))

pub whole_of : (options : CaptureOptions) (read : List ℕ) (head : HeadValue) (script : Script) (left : List ℕ)
    → (has : HasRead options read head script left) → fault_of_end head.kind left ≡ None → ToldWhole options read has.took.next
whole_of options read head script left has ended = record { head = head; left = left; so_far = so_far_of options read head script left has; at_end = ended }

pub fails_growing : (options : CaptureOptions) (read : List ℕ) (head : HeadValue) (script : Script) (left : List ℕ) (fault : ScriptFault)
    → (has : HasRead options read head script left) → Stops fault (text_of_lines (script_lines has.took.next)) → Fails options read fault
fails_growing options read head script left TooLong has s = (head, left, has.took.next, so_far_of options read head script left has, s)
fails_growing options read head script left (NoAddress counts) has s = absurd s
fails_growing options read head script left (NoCall counts) has s = absurd s
fails_growing options read head script left (Capture capture.NoMemory) has s = tt
fails_growing options read head script left (Capture capture.NoCapture) has s = absurd s
fails_growing options read head script left (Capture capture.Cut) has s = absurd s
fails_growing options read head script left (Capture capture.Snapped) has s = absurd s
fails_growing options read head script left (Capture capture.Damaged) has s = absurd s

pub take_err : {V : Type 0} → (options : CaptureOptions) (read piece : List ℕ) (head : HeadValue) (script : Script) (left octets : List ℕ) (result : Result V ScriptFault)
    → HasRead options read head script left → octets ≡ left ++ piece
    → ((told : ScriptSoFar) → Holds script told → IfErr result (λ e. Breaks options head octets told e))
    → IfErr result (λ e. (more : List ℕ) → Fails options ((read ++ piece) ++ more) e)
take_err options read piece head script left octets (Ok still) has is breaks = tt
take_err options read piece head script left octets (Err fault) has is breaks = λ more.
    Breaks-fails options read piece more head script left fault has
    (subst (λ (o : List ℕ). Breaks options head o has.took.next fault) is (breaks has.took.next has.took.holds))
