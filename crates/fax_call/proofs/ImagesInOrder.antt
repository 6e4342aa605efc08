-- Of two images of a call, that of the later place is of the same page or of a later one.
use Rattle.std.proofs.Common.{◌≡◌, ℕ, ◌+◌, ◌<◌, ◌≤◌, true, false, ◌⊎◌, inl, inr, List, [], ◌∷◌, ◌++◌, length, Option, Some, None, refl, sym, ◌∙◌, ap, subst, arith, length-append}
use Rattle.fax_frames.specs.declared.frame.Frame.{Frame}
use Rattle.fax_frames.specs.declared.frame.Frame.TheVariants as frames
use Rattle.fax_frames.specs.Frames.{frame_of}
use Rattle.fax_ifp.specs.Elements as elements
use Rattle.fax_ifp.specs.Packets.{packet_of}
use Rattle.fax_ifp.specs.Pieces as pieces
use Rattle.fax_jobs.specs.Jobs.{JobValue}
use Rattle.fax_call.specs.Writings.{Writing}
use Rattle.fax_call.specs.Replies.{Packet, Signals, Tells, Part, written}
use Rattle.fax_call.specs.Calls.{CallerCore, ticked, CallEvent, Comes, Ticks, after_events}
use Rattle.fax_call.specs.Emission.{Mark, Gave, Acknowledged, Refused, gave_all, acknowledged_by, marks_heard, marks_given, marks_after, Emits}
use Rattle.fax_call.specs.Given.{packets_with, packets_given}
use Rattle.fax_call.specs.GivenSignals.{ends_signal, IsImage}
use Rattle.fax_call.proofs.EmittedOrder.{HasNoBegin, IsFrom, emitted_in_order}
use Rattle.fax_call.proofs.GivenSignals.{ComesAfter}
use Rattle.fax_call.proofs.SignalsGiven.{HasNoLast, IsEnded}

-- MARKS: what is added in a call has no beginning
pub record MarksOn (new base : List Mark) : Type 0 where
  pub more : List Mark
  pub is : new ≡ more ++ base
  pub none : HasNoBegin more

gave_on : (es : List elements.Element) (new base : List Mark) → MarksOn new base → MarksOn (gave_all es new) base
gave_on [] new base m = m
gave_on (e ∷ es) new base m =
    gave_on es (Gave e ∷ new) base (record { more = Gave e ∷ m.more; is = ap (λ (ms : List Mark). Gave e ∷ ms) m.is; none = m.none })

given_on : (o : Option Packet) (new base : List Mark) → MarksOn new base → MarksOn (marks_given o new) base
given_on None new base m = m
given_on (Some packet) new base m = gave_on (elements.elements_in (packet_of (written packet))) new base m

acknowledged_on : (frame : Option Frame) (new base : List Mark) → MarksOn new base → MarksOn (acknowledged_by frame new) base
acknowledged_on (Some frames.Mcf) new base m = record { more = Acknowledged ∷ m.more; is = ap (λ (ms : List Mark). Acknowledged ∷ ms) m.is; none = m.none }
acknowledged_on (Some frames.Rtp) new base m = record { more = Acknowledged ∷ m.more; is = ap (λ (ms : List Mark). Acknowledged ∷ ms) m.is; none = m.none }
acknowledged_on (Some frames.Rtn) new base m = record { more = Refused ∷ m.more; is = ap (λ (ms : List Mark). Refused ∷ ms) m.is; none = m.none }
acknowledged_on frame new base m = m

heard_on : (piece : pieces.Piece) (new base : List Mark) → MarksOn new base → MarksOn (marks_heard piece new) base
heard_on (pieces.Frame octets) new base m = acknowledged_on (frame_of octets) new base m
heard_on (pieces.Start k) new base m = m
heard_on (pieces.Octets os) new base m = m
heard_on (pieces.End w) new base m = m
heard_on pieces.Gap new base m = m

pub marks_on : (writes : Writing) (job : JobValue) (old : List Mark) (begun : CallerCore) (later before : List CallEvent) → MarksOn (marks_after writes job old begun (later ++ before)) (marks_after writes job old begun before)
marks_on writes job old begun [] before = record { more = []; is = refl; none = tt }
marks_on writes job old begun (Comes piece now ∷ later) before =
    heard_on piece (marks_after writes job old begun (later ++ before)) (marks_after writes job old begun before) (marks_on writes job old begun later before)
marks_on writes job old begun (Ticks now ∷ later) before =
    given_on (ticked writes job (after_events writes job begun (later ++ before)) now).given (marks_after writes job old begun (later ++ before)) (marks_after writes job old begun before)
    (marks_on writes job old begun later before)

-- PACKETS
one_less : (p q : Packet) (ps qs : List Packet) → p ∷ ps ≡ q ∷ qs → ps ≡ qs
one_less p q ps qs e = cc

same_first : (p q : Packet) (ps qs : List Packet) → p ∷ ps ≡ q ∷ qs → p ≡ q
same_first p q ps qs e = cc

no_last_rest : (p : Packet) (row : List Packet) → HasNoLast (p ∷ row) → HasNoLast row
no_last_rest (Signals code) row h = h
no_last_rest (Tells frame) row h = h
no_last_rest (Part kind true os) row h = absurd h
no_last_rest (Part kind false os) row h = h

-- a last part does not stand in the row, nor before it where less stands there
not_inside : (row newer : List Packet) (first : Packet) (earlier older : List Packet) (kind : ℕ) (part : List ℕ)
    → row ++ first ∷ earlier ≡ newer ++ Part kind true part ∷ older → HasNoLast row → length earlier < length older → ⊥
not_inside [] [] first earlier older kind part e h l = let s : earlier ≡ older = one_less first (Part kind true part) earlier older e in let n : length earlier ≡ length older = ap (λ (ps : List Packet). length ps) s in omega (arith, n, l)
not_inside [] (x ∷ newer) first earlier older kind part e h l =
    let s : earlier ≡ newer ++ Part kind true part ∷ older = one_less first x earlier (newer ++ Part kind true part ∷ older) e in
    let n : length earlier ≡ length newer + length (Part kind true part ∷ older) = ap (λ (ps : List Packet). length ps) s ∙ length-append newer (Part kind true part ∷ older) in
    omega (arith, n, l)
not_inside (r ∷ row) [] first earlier older kind part e h l =
    let s : r ≡ Part kind true part = same_first r (Part kind true part) (row ++ first ∷ earlier) older e in
    subst (λ (p : Packet). HasNoLast (p ∷ row)) s h
not_inside (r ∷ row) (x ∷ newer) first earlier older kind part e h l =
    not_inside row newer first earlier older kind part (one_less r x (row ++ first ∷ earlier) (newer ++ Part kind true part ∷ older) e) (no_last_rest r row h) l

-- the signal of the earlier place ends first
ends_first : (newer newest : List Packet) (kind code : ℕ) (part last : List ℕ) (older olds row : List Packet) (first : Packet) (earlier : List Packet)
    → newer ++ Part kind true part ∷ older ≡ newest ++ Part code true last ∷ olds → older ≡ row ++ first ∷ earlier → HasNoLast row → length earlier < length olds
    → length older ≤ length olds
ends_first [] [] kind code part last older olds row first earlier e s h l =
    let same : older ≡ olds = one_less (Part kind true part) (Part code true last) older olds e in
    let n : length older ≡ length olds = ap (λ (ps : List Packet). length ps) same in omega (arith, n)
ends_first [] (x ∷ newest) kind code part last older olds row first earlier e s h l =
    absurd (not_inside row newest first earlier olds code last (sym s ∙ one_less (Part kind true part) x older (newest ++ Part code true last ∷ olds) e) h l)
ends_first (x ∷ newer) [] kind code part last older olds row first earlier e s h l =
    let same : newer ++ Part kind true part ∷ older ≡ olds = one_less x (Part code true last) (newer ++ Part kind true part ∷ older) olds e in
    let n : length olds ≡ length newer + length (Part kind true part ∷ older) = ap (λ (ps : List Packet). length ps) (sym same) ∙ length-append newer (Part kind true part ∷ older) in
    omega (arith, n)
ends_first (x ∷ newer) (y ∷ newest) kind code part last older olds row first earlier e s h l =
    ends_first newer newest kind code part last older olds row first earlier (one_less x y (newer ++ Part kind true part ∷ older) (newest ++ Part code true last ∷ olds) e) s h l

pub ended_first : (P : List Packet → List ℕ → Type 0) (packets : List Packet) (place next : ℕ) (octets others : List ℕ) (x : IsEnded P packets place octets) (y : IsEnded P packets next others)
    → place < next → length x.older ≤ length y.older
ended_first P packets place next octets others x y l =
    let n : length y.older ≡ length y.row + length (y.first ∷ y.earlier) = ap (λ (ps : List Packet). length ps) y.row_is ∙ length-append y.row (y.first ∷ y.earlier) in
    let a : length x.earlier ≡ place = x.at in
    let b : length y.earlier ≡ next = y.at in
    ends_first x.newer y.newer x.kind y.kind x.part y.part x.older y.older x.row x.first x.earlier (sym x.split ∙ y.split) x.row_is x.no_last (omega (arith, n, a, b, l))

-- EVENTS
record Longer (events before : List CallEvent) : Type 0 where
  event : CallEvent
  more : List CallEvent
  is : events ≡ event ∷ more ++ before

record Within (events before : List CallEvent) : Type 0 where
  more : List CallEvent
  is : events ≡ more ++ before

rest_events : (d e : CallEvent) (ds es : List CallEvent) → d ∷ ds ≡ e ∷ es → ds ≡ es
rest_events d e ds es h = cc

one_within : (later others es ds : List CallEvent) → later ++ es ≡ others ++ ds → Longer es ds ⊎ Within ds es
one_within [] [] es ds h = inr (record { more = []; is = sym h })
one_within [] (x ∷ others) es ds h = inl (record { event = x; more = others; is = h })
one_within (x ∷ later) [] es ds h = inr (record { more = x ∷ later; is = sym h })
one_within (x ∷ later) (y ∷ others) es ds h = one_within later others es ds (rest_events x y (later ++ es) (others ++ ds) h)

with_length : (o : Option Packet) (packets : List Packet) → length packets ≤ length (packets_with o packets)
with_length None packets = omega arith
with_length (Some p) packets = omega arith

ends_length : (o : Option Packet) (packets : List Packet) → ends_signal o ≡ true → length packets < length (packets_with o packets)
ends_length None packets e = cc
ends_length (Some p) packets e = omega arith

more_given : (writes : Writing) (job : JobValue) (begun : CallerCore) (more before : List CallEvent) → length (packets_given writes job begun before) ≤ length (packets_given writes job begun (more ++ before))
more_given writes job begun [] before = omega arith
more_given writes job begun (Comes piece now ∷ more) before = more_given writes job begun more before
more_given writes job begun (Ticks now ∷ more) before =
    let l : length (packets_given writes job begun before) ≤ length (packets_given writes job begun (more ++ before)) = more_given writes job begun more before in
    let k : length (packets_given writes job begun (more ++ before)) ≤ length (packets_given writes job begun (Ticks now ∷ more ++ before)) =
    with_length (ticked writes job (after_events writes job begun (more ++ before)) now).given (packets_given writes job begun (more ++ before)) in
    omega (arith, l, k)

pub images_in_order : (writes : Writing) (job : JobValue) (old : List Mark) (begun : CallerCore) (events : List CallEvent) (octets others : List ℕ)
    (x : IsImage writes job old begun events octets) (y : IsImage writes job old begun events others)
    → length (packets_given writes job begun x.before) ≤ length (packets_given writes job begun y.before) → x.page ≤ y.page
images_in_order writes job old begun events octets others x y l =
    by (one_within x.later y.later (Ticks x.now ∷ x.before) (Ticks y.now ∷ y.before) (sym x.split ∙ y.split))
  where
    some_page : (m : ℕ) (n : ℕ) → IsFrom m (Some n) → m ≤ n
    some_page m n f = let e : Some n ≡ Some f.page = f.is in let same : n ≡ f.page = cc in let k : m ≤ f.page = f.later in omega (arith, same, k)

    by : Longer (Ticks x.now ∷ x.before) (Ticks y.now ∷ y.before) ⊎ Within (Ticks y.now ∷ y.before) (Ticks x.now ∷ x.before) → x.page ≤ y.page
    by (inl g) =
        let same : x.before ≡ g.more ++ Ticks y.now ∷ y.before = rest_events (Ticks x.now) g.event x.before (g.more ++ Ticks y.now ∷ y.before) g.is in
        let count : length (packets_given writes job begun x.before) ≡ length (packets_given writes job begun (g.more ++ Ticks y.now ∷ y.before)) = ap (λ (es : List CallEvent). length (packets_given writes job begun es)) same in
        let more : length (packets_given writes job begun (Ticks y.now ∷ y.before)) ≤ length (packets_given writes job begun (g.more ++ Ticks y.now ∷ y.before)) = more_given writes job begun g.more (Ticks y.now ∷ y.before) in
        let one : length (packets_given writes job begun y.before) < length (packets_given writes job begun (Ticks y.now ∷ y.before)) =
        ends_length (ticked writes job (after_events writes job begun y.before) y.now).given (packets_given writes job begun y.before) y.ends in
        absurd (omega (arith, l, count, more, one))
    by (inr g) =
        let m : MarksOn (marks_after writes job old begun (g.more ++ Ticks x.now ∷ x.before)) (marks_after writes job old begun (Ticks x.now ∷ x.before)) = marks_on writes job old begun g.more (Ticks x.now ∷ x.before) in
        let is : marks_after writes job old begun (Ticks y.now ∷ y.before) ≡ m.more ++ marks_after writes job old begun (Ticks x.now ∷ x.before) =
        ap (λ (es : List CallEvent). marks_after writes job old begun es) g.is ∙ m.is in
        some_page x.page y.page
        (emitted_in_order job m.more (marks_after writes job old begun (Ticks x.now ∷ x.before)) x.page (Some y.page) m.none x.emitted
        (subst (λ (ms : List Mark). Emits job ms (Some y.page)) is y.emitted))

-- of two signals of the packets that a call gave
pub later_page : (writes : Writing) (job : JobValue) (old : List Mark) (begun : CallerCore) (events : List CallEvent) (P : List Packet → List ℕ → Type 0) (place next : ℕ) (octets others : List ℕ)
    (x : IsEnded P (packets_given writes job begun events) place octets) (y : IsEnded P (packets_given writes job begun events) next others)
    (b : ComesAfter writes job old begun events x.older octets) (c : ComesAfter writes job old begun events y.older others) → place < next → b.image.page ≤ c.image.page
later_page writes job old begun events P place next octets others x y b c l =
    let k : length x.older ≤ length y.older = ended_first P (packets_given writes job begun events) place next octets others x y l in
    let m : length (packets_given writes job begun b.image.before) ≡ length x.older = ap (λ (ps : List Packet). length ps) b.older_is in
    let n : length (packets_given writes job begun c.image.before) ≡ length y.older = ap (λ (ps : List Packet). length ps) c.older_is in
    images_in_order writes job old begun events octets others b.image c.image (omega (arith, k, m, n))
