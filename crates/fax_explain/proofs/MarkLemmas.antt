-- Marks of what the gateway told: those of a datagram's pieces, one for each.
use Rattle.std.proofs.Common.{◌≡◌, ◌+◌, ℕ, zero, suc, Bool, false, List, [], ◌∷◌, ◌++◌, drop, length, map, replicate, reverse, Option, Some, None, Result, Ok, Err, refl, sym, ◌∙◌, ap, subst, append-nil, append_assoc, arith, count_by, if◌then◌else◌}
use Rattle.std.proofs.Math.Seq.{drop-append_seam}
use Rattle.std.proofs.lemmas.List.{length-map}
use Rattle.std.proofs.lemmas.List.Sums.{sum_by-append, sum_by-cons}
use Rattle.fax_ifp.specs.Elements.{Element, Slot, elements, elements_of}
use Rattle.fax_ifp.specs.Pieces.{Piece, Frame, Start, Octets, End, Gap, pieces, pieces_at, pieces_of}
use Rattle.fax_ifp.specs.Tracked.{lost_slots}
use Rattle.fax_udptl.specs.declared.fault.UdptlFault.{UdptlFault}
use Rattle.fax_udptl.specs.Datagrams.{DatagramValue, datagram_of}
use Rattle.fax_udptl.specs.Slots.{newest_slots}
use Rattle.fax_udptl.specs.Taking.{DecidedValue, Decides}
use Rattle.fax_answer.specs.Calls as answering
use Rattle.fax_answer.specs.Calls.{AnswererCore}
use Rattle.fax_answer.specs.Table.{Reading}
use Rattle.fax_answer.specs.Watching as answer
use Rattle.fax_call.specs.Calls as calling
use Rattle.fax_call.specs.Calls.{CallerCore}
use Rattle.fax_call.specs.Delivery.{is_over}
use Rattle.fax_call.specs.Watching as call
use Rattle.fax_call.specs.Writings.{Writing}
use Rattle.fax_gateway.specs.CallingLegs as calling_legs
use Rattle.fax_gateway.specs.CallingLegs.{CallingLeg, is_idle}
use Rattle.fax_gateway.specs.CalledLegs as called_legs
use Rattle.fax_gateway.specs.CalledLegs.{CalledLeg}
use Rattle.fax_gateway.specs.Legs.{new_pieces}
use Rattle.fax_gateway.specs.Watched.{called_tellings, called_tellings_of, calling_tellings, calling_tellings_of}
use Rattle.fax_notes.specs.declared.answer_notes.AnswerNote.{AnswerNote}
use Rattle.fax_notes.specs.declared.call_notes.CallNote.{CallNote}
use Rattle.fax_notes.specs.AnswerValues.{AnswerNotesValue}
use Rattle.fax_notes.specs.CallValues.{CallNotesValue}
use Rattle.fax_notes.specs.Notes.{KeepsAnswers, KeepsCalls, NotesAnswer, NotesCall, answer_notes, call_notes}
use Rattle.fax_explain.specs.declared.mark.Mark.{Mark}
use Rattle.fax_explain.specs.Heard.{AreAll}
use Rattle.fax_explain.specs.Ladders.{called_marks, caller_marks}
use Rattle.fax_explain.specs.Listening.{has_mark}
use Rattle.fax_explain.specs.Marks.{mark_of_answer, mark_of_call}
use Rattle.fax_explain.specs.Openings.{pieces_after, pieces_in}
use Rattle.fax_explain.proofs.OpenedLemmas.{given_is, newest_more, replicate_more, slots_again, with_one}

-- the marks of a datagram of the caller's are those of what the gateway told
pub caller_marked : (leg : Option CallingLeg) (now : ℕ) (octets : List ℕ) (read : Reading) (marks : List Mark) (notes : List AnswerNote) (old new : AnswerNotesValue) → KeepsAnswers
    → old ≡ record { notes = []; is_lacking = false } → answer.Watches NotesAnswer old new (calling_tellings leg now octets read)
    → (lacking : Bool) → lacking ≡ new.is_lacking → lacking ≡ false → notes ≡ new.notes → marks ≡ map mark_of_answer notes → marks ≡ caller_marks leg now octets read
caller_marked leg now octets read marks notes old new law none told lacking is isnt shown are =
    let kept = law (calling_tellings leg now octets read) old new told (sym is ∙ isnt) in
    are ∙ ap (map mark_of_answer) (shown ∙ kept.1 ∙ ap (λ (o : AnswerNotesValue). o.notes ++ answer_notes (calling_tellings leg now octets read)) none)

-- and those of one of the called machine's
pub called_marked : (writes : Writing) (leg : Option CalledLeg) (now : ℕ) (octets : List ℕ) (marks : List Mark) (notes : List CallNote) (old new : CallNotesValue) → KeepsCalls
    → old ≡ record { notes = []; is_lacking = false } → call.Watches NotesCall old new (called_tellings writes leg now octets)
    → (lacking : Bool) → lacking ≡ new.is_lacking → lacking ≡ false → notes ≡ new.notes → marks ≡ map mark_of_call notes → marks ≡ called_marks writes leg now octets
called_marked writes leg now octets marks notes old new law none told lacking is isnt shown are =
    let kept = law (called_tellings writes leg now octets) old new told (sym is ∙ isnt) in
    are ∙ ap (map mark_of_call) (shown ∙ kept.1 ∙ ap (λ (o : CallNotesValue). o.notes ++ call_notes (called_tellings writes leg now octets)) none)

-- ---- each piece has its mark

-- what elements give after others
since : List Element → List Element → List Piece
since before [] = []
since before (e ∷ es) = since before es ++ pieces_at (es ++ before) e

pieces_both : (es before : List Element) → pieces_of (es ++ before) ≡ pieces_of before ++ since before es
unfolding since
pieces_both [] before = sym (append-nil (pieces_of before))
pieces_both (e ∷ es) before =
    ap (λ (ps : List Piece). ps ++ pieces_at (es ++ before) e) (pieces_both es before) ∙ append_assoc (pieces_of before) (since before es) (pieces_at (es ++ before) e)

-- a packet, packets in a row, and lost slots
one_packet : (before : List Slot) (packet : List ℕ) → pieces (Some packet ∷ before) ≡ pieces before ++ pieces_after before packet
one_packet before packet =
    let es : List Element = reverse (elements_of (Some packet)) in
    let is : pieces (Some packet ∷ before) ≡ pieces before ++ since (elements before) es = pieces_both es (elements before) in
    is ∙ ap (λ (ps : List Piece). pieces before ++ ps) (sym (given_is before packet (since (elements before) es) is))

in_packets : (before : List Slot) (packets : List (List ℕ)) → pieces (reverse (map (λ (x : List ℕ). Some x) packets) ++ before) ≡ pieces before ++ pieces_in before packets
in_packets before [] = sym (append-nil (pieces before))
in_packets before (p ∷ ps) =
    ap (λ (s : List Slot). pieces s) (sym (with_one before p (map (λ (x : List ℕ). Some x) ps))) ∙ in_packets (Some p ∷ before) ps
    ∙ ap (λ (qs : List Piece). qs ++ pieces_in (Some p ∷ before) ps) (one_packet before p) ∙ append_assoc (pieces before) (pieces_after before p) (pieces_in (Some p ∷ before) ps)

in_lost : (n : ℕ) (before : List Slot) → pieces (lost_slots n ++ before) ≡ pieces before ++ replicate n Gap
in_lost zero before = sym (append-nil (pieces before))
in_lost (suc n) before =
    ap (λ (ps : List Piece). ps ++ Gap ∷ []) (in_lost n before) ∙ append_assoc (pieces before) (replicate n Gap) (Gap ∷ [])
    ∙ ap (λ (gaps : List Piece). pieces before ++ gaps) (replicate_more n)

-- so many pieces that have a mark
none_more : (n : ℕ) → n ≡ 0 + n
none_more n = omega arith

one_more : (n : ℕ) → suc n ≡ 1 + n
one_more n = omega arith

counted : (p : Piece) (ps : List Piece) → count_by has_mark (p ∷ ps) ≡ (if◌then◌else◌ {A = ℕ} (has_mark p) 1 0) + count_by has_mark ps
counted p ps = sum_by-cons (λ (y : Piece). if◌then◌else◌ {A = ℕ} (has_mark y) 1 0) p ps

unmarked_gaps : (n : ℕ) → count_by has_mark (replicate n Gap) ≡ 0
unmarked_gaps zero = refl
unmarked_gaps (suc n) = counted Gap (replicate n Gap) ∙ ap (λ (k : ℕ). 0 + k) (unmarked_gaps n)

-- those of the pieces that the gateway hears are those of the packets
same_count : (arrived : List DatagramValue) (d : DatagramValue) (decided : DecidedValue) → Decides arrived d decided
    → count_by has_mark (new_pieces arrived d) ≡ count_by has_mark (pieces_in (lost_slots decided.lost ++ newest_slots arrived) decided.packets)
unfolding new_pieces
same_count arrived d decided h =
    let before : List Slot = newest_slots arrived in
    let lost : List Slot = lost_slots decided.lost ++ before in
    let gaps : List Piece = replicate decided.lost Gap in
    let own : List Piece = pieces_in lost decided.packets in
    let grown : pieces (newest_slots (d ∷ arrived)) ≡ pieces before ++ (gaps ++ own) =
    ap (λ (s : List Slot). pieces s) (newest_more arrived d decided h ∙ slots_again decided before) ∙ in_packets lost decided.packets
    ∙ ap (λ (ps : List Piece). ps ++ own) (in_lost decided.lost before) ∙ append_assoc (pieces before) gaps own in
    let given : new_pieces arrived d ≡ gaps ++ own = ap (λ (ps : List Piece). drop (length (pieces before)) ps) grown ∙ drop-append_seam (pieces before) (gaps ++ own) in
    ap (count_by has_mark) given ∙ sum_by-append (λ (y : Piece). if◌then◌else◌ {A = ℕ} (has_mark y) 1 0) gaps own ∙ ap (λ (k : ℕ). k + count_by has_mark own) (unmarked_gaps decided.lost) ∙ sym (none_more (count_by has_mark own))

answers_counted : (read : Reading) (a : AnswererCore) (ps : List Piece) (now : ℕ) → length (answer_notes (answer.tellings read a ps now)) ≡ count_by has_mark ps
answers_counted read a [] now = refl
answers_counted read a (Frame octets ∷ ps) now = ap (λ (n : ℕ). suc n) (answers_counted read (answering.came read a (Frame octets) now) ps now) ∙ one_more (count_by has_mark ps) ∙ sym (counted (Frame octets) ps)
answers_counted read a (Start kind ∷ ps) now = ap (λ (n : ℕ). suc n) (answers_counted read (answering.came read a (Start kind) now) ps now) ∙ one_more (count_by has_mark ps) ∙ sym (counted (Start kind) ps)
answers_counted read a (Octets octets ∷ ps) now = answers_counted read (answering.came read a (Octets octets) now) ps now ∙ none_more (count_by has_mark ps) ∙ sym (counted (Octets octets) ps)
answers_counted read a (End whole ∷ ps) now = ap (λ (n : ℕ). suc n) (answers_counted read (answering.came read a (End whole) now) ps now) ∙ one_more (count_by has_mark ps) ∙ sym (counted (End whole) ps)
answers_counted read a (Gap ∷ ps) now = answers_counted read (answering.came read a Gap now) ps now ∙ none_more (count_by has_mark ps) ∙ sym (counted Gap ps)

calls_counted : (a : CallerCore) (ps : List Piece) (now : ℕ) → length (call_notes (call.tellings a ps now)) ≡ count_by has_mark ps
calls_counted a [] now = refl
calls_counted a (Frame octets ∷ ps) now = ap (λ (n : ℕ). suc n) (calls_counted (calling.came a (Frame octets) now) ps now) ∙ one_more (count_by has_mark ps) ∙ sym (counted (Frame octets) ps)
calls_counted a (Start kind ∷ ps) now = ap (λ (n : ℕ). suc n) (calls_counted (calling.came a (Start kind) now) ps now) ∙ one_more (count_by has_mark ps) ∙ sym (counted (Start kind) ps)
calls_counted a (Octets octets ∷ ps) now = calls_counted (calling.came a (Octets octets) now) ps now ∙ none_more (count_by has_mark ps) ∙ sym (counted (Octets octets) ps)
calls_counted a (End whole ∷ ps) now = ap (λ (n : ℕ). suc n) (calls_counted (calling.came a (End whole) now) ps now) ∙ one_more (count_by has_mark ps) ∙ sym (counted (End whole) ps)
calls_counted a (Gap ∷ ps) now = calls_counted (calling.came a Gap now) ps now ∙ none_more (count_by has_mark ps) ∙ sym (counted Gap ps)

-- the marks of a datagram in a call are those of its pieces, one for each
abbrev pub AreEach : Option CallingLeg → List Mark → (octets : List ℕ) → Type 0
AreEach None marks octets = Unit {0}
AreEach (Some l) marks octets = is_idle (calling_legs.core_of l).state ≡ false → AreAll marks l.arrived (datagram_of octets)

abbrev pub AreEachCalled : Writing → Option CalledLeg → List Mark → (octets : List ℕ) → Type 0
AreEachCalled writes None marks octets = Unit {0}
AreEachCalled writes (Some l) marks octets = is_over (called_legs.core_of writes l).state ≡ false → AreAll marks l.arrived (datagram_of octets)

caller_each : (l : CallingLeg) (now : ℕ) (read : Reading) (r : Result DatagramValue UdptlFault) → AreAll (map mark_of_answer (answer_notes (calling_tellings_of l now read r))) l.arrived r
caller_each l now read (Ok d) = λ decided h.
    let notes : List AnswerNote = answer_notes (answer.tellings read (calling_legs.core_of l) (new_pieces l.arrived d) now) in
    length-map notes mark_of_answer ∙ answers_counted read (calling_legs.core_of l) (new_pieces l.arrived d) now ∙ same_count l.arrived d decided h
caller_each l now read (Err fault) = refl

pub each_caller : (leg : Option CallingLeg) (now : ℕ) (octets : List ℕ) (read : Reading) → AreEach leg (caller_marks leg now octets read) octets
each_caller None now octets read = tt
each_caller (Some l) now octets read = λ busy.
    subst (λ (b : Bool). AreAll (map mark_of_answer (answer_notes (if◌then◌else◌ {A = List answer.Telling} b [] (calling_tellings_of l now read (datagram_of octets))))) l.arrived (datagram_of octets)) (sym busy)
    (caller_each l now read (datagram_of octets))

called_each : (writes : Writing) (l : CalledLeg) (now : ℕ) (r : Result DatagramValue UdptlFault) → AreAll (map mark_of_call (call_notes (called_tellings_of writes l now r))) l.arrived r
called_each writes l now (Ok d) = λ decided h.
    let notes : List CallNote = call_notes (call.tellings (called_legs.core_of writes l) (new_pieces l.arrived d) now) in
    length-map notes mark_of_call ∙ calls_counted (called_legs.core_of writes l) (new_pieces l.arrived d) now ∙ same_count l.arrived d decided h
called_each writes l now (Err fault) = refl

pub each_called : (writes : Writing) (leg : Option CalledLeg) (now : ℕ) (octets : List ℕ) → AreEachCalled writes leg (called_marks writes leg now octets) octets
each_called writes None now octets = tt
each_called writes (Some l) now octets = λ busy.
    subst (λ (b : Bool). AreAll (map mark_of_call (call_notes (if◌then◌else◌ {A = List call.Telling} b [] (called_tellings_of writes l now (datagram_of octets))))) l.arrived (datagram_of octets)) (sym busy)
    (called_each writes l now (datagram_of octets))
