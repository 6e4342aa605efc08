-- What a packet brings to who hears it.
use Rattle.std.proofs.Common.{◌≡◌, ℕ, ◌<◌, ◌≤◌, nat_eq, nat_le, Bool, true, false, not, ◌&&◌, ◌||◌, List, [], ◌∷◌, ◌++◌, length, drop, reverse, Option, Some, None, if◌then◌else◌, refl, sym, ◌∙◌, ap, arith, append-nil, eq-eqb}
use Rattle.std.specs.List.{list_any, list_all}
use Rattle.std.proofs.Math.Seq.{drop-append_seam}
use Rattle.std.proofs.lemmas.List.Elements.{All-from_recursion}
use Rattle.fax_ifp.specs.Elements.{Slot, Element, Signal, Field, elements, elements_in}
use Rattle.fax_ifp.specs.Packets.{packet_of}
use Rattle.fax_ifp.specs.WrittenPackets.{IsWritableField, frame_fields, image_fields}
use Rattle.fax_ifp.specs.Pieces.{Piece, Frame, Octets, End, Since, Image, has_octet, is_training, kind_of_training, is_image_end, is_image_octets, is_image_part, since_indicator, with_later, image_of, image_since, open_image, hdlc_since, frame_if, start_if, end_before, octets_if, image_pieces, end_if, pieces_of, pieces}
use Rattle.fax_ifp.specs.Tracked.{TrackState, kept}
use Rattle.fax_ifp.proofs.OctetsLemmas.{leaves}
use Rattle.fax_ifp.proofs.ReadBackLemmas.{indicators, messages_back}
use Rattle.fax_call.specs.Replies.{Signals, Tells, Part, written}
use Rattle.fax_laws.specs.delivery.Links.{pieces_with}

-- what is written is read back
signal_back : (code : ℕ) → code < 16 → elements_in (packet_of (written (Signals code))) ≡ Signal code ∷ []
signal_back code h = ap elements_in (indicators code (omega arith))

frame_back : (frame : List ℕ) → 1 ≤ length frame → length frame ≤ 256 → elements_in (packet_of (written (Tells frame))) ≡ Field 0 0 frame ∷ Field 0 4 [] ∷ []
frame_back frame some few =
    ap elements_in
    (messages_back 0 (frame_fields frame) (record {
      known = omega arith;
      few = omega arith;
      each = All-from_recursion IsWritableField (frame_fields frame) (record { what = omega arith; octets = (some, omega arith) }, (record { what = omega arith; octets = tt }, tt));
    }))

part_back : (last : Bool) (octets : List ℕ) → 1 ≤ length octets → length octets ≤ 65535 → elements_in (packet_of (written (Part 8 last octets))) ≡ Field 8 (if last then 7 else 6) octets ∷ []
part_back last octets some few =
    ap elements_in
    (messages_back 8 (image_fields last octets) (record {
      known = omega arith;
      few = omega arith;
      each = All-from_recursion IsWritableField (image_fields last octets) (record { what = what_is last; octets = (some, few) }, tt);
    }))
  where
    what_is : (end : Bool) → (if end then 7 else 6) ≤ 7
    what_is true = omega arith
    what_is false = omega arith

-- one more packet brings what its elements give
pub brings : (packet : List ℕ) (before : List Slot) (more : List Piece) → pieces (Some packet ∷ before) ≡ pieces before ++ more → pieces_with (Some packet) false before ≡ more
unfolding pieces_with
brings packet before more is = ap (λ (ps : List Piece). drop (length (pieces before)) ps) is ∙ drop-append_seam (pieces before) more

-- no image is open
abbrev pub IsClosed : List Slot → Type 0
IsClosed slots = open_image (elements slots) ≡ None

-- AN INDICATOR
pub signal_elements : (code : ℕ) (before : List Slot) → code < 16 → elements (Some (written (Signals code)) ∷ before) ≡ Signal code ∷ elements before
signal_elements code before h = ap (λ (es : List Element). reverse es ++ elements before) (signal_back code h)

pub signal_brings : (code : ℕ) (before : List Slot) → code < 16 → IsClosed before → pieces_with (Some (written (Signals code))) false before ≡ start_if code
signal_brings code before h closed =
    brings (written (Signals code)) before (start_if code)
    (ap pieces_of (signal_elements code before h)
    ∙ ap (λ (i : Option Image). pieces before ++ (end_before i ++ start_if code)) closed)

pub signal_opens : (code : ℕ) (before : List Slot) → code < 16 → open_image (elements (Some (written (Signals code)) ∷ before)) ≡ image_of (record { code = code; later = [] })
signal_opens code before h = ap open_image (signal_elements code before h)

-- the tone, the preamble: no image
abbrev pub after_preamble : List Slot → List Slot
after_preamble before = Some (written (Signals 3)) ∷ before

pub preamble_brings : (before : List Slot) → IsClosed before → pieces_with (Some (written (Signals 3))) false before ≡ []
preamble_brings before closed = signal_brings 3 before (omega arith) closed

pub preamble_closes : (before : List Slot) → IsClosed (after_preamble before)
preamble_closes before = signal_opens 3 before (omega arith)

-- A FRAME after its preamble
abbrev pub after_frame : List ℕ → List Slot → List Slot
after_frame frame before = Some (written (Tells frame)) ∷ after_preamble before

frame_elements : (frame : List ℕ) (before : List Slot) → 1 ≤ length frame → length frame ≤ 256 → elements (after_frame frame before) ≡ Field 0 4 [] ∷ Field 0 0 frame ∷ Signal 3 ∷ elements before
frame_elements frame before some few =
    ap (λ (es : List Element). reverse es ++ elements (after_preamble before)) (frame_back frame some few)
    ∙ ap (λ (es : List Element). Field 0 4 [] ∷ Field 0 0 frame ∷ es) (signal_elements 3 before (omega arith))

frame_fits : (frame : List ℕ) → 1 ≤ length frame → length frame ≤ 256 → frame_if (Some frame) ≡ Frame frame ∷ []
frame_fits frame some few =
    let low : nat_le 1 (length frame) ≡ true = grind (arith) in
    let high : nat_le (length frame) 256 ≡ true = grind (arith) in
    ap (λ (b : Bool). if◌then◌else◌ {A = List Piece} (b && nat_le (length frame) 256) (Frame frame ∷ []) []) low
    ∙ ap (λ (b : Bool). if◌then◌else◌ {A = List Piece} b (Frame frame ∷ []) []) high

pub frame_brings : (frame : List ℕ) (before : List Slot) → 1 ≤ length frame → length frame ≤ 256 → pieces_with (Some (written (Tells frame))) false (after_preamble before) ≡ Frame frame ∷ []
frame_brings frame before some few =
    let es : List Element = Signal 3 ∷ elements before in
    let all : List Element = Field 0 4 [] ∷ Field 0 0 frame ∷ es in
    let front : pieces (after_preamble before) ≡ pieces_of es = ap pieces_of (signal_elements 3 before (omega arith)) in
    let at : pieces_of all ≡ pieces_of es ++ (Frame frame ∷ []) =
    ap (λ (ps : List Piece). (pieces_of es ++ []) ++ (ps ++ [])) (frame_fits frame some few)
    ∙ ap (λ (ps : List Piece). ps ++ (Frame frame ∷ [])) (append-nil (pieces_of es)) in
    brings (written (Tells frame)) (after_preamble before) (Frame frame ∷ [])
    (ap pieces_of (frame_elements frame before some few) ∙ at ∙ ap (λ (ps : List Piece). ps ++ (Frame frame ∷ [])) (sym front))

pub frame_closes : (frame : List ℕ) (before : List Slot) → 1 ≤ length frame → length frame ≤ 256 → IsClosed (after_frame frame before)
frame_closes frame before some few = ap open_image (frame_elements frame before some few)

-- PARTS OF AN IMAGE of 14,400 bits a second, which is whole so far
abbrev pub image_8 : Bool → Image
image_8 started = record { kind = 8; started = started; whole = true }

pub record IsImaging (slots : List Slot) : Type 0 where
  pub started : Bool
  pub shown : open_image (elements slots) ≡ Some (image_8 started)

part_elements : (last : Bool) (octets : List ℕ) (before : List Slot) → 1 ≤ length octets → length octets ≤ 65535 →
    elements (Some (written (Part 8 last octets)) ∷ before) ≡ Field 8 (if last then 7 else 6) octets ∷ elements before
part_elements last octets before some few = ap (λ (es : List Element). reverse es ++ elements before) (part_back last octets some few)

has_some : (octets : List ℕ) → 1 ≤ length octets → has_octet octets ≡ true
has_some [] h = absurd (omega (arith, h))
has_some (o ∷ octets) h = refl

some_octets : (octets : List ℕ) → 1 ≤ length octets → octets_if octets ≡ Octets octets ∷ []
some_octets [] h = absurd (omega (arith, h))
some_octets (o ∷ octets) h = refl

pub part_brings : (octets : List ℕ) (before : List Slot) → 1 ≤ length octets → length octets ≤ 65535 → IsImaging before → pieces_with (Some (written (Part 8 false octets))) false before ≡ Octets octets ∷ []
part_brings octets before some few i =
    brings (written (Part 8 false octets)) before (Octets octets ∷ [])
    (ap pieces_of (part_elements false octets before some few)
    ∙ ap (λ (o : Option Image). pieces before ++ image_pieces o 8 6 octets) i.shown
    ∙ ap (λ (ps : List Piece). pieces before ++ (ps ++ [])) (some_octets octets some))

pub part_goes_on : (octets : List ℕ) (before : List Slot) → 1 ≤ length octets → length octets ≤ 65535 → IsImaging before → IsImaging (Some (written (Part 8 false octets)) ∷ before)
part_goes_on octets before some few i =
    let es : List Element = elements before in
    let old : TrackState = record { frame = kept (hdlc_since es); image = Some (image_8 i.started) } in
    let new = leaves es old (image_8 i.started) octets refl (has_some octets some) (record { frame = refl; image = sym i.shown }) in
    record { started = true; shown = ap open_image (part_elements false octets before some few) ∙ sym new.image }

pub end_brings : (octets : List ℕ) (before : List Slot) → 1 ≤ length octets → length octets ≤ 65535 → IsImaging before → pieces_with (Some (written (Part 8 true octets))) false before ≡ Octets octets ∷ End true ∷ []
end_brings octets before some few i =
    brings (written (Part 8 true octets)) before (Octets octets ∷ End true ∷ [])
    (ap pieces_of (part_elements true octets before some few)
    ∙ ap (λ (o : Option Image). pieces before ++ image_pieces o 8 7 octets) i.shown
    ∙ ap (λ (ps : List Piece). pieces before ++ (ps ++ end_if (i.started || has_octet octets) true)) (some_octets octets some)
    ∙ ap (λ (b : Bool). pieces before ++ (Octets octets ∷ end_if (i.started || b) true)) (has_some octets some)
    ∙ ap (λ (b : Bool). pieces before ++ (Octets octets ∷ end_if b true)) (either i.started))
  where
    either : (b : Bool) → (b || true) ≡ true
    either true = refl
    either false = refl

abbrev open_if : Bool → ℕ → Bool → Bool → Option Image
open_if over kind started whole = if over then None else Some (record { kind = kind; started = started; whole = whole })

kind_is : (kind : ℕ) (started whole first : Bool) → open_if false kind started whole ≡ Some (image_8 first) → kind ≡ 8
kind_is kind started whole first h =
    let found : Image = record { kind = kind; started = started; whole = whole } in
    let same : found ≡ image_8 first = cc in
    ap (λ (i : Image). i.kind) same

closing : (training ended : Bool) (kind : ℕ) (started whole first later all : Bool) → open_if (not training || ended) kind started whole ≡ Some (image_8 first)
    → open_if (not training || ((nat_eq 8 kind && true) || ended)) kind later all ≡ None
closing false ended kind started whole first later all h = refl
closing true true kind started whole first later all h = cc
closing true false kind started whole first later all h =
    let eight : nat_eq 8 kind ≡ true = eq-eqb 8 kind (sym (kind_is kind started whole first h)) in
    ap (λ (b : Bool). open_if ((b && true) || false) kind later all) eight

closes_by : (s : Option Since) (octets : List ℕ) (started : Bool) → image_since s ≡ Some (image_8 started) → image_since (with_later (Field 8 7 octets) s) ≡ None
closes_by None octets started h = cc
closes_by (Some s) octets started h =
    let k : ℕ = kind_of_training s.code in
    closing (is_training s.code) (list_any (is_image_end k) s.later) k (list_any (is_image_octets k) s.later) (list_all (is_image_part k) s.later) started
    (list_any (is_image_octets k) (Field 8 7 octets ∷ s.later)) (list_all (is_image_part k) (Field 8 7 octets ∷ s.later)) h

pub end_closes : (octets : List ℕ) (before : List Slot) → 1 ≤ length octets → length octets ≤ 65535 → IsImaging before → IsClosed (Some (written (Part 8 true octets)) ∷ before)
end_closes octets before some few i = ap open_image (part_elements true octets before some few) ∙ closes_by (since_indicator (elements before)) octets i.started i.shown
