-- Each frame of slots that are a part of a sender's list is a frame of the list: beside the elements that came go those of the
-- list.
use Rattle.std.proofs.Common.{◌≡◌, ℕ, zero, suc, ◌<◌, Bool, true, false, ◌&&◌, ◌||◌, nat_eq, List, [], ◌∷◌, ◌++◌, map, reverse, take, drop, length, Option, Some, None, Result, Ok, Err, ◌⊎◌, inl, inr, refl, sym, ◌∙◌, ap, subst, arith, if◌then◌else◌, option_map, slice_get, slice_index_or, unwrap_or}
use Rattle.std.specs.Prelude.{Contains}
use Rattle.std.specs.List.{flat_map}
use Rattle.std.proofs.lemmas.List.{map-append}
use Rattle.fax_bits.specs.Losses.{IsPacketAt, AreSlotsBefore}
use Rattle.fax_ifp.specs.declared.fault.IfpFault.{IfpFault}
use Rattle.fax_ifp.specs.Packets.{FieldText, Packet, Indicator, Message, packet_of}
use Rattle.fax_ifp.specs.Elements.{Slot, Element, Missing, Signal, Field, element_of, elements_in, elements_of, elements}
use Rattle.fax_ifp.specs.Pieces.{Piece, Frame, Start, Image, is_image_field, open_image, is_boundary, is_hdlc_data, is_frame_end, has_octet, hdlc_since, frame_if, end_if, end_before, start_if, is_training, kind_of_training, octets_if, image_pieces, pieces_at, pieces_of, pieces}
use Rattle.fax_ifp.specs.Schedules.{slots_of, ends_at_boundary, is_closed, AreClosed, FramesAreSent}
use Rattle.fax_ifp.proofs.SentSignals.{onto, onto_both, onto_is, back, back_is, elements_reversed}

-- a frame is among these pieces
abbrev pub Has : List Piece → List ℕ → Type 0
Has [] o = ⊥
Has (p ∷ q) o = (p ≡ Frame o) ⊎ Has q o

pub has_onto : (ps q : List Piece) (o : List ℕ) → Has (onto ps q) o → Has ps o ⊎ Has q o
has_onto [] q o h = inr h
has_onto (p ∷ ps) q o h = by (has_onto ps (p ∷ q) o h)
  where
    by : Has ps o ⊎ Has (p ∷ q) o → Has (p ∷ ps) o ⊎ Has q o
    by (inl a) = inl (inr a)
    by (inr (inl a)) = inl (inl a)
    by (inr (inr a)) = inr a

pub has_older : (ps q : List Piece) (o : List ℕ) → Has q o → Has (onto ps q) o
has_older [] q o h = h
has_older (p ∷ ps) q o h = has_older ps (p ∷ q) o (inr h)

has_newer : (ps q : List Piece) (o : List ℕ) → Has ps o → Has (onto ps q) o
has_newer [] q o h = absurd h
has_newer (p ∷ ps) q o (inl a) = has_older ps (p ∷ q) o (inl a)
has_newer (p ∷ ps) q o (inr a) = has_newer ps (p ∷ q) o a

pub has_both : (ps qs : List Piece) (o : List ℕ) → Has (ps ++ qs) o → Has ps o ⊎ Has qs o
has_both [] qs o h = inr h
has_both (p ∷ ps) qs o (inl a) = inl (inl a)
has_both (p ∷ ps) qs o (inr h) = by (has_both ps qs o h)
  where
    by : Has ps o ⊎ Has qs o → Has (p ∷ ps) o ⊎ Has qs o
    by (inl a) = inl (inr a)
    by (inr a) = inr a

has_left : (ps qs : List Piece) (o : List ℕ) → Has ps o → Has (ps ++ qs) o
has_left [] qs o h = absurd h
has_left (p ∷ ps) qs o (inl a) = inl a
has_left (p ∷ ps) qs o (inr h) = inr (has_left ps qs o h)

-- image pieces are no frames
no_octets : (os o : List ℕ) → Has (octets_if os) o → ⊥
no_octets [] o h = absurd h
no_octets (x ∷ os) o (inl e) = cc
no_octets (x ∷ os) o (inr h) = absurd h

no_end : (started whole : Bool) (o : List ℕ) → Has (end_if started whole) o → ⊥
no_end true whole o (inl e) = cc
no_end true whole o (inr h) = absurd h
no_end false whole o h = absurd h

pub no_image : (i : Option Image) (kind what : ℕ) (os o : List ℕ) → Has (image_pieces i kind what os) o → ⊥
no_image None kind what os o h = absurd h
no_image (Some i) kind what os o h = by (is_image_field i.kind kind what) (nat_eq what 7) h
  where
    ends : (d : Bool) → Has (if d then end_if (i.started || has_octet os) i.whole else []) o → ⊥
    ends true x = no_end (i.started || has_octet os) i.whole o x
    ends false x = absurd x

    each : (c : Bool) → Has (octets_if os) o ⊎ Has (if c then end_if (i.started || has_octet os) i.whole else []) o → ⊥
    each c (inl a) = no_octets os o a
    each c (inr a) = ends c a

    by : (b c : Bool) → Has (if b then octets_if os ++ (if c then end_if (i.started || has_octet os) i.whole else []) else []) o → ⊥
    by false c g = absurd g
    by true c g = each c (has_both (octets_if os) (if c then end_if (i.started || has_octet os) i.whole else []) o g)

-- what came knows nothing of the frame that stands open, or what the list says
abbrev pub Agrees : List Element → List Element → Type 0
Agrees es xs = (hdlc_since es ≡ None) ⊎ (hdlc_since es ≡ hdlc_since xs)

abbrev pub Among : List Element → List Element → Type 0
Among es xs = (o : List ℕ) → Has (back es) o → Has (back xs) o

-- a field that both have
pub field_agrees : (es xs : List Element) (kind what : ℕ) (os : List ℕ) → Agrees es xs → Agrees (Field kind what os ∷ es) (Field kind what os ∷ xs)
field_agrees es xs kind what os (inr e) =
    inr (ap (λ (f : Option (List ℕ)). if is_boundary kind what then Some [] else if is_hdlc_data kind what then option_map (λ front. front ++ os) f else f) e)
field_agrees es xs kind what os (inl e) = by (is_boundary kind what) (is_hdlc_data kind what) (hdlc_since es) e
  where
    by : (b c : Bool) (f : Option (List ℕ)) → f ≡ None → ((if b then Some [] else if c then option_map (λ front. front ++ os) f else f) ≡ None) ⊎ ((if b then Some [] else if c then option_map (λ front. front ++ os) f else f) ≡ (if b then Some [] else if c then option_map (λ front. front ++ os) (hdlc_since xs) else hdlc_since xs))
    by true c f h = inr refl
    by false true f h = inl (ap (option_map (λ (front : List ℕ). front ++ os)) h)
    by false false f h = inl h

frame_same : (b : Bool) (f g : Option (List ℕ)) (o : List ℕ) → (f ≡ None) ⊎ (f ≡ g) → Has (if b then frame_if f else []) o → Has (if b then frame_if g else []) o
frame_same false f g o a h = absurd h
frame_same true f g o (inl e) h = absurd (subst (λ (x : Option (List ℕ)). Has (frame_if x) o) e h)
frame_same true f g o (inr e) h = subst (λ (x : Option (List ℕ)). Has (frame_if x) o) e h

pub field_among : (es xs : List Element) (kind what : ℕ) (os : List ℕ) → Agrees es xs → Among es xs → Among (Field kind what os ∷ es) (Field kind what os ∷ xs)
field_among es xs kind what os a m o h = by (has_onto (pieces_at es (Field kind what os)) (back es) o h)
  where
    here : Has (if is_frame_end kind what then frame_if (hdlc_since es) else []) o ⊎ Has (image_pieces (open_image es) kind what os) o → Has (onto (pieces_at xs (Field kind what os)) (back xs)) o
    here (inl x) =
        has_newer (pieces_at xs (Field kind what os)) (back xs) o
        (has_left (if is_frame_end kind what then frame_if (hdlc_since xs) else []) (image_pieces (open_image xs) kind what os) o (frame_same (is_frame_end kind what) (hdlc_since es) (hdlc_since xs) o a x))
    here (inr x) = absurd (no_image (open_image es) kind what os o x)

    by : Has (pieces_at es (Field kind what os)) o ⊎ Has (back es) o → Has (onto (pieces_at xs (Field kind what os)) (back xs)) o
    by (inl x) = here (has_both (if is_frame_end kind what then frame_if (hdlc_since es) else []) (image_pieces (open_image es) kind what os) o x)
    by (inr x) = has_older (pieces_at xs (Field kind what os)) (back xs) o (m o x)

-- a signal that both have
no_end_before : (i : Option Image) (o : List ℕ) → Has (end_before i) o → ⊥
no_end_before None o h = absurd h
no_end_before (Some i) o h = no_end i.started i.whole o h

no_start : (code : ℕ) (o : List ℕ) → Has (start_if code) o → ⊥
no_start code o h = by (is_training code) h
  where
    by : (b : Bool) → Has (if b then Start (kind_of_training code) ∷ [] else []) o → ⊥
    by true (inl e) = cc
    by true (inr h) = absurd h
    by false h = absurd h

signal_among : (es xs : List Element) (code : ℕ) → Among es xs → Among (Signal code ∷ es) (Signal code ∷ xs)
signal_among es xs code m o h = by (has_onto (pieces_at es (Signal code)) (back es) o h)
  where
    here : Has (end_before (open_image es)) o ⊎ Has (start_if code) o → ⊥
    here (inl x) = no_end_before (open_image es) o x
    here (inr x) = no_start code o x

    by : Has (pieces_at es (Signal code)) o ⊎ Has (back es) o → Has (onto (pieces_at xs (Signal code)) (back xs)) o
    by (inl x) = absurd (here (has_both (end_before (open_image es)) (start_if code) o x))
    by (inr x) = has_older (pieces_at xs (Signal code)) (back xs) o (m o x)

-- what stands beside what came
record Beside (es xs : List Element) : Type 0 where
  agrees : Agrees es xs
  among : Among es xs

-- more elements of the list alone
grown : (more xs : List Element) (o : List ℕ) → Has (back xs) o → Has (back (onto more xs)) o
grown [] xs o h = h
grown (e ∷ more) xs o h = grown more (e ∷ xs) o (has_older (pieces_at xs e) (back xs) o h)

lost : (es xs more : List Element) → Beside es xs → Beside (Missing ∷ es) (onto more xs)
lost es xs more b = record { agrees = inl refl; among = λ o h. by o h }
  where
    by : (o : List ℕ) → Has (back (Missing ∷ es)) o → Has (back (onto more xs)) o
    by o (inl e) = cc
    by o (inr h) = grown more xs o (b.among o h)

-- the same elements of both
one_beside : (e : Element) (es xs : List Element) → Beside es xs → Beside (e ∷ es) (e ∷ xs)
one_beside Missing es xs b = lost es xs (Missing ∷ []) b
one_beside (Signal code) es xs b = record { agrees = inr refl; among = signal_among es xs code b.among }
one_beside (Field kind what os) es xs b = record { agrees = field_agrees es xs kind what os b.agrees; among = field_among es xs kind what os b.agrees b.among }

all_beside : (more es xs : List Element) → Beside es xs → Beside (onto more es) (onto more xs)
all_beside [] es xs b = b
all_beside (e ∷ more) es xs b = all_beside more (e ∷ es) (e ∷ xs) (one_beside e es xs b)

-- the elements of the first packets of the list
abbrev front : List (List ℕ) → ℕ → List Element
front packets n = elements (slots_of (take n packets))

taken : (packets : List (List ℕ)) (n : ℕ) (packet : List ℕ) → slice_get packets n ≡ Some packet → take (suc n) packets ≡ take n packets ++ packet ∷ []
taken [] n packet h = cc
taken (p ∷ packets) zero packet h = ap (λ (x : List ℕ). x ∷ []) (let e : p ≡ packet = cc in e)
taken (p ∷ packets) (suc n) packet h = ap (λ (ps : List (List ℕ)). p ∷ ps) (taken packets n packet h)

not_taken : (packets : List (List ℕ)) (n : ℕ) → slice_get packets n ≡ None → take (suc n) packets ≡ take n packets
not_taken [] zero h = refl
not_taken [] (suc n) h = refl
not_taken (p ∷ packets) zero h = cc
not_taken (p ∷ packets) (suc n) h = ap (λ (ps : List (List ℕ)). p ∷ ps) (not_taken packets n h)

one_packet : (packets : List (List ℕ)) (n : ℕ) (packet : List ℕ) → slice_get packets n ≡ Some packet → front packets (suc n) ≡ onto (elements_of (Some packet)) (front packets n)
one_packet packets n packet h =
    ap (λ (ps : List (List ℕ)). elements (slots_of ps)) (taken packets n packet h)
    ∙ ap (λ (ss : List Slot). elements (reverse ss)) (map-append (λ (p : List ℕ). Some p) (take n packets) (packet ∷ []))
    ∙ ap elements (onto_both (map Some (take n packets)) (Some packet ∷ []) [])
    ∙ sym (onto_is (elements_of (Some packet)) (front packets n))

-- at the edge of a closed packet no frame stands open
some_field : (kind : ℕ) (f : FieldText) (fields : List FieldText) (es : List Element) → kind ≡ 0 → ends_at_boundary (f ∷ fields) ≡ true → hdlc_since (onto (map (element_of kind) (f ∷ fields)) es) ≡ Some []
some_field kind f [] es z h =
    ap (λ (b : Bool). if b then Some [] else if is_hdlc_data kind f.what then option_map (λ front. front ++ unwrap_or f.octets []) (hdlc_since es) else hdlc_since es) (ap (λ (k : ℕ). is_boundary k f.what) z ∙ h)
some_field kind f (g ∷ fields) es z h = some_field kind g fields (element_of kind f ∷ es) z h

not_v21 : (kind : ℕ) → nat_eq (suc kind) 0 ≡ false
not_v21 kind = grind (arith)

one_image_field : (kind what : ℕ) (os : List ℕ) (es : List Element) → hdlc_since (Field (suc kind) what os ∷ es) ≡ hdlc_since es
one_image_field kind what os es = by (nat_eq (suc kind) 0) (not_v21 kind)
  where
    by : (b : Bool) → b ≡ false → (if b && is_boundary 0 what then Some [] else if b && nat_eq what 0 then option_map (λ front. front ++ os) (hdlc_since es) else hdlc_since es) ≡ hdlc_since es
    by true e = cc
    by false e = refl

image_fields_keep : (kind : ℕ) (fields : List FieldText) (es : List Element) → hdlc_since (onto (map (element_of (suc kind)) fields) es) ≡ hdlc_since es
image_fields_keep kind [] es = refl
image_fields_keep kind (f ∷ fields) es = image_fields_keep kind fields (element_of (suc kind) f ∷ es) ∙ one_image_field kind f.what (unwrap_or f.octets []) es

closed_edge : (r : Result Packet IfpFault) (es : List Element) → is_closed r ≡ true → hdlc_since es ≡ Some [] → hdlc_since (onto (elements_in r) es) ≡ Some []
closed_edge (Ok (Indicator code)) es c h = refl
closed_edge (Ok (Message zero [])) es c h = h
closed_edge (Ok (Message zero (f ∷ fields))) es c h = some_field 0 f fields es refl c
closed_edge (Ok (Message (suc kind) fields)) es c h = image_fields_keep kind fields es ∙ h
closed_edge (Err fault) es c h = cc

closed_at : (packets : List (List ℕ)) (n : ℕ) (packet : List ℕ) → AreClosed packets → slice_get packets n ≡ Some packet → is_closed (packet_of packet) ≡ true
closed_at [] n packet c h = cc
closed_at (p ∷ packets) zero packet c h = ap (λ (x : List ℕ). is_closed (packet_of x)) (let e : packet ≡ p = cc in e) ∙ c.0
closed_at (p ∷ packets) (suc n) packet c h = closed_at packets n packet c.1 h

closed_front : (packets : List (List ℕ)) (n : ℕ) → AreClosed packets → hdlc_since (front packets n) ≡ Some []
closed_front packets zero c = refl
closed_front packets (suc n) c = by (closed_front packets n c) (slice_get packets n) refl
  where
    by : hdlc_since (front packets n) ≡ Some [] → (o : Option (List ℕ)) → slice_get packets n ≡ o → hdlc_since (front packets (suc n)) ≡ Some []
    by h None e = ap (λ (ps : List (List ℕ)). hdlc_since (elements (slots_of ps))) (not_taken packets n e) ∙ h
    by h (Some packet) e = ap hdlc_since (one_packet packets n packet e) ∙ closed_edge (packet_of packet) (front packets n) (closed_at packets n packet c e) h

-- the slots beside the list
begun : (packets : List (List ℕ)) (next : ℕ) → (next ≡ 0) ⊎ AreClosed packets → Beside [] (front packets next)
begun packets next (inl z) = record { agrees = inr (sym (ap (λ (n : ℕ). hdlc_since (front packets n)) z)); among = λ o h. absurd h }
begun packets next (inr c) = record { agrees = inr (sym (closed_front packets next c)); among = λ o h. absurd h }

slot_beside : (packets : List (List ℕ)) (place : ℕ) (slot : Slot) (es : List Element) → IsPacketAt packets place slot → Beside es (front packets place) → Beside (onto (elements_of slot) es) (front packets (suc place))
slot_beside packets place slot es is b = by slot (slice_get packets place) refl is
  where
    by : (s o : Slot) → slice_get packets place ≡ o → (s ≡ None) ⊎ (s ≡ slice_get packets place) → Beside (onto (elements_of s) es) (front packets (suc place))
    by None None e h = subst (λ (ps : List (List ℕ)). Beside (Missing ∷ es) (elements (slots_of ps))) (sym (not_taken packets place e)) (lost es (front packets place) [] b)
    by None (Some packet) e h = subst (λ (xs : List Element). Beside (Missing ∷ es) xs) (sym (one_packet packets place packet e)) (lost es (front packets place) (elements_of (Some packet)) b)
    by (Some p) None e (inl h) = cc
    by (Some p) None e (inr h) = absurd (let x : Some p ≡ None = h ∙ e in cc)
    by (Some p) (Some packet) e (inl h) = cc
    by (Some p) (Some packet) e (inr h) =
        let same : Some packet ≡ Some p = sym e ∙ sym h in
        subst (λ (xs : List Element). Beside (onto (elements_of (Some p)) es) xs) (sym (one_packet packets place p (sym h)))
        (all_beside (elements_of (Some p)) es (front packets place) b)

slots_beside : (packets : List (List ℕ)) (next : ℕ) (slots : List Slot) → AreSlotsBefore packets next slots → (next ≡ length slots) ⊎ AreClosed packets → Beside (elements slots) (front packets next)
slots_beside packets next [] h w = begun packets next w
slots_beside packets zero (slot ∷ before) h w = absurd h
slots_beside packets (suc place) (slot ∷ before) h w =
    subst (λ (es : List Element). Beside es (front packets (suc place))) (onto_is (elements_of slot) (elements before))
    (slot_beside packets place slot (elements before) h.0 (slots_beside packets place before h.1 (less w)))
  where
    less : (suc place ≡ suc (length before)) ⊎ AreClosed packets → (place ≡ length before) ⊎ AreClosed packets
    less (inl e) = inl (omega (arith, e))
    less (inr c) = inr c

-- the whole list
halves : (packets : List (List ℕ)) (n : ℕ) → packets ≡ take n packets ++ drop n packets
halves packets zero = refl
halves [] (suc n) = refl
halves (p ∷ packets) (suc n) = ap (λ (ps : List (List ℕ)). p ∷ ps) (halves packets n)

whole_list : (packets : List (List ℕ)) (n : ℕ) → elements (slots_of packets) ≡ onto (flat_map elements_of (map Some (drop n packets))) (front packets n)
whole_list packets n =
    ap (λ (ps : List (List ℕ)). elements (slots_of ps)) (halves packets n)
    ∙ ap (λ (ss : List Slot). elements (reverse ss)) (map-append (λ (p : List ℕ). Some p) (take n packets) (drop n packets))
    ∙ ap elements (onto_both (map Some (take n packets)) (map Some (drop n packets)) [])
    ∙ elements_reversed (map Some (drop n packets)) (slots_of (take n packets))

pub contained : (ps : List Piece) (o : List ℕ) (k : ℕ) → k < length ps → slice_index_or ps k (Frame o) ≡ Frame o → Has ps o
contained [] o k l e = absurd (omega (arith, l))
contained (p ∷ ps) o zero l e = inl e
contained (p ∷ ps) o (suc k) l e = inr (contained ps o k (omega arith) e)

pub contains : (ps : List Piece) (o : List ℕ) → Has ps o → Contains ps (Frame o)
contains [] o h = absurd h
contains (p ∷ ps) o (inl e) = (0, omega arith, e)
contains (p ∷ ps) o (inr h) = let c = contains ps o h in let l : c.0 < length ps = c.1 in (suc c.0, omega arith, c.2)

in_back : (es : List Element) (o : List ℕ) → Has (pieces_of es) o → Has (back es) o
in_back es o h = subst (λ (q : List Piece). Has q o) (back_is es) (has_newer (pieces_of es) [] o h)

in_front : (es : List Element) (o : List ℕ) → Has (back es) o → Has (pieces_of es) o
in_front es o h = by (has_onto (pieces_of es) [] o (subst (λ (q : List Piece). Has q o) (sym (back_is es)) h))
  where
    by : Has (pieces_of es) o ⊎ Has [] o → Has (pieces_of es) o
    by (inl x) = x
    by (inr x) = absurd x

pub frames_are_sent : FramesAreSent
frames_are_sent packets next slots h w octets c =
    let b : Beside (elements slots) (front packets next) = slots_beside packets next slots h w in
    let x : Has (back (front packets next)) octets = b.among octets (in_back (elements slots) octets (contained (pieces slots) octets c.0 c.1 c.2)) in
    contains (pieces (slots_of packets)) octets
    (in_front (elements (slots_of packets)) octets
    (subst (λ (es : List Element). Has (back es) octets) (sym (whole_list packets next))
    (grown (flat_map elements_of (map Some (drop next packets))) (front packets next) octets x)))
