-- The whole images of slots that are a part of a sender's list are signals of the list, at rising places.
use Rattle.std.proofs.Common.{◌≡◌, ℕ, zero, suc, ◌+◌, ◌-◌, ◌/◌, ◌<◌, ◌≤◌, Bool, true, false, not, ◌&&◌, ◌||◌, nat_eq, nat_lt, nat_le, List, [], ◌∷◌, ◌++◌, map, reverse, drop, length, Option, Some, None, Result, Ok, Err, ◌⊎◌, inl, inr, refl, sym, ◌∙◌, ap, subst, arith, if◌then◌else◌, slice_get, option_map, append_assoc, append-nil}
use Rattle.std.specs.List.{list_any, list_all, flat_map}
use mathlib.Core.List.{reverse_aux}
use Rattle.fax_bits.specs.Losses.{IsPacketAt, AreSlotsBefore}
use Rattle.fax_ifp.specs.declared.fault.IfpFault.{IfpFault}
use Rattle.fax_ifp.specs.declared.fault.IfpFault.TheVariants.{Short, Extension, BadValue, BadCount, NoMemory}
use Rattle.fax_ifp.specs.Packets.{FieldText, Packet, Indicator, Message, packet_of}
use Rattle.fax_ifp.specs.Elements.{Slot, Element, Missing, Signal, Field, element_of, elements_in, elements_of, elements}
use Rattle.fax_ifp.specs.Pieces.{Piece, Frame, Start, Octets, End, Gap, Since, Image, with_later, since_indicator, is_training, kind_of_training, is_image_field, is_image_part, is_image_octets, is_image_end, has_octet, image_of, image_since, open_image, is_frame_end, hdlc_since, frame_if, end_if, end_before, octets_if, image_pieces, pieces_at, pieces_of}
use Rattle.fax_ifp.specs.Schedules.{octets_to_end, first_signal, is_training_alone, begins_signal, signal_at, octets_alone, AreSignals, ImagesAreSignals}

abbrev pub onto : {A : Type 0} → List A → List A → List A
onto xs ys = reverse_aux xs ys

pub onto_both : {A : Type 0} (xs ys zs : List A) → onto (xs ++ ys) zs ≡ onto ys (onto xs zs)
onto_both [] ys zs = refl
onto_both (x ∷ xs) ys zs = onto_both xs ys (x ∷ zs)

-- the pieces, the newest first
abbrev pub back : List Element → List Piece
back [] = []
back (e ∷ before) = onto (pieces_at before e) (back before)

pub back_is : (es : List Element) → reverse (pieces_of es) ≡ back es
back_is [] = refl
back_is (e ∷ before) = onto_both (pieces_of before) (pieces_at before e) [] ∙ ap (onto (pieces_at before e)) (back_is before)

pub raised : (packets : List (List ℕ)) (q : List Piece) (b c : ℕ) → b ≤ c → AreSignals packets q b → AreSignals packets q c
raised packets [] b c l h = tt
raised packets (End true ∷ q) b c l h = let m : h.0 < b = h.1 in (h.0, omega arith, h.2, h.3)
raised packets (End false ∷ q) b c l h = raised packets q b c l h
raised packets (Frame o ∷ q) b c l h = raised packets q b c l h
raised packets (Start k ∷ q) b c l h = raised packets q b c l h
raised packets (Octets o ∷ q) b c l h = raised packets q b c l h
raised packets (Gap ∷ q) b c l h = raised packets q b c l h

-- pieces without a whole image
abbrev pub IsQuiet : List Piece → Type 0
IsQuiet [] = Unit {0}
IsQuiet (End true ∷ ps) = ⊥
IsQuiet (p ∷ ps) = IsQuiet ps

quiet_on : (packets : List (List ℕ)) (ps q : List Piece) (b : ℕ) → IsQuiet ps → AreSignals packets q b → AreSignals packets (onto ps q) b
quiet_on packets [] q b z h = h
quiet_on packets (End true ∷ ps) q b z h = absurd z
quiet_on packets (End false ∷ ps) q b z h = quiet_on packets ps (End false ∷ q) b z h
quiet_on packets (Frame o ∷ ps) q b z h = quiet_on packets ps (Frame o ∷ q) b z h
quiet_on packets (Start k ∷ ps) q b z h = quiet_on packets ps (Start k ∷ q) b z h
quiet_on packets (Octets o ∷ ps) q b z h = quiet_on packets ps (Octets o ∷ q) b z h
quiet_on packets (Gap ∷ ps) q b z h = quiet_on packets ps (Gap ∷ q) b z h

quiet_both : (ps qs : List Piece) → IsQuiet ps → IsQuiet qs → IsQuiet (ps ++ qs)
quiet_both [] qs y z = z
quiet_both (End true ∷ ps) qs y z = absurd y
quiet_both (End false ∷ ps) qs y z = quiet_both ps qs y z
quiet_both (Frame o ∷ ps) qs y z = quiet_both ps qs y z
quiet_both (Start k ∷ ps) qs y z = quiet_both ps qs y z
quiet_both (Octets o ∷ ps) qs y z = quiet_both ps qs y z
quiet_both (Gap ∷ ps) qs y z = quiet_both ps qs y z

quiet_octets : (o : List ℕ) → IsQuiet (octets_if o)
quiet_octets [] = tt
quiet_octets (x ∷ o) = tt

quiet_end : (b : Bool) → IsQuiet (end_if b false)
quiet_end true = tt
quiet_end false = tt

quiet_frame : (b : Bool) (f : Option (List ℕ)) → IsQuiet (if b then frame_if f else [])
quiet_frame false f = tt
quiet_frame true None = tt
quiet_frame true (Some o) = by (nat_le 1 (length o) && nat_le (length o) 256)
  where
    by : (t : Bool) → IsQuiet (if t then Frame o ∷ [] else [])
    by true = tt
    by false = tt

quiet_start : (b : Bool) (k : ℕ) → IsQuiet (if b then Start k ∷ [] else [])
quiet_start true k = tt
quiet_start false k = tt

-- fields of the image alone, and no end
abbrev pub IsClean : ℕ → List Element → Type 0
IsClean k [] = Unit {0}
IsClean k (Field kind what o ∷ later) = (nat_eq kind k ≡ true) × (nat_eq what 6 ≡ true) × IsClean k later
IsClean k (Missing ∷ later) = ⊥
IsClean k (Signal code ∷ later) = ⊥

abbrev pub joined : List Element → List ℕ
joined [] = []
joined (Field kind what o ∷ later) = joined later ++ o
joined (Missing ∷ later) = joined later
joined (Signal code ∷ later) = joined later

is_six : (what : ℕ) → nat_eq what 6 ≡ true → what ≡ 6
is_six what h = grind (arith)

same_kind : (a b : ℕ) → nat_eq a b ≡ true → a ≡ b
same_kind a b h = grind (arith)

-- tests of a clean field
field_part : (k kind what : ℕ) (o : List ℕ) → nat_eq kind k ≡ true → nat_eq what 6 ≡ true → is_image_part k (Field kind what o) ≡ true
field_part k kind what o e s = ap (λ (b : Bool). b && (nat_eq what 6 || nat_eq what 7)) e ∙ ap (λ (b : Bool). b || nat_eq what 7) s

field_no_end : (k kind what : ℕ) (o : List ℕ) → nat_eq kind k ≡ true → nat_eq what 6 ≡ true → is_image_end k (Field kind what o) ≡ false
field_no_end k kind what o e s = ap (λ (b : Bool). b && nat_eq what 7) e ∙ ap (λ (w : ℕ). nat_eq w 7) (is_six what s)

no_end : (k : ℕ) (later : List Element) → IsClean k later → list_any (is_image_end k) later ≡ false
no_end k [] c = refl
no_end k (Field kind what o ∷ later) c = ap (λ (b : Bool). b || list_any (is_image_end k) later) (field_no_end k kind what o c.0 c.1) ∙ no_end k later c.2
no_end k (Missing ∷ later) c = absurd c
no_end k (Signal code ∷ later) c = absurd c

all_parts : (k : ℕ) (later : List Element) → IsClean k later → list_all (is_image_part k) later ≡ true
all_parts k [] c = refl
all_parts k (Field kind what o ∷ later) c = ap (λ (b : Bool). b && list_all (is_image_part k) later) (field_part k kind what o c.0 c.1) ∙ all_parts k later c.2
all_parts k (Missing ∷ later) c = absurd c
all_parts k (Signal code ∷ later) c = absurd c

pub onto_is : {A : Type 0} (xs ys : List A) → onto xs ys ≡ onto xs [] ++ ys
onto_is [] ys = refl
onto_is (x ∷ xs) ys = onto_is xs (x ∷ ys) ∙ sym (append_assoc (onto xs []) (x ∷ []) ys) ∙ ap (λ zs. zs ++ ys) (sym (onto_is xs (x ∷ [])))

either_octet : (xs o : List ℕ) → (has_octet o || has_octet xs) ≡ has_octet (xs ++ o)
either_octet [] [] = refl
either_octet [] (y ∷ o) = refl
either_octet (x ∷ xs) [] = refl
either_octet (x ∷ xs) (y ∷ o) = refl

some_octet : (xs o : List ℕ) → (has_octet xs || has_octet o) ≡ has_octet (xs ++ o)
some_octet [] o = refl
some_octet (x ∷ xs) o = refl

-- whether there is an octet is whether the joined octets are some
started_so : (k : ℕ) (later : List Element) → IsClean k later → list_any (is_image_octets k) later ≡ has_octet (joined later)
started_so k [] c = refl
started_so k (Field kind what o ∷ later) c =
    ap (λ (b : Bool). (b && has_octet o) || list_any (is_image_octets k) later) (field_part k kind what o c.0 c.1)
    ∙ ap (λ (b : Bool). has_octet o || b) (started_so k later c.2)
    ∙ either_octet (joined later) o
started_so k (Missing ∷ later) c = absurd c
started_so k (Signal code ∷ later) c = absurd c

-- the open image of a clean signal
abbrev pub clean_image : Since → Image
clean_image s = record { kind = kind_of_training s.code; started = has_octet (joined s.later); whole = true }

opened_so : (s : Since) → is_training s.code ≡ true → IsClean (kind_of_training s.code) s.later → image_of s ≡ Some (clean_image s)
opened_so s t c =
    let k : ℕ = kind_of_training s.code in
    let found : Image = record { kind = k; started = list_any (is_image_octets k) s.later; whole = list_all (is_image_part k) s.later } in
    ap (λ (b : Bool). if◌then◌else◌ {A = Option Image} (not b || list_any (is_image_end k) s.later) None (Some found)) t
    ∙ ap (λ (b : Bool). if◌then◌else◌ {A = Option Image} b None (Some found)) (no_end k s.later c)
    ∙ ap (λ (b : Bool). let i : Image = record { kind = k; started = b; whole = list_all (is_image_part k) s.later } in Some i) (started_so k s.later c)
    ∙ ap (λ (w : Bool). let i : Image = record { kind = k; started = has_octet (joined s.later); whole = w } in Some i) (all_parts k s.later c)

pub opened : (es : List Element) (s : Since) → since_indicator es ≡ Some s → is_training s.code ≡ true → IsClean (kind_of_training s.code) s.later → open_image es ≡ Some (clean_image s)
opened es s e t c = ap image_since e ∙ opened_so s t c

-- and the other way round: an open image that is whole is that of a clean signal
clean_by : (k : ℕ) (later : List Element) → list_any (is_image_end k) later ≡ false → list_all (is_image_part k) later ≡ true → IsClean k later
clean_by k [] n a = tt
clean_by k (Missing ∷ later) n a = cc
clean_by k (Signal code ∷ later) n a = cc
clean_by k (Field kind what o ∷ later) n a = by (nat_eq kind k) (nat_eq what 6) (nat_eq what 7) refl refl (clean_by k later) n a
  where
    by : (x y z : Bool) → nat_eq kind k ≡ x → nat_eq what 6 ≡ y → (list_any (is_image_end k) later ≡ false → list_all (is_image_part k) later ≡ true → IsClean k later) → ((x && z) || list_any (is_image_end k) later) ≡ false → ((x && (y || z)) && list_all (is_image_part k) later) ≡ true → IsClean k (Field kind what o ∷ later)
    by true true true p q f u v = cc
    by true true false p q f u v = (p, q, f u v)
    by true false true p q f u v = cc
    by true false false p q f u v = cc
    by false y z p q f u v = cc

record CleanSignal (es : List Element) : Type 0 where
  s : Since
  is : since_indicator es ≡ Some s
  training : is_training s.code ≡ true
  clean : IsClean (kind_of_training s.code) s.later

record FaultyImage (es : List Element) : Type 0 where
  image : Image
  is : open_image es ≡ Some image
  faulty : image.whole ≡ false

abbrev found_image : Since → Image
found_image s =
    record { kind = kind_of_training s.code; started = list_any (is_image_octets (kind_of_training s.code)) s.later; whole = list_all (is_image_part (kind_of_training s.code)) s.later }

view : (es : List Element) → (open_image es ≡ None) ⊎ (FaultyImage es ⊎ CleanSignal es)
view es = by (since_indicator es) refl
  where
    whole : (s : Since) (x y z : Bool) → since_indicator es ≡ Some s → is_training s.code ≡ x → list_any (is_image_end (kind_of_training s.code)) s.later ≡ y → list_all (is_image_part (kind_of_training s.code)) s.later ≡ z →
        (open_image es ≡ None) ⊎ (FaultyImage es ⊎ CleanSignal es)
    whole s false y z e p q r =
        inl (ap image_since e ∙ ap (λ (b : Bool). if◌then◌else◌ {A = Option Image} (not b || list_any (is_image_end (kind_of_training s.code)) s.later) None (Some (found_image s))) p)
    whole s true true z e p q r =
        inl (ap image_since e ∙ ap (λ (b : Bool). if◌then◌else◌ {A = Option Image} (not b || list_any (is_image_end (kind_of_training s.code)) s.later) None (Some (found_image s))) p
        ∙ ap (λ (b : Bool). if◌then◌else◌ {A = Option Image} b None (Some (found_image s))) q)
    whole s true false false e p q r =
        inr (inl (record {
          image = found_image s;
          is = ap image_since e ∙ ap (λ (b : Bool). if◌then◌else◌ {A = Option Image} (not b || list_any (is_image_end (kind_of_training s.code)) s.later) None (Some (found_image s))) p
              ∙ ap (λ (b : Bool). if◌then◌else◌ {A = Option Image} b None (Some (found_image s))) q;
          faulty = r;
        }))
    whole s true false true e p q r = inr (inr (record { s = s; is = e; training = p; clean = clean_by (kind_of_training s.code) s.later q r }))

    by : (o : Option Since) → since_indicator es ≡ o → (open_image es ≡ None) ⊎ (FaultyImage es ⊎ CleanSignal es)
    by None e = inl (ap image_since e)
    by (Some s) e = whole s (is_training s.code) (list_any (is_image_end (kind_of_training s.code)) s.later) (list_all (is_image_part (kind_of_training s.code)) s.later) e refl refl refl

-- what a field of a clean signal gives
not_frame : (k kind what : ℕ) → nat_eq kind k ≡ true → 0 < k → is_frame_end kind what ≡ false
not_frame k kind what e p =
    let same : kind ≡ k = same_kind kind k e in
    let z : nat_eq kind 0 ≡ false = grind (arith) in
    ap (λ (b : Bool). b && (nat_eq what 2 || nat_eq what 4)) z

some_kind : (code : ℕ) → is_training code ≡ true → 0 < kind_of_training code
some_kind code t = by (nat_lt code 8) refl
  where
    by : (b : Bool) → nat_lt code 8 ≡ b → 0 < (if b then code - 3 else code / 2 + 1)
    by true e = let l : 4 ≤ code = grind (arith) in omega arith
    by false e = omega arith

field_gives : (es : List Element) (kind what : ℕ) (o : List ℕ) (image : Image) → is_frame_end kind what ≡ false → open_image es ≡ Some image →
    pieces_at es (Field kind what o) ≡ image_pieces (Some image) kind what o
field_gives es kind what o image f is =
    ap (λ (b : Bool). (if b then frame_if (hdlc_since es) else []) ++ image_pieces (open_image es) kind what o) f ∙ ap (λ (i : Option Image). image_pieces i kind what o) is

clean_gives : (es : List Element) (s : Since) (kind what : ℕ) (o : List ℕ) → since_indicator es ≡ Some s → is_training s.code ≡ true → IsClean (kind_of_training s.code) s.later →
    nat_eq kind (kind_of_training s.code) ≡ true → nat_eq what 6 ≡ true → pieces_at es (Field kind what o) ≡ octets_if o
clean_gives es s kind what o is t c e w =
    let k : ℕ = kind_of_training s.code in
    field_gives es kind what o (clean_image s) (not_frame k kind what e (some_kind s.code t)) (opened es s is t c)
    ∙ ap (λ (b : Bool). if b then octets_if o ++ (if nat_eq what 7 then end_if (has_octet (joined s.later) || has_octet o) true else []) else []) (field_part k kind what o e w)
    ∙ ap (λ (n : ℕ). octets_if o ++ (if nat_eq n 7 then end_if (has_octet (joined s.later) || has_octet o) true else [])) (is_six what w)
    ∙ append-nil (octets_if o)

pub end_gives : (es : List Element) (s : Since) (kind what : ℕ) (o : List ℕ) → since_indicator es ≡ Some s → is_training s.code ≡ true → IsClean (kind_of_training s.code) s.later →
    nat_eq kind (kind_of_training s.code) ≡ true → nat_eq what 7 ≡ true → pieces_at es (Field kind what o) ≡ octets_if o ++ end_if (has_octet (joined s.later ++ o)) true
end_gives es s kind what o is t c e w =
    let k : ℕ = kind_of_training s.code in
    field_gives es kind what o (clean_image s) (not_frame k kind what e (some_kind s.code t)) (opened es s is t c)
    ∙ ap (λ (b : Bool). if b && (nat_eq what 6 || nat_eq what 7) then octets_if o ++ (if nat_eq what 7 then end_if (has_octet (joined s.later) || has_octet o) true else []) else []) e
    ∙ either (nat_eq what 6) (nat_eq what 7) (octets_if o) (end_if (has_octet (joined s.later) || has_octet o) true) w
    ∙ ap (λ (b : Bool). octets_if o ++ end_if b true) (some_octet (joined s.later) o)
  where
    either : (x y : Bool) (ps qs : List Piece) → y ≡ true → (if x || y then ps ++ (if y then qs else []) else []) ≡ ps ++ qs
    either true true ps qs h = refl
    either false true ps qs h = refl
    either x false ps qs h = cc

signal_gives : (es : List Element) (s : Since) (code : ℕ) → since_indicator es ≡ Some s → is_training s.code ≡ true → IsClean (kind_of_training s.code) s.later →
    pieces_at es (Signal code) ≡ end_if (has_octet (joined s.later)) true ++ (if is_training code then Start (kind_of_training code) ∷ [] else [])
signal_gives es s code is t c = ap (λ (i : Option Image). end_before i ++ (if is_training code then Start (kind_of_training code) ∷ [] else [])) (opened es s is t c)

-- The sender's side: from a training indicator on.
pub since_of : (code k : ℕ) (later : List Element) → IsClean k later → since_indicator (later ++ Signal code ∷ []) ≡ Some (record { code = code; later = later })
since_of code k [] c = refl
since_of code k (Field kind what o ∷ later) c = ap (with_later (Field kind what o)) (since_of code k later c.2)
since_of code k (Missing ∷ later) c = absurd c
since_of code k (Signal n ∷ later) c = absurd c

pub reads_on : (o acc : List ℕ) (tail : List Piece) → octets_to_end acc (octets_if o ++ tail) ≡ octets_to_end (acc ++ o) tail
reads_on [] acc tail = ap (λ (a : List ℕ). octets_to_end a tail) (sym (append-nil acc))
reads_on (x ∷ o) acc tail = refl

pub starts : (code : ℕ) → is_training code ≡ true → (later : List Element) → IsClean (kind_of_training code) later → (tail : List Piece) →
    first_signal (pieces_of (later ++ Signal code ∷ []) ++ tail) ≡ octets_to_end (joined later) tail
starts code t [] c tail = ap (λ (b : Bool). first_signal ((if b then Start (kind_of_training code) ∷ [] else []) ++ tail)) t
starts code t (Field kind what o ∷ later) c tail =
    let es : List Element = later ++ Signal code ∷ [] in
    ap (λ (ps : List Piece). first_signal ((pieces_of es ++ ps) ++ tail))
    (clean_gives es (record { code = code; later = later }) kind what o (since_of code (kind_of_training code) later c.2) t c.2 c.0 c.1)
    ∙ ap first_signal (append_assoc (pieces_of es) (octets_if o) tail)
    ∙ starts code t later c.2 (octets_if o ++ tail)
    ∙ reads_on o (joined later) tail
starts code t (Missing ∷ later) c tail = absurd c
starts code t (Signal n ∷ later) c tail = absurd c

pub record More (rest es : List Element) : Type 0 where
  pub tail : List Piece
  pub is : pieces_of (onto rest es) ≡ pieces_of es ++ tail

pub more : (rest es : List Element) → More rest es
more [] es = record { tail = []; is = sym (append-nil (pieces_of es)) }
more (e ∷ rest) es =
    let m : More rest (e ∷ es) = more rest (e ∷ es) in
    record { tail = pieces_at es e ++ m.tail; is = m.is ∙ append_assoc (pieces_of es) (pieces_at es e) m.tail }

-- what the packets from place n on say, in time order
abbrev pub said : List (List ℕ) → ℕ → List Element
said packets n = flat_map elements_of (map Some (drop n packets))

-- the elements of slots that are told in the order of time
pub elements_reversed : (ss before : List Slot) → elements (reverse_aux ss before) ≡ onto (flat_map elements_of ss) (elements before)
elements_reversed [] before = refl
elements_reversed (s ∷ ss) before =
    elements_reversed ss (s ∷ before)
    ∙ ap (onto (flat_map elements_of ss)) (sym (onto_is (elements_of s) (elements before)))
    ∙ sym (onto_both (elements_of s) (flat_map elements_of ss) (elements before))

-- a clean signal that e ends, which then gives pieces ps
ended_signal : (packets : List (List ℕ)) (i : ℕ) (s : Since) (e : Element) (rest : List Element) (ps : List Piece) (octets : List ℕ) →
    begins_signal (slice_get packets i) ≡ true → is_training s.code ≡ true → IsClean (kind_of_training s.code) s.later →
    reverse (said packets i) ≡ onto (e ∷ rest) (s.later ++ Signal s.code ∷ []) →
    pieces_at (s.later ++ Signal s.code ∷ []) e ≡ ps → ((tail : List Piece) → octets_to_end (joined s.later) (ps ++ tail) ≡ Some octets) →
    signal_at packets i ≡ Some octets
ended_signal packets i s e rest ps octets b t c from gives ends =
    let es : List Element = s.later ++ Signal s.code ∷ [] in
    let m : More rest (e ∷ es) = more rest (e ∷ es) in
    ap (λ (x : List Element). if◌then◌else◌ {A = Option (List ℕ)} (begins_signal (slice_get packets i)) (first_signal (pieces_of x)) None) (elements_reversed (map Some (drop i packets)) [])
    ∙ ap (λ (x : Bool). if◌then◌else◌ {A = Option (List ℕ)} x (first_signal (pieces_of (reverse (said packets i)))) None) b
    ∙ ap (λ (x : List Element). first_signal (pieces_of x)) from
    ∙ ap first_signal m.is
    ∙ ap (λ (x : List Piece). first_signal ((pieces_of es ++ x) ++ m.tail)) gives
    ∙ ap first_signal (append_assoc (pieces_of es) ps m.tail)
    ∙ starts s.code t s.later c (ps ++ m.tail)
    ∙ ends m.tail

-- The receiver's side. What is kept beside the elements: those that the sender says next, and the next place.
pub record TrackState (packets : List (List ℕ)) (es rest : List Element) (n : ℕ) (s : Since) : Type 0 where
  pub i : ℕ
  pub below : i < n
  pub begins : begins_signal (slice_get packets i) ≡ true
  pub from : reverse (said packets i) ≡ onto rest (s.later ++ Signal s.code ∷ [])
  pub runs : octets_alone (back es) ≡ Some (joined s.later)
  pub older : AreSignals packets (back es) i

abbrev pub Follows : List (List ℕ) → List Element → List Element → ℕ → Type 0
Follows packets es rest n = (s : Since) → since_indicator es ≡ Some s → is_training s.code ≡ true → IsClean (kind_of_training s.code) s.later → TrackState packets es rest n s

pub record Tracks (packets : List (List ℕ)) (es rest : List Element) (n : ℕ) : Type 0 where
  pub signals : AreSignals packets (back es) n
  pub follows : Follows packets es rest n

pub tracks_on : (packets : List (List ℕ)) (es rest : List Element) (n m : ℕ) → n ≤ m → Tracks packets es rest n → Tracks packets es rest m
tracks_on packets es rest n m l t =
    record {
      signals = raised packets (back es) n m l t.signals;
      follows = λ s e tr c. let f : TrackState packets es rest n s = t.follows s e tr c in let b : f.i < n = f.below in
          record { i = f.i; below = omega arith; begins = f.begins; from = f.from; runs = f.runs; older = f.older };
    }

record WithLater (e : Element) (o : Option Since) (s : Since) : Type 0 where
  t : Since
  was : o ≡ Some t
  same : s ≡ record { code = t.code; later = e ∷ t.later }

with_later_of : (e : Element) (o : Option Since) (s : Since) → with_later e o ≡ Some s → WithLater e o s
with_later_of e None s h = cc
with_later_of e (Some t) s h = record { t = t; was = refl; same = let g : record { code = t.code; later = e ∷ t.later } ≡ s = cc in sym g }

run_on : (o f : List ℕ) (q : List Piece) → octets_alone q ≡ Some f → octets_alone (onto (octets_if o) q) ≡ Some (f ++ o)
run_on [] f q h = h ∙ ap (λ (x : List ℕ). Some x) (sym (append-nil f))
run_on (x ∷ o) f q h = ap (option_map (λ (front : List ℕ). front ++ (x ∷ o))) h

-- an image that its own field ends
end_on : (packets : List (List ℕ)) (q : List Piece) (n i : ℕ) (o f os : List ℕ) → os ≡ f ++ o → i < n → octets_alone q ≡ Some f → AreSignals packets q i → AreSignals packets q n →
    (((tail : List Piece) → octets_to_end f ((octets_if o ++ end_if (has_octet os) true) ++ tail) ≡ Some os) → signal_at packets i ≡ Some os) →
    AreSignals packets (onto (octets_if o ++ end_if (has_octet os) true) q) n
end_on packets q n i o f [] e l r a b g = quiet_on packets (octets_if o ++ []) q n (quiet_both (octets_if o) [] (quiet_octets o) tt) b
end_on packets q n i o f (x ∷ os) e l r a b g =
    subst (λ (ps : List Piece). AreSignals packets ps n) (sym (onto_both (octets_if o) (End true ∷ []) q)) (
      i,
      l,
      record { octets = x ∷ os; heard = run_on o f q r ∙ ap (λ (y : List ℕ). Some y) (sym e); sent = g (λ tail. ap (octets_to_end f) (append_assoc (octets_if o) (End true ∷ []) tail) ∙ reads_on o f (End true ∷ tail) ∙ ap (λ (y : List ℕ). Some y) (sym e)) },
      quiet_on packets (octets_if o) q i (quiet_octets o) a,
    )

-- and one that an indicator ends
stop_on : (packets : List (List ℕ)) (q : List Piece) (n i k : ℕ) (b : Bool) (os : List ℕ) → i < n → octets_alone q ≡ Some os → AreSignals packets q i → AreSignals packets q n →
    (((tail : List Piece) → octets_to_end os ((end_if (has_octet os) true ++ (if b then Start k ∷ [] else [])) ++ tail) ≡ Some os) → signal_at packets i ≡ Some os) →
    AreSignals packets (onto (end_if (has_octet os) true ++ (if b then Start k ∷ [] else [])) q) n
stop_on packets q n i k b [] l r a c g = quiet_on packets (if b then Start k ∷ [] else []) q n (quiet_start b k) c
stop_on packets q n i k b (x ∷ os) l r a c g =
    quiet_on packets (if b then Start k ∷ [] else []) (End true ∷ q) n (quiet_start b k) (i, l, record { octets = x ∷ os; heard = r; sent = g (λ tail. refl) }, a)

quiet_faulty : (b c w e : Bool) (o : List ℕ) → w ≡ false → IsQuiet (if b then octets_if o ++ (if c then end_if e w else []) else [])
quiet_faulty false c w e o h = tt
quiet_faulty true false w e o h = quiet_both (octets_if o) [] (quiet_octets o) tt
quiet_faulty true true true e o h = cc
quiet_faulty true true false e o h = quiet_both (octets_if o) (end_if e false) (quiet_octets o) (quiet_end e)

quiet_clean : (b c e : Bool) (o : List ℕ) → c ≡ false → IsQuiet (if b then octets_if o ++ (if c then end_if e true else []) else [])
quiet_clean false c e o h = tt
quiet_clean true true e o h = cc
quiet_clean true false e o h = quiet_both (octets_if o) [] (quiet_octets o) tt

quiet_field : (es : List Element) (kind what : ℕ) (o : List ℕ) (i : Option Image) → open_image es ≡ i → IsQuiet (image_pieces i kind what o) → IsQuiet (pieces_at es (Field kind what o))
quiet_field es kind what o i e z =
    quiet_both (if is_frame_end kind what then frame_if (hdlc_since es) else []) (image_pieces (open_image es) kind what o) (quiet_frame (is_frame_end kind what) (hdlc_since es))
    (subst (λ (x : Option Image). IsQuiet (image_pieces x kind what o)) (sym e) z)

field_signals : (packets : List (List ℕ)) (es rest : List Element) (n kind what : ℕ) (o : List ℕ) → Tracks packets es (Field kind what o ∷ rest) n → AreSignals packets (back (Field kind what o ∷ es)) n
field_signals packets es rest n kind what o t = by (view es)
  where
    f : Element
    f = Field kind what o

    quietly : IsQuiet (pieces_at es f) → AreSignals packets (back (f ∷ es)) n
    quietly z = quiet_on packets (pieces_at es f) (back es) n z t.signals

    cleanly : (c : CleanSignal es) (x z : Bool) → nat_eq kind (kind_of_training c.s.code) ≡ x → nat_eq what 7 ≡ z → AreSignals packets (back (f ∷ es)) n
    cleanly c false z p q =
        quietly (quiet_field es kind what o (Some (clean_image c.s)) (opened es c.s c.is c.training c.clean)
        (subst (λ (b : Bool). IsQuiet (if b && (nat_eq what 6 || nat_eq what 7) then octets_if o ++ (if nat_eq what 7 then end_if (has_octet (joined c.s.later) || has_octet o) true else []) else [])) (sym p) tt))
    cleanly c true false p q =
        quietly (quiet_field es kind what o (Some (clean_image c.s)) (opened es c.s c.is c.training c.clean)
        (quiet_clean (is_image_field (kind_of_training c.s.code) kind what) (nat_eq what 7) (has_octet (joined c.s.later) || has_octet o) o q))
    cleanly c true true p q =
        let g : TrackState packets es (f ∷ rest) n c.s = t.follows c.s c.is c.training c.clean in
        let os : List ℕ = joined c.s.later ++ o in
        subst (λ (ps : List Piece). AreSignals packets (onto ps (back es)) n) (sym (end_gives es c.s kind what o c.is c.training c.clean p q))
        (end_on packets (back es) n g.i o (joined c.s.later) os refl g.below g.runs g.older t.signals
        (ended_signal packets g.i c.s f rest (octets_if o ++ end_if (has_octet os) true) os g.begins c.training c.clean g.from
        (end_gives (c.s.later ++ Signal c.s.code ∷ []) c.s kind what o (since_of c.s.code (kind_of_training c.s.code) c.s.later c.clean) c.training c.clean p q)))

    by : (open_image es ≡ None) ⊎ (FaultyImage es ⊎ CleanSignal es) → AreSignals packets (back (f ∷ es)) n
    by (inl e) = quietly (quiet_field es kind what o None e tt)
    by (inr (inl i)) = quietly (quiet_field es kind what o (Some i.image) i.is (quiet_faulty (is_image_field i.image.kind kind what) (nat_eq what 7) i.image.whole (i.image.started || has_octet o) o i.faulty))
    by (inr (inr c)) = cleanly c (nat_eq kind (kind_of_training c.s.code)) (nat_eq what 7) refl refl

tracked_at : (packets : List (List ℕ)) (es rest : List Element) (n : ℕ) (s x : Since) → s ≡ x → is_training s.code ≡ true → IsClean (kind_of_training s.code) s.later →
    (is_training x.code ≡ true → IsClean (kind_of_training x.code) x.later → TrackState packets es rest n x) → TrackState packets es rest n s
tracked_at packets es rest n s x e t c f =
    subst (λ (y : Since). TrackState packets es rest n y) (sym e) (f (subst (λ (y : Since). is_training y.code ≡ true) e t) (subst (λ (y : Since). IsClean (kind_of_training y.code) y.later) e c))

field_tracks : (packets : List (List ℕ)) (es rest : List Element) (n kind what : ℕ) (o : List ℕ) → Tracks packets es (Field kind what o ∷ rest) n → Tracks packets (Field kind what o ∷ es) rest n
field_tracks packets es rest n kind what o t =
    record {
      signals = field_signals packets es rest n kind what o t;
      follows = λ s e tr c.
          let f : Element = Field kind what o in
          let w : WithLater f (since_indicator es) s = with_later_of f (since_indicator es) s e in
          tracked_at packets (f ∷ es) rest n s (record { code = w.t.code; later = f ∷ w.t.later }) w.same tr c (λ tr2 c2.
          let g : TrackState packets es (f ∷ rest) n w.t = t.follows w.t w.was tr2 c2.2 in
          let gives : octets_if o ≡ pieces_at es f = sym (clean_gives es w.t kind what o w.was tr2 c2.2 c2.0 c2.1) in
          record {
            i = g.i;
            below = g.below;
            begins = g.begins;
            from = g.from;
            runs = subst (λ (ps : List Piece). octets_alone (onto ps (back es)) ≡ Some (joined w.t.later ++ o)) gives (run_on o (joined w.t.later) (back es) g.runs);
            older = subst (λ (ps : List Piece). AreSignals packets (onto ps (back es)) g.i) gives (quiet_on packets (octets_if o) (back es) g.i (quiet_octets o) g.older);
          });
    }

pub missing_tracks : (packets : List (List ℕ)) (es rest after : List Element) (n : ℕ) → Tracks packets es rest n → Tracks packets (Missing ∷ es) after n
missing_tracks packets es rest after n t =
    record {
      signals = t.signals;
      follows = λ s e tr c.
          let w : WithLater Missing (since_indicator es) s = with_later_of Missing (since_indicator es) s e in
          tracked_at packets (Missing ∷ es) after n s (record { code = w.t.code; later = Missing ∷ w.t.later }) w.same tr c (λ tr2 c2. absurd c2);
    }

signal_signals : (packets : List (List ℕ)) (es rest : List Element) (n code : ℕ) → Tracks packets es (Signal code ∷ rest) n → AreSignals packets (back (Signal code ∷ es)) n
signal_signals packets es rest n code t = by (view es)
  where
    quietly : (i : Option Image) → open_image es ≡ i → IsQuiet (end_before i) → AreSignals packets (back (Signal code ∷ es)) n
    quietly i e z =
        quiet_on packets (pieces_at es (Signal code)) (back es) n
        (quiet_both (end_before (open_image es)) (if is_training code then Start (kind_of_training code) ∷ [] else []) (subst (λ (x : Option Image). IsQuiet (end_before x)) (sym e) z) (quiet_start (is_training code) (kind_of_training code))) t.signals

    by : (open_image es ≡ None) ⊎ (FaultyImage es ⊎ CleanSignal es) → AreSignals packets (back (Signal code ∷ es)) n
    by (inl e) = quietly None e tt
    by (inr (inl i)) = quietly (Some i.image) i.is (subst (λ (w : Bool). IsQuiet (end_if i.image.started w)) (sym i.faulty) (quiet_end i.image.started))
    by (inr (inr c)) =
        let g : TrackState packets es (Signal code ∷ rest) n c.s = t.follows c.s c.is c.training c.clean in
        let os : List ℕ = joined c.s.later in
        subst (λ (ps : List Piece). AreSignals packets (onto ps (back es)) n) (sym (signal_gives es c.s code c.is c.training c.clean))
        (stop_on packets (back es) n g.i (kind_of_training code) (is_training code) os g.below g.runs g.older t.signals
        (ended_signal packets g.i c.s (Signal code) rest (end_if (has_octet os) true ++ (if is_training code then Start (kind_of_training code) ∷ [] else [])) os g.begins c.training c.clean g.from
        (signal_gives (c.s.later ++ Signal c.s.code ∷ []) c.s code (since_of c.s.code (kind_of_training c.s.code) c.s.later c.clean) c.training c.clean)))

started : (b : Bool) (k : ℕ) (ps q : List Piece) → b ≡ true → octets_alone (onto (ps ++ (if b then Start k ∷ [] else [])) q) ≡ Some []
started true k ps q h = ap octets_alone (onto_both ps (Start k ∷ []) q)
started false k ps q h = cc

signal_tracks : (packets : List (List ℕ)) (es rest : List Element) (n code : ℕ) → begins_signal (slice_get packets n) ≡ is_training code → said packets n ≡ Signal code ∷ rest →
    Tracks packets es (Signal code ∷ rest) n → Tracks packets (Signal code ∷ es) rest (suc n)
signal_tracks packets es rest n code b says t =
    let a : AreSignals packets (back (Signal code ∷ es)) n = signal_signals packets es rest n code t in
    record {
      signals = raised packets (back (Signal code ∷ es)) n (suc n) (omega arith) a;
      follows = λ s e tr c.
          let x : Since = record { code = code; later = [] } in
          tracked_at packets (Signal code ∷ es) rest (suc n) s x (let g : x ≡ s = cc in sym g) tr c (λ tr2 c2.
          record {
            i = n;
            below = omega arith;
            begins = b ∙ tr2;
            from = ap reverse says;
            runs = started (is_training code) (kind_of_training code) (end_before (open_image es)) (back es) tr2;
            older = a;
          });
    }

-- a packet, at its place
dropped : (packets : List (List ℕ)) (n : ℕ) (packet : List ℕ) → slice_get packets n ≡ Some packet → drop n packets ≡ packet ∷ drop (suc n) packets
dropped [] n packet h = cc
dropped (p ∷ packets) zero packet h = let e : p ≡ packet = cc in ap (λ (x : List ℕ). x ∷ packets) e
dropped (p ∷ packets) (suc n) packet h = dropped packets n packet h

fields_track : (packets : List (List ℕ)) (kind : ℕ) (fields : List FieldText) (es rest : List Element) (n : ℕ) → Tracks packets es (map (element_of kind) fields ++ rest) n →
    Tracks packets (onto (map (element_of kind) fields) es) rest n
fields_track packets kind [] es rest n t = t
fields_track packets kind (f ∷ fields) es rest n t =
    fields_track packets kind fields (element_of kind f ∷ es) rest n (field_tracks packets es (map (element_of kind) fields ++ rest) n kind f.what _ t)

packet_by : (packets : List (List ℕ)) (n : ℕ) (es : List Element) (r : Result Packet IfpFault) → said packets n ≡ elements_in r ++ said packets (suc n) →
    begins_signal (slice_get packets n) ≡ is_training_alone (elements_in r) → Tracks packets es (elements_in r ++ said packets (suc n)) n →
    Tracks packets (onto (elements_in r) es) (said packets (suc n)) (suc n)
packet_by packets n es (Ok (Indicator code)) e b t = signal_tracks packets es (said packets (suc n)) n code b e t
packet_by packets n es (Ok (Message kind fields)) e b t =
    tracks_on packets (onto (map (element_of kind) fields) es) (said packets (suc n)) n (suc n) (omega arith) (fields_track packets kind fields es (said packets (suc n)) n t)
packet_by packets n es (Err Extension) e b t = tracks_on packets es (said packets (suc n)) n (suc n) (omega arith) t
packet_by packets n es (Err Short) e b t = tracks_on packets (Missing ∷ es) (said packets (suc n)) n (suc n) (omega arith) (missing_tracks packets es _ (said packets (suc n)) n t)
packet_by packets n es (Err BadValue) e b t = tracks_on packets (Missing ∷ es) (said packets (suc n)) n (suc n) (omega arith) (missing_tracks packets es _ (said packets (suc n)) n t)
packet_by packets n es (Err BadCount) e b t = tracks_on packets (Missing ∷ es) (said packets (suc n)) n (suc n) (omega arith) (missing_tracks packets es _ (said packets (suc n)) n t)
packet_by packets n es (Err NoMemory) e b t = tracks_on packets (Missing ∷ es) (said packets (suc n)) n (suc n) (omega arith) (missing_tracks packets es _ (said packets (suc n)) n t)

pub packet_tracks : (packets : List (List ℕ)) (n : ℕ) (packet : List ℕ) (es : List Element) → slice_get packets n ≡ Some packet → Tracks packets es (said packets n) n →
    Tracks packets (onto (elements_of (Some packet)) es) (said packets (suc n)) (suc n)
packet_tracks packets n packet es g t =
    let e : said packets n ≡ elements_in (packet_of packet) ++ said packets (suc n) = ap (λ (d : List (List ℕ)). flat_map elements_of (map Some d)) (dropped packets n packet g) in
    packet_by packets n es (packet_of packet) e (ap begins_signal g) (subst (λ (r : List Element). Tracks packets es r n) e t)

-- slots that are a part of the list
missing_slot : (packets : List (List ℕ)) (place : ℕ) (es : List Element) → Tracks packets es (said packets place) place → Tracks packets (Missing ∷ es) (said packets (suc place)) (suc place)
missing_slot packets place es t =
    tracks_on packets (Missing ∷ es) (said packets (suc place)) place (suc place) (omega arith) (missing_tracks packets es (said packets place) (said packets (suc place)) place t)

slot_tracks : (packets : List (List ℕ)) (place : ℕ) (slot : Slot) (es : List Element) → IsPacketAt packets place slot → Tracks packets es (said packets place) place
    → Tracks packets (onto (elements_of slot) es) (said packets (suc place)) (suc place)
slot_tracks packets place slot es (inl none) t =
    subst (λ (x : Slot). Tracks packets (onto (elements_of x) es) (said packets (suc place)) (suc place)) (sym none) (missing_slot packets place es t)
slot_tracks packets place slot es (inr is) t =
    subst (λ (x : Slot). Tracks packets (onto (elements_of x) es) (said packets (suc place)) (suc place)) (sym is) (by (slice_get packets place) refl)
  where
    by : (o : Slot) → slice_get packets place ≡ o → Tracks packets (onto (elements_of o) es) (said packets (suc place)) (suc place)
    by None e = missing_slot packets place es t
    by (Some packet) e = packet_tracks packets place packet es e t

tracks_all : (packets : List (List ℕ)) (next : ℕ) (slots : List Slot) → AreSlotsBefore packets next slots → Tracks packets (elements slots) (said packets next) next
tracks_all packets next [] h = record { signals = tt; follows = λ s e t c. cc }
tracks_all packets zero (slot ∷ before) h = absurd h
tracks_all packets (suc place) (slot ∷ before) h =
    subst (λ (es : List Element). Tracks packets es (said packets (suc place)) (suc place)) (onto_is (elements_of slot) (elements before))
    (slot_tracks packets place slot (elements before) h.0 (tracks_all packets place before h.1))

pub images_are_signals : ImagesAreSignals
images_are_signals packets next slots h =
    subst (λ (q : List Piece). AreSignals packets q next) (sym (back_is (elements slots))) (tracks_all packets next slots h).signals
