-- Laws of the octets of an image.
use Rattle.std.proofs.Common.{◌≡◌, ℕ, nat_eq, Bool, true, false, not, ◌&&◌, ◌||◌, List, [], ◌∷◌, ◌++◌, reverse, Option, Some, None, if◌then◌else◌, refl, sym, ◌∙◌, ap, append_assoc}
use Rattle.std.specs.Bool.{⊤}
use Rattle.std.specs.List.{list_any, list_all}
use Rattle.std.proofs.lemmas.List.{append-nil, reverse-append}
use Rattle.std.proofs.lemmas.Grind.{reverse_onto}
use Rattle.std.proofs.lemmas.Bool.{or_right}
use Rattle.fax_ifp.specs.Elements.{Element, Missing, Signal, Field}
use Rattle.fax_ifp.specs.Pieces.{Piece, Frame, Start, Octets, End, Gap, Image, Since, is_training, kind_of_training, is_image_field, is_image_end, is_image_octets, is_image_part, has_octet, since_indicator, image_since, with_later, open_image, end_if, end_before, octets_if, image_pieces, frame_if, frame_pieces, is_frame_end, hdlc_since, start_if, pieces_at, pieces_of}
use Rattle.fax_ifp.specs.ImageOctets.{octets_in_image, image_octets, octets_since}
use Rattle.fax_ifp.specs.SignalLaws.{ImageOctetsArePieces, StartedIsAnOctet}

-- the octets since the last start, where these pieces follow in the order of time
abbrev then_octets : List ℕ → List Piece → List ℕ
then_octets octets [] = octets
then_octets octets (Start kind ∷ later) = then_octets [] later
then_octets octets (Octets more ∷ later) = then_octets (octets ++ more) later
then_octets octets (other ∷ later) = then_octets octets later

since-then : (later before : List Piece) → octets_since (reverse later ++ before) ≡ then_octets (octets_since before) later
since-then [] before = refl
since-then (piece ∷ later) before =
    ap (λ (ps : List Piece). octets_since (ps ++ before)) (reverse_onto later piece []) ∙ ap octets_since (append_assoc (reverse later) (piece ∷ []) before)
    ∙ since-then later (piece ∷ before) ∙ one piece
  where
    one : (p : Piece) → then_octets (octets_since (p ∷ before)) later ≡ then_octets (octets_since before) (p ∷ later)
    one (Frame octets) = refl
    one (Start kind) = refl
    one (Octets octets) = refl
    one (End whole) = refl
    one Gap = refl

-- an end adds none
end_adds_none : (so_far : List ℕ) (started whole : Bool) (later : List Piece) → then_octets so_far (end_if started whole ++ later) ≡ then_octets so_far later
end_adds_none so_far true whole later = refl
end_adds_none so_far false whole later = refl

end_before_adds_none : (so_far : List ℕ) (image : Option Image) (later : List Piece) → then_octets so_far (end_before image ++ later) ≡ then_octets so_far later
end_before_adds_none so_far None later = refl
end_before_adds_none so_far (Some image) later = end_adds_none so_far image.started image.whole later

start_begins : (so_far : List ℕ) (code : ℕ) → then_octets so_far (start_if code) ≡ (if is_training code then [] else so_far)
start_begins so_far code = by (is_training code)
  where
    by : (b : Bool) → then_octets so_far (if b then Start (kind_of_training code) ∷ [] else []) ≡ (if b then [] else so_far)
    by true = refl
    by false = refl

-- a frame adds none
frame_adds_none : (so_far : List ℕ) (before : List Element) (kind what : ℕ) (later : List Piece) → then_octets so_far (frame_pieces before kind what ++ later) ≡ then_octets so_far later
frame_adds_none so_far before kind what later = by (is_frame_end kind what) (hdlc_since before)
  where
    framed : (b : Bool) (octets : List ℕ) → then_octets so_far ((if b then Frame octets ∷ [] else []) ++ later) ≡ then_octets so_far later
    framed true octets = refl
    framed false octets = refl

    by : (b : Bool) (since : Option (List ℕ)) → then_octets so_far ((if b then frame_if since else []) ++ later) ≡ then_octets so_far later
    by true None = refl
    by true (Some octets) = framed _ octets
    by false since = refl

-- a field of the image adds its octets
image_adds : (so_far : List ℕ) (image : Option Image) (kind what : ℕ) (octets : List ℕ) → then_octets so_far (image_pieces image kind what octets) ≡ so_far ++ octets_in_image image kind what octets
image_adds so_far None kind what octets = sym (append-nil so_far)
image_adds so_far (Some image) kind what octets = by (is_image_field image.kind kind what)
  where
    ended : (base : List ℕ) (b started : Bool) → then_octets base (if b then end_if started image.whole else []) ≡ base
    ended base true true = refl
    ended base true false = refl
    ended base false started = refl

    given : (own : List ℕ) (b started : Bool) → then_octets so_far (octets_if own ++ (if b then end_if started image.whole else [])) ≡ so_far ++ own
    given [] b started = ended so_far b started ∙ sym (append-nil so_far)
    given (o ∷ own) b started = ended (so_far ++ o ∷ own) b started

    by : (b : Bool) → then_octets so_far (if b then octets_if octets ++ (if nat_eq what 7 then end_if (image.started || has_octet octets) image.whole else []) else []) ≡ so_far ++ (if b then octets else [])
    by true = given octets (nat_eq what 7) (image.started || has_octet octets)
    by false = sym (append-nil so_far)

-- what an element adds
element_adds : (before : List Element) (element : Element) → then_octets (image_octets before) (pieces_at before element) ≡ image_octets (element ∷ before)
element_adds before Missing = refl
element_adds before (Signal code) = end_before_adds_none (image_octets before) (open_image before) (start_if code) ∙ start_begins (image_octets before) code
element_adds before (Field kind what octets) =
    frame_adds_none (image_octets before) before kind what (image_pieces (open_image before) kind what octets) ∙ image_adds (image_octets before) (open_image before) kind what octets

pub image_octets_are_pieces : ImageOctetsArePieces
image_octets_are_pieces [] = refl
image_octets_are_pieces (element ∷ before) =
    ap octets_since (reverse-append (pieces_of before) (pieces_at before element))
    ∙ since-then (pieces_at before element) (reverse (pieces_of before))
    ∙ ap (λ (octets : List ℕ). then_octets octets (pieces_at before element)) (image_octets_are_pieces before)
    ∙ element_adds before element

-- it is known whether the open image has an octet
abbrev IsStarted : Option Image → List ℕ → Type 0
IsStarted None octets = ⊤
IsStarted (Some image) octets = image.started ≡ has_octet octets

has_octet-append : (a b : List ℕ) → has_octet (a ++ b) ≡ (has_octet b || has_octet a)
has_octet-append [] [] = refl
has_octet-append [] (o ∷ b) = refl
has_octet-append (o ∷ a) b = sym (or_right (has_octet b) true refl)

started_at_missing : (since : Option Since) (octets : List ℕ) → IsStarted (image_since since) octets → IsStarted (image_since (with_later Missing since)) octets
started_at_missing None octets h = tt
started_at_missing (Some since) octets h = by (not (is_training since.code) || list_any (is_image_end kind) since.later) h
  where
    kind : ℕ
    kind = kind_of_training since.code

    image_if : Bool → Bool → Option Image
    image_if closed whole = if closed then None else Some (record { kind = kind; started = list_any (is_image_octets kind) since.later; whole = whole })

    by : (closed : Bool) → IsStarted (image_if closed (list_all (is_image_part kind) since.later)) octets → IsStarted (image_if closed false) octets
    by true h = tt
    by false h = h

started_at_signal : (code : ℕ) (octets : List ℕ) → IsStarted (image_since (Some (record { code = code; later = [] }))) (if is_training code then [] else octets)
started_at_signal code octets = by (is_training code)
  where
    by : (training : Bool) → IsStarted (if not training || false then None else Some (record { kind = kind_of_training code; started = false; whole = true })) (if training then [] else octets)
    by true = refl
    by false = tt

started_at_field : (since : Option Since) (octets : List ℕ) (kind what : ℕ) (own : List ℕ) → IsStarted (image_since since) octets
    → IsStarted (image_since (with_later (Field kind what own) since)) (octets ++ octets_in_image (image_since since) kind what own)
started_at_field None octets kind what own h = tt
started_at_field (Some since) octets kind what own h =
    by (is_training since.code) (list_any (is_image_end image) since.later) (is_image_end image (Field kind what own)) h
  where
    image : ℕ
    image = kind_of_training since.code

    before : Option Image
    before = image_since (Some since)

    open_if : Bool → Bool → Bool → Option Image
    open_if closed started whole = if closed then None else Some (record { kind = image; started = started; whole = whole })

    started : Bool
    started = list_any (is_image_octets image) since.later

    whole : Bool
    whole = list_all (is_image_part image) since.later

    now_whole : Bool
    now_whole = list_all (is_image_part image) (Field kind what own ∷ since.later)

    one : (ends field : Bool) → started ≡ has_octet octets → IsStarted (open_if (ends || false) ((field && has_octet own) || started) now_whole) (octets ++ (if field then own else []))
    one true field k = tt
    one false true k = ap (λ (b : Bool). has_octet own || b) k ∙ sym (has_octet-append octets own)
    one false false k = k ∙ ap has_octet (sym (append-nil octets))

    closed : (ends : Bool) (more : List ℕ) → IsStarted (open_if (ends || true) (is_image_octets image (Field kind what own) || started) now_whole) (octets ++ more)
    closed true more = tt
    closed false more = tt

    by : (training ended ends : Bool) → IsStarted (open_if (not training || ended) started whole) octets
        → IsStarted (open_if (not training || (ends || ended)) (is_image_octets image (Field kind what own) || started) now_whole)
        (octets ++ octets_in_image (open_if (not training || ended) started whole) kind what own)
    by true true ends k = closed ends []
    by true false ends k = one ends (is_image_field image kind what) k
    by false ended ends k = tt

started : (heard : List Element) → IsStarted (open_image heard) (image_octets heard)
started [] = tt
started (Missing ∷ before) = started_at_missing (since_indicator before) (image_octets before) (started before)
started (Signal code ∷ before) = started_at_signal code (image_octets before)
started (Field kind what octets ∷ before) = started_at_field (since_indicator before) (image_octets before) kind what octets (started before)

pub started_is_an_octet : StartedIsAnOctet
started_is_an_octet heard image is = let h = started heard in rw is at h
