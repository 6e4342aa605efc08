-- A slot that gives octets of the open image and nothing else.
use Rattle.std.proofs.Common.{◌≡◌, ℕ, nat_eq, Bool, true, false, not, ◌&&◌, ◌||◌, List, [], ◌∷◌, ◌++◌, Option, Some, None, option_map, Ok, if◌then◌else◌, refl, sym, ◌∙◌, ap, ap₂, eq-eqb}
use Rattle.std.specs.List.{list_any, list_all}
use Rattle.fax_ifp.specs.Packets.{Message, packet_of}
use Rattle.fax_ifp.specs.WrittenPackets.{image_fields}
use Rattle.fax_ifp.specs.Elements.{Slot, Element, Field, elements}
use Rattle.fax_ifp.specs.Pieces.{Piece, Octets, Image, Since, has_octet, hdlc_since, kind_of_training, is_training, is_image_end, is_image_octets, is_image_part, since_indicator, with_later, image_since, open_image, octets_if, frame_if, frame_pieces, image_pieces, pieces_of}
use Rattle.fax_ifp.specs.Tracked.{TrackState, IsLeftBy, Tracks, Gives, kept, with_octets}

equal : (n : ℕ) → nat_eq n n ≡ true
equal n = eq-eqb n n refl

-- no frame begins, goes on or ends
frame_stays : (kind : ℕ) (octets : List ℕ) (heard : List Element) → hdlc_since (Field kind 6 octets ∷ heard) ≡ hdlc_since heard
frame_stays kind octets heard = by (nat_eq kind 0)
  where
    by : (b : Bool) → if◌then◌else◌ {A = Option (List ℕ)} (b && false) (Some []) (if b && false then option_map (λ (front : List ℕ). front ++ octets) (hdlc_since heard) else hdlc_since heard) ≡ hdlc_since heard
    by true = refl
    by false = refl

no_frame : (kind : ℕ) (heard : List Element) → frame_pieces heard kind 6 ≡ []
no_frame kind heard = by (nat_eq kind 0)
  where
    by : (b : Bool) → if◌then◌else◌ {A = List Piece} (b && false) (frame_if (hdlc_since heard)) [] ≡ []
    by true = refl
    by false = refl

-- the image goes on, and has an octet
abbrev image_if : Bool → ℕ → Bool → Bool → Option Image
image_if over kind started whole = if over then None else Some (record { kind = kind; started = started; whole = whole })

goes_on : (training ended started whole equal octet : Bool) (kind : ℕ) (image : Image) → equal ≡ true → octet ≡ true → image_if (not training || ended) kind started whole ≡ Some image
    → image_if (not training || ((equal && false) || ended)) kind ((equal && true && octet) || started) (equal && true && whole) ≡ Some (record image { started = true })
goes_on false ended started whole equal octet kind image e o h = cc
goes_on true true started whole equal octet kind image e o h = cc
goes_on true false started whole true true kind image e o h =
    let is : image ≡ record { kind = kind; started = started; whole = whole } = cc in
    rw is refl
goes_on true false started whole false octet kind image e o h = cc
goes_on true false started whole true false kind image e o h = cc

image_kind : (over started whole : Bool) (kind : ℕ) (image : Image) → image_if over kind started whole ≡ Some image → image.kind ≡ kind
image_kind true started whole kind image h = cc
image_kind false started whole kind image h =
    let is : image ≡ record { kind = kind; started = started; whole = whole } = cc in
    ap (λ (i : Image). i.kind) is

since_goes_on : (since : Option Since) (image : Image) (octets : List ℕ) → has_octet octets ≡ true → image_since since ≡ Some image
    → image_since (with_later (Field image.kind 6 octets) since) ≡ Some (record image { started = true })
since_goes_on None image octets o h = cc
since_goes_on (Some since) image octets o h =
    let kind : ℕ = kind_of_training since.code in
    let ended : Bool = list_any (is_image_end kind) since.later in
    let started : Bool = list_any (is_image_octets kind) since.later in
    let whole : Bool = list_all (is_image_part kind) since.later in
    let same : image.kind ≡ kind = image_kind (not (is_training since.code) || ended) started whole kind image h in
    goes_on (is_training since.code) ended started whole (nat_eq image.kind kind) (has_octet octets) kind image (eq-eqb image.kind kind same) o h

image_stays : (image : Image) (octets : List ℕ) (heard : List Element) → has_octet octets ≡ true → open_image heard ≡ Some image
    → open_image (Field image.kind 6 octets ∷ heard) ≡ Some (record image { started = true })
image_stays image octets heard o h = since_goes_on (since_indicator heard) image octets o h

octets_one : (octets : List ℕ) → has_octet octets ≡ true → octets_if octets ++ [] ≡ Octets octets ∷ []
octets_one [] o = cc
octets_one (x ∷ xs) o = refl

image_gives : (image : Image) (octets : List ℕ) → has_octet octets ≡ true → image_pieces (Some image) image.kind 6 octets ≡ Octets octets ∷ []
image_gives image octets o = rw (equal image.kind) (octets_one octets o)

pub leaves : (heard : List Element) (old : TrackState) (image : Image) (octets : List ℕ) → old.image ≡ Some image → has_octet octets ≡ true → IsLeftBy heard old
    → IsLeftBy (Field image.kind 6 octets ∷ heard) (with_octets old)
leaves heard old image octets i o l = record {
  frame = l.frame ∙ ap kept (sym (frame_stays image.kind octets heard));
  image = ap (option_map (λ (it : Image). record it { started = true })) i ∙ sym (image_stays image octets heard o (sym l.image ∙ i));
}

pub gives : (heard : List Element) (old : TrackState) (image : Image) (octets : List ℕ) → old.image ≡ Some image → has_octet octets ≡ true → IsLeftBy heard old
    → pieces_of (Field image.kind 6 octets ∷ heard) ≡ pieces_of heard ++ Octets octets ∷ []
gives heard old image octets i o l =
    let under_way : open_image heard ≡ Some image = sym l.image ∙ i in
    ap (λ (ps : List Piece). pieces_of heard ++ ps)
    (ap₂ (λ (f g : List Piece). f ++ g) (no_frame image.kind heard) (ap (λ (it : Option Image). image_pieces it image.kind 6 octets) under_way ∙ image_gives image octets o))

-- what such a packet says
said : (before : List Slot) (packet octets : List ℕ) (kind : ℕ) → packet_of packet ≡ Ok (Message kind (image_fields false octets)) → elements (Some packet ∷ before) ≡ Field kind 6 octets ∷ elements before
said before packet octets kind e = rw e refl

pub slot_tracks : (packet octets : List ℕ) (old : TrackState) (image : Image) → old.image ≡ Some image → has_octet octets ≡ true → packet_of packet ≡ Ok (Message image.kind (image_fields false octets))
    → Tracks (Some packet) old (with_octets old)
slot_tracks packet octets old image i o e before left =
    rw (said before packet octets image.kind e) (leaves (elements before) old image octets i o left)

pub slot_gives : (packet octets : List ℕ) (old : TrackState) (image : Image) → old.image ≡ Some image → has_octet octets ≡ true → packet_of packet ≡ Ok (Message image.kind (image_fields false octets))
    → Gives (Some packet) old (Octets octets ∷ [])
slot_gives packet octets old image i o e before left =
    ap pieces_of (said before packet octets image.kind e) ∙ gives (elements before) old image octets i o left
