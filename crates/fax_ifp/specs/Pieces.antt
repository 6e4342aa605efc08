-- The frames and images of a call. (ITU-T T.38; which of them are whole is this project's profile.)
-- Each list of elements has the newest first, and `before` is what came before.
use Rattle.std.specs.Prelude.{ℕ, ◌+◌, ◌-◌, ◌/◌, nat_lt, nat_le, nat_eq, Bool, true, false, not, ◌&&◌, ◌||◌, List, [], ◌∷◌, ◌++◌, length, Option, Some, None, option_map, if◌then◌else◌}
use Rattle.std.specs.List.{list_any, list_all}
use Rattle.fax_ifp.specs.Elements.{Slot, Element, Missing, Signal, Field, elements}

-- a frame; an image's start, with its data type; some of its octets, its end, and whether it is whole;
-- and a place at which something is missing
pub data Piece : Type 0 where
  Frame : (octets : List ℕ) → Piece
  Start : (kind : ℕ) → Piece
  Octets : (octets : List ℕ) → Piece
  End : (whole : Bool) → Piece
  Gap : Piece

-- FRAMES. In data of type 0, which is V.21, the types 1 to 5 end a frame or begin one: hdlc-sig-end,
-- hdlc-fcs-OK and -BAD, and both of these with sig-end
abbrev pub is_boundary : ℕ → ℕ → Bool
is_boundary kind what = nat_eq kind 0 && (nat_le 1 what && nat_le what 5)

-- type 0 is hdlc-data
abbrev pub is_hdlc_data : ℕ → ℕ → Bool
is_hdlc_data kind what = nat_eq kind 0 && nat_eq what 0

-- types 2 and 4 end a frame whose check sequence is right
abbrev pub is_frame_end : ℕ → ℕ → Bool
is_frame_end kind what = nat_eq kind 0 && (nat_eq what 2 || nat_eq what 4)

-- the octets of hdlc-data since the last boundary, or None where something is missing since; the start
-- and each indicator are boundaries too
abbrev pub hdlc_since : List Element → Option (List ℕ)
hdlc_since [] = Some []
hdlc_since (Missing ∷ before) = None
hdlc_since (Signal code ∷ before) = Some []
hdlc_since (Field kind what octets ∷ before) =
    if is_boundary kind what then Some []
    else if is_hdlc_data kind what then option_map (λ front. front ++ octets) (hdlc_since before)
    else hdlc_since before

-- a frame has 1 to 256 octets
abbrev pub frame_if : Option (List ℕ) → List Piece
frame_if None = []
frame_if (Some octets) =
    if nat_le 1 (length octets) && nat_le (length octets) 256 then Frame octets ∷ [] else []

-- IMAGES. The last indicator, and the elements since
pub record Since : Type 0 where
  pub code : ℕ
  pub later : List Element

abbrev pub with_later : Element → Option Since → Option Since
with_later element =
    option_map (λ since. record { code = since.code; later = element ∷ since.later })

abbrev pub since_indicator : List Element → Option Since
since_indicator [] = None
since_indicator (Signal code ∷ before) = Some (record { code = code; later = [] })
since_indicator (Missing ∷ before) = with_later Missing (since_indicator before)
since_indicator (Field kind what octets ∷ before) =
    with_later (Field kind what octets) (since_indicator before)

-- the indicators from 4 on are training indicators
abbrev pub is_training : ℕ → Bool
is_training code = nat_le 4 code

-- the data type of a training indicator: 4 to 7 are V.27 ter and V.29 with two rates each, types 1 to
-- 4; from 8 on V.17 has a short and a long training for each of its rates, types 5 to 8
abbrev pub kind_of_training : ℕ → ℕ
kind_of_training code = if nat_lt code 8 then code - 3 else code / 2 + 1

-- in data of the image's type, field types 6 and 7 are t4-non-ecm-data and t4-non-ecm-sig-end
abbrev pub is_image_field : ℕ → ℕ → ℕ → Bool
is_image_field image kind what = nat_eq kind image && (nat_eq what 6 || nat_eq what 7)

abbrev pub has_octet : List ℕ → Bool
has_octet [] = false
has_octet (octet ∷ octets) = true

abbrev pub is_image_part : ℕ → Element → Bool
is_image_part image (Field kind what octets) = is_image_field image kind what
is_image_part image element = false

abbrev pub is_image_octets : ℕ → Element → Bool
is_image_octets image (Field kind what octets) = is_image_field image kind what && has_octet octets
is_image_octets image element = false

abbrev pub is_image_end : ℕ → Element → Bool
is_image_end image (Field kind what octets) = nat_eq kind image && nat_eq what 7
is_image_end image element = false

-- an image that has not ended: its data type, whether it has an octet, and whether it is whole so far
pub record Image : Type 0 where
  pub kind : ℕ
  pub started : Bool
  pub whole : Bool

-- a training indicator begins an image; it is open until its sig-end; it is whole where nothing is
-- missing in it and no other field stands in it
abbrev pub image_of : Since → Option Image
image_of since = let kind = kind_of_training since.code
    in if not (is_training since.code) || list_any (is_image_end kind) since.later then None
    else Some (record {
      kind = kind;
      started = list_any (is_image_octets kind) since.later;
      whole = list_all (is_image_part kind) since.later;
    })

abbrev pub image_since : Option Since → Option Image
image_since None = None
image_since (Some since) = image_of since

abbrev pub open_image : List Element → Option Image
open_image before = image_since (since_indicator before)

-- PIECES. An image without an octet is none, and has no end
abbrev pub end_if : Bool → Bool → List Piece
end_if started whole = if started then End whole ∷ [] else []

-- an image that is still open ends before the next indicator
abbrev pub end_before : Option Image → List Piece
end_before None = []
end_before (Some image) = end_if image.started image.whole

abbrev pub start_if : ℕ → List Piece
start_if code = if is_training code then Start (kind_of_training code) ∷ [] else []

abbrev pub octets_if : List ℕ → List Piece
octets_if octets = if has_octet octets then Octets octets ∷ [] else []

-- what a field of the image gives: its octets, and with sig-end the image's end
abbrev pub image_pieces : Option Image → ℕ → ℕ → List ℕ → List Piece
image_pieces None kind what octets = []
image_pieces (Some image) kind what octets =
    if is_image_field image.kind kind what then octets_if octets ++ (if nat_eq what 7
    then end_if (image.started || has_octet octets) image.whole else []) else []

abbrev pub frame_pieces : List Element → ℕ → ℕ → List Piece
frame_pieces before kind what = if is_frame_end kind what then frame_if (hdlc_since before) else []

-- what an element gives, after those before it
abbrev pub pieces_at : List Element → Element → List Piece
pieces_at before Missing = Gap ∷ []
pieces_at before (Signal code) = end_before (open_image before) ++ start_if code
pieces_at before (Field kind what octets) =
    frame_pieces before kind what ++ image_pieces (open_image before) kind what octets

-- the pieces of elements, in the order of time
abbrev pub pieces_of : List Element → List Piece
pieces_of [] = []
pieces_of (element ∷ before) = pieces_of before ++ pieces_at before element

-- the pieces of a call's slots, which have the newest first, in the order of time
abbrev pub pieces : List Slot → List Piece
pieces slots = pieces_of (elements slots)
