-- Laws of the pieces of slots.
use Rattle.std.proofs.Common.{◌≡◌, ℕ, zero, suc, ◌<◌, Bool, true, false, not, ◌||◌, List, [], ◌∷◌, ◌++◌, reverse, replicate, Option, Some, None, if◌then◌else◌, refl, sym, ◌∙◌, ap, append_assoc, arith}
use Rattle.std.specs.List.{list_any, list_all}
use Rattle.std.proofs.lemmas.List.{append-nil}
use Rattle.fax_ifp.specs.Elements.{Slot, Element, Missing, elements, elements_of, elements_in}
use Rattle.fax_ifp.specs.Inside.Hearing.{spoilt}
use Rattle.fax_ifp.specs.Pieces.{Piece, Gap, Image, Since, is_training, kind_of_training, is_image_end, is_image_octets, is_image_part, since_indicator, image_since, with_later, pieces, pieces_of, pieces_at}
use Rattle.fax_ifp.specs.SignalLaws.{PiecesGoOn, LostSlotsAreGaps, ExtensionsSayNothing, TrackedIsUnique}
use Rattle.fax_ifp.specs.Tracked.{TrackState, IsTracked, lost_slots}

-- elements that come later add pieces after
go_on : (later before : List Element) → (more : List Piece) × (pieces_of (later ++ before) ≡ pieces_of before ++ more)
go_on [] before = ([], sym (append-nil (pieces_of before)))
go_on (e ∷ later) before =
    let rest = go_on later before in
    (rest.0 ++ pieces_at (later ++ before) e, ap (λ (ps : List Piece). ps ++ pieces_at (later ++ before) e) rest.1 ∙ append_assoc (pieces_of before) rest.0 (pieces_at (later ++ before) e))

-- the elements of slots are those of the later ones and then those of the ones before
elements_append : (later before : List Slot) → elements (later ++ before) ≡ elements later ++ elements before
elements_append [] before = refl
elements_append (slot ∷ later) before =
    ap (λ (es : List Element). reverse (elements_of slot) ++ es) (elements_append later before)
    ∙ sym (append_assoc (reverse (elements_of slot)) (elements later) (elements before))

pub pieces_go_on : PiecesGoOn
pieces_go_on later before = rw (elements_append later before) (go_on (elements later) (elements before))

pub extensions_say_nothing : ExtensionsSayNothing
extensions_say_nothing later before octets refused =
    let same : elements (Some octets ∷ before) ≡ elements before = ap (λ r. reverse (elements_in r) ++ elements before) refused in
    ap pieces_of (elements_append later (Some octets ∷ before) ∙ ap (λ (es : List Element). elements later ++ es) same ∙ sym (elements_append later before))

-- the same two parts are the same
same_parts : (f g : Option (List ℕ)) (i j : Option Image) → f ≡ g → i ≡ j → (let a : TrackState = record { frame = f; image = i } in a) ≡ record { frame = g; image = j }
same_parts f g i j same_frame same_image = ap (λ (x : Option (List ℕ)). let a : TrackState = record { frame = x; image = i } in a) same_frame ∙ ap (λ (x : Option Image). let a : TrackState = record { frame = g; image = x } in a) same_image

pub tracked_is_unique : TrackedIsUnique
tracked_is_unique slots a b left right = same_parts a.frame b.frame a.image b.image (left.frame ∙ sym right.frame) (left.image ∙ sym right.image)

-- one more at the end is one more
replicate_last : (count : ℕ) (piece : Piece) → replicate count piece ++ piece ∷ [] ≡ replicate (suc count) piece
replicate_last zero piece = refl
replicate_last (suc count) piece = ap (λ (ps : List Piece). piece ∷ ps) (replicate_last count piece)

-- lost slots after one another
pub lost_slots_are_gaps : LostSlotsAreGaps
lost_slots_are_gaps zero before = sym (append-nil (pieces before))
lost_slots_are_gaps (suc count) before =
    ap (λ (ps : List Piece). ps ++ Gap ∷ []) (lost_slots_are_gaps count before)
    ∙ append_assoc (pieces before) (replicate count Gap) (Gap ∷ []) ∙ ap (λ (ps : List Piece). pieces before ++ ps) (replicate_last count Gap)

-- an image that something is missing in is not whole
missing_spoils : (since : Option Since) → image_since (with_later Missing since) ≡ spoilt (image_since since)
missing_spoils None = refl
missing_spoils (Some since) = by (not (is_training since.code) || list_any (is_image_end kind) since.later)
  where
    kind : ℕ
    kind = kind_of_training since.code

    image_if : Bool → Bool → Option Image
    image_if closed whole = if closed then None else Some (record { kind = kind; started = list_any (is_image_octets kind) since.later; whole = whole })

    by : (closed : Bool) → image_if closed false ≡ spoilt (image_if closed (list_all (is_image_part kind) since.later))
    by true = refl
    by false = refl

spoilt_once : (image : Option Image) → spoilt (spoilt image) ≡ spoilt image
spoilt_once None = refl
spoilt_once (Some image) = refl

-- what lost slots leave, one at least
pub lost_slots_leave : (count : ℕ) (before : List Slot) (tracked : TrackState) → 0 < count → IsTracked before tracked
    → IsTracked (lost_slots count ++ before) (record { frame = None; image = spoilt tracked.image })
lost_slots_leave zero before tracked some left = absurd (omega (arith, some))
lost_slots_leave (suc zero) before tracked some left =
    record { frame = refl; image = ap spoilt left.image ∙ sym (missing_spoils (since_indicator (elements before))) }
lost_slots_leave (suc (suc count)) before tracked some left =
    let one_less = lost_slots_leave (suc count) before tracked (omega arith) left in
    record {
      frame = refl;
      image = sym (spoilt_once tracked.image) ∙ ap spoilt one_less.image ∙ sym (missing_spoils (since_indicator (elements (lost_slots (suc count) ++ before))));
    }
