-- HEARD: what is told of the datagrams of one direction of a leg, and what is kept of them. (This project's profile.)
use Rattle.std.specs.Prelude.{◌≡◌, ℕ, Bool, true, false, List, [], ◌∷◌, ◌++◌, length, reverse, Contains, Result, Ok, Err, count_by}
use Rattle.fax_udptl.specs.declared.fault.UdptlFault.{UdptlFault}
use Rattle.fax_udptl.specs.Datagrams.{DatagramValue}
use Rattle.fax_udptl.specs.Slots.{newest_slots}
use Rattle.fax_udptl.specs.Taking.{DecidedValue, Decides, IsAfter}
use Rattle.fax_ifp.specs.Elements.{Slot}
use Rattle.fax_ifp.specs.Pieces.{Piece, pieces}
use Rattle.fax_ifp.specs.Tracked.{IsTracked, lost_slots}
use Rattle.fax_explain.specs.declared.listener.Listener.{Listener}
use Rattle.fax_explain.specs.declared.mark.Mark.{Mark}
use Rattle.fax_explain.specs.Listening.{Ear, has_mark, outside_text}
use Rattle.fax_explain.specs.Openings.{Opening, datagram_openings, octets_counted, pieces_in, unread_opening}
use Rattle.fax_descriptions.specs.Tellings.{Description}

-- ---- lines

-- a line goes on with just its last words, where it ends
abbrev pub EndsIf : (ends : Bool) → (last more : List ℕ) → Type 0
EndsIf true last more = more ≡ last
EndsIf false last more = Unit {0}

-- words begin with one of these texts, or are it and these last words
pub record BeginsAsOneOf (last : List ℕ) (opening : Opening) (words : List ℕ) : Type 0 where
  pub text : List ℕ
  pub is_one : Contains opening.texts text
  pub more : List ℕ
  pub words_are : words ≡ text ++ more
  pub ended : EndsIf opening.ends last more

-- a line in this lane begins so, and where no call is on it says that last
abbrev pub Opens : Ear → Opening → Description → Type 0
Opens ear opening telling =
    (telling.lane ≡ ear.lane) × BeginsAsOneOf (outside_text ear.is_outside) opening telling.words

-- these lines begin so, one for each
abbrev pub AreOpened : Ear → List Opening → List Description → Type 0
AreOpened ear [] [] = Unit {0}
AreOpened ear [] (telling ∷ told) = ⊥
AreOpened ear (opening ∷ openings) [] = ⊥
AreOpened ear (opening ∷ openings) (telling ∷ told) =
    Opens ear opening telling × AreOpened ear openings told

-- after what was told such lines are told, and no others
pub record Adds (ear : Ear) (openings : List Opening) (old new : List Description) : Type 0 where
  pub own : List Description
  pub opened : AreOpened ear openings own
  pub is : new ≡ old ++ own

-- a line more of a listener: these words, and where no call is on that
pub record AddsLine (listener : Listener) (text : List ℕ) (old new : List Description) :
    Type 0 where
  pub is : new ≡ old
      ++ record { lane = listener.lane; words = text ++ outside_text listener.is_outside } ∷ []

-- a listener hears so
pub record IsEar (ear : Ear) (listener : Listener) : Type 0 where
  pub lane : listener.lane ≡ ear.lane
  pub is_outside : listener.is_outside ≡ ear.is_outside
  pub usual : listener.usual ≡ ear.usual

-- this is so however a listener hears
abbrev pub EachEar : Listener → (Ear → Type 0) → Type 0
EachEar listener IsSo = (ear : Ear) → IsEar ear listener → IsSo ear

-- Such lines are told of what a listener hears, which hears on.
pub record Hears (ear : Ear)
    (openings : List Opening) (old new : Listener) (told now_told : List Description) : Type 0 where
  pub adds : Adds ear openings told now_told
  pub is_ear : IsEar ear new
  pub receiver : new.receiver ≡ old.receiver

-- that is so however it hears
abbrev pub HearsThese : List Opening
    → (old new : Listener) → (told now_told : List Description) → Type 0
HearsThese openings old new told now_told =
    EachEar old (λ ear. Hears ear openings old new told now_told)

-- ---- what is kept

-- what it keeps of slots and of an image's octets stays
abbrev pub Stays : (old new : Listener) → Type 0
Stays old new = (new.signals ≡ old.signals) × (new.image.octets ≡ old.image.octets)

-- a listener has heard these slots, of which the newest is first
pub record HasHeard (slots : List Slot) (listener : Listener) : Type 0 where
  pub tracked : IsTracked slots listener.signals
  pub counted : listener.image.octets ≡ octets_counted (reverse (pieces slots))

-- these datagrams came to it, the newest first
pub record IsHearing (arrived : List DatagramValue) (listener : Listener) : Type 0 where
  pub after : IsAfter arrived listener.receiver
  pub heard : HasHeard (newest_slots arrived) listener

-- ---- one datagram more

-- the datagrams that came, with one more where it can be read
abbrev pub arrived_with : List DatagramValue → Result DatagramValue UdptlFault → List DatagramValue
arrived_with arrived (Ok datagram) = datagram ∷ arrived
arrived_with arrived (Err fault) = arrived

-- After these datagrams octets come, whose pieces were taken as these marks say: what they bring is told, the words of each piece
-- those of its mark.
abbrev pub TellsDatagram : Ear → List Mark
    → List DatagramValue → Result DatagramValue UdptlFault → (old new : List Description) → Type 0
TellsDatagram ear marks arrived (Ok datagram) old new =
    (decided : DecidedValue) × Decides arrived datagram decided
    × Adds ear (datagram_openings ear marks (newest_slots arrived) datagram.number decided) old new
TellsDatagram ear marks arrived (Err fault) old new = Adds ear (unread_opening ∷ []) old new

-- EACH PIECE HAS ITS MARK: there are just as many marks as pieces that have one in the packets that octets bring after these
abbrev pub AreAll : List Mark → List DatagramValue → Result DatagramValue UdptlFault → Type 0
AreAll marks arrived (Ok datagram) = (decided : DecidedValue) → Decides arrived datagram decided
    → length marks ≡ count_by has_mark (pieces_in (lost_slots decided.lost
    ++ newest_slots arrived) decided.packets)
AreAll marks arrived (Err fault) = marks ≡ []

-- ---- over whatever came

-- this is so of each list of datagrams that came to a listener, the newest first
abbrev pub EachHearing : Listener → (List DatagramValue → Type 0) → Type 0
EachHearing listener IsSo =
    (arrived : List DatagramValue) → IsHearing arrived listener → IsSo arrived

-- A DATAGRAM CAME: after each of them the new listener has heard it too, where it can be read
abbrev pub HearsOn : (old : Listener) → Result DatagramValue UdptlFault → (new : Listener) → Type 0
HearsOn old datagram new =
    EachHearing old (λ arrived. IsHearing (arrived_with arrived datagram) new)

-- what it brings after them, with these marks, is told as the listener hears
abbrev pub TellsComing : Listener → List Mark → Result DatagramValue UdptlFault
    → (old new : List Description) → Type 0
TellsComing listener marks datagram old new = EachEar listener
    (λ ear. EachHearing listener (λ arrived. TellsDatagram ear marks arrived datagram old new))

-- and it hears on so
abbrev pub KeepsEar : (old new : Listener) → Type 0
KeepsEar old new = EachEar old (λ ear. EachHearing old (λ arrived. IsEar ear new))

-- this is so of each list of slots that a listener has heard, the newest first
abbrev pub EachHeard : Listener → (List Slot → Type 0) → Type 0
EachHeard listener IsSo = (slots : List Slot) → HasHeard slots listener → IsSo slots

-- SLOTS CAME: after each of them the new listener has heard these too, the newest first
abbrev pub HearsSlots : (old : Listener) → List Slot → (new : Listener) → Type 0
HearsSlots old came new = EachHeard old (λ slots. HasHeard (came ++ slots) new)

-- this is so of each list of pieces, the newest first, whose octets since the last start a listener
-- has counted
abbrev pub EachCounted : Listener → (List Piece → Type 0) → Type 0
EachCounted listener IsSo =
    (before : List Piece) → listener.image.octets ≡ octets_counted before → IsSo before
