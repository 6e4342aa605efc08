-- Readings: one serves all pieces of a datagram, and there always is one, so that a call goes on whatever comes.
use Rattle.std.specs.Prelude.{◌≡◌, ℕ, List, [], ◌∷◌, Option}
use Rattle.fax_ifp.specs.Pieces.{Piece}
use Rattle.fax_answer.specs.Table.{Reading, Question}
use Rattle.fax_answer.specs.Calls.{AnswererCore, asked, came, first_asked, came_all, CallEvent, Comes, after_events}
use Rattle.fax_answer.specs.Confirmation.{IfAsked, AreRead, IsRead}

-- pieces that come one after another, each with a reading of its own, which is right where it is asked for
abbrev pub CameSo : AnswererCore → List Piece → ℕ → AnswererCore → Type 0
CameSo a [] now z = a ≡ z
CameSo a (piece ∷ more) now z =
    (read : Reading) × IfAsked (asked a piece) read × CameSo (came read a piece now) more now z

-- One reading serves all pieces of a datagram: at most one of them asks.
abbrev pub ReadingsJoin : Type 0
ReadingsJoin =
    (a : AnswererCore) (ps : List Piece) (now : ℕ) (z : AnswererCore) → CameSo a ps now z
    → (read : Reading) × IsRead (first_asked a ps now) read × (came_all read a ps now ≡ z)

-- the events of these pieces, which come after others
abbrev pub comes_all : List Piece → ℕ → Reading → List CallEvent → List CallEvent
comes_all [] now read events = events
comes_all (piece ∷ more) now read events = comes_all more now read (Comes piece now read ∷ events)

-- A datagram's reading is right at each of its pieces: the call goes on as one whose readings are right.
abbrev pub CallsAreRead : Type 0
CallsAreRead =
    (core : AnswererCore) (events : List CallEvent) (ps : List Piece) (now : ℕ) (read : Reading)
    → AreRead core events → IsRead (first_asked (after_events core events) ps now) read
    → AreRead core (comes_all ps now read events)
    × (after_events core (comes_all ps now read events)
    ≡ came_all read (after_events core events) ps now)

-- Whatever is asked has a reading: each image means a page, or meets a fault.
abbrev pub QuestionsAreKnown : Type 0
QuestionsAreKnown = (question : Option Question) → (read : Reading) × IsRead question read

-- A call goes on, whatever comes.
abbrev pub CallsGoOn : Type 0
CallsGoOn = (a : AnswererCore) (ps : List Piece) (now : ℕ)
    → (read : Reading) × IsRead (first_asked a ps now) read
