-- What is confirmed of a call into which the packets of one sender come, some of them lost: image signals of its list, in
-- their order. (ITU-T T.30, phases C and D.) A history and what was heard have the newest first.
use Rattle.std.specs.Prelude.{◌≡◌, ℕ, ◌<◌, List, [], ◌∷◌, ◌++◌, length, reverse, Option, Some, None}
use Rattle.fax_bits.specs.Losses.{AreSlotsBefore}
use Rattle.fax_frames.specs.declared.dcs.Dcs.{Dcs}
use Rattle.fax_frames.specs.Capabilities.{format_of, coding_of}
use Rattle.fax_pagestore.specs.Pages.{PageValue}
use Rattle.fax_pagestore.specs.PageTexts.{MeansPage}
use Rattle.fax_ifp.specs.Elements.{Slot}
use Rattle.fax_ifp.specs.Pieces.{Piece, pieces}
use Rattle.fax_ifp.specs.Schedules.{signal_at}
use Rattle.fax_answer.specs.History.{Entry, Decision, GivesMcf, last_image, answered_dcs}
use Rattle.fax_answer.specs.Replies.{ConfirmedPage, WaitingPacket}
use Rattle.fax_answer.specs.Calls.{AnswererCore, rung, ticked, CallEvent, Comes, Ticks, after_events}
use Rattle.fax_answer.specs.Confirmation.{AreRead}

-- the pieces that a history heard
abbrev pub pieces_heard : List Entry → List Piece
pieces_heard [] = []
pieces_heard (e ∷ before) = e.piece ∷ pieces_heard before

-- The page is what the image signal at a place of the list means, under the DCS that the last CFR answered. What was read is
-- that signal, octet for octet, so that no page is joined of two.
pub record IsOfSignal (packets : List (List ℕ))
    (before : List Entry) (page : PageValue) (place : ℕ) : Type 0 where
  pub octets : List ℕ
  pub signal : signal_at packets place ≡ Some octets
  pub read : last_image before ≡ octets
  pub dcs : Dcs
  pub answered : answered_dcs before ≡ Some dcs
  pub means : MeansPage (format_of dcs) (coding_of dcs) octets page

-- the page for which MCF is given
abbrev pub page_accepted : Decision → Option PageValue
page_accepted (GivesMcf command page) = page
page_accepted decision = None

-- Each page for which MCF was given is of a signal before `bound`, and those of earlier pages stand at earlier places.
abbrev pub RisesBy : List (List ℕ)
    → List Entry → Option PageValue → (bound : ℕ) → (ℕ → Type 0) → Type 0
RisesBy packets before None bound earlier = earlier bound
RisesBy packets before (Some page) bound earlier =
    (place : ℕ) × (place < bound) × IsOfSignal packets before page place × earlier place

abbrev pub Rises : List (List ℕ) → List Entry → (bound : ℕ) → Type 0
Rises packets [] bound = Unit {0}
Rises packets (e ∷ before) bound =
    RisesBy packets before (page_accepted e.decision) bound (Rises packets before)

-- So it is in every call that hears slots which are a part of the list.
abbrev pub ConfirmsSignals : Type 0
ConfirmsSignals = (core : AnswererCore) (start : ℕ) (events : List CallEvent)
    (packets : List (List ℕ)) (next : ℕ) (slots : List Slot) → AreRead (rung core start) events
    → pieces_heard (after_events (rung core start) events).history ≡ reverse (pieces slots)
    → AreSlotsBefore packets next slots
    → Rises packets (after_events (rung core start) events).history next

-- The pages that ticks confirmed in a call, those for which MCF was decided, and those that wait to be confirmed, the newest
-- first
abbrev pub confirmed_with : Option ConfirmedPage → List PageValue → List PageValue
confirmed_with None pages = pages
confirmed_with (Some confirmed) pages = confirmed.page ∷ pages

abbrev pub confirmed_in_tick : Option WaitingPacket → List PageValue → List PageValue
confirmed_in_tick None pages = pages
confirmed_in_tick (Some w) pages = confirmed_with w.confirmed pages

abbrev pub pages_confirmed : AnswererCore → List CallEvent → List PageValue
pages_confirmed a [] = []
pages_confirmed a (Comes piece now read ∷ before) = pages_confirmed a before
pages_confirmed a (Ticks now ∷ before) =
    confirmed_in_tick (ticked (after_events a before) now).given (pages_confirmed a before)

abbrev pub page_with : Option PageValue → List PageValue → List PageValue
page_with None pages = pages
page_with (Some page) pages = page ∷ pages

abbrev pub pages_accepted : List Entry → List PageValue
pages_accepted [] = []
pages_accepted (e ∷ before) = page_with (page_accepted e.decision) (pages_accepted before)

abbrev pub pages_waiting : List WaitingPacket → List PageValue
pages_waiting [] = []
pages_waiting (w ∷ waiting) = pages_waiting waiting ++ confirmed_with w.confirmed []

-- In every call the pages for which MCF was decided are those that ticks confirmed, in their order, and then those that wait:
-- at most one. So what is told of the former is told of each confirmation.
abbrev pub ConfirmsWhatItAccepted : Type 0
ConfirmsWhatItAccepted = (core : AnswererCore) (start : ℕ) (events : List CallEvent)
    → let a : AnswererCore = after_events (rung core start) events in (pages_accepted a.history
    ≡ pages_waiting a.waiting ++ pages_confirmed (rung core start) events)
    × (length (pages_waiting a.waiting) < 2)
