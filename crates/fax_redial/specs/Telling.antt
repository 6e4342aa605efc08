-- What is told of redial lines (this project's profile).
use Rattle.std.specs.Prelude.{◌≡◌, ℕ, true, false, List, Option, Some, None, option_map, slice_get}
use Rattle.fax_desk.specs.Cards.{cause_of}
use Rattle.fax_desk.specs.Desks.{name_at, told_at, turned_at}
use Rattle.fax_desk.specs.Telling.{TellsAt}
use Rattle.fax_desk.specs.declared.card.Card.{Card}
use Rattle.fax_desk.specs.declared.desk.Desk.{Desk}
use Rattle.fax_desk.specs.declared.questions.Cause.{Cause}
use Rattle.fax_desk.specs.declared.told.LineEvent.{LineEvent}
use Rattle.fax_desk.specs.declared.told.Turn.{Turn}
use Rattle.fax_gateway.specs.declared.turn_report.TurnReport.{TurnReport}
use Rattle.fax_redial.specs.Befalls.{Tries, TurnsAt}
use Rattle.fax_redial.specs.Seeing.{first_of}
use Rattle.fax_redial.specs.Tries.{TryValue, Turns, told_by}
use Rattle.fax_redial.specs.declared.job.RetryJob.{RetryJob}

-- all redial lines: their desk, and their tries
pub record RedialsValue : Type 0 where
  pub desk : Desk
  pub tries : Tries

-- no order waits at the desk
abbrev pub AreWell : Desk → Type 0
AreWell desk = desk.waits ≡ None

-- for what cause the call of the job that is first in turn could not be placed, where a word said so
abbrev pub cause_if : Option Card → Option Cause
cause_if None = None
cause_if (Some card) = cause_of card card.jobs

abbrev pub cause_on : List Card → ℕ → Option Cause
cause_on cards i = cause_if (slice_get cards i)

-- a turn of a try's line: it confirms no page, and no word hangs its calling leg up
abbrev pub turn_of : RetryJob → TurnReport → Turn
turn_of job turned = record {
  turned = turned;
  first = first_of job;
  is_stored = true;
  is_silenced = false;
  is_hung_up = false;
}

-- ---- THE TURN OF LINE i is told under its own name, by what its line told; and no more is noted at the desk

pub record Notes {L : Type 0} (tells : List ℕ → ℕ → LineEvent → L → L → Type 0)
    (i now : ℕ) (turn : Turn) (old new : Desk) (before after : L) : Type 0 where
  pub told :
      TellsAt tells (name_at old.names.items i) (told_at old.cards.items i turn) now before after
  pub cards : new.cards.items ≡ turned_at old.cards.items i turn
  pub desk : new ≡ record old { cards = new.cards }

abbrev pub NotesIf : {L : Type 0} → (List ℕ → ℕ → LineEvent → L → L → Type 0)
    → (i now : ℕ) → Option Turn → Desk → Desk → L → L → Type 0
NotesIf tells i now None old new before after = (new ≡ old) × (after ≡ before)
NotesIf tells i now (Some turn) old new before after = Notes tells i now turn old new before after

-- what is told of the turn of a try, which it left so
abbrev pub told_of_try : TryValue → Option TryValue → Option Turn
told_of_try held None = None
told_of_try held (Some next) = option_map (turn_of held.job) (told_by held next)

abbrev pub told_if_held : Option TryValue → Option TryValue → Option Turn
told_if_held None new = None
told_if_held (Some held) new = told_of_try held new

-- of that on line i, by what was there before and after it
abbrev pub told_on : (old new : Option (Option TryValue)) → Option Turn
told_on None new = None
told_on (Some old) None = None
told_on (Some old) (Some new) = told_if_held old new

-- THE TRY ON LINE i HAS A TURN, where there is one
abbrev pub TurnsIf : (i now : ℕ) → Option Cause → Option (Option TryValue) → Tries → Tries → Type 0
TurnsIf i now cause None old new = new ≡ old
TurnsIf i now cause (Some None) old new = new ≡ old
TurnsIf i now cause (Some (Some held)) old new = TurnsAt i now cause old new

-- of a try, where there is one
abbrev pub TurnsOne : (now : ℕ) → Option Cause → Option TryValue → Option TryValue → Type 0
TurnsOne now cause None new = new ≡ None
TurnsOne now cause (Some held) new =
    (next : TryValue) × (new ≡ Some next) × Turns now cause held next
