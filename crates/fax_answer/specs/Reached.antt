-- What an answerer keeps that a call has led to.
use Rattle.std.specs.Prelude.{◌≡◌, ℕ, ◌+◌, ◌<◌, true, List, [], ◌++◌, reverse, length, Option, Some, None}
use Rattle.fax_runcodes.specs.Widths.{elements_of}
use Rattle.fax_frames.specs.declared.dcs.Dcs.{Dcs}
use Rattle.fax_frames.specs.Capabilities.{format_of, coding_of}
use Rattle.fax_pagestore.specs.PageFaults.{FailsPage}
use Rattle.fax_pagestore.specs.Readers.{ReaderValue}
use Rattle.fax_ifp.specs.Elements.{Slot}
use Rattle.fax_ifp.specs.Pieces.{Piece, pieces}
use Rattle.fax_ifp.specs.Tracked.{TrackState, IsTracked}
use Rattle.fax_answer.specs.declared.command.Command.{Command}
use Rattle.fax_answer.specs.declared.command.Order.TheVariants.{Judge}
use Rattle.fax_answer.specs.declared.answer.Answer.{Answer}
use Rattle.fax_answer.specs.declared.image.Accepted.{Accepted}
use Rattle.fax_answer.specs.declared.refusal.Refusal.{Refusal}
use Rattle.fax_answer.specs.declared.refusal.Refusal.TheVariants.{Fault}
use Rattle.fax_answer.specs.declared.procedure.Procedure.{Procedure}
use Rattle.fax_answer.specs.declared.state.State.{State}
use Rattle.fax_answer.specs.declared.state.State.TheVariants.{Page, Again}
use Rattle.fax_answer.specs.Orders.{order_of}
use Rattle.fax_answer.specs.History.{Entry, Decision, GivesRtn, since_answer, octets_since, last_image}
use Rattle.fax_answer.specs.Table.{Reading, is_one_image, judged, on_command, on_command_again, on_order, order_asks}
use Rattle.fax_answer.specs.Replies.{ConfirmedPage}
use Rattle.fax_answer.specs.Calls.{AnswererCore, asked, came, first_asked, came_all}
use Rattle.fax_answer.specs.Confirmation.{IfAsked, IsRead, IsRight}
use Rattle.fax_answer.specs.Watching.{Telling, CameTold, telling, telling_with, tellings}
use Rattle.fax_answer.specs.Rep.{verdict_of}
use Rattle.fax_answer.specs.Images.{ImageValue, HasOpen, HasEnded, Confirms, run_after, longest_after}
use Rattle.fax_answer.specs.Following.{Follows, confirmed_after}
use Rattle.fax_answer.specs.Refusals.{HasReason, IsWhy}

-- what is left of the slots for frames and images to come, the procedure, the images, the page that the MCF that waits
-- confirms, why a page is refused by the RTN that waits, and for how many packets memory is reserved
pub record Rep : Type 0 where
  pub tracked : TrackState
  pub procedure : Procedure
  pub image : ImageValue
  pub confirmed : Option ConfirmedPage
  pub refused : Option Refusal
  pub spare : ℕ

-- In Page, under this DCS: the image under way is read, and the last that ended where a command may ask what it means. The
-- one of a page that an MCF confirms stands before them.
pub record HoldsPage (dcs : Dcs) (history : List Entry) (image : ImageValue) : Type 0 where
  pub openly : HasOpen dcs (octets_since history) image.readers
  pub last : is_one_image (since_answer history) ≡ true
      → HasEnded dcs (last_image history) image.readers
  pub apart : (accepted : Accepted) → image.accepted ≡ Some accepted
      → is_one_image (since_answer history) ≡ true → accepted.place + 2 < length image.readers

-- what a history leaves of images
pub record Holds (state : State) (history : List Entry) (image : ImageValue) : Type 0 where
  pub run : image.run ≡ run_after 0 (octets_since history)
  pub longest : image.longest ≡ longest_after 0 0 (octets_since history)
  pub page : (dcs : Dcs) → state ≡ Page dcs → HoldsPage dcs history image

-- it stands for this core
pub record Stands (core : AnswererCore) (kept : Rep) : Type 0 where
  pub confirmed : Option ConfirmedPage
  pub confirms : Confirms kept.image.accepted kept.image.readers kept.confirmed confirmed
  pub follows : Follows core confirmed kept.procedure
  pub reason : HasReason core kept.refused
  pub holds : Holds core.state core.history kept.image

-- These slots of the call, the newest first, and this core led to it. No page that is confirmed is in a reader any more.
pub record IsReached (heard : List Slot) (core : AnswererCore) (kept : Rep) : Type 0 where
  pub tracked : IsTracked heard kept.tracked
  pub stands : Stands core kept
  pub settled : kept.image.accepted ≡ None

-- More slots, in the order of time, led on, whatever came before: their pieces came, by one reading that is right.
pub record Hears (slots : List Slot)
    (now : ℕ) (heard : List Slot) (core : AnswererCore) (new : Rep) : Type 0 where
  pub given : List Piece
  pub pieces : pieces (reverse slots ++ heard) ≡ pieces heard ++ given
  pub read : Reading
  pub right : IsRead (first_asked core given now) read
  pub reached : IsReached (reverse slots ++ heard) (came_all read core given now) new

-- the same, and this holds of what was told of them
pub record HearsTold (Tells : List Telling → Type 0) (slots : List Slot)
    (now : ℕ) (heard : List Slot) (core : AnswererCore) (new : Rep) : Type 0 where
  pub hears : Hears slots now heard core new
  pub told : Tells (tellings hears.read core hears.given now)

-- the same, with a reading for each piece, where a page that is confirmed may still be in its reader
pub record HearsSo (Tells : List Telling → Type 0) (slots : List Slot)
    (now : ℕ) (heard : List Slot) (core : AnswererCore) (new : Rep) : Type 0 where
  pub given : List Piece
  pub pieces : pieces (reverse slots ++ heard) ≡ pieces heard ++ given
  pub after : AnswererCore
  pub told : List Telling
  pub came : CameTold core given now after told
  pub tells : Tells told
  pub tracked : IsTracked (reverse slots ++ heard) new.tracked
  pub stands : Stands after new

-- one more piece, and this holds of what was told of it
pub record Takes (Tells : List Telling → Type 0)
    (piece : Piece) (now : ℕ) (core : AnswererCore) (new : Rep) : Type 0 where
  pub read : Reading
  pub right : IfAsked (asked core piece) read
  pub tells : Tells (telling_with piece (telling read core piece) [])
  pub stands : Stands (came read core piece now) new

-- these pieces, in the order of time
pub record TakesAll (Tells : List Telling → Type 0)
    (given : List Piece) (now : ℕ) (core : AnswererCore) (new : Rep) : Type 0 where
  pub after : AnswererCore
  pub told : List Telling
  pub came : CameTold core given now after told
  pub tells : Tells told
  pub stands : Stands after new

-- the fault that an image meets under this DCS
abbrev pub IsFaultOf : List ℕ → Dcs → Option Refusal → Type 0
IsFaultOf octets dcs (Some (Fault fault)) =
    FailsPage (elements_of (format_of dcs).width) (coding_of dcs) octets fault
IsFaultOf octets dcs refused = ⊥

-- where RTN is decided, this holds
abbrev pub AtRtn : Decision → Type 0 → Type 0
AtRtn GivesRtn P = P
AtRtn decision P = Unit {0}

-- What is decided of an image by some reading of it that is right, the image, among these readers, of the page that is
-- confirmed, and the fault for which it is refused
pub record AnswersImage (octets : List ℕ)
    (dcs : Dcs) (command : Command) (readers : List ReaderValue) (answer : Answer) : Type 0 where
  pub read : Reading
  pub right : IsRight (record { octets = octets; dcs = dcs }) read
  pub verdict_is : verdict_of (judged command read) ≡ answer.decision
  pub page_is : Confirms answer.found readers None (confirmed_after (judged command read) None)
  pub why : AtRtn (judged command read) (IsFaultOf octets dcs answer.refused)

-- the same at a command in Page
pub record AnswersCommand (dcs : Dcs) (command : Command)
    (history : List Entry) (readers : List ReaderValue) (answer : Answer) : Type 0 where
  pub read : Reading
  pub right : IfAsked (order_asks (Page dcs) history (Judge command)) read
  pub verdict_is : verdict_of (on_command read history command) ≡ answer.decision
  pub page_is :
      Confirms answer.found readers None (confirmed_after (on_command read history command) None)
  pub why : AtRtn (on_command read history command) (IsWhy (Page dcs) history answer.refused)

-- what is decided at a command in Again
pub record AnswersAgain (command : Command)
    (history : List Entry) (readers : List ReaderValue) (answer : Answer) : Type 0 where
  pub verdict_is : verdict_of (on_command_again history command) ≡ answer.decision
  pub page_is :
      Confirms answer.found readers None (confirmed_after (on_command_again history command) None)
  pub why : AtRtn (on_command_again history command) (IsWhy Again history answer.refused)

-- the same as in Page at a frame where no packet waits
pub record Answers (octets : List ℕ)
    (core : AnswererCore) (readers : List ReaderValue) (answer : Answer) : Type 0 where
  pub read : Reading
  pub right : IfAsked (order_asks core.state core.history (order_of octets)) read
  pub verdict_is :
      verdict_of (on_order read core.state core.history (order_of octets)) ≡ answer.decision
  pub page_is : Confirms answer.found
      readers None (confirmed_after (on_order read core.state core.history (order_of octets)) None)
  pub why : AtRtn (on_order read core.state core.history (order_of octets))
      (IsWhy core.state core.history answer.refused)
