-- Why a page is refused: what is told of the command that RTN answers. (ITU-T T.30, 5.3.6.1.7, says that a page is refused, and
-- leaves open why; the reasons are this project's profile.) A history has the newest first.
use Rattle.std.specs.Prelude.{◌≡◌, ◌<◌, ◌⊎◌, Bool, true, false, List, [], ◌∷◌, Option, Some, None, if◌then◌else◌}
use Rattle.fax_runcodes.specs.Widths.{elements_of}
use Rattle.fax_frames.specs.declared.dcs.Dcs.{Dcs}
use Rattle.fax_frames.specs.Capabilities.{format_of, coding_of}
use Rattle.fax_pagestore.specs.PageFaults.{FailsPage}
use Rattle.fax_answer.specs.declared.refusal.Refusal.{Refusal}
use Rattle.fax_answer.specs.declared.refusal.Refusal.TheVariants.{Fault, NotWhole, GapAfter, SeveralImages, NoImage, Untrained}
use Rattle.fax_answer.specs.declared.state.State.{State}
use Rattle.fax_answer.specs.declared.state.State.TheVariants.{Page, Again}
use Rattle.fax_answer.specs.History.{Entry, Decision, GivesRtn, since_answer, images, gap, last_image, last_whole}
use Rattle.fax_answer.specs.Table.{is_one_image}
use Rattle.fax_answer.specs.Replies.{WaitingPacket}
use Rattle.fax_answer.specs.Calls.{AnswererCore, TickResult}
use Rattle.fax_answer.specs.EachRtn.{rtn_packet}

-- PAGE, under this DCS: what each reason says of what came since the last CFR or MCF. A fault is that of the one image, whole
-- and with nothing after it, which means no page.
abbrev pub IsReasonInPage : Dcs → List Entry → Refusal → Type 0
IsReasonInPage dcs before (Fault fault) = (is_one_image (since_answer before) ≡ true)
    × FailsPage (elements_of (format_of dcs).width) (coding_of dcs) (last_image before) fault
IsReasonInPage dcs before NotWhole =
    (images (since_answer before) ≡ 1) × (last_whole (since_answer before) ≡ false)
IsReasonInPage dcs before GapAfter = (images (since_answer before) ≡ 1)
    × (last_whole (since_answer before) ≡ true) × (gap (since_answer before) ≡ true)
IsReasonInPage dcs before SeveralImages = 1 < images (since_answer before)
IsReasonInPage dcs before NoImage = images (since_answer before) ≡ 0
IsReasonInPage dcs before Untrained = ⊥

-- AGAIN: no DCS was answered for an image that came
abbrev pub IsReasonInAgain : List Entry → Refusal → Type 0
IsReasonInAgain before NoImage = images (since_answer before) ≡ 0
IsReasonInAgain before Untrained = 0 < images (since_answer before)
IsReasonInAgain before refusal = ⊥

-- the reason for an RTN to a command in this state, after this
abbrev pub IsReason : State → List Entry → Refusal → Type 0
IsReason (Page dcs) before refusal = IsReasonInPage dcs before refusal
IsReason Again before refusal = IsReasonInAgain before refusal
IsReason state before refusal = ⊥

-- what came before the last command that RTN answered
abbrev pub is_rtn : Decision → Bool
is_rtn GivesRtn = true
is_rtn decision = false

abbrev pub before_rtn : List Entry → List Entry
before_rtn [] = []
before_rtn (e ∷ before) = if is_rtn e.decision then before else before_rtn before

-- this is told as the reason
abbrev pub IsWhy : State → List Entry → Option Refusal → Type 0
IsWhy state before None = ⊥
IsWhy state before (Some refusal) = IsReason state before refusal

-- this says why the last command that RTN answered was refused, in a call that stands so
abbrev pub SaysWhy : State → List Entry → Option Refusal → Type 0
SaysWhy state history told = IsWhy state (before_rtn history) told

-- the RTN frame waits
abbrev pub AwaitsRtn : List WaitingPacket → Type 0
AwaitsRtn [] = ⊥
AwaitsRtn (w ∷ waiting) = (w.packet ≡ rtn_packet) ⊎ AwaitsRtn waiting

-- the RTN frame is given
abbrev pub IsRtn : Option WaitingPacket → Type 0
IsRtn None = ⊥
IsRtn (Some w) = w.packet ≡ rtn_packet

-- what is kept of a call says why, where the RTN frame waits
abbrev pub HasReason : AnswererCore → Option Refusal → Type 0
HasReason a told = AwaitsRtn a.waiting → SaysWhy a.state a.history told

-- A TICK tells why a page is refused exactly where it gives the RTN frame.
pub record TellsWhy (t : TickResult) (told : Option Refusal) : Type 0 where
  pub rtn : IsRtn t.given → SaysWhy t.core.state t.core.history told
  pub silent : (IsRtn t.given → ⊥) → told ≡ None

-- What came before a command is refused for one reason at most.
abbrev pub ReasonsAreUnique : Type 0
ReasonsAreUnique = (state : State) (before : List Entry) (one other : Refusal)
    → IsReason state before one → IsReason state before other → one ≡ other
