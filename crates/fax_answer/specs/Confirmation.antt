-- What a confirmation is, and what a repeated answer is.
use Rattle.std.specs.Prelude.{◌≡◌, ℕ, true, false, List, [], ◌∷◌, ◌++◌, Option, Some, None, ◌⊎◌}
use Rattle.fax_runcodes.specs.Widths.{elements_of}
use Rattle.fax_frames.specs.declared.dcs.Dcs.{Dcs}
use Rattle.fax_frames.specs.Capabilities.{format_of, coding_of}
use Rattle.fax_pagestore.specs.declared.fault.PageFault.{PageFault}
use Rattle.fax_pagestore.specs.PageTexts.{MeansPage}
use Rattle.fax_pagestore.specs.PageFaults.{FailsPage}
use Rattle.fax_ifp.specs.Pieces as pieces
use Rattle.fax_answer.specs.declared.command.Command.{Command}
use Rattle.fax_answer.specs.declared.command.Order.TheVariants.{Judge}
use Rattle.fax_answer.specs.Orders.{order_of}
use Rattle.fax_answer.specs.History.{Entry, Decision, GivesMcf, since_answer, images, gap, last_image, last_whole, repeated, answered_dcs}
use Rattle.fax_answer.specs.Table.{Reading, Question, is_quiet}
use Rattle.fax_answer.specs.Replies.{ConfirmedPage, is_last, WaitingPacket, mcf_packet}
use Rattle.fax_answer.specs.Calls.{AnswererCore, rung, asked, CallEvent, Comes, Ticks, after_events, ticked}

-- A confirmation: the command, which is MPS, EOP or EOM, and before it, since the last CFR or MCF was decided, exactly one
-- image. It is whole, nothing is missing and no signal began since its end, and its octets mean the page under the DCS that
-- CFR answered.
pub record IsConfirmation (before : List Entry) (octets : List ℕ) (confirmed : ConfirmedPage) :
    Type 0 where
  pub command : Command
  pub order : order_of octets ≡ Judge command
  pub closes : confirmed.closes ≡ is_last command
  pub one_image : images (since_answer before) ≡ 1
  pub whole : last_whole (since_answer before) ≡ true
  pub quiet : gap (since_answer before) ≡ false
  pub dcs : Dcs
  pub answered : answered_dcs before ≡ Some dcs
  pub means : MeansPage (format_of dcs) (coding_of dcs) (last_image before) confirmed.page

-- in this history the command stands at which the page was confirmed, and it is the last that was answered
pub record IsConfirmedIn (history : List Entry) (confirmed : ConfirmedPage) : Type 0 where
  pub later : List Entry
  pub octets : List ℕ
  pub decision : Decision
  pub before : List Entry
  pub split :
      history ≡ later ++ record { piece = pieces.Frame octets; decision = decision } ∷ before
  pub confirmation : IsConfirmation before octets confirmed
  pub accepts : decision ≡ GivesMcf confirmation.command (Some confirmed.page)
  pub last : since_answer history ≡ later

-- in this history the command stands that repeats the one that the last MCF answered, no CFR standing between them: no
-- image came since that answer, nothing was missing and no signal began; and it is the last that was answered
pub record IsRepeatedIn (history : List Entry) : Type 0 where
  pub later : List Entry
  pub octets : List ℕ
  pub decision : Decision
  pub before : List Entry
  pub split :
      history ≡ later ++ record { piece = pieces.Frame octets; decision = decision } ∷ before
  pub command : Command
  pub order : order_of octets ≡ Judge command
  pub accepts : decision ≡ GivesMcf command None
  pub same : repeated before ≡ Some command
  pub quiet : is_quiet (since_answer before) ≡ true
  pub last : since_answer history ≡ later

-- A reading is right: the page that it gives is meant, and where it gives none, the octets meet a fault (so that they
-- mean none).
abbrev pub IsRight : Question → Reading → Type 0
IsRight q (Some page) = MeansPage (format_of q.dcs) (coding_of q.dcs) q.octets page
IsRight q None = (fault : PageFault)
    × FailsPage (elements_of (format_of q.dcs).width) (coding_of q.dcs) q.octets fault

abbrev pub IfAsked : Option Question → Reading → Type 0
IfAsked None read = Unit {0}
IfAsked (Some q) read = IsRight q read

-- in a call, each reading that was asked for is right
abbrev pub AreRead : AnswererCore → List CallEvent → Type 0
AreRead a [] = Unit {0}
AreRead a (Comes piece now read ∷ before) =
    IfAsked (asked (after_events a before) piece) read × AreRead a before
AreRead a (Ticks now ∷ before) = AreRead a before

-- the same of the one reading that a datagram brings: it is none where nothing is asked
abbrev pub IsRead : Option Question → Reading → Type 0
IsRead None read = read ≡ None
IsRead (Some q) read = IsRight q read

-- In every call, each tick that gives a confirmed page gives the MCF frame, at a confirmation.
abbrev pub GivesConfirmations : Type 0
GivesConfirmations = (core : AnswererCore) (start now : ℕ) (events : List CallEvent)
    (w : WaitingPacket) (confirmed : ConfirmedPage) → AreRead (rung core start) events
    → (ticked (after_events (rung core start) events) now).given ≡ Some w
    → w.confirmed ≡ Some confirmed → (w.packet ≡ mcf_packet)
    × IsConfirmedIn (after_events (rung core start) events).history confirmed

-- In every call, each tick that gives the MCF frame gives a confirmed page with it, or answers a repeated command.
abbrev pub EachMcfAnswers : Type 0
EachMcfAnswers = (core : AnswererCore) (start now : ℕ) (events : List CallEvent) (w : WaitingPacket)
    → AreRead (rung core start) events
    → (ticked (after_events (rung core start) events) now).given ≡ Some w
    → w.packet ≡ mcf_packet → ((confirmed : ConfirmedPage) × (w.confirmed ≡ Some confirmed))
    ⊎ IsRepeatedIn (after_events (rung core start) events).history
