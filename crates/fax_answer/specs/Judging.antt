-- How commands are judged by what the image before them means.
use Rattle.std.specs.Prelude.{◌≡◌, ℕ, ◌<◌, true, List, ◌∷◌, ◌++◌, Some, ◌⊎◌}
use Rattle.fax_frames.specs.declared.dcs.Dcs.{Dcs}
use Rattle.fax_frames.specs.Capabilities.{format_of, coding_of}
use Rattle.fax_pagestore.specs.Pages.{PageValue}
use Rattle.fax_pagestore.specs.PageTexts.{MeansPage}
use Rattle.fax_ifp.specs.Pieces as pieces
use Rattle.fax_answer.specs.declared.command.Command.{Command}
use Rattle.fax_answer.specs.declared.command.Command.TheVariants.{Eom}
use Rattle.fax_answer.specs.declared.command.Order.TheVariants.{Judge}
use Rattle.fax_answer.specs.Orders.{order_of}
use Rattle.fax_answer.specs.History.{Entry, Decision, PassesOver, GivesMcf, GivesRtn, since_answer, images, last_image, repeated, answered_dcs}
use Rattle.fax_answer.specs.Table.{is_one_image}
use Rattle.fax_answer.specs.Calls.{AnswererCore, rung, CallEvent, after_events}
use Rattle.fax_answer.specs.Confirmation.{AreRead}

-- the last image since the last CFR or MCF means this page, or none, under a DCS
abbrev pub MeansThis : List Entry → Dcs → PageValue → Type 0
MeansThis before dcs page = MeansPage (format_of dcs) (coding_of dcs) (last_image before) page

abbrev pub MeansNone : List Entry → Dcs → Type 0
MeansNone before dcs = (page : PageValue) → MeansThis before dcs page → ⊥

-- A command that is answered, in Page or in Again: in the history of a call stands the command's frame, which was not passed
-- over, after a CFR to this DCS.
pub record IsAnswered (history before : List Entry) (command : Command) (d : Decision) (dcs : Dcs) :
    Type 0 where
  pub later : List Entry
  pub octets : List ℕ
  pub split : history ≡ later ++ record { piece = pieces.Frame octets; decision = d } ∷ before
  pub order : order_of octets ≡ Judge command
  pub not_passed : d ≡ PassesOver → ⊥
  pub dcs_is : answered_dcs before ≡ Some dcs

-- Where images came since the last CFR or MCF and the last of them means no page, the answer is RTN.
abbrev pub RefusesNoPage : Type 0
RefusesNoPage = (core : AnswererCore) (start : ℕ) (events : List CallEvent) (before : List Entry)
    (command : Command) (d : Decision) (dcs : Dcs) → AreRead (rung core start) events
    → IsAnswered (after_events (rung core start) events).history before command d dcs
    → 0 < images (since_answer before) → MeansNone before dcs → d ≡ GivesRtn

-- in Page: no EOM was answered by MCF since the last CFR
abbrev pub IsInPage : List Entry → Type 0
IsInPage before = repeated before ≡ Some Eom → ⊥

-- Where in Page exactly one image came, which is whole, and nothing was missing and no signal began after it, the answer is
-- RTN exactly where the image means no page, and else MCF for the page that it means.
abbrev pub JudgesExactly : Type 0
JudgesExactly = (core : AnswererCore) (start : ℕ) (events : List CallEvent) (before : List Entry)
    (command : Command) (d : Decision) (dcs : Dcs) → AreRead (rung core start) events
    → IsAnswered (after_events (rung core start) events).history before command d dcs
    → IsInPage before
    → is_one_image (since_answer before) ≡ true → ((d ≡ GivesRtn) × MeansNone before dcs)
    ⊎ ((page : PageValue) × (d ≡ GivesMcf command (Some page)) × MeansThis before dcs page)
