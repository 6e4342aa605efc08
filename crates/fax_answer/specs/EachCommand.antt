-- Each command that is answered is judged under the DCS that a CFR answered.
use Rattle.std.specs.Prelude.{◌≡◌, ℕ, ◌<◌, true, List, ◌∷◌, ◌++◌, Some, ◌⊎◌}
use Rattle.fax_frames.specs.declared.dcs.Dcs.{Dcs}
use Rattle.fax_pagestore.specs.Pages.{PageValue}
use Rattle.fax_ifp.specs.Pieces as pieces
use Rattle.fax_answer.specs.declared.command.Command.{Command}
use Rattle.fax_answer.specs.declared.command.Order.TheVariants.{Judge}
use Rattle.fax_answer.specs.Orders.{order_of}
use Rattle.fax_answer.specs.History.{Entry, Decision, PassesOver, GivesMcf, GivesRtn, since_answer, images}
use Rattle.fax_answer.specs.Table.{is_one_image}
use Rattle.fax_answer.specs.Calls.{AnswererCore, rung, CallEvent, after_events}
use Rattle.fax_answer.specs.Confirmation.{AreRead}
use Rattle.fax_answer.specs.Judging.{MeansThis, MeansNone, IsAnswered, IsInPage}

-- There is such a DCS. Where images came since the last CFR or MCF and the last of them means no page under it, the answer is
-- RTN. Where in Page exactly one came, whole and with nothing after it, the answer is RTN exactly where it means no page, and
-- else MCF for the page that it means.
pub record IsJudged (history before : List Entry) (command : Command) (d : Decision) : Type 0 where
  pub dcs : Dcs
  pub answered : IsAnswered history before command d dcs
  pub refuses : 0 < images (since_answer before) → MeansNone before dcs → d ≡ GivesRtn
  pub exact : IsInPage before
      → is_one_image (since_answer before) ≡ true → ((d ≡ GivesRtn) × MeansNone before dcs)
      ⊎ ((page : PageValue) × (d ≡ GivesMcf command (Some page)) × MeansThis before dcs page)

-- So it is of each frame of a command, in every call, that is not passed over.
abbrev pub JudgesEachCommand : Type 0
JudgesEachCommand = (core : AnswererCore) (start : ℕ) (events : List CallEvent)
    (later before : List Entry) (octets : List ℕ) (d : Decision) (command : Command)
    → AreRead (rung core start) events → (after_events (rung core start) events).history
    ≡ later ++ record { piece = pieces.Frame octets; decision = d } ∷ before
    → order_of octets ≡ Judge command → (d ≡ PassesOver → ⊥)
    → IsJudged (after_events (rung core start) events).history before command d
