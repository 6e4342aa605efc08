-- Events as lines of JSON (RFC 8259; which members an event has is this project's profile).
use Rattle.std.specs.Prelude.{◌≡◌, ℕ, List, [], ◌∷◌, ◌++◌, codes, decimal, Option, None, Some, option_map}
use Rattle.json.specs.Token.{Token, begin_object, end_object, key, string, number, null}
use Rattle.json.specs.Print.{print}
use Rattle.json.specs.Written.{Written}
use Rattle.fax_runcodes.specs.Widths.{elements_of}
use Rattle.fax_runcodes.specs.declared.format.Format.{Format}
use Rattle.fax_jobs.specs.Outcomes.{outcome_name}
use Rattle.fax_jobs.specs.ReportTexts.{resolution_name}
use Rattle.fax_pagestore.specs.declared.fault.PageFault.{PageFault}
use Rattle.fax_pagestore.specs.declared.fault.PageFault.TheVariants as page
use Rattle.fax_pagestore.specs.FaultNumbers.{page_fault_number}
use Rattle.fax_answer.specs.declared.refusal.Refusal.{Refusal}
use Rattle.fax_answer.specs.declared.refusal.Refusal.TheVariants.{Fault, NotWhole, GapAfter, SeveralImages, NoImage, Untrained}
use Rattle.fax_gateway.specs.LegNames.{leg_text}
use Rattle.fax_control.specs.declared.events.event.Direction.{Direction}
use Rattle.fax_control.specs.declared.events.event.Direction.TheVariants.{Receives, Sends}
use Rattle.fax_control.specs.declared.events.event.Ending.{Ending}
use Rattle.fax_control.specs.declared.events.event.Ending.TheVariants.{Done, HungUp, GivenUp, NotStored}
use Rattle.fax_control.specs.declared.events.event.WhyAside.{WhyAside}
use Rattle.fax_control.specs.declared.events.event.WhyAside.TheVariants.{NoPage, TornCall, NoLine}
use Rattle.fax_control.specs.declared.events.event.What.{What}
use Rattle.fax_control.specs.declared.events.event.What.TheVariants.{Rung, Page, RefusedPage, Ended, Dial, Asked, Connected, Job, Undelivered, Discarded, Wire, Late, Full, SetAside, Damaged, Frame, SpoolFailed}
use Rattle.fax_control.specs.declared.events.event.What.TheVariants as what
use Rattle.fax_control.specs.declared.events.event.Event.{Event}

abbrev pub direction_name : Direction → List ℕ
direction_name Receives = codes "receives"
direction_name Sends = codes "sends"

abbrev pub ending_name : Ending → List ℕ
ending_name Done = codes "Done"
ending_name HungUp = codes "HungUp"
ending_name GivenUp = codes "GivenUp"
ending_name NotStored = codes "NotStored"

abbrev pub aside_name : WhyAside → List ℕ
aside_name NoPage = codes "NoPage"
aside_name TornCall = codes "TornCall"
aside_name NoLine = codes "NoLine"

abbrev pub fault_name : PageFault → List ℕ
fault_name page.NoEol = codes "NoEol"
fault_name (page.BadLine n) = codes "BadLine"
fault_name page.NoRtc = codes "NoRtc"
fault_name page.Empty = codes "Empty"
fault_name page.TooManyRows = codes "TooManyRows"
fault_name page.NoMemory = codes "NoMemory"

abbrev pub refusal_name : Refusal → List ℕ
refusal_name (Fault fault) = fault_name fault
refusal_name NotWhole = codes "NotWhole"
refusal_name GapAfter = codes "GapAfter"
refusal_name SeveralImages = codes "SeveralImages"
refusal_name NoImage = codes "NoImage"
refusal_name Untrained = codes "Untrained"

abbrev pub event_name : What → List ℕ
event_name (Rung call tag) = codes "rung"
event_name (Page kept tag) = codes "page"
event_name (RefusedPage call tag why) = codes "refused_page"
event_name (Ended call tag how) = codes "ended"
event_name (Dial call tag) = codes "dial"
event_name (Asked job tag) = codes "dial"
event_name (Connected call tag) = codes "connected"
event_name (Job report tag cause) = codes "job"
event_name (Undelivered job tag cause) = codes "undelivered"
event_name (Discarded life call tag) = codes "discarded"
event_name (Wire leg direction count) = codes "wire"
event_name (Late span) = codes "late"
event_name (Full call) = codes "full"
event_name (what.NotStored call tag) = codes "not_stored"
event_name (SetAside aside tag) = codes "set_aside"
event_name (Damaged records octets) = codes "damaged"
event_name (Frame lane words) = codes "frame"
event_name SpoolFailed = codes "spool_failed"

-- ---- members of an object

abbrev pub text_member : List ℕ → List ℕ → List Token
text_member name text = key name ∷ string text ∷ []

abbrev pub number_member : List ℕ → ℕ → List Token
number_member name n = key name ∷ number (decimal n) ∷ []

-- the tag of a call; `null` where it was rung with none
abbrev pub tag_value : Option (List ℕ) → Token
tag_value None = null
tag_value (Some tag) = string tag

abbrev pub tag_member : Option (List ℕ) → List Token
tag_member tag = key (codes "tag") ∷ tag_value tag ∷ []

abbrev pub format_members : Format → List Token
format_members format = number_member (codes "width") (elements_of format.width)
    ++ text_member (codes "resolution") (resolution_name format.fine)

-- the number of a fault of a page, and after how many rows it is met where it is a line
abbrev pub row_members : PageFault → List Token
row_members (page.BadLine n) = number_member (codes "row") n
row_members fault = []

abbrev pub fault_members : PageFault → List Token
fault_members fault =
    number_member (codes "fault_number") (page_fault_number fault) ++ row_members fault

-- why a page is refused
abbrev pub detail_members : Refusal → List Token
detail_members (Fault fault) = fault_members fault
detail_members why = []

abbrev pub refusal_members : Refusal → List Token
refusal_members why = text_member (codes "fault") (refusal_name why) ++ detail_members why

-- for what cause a call was not placed; a call that began has none
abbrev pub cause_members : Option (List ℕ) → List Token
cause_members None = []
cause_members (Some cause) = text_member (codes "cause") cause

-- for what cause a job's call was not placed last, how often the job was tried, and when it ended last, in seconds since 1970
abbrev pub try_members : Option (List ℕ) → (tries last : ℕ) → List Token
try_members cause tries last = cause_members cause
    ++ (number_member (codes "tries") tries ++ number_member (codes "last") last)

-- ---- the members of each event

abbrev pub what_members : What → List Token
what_members (Rung call tag) =
    number_member (codes "call") call ++ tag_member (option_map (λ text. text.now) tag)
what_members (Page kept tag) = number_member (codes "call") kept.call ++ (tag_member (option_map
    (λ text. text.now) tag) ++ (number_member (codes "number") kept.number
    ++ (format_members kept.format ++ number_member (codes "rows") kept.rows)))
what_members (RefusedPage call tag why) = number_member (codes "call") call
    ++ (tag_member (option_map (λ text. text.now) tag) ++ refusal_members why)
what_members (Ended call tag how) = number_member (codes "call") call ++ (tag_member (option_map
    (λ text. text.now) tag) ++ text_member (codes "how") (ending_name how))
what_members (Dial call tag) =
    number_member (codes "call") call ++ tag_member (option_map (λ text. text.now) tag)
what_members (Asked job tag) = number_member (codes "call") job.call
    ++ (tag_member (option_map (λ text. text.now) tag) ++ (number_member (codes "try") job.tries
    ++ (number_member (codes "pages") job.pages ++ number_member (codes "seconds") job.seconds)))
what_members (Connected call tag) =
    number_member (codes "call") call ++ tag_member (option_map (λ text. text.now) tag)
what_members (Job report tag cause) =
    number_member (codes "call") report.call ++ (tag_member (option_map (λ text. text.now) tag)
    ++ (format_members report.format ++ (number_member (codes "pages") report.pages
    ++ (number_member (codes "delivered") report.delivered ++ (text_member (codes "outcome")
    (outcome_name report.outcome) ++ cause_members (option_map (λ text. text.now) cause))))))
what_members (Undelivered job tag cause) =
    number_member (codes "life") job.life ++ (number_member (codes "call") job.call
    ++ (tag_member (option_map (λ text. text.now) tag) ++ (number_member (codes "pages") job.pages
    ++ (text_member (codes "outcome") (outcome_name job.outcome)
    ++ try_members (option_map (λ text. text.now) cause) job.tries job.at))))
what_members (Discarded life call tag) = number_member (codes "life") life
    ++ (number_member (codes "call") call ++ tag_member (option_map (λ text. text.now) tag))
what_members (Wire leg direction count) = text_member (codes "leg") (leg_text leg)
    ++ (text_member (codes "direction") (direction_name direction)
    ++ number_member (codes "failures") count)
what_members (Late span) = number_member (codes "ms") span
what_members (Full call) = number_member (codes "call") call
what_members (what.NotStored call tag) =
    number_member (codes "call") call ++ tag_member (option_map (λ text. text.now) tag)
what_members (SetAside aside tag) = number_member (codes "life") aside.life
    ++ (number_member (codes "call") aside.call ++ (tag_member (option_map (λ text. text.now) tag)
    ++ (number_member (codes "number") aside.number
    ++ text_member (codes "why") (aside_name aside.why))))
what_members (Damaged records octets) =
    number_member (codes "records") records ++ number_member (codes "octets") octets
what_members (Frame lane words) =
    text_member (codes "lane") lane.now ++ text_member (codes "text") words.now
what_members SpoolFailed = []

-- the line that it happened on; none where it happened to all of them
abbrev pub line_members : Option (List ℕ) → List Token
line_members None = []
line_members (Some line) = text_member (codes "line") line

-- an event as an object: its name, its line, its moment, and what it tells
abbrev pub event_tokens : Event → List Token
event_tokens event = begin_object ∷ (text_member (codes "event") (event_name event.what)
    ++ (line_members (option_map (λ text. text.now) event.line)
    ++ (number_member (codes "at") event.at ++ (what_members event.what ++ end_object ∷ []))))

-- the line of an event, its line feed with it: JSON with no space
abbrev pub event_line : Event → List ℕ
event_line event = print (event_tokens event) ++ 10 ∷ []

-- Some tokens were written after those before.
pub record Adds (old new : Written) (tokens : List Token) : Type 0 where
  pub before : new.before ≡ old.before
  pub added : new.tokens ≡ old.tokens ++ tokens
