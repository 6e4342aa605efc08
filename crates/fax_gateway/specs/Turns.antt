-- What is told of ticks and turns, beside the datagrams. (This project's profile.)
use Rattle.std.specs.Prelude.{◌≡◌, ℕ, max, Bool, true, false, List, [], ◌∷◌, ◌++◌, length, Option, Some, None, if◌then◌else◌}
use Rattle.fax_jobs.specs.declared.report.Report.{Report}
use Rattle.fax_jobs.specs.Jobs.{JobValue}
use Rattle.fax_answer.specs.Replies.{ConfirmedPage}
use Rattle.fax_answer.specs.declared.refusal.Refusal.{Refusal}
use Rattle.fax_gateway.specs.declared.given.Kept.{Kept}
use Rattle.fax_gateway.specs.declared.given.RefusedPage.{RefusedPage}
use Rattle.fax_gateway.specs.Setups.{Setup}
use Rattle.fax_gateway.specs.Events.{Event, Ring, FromCalling, FromCalled, Tick, Placed, clock}
use Rattle.fax_gateway.specs.CallingLegs.{CallingLeg, answers, calling_leg, confirmed_by, core_of, is_idle}
use Rattle.fax_gateway.specs.Reports.{report_list, reports_given}
use Rattle.fax_gateway.specs.Reached.{CallingValue, TellsWhyOn}

-- ---- a tick on the calling leg

-- the page that it confirms, in the call of this number
abbrev pub kept_if : ℕ → Option ConfirmedPage → Option Kept
kept_if number None = None
kept_if number (Some c) = Some (record {
  call = number;
  format = c.page.format;
  rows = length c.page.rows;
  closes = c.closes;
})

abbrev pub kept_at : Option CallingLeg → ℕ → Option Kept
kept_at None now = None
kept_at (Some l) now = kept_if l.number (confirmed_by (answers l now).given)

-- the page that it refuses, in the call of this number, for a reason that is right
abbrev pub refused_if : ℕ → Option Refusal → Option RefusedPage
refused_if number None = None
refused_if number (Some why) = Some (record { call = number; why = why })

abbrev pub Refuses : Option CallingLeg → ℕ → (number : ℕ) → Option RefusedPage → Type 0
Refuses leg now number told =
    (why : Option Refusal) × TellsWhyOn leg now why × (told ≡ refused_if number why)

abbrev pub IsRefusedAt : Option CallingLeg → ℕ → Option RefusedPage → Type 0
IsRefusedAt None now told = told ≡ None
IsRefusedAt (Some l) now told = Refuses (Some l) now l.number told

-- the call that it ends, of this number: it was given up
abbrev pub call_if : Bool → ℕ → Option ℕ
call_if true number = Some number
call_if false number = None

abbrev pub given_up_at : Option CallingLeg → ℕ → Option ℕ
given_up_at None now = None
given_up_at (Some l) now = call_if (answers l now).ended l.number

-- ---- the ticks of a trace, in the order of time: the pages that they confirmed and refused, and the calls that they gave up
abbrev pub kept_list : Option Kept → List Kept
kept_list None = []
kept_list (Some kept) = kept ∷ []

abbrev pub pages_confirmed : Setup → List Event → List Kept
pages_confirmed setup [] = []
pages_confirmed setup (Ring at number ∷ earlier) = pages_confirmed setup earlier
pages_confirmed setup (FromCalling octets at decided read ∷ earlier) = pages_confirmed setup earlier
pages_confirmed setup (FromCalled octets at decided ∷ earlier) = pages_confirmed setup earlier
pages_confirmed setup (Tick at given ∷ earlier) = pages_confirmed setup earlier
    ++ kept_list (kept_at (calling_leg setup earlier) (max at (clock earlier)))
pages_confirmed setup (Placed at connected ∷ earlier) = pages_confirmed setup earlier

abbrev pub refused_list : Option RefusedPage → List RefusedPage
refused_list None = []
refused_list (Some refused) = refused ∷ []

abbrev pub AreRefused : Setup → List Event → List RefusedPage → Type 0
AreRefused setup [] told = told ≡ []
AreRefused setup (Ring at number ∷ earlier) told = AreRefused setup earlier told
AreRefused setup (FromCalling octets at decided read ∷ earlier) told = AreRefused setup earlier told
AreRefused setup (FromCalled octets at decided ∷ earlier) told = AreRefused setup earlier told
AreRefused setup (Tick at given ∷ earlier) told =
    (before : List RefusedPage) × (refused : Option RefusedPage) × AreRefused setup earlier before
    × IsRefusedAt (calling_leg setup earlier) (max at (clock earlier)) refused
    × (told ≡ before ++ refused_list refused)
AreRefused setup (Placed at connected ∷ earlier) told = AreRefused setup earlier told

abbrev pub call_list : Option ℕ → List ℕ
call_list None = []
call_list (Some number) = number ∷ []

abbrev pub calls_given_up : Setup → List Event → List ℕ
calls_given_up setup [] = []
calls_given_up setup (Ring at number ∷ earlier) = calls_given_up setup earlier
calls_given_up setup (FromCalling octets at decided read ∷ earlier) = calls_given_up setup earlier
calls_given_up setup (FromCalled octets at decided ∷ earlier) = calls_given_up setup earlier
calls_given_up setup (Tick at given ∷ earlier) = calls_given_up setup earlier
    ++ call_list (given_up_at (calling_leg setup earlier) (max at (clock earlier)))
calls_given_up setup (Placed at connected ∷ earlier) = calls_given_up setup earlier

-- What the ticks told by which a trace became longer: at most one report, one page that was confirmed, one that was refused, and
-- one call.
pub record TellTicks (setup : Setup) (older newer : List Event) (report : Option Report)
    (kept : Option Kept) (refused : Option RefusedPage) (gave_up : Option ℕ) : Type 0 where
  pub reports : reports_given newer ≡ reports_given older ++ report_list report
  pub pages : pages_confirmed setup newer ≡ pages_confirmed setup older ++ kept_list kept
  pub refusals : (told : List RefusedPage)
      → AreRefused setup older told → AreRefused setup newer (told ++ refused_list refused)
  pub calls : calls_given_up setup newer ≡ calls_given_up setup older ++ call_list gave_up

-- ---- what is on

-- the number of the calling leg's call, where one is on, by the trace and by what is kept
abbrev pub call_on : Option CallingLeg → Option ℕ
call_on None = None
call_on (Some l) = if is_idle (core_of l).state then None else Some l.number

abbrev pub call_of_rep : CallingValue → Option ℕ
call_of_rep endpoint = if is_idle endpoint.kept.procedure.state then None else Some endpoint.number

-- a call that was on, and is on no more
abbrev pub call_ended : (old new : Option ℕ) → Option ℕ
call_ended old None = old
call_ended old (Some number) = None

-- the call of a job, where there is one
abbrev pub call_asked : Option JobValue → Option ℕ
call_asked None = None
call_asked (Some job) = Some job.call

-- the call of the job that is being sent, where none was
abbrev pub call_dialled : (was_sending : Bool) → Option JobValue → Option ℕ
call_dialled true job = None
call_dialled false None = None
call_dialled false (Some job) = Some job.call

-- the call that is asked for, where none was
abbrev pub call_if_new : (was_asked is_asked : Option ℕ) → Option ℕ
call_if_new None is_asked = is_asked
call_if_new (Some call) is_asked = None
