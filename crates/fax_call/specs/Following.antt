-- What a procedure is in place of the core that it stands for. No law speaks of this module.
use Rattle.std.specs.Prelude.{◌≡◌, ℕ, ◌<◌, Bool, ◌&&◌, List, length, drop, slice_get, Option, Some}
use Rattle.fax_runcodes.specs.declared.format.Format.{Format}
use Rattle.fax_frames.specs.declared.dcs.Dcs.{Dcs}
use Rattle.fax_frames.specs.declared.writing.Plain.{Plain}
use Rattle.fax_pagestore.specs.Pages.{PageValue}
use Rattle.fax_pagestore.specs.Writers.{WriterValue, HasLeft, HasMore}
use Rattle.fax_timers.specs.Paces.{pace_after, pace_allows}
use Rattle.fax_jobs.specs.Jobs.{JobValue}
use Rattle.fax_call.specs.declared.pending.Pending.{Pending}
use Rattle.fax_call.specs.declared.pending.Pending.TheVariants as pendings
use Rattle.fax_call.specs.declared.procedure.Procedure.{Procedure}
use Rattle.fax_call.specs.declared.state.State.{State}
use Rattle.fax_call.specs.declared.state.State.TheVariants.{Idle, AwaitMcf}
use Rattle.fax_call.specs.Writings.{Writing}
use Rattle.fax_call.specs.Replies.{Packet, written, waits, signals_preamble, is_last_page, turn_after, command_by, command_after}
use Rattle.fax_call.specs.Calls.{CallerCore, formats_of, text_at, given_first, state_when_given, outcome_when_given, t4_when_given}
use Rattle.fax_call.specs.Rep.{counts_shown, waiting_of, packet_of, pending_after, FitsState, FitsPending}

-- what is known of every procedure
pub record IsFit (p : Procedure) : Type 0 where
  pub within : p.counts.page < p.pages
  pub state : FitsState p.state p.counts
  pub pending : FitsPending p.pending
  pub rests : p.state ≡ Idle → p.pending ≡ pendings.Nothing

-- of the text of a page under a DCS so many octets were given, and a writer has those after them left
abbrev pub HasTextLeft : Writing → JobValue → (page : ℕ) → Dcs → (from : ℕ) → WriterValue → Type 0
HasTextLeft writes job page dcs from writer = (value : PageValue)
    → slice_get job.pages page ≡ Some value
    → HasLeft value (drop from (text_at writes job page dcs)) writer

-- what is left of the text of a page, while it is given
abbrev pub IsLeft : Writing → JobValue → (page : ℕ) → (from : ℕ) → Pending → WriterValue → Type 0
IsLeft writes job page from (pendings.Text dcs plain) writer =
    HasTextLeft writes job page dcs from writer
IsLeft writes job page from pending writer = Unit {0}

-- from the short training indicator of a page on, the format of the next page is stored, where it is another
abbrev pub KeepsTurn : State → Pending → List Format → (page : ℕ) → (turn : Option Format) → Type 0
KeepsTurn (AwaitMcf dis dcs) (pendings.Image d) formats page turn = Unit {0}
KeepsTurn (AwaitMcf dis dcs) pending formats page turn = turn ≡ turn_after formats page
KeepsTurn state pending formats page turn = Unit {0}

-- a procedure that stands for a core in the call of a job; the writer of the text that is given is kept beside it
pub record Follows (writes : Writing)
    (job : JobValue) (core : CallerCore) (writer : WriterValue) (p : Procedure) : Type 0 where
  pub state : p.state ≡ core.state
  pub format : p.format ≡ core.format
  pub formats : (core.state ≡ Idle → ⊥) → core.formats ≡ formats_of job
  pub turn : KeepsTurn p.state p.pending core.formats p.counts.page p.turn
  pub pages : p.pages ≡ core.pages
  pub counts : counts_shown p.counts ≡ core.counts
  pub from : ℕ
  pub waiting :
      waiting_of p.pending (command_after core.formats core.pages p.counts.page) p.counts.page from
      ≡ core.waiting
  pub left : IsLeft writes job p.counts.page from p.pending writer
  pub t1 : p.t1 ≡ core.t1
  pub t4 : p.t4 ≡ core.t4
  pub pace : p.pace ≡ core.pace
  pub outcome : p.outcome ≡ core.outcome

-- whether a packet is given now: one waits, and the pace lets it through
abbrev pub gives_now : CallerCore → ℕ → Bool
gives_now core now = waits core.waiting && pace_allows core.pace.last now

-- something is left of a text while it is given
abbrev pub HasText : Pending → WriterValue → Type 0
HasText (pendings.Text dcs plain) writer = HasMore writer
HasText pending writer = Unit {0}

-- the job has as many pages, and those formats that are kept: that of the page due, and that of the next page, where it is
-- another
pub record HasFormats (p : Procedure) (job : JobValue) : Type 0 where
  pub pages : length job.pages ≡ p.pages
  pub due : slice_get (formats_of job) p.counts.page ≡ Some p.format
  pub turn : KeepsTurn p.state p.pending (formats_of job) p.counts.page p.turn

-- the job is the one of the call that is on, if one is
abbrev pub IsJobOfCall : Procedure → JobValue → Type 0
IsJobOfCall p job = (p.state ≡ Idle → ⊥) → HasFormats p job

-- the procedure after the next packet, which is a preamble or not
abbrev pub after_packet : (is_preamble : Bool) → Pending → Procedure → ℕ → Procedure
after_packet is_preamble pendings.Nothing p now =
    record p {
      state = state_when_given p.state;
      pending = pendings.Nothing;
      t4 = t4_when_given p.state p.t4 now;
      pace = pace_after is_preamble p.pace now;
      outcome = outcome_when_given p.state p.outcome;
    }
after_packet is_preamble pending p now =
    record p { pending = pending; pace = pace_after is_preamble p.pace now }

-- the command after the page due, by the next page's format that is kept
abbrev pub command_kept : Procedure → Plain
command_kept p = command_by (is_last_page p.pages p.counts.page) p.turn

-- where that is a packet of a text it may be the last one
abbrev pub given_by : Procedure → (last : Bool) → ℕ → Procedure
given_by p last now = after_packet (signals_preamble (packet_of p.pending))
    (pending_after p.pending (command_kept p) last) p now

-- the job tells the next page's format
abbrev pub with_turn : Procedure → JobValue → Procedure
with_turn p job = record p { turn = turn_after (formats_of job) p.counts.page }

-- the next packet is given, after which this is the writer of the text
pub record GivesNext (writes : Writing) (job : JobValue) (core : CallerCore)
    (now : ℕ) (packet : Packet) (left : WriterValue) (new : Procedure) : Type 0 where
  pub follows : Follows writes job (given_first writes job core now core.waiting).core left new
  pub given : (given_first writes job core now core.waiting).given ≡ Some packet

-- and these are its octets
pub record GivesPacket (writes : Writing) (job : JobValue) (core : CallerCore)
    (now : ℕ) (given : Option (List ℕ)) (left : WriterValue) (new : Procedure) : Type 0 where
  pub packet : Packet
  pub octets : given ≡ Some (written packet)
  pub next : GivesNext writes job core now packet left new
