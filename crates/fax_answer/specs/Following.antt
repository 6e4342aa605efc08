-- What a procedure is in place of the core that it stands for. No law speaks of this module.
use Rattle.std.specs.Prelude.{◌≡◌, ◌⊎◌, ℕ, Bool, false, ◌&&◌, List, [], ◌++◌, Option, Some, None, if◌then◌else◌}
use Rattle.fax_timers.specs.Moments.{is_due}
use Rattle.fax_timers.specs.Paces.{pace_allows}
use Rattle.fax_answer.specs.declared.timers.Timers.{Timers}
use Rattle.fax_answer.specs.declared.state.State.{State}
use Rattle.fax_answer.specs.declared.state.State.TheVariants.{Idle, Identify, Listen, Train, Page, Again, Closing}
use Rattle.fax_answer.specs.declared.pending.Pending.{Pending}
use Rattle.fax_answer.specs.declared.pending.Pending.TheVariants.{Nothing}
use Rattle.fax_answer.specs.declared.procedure.Procedure.{Procedure}
use Rattle.fax_answer.specs.History.{Entry, Decision, GivesMcf}
use Rattle.fax_answer.specs.Table.{is_one_image, state_after}
use Rattle.fax_answer.specs.Replies.{ConfirmedPage, WaitingPacket, confirmed_if, reply_to, is_waiting}
use Rattle.fax_answer.specs.Calls.{AnswererCore, given_first}
use Rattle.fax_answer.specs.Rep.{counts_of}
use Rattle.fax_answer.specs.Pending.{packet_text, waiting_of}

-- in Train and in Idle nothing waits
abbrev pub Rests : State → List WaitingPacket → Type 0
Rests (Train dcs) waiting = waiting ≡ []
Rests Idle waiting = waiting ≡ []
Rests state waiting = Unit {0}

-- a procedure that stands for a core; the page that is confirmed is kept beside it
pub record Follows (core : AnswererCore)
    (confirmed : Option ConfirmedPage) (procedure : Procedure) : Type 0 where
  pub state : procedure.state ≡ core.state
  pub counts : procedure.counts ≡ counts_of core.history
  pub waiting : waiting_of procedure.pending confirmed ≡ core.waiting
  pub quiet : procedure.pending ≡ Nothing → confirmed ≡ None
  pub timers : procedure.timers ≡ core.timers
  pub pace : procedure.pace ≡ core.pace
  pub rests : Rests core.state core.waiting

-- whether the call is given up: T1 is due in Identify, or T2 in Listen, Train or Page
abbrev pub gives_up : State → Timers → ℕ → Bool
gives_up Idle timers now = false
gives_up Closing timers now = false
gives_up Identify timers now = is_due timers.t1 now
gives_up Again timers now = false
gives_up state timers now = is_due timers.t2 now

-- whether the DIS is given again: T4 is due in Identify
abbrev pub repeats_dis : State → Timers → ℕ → Bool
repeats_dis Identify timers now = is_due timers.t4 now
repeats_dis state timers now = false

-- whether the exchange of DIS and DCS begins again: T2 is due in Again
abbrev pub begins_again : State → Timers → ℕ → Bool
begins_again Again timers now = is_due timers.t2 now
begins_again state timers now = false

-- whether a packet is given now: one waits, and the pace lets it through
abbrev pub gives_now : AnswererCore → ℕ → Bool
gives_now core now = is_waiting core.waiting && pace_allows core.pace.last now

-- how many readers are wanted on: that of the image under way, and that of the one before
abbrev pub readers_wanted : State → List Entry → ℕ
readers_wanted (Page dcs) since = if is_one_image since then 2 else 1
readers_wanted Idle since = 0
readers_wanted Identify since = 0
readers_wanted Listen since = 0
readers_wanted (Train dcs) since = 0
readers_wanted Again since = 0
readers_wanted Closing since = 0

-- what can be decided: no reply while a packet waits
pub record CanDecide (core : AnswererCore) (d : Decision) : Type 0 where
  pub free : (core.waiting ≡ []) ⊎ (reply_to d ≡ [])
  pub rests : Rests (state_after core.state d) (core.waiting ++ reply_to d)

-- the page that is confirmed after a decision
abbrev pub confirmed_after : Decision → Option ConfirmedPage → Option ConfirmedPage
confirmed_after (GivesMcf command page) before = confirmed_if command page
confirmed_after d before = before

-- the page that a packet confirms, and the one that is left, by what waits after it: the last packet of a reply confirms
abbrev pub confirmed_with : Pending → Option ConfirmedPage → Option ConfirmedPage
confirmed_with Nothing confirmed = confirmed
confirmed_with pending confirmed = None

abbrev pub confirmed_left : Pending → Option ConfirmedPage → Option ConfirmedPage
confirmed_left Nothing confirmed = None
confirmed_left pending confirmed = confirmed

-- the next packet is given
pub record GivesNext (core : AnswererCore)
    (confirmed : Option ConfirmedPage) (now : ℕ) (old new : Procedure) (ended : Bool) : Type 0 where
  pub follows :
      Follows (given_first core now core.waiting).core (confirmed_left new.pending confirmed) new
  pub given : (given_first core now core.waiting).given ≡ Some (record {
    packet = packet_text old.pending;
    confirmed = confirmed_with new.pending confirmed;
  })
  pub ends : ended ≡ (given_first core now core.waiting).ended
