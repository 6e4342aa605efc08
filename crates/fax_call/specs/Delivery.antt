-- What is told of a call that has ended: how many pages were delivered, and its outcome.
use Rattle.std.specs.Prelude.{◌≡◌, ℕ, zero, suc, ◌+◌, ◌^◌, ◌≤◌, ◌⊎◌, Bool, true, false, List, [], ◌∷◌, length, Option, Some, None, if◌then◌else◌}
use Rattle.fax_timers.specs.Spans.{longest_pause}
use Rattle.fax_jobs.specs.declared.outcome.Outcome.{Outcome}
use Rattle.fax_jobs.specs.declared.outcome.Outcome.TheVariants as outcomes
use Rattle.fax_jobs.specs.Jobs.{JobValue, IsJob}
use Rattle.fax_call.specs.declared.state.State.{State}
use Rattle.fax_call.specs.declared.state.State.TheVariants.{Idle}
use Rattle.fax_call.specs.Writings.{Writing, IsWriting}
use Rattle.fax_call.specs.Calls.{CallerCore, started, CallEvent, Comes, Ticks, after_events}
use Rattle.fax_call.specs.Emission.{Emission, emitted_at, Mark, Gave, Acknowledged, Refused, Begins, elements_given, marks_after, Emits, frame_at, is_command, Reply, Answered, replied}
use Rattle.fax_call.specs.Numbers.{numbered}

-- How many images of the call were answered with MCF or RTP. An image is, where that is the reply to its command, the last
-- one before the next image's end.
abbrev pub good_one : Reply → ℕ
good_one (Answered true) = 1
good_one r = 0

abbrev pub answered_if : Option Emission → Reply → ℕ
answered_if (Some e) r = good_one r
answered_if None r = 0

-- all images but the last
abbrev pub answered_before : List Mark → ℕ
answered_before [] = 0
answered_before (Begins ∷ marks) = 0
answered_before (Acknowledged ∷ marks) = answered_before marks
answered_before (Refused ∷ marks) = answered_before marks
answered_before (Gave e ∷ marks) =
    answered_if (emitted_at (elements_given marks) e) (replied marks) + answered_before marks

abbrev pub answered_images : List Mark → ℕ
answered_images marks = good_one (replied marks) + answered_before marks

-- A timer is never set beyond the last moment, 2^64 - 1 ms. A tick so near to it may find T4 due, and the pace since the
-- command not yet over.
abbrev pub AtTheLastMoment : List CallEvent → Type 0
AtTheLastMoment [] = ⊥
AtTheLastMoment (Comes piece now ∷ before) = AtTheLastMoment before
AtTheLastMoment (Ticks now ∷ before) = (2 ^ 64 ≤ now + longest_pause) ⊎ AtTheLastMoment before

-- There alone a call that gives its last image up may have to wait with the DCN, and an answer that comes in that while is
-- not counted. (Else what is given closes the question in the tick in which T4 is due.)
abbrev pub IsCutShort : Outcome → List CallEvent → Type 0
IsCutShort outcome events = (outcome ≡ outcomes.NoReply) × AtTheLastMoment events

abbrev pub CountsAnswers : Outcome → ℕ → List CallEvent → List Mark → Type 0
CountsAnswers outcome n events marks =
    (n ≡ answered_images marks) ⊎ (IsCutShort outcome events × (n ≡ answered_before marks))

-- The pages whose images were answered with MCF or RTP, the last first.
abbrev pub page_with : Option (Option ℕ) → List ℕ → List ℕ
page_with (Some (Some n)) pages = n ∷ pages
page_with last pages = pages

abbrev pub page_answered : Reply → Option (Option ℕ) → List ℕ → List ℕ
page_answered (Answered true) last pages = page_with last pages
page_answered r last pages = pages

abbrev pub page_if : Option Emission → Reply → Option (Option ℕ) → List ℕ → List ℕ
page_if (Some e) r last pages = page_answered r last pages
page_if None r last pages = pages

-- of all images but the last
abbrev pub pages_before : List Mark → List ℕ
pages_before [] = []
pages_before (Begins ∷ marks) = []
pages_before (Acknowledged ∷ marks) = pages_before marks
pages_before (Refused ∷ marks) = pages_before marks
pages_before (Gave e ∷ marks) = page_if (emitted_at (elements_given marks) e)
    (replied marks) (numbered marks) (pages_before marks)

abbrev pub pages_answered : List Mark → List ℕ
pages_answered marks = page_answered (replied marks) (numbered marks) (pages_before marks)

-- n - 1 to 0
abbrev pub all_below : ℕ → List ℕ
all_below zero = []
all_below (suc n) = n ∷ all_below n

abbrev pub AnswersThePages : Outcome → ℕ → List CallEvent → List Mark → Type 0
AnswersThePages outcome n events marks = (pages_answered marks ≡ all_below n)
    ⊎ (IsCutShort outcome events × (pages_before marks ≡ all_below n))

-- a command is given, the first time or again, only where its image has no answer yet
abbrev pub IsOpen : (command : Bool) → Reply → Type 0
IsOpen true (Answered good) = ⊥
IsOpen command r = Unit {0}

abbrev pub AsksTheUnanswered : List Mark → Type 0
AsksTheUnanswered [] = Unit {0}
AsksTheUnanswered (Begins ∷ marks) = Unit {0}
AsksTheUnanswered (Acknowledged ∷ marks) = AsksTheUnanswered marks
AsksTheUnanswered (Refused ∷ marks) = AsksTheUnanswered marks
AsksTheUnanswered (Gave e ∷ marks) =
    IsOpen (is_command (frame_at (elements_given marks) e)) (replied marks)
    × AsksTheUnanswered marks

-- the image emitted last is that of page n, or of the page before it, and then MCF or RTP answered
abbrev pub IsAfter : Option ℕ → Reply → ℕ → Type 0
IsAfter None r n = n ≡ 0
IsAfter (Some m) r n = (n ≡ m) ⊎ ((n ≡ m + 1) × (r ≡ Answered true))

-- Of a call that has ended: the pages below `delivered` went out, each to its end and in the order of the answers, and none
-- after the next did; they are those that were answered with MCF or RTP, one each, and no answer was passed over and asked
-- for again; and the outcome is Delivered exactly where they are all.
pub record IsTold (job : JobValue)
    (outcome : Outcome) (delivered : ℕ) (events : List CallEvent) (marks : List Mark) : Type 0 where
  pub last : Option ℕ
  pub emits : Emits job marks last
  pub after : IsAfter last (replied marks) delivered
  pub counts : CountsAnswers outcome delivered events marks
  pub pages : AnswersThePages outcome delivered events marks
  pub asks : AsksTheUnanswered marks ⊎ AtTheLastMoment events
  pub most : delivered ≤ length job.pages
  pub all_if : outcome ≡ outcomes.Delivered → delivered ≡ length job.pages
  pub if_all : delivered ≡ length job.pages → outcome ≡ outcomes.Delivered

-- a call is over
abbrev pub is_over : State → Bool
is_over Idle = true
is_over state = false

-- what the leg gave and heard in a call until it was over
abbrev pub marks_until_over : Writing
    → JobValue → List Mark → CallerCore → List CallEvent → List Mark
marks_until_over writes job old a [] = Begins ∷ old
marks_until_over writes job old a (e ∷ before) = if is_over (after_events writes job a before).state
    then marks_until_over writes job old a before else marks_after writes job old a (e ∷ before)

-- That holds of every call over one unchanged job: each that is over has an outcome, and gives nothing more.
abbrev pub TellsWhatWasAnswered : Type 0
TellsWhatWasAnswered = (writes : Writing) (job : JobValue) (old : List Mark) (core : CallerCore)
    (start : ℕ) (events : List CallEvent) → let begun : CallerCore = started core job start
    in let over : CallerCore = after_events writes job begun events
    in let marks : List Mark = marks_until_over writes job old begun events in IsWriting writes
    → IsJob job → over.state ≡ Idle → (outcome : Outcome)
    × (over.outcome ≡ Some outcome) × IsTold job outcome over.counts.delivered events marks
    × (elements_given (marks_after writes job old begun events) ≡ elements_given marks)
