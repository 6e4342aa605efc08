-- What is told of a line (this project's profile).
use Rattle.std.specs.Prelude.{ℕ, ◌+◌, ◌-◌, ◌^◌, min, Bool, true, false, Option, Some, None, is_some, option_map}
use Rattle.fax_control.specs.declared.events.event.AskedJob.{AskedJob}
use Rattle.fax_control.specs.declared.events.event.Ending.{Ending}
use Rattle.fax_control.specs.declared.events.event.Ending.TheVariants.{Done, HungUp, GivenUp, NotStored}
use Rattle.fax_gateway.specs.declared.given.Kept.{Kept}
use Rattle.fax_gateway.specs.declared.given.RefusedPage.{RefusedPage}
use Rattle.fax_jobs.specs.declared.report.Report.{Report}
use Rattle.fax_desk.specs.declared.card.Card.{Card}
use Rattle.fax_desk.specs.declared.card.TagsOn.{TagsOn}
use Rattle.fax_desk.specs.declared.questions.Question.{Question}
use Rattle.fax_desk.specs.declared.tag.Tag.{Tag}
use Rattle.fax_desk.specs.declared.told.LineEvent.{LineEvent}
use Rattle.fax_desk.specs.declared.told.LineEvent.TheVariants as happened
use Rattle.fax_desk.specs.declared.told.LineState.{LineState}
use Rattle.fax_desk.specs.declared.told.TurnEvents.{TurnEvents}
use Rattle.fax_desk.specs.declared.told.Turn.{Turn}
use Rattle.fax_desk.specs.declared.view.AskedView.{AskedView}
use Rattle.fax_desk.specs.declared.view.FirstJob.{FirstJob}
use Rattle.fax_desk.specs.declared.view.LineView.{LineView}
use Rattle.fax_desk.specs.Cards.{after_job, after_page, cause_of, job_tag, tag_of, tagged_job, tagged_of}
use Rattle.fax_desk.specs.Questions.{open_until, seconds_left}

-- Where a page of it could not be kept, nothing was said after it. Else, where its last page was said to be the last, it has done
-- what it called for; or a word said that its peer's call was gone, or we gave it up, or its peer ended it.
abbrev pub ending_of : (is_silenced is_hung_up is_given_up is_closed : Bool) → Ending
ending_of true is_hung_up is_given_up is_closed = NotStored
ending_of false is_hung_up is_given_up true = Done
ending_of false true is_given_up false = HungUp
ending_of false false true false = GivenUp
ending_of false false false false = Done

-- ---- what is told of a turn

abbrev pub not_stored_told : Card → Bool → Option Kept → Option LineEvent
not_stored_told card is_stored None = None
not_stored_told card true (Some kept) = None
not_stored_told card false (Some kept) = Some (happened.NotStored (tagged_of card kept.call))

-- one that could not be kept is told by that alone
abbrev pub page_told : Card → Bool → Option Kept → Option LineEvent
page_told card is_stored None = None
page_told card false (Some kept) = None
page_told card true (Some kept) = Some (happened.Page (record {
  call = kept.call;
  number = min (card.pages_in_call + 1) (2 ^ 32 - 1);
  format = kept.format;
  rows = kept.rows;
}) (tag_of card kept.call))

abbrev pub refused_told : Card → Option RefusedPage → Option LineEvent
refused_told card None = None
refused_told card (Some refused) = Some (happened.RefusedPage refused (tag_of card refused.call))

abbrev pub ended_told : Card → Turn → Option ℕ → Option LineEvent
ended_told card turn None = None
ended_told card turn (Some call) = Some (happened.Ended (tagged_of card call)
    (ending_of turn.is_silenced turn.is_hung_up (is_some turn.turned.gave_up) card.is_closed))

abbrev pub job_told : Card → FirstJob → Option Report → Option LineEvent
job_told card first None = None
job_told card first (Some report) =
    Some (happened.Job report (job_tag card first report.call) (cause_of card card.jobs))

abbrev pub dial_told : Card → FirstJob → Option ℕ → Option LineEvent
dial_told card first None = None
dial_told card first (Some call) = Some (happened.Dial (tagged_job card first call))

abbrev pub card_after : Card → Turn → Card
card_after card turn = after_job
    turn.first.is_restored turn.turned.report (after_page turn.is_stored turn.turned.kept card)

-- EACH TURN IS TOLD by exactly this: its page, with the tag of its call; the job that ended, with the tag of its own, and the cause for
-- which its call was not placed; and so on.
abbrev pub told_of : Card → Turn → TurnEvents
told_of card turn =
    record {
      not_stored = not_stored_told card turn.is_stored turn.turned.kept;
      page = page_told card turn.is_stored turn.turned.kept;
      refused = refused_told card turn.turned.refused;
      ended = ended_told (after_page turn.is_stored turn.turned.kept card) turn turn.turned.ended;
      job = job_told card turn.first turn.turned.report;
      dialled = dial_told (card_after card turn) turn.first turn.turned.dialled;
    }

-- ---- questions: the job whose call is asked for, for the first time, when events were heard for so long

abbrev pub asked_job : Question → AskedView → ℕ → AskedJob
asked_job question job heard = record {
  call = job.call;
  tries = 1;
  pages = job.pages;
  seconds = seconds_left question.until heard;
}

abbrev pub asked_happened : Card → FirstJob → Question → ℕ → AskedView → LineEvent
asked_happened card first question heard job =
    happened.Asked (asked_job question job heard) (job_tag card first job.call)

-- a question that is not open is open from now on
abbrev pub question_after : Card → ℕ → Option Question → Question
question_after card heard (Some question) = question
question_after card heard None = record { until = open_until heard card.dial_seconds }

abbrev pub asking_card : ℕ → Card → Card
asking_card heard card = record card { question = Some (question_after card heard card.question) }

-- ---- WHAT IS ON, as it is told first: a call; and a job whose call is on, or is asked for

abbrev pub asked_told : Card → FirstJob → ℕ → Option Question → Option AskedView → Option LineEvent
asked_told card first heard None job = None
asked_told card first heard (Some question) job =
    option_map (asked_happened card first question heard) job

abbrev pub connected_told : Card → FirstJob → Bool → ℕ → Option LineEvent
connected_told card first true call = Some (happened.Connected (tagged_job card first call))
connected_told card first false call = None

abbrev pub job_on : Card → LineView → ℕ → Option ℕ → Option LineEvent
job_on card line heard None = asked_told card line.first heard card.question line.asked
job_on card line heard (Some call) = connected_told card line.first line.called.has_peer call

abbrev pub rung_told : Card → Option ℕ → Option LineEvent
rung_told card call = option_map (λ number. happened.Rung (tagged_of card number)) call

abbrev pub state_of : Card → LineView → ℕ → LineState
state_of card line heard =
    record { rung = rung_told card line.call; job = job_on card line heard line.sending }

-- the tags of the call that is on, and of the job that is under way
abbrev pub call_tag_if : Card → Option ℕ → Option Tag
call_tag_if card None = None
call_tag_if card (Some call) = tag_of card call

abbrev pub job_tag_on : Card → FirstJob → Option ℕ → Option Tag
job_tag_on card first None = None
job_tag_on card first (Some call) = job_tag card first call

abbrev pub tags_on : Card → LineView → TagsOn
tags_on card line = record {
  calling = call_tag_if card line.call;
  called = job_tag_on card line.first line.sending;
}
