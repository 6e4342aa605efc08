-- What is known of a line (this project's profile).
use Rattle.std.specs.Prelude.{ℕ, Bool, true, false, ◌+◌, ◌-◌, ◌^◌, min, nat_eq, nat_lt, find, take, [], ◌∷◌, Option, Some, None, option_map, Ok, Err, if◌then◌else◌}
use Rattle.circular_buffer.specs.Buffer.{Buffer, buffer}
use Rattle.fax_gateway.specs.declared.given.Kept.{Kept}
use Rattle.fax_jobs.specs.declared.report.Report.{Report}
use Rattle.fax_line.specs.declared.asked.LineAnswer.{LineAnswer}
use Rattle.fax_line.specs.declared.asked.LineAnswer.TheVariants as answered
use Rattle.fax_desk.specs.declared.card.Card.{Card}
use Rattle.fax_desk.specs.declared.card.ReportTexts.{ReportTexts}
use Rattle.fax_desk.specs.declared.next.Note.{Note}
use Rattle.fax_desk.specs.declared.next.Note.TheVariants as note
use Rattle.fax_desk.specs.declared.questions.Cause.{Cause}
use Rattle.fax_desk.specs.declared.tag.Tag.{Tag}
use Rattle.fax_desk.specs.declared.tag.TaggedCall.{TaggedCall}
use Rattle.fax_desk.specs.declared.view.FirstJob.{FirstJob}

-- nothing happened on its line in this life
abbrev pub card_new : ℕ → Card
card_new seconds =
    record {
      tags = buffer [] 256;
      counts = record { calls = 0; pages = 0 };
      pages_in_call = 0;
      is_closed = false;
      jobs = 0;
      restored_jobs = 0;
      dial_seconds = seconds;
      question = None;
      refused = buffer [] 64;
      waiting = 0;
      limits = record { memory = 0; most_waiting = 2 ^ 32 - 1 };
    }

-- ---- tags: of a call of this life, and of the job that is first in turn

abbrev pub tag_if : Option TaggedCall → Option Tag
tag_if None = None
tag_if (Some tagged) = tagged.tag

abbrev pub tag_of : Card → ℕ → Option Tag
tag_of card call = tag_if (find (λ tagged. nat_eq tagged.call call) card.tags.items)

-- one that was confirmed in an earlier life has the tag that it has from there
abbrev pub job_tag : Card → FirstJob → ℕ → Option Tag
job_tag card first call = if first.is_restored then first.tag else tag_of card call

abbrev pub cause_of : Card → ℕ → Option Cause
cause_of card job = option_map
    (λ refused. refused.cause) (find (λ refused. nat_eq refused.job job) card.refused.items)

abbrev pub tagged_of : Card → ℕ → TaggedCall
tagged_of card call = record { call = call; tag = tag_of card call }

abbrev pub tagged_job : Card → FirstJob → ℕ → TaggedCall
tagged_job card first call = record { call = call; tag = job_tag card first call }

-- What is told of report k of so many that are kept: the last is of the job that ended last. Of one that was confirmed in an earlier
-- life no tag is known.
abbrev pub report_texts : ℕ → ℕ → ℕ → Card → ReportTexts
report_texts k kept call card = record {
  tag = (if nat_lt (card.jobs - (kept - k)) card.restored_jobs then None else tag_of card call);
  cause = (if nat_lt card.jobs (kept - k) then None else cause_of card (card.jobs - (kept - k)));
}

-- ---- what becomes of it

abbrev pub tags_with : ℕ → Option Tag → Buffer TaggedCall → Buffer TaggedCall
tags_with call None tags = tags
tags_with call (Some tag) tags =
    buffer (take tags.capacity (record { call = call; tag = Some tag } ∷ tags.items)) tags.capacity

-- a call was rung, with this tag
abbrev pub rung_card : ℕ → Option Tag → Card → Card
rung_card call tag card =
    record card {
      tags = tags_with call tag card.tags;
      counts = record card.counts {
        calls = min (card.counts.calls + 1) (2 ^ 64 - 1);
      };
      pages_in_call = 0;
      is_closed = false;
    }

-- the call of the job that is first in turn could not be placed
abbrev pub after_refusal : Cause → Card → Card
after_refusal why card =
    record card {
      question = None;
      refused = buffer (take card.refused.capacity (record {
        job = card.jobs;
        cause = why;
      } ∷ card.refused.items)) card.refused.capacity;
    }

abbrev pub after_ring : Note → ℕ → Card → Card
after_ring (note.Ring tag) call card = rung_card call tag card
after_ring (note.RingAny tag) call card = rung_card call tag card
after_ring note.Nothing call card = rung_card call None card
after_ring (note.Connect job) call card = rung_card call None card
after_ring (note.Refuse why) call card = rung_card call None card

-- a question is answered
abbrev pub after_placing : Note → Card → Card
after_placing (note.Refuse why) card = after_refusal why card
after_placing note.Nothing card = record card { question = None }
after_placing (note.Ring tag) card = record card { question = None }
after_placing (note.RingAny tag) card = record card { question = None }
after_placing (note.Connect job) card = record card { question = None }

-- What its line answered to an order: what was done changes it, with what was said in the word; what was not changes nothing.
abbrev pub after_done : Note → Option LineAnswer → Card → Card
after_done said None card = card
after_done said (Some (answered.Rung (Ok call))) card = after_ring said call card
after_done said (Some (answered.Rung (Err fault))) card = card
after_done said (Some (answered.Placed (Ok done))) card = after_placing said card
after_done said (Some (answered.Placed (Err fault))) card = card
after_done said (Some answered.NoRoute) card = card
after_done said (Some answered.Done) card = card

-- a page was confirmed, and a job ended, in a turn

abbrev pub one_more_if : Bool → ℕ → ℕ
one_more_if true count = min (count + 1) (2 ^ 64 - 1)
one_more_if false count = count

-- a page that could not be stored does not count as one that was confirmed, and waits as one, since its job is sent all the same
abbrev pub after_page : Bool → Option Kept → Card → Card
after_page is_stored None card = card
after_page is_stored (Some kept) card =
    record card {
      counts = record card.counts { pages = one_more_if is_stored card.counts.pages };
      pages_in_call = min (card.pages_in_call + 1) (2 ^ 32 - 1);
      waiting = min (card.waiting + 1) (2 ^ 64 - 1);
      is_closed = kept.closes;
    }

-- the pages of a job that ended wait no more
abbrev pub after_job : Bool → Option Report → Card → Card
after_job is_restored None card = card
after_job is_restored (Some report) card =
    record card {
      jobs = min (card.jobs + 1) (2 ^ 64 - 1);
      waiting = card.waiting - report.pages;
      restored_jobs = one_more_if is_restored card.restored_jobs;
    }
