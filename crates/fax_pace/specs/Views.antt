-- What the desk sees of a line (this project's profile).
use Rattle.std.specs.Prelude.{ℕ, Bool, false, true, List, length, Option, Some, None, option_map, slice_get, ◌||◌, if◌then◌else◌}
use Rattle.fax_desk.specs.Tags.{tag_of_text}
use Rattle.fax_desk.specs.declared.tag.Tag.{Tag}
use Rattle.fax_desk.specs.declared.view.AskedView.{AskedView}
use Rattle.fax_desk.specs.declared.view.FirstJob.{FirstJob}
use Rattle.fax_desk.specs.declared.view.LegView.{LegView}
use Rattle.fax_desk.specs.declared.view.LineView.{LineView}
use Rattle.fax_gateway.specs.BothLegs.{job_asked}
use Rattle.fax_gateway.specs.Turns.{call_of_rep}
use Rattle.fax_gateway.specs.declared.leg.Leg.TheVariants as legs
use Rattle.fax_jobs.specs.Jobs.{JobValue}
use Rattle.fax_line.specs.Actions.{LineValue}
use Rattle.fax_line.specs.Places.{PlaceValue}
use Rattle.fax_wires.specs.repeat.Peers.{peer_on, state_of}
use Rattle.fax_wires.specs.declared.repeat.peers.LegState.{LegState}
use Rattle.fax_spool.specs.Calls.{refuses_now}
use Rattle.fax_queue.specs.Queues.{QueueValue, first_tag, is_of_earlier_life}
use Rattle.fax_undelivered.specs.declared.paired_store.PairedStore.{PairedStore}
use Rattle.fax_undelivered.specs.declared.undelivered.Undelivered.{Undelivered}

abbrev pub leg_seen : LegState → LegView
leg_seen leg = record { has_peer = leg.has_peer; is_fixed = leg.is_fixed; is_heard = leg.is_heard }

abbrev pub job_seen : JobValue → AskedView
job_seen job = record { call = job.call; pages = length job.pages }

-- While the spool has failed, so that the end of a job cannot be noted, none is asked for.
abbrev pub asked_seen : (has_failed : Bool) → Option JobValue → Option AskedView
asked_seen true job = None
asked_seen false job = option_map job_seen job

-- THE DESK SEES A LINE AS IT IS: the call that is on, the job that is being sent and the one whose call is asked for, and what its legs are.
abbrev pub line_seen : LineValue → FirstJob → (has_failed : Bool) → LineView
line_seen line first has_failed = record {
  call = call_of_rep line.gateway.calling;
  sending = option_map (λ job. job.call) line.gateway.book.sending;
  asked = asked_seen has_failed (job_asked line.gateway.settings.asks line.gateway.book);
  calling = leg_seen (state_of (peer_on legs.Calling line.peers));
  called = leg_seen (state_of (peer_on legs.Called line.peers));
  first = first;
}

-- ---- the job that is first in turn on a line: one that was confirmed in an earlier life has the tag that it had there

abbrev pub of_this_life : FirstJob
of_this_life = record { is_restored = false; tag = None }

abbrev pub tag_if : Option (List ℕ) → Option Tag
tag_if None = None
tag_if (Some text) = tag_of_text text

abbrev pub first_on : ℕ → Option QueueValue → FirstJob
first_on life None = of_this_life
first_on life (Some queue) = if is_of_earlier_life life queue.waits
    then record { is_restored = true; tag = tag_if (first_tag queue) } else of_this_life

-- where something keeps the pages of the lines
abbrev pub first_if : {K : Type 0} → Option K → (K → FirstJob) → FirstJob
first_if None first = of_this_life
first_if (Some store) first = first store

-- whether what keeps the pages of the lines takes none, since its disk has failed
abbrev pub failed_if : {K : Type 0} → Option K → (K → Bool) → Bool
failed_if None failed = false
failed_if (Some store) failed = failed store

-- whether the disk of the pages that could not be delivered has failed, where there is one
abbrev pub undelivered_fails : {U : Type 0} → Option (Undelivered U) → Bool
undelivered_fails None = false
undelivered_fails (Some kept) = refuses_now kept.spool

-- whether a disk of a store has failed, the spool's or that one
abbrev pub store_fails : {D U : Type 0} → PairedStore D U → Bool
store_fails store = refuses_now store.storage.spool || undelivered_fails store.undelivered

-- line i, counted from 0
abbrev pub line_at : List PlaceValue → (has_failed : Bool) → (ℕ → FirstJob) → ℕ → Option LineView
line_at lines has_failed first i =
    option_map (λ place. line_seen place.line (first i) has_failed) (slice_get lines i)
