-- What the desk sees of a redial line (this project's profile).
use Rattle.std.specs.Prelude.{ℕ, true, false, length, slice_get, option_map, Option, Some, None}
use Rattle.fax_desk.specs.declared.view.AskedView.{AskedView}
use Rattle.fax_desk.specs.declared.view.FirstJob.{FirstJob}
use Rattle.fax_desk.specs.declared.view.LegView.{LegView}
use Rattle.fax_desk.specs.declared.view.LineView.{LineView}
use Rattle.fax_gateway.specs.BothLegs.{job_asked}
use Rattle.fax_gateway.specs.declared.leg.Leg.TheVariants as legs
use Rattle.fax_jobs.specs.Jobs.{JobValue}
use Rattle.fax_line.specs.Actions.{LineValue}
use Rattle.fax_line.specs.Places.{PlaceValue}
use Rattle.fax_redial.specs.Befalls.{Tries}
use Rattle.fax_redial.specs.Tries.{TryValue}
use Rattle.fax_redial.specs.declared.job.RetryJob.{RetryJob}
use Rattle.fax_wires.specs.repeat.Peers.{peer_on, state_of}
use Rattle.fax_wires.specs.declared.repeat.peers.LegState.{LegState}

-- a leg without a peer, as a redial line's calling leg is for ever
abbrev pub no_leg : LegView
no_leg = record { has_peer = false; is_fixed = false; is_heard = false }

abbrev pub leg_seen : LegState → LegView
leg_seen leg = record { has_peer = leg.has_peer; is_fixed = leg.is_fixed; is_heard = leg.is_heard }

-- its job was confirmed in an earlier life of its line, and has the tag that it had there
abbrev pub first_of : RetryJob → FirstJob
first_of job = record { is_restored = true; tag = job.tag }

-- a redial line without a try
abbrev pub idle_seen : LineView
idle_seen = record {
  call = None;
  sending = None;
  asked = None;
  first = record {
    is_restored = true;
    tag = None;
  };
  calling = no_leg;
  called = no_leg;
}

abbrev pub job_seen : JobValue → AskedView
job_seen job = record { call = job.call; pages = length job.pages }

abbrev pub line_seen : RetryJob → LineValue → LineView
line_seen job line = record {
  call = None;
  sending = option_map (λ sent. sent.call) line.gateway.book.sending;
  asked = option_map job_seen (job_asked line.gateway.settings.asks line.gateway.book);
  first = first_of job;
  calling = no_leg;
  called = leg_seen (state_of (peer_on legs.Called line.peers));
}

abbrev pub place_seen : RetryJob → Option PlaceValue → LineView
place_seen job None = idle_seen
place_seen job (Some place) = line_seen job place.line

-- THE DESK SEES THE LINE OF A TRY AS IT IS.
abbrev pub try_seen : Option TryValue → LineView
try_seen None = idle_seen
try_seen (Some held) = place_seen held.job (slice_get held.lines.lines 0)

abbrev pub seen_at : Tries → ℕ → Option LineView
seen_at tries i = option_map try_seen (slice_get tries i)
