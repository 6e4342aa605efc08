-- What the desk sees of a line, part by part.
use Rattle.std.proofs.Common.{◌≡◌, ℕ, Bool, Option, ◌∙◌, ap}
use Rattle.std.specs.Prelude.{option_map}
use Rattle.fax_desk.specs.declared.view.AskedView.{AskedView}
use Rattle.fax_desk.specs.declared.view.FirstJob.{FirstJob}
use Rattle.fax_desk.specs.declared.view.LegView.{LegView}
use Rattle.fax_gateway.specs.BothLegs.{job_asked}
use Rattle.fax_gateway.specs.Turns.{call_of_rep}
use Rattle.fax_gateway.specs.declared.leg.Leg.TheVariants as legs
use Rattle.fax_line.specs.Actions.{LineValue}
use Rattle.fax_wires.specs.repeat.Peers.{peer_on, state_of}
use Rattle.fax_pace.specs.Views.{asked_seen, leg_seen, line_seen}

pub seen_as :
    (line : LineValue) (first : FirstJob) (has_failed : Bool) (call sending : Option ℕ) (asked : Option AskedView) (calling called : LegView)
    → call ≡ call_of_rep line.gateway.calling → sending ≡ option_map (λ job. job.call) line.gateway.book.sending
    → asked ≡ asked_seen has_failed (job_asked line.gateway.settings.asks line.gateway.book)
    → calling ≡ leg_seen (state_of (peer_on legs.Calling line.peers)) → called ≡ leg_seen (state_of (peer_on legs.Called line.peers))
    → record { call = call; sending = sending; asked = asked; calling = calling; called = called; first = first } ≡ line_seen line first has_failed
seen_as line first has_failed call sending asked calling called call_is sending_is asked_is calling_is called_is =
    let seen = line_seen line first has_failed in
    ap (λ (x : Option ℕ). record { call = x; sending = sending; asked = asked; calling = calling; called = called; first = first }) call_is
    ∙ ap (λ (x : Option ℕ). record { call = seen.call; sending = x; asked = asked; calling = calling; called = called; first = first }) sending_is
    ∙ ap (λ (x : Option AskedView). record { call = seen.call; sending = seen.sending; asked = x; calling = calling; called = called; first = first }) asked_is
    ∙ ap (λ (x : LegView). record { call = seen.call; sending = seen.sending; asked = seen.asked; calling = x; called = called; first = first }) calling_is
    ∙ ap (λ (x : LegView). record { call = seen.call; sending = seen.sending; asked = seen.asked; calling = seen.calling; called = x; first = first }) called_is
