use Rattle.fax_dialogs.proofs.SessionProofs.{ack_stops_repeats, answers_repeat_in_time, repeats_are_sent}
use Rattle.fax_dialogs.proofs.laws.a_success_is_repeated.Goals as goal

pub returns-clause-in_time : goal.returns-clause-in_time
returns-clause-in_time c = answers_repeat_in_time

pub returns-clause-sent : goal.returns-clause-sent
returns-clause-sent c = repeats_are_sent

pub returns-clause-stopped : goal.returns-clause-stopped
returns-clause-stopped c = ack_stops_repeats
