use Rattle.fax_dialogs.proofs.TimerProofs.{timer_rests}
use Rattle.fax_dialogs.proofs.laws.a_timer_rests.Goals as goal

pub returns : goal.returns
returns c = timer_rests
