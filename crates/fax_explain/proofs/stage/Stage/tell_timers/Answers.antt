use Rattle.std.proofs.Common.{Option, ◌++◌, ◌∙◌, ap, ap₂}
use Rattle.fax_command.proofs.PutLemmas.{OnOk-then}
use Rattle.fax_answer.specs.declared.state.State.{State}
use Rattle.fax_answer.specs.declared.timers.ActingTimer.{ActingTimer}
use Rattle.fax_call.specs.declared.acting.ActingTimer as call
use Rattle.fax_explain.specs.Given.{called_timer_lines, timer_lines}
use Rattle.fax_explain.proofs.LadderLemmas.{goes_both}
use Rattle.fax_explain.proofs.stage.Stage.tell_timers.Goals as goal

pub returns : goal.returns
returns c = OnOk-then c.tell_called_timer.result c.tell_called_timer.ensures (λ told setup writes trace reached.
    goes_both _ _ _ _ _
    (c.in_ok-tell_calling_timer.ensures ∙ ap₂ (λ (timer : Option ActingTimer) (state : State). c.args.tale.now ++ timer_lines timer state)
    (c.calling_acting.ensures setup writes trace reached) (c.calling_state-state.ensures setup writes trace reached))
    (told ∙ ap (λ (timer : Option call.ActingTimer). c.tell_calling_timer.new.tale ++ called_timer_lines timer) (c.called_acting.ensures setup writes trace reached)))
