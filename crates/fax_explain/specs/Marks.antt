-- MARKS: what the gateway took a piece as, in each respect that a line of the ladder may tell: a function of what the gateway told
-- of it. (This project's profile.)
use Rattle.std.specs.Prelude.{Bool, true, false}
use Rattle.fax_answer.specs.declared.decision.Decision as answer_decisions
use Rattle.fax_answer.specs.declared.decision.Decision.TheVariants as answered
use Rattle.fax_answer.specs.declared.state.State as answer_states
use Rattle.fax_answer.specs.declared.state.State.TheVariants as answering
use Rattle.fax_call.specs.declared.decision.Decision as call_decisions
use Rattle.fax_call.specs.declared.decision.Decision.TheVariants as called
use Rattle.fax_call.specs.declared.state.State as call_states
use Rattle.fax_call.specs.declared.state.State.TheVariants as calling
use Rattle.fax_notes.specs.declared.answer_notes.AnswerNote.{AnswerNote}
use Rattle.fax_notes.specs.declared.call_notes.CallNote.{CallNote}
use Rattle.fax_explain.specs.declared.mark.Mark.{Mark}
use Rattle.fax_explain.specs.declared.mark.Passed.{Passed}
use Rattle.fax_explain.specs.declared.mark.Passed.TheVariants as passed
use Rattle.fax_explain.specs.declared.mark.Signal.{Signal}
use Rattle.fax_explain.specs.declared.mark.Signal.TheVariants as signals

-- ---- frames: passed over where nothing was decided at them

abbrev pub passed_while : (waits : Bool) → Passed
passed_while true = passed.Sending
passed_while false = passed.Unasked

abbrev pub passed_answering : answer_states.State → (waits : Bool) → Passed
passed_answering answering.Idle waits = passed.Outside
passed_answering state waits = passed_while waits

abbrev pub passed_by_answer : answer_decisions.Decision
    → answer_states.State → (waits : Bool) → Passed
passed_by_answer answered.PassOver state waits = passed_answering state waits
passed_by_answer decision state waits = passed.Heard

abbrev pub passed_of_answer : AnswerNote → Passed
passed_of_answer note = passed_by_answer note.decision note.state note.waits

abbrev pub passed_calling : call_states.State → (waits : Bool) → Passed
passed_calling calling.Idle waits = passed.Outside
passed_calling state waits = passed_while waits

abbrev pub passed_by_call : call_decisions.Decision → call_states.State → (waits : Bool) → Passed
passed_by_call called.PassOver state waits = passed_calling state waits
passed_by_call decision state waits = passed.Heard

abbrev pub passed_of_call : CallNote → Passed
passed_of_call note = passed_by_call note.decision note.state note.waits

-- ---- signals, by the state of the call in which they begin or end

abbrev pub signal_of_answer : answer_states.State → Signal
signal_of_answer answering.Idle = signals.Outside
signal_of_answer answering.Identify = signals.Strange
signal_of_answer answering.Listen = signals.Strange
signal_of_answer (answering.Train dcs) = signals.Check dcs
signal_of_answer (answering.Page dcs) = signals.Page dcs
signal_of_answer answering.Again = signals.Late
signal_of_answer answering.Closing = signals.Ending

abbrev pub signal_of_call : call_states.State → Signal
signal_of_call calling.Idle = signals.Outside
signal_of_call (calling.Closing outcome) = signals.Ending
signal_of_call state = signals.Unasked

-- a training check is good where CFR answers it
abbrev pub is_good : answer_decisions.Decision → Bool
is_good (answered.Cfr dcs) = true
is_good decision = false

-- a training is given again, for DIS in place of an answer, or after an FTT
abbrev pub trains_in : call_states.State → call_decisions.Decision → Bool
trains_in (calling.AwaitCfr dis dcs) called.Train = true
trains_in state decision = false

abbrev pub trains_again : CallNote → Bool
trains_again note = trains_in note.state note.decision

-- ---- the mark of what was told

abbrev pub mark_of_answer : AnswerNote → Mark
mark_of_answer note = record {
  signal = signal_of_answer note.state;
  passed = passed_of_answer note;
  is_good = is_good note.decision;
  trains_again = false;
}

abbrev pub mark_of_call : CallNote → Mark
mark_of_call note = record {
  signal = signal_of_call note.state;
  passed = passed_of_call note;
  is_good = false;
  trains_again = trains_again note;
}

-- what a signal is that the gateway gives on the called leg: a training check while CFR is awaited, a page while MCF is
abbrev pub given_signal : call_states.State → Signal
given_signal (calling.AwaitCfr dis dcs) = signals.Check dcs
given_signal (calling.AwaitMcf dis dcs) = signals.Page dcs
given_signal state = signals.Strange
