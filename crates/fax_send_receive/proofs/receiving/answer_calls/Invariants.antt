use Rattle.fax_send_receive.specs.Naming.{naming_of}
use Rattle.fax_send_receive.specs.Storing.{AddsFiles, HasCalls}
use Rattle.fax_send_receive.proofs.receiving.answer_calls.Given as goal

-- the files of the calls so far
abbrev pub invariant-loop-answered : goal.invariant-loop-answered
invariant-loop-answered g l = AddsFiles (HasCalls (naming_of l.fn.options.naming) l.fn.options.settings.preamble_ms l._answered) l.fn.pages.made l.pages.made
