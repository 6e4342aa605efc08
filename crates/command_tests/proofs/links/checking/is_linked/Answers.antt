use Rattle.std.proofs.Common.{◌≤◌, ◌∙◌, List, length, refl, arith}
use Rattle.fax_gateway.specs.Wires.{HandedDatagram}
use Rattle.fax_loop.specs.Links.{handed_called}
use Rattle.command_tests.proofs.Handed.{few}
use Rattle.command_tests.proofs.links.checking.is_linked.Goals as goal

pub returns-then-came_on_calling : goal.returns-then-came_on_calling
returns-then-came_on_calling c = λ t before after unused caller received sent answerer.
    let handed : List HandedDatagram = c.in-Some-whole-2.handed.now in
    let low : length (handed_called handed) ≤ length handed = few handed in
    record {
      caller_sent = c.in-Some.by_caller.now;
      caller_tells = (unused.caller_sent, caller ∙ c.in-Some.ensures);
      receipts = c.in-Some-whole.receipts.now;
      receipts_told = (unused.wire_received, received ∙ c.in-Some-whole.ensures);
      handed = handed;
      handed_told = (unused.wire_sent, sent ∙ c.in-Some-whole-2.ensures);
      answerer_received = c.in-Some-whole-3.came.now;
      answerer_tells = (unused.answerer_received, answerer ∙ c.in-Some-whole-3.ensures);
      to_gateway = c.if-came_on_calling.ensures refl;
      few_to_gateway = omega arith;
      to_answerer = c.were_handed.ensures t;
      few_to_answerer = omega arith;
    }
