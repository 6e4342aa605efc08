use Rattle.std.proofs.Common.{refl}
use Rattle.command_tests.proofs.links.send_over.Goals as goal

pub returns-clause-the_page : goal.returns-clause-the_page
returns-clause-the_page c =
    c.in_ok-ended.ensures.faithful.the_page (c.if-not-is_linked.ensures refl _ _ (record {
      caller_sent = c.requires.caller;
      wire_received = c.requires.wire.0;
      wire_sent = c.requires.wire.1;
      answerer_received = c.requires.answerer.0;
      answerer_sent = c.requires.answerer.1;
    }) refl refl refl refl)

pub returns-clause-delivered : goal.returns-clause-delivered
returns-clause-delivered c = λ delivered.
    c.in_ok-ended.ensures.faithful.delivered (c.if-not-is_linked.ensures refl _ _ (record {
      caller_sent = c.requires.caller;
      wire_received = c.requires.wire.0;
      wire_sent = c.requires.wire.1;
      answerer_received = c.requires.answerer.0;
      answerer_sent = c.requires.answerer.1;
    }) refl refl refl refl)
    (c.if-not-is_linked_back.ensures refl _ _ (record {
      caller_sent = c.requires.caller;
      wire_received = c.requires.wire.0;
      wire_sent = c.requires.wire.1;
      answerer_received = c.requires.answerer.0;
      answerer_sent = c.requires.answerer.1;
    }) refl refl) delivered
