use Rattle.std.proofs.Common.{refl, rules}
use Rattle.std.proofs.lemmas.Option.{slice_get_read}
use Rattle.command_tests.proofs.Handed.{has}
use Rattle.command_tests.proofs.links.checking.was_handed.Goals as goal

pub returns-then-eq-2 : goal.returns-then-eq-2
returns-then-eq-2 c = λ t.
    has c.args.handed.now c.loop-sent.sent-index c.sent-item.result c.args.octets.now
    (slice_get_read c.args.handed.now _ c.loop-sent.sent-index c.sent-item.result refl c.loop-sent-test.true c.sent-item.is) (search rules) (search rules)
