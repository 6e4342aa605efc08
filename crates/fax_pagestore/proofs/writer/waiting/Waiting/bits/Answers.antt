use Rattle.std.proofs.Common.{length, drop, sym, ◌∙◌, ap}
use Rattle.fax_pagestore.proofs.WaitingLemmas.{length-held}
use Rattle.fax_pagestore.proofs.writer.waiting.Waiting.bits.Goals as goal

pub returns : goal.returns
returns c = sym (length-held (drop c.self.inside.given c.self.inside.octets.items) c.self.inside.bits c.self.invariant.1) ∙ ap length c.self.view_is
