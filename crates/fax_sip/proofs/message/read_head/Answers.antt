use Rattle.std.proofs.Common.{List, ℕ, ap}
use Rattle.fax_sip.specs.Messages.{begun}
use Rattle.fax_sip.specs.Texts.{lines_of}
use Rattle.fax_sip.proofs.message.read_head.Goals as goal

pub returns-in-None : goal.returns-in-None
unfolding lines_of
returns-in-None c = ap (λ (text : List ℕ). begun (lines_of text) c.args.body.now) c.in-None.ensures.none
