use Rattle.std.proofs.Common.{◌∙◌}
use Rattle.fax_frames.proofs.BitLemmas.{mask_test}
use Rattle.fax_frames.proofs.dis.Dis.has_two_d.Goals as goal

pub returns : goal.returns
returns c = c.contains.ensures tt ∙ mask_test c.args.self.now.caps.0 8
