use Rattle.std.proofs.Common.{ℕ, ◌∙◌, ap, take, replicate}
use Rattle.std.proofs.lemmas.List.{take-replicate}
use Rattle.fax_call.proofs.pending.zeros.Goals as goal

pub returns : goal.returns
returns c = ap (λ (n : ℕ). take n (replicate 72 0)) c.from.ensures ∙ take-replicate c.args.count 72 0 c.requires
