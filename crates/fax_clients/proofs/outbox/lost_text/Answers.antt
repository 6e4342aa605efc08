use Rattle.std.proofs.Common.{ℕ, Vec, Global, ap, ◌∙◌}
use Rattle.fax_clients.proofs.TellingLemmas.{lost_told}
use Rattle.fax_clients.proofs.outbox.lost_text.Goals as goal

pub returns : goal.returns
returns c =
    lost_told c.args.lost c.into_bytes.result.items c.if-lost-eq0.false (ap (λ (v : Vec ℕ Global). v.items) c.into_bytes.ensures.value ∙ c.in_ok-line.ensures)
