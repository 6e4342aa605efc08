use Rattle.std.proofs.Common.{List, ℕ, sym, ◌∙◌, ap}
use Rattle.sha2.specs.Sha256.{sha256}
use Rattle.fax_spool.proofs.Digests.{sealed_parts}
use Rattle.fax_spool.proofs.sealing.unseal.Goals as goal

pub returns-then-not-is_digest_of : goal.returns-then-not-is_digest_of
returns-then-not-is_digest_of c = λ kept is.
    cc (c.if-not-is_digest_of.ensures.1 (c.split_at.ensures.front ∙ sealed_parts _ kept is ∙ sym (ap (λ (l : List ℕ). sha256 l) c.split_at.ensures.back)))
