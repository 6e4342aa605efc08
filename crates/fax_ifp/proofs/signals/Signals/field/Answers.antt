use Rattle.std.proofs.Common.{◌≡◌, ◌∙◌, ap, ℕ, List, [], unwrap_or, refl, Bor}
use Rattle.fax_ifp.specs.Seen.{octets_in}
use Rattle.fax_ifp.proofs.SignalsLemmas.{octets_or_none}
use Rattle.fax_ifp.proofs.signals.Signals.field.Goals as goal

pub returns-then-kind-code-clause-given : goal.returns-then-kind-code-clause-given
returns-then-kind-code-clause-given c = λ heard earlier h.
    let octets : c.unwrap_or-octets.result.now ≡ unwrap_or (octets_in c.args.field.octets) [] = ap (λ (b : Bor (List ℕ)). b.now) c.unwrap_or-octets.ensures ∙ octets_or_none c.args.field.octets _ refl in
    rw (c.if-kind-code.true, c.code.ensures, ← octets) (c.hdlc_field.ensures.given heard earlier h)

pub returns-else-kind-code-clause-given : goal.returns-else-kind-code-clause-given
returns-else-kind-code-clause-given c = λ heard earlier h.
    let octets : c.unwrap_or-octets.result.now ≡ unwrap_or (octets_in c.args.field.octets) [] = ap (λ (b : Bor (List ℕ)). b.now) c.unwrap_or-octets.ensures ∙ octets_or_none c.args.field.octets _ refl in
    rw (← octets) (c.image_field.ensures.given heard earlier h)
