use Rattle.std.proofs.Common.{◌≡◌, ℕ, length, sym, ◌∙◌, rules}
use Rattle.fax_gateway.proofs.Resting.{none_due, some_due}
use Rattle.fax_gateway.proofs.gateway.at_once.Goals as goal

pub returns-then-waiting-eq0 : goal.returns-then-waiting-eq0
returns-then-waiting-eq0 g c =
    let e : c.waiting.result ≡ 0 = search rules in
    none_due c.args.jobs.now.book.waiting (sym c.waiting.ensures ∙ e)

pub returns-else-waiting-eq0 : goal.returns-else-waiting-eq0
returns-else-waiting-eq0 g c =
    let n : c.waiting.result ≡ 0 → ⊥ = search rules in
    some_due c.args.jobs.now.book.waiting (λ e. n (c.waiting.ensures ∙ e))
