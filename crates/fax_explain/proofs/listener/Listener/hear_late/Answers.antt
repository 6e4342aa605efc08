use Rattle.std.proofs.Common.{◌≡◌, ◌+◌, ◌%◌, ℕ, List, [], ◌∷◌, ◌++◌, codes, decimal, refl, sym, ◌∙◌, subst, arith}
use Rattle.fax_explain.specs.Heard.{Hears}
use Rattle.fax_explain.specs.Openings.{Opening, begins, late_openings}
use Rattle.fax_explain.proofs.OpenedLemmas.{begins_as, hears_told, ok_then}
use Rattle.fax_explain.proofs.listener.Listener.hear_late.Goals as goal

-- one that came late
late_line : (number expected : ℕ) → ((number + 1) % 65536 ≡ expected → ⊥) → late_openings number expected ≡ begins (codes "datagram " ++ (decimal number ++ codes " came late")) ∷ []
late_line number expected other = grind (arith, other)

pub returns : goal.returns
returns c =
    let a = c.args in
    ok_then c.tell.result c.tell.ensures (λ line ear is_ear.
    subst (λ (os : List Opening). Hears ear os a.self.now a.self.now a.tale.now c.tell.new.tale) (sym (late_line a.number a.expected c.if-number-expected.false))
    (hears_told ear _ c.as_str.result.now a.self.now a.self.now a.self.now a.tale.now c.tell.new.tale is_ear is_ear refl
    (begins_as _ c.as_str.result.now (c.as_str.ensures.value ∙ c.in_ok-words.ensures.ok)) line))
