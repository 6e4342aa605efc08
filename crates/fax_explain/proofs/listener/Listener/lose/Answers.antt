use Rattle.std.proofs.Common.{◌≡◌, ℕ, List, [], ◌∷◌, ◌++◌, codes, refl, sym, ◌∙◌, ap, subst, arith}
use Rattle.fax_descriptions.specs.Words.{numbers_text}
use Rattle.fax_explain.specs.declared.listener.Listener.{Listener}
use Rattle.fax_explain.specs.Heard.{Hears}
use Rattle.fax_explain.specs.Openings.{Opening, begins, lost_openings}
use Rattle.fax_explain.proofs.OpenedLemmas.{always, begins_as, hears_told, lost_heard, same_ear}
use Rattle.fax_explain.proofs.listener.Listener.lose.Goals as goal

-- some that are lost
lost_line : (from count : ℕ) → (count ≡ 0 → ⊥) → lost_openings from count ≡ begins (codes "lost: " ++ numbers_text from count) ∷ []
lost_line from count other = grind (arith, other)

pub returns-clause-told : goal.returns-clause-told
returns-clause-told c = always c.miss.result (λ ear is_ear.
    let old = c.args.self.now in
    let at : Listener = record old { signals = c.lose.new.self } in
    let left = c.miss.ensures.left in
    subst (λ (os : List Opening). Hears ear os old c.miss.new.self c.args.tale.now c.tell.new.tale) (sym (lost_line c.args.from c.args.count c.if-count-eq0.false))
    (hears_told ear _ c.as_str.result.now old at c.miss.new.self c.args.tale.now c.tell.new.tale (same_ear ear old at refl refl refl is_ear)
    (same_ear ear old c.miss.new.self (ap (λ (l : Listener). l.lane) left) (ap (λ (l : Listener). l.is_outside) left) (ap (λ (l : Listener). l.usual) left) is_ear)
    (ap (λ (l : Listener). l.receiver) left)
    (begins_as _ c.as_str.result.now (c.as_str.ensures.value ∙ c.in_ok-words.ensures.ok ∙ ap (λ (n : List ℕ). codes "lost: " ++ n) c.in_ok-numbers.ensures)) c.in_ok-tell.ensures))

pub returns-clause-heard : goal.returns-clause-heard
returns-clause-heard c = always c.miss.result (λ slots h.
    lost_heard c.args.count slots c.lose.new.self c.args.self.now c.miss.new.self c.lose.ensures.tracked c.lose.ensures.pieces
    (ap (λ (l : Listener). l.signals) c.miss.ensures.left) c.miss.ensures.octets h)
