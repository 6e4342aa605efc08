use Rattle.std.proofs.Common.{ℕ, List, ◌++◌, codes, decimal, refl, sym, ◌∙◌, ap, subst}
use Rattle.fax_explain.specs.Heard.{Hears}
use Rattle.fax_explain.specs.Openings.{Opening}
use Rattle.fax_explain.proofs.OpenedLemmas.{back_line, begins_as, hears_told, ok_then}
use Rattle.fax_explain.proofs.listener.Listener.bring_back.Goals as goal

pub returns : goal.returns
returns c =
    let a = c.args in
    ok_then c.tell.result c.tell.ensures (λ line ear is_ear.
    subst (λ (os : List Opening). Hears ear os a.self.now a.self.now a.tale.now c.tell.new.tale) (sym (back_line a.from a.number c.if-from-number.false))
    (hears_told ear _ c.as_str.result.now a.self.now a.self.now a.self.now a.tale.now c.tell.new.tale is_ear is_ear refl
    (begins_as _ c.as_str.result.now (c.as_str.ensures.value ∙ c.in_ok-words.ensures.ok
    ∙ ap (λ (n : List ℕ). codes "lost: " ++ (n ++ (codes ", brought back by " ++ decimal a.number))) c.in_ok-numbers.ensures)) line))
