use Rattle.std.proofs.Common.{ℕ, List, ◌++◌, codes, ◌∙◌, ap, ap₂}
use Rattle.fax_descriptions.specs.Words.{kind_name}
use Rattle.fax_explain.specs.declared.listener.Listener.{Listener}
use Rattle.fax_explain.specs.declared.mark.Mark.{Mark}
use Rattle.fax_explain.specs.Listening.{first_mark, marks_left, signal_name}
use Rattle.fax_explain.proofs.OpenedLemmas.{hears_told, ok_then, same_ear, says_first}
use Rattle.fax_explain.proofs.listener.Listener.begin_image.Goals as goal

pub returns-clause-told : goal.returns-clause-told
returns-clause-told c =
    let old = c.args.self.now in
    let left = c.next_mark-signal.ensures.left in
    let named = c.as_str.ensures.value ∙ c.in_ok-words.ensures.ok ∙ ap₂ (λ (a b : List ℕ). a ++ (codes " begins, " ++ b)) c.name_of_signal-signal.ensures c.name_of_kind-name.ensures in
    ok_then c.tell.result c.tell.ensures (λ line ear is_ear.
    let now = same_ear ear old c.next_mark-signal.new.self (ap (λ (l : Listener). l.lane) left) (ap (λ (l : Listener). l.is_outside) left) (ap (λ (l : Listener). l.usual) left) is_ear in
    let mark = c.next_mark-signal.ensures.mark ∙ ap (λ (usual : Mark). first_mark usual (marks_left old)) is_ear.usual in
    hears_told ear _ c.as_str.result.now _ _ _ _ _
    (record { lane = now.lane; is_outside = now.is_outside; usual = now.usual }) (record { lane = now.lane; is_outside = now.is_outside; usual = now.usual })
    (ap (λ (l : Listener). l.receiver) left)
    (says_first _ _ c.as_str.result.now (named ∙ ap (λ (m : Mark). signal_name m.signal ++ (codes " begins, " ++ kind_name c.args.kind)) mark)) line)
