use Rattle.std.proofs.Common.{refl, ◌∙◌, ap, string_bytes}
use Rattle.fax_explain.specs.declared.listener.Listener.{Listener}
use Rattle.fax_explain.proofs.OpenedLemmas.{always, begins_more, hears_told, same_ear}
use Rattle.fax_explain.proofs.listener.Listener.refuse_packet.Goals as goal

pub returns-then-eq-clause-told : goal.returns-then-eq-clause-told
returns-then-eq-clause-told c = λ ear is_ear.
    hears_told ear _ c.as_str-2.result.now c.args.self.now c.args.self.now c.args.self.now c.args.tale.now c.tell.new.tale is_ear is_ear refl
    (begins_more _ (string_bytes c.in_ok-words.words) c.as_str.result.now c.as_str-2.result.now c.in_ok-words.ensures.ok (c.as_str-2.ensures.value ∙ c.in_ok-push_str.ensures.bytes)) c.in_ok-tell.ensures

pub returns-clause-told : goal.returns-clause-told
returns-clause-told c =
    always c.miss.result (λ ear is_ear.
    hears_told ear _ c.as_str-2.result.now c.args.self.now c.args.self.now c.miss.new.self c.args.tale.now c.tell.new.tale is_ear
    (same_ear ear c.args.self.now c.miss.new.self (ap (λ (l : Listener). l.lane) c.miss.ensures.left) (ap (λ (l : Listener). l.is_outside) c.miss.ensures.left) (ap (λ (l : Listener). l.usual) c.miss.ensures.left) is_ear)
    (ap (λ (l : Listener). l.receiver) c.miss.ensures.left)
    (begins_more _ (string_bytes c.in_ok-words.words) c.as_str.result.now c.as_str-2.result.now c.in_ok-words.ensures.ok (c.as_str-2.ensures.value ∙ c.in_ok-push_str.ensures.bytes)) c.in_ok-tell.ensures)
