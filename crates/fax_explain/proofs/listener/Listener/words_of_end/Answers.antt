use Rattle.std.proofs.Common.{ap, sym, ◌∙◌}
use Rattle.fax_explain.specs.Listening.{first_mark, marks_left}
use Rattle.fax_explain.specs.declared.listener.Listener.{Listener}
use Rattle.fax_explain.specs.declared.mark.Mark.{Mark}
use Rattle.fax_explain.proofs.OpenedLemmas.{each_ok, page_marked}
use Rattle.fax_explain.proofs.listener.Listener.words_of_end.Goals as goal

pub returns-in_ok-meaning-in-Page-clause-words : goal.returns-in_ok-meaning-in-Page-clause-words
returns-in_ok-meaning-in-Page-clause-words c =
    let old = c.args.self.now in
    let mark = first_mark old.usual (marks_left old) in
    each_ok c.words_of_image.result c.words_of_image.ensures (λ words starts.
    page_marked mark.signal c.in-Page.field-0 mark.is_good old.lane old.is_outside c.end_page.new.self.image.octets old.image.octets c.args.whole _
    (sym (ap (λ (m : Mark). m.signal) c.next_mark-mark.ensures.mark) ∙ c.in-Page.is)
    (c.in_ok-meaning-in-Page.ensures.octets ∙ ap (λ (l : Listener). l.image.octets) c.next_mark-mark.ensures.left) starts)
