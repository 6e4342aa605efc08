use Rattle.fax_control.proofs.events.TextLemmas.{Adds-then, Adds-last}
use Rattle.fax_control.proofs.events.writing.put_ended.Goals as goal

pub returns : goal.returns
returns c =
    Adds-last c.put_text.result _ _ _ _ _ _
    (Adds-then _ _ _ _ _ (c.in_ok-put_number.ensures) c.in_ok-put_tag.ensures)
    c.put_text.ensures (cc)
