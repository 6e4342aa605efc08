use Rattle.fax_control.proofs.events.TextLemmas.{Adds-then, Adds-last}
use Rattle.fax_control.proofs.events.writing.put_page.Goals as goal

pub returns : goal.returns
returns c =
    Adds-last c.put_number-3.result _ _ _ _ _ _
    (Adds-then _ _ _ _ _ (Adds-then _ _ _ _ _ (Adds-then _ _ _ _ _ (c.in_ok-put_number.ensures) c.in_ok-put_tag.ensures) c.in_ok-put_number-2.ensures) c.in_ok-put_format.ensures)
    c.put_number-3.ensures (cc)
