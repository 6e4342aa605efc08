use Rattle.fax_control.proofs.events.TextLemmas.{Adds-then, Adds-last}
use Rattle.fax_control.proofs.events.writing.put_wire.Goals as goal

pub returns : goal.returns
returns c =
    Adds-last c.put_number.result _ _ _ _ _ _
    (Adds-then _ _ _ _ _ (c.in_ok-put_text.ensures) c.in_ok-put_text-2.ensures)
    c.put_number.ensures (cc)
