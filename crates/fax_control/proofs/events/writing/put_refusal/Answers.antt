use Rattle.fax_control.proofs.events.TextLemmas.{Adds-last}
use Rattle.fax_control.proofs.events.writing.put_refusal.Goals as goal

pub returns : goal.returns
returns c =
    Adds-last c.put_detail.result _ _ _ _ _ _
    (c.in_ok-put_text.ensures)
    c.put_detail.ensures (cc)
