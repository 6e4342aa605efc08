use Rattle.std.proofs.Common.{map, List, ◌∙◌, ap, sym}
use Rattle.fax_ifp.specs.Packets.{FieldText}
use Rattle.fax_ifp.specs.Elements.{element_of}
use Rattle.fax_ifp.proofs.SignalsLemmas.{indicator_said, message_said}
use Rattle.fax_ifp.proofs.signals.Signals.content.Goals as goal

pub returns-in-Indicator-clause-given : goal.returns-in-Indicator-clause-given
returns-in-Indicator-clause-given c = λ heard earlier h.
    let said = indicator_said c.args.packet.now c.in-Indicator.code (sym c.in-Indicator.ensures) in
    rw said (c.indicator.ensures heard earlier h)

pub returns-in_ok-reserve-in-Message-clause-given : goal.returns-in_ok-reserve-in-Message-clause-given
returns-in_ok-reserve-in-Message-clause-given c = λ heard earlier h.
    let said = message_said c.args.packet.now c.in-Message.kind (sym c.in-Message.ensures) ∙ ap (λ (ts : List FieldText). map (element_of c.in-Message.kind) ts) (sym c.fields-fields.ensures) in
    rw said (c.fields.ensures heard earlier (rw c.in_ok-reserve-in-Message.ensures.items h))
