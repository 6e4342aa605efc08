use Rattle.std.proofs.Common.{[], ◌∙◌, refl, sym, subst}
use Rattle.fax_wires.specs.holding.Holding.{HoldingValue}
use Rattle.fax_wires.specs.holding.Storing.{HasDone}
use Rattle.fax_opening.proofs.sockets.open_line.Goals as goal

pub returns-clause-fresh : goal.returns-clause-fresh
returns-clause-fresh g c =
    subst (λ (wire : HoldingValue). HasDone [] wire) (sym (c.in_ok-restore.ensures.holding ∙ c.new-wire.ensures)) (record { held = refl; is_silenced = refl; out = c.in_ok-wire.ensures })
