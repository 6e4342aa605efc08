use Rattle.std.proofs.Common.{List, sym}
use Rattle.std.proofs.lemmas.List.{append-nil}
use Rattle.std.proofs.lemmas.Result.{on_ok_weaker}
use Rattle.fax_ifp.specs.Elements.{Slot, elements}
use Rattle.fax_ifp.specs.Pieces.{pieces}
use Rattle.fax_ifp.specs.Tracked.{IsTracked}
use Rattle.fax_ifp.specs.Inside.Hearing.{HasGiven}
use Rattle.fax_ifp.specs.Shown.{pieces_shown}
use Rattle.fax_ifp.proofs.signals.Signals.slot_into.Goals as goal
use Rattle.fax_ifp.proofs.signals.Signals.slot_into.Goals.{After-take}

-- before the slot all pieces are earlier ones
begun : (c : After-take) (before : List Slot) → IsTracked before c.args.self.now → HasGiven (elements before) c.args.self.now (pieces before) (pieces_shown c.clear.new.self.items)
begun c before tracked = record {
  left = tracked;
  pieces = rw c.clear.ensures.items (sym (append-nil (pieces before)));
}

pub returns-clause-tracked : goal.returns-clause-tracked
returns-clause-tracked c = on_ok_weaker c.take.result (λ hears. λ before tracked. (hears (elements before) (pieces before) (begun c before tracked)).left) c.take.ensures.given

pub returns-clause-pieces : goal.returns-clause-pieces
returns-clause-pieces c = on_ok_weaker c.take.result (λ hears. λ before tracked. (hears (elements before) (pieces before) (begun c before tracked)).pieces) c.take.ensures.given
