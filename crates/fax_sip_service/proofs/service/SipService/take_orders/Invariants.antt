use Rattle.std.proofs.Common.{◌≡◌, length}
use Rattle.std.specs.Vec.Iter.{into_iter_items, into_iter_len}
use Rattle.fax_sip_service.specs.Services.{Service, TakesOrders}
use Rattle.fax_sip_service.proofs.service.SipService.take_orders.Given as goal

-- what comes of the rest comes of all
abbrev pub invariant-loop-order : goal.invariant-loop-order
invariant-loop-order l =
    (into_iter_len l.order-iterator ≡ length (into_iter_items l.order-iterator))
    × ((later : Service) → TakesOrders l.now (into_iter_items l.order-iterator) l.self later → TakesOrders l.now (into_iter_items l.initial.order-iterator) l.initial.self later)
