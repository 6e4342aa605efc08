use Rattle.std.proofs.Common.{◌≡◌, length}
use Rattle.std.specs.Vec.Iter.{into_iter_items, into_iter_len}
use Rattle.fax_sip_service.specs.Services.{Service, TakesNews}
use Rattle.fax_sip_service.proofs.service.SipService.take_news.Given as goal

-- what comes of the rest comes of all
abbrev pub invariant-loop-told : goal.invariant-loop-told
invariant-loop-told l =
    (into_iter_len l.told-iterator ≡ length (into_iter_items l.told-iterator))
    × ((later : Service) → TakesNews (into_iter_items l.told-iterator) l.self later → TakesNews (into_iter_items l.initial.told-iterator) l.initial.self later)
