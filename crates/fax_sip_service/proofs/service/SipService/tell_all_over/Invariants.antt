use Rattle.std.proofs.Common.{◌≡◌, length}
use Rattle.std.specs.Vec.Iter.{into_iter_items, into_iter_len}
use Rattle.fax_sip_service.specs.Services.{Service, EndsEach}
use Rattle.fax_sip_service.proofs.service.SipService.tell_all_over.Given as goal

-- what comes of the rest comes of all
abbrev pub invariant-loop-place : goal.invariant-loop-place
invariant-loop-place l =
    (into_iter_len l.place-iterator ≡ length (into_iter_items l.place-iterator))
    × ((later : Service) → EndsEach l.now (into_iter_items l.place-iterator) l.self later → EndsEach l.now (into_iter_items l.initial.place-iterator) l.initial.self later)
