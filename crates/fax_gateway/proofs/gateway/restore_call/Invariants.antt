use Rattle.std.proofs.Common.{◌≡◌, map, length}
use Rattle.std.specs.Vec.Iter.{into_iter_items, into_iter_len}
use Rattle.fax_gateway.specs.Restored.{ArePages, confirmation_shown, confirmed_all, pages_with}
use Rattle.fax_gateway.proofs.gateway.restore_call.Given as goal

-- what is left makes of the book what all make of it before
abbrev pub invariant-loop-found : goal.invariant-loop-found
invariant-loop-found g l =
    (confirmed_all l.book.book l.number (map confirmation_shown (into_iter_items l.found-iterator)) ≡ confirmed_all l.fn.book.book l.fn.call.number (map confirmation_shown l.fn.call.confirmed.items))
    × (into_iter_len l.found-iterator ≡ length (into_iter_items l.found-iterator))
    × (ArePages (pages_with l.number (map confirmation_shown (into_iter_items l.found-iterator))) → ArePages (pages_with l.fn.call.number (map confirmation_shown l.fn.call.confirmed.items)))
