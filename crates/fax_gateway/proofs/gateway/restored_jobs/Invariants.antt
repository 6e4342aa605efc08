use Rattle.std.proofs.Common.{◌≡◌, map, length}
use Rattle.std.specs.Vec.Iter.{into_iter_items, into_iter_len}
use Rattle.fax_jobs.specs.Books.{new_book}
use Rattle.fax_gateway.specs.Restored.{ArePages, call_shown, pages_restored, restored_to}
use Rattle.fax_gateway.proofs.gateway.restored_jobs.Given as goal

-- what is left makes of the book what all make of a new one
abbrev pub invariant-loop-call : goal.invariant-loop-call
invariant-loop-call g l =
    (restored_to l.book.book (map call_shown (into_iter_items l.call-iterator)) ≡ restored_to new_book (map call_shown l.fn.calls.items))
    × (into_iter_len l.call-iterator ≡ length (into_iter_items l.call-iterator))
    × (ArePages (pages_restored (map call_shown (into_iter_items l.call-iterator))) → ArePages (pages_restored (map call_shown l.fn.calls.items)))
