use Rattle.std.proofs.Common.{drop, map}
use Rattle.fax_spool.proofs.Places.{ArePlacedSo}
use Rattle.fax_spool.proofs.placed_page.placed_pages.Given as goal

-- the records so far, and the pages that wait by them
abbrev pub invariant-loop-kept : goal.invariant-loop-kept
invariant-loop-kept l = ArePlacedSo (map (λ v. v.items) l.items) (map (λ v. v.items) l.rest) l.end l.records (drop l.kept-index l.records) l.pages.items
