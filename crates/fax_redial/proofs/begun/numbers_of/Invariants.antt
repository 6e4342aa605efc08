use Rattle.std.proofs.Common.{◌≡◌, ◌++◌, drop, map}
use Rattle.fax_redial.proofs.begun.numbers_of.Given as goal
use Rattle.fax_undelivered.specs.Calls.{number_of}

-- the numbers so far, and those of the pages still to come
abbrev pub invariant-loop-page : goal.invariant-loop-page
invariant-loop-page l = l.numbers.items ++ map number_of (drop l.page-index l.pages) ≡ map number_of l.pages
