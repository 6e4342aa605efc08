use Rattle.std.proofs.Common.{◌≡◌, drop}
use Rattle.fax_undelivered.specs.Calls.{IsFirst, calls_after}
use Rattle.fax_undelivered.proofs.call.add_pages.Given as goal

-- what is still to come makes of the calls so far those of all
abbrev pub invariant-loop-page : goal.invariant-loop-page
invariant-loop-page l = record {
  calls : calls_after l.calls.items (drop l.page-index l.pages) ≡ calls_after l.initial.calls.items l.pages;
  first : IsFirst l.calls.items l.last;
}
