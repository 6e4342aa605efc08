use Rattle.std.specs.List.{AllZip}
use Rattle.fax_http.specs.visitors.Visits.{IsCame}
use Rattle.fax_http.proofs.visitors.visitors.let_in.Given as goal

-- who came so far
abbrev pub invariant-loop : goal.invariant-loop
invariant-loop l = AllZip IsCame l.initial.places l.places
