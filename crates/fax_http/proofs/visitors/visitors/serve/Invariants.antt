use Rattle.fax_http.specs.visitors.Visits.{IsServedPlace}
use Rattle.fax_http.proofs.visitors.PlaceLemmas.{First}
use Rattle.fax_http.proofs.visitors.visitors.serve.Given as goal

-- the places so far
abbrev pub invariant-loop-place : goal.invariant-loop-place
invariant-loop-place l = First IsServedPlace l.place-index l.initial.places l.places
