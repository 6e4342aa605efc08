use Rattle.fax_http.proofs.visitors.PlaceLemmas.{none_came, one_came}
use Rattle.fax_http.proofs.visitors.visitors.admit.Goals as goal

pub returns-then-place-places : goal.returns-then-place-places
returns-then-place-places c = one_came c.place_for-place.result c.args.places.now c.fill.new.self c.fill.ensures

pub returns-else-place-places : goal.returns-else-place-places
returns-else-place-places c = none_came c.args.places.now
