use Rattle.fax_http.proofs.visitors.PlaceLemmas.{answered_nowhere, answered_there}
use Rattle.fax_http.proofs.visitors.visitors.answer_at.Goals as goal

pub returns-then-place-places : goal.returns-then-place-places
returns-then-place-places c = answered_there c.args.answer.now c.args.place c.args.places.now c.answer.new.self c.index-places-place.result c.if-place-places.true c.answer.ensures

pub returns-else-place-places : goal.returns-else-place-places
returns-else-place-places c = answered_nowhere c.args.answer.now c.args.place c.args.places.now c.if-place-places.false
