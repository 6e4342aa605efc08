use Rattle.std.proofs.Common.{◌≤◌, ◌<◌, length, arith}
use Rattle.fax_http.specs.visitors.Visits.{IsServedPlace}
use Rattle.fax_http.proofs.visitors.PlaceLemmas.{first_all, first_next}
use Rattle.fax_http.proofs.visitors.visitors.serve.Goals as goal

pub loop-place-preserved : goal.loop-place-preserved
loop-place-preserved c =
    let within : c.loop-place.place-index < length c.loop-place.places = omega (arith, c.loop-place-test.true, c.loop-place.auto.places) in
    first_next IsServedPlace c.loop-place.place-index c.args.places.now c.loop-place.places c.serve.new.self c.place-item.result c.loop-place.invariant within c.serve.ensures

pub returns : goal.returns
returns c =
    let all : length c.loop-place.places ≤ c.loop-place.place-index = omega (arith, c.loop-place-test.false, c.loop-place.auto.places) in
    first_all IsServedPlace c.loop-place.place-index c.args.places.now c.loop-place.places c.loop-place.invariant all
