use Rattle.std.proofs.Common.{◌≡◌, ap, sym, ◌∙◌, option_and_then}
use Rattle.fax_http.specs.Connections.{unanswered}
use Rattle.fax_http.proofs.visitors.PlaceLemmas.{There, asks_there}
use Rattle.fax_http.proofs.visitors.visitors.asked.Goals as goal

pub returns-then-is_for_picture-is_picture-clause-asks : goal.returns-then-is_for_picture-is_picture-clause-asks
returns-then-is_for_picture-is_picture-clause-asks c =
    asks_there c.loop-place.place c.args.places.now c.in-Some.question c.index-places-place.result c.loop-place-test.true
    (ap (λ (there : There). option_and_then unanswered there) (sym c.index-places-place.is) ∙ sym c.asked.ensures ∙ c.in-Some.is)
