use Rattle.fax_http.proofs.visitors.PlaceLemmas.{all_go}
use Rattle.fax_http.proofs.visitors.visitors.go_on.Goals as goal

pub returns : goal.returns
returns c = all_go c.args.places.now c.serve.new.places c.let_in.new.places c.serve.ensures c.let_in.ensures
