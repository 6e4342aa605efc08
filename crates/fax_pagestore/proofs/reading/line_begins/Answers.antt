use Rattle.std.proofs.Common.{◌≡◌, ◌<◌, List, Bool, true, false, ◌∷◌, ◌++◌, replicate, arith}
use Rattle.std.proofs.lemmas.Bool.{ltb-true}
use Rattle.fax_pagestore.proofs.FrontLemmas.{few_zeros}
use Rattle.fax_pagestore.proofs.reading.line_begins.Goals as goal

pub returns : goal.returns
returns c = (
  λ few.
      let lt : c.zeros_in_window.result < 11 = ltb-true c.zeros_in_window.result 11 few in
      let one : (rest : List Bool) × (c.args.reader.now.left ≡ replicate c.zeros_in_window.result false ++ true ∷ rest) = c.zeros_in_window.ensures.one (omega arith) in
      (c.zeros_in_window.result, one.0, lt, one.1),
  λ begins. few_zeros c.zeros_in_window.result c.args.reader.now.left c.zeros_in_window.ensures.one c.zeros_in_window.ensures.none begins,
)
