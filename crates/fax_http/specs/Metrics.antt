-- Counts in OpenMetrics (version 1.0.0, 5.1), from their text in Prometheus' format (version 0.0.4). The one says the type of a counter of its
-- name without `_total`, the other of its whole name.
use Rattle.std.specs.Prelude.{ℕ, ◌-◌, nat_eq, nat_lt, if◌then◌else◌, List, [], ◌∷◌}
use Rattle.std.specs.List.{starts_with}
use Rattle.fax_http.specs.declared.metrics.TheConstants.{MORE, TOTAL}

-- the text, of which so many octets are left out first, and `_total` at each end of a line that says the type of a counter
abbrev pub families : ℕ → List ℕ → List ℕ
families left_out [] = []
families left_out (octet ∷ text) = if nat_lt 0 left_out
    then families (left_out - 1) text else if starts_with nat_eq (octet ∷ text) TOTAL.now
    then families MORE text else octet ∷ families 0 text

abbrev pub open_metrics : List ℕ → List ℕ
open_metrics text = families 0 text
