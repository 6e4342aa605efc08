use Rattle.std.proofs.Common.{◌≡◌, ℕ, List, ◌++◌, codes, string_bytes}
use Rattle.fax_control.specs.declared.events.metrics.Kind.TheVariants.{Counter, Gauge}
use Rattle.fax_control.specs.events.Counts.{count_text, undelivered_counts}
use Rattle.fax_control.proofs.events.TextLemmas.{then_text, last_text}
use Rattle.fax_control.proofs.events.metrics.put_undelivered_counts.Goals as goal

pub returns : goal.returns
unfolding undelivered_counts
returns c =
    let t0 : List ℕ = string_bytes c.args.text.now in
    let t1 : List ℕ = string_bytes c.put.new.text in
    let t2 : List ℕ = string_bytes c.put-2.new.text in
    let t3 : List ℕ = string_bytes c.put-3.new.text in
    let n1 : List ℕ = count_text (codes "faxgate_jobs_undelivered_total") Counter c.args.counters.now.jobs_undelivered in
    let n2 : List ℕ = count_text (codes "faxgate_jobs_discarded_total") Counter c.args.counters.now.jobs_discarded in
    let n3 : List ℕ = count_text (codes "faxgate_pages_undelivered") Gauge c.args.counters.now.pages_undelivered in
    let e1 : t1 ≡ t0 ++ n1 = c.in_ok-put.ensures in
    let e2 : t2 ≡ t0 ++ (n1 ++ n2) = then_text t0 t1 t2 n1 n2 e1 c.in_ok-put-2.ensures in
    last_text c.put-3.result t0 t2 t3 (n1 ++ n2) n3 e2 c.put-3.ensures
