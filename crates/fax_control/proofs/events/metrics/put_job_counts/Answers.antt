use Rattle.std.proofs.Common.{◌≡◌, ℕ, List, ◌++◌, codes, string_bytes}
use Rattle.fax_control.specs.declared.events.metrics.Kind.TheVariants.{Counter, Gauge}
use Rattle.fax_control.specs.events.Counts.{job_counts, count_text}
use Rattle.fax_control.proofs.events.TextLemmas.{then_text, last_text}
use Rattle.fax_control.proofs.events.metrics.put_job_counts.Goals as goal

pub returns : goal.returns
unfolding job_counts
returns c =
    let t0 : List ℕ = string_bytes c.args.text.now in
    let t1 : List ℕ = string_bytes c.put.new.text in
    let t2 : List ℕ = string_bytes c.put-2.new.text in
    let t3 : List ℕ = string_bytes c.put-3.new.text in
    let t4 : List ℕ = string_bytes c.put-4.new.text in
    let n1 : List ℕ = count_text (codes "faxgate_jobs_delivered_total") Counter c.args.counters.now.jobs_delivered in
    let n2 : List ℕ = count_text (codes "faxgate_jobs_failed_total") Counter c.args.counters.now.jobs_failed in
    let n3 : List ℕ = count_text (codes "faxgate_jobs_waiting") Gauge c.args.counters.now.jobs_waiting in
    let n4 : List ℕ = count_text (codes "faxgate_events_lost_total") Counter c.args.counters.now.events_lost in
    let e1 : t1 ≡ t0 ++ n1 = c.in_ok-put.ensures in
    let e2 : t2 ≡ t0 ++ (n1 ++ n2) = then_text t0 t1 t2 n1 n2 e1 c.in_ok-put-2.ensures in
    let e3 : t3 ≡ t0 ++ (n1 ++ n2 ++ n3) = then_text t0 t2 t3 (n1 ++ n2) n3 e2 c.in_ok-put-3.ensures in
    last_text c.put-4.result t0 t3 t4 (n1 ++ n2 ++ n3) n4 e3 c.put-4.ensures
