use Rattle.std.proofs.Common.{◌≡◌, ℕ, List, ◌++◌, codes, string_bytes}
use Rattle.fax_control.specs.declared.events.metrics.Kind.TheVariants.{Counter}
use Rattle.fax_control.specs.events.Counts.{wire_counts, count_text}
use Rattle.fax_control.proofs.events.TextLemmas.{then_text, last_text}
use Rattle.fax_control.proofs.events.metrics.put_wire_counts.Goals as goal

pub returns : goal.returns
unfolding wire_counts
returns c =
    let t0 : List ℕ = string_bytes c.args.text.now in
    let t1 : List ℕ = string_bytes c.put.new.text in
    let t2 : List ℕ = string_bytes c.put-2.new.text in
    let t3 : List ℕ = string_bytes c.put-3.new.text in
    let t4 : List ℕ = string_bytes c.put-4.new.text in
    let t5 : List ℕ = string_bytes c.put-5.new.text in
    let t6 : List ℕ = string_bytes c.put-6.new.text in
    let t7 : List ℕ = string_bytes c.put-7.new.text in
    let n1 : List ℕ = count_text (codes "faxgate_datagrams_received_total") Counter c.args.counters.now.datagrams_received in
    let n2 : List ℕ = count_text (codes "faxgate_datagrams_sent_total") Counter c.args.counters.now.datagrams_sent in
    let n3 : List ℕ = count_text (codes "faxgate_receive_failures_total") Counter c.args.counters.now.receive_failures in
    let n4 : List ℕ = count_text (codes "faxgate_send_failures_total") Counter c.args.counters.now.send_failures in
    let n5 : List ℕ = count_text (codes "faxgate_datagrams_refused_total") Counter c.args.counters.now.datagrams_refused in
    let n6 : List ℕ = count_text (codes "faxgate_turns_late_total") Counter c.args.counters.now.turns_late in
    let n7 : List ℕ = count_text (codes "faxgate_skipped_milliseconds_total") Counter c.args.counters.now.skipped_ms in
    let e1 : t1 ≡ t0 ++ n1 = c.in_ok-put.ensures in
    let e2 : t2 ≡ t0 ++ (n1 ++ n2) = then_text t0 t1 t2 n1 n2 e1 c.in_ok-put-2.ensures in
    let e3 : t3 ≡ t0 ++ (n1 ++ n2 ++ n3) = then_text t0 t2 t3 (n1 ++ n2) n3 e2 c.in_ok-put-3.ensures in
    let e4 : t4 ≡ t0 ++ (n1 ++ n2 ++ n3 ++ n4) = then_text t0 t3 t4 (n1 ++ n2 ++ n3) n4 e3 c.in_ok-put-4.ensures in
    let e5 : t5 ≡ t0 ++ (n1 ++ n2 ++ n3 ++ n4 ++ n5) = then_text t0 t4 t5 (n1 ++ n2 ++ n3 ++ n4) n5 e4 c.in_ok-put-5.ensures in
    let e6 : t6 ≡ t0 ++ (n1 ++ n2 ++ n3 ++ n4 ++ n5 ++ n6) = then_text t0 t5 t6 (n1 ++ n2 ++ n3 ++ n4 ++ n5) n6 e5 c.in_ok-put-6.ensures in
    last_text c.put-7.result t0 t6 t7 (n1 ++ n2 ++ n3 ++ n4 ++ n5 ++ n6) n7 e6 c.put-7.ensures
