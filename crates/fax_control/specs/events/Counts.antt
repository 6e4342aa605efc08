-- Counts as text (Prometheus' text format, version 0.0.4; the names are this project's profile).
use Rattle.std.specs.Prelude.{ℕ, List, ◌++◌, codes, decimal}
use Rattle.fax_control.specs.declared.events.counters.Counters.{Counters}
use Rattle.fax_control.specs.declared.events.metrics.Kind.{Kind}
use Rattle.fax_control.specs.declared.events.metrics.Kind.TheVariants.{Counter, Gauge}

abbrev pub kind_name : Kind → List ℕ
kind_name Counter = codes "counter"
kind_name Gauge = codes "gauge"

-- the type of a count, and its value, a line each
abbrev pub count_text : List ℕ → Kind → ℕ → List ℕ
count_text name kind value = codes "# TYPE " ++ (name ++ (codes " "
    ++ (kind_name kind ++ (codes "\n" ++ (name ++ (codes " " ++ (decimal value ++ codes "\n")))))))

unfoldable pub call_counts : Counters → List ℕ
call_counts counters =
    count_text (codes "faxgate_lines") Gauge counters.lines
    ++ count_text (codes "faxgate_calls_total") Counter counters.calls
    ++ count_text (codes "faxgate_pages_confirmed_total") Counter counters.pages_confirmed
    ++ count_text (codes "faxgate_pages_refused_total") Counter counters.pages_refused
    ++ count_text (codes "faxgate_pages_delivered_total") Counter counters.pages_delivered

unfoldable pub job_counts : Counters → List ℕ
job_counts counters =
    count_text (codes "faxgate_jobs_delivered_total") Counter counters.jobs_delivered
    ++ count_text (codes "faxgate_jobs_failed_total") Counter counters.jobs_failed
    ++ count_text (codes "faxgate_jobs_waiting") Gauge counters.jobs_waiting
    ++ count_text (codes "faxgate_events_lost_total") Counter counters.events_lost

unfoldable pub wire_counts : Counters → List ℕ
wire_counts counters =
    count_text (codes "faxgate_datagrams_received_total") Counter counters.datagrams_received
    ++ count_text (codes "faxgate_datagrams_sent_total") Counter counters.datagrams_sent
    ++ count_text (codes "faxgate_receive_failures_total") Counter counters.receive_failures
    ++ count_text (codes "faxgate_send_failures_total") Counter counters.send_failures
    ++ count_text (codes "faxgate_datagrams_refused_total") Counter counters.datagrams_refused
    ++ count_text (codes "faxgate_turns_late_total") Counter counters.turns_late
    ++ count_text (codes "faxgate_skipped_milliseconds_total") Counter counters.skipped_ms

unfoldable pub spool_counts : Counters → List ℕ
spool_counts counters =
    count_text (codes "faxgate_puts_total") Counter counters.puts
    ++ count_text (codes "faxgate_put_failures_total") Counter counters.put_failures
    ++ count_text (codes "faxgate_put_microseconds_total") Counter counters.put_micros
    ++ count_text (codes "faxgate_pages_stored") Gauge counters.pages_stored

unfoldable pub damage_counts : Counters → List ℕ
damage_counts counters =
    count_text (codes "faxgate_pages_set_aside_total") Counter counters.pages_set_aside
    ++ count_text (codes "faxgate_records_damaged_total") Counter counters.records_damaged
    ++ count_text (codes "faxgate_octets_passed_over_total") Counter counters.octets_passed_over
    ++ count_text (codes "faxgate_spool_failures_total") Counter counters.spool_failures

unfoldable pub undelivered_counts : Counters → List ℕ
undelivered_counts counters =
    count_text (codes "faxgate_jobs_undelivered_total") Counter counters.jobs_undelivered
    ++ count_text (codes "faxgate_jobs_discarded_total") Counter counters.jobs_discarded
    ++ count_text (codes "faxgate_pages_undelivered") Gauge counters.pages_undelivered

-- all counts, and the mark of the end
abbrev pub metrics_text : Counters → List ℕ
metrics_text counters =
    call_counts counters ++ job_counts counters ++ wire_counts counters ++ spool_counts counters
    ++ damage_counts counters ++ undelivered_counts counters ++ codes "# EOF\n"
