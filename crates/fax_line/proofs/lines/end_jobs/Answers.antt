use Rattle.std.proofs.Common.{◌≡◌, ◌∙◌, ◌+◌, [], ◌∷◌, List, Some, None, Vec, Global, slice_get, subst, sym}
use Rattle.fax_jobs.specs.declared.report.Report.{Report}
use Rattle.fax_line.specs.declared.settling.LineReport.{LineReport}
use Rattle.fax_line.specs.StoredRuns.{EndsIf, reports_at}
use Rattle.fax_line.specs.Operations.{waits_of}
use Rattle.fax_line.specs.Places.{PlaceValue}
use Rattle.fax_line.proofs.Telling.{Collected, collected_all, collected_more, collected_none, collected_still, reports_here}
use Rattle.fax_line.proofs.lines.end_jobs.Goals as goal
use Rattle.fax_line.proofs.lines.end_jobs.Goals.{in-Some, in_default}

pub loop-i-init : goal.loop-i-init
loop-i-init g c = collected_none g.K.RunStore.ends (waits_of c.args.places.now) c.args.places.now c.args.store.now c.new-ended.result.items c.new-ended.ensures.items

pub loop-i-preserved : goal.loop-i-preserved
loop-i-preserved g c =
    let ends = g.K.RunStore.ends in
    let lines = c.args.places.now in
    let at = c.loop-i.i in
    let start = c.args.store.now in
    let place : PlaceValue = c.index-places-i.result in
    elim c.match-report_of.branch [
      | in-Some w ↦
          let here : reports_at (waits_of lines) at (slice_get lines at) ≡ w.in-Some.report ∷ [] =
          reports_here lines at place (Some w.in-Some.report) c.loop-i-test.true c.index-places-i.is (sym w.in-Some.is ∙ c.report_of.ensures) in
          subst (λ (s : g.row.K.Denot). Collected ends (waits_of lines) lines (at + 1) start s c.match-report_of.ended.items) (sym w.store-is)
          (subst (λ (v : Vec LineReport Global). Collected ends (waits_of lines) lines (at + 1) start w.end_with.new.store v.items) (sym w.ended-is)
          (collected_more ends (waits_of lines) lines at start c.loop-i.store w.end_with.new.store c.loop-i.ended.items w.end_with.new.ended.items w.in-Some.report here w.end_with.ensures c.loop-i.invariant))
      | in_default w ↦
          let here : reports_at (waits_of lines) at (slice_get lines at) ≡ [] =
          reports_here lines at place None c.loop-i-test.true c.index-places-i.is (sym w.in_default.is ∙ c.report_of.ensures) in
          subst (λ (s : g.row.K.Denot). Collected ends (waits_of lines) lines (at + 1) start s c.match-report_of.ended.items) (sym w.store-is)
          (subst (λ (v : Vec LineReport Global). Collected ends (waits_of lines) lines (at + 1) start c.loop-i.store v.items) (sym w.ended-is)
          (collected_still ends (waits_of lines) lines at start c.loop-i.store c.loop-i.ended.items here c.loop-i.invariant))
    ]

pub returns : goal.returns
returns g c =
    collected_all g.K.RunStore.ends (waits_of c.args.places.now) c.args.places.now c.loop-i.i c.args.store.now c.loop-i.store c.end_some.new.store c.loop-i.ended.items c.loop-i-test.false
    (subst (λ (l : List LineReport). EndsIf g.K.RunStore.ends l c.loop-i.store c.end_some.new.store) c.as_slice.ensures.value c.end_some.ensures) c.loop-i.invariant
