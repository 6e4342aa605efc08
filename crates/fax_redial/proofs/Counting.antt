-- The turn of a try, and what it reported.
use Rattle.std.proofs.Common.{◌≡◌, ℕ, [], ◌∷◌, List, Option, Some, option_map, sym, ◌∙◌, ap, subst}
use Rattle.fax_desk.specs.declared.questions.Cause.{Cause}
use Rattle.fax_gateway.specs.Restored.{RestoredCall}
use Rattle.fax_gateway.specs.declared.turn_report.TurnReport.{TurnReport}
use Rattle.fax_line.specs.Places.{Visit}
use Rattle.fax_line.specs.Runs.{DoneOrder, Turned, Woken}
use Rattle.fax_redial.specs.Telling.{told_of_try, turn_of}
use Rattle.fax_redial.specs.Totals.{total_if}
use Rattle.fax_redial.specs.Tries.{GoesOn, IsTried, TryValue, Turns, report_of, told_by}
use Rattle.fax_redial.specs.declared.total.TryTotal.{TryTotal}

-- what its reports come to changes nothing else of it
tried_counted : (calls : List RestoredCall) (done : List DoneOrder) (held : TryValue) (total : TryTotal) → IsTried calls done held → IsTried calls done (record held { total = total })
tried_counted calls done held total tried =
    record { place = tried.place; begins = tried.begins; went = tried.went; ran = tried.ran; served = tried.served; free = tried.free; slot = tried.slot; moment = tried.moment }

pub turns_counted : (now : ℕ) (cause : Option Cause) (old next new : TryValue) (told : Option TurnReport) → told ≡ told_by old next → next.job ≡ old.job → next.total ≡ old.total
    → ((visits : ℕ → Visit) × GoesOn (Turned now visits ∷ Woken 0 ∷ []) old next) → new ≡ record next { total = total_if (report_of told) cause next.total } → Turns now cause old new
turns_counted now cause old next new told is job total (visits, goes) counted =
    subst (λ (t : TryValue). Turns now cause old t) (sym counted) (record {
      job = job;
      visits = visits;
      goes = record { goes = λ calls done tried. tried_counted calls (Turned now visits ∷ Woken 0 ∷ done) next (total_if (report_of told) cause next.total) (goes.goes calls done tried) };
      total = ap (λ (t : Option TurnReport). total_if (report_of t) cause next.total) is ∙ ap (λ (t : TryTotal). total_if (report_of (told_by old next)) cause t) total;
    })

-- and that is told
pub told_counted : (old next new : TryValue) (told : Option TurnReport) (total : TryTotal) → told ≡ told_by old next → new ≡ record next { total = total }
    → option_map (turn_of old.job) told ≡ told_of_try old (Some new)
told_counted old next new told total is counted =
    ap (λ (t : Option TurnReport). option_map (turn_of old.job) t) is ∙ ap (λ (t : TryValue). told_of_try old (Some t)) (sym counted)
