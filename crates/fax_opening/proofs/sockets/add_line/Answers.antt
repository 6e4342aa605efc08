use Rattle.std.proofs.Common.{◌≡◌, List, [], ℕ, map, refl, sym, ap, subst}
use Rattle.fax_gateway.specs.Restored.{RestoredCall, call_shown}
use Rattle.fax_line.specs.Actions.{BeginsWith, LineValue}
use Rattle.fax_spool.specs.RecordOctets as spool
use Rattle.fax_wires.specs.holding.Storing.{HasDone}
use Rattle.fax_queue.specs.Restorations.{Restores, whole_pages}
use Rattle.fax_queue.proofs.Calls.{no_calls}
use Rattle.fax_opening.specs.Openings.{settings_by}
use Rattle.fax_opening.proofs.sockets.add_line.Goals as goal

pub returns-clause-begun : goal.returns-clause-begun
returns-clause-begun g c are = c.add.ensures.begun (map call_shown c.in_ok-calls.field-0.calls.items) are c.in_ok-line.ensures.begins

pub returns-clause-new : goal.returns-clause-new
returns-clause-new g c = λ none are.
    c.add.ensures.new are (subst (λ (calls : List RestoredCall). BeginsWith calls c.in_ok-line.line) (no_calls _ _ c.in_ok-calls.field-0 c.in_ok-calls.ensures (ap (λ (l : List spool.PageValue). whole_pages c.args.torn.now l) none)) c.in_ok-line.ensures.begins)

pub returns-clause-restored : goal.returns-clause-restored
returns-clause-restored g c =
    let is_added = c.in_ok-add.ensures.added in
    record {
      place = is_added.place;
      queue = c.in_ok-calls.field-0.queue;
      added = is_added.lines;
      queued = c.in_ok-push.ensures.items;
      is = record {
        restored = c.in_ok-calls.field-0;
        restores = subst (λ (name : List ℕ). Restores name (whole_pages c.args.torn.now c.args.pages.now) c.in_ok-calls.field-0) c.as_str.ensures.value c.in_ok-calls.ensures;
        begins = subst (λ (line : LineValue). BeginsWith (map call_shown c.in_ok-calls.field-0.calls.items) line) (sym is_added.line_is) c.in_ok-line.ensures.begins;
        fresh = subst (λ (line : LineValue). HasDone [] line.holding) (sym is_added.line_is) c.in_ok-line.ensures.fresh;
        settings = subst (λ (line : LineValue). line.gateway.settings ≡ settings_by c.args.config.now) (sym is_added.line_is) c.in_ok-line.ensures.settings;
        queue_is = refl;
      };
    }
