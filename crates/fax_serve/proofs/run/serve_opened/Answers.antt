use Rattle.std.proofs.Common.{List, refl, sym, subst}
use Rattle.fax_config.specs.declared.config.LineConfig.{LineConfig}
use Rattle.fax_spool.specs.RecordOctets.{PageValue}
use Rattle.fax_spool.specs.Torn.{CallName}
use Rattle.fax_queue.specs.Restorations.{whole_pages}
use Rattle.fax_queue.specs.Queues.{QueueValue}
use Rattle.fax_opening.specs.Openings.{AreRestored}
use Rattle.fax_serve.proofs.run.serve_opened.Goals as goal

pub returns-clause-kept : goal.returns-clause-kept
returns-clause-kept g c =
    let all = c.args.opened.pages.items in
    let torn = c.args.opened.torn.items in
    let lines = c.in_ok-lines.lines.lines in
    let queues = c.open_restored_lines.new.queues.items in
    record {
      served = record {
        opened = c.args.opened;
        begun = lines;
        store = c.in_ok-store.store;
        spool_is = c.in_ok-store.ensures.spool;
        restored = subst (λ (l : List QueueValue). AreRestored (whole_pages torn all) c.args.config.now.lines.items lines l) (sym c.in_ok-store.ensures.queues)
            (subst (λ (l : List LineConfig). AreRestored (whole_pages torn all) l lines queues) c.as_slice.ensures.value
            (subst (λ (t : List CallName). AreRestored (whole_pages t all) c.as_slice.result.now lines queues) c.as_slice-3.ensures.value
            (subst (λ (l : List PageValue). AreRestored (whole_pages c.as_slice-3.result.now l) c.as_slice.result.now lines queues) c.as_slice-2.ensures.value (c.in_ok-lines.ensures.restored c.new-queues.ensures.items))));
        run = c.serve_restored.ensures.kept;
      };
      is = refl;
    }
