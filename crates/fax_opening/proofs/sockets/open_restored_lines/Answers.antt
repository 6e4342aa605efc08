use Rattle.std.proofs.Common.{◌∙◌, arith, sym}
use Rattle.fax_queue.specs.Restorations.{whole_pages}
use Rattle.fax_opening.proofs.Restoring.{one_more}
use Rattle.fax_opening.proofs.sockets.open_restored_lines.Goals as goal

pub loop-config-preserved : goal.loop-config-preserved
loop-config-preserved g c =
    let before = c.loop-config.invariant in
    let more = c.in_ok-add_line.ensures in (
      more.begun before.0,
      λ none. more.new none (before.1 none),
      more.slot ∙ before.2,
      omega (arith, more.one_more, before.3),
      λ none. one_more (whole_pages c.args.torn.now c.args.pages.now) c.args.configs.now c.loop-config.config-index c.config-item.result c.loop-config.lines.lines c.add_line.new.lines.lines c.loop-config.queues.items c.add_line.new.queues.items
          c.loop-config-test.true (sym c.config-item.is) more.restored (before.4 none),
    )
