use Rattle.std.proofs.Common.{◌≡◌, ◌∙◌, ◌+◌, ℕ, List, Some, arith, slice_get, sym, subst, take}
use Rattle.std.proofs.lemmas.Grind.{common_steps}
use Rattle.std.proofs.lemmas.Option.{gets}
use Rattle.fax_spool.specs.RecordOctets.{PageValue}
use Rattle.fax_queue.specs.Storing.{AreRecordsUnder}
use Rattle.fax_queue.specs.Queues.{lines_of}
use Rattle.fax_queue.specs.Tags.{AreTagged}
use Rattle.fax_queue.proofs.Records.{next_tagged, next_under}
use Rattle.fax_queue.proofs.putting.records_of.Goals as goal

pub loop-k-preserved : goal.loop-k-preserved
loop-k-preserved c =
    let names = c.args.names.now in
    let pages = c.args.pages.now in
    let record_of = c.record_of-record.result in
    let at : slice_get names.numbers.now c.loop-k.k ≡ Some c.in-Some.number.now = grind (arith, common_steps, gets, c.in-Some.ensures.lookup) in
    let line : slice_get (lines_of names.queues.now) c.index-pages-k.result.line ≡ Some record_of.line =
    subst (λ (l : List ℕ). slice_get (lines_of names.queues.now) c.index-pages-k.result.line ≡ Some l) (sym c.record_of-record.ensures.line) c.in-Some-line_of.ensures in (
      subst (λ (l : List PageValue). AreRecordsUnder names.life (lines_of names.queues.now) (take (c.loop-k.k + 1) pages) names.numbers.now l) (sym c.in-Ok.ensures.items)
          (next_under names.life (lines_of names.queues.now) pages names.numbers.now c.loop-k.records.items c.loop-k.k c.index-pages-k.result c.in-Some.number.now record_of
          c.loop-k-test.true c.index-pages-k.is at line c.record_of-record.ensures.under c.loop-k.invariant.0),
      subst (λ (l : List PageValue). AreTagged names.tags.now (take (c.loop-k.k + 1) pages) l) (sym c.in-Ok.ensures.items)
          (next_tagged names.tags.now pages c.loop-k.records.items c.loop-k.k c.index-pages-k.result record_of c.loop-k-test.true c.index-pages-k.is
          (c.record_of-record.ensures.tag ∙ c.tag_of-tag.ensures) c.loop-k.invariant.1),
    )
