use Rattle.std.proofs.Common.{◌≡◌, ◌++◌, ◌∙◌, ap, arith}
use Rattle.fax_pagestore.specs.WrittenPages.{ends_of_line}
use Rattle.fax_pagestore.proofs.WritingLemmas.{ends_of_line-none, ends_of_line-more}
use Rattle.fax_pagestore.proofs.writing.write_ends_of_line.Goals as goal

pub loop-init : goal.loop-init
loop-init c = ends_of_line-none c.args.coding c.args.writer.now

pub loop-preserved : goal.loop-preserved
loop-preserved c = ends_of_line-more c.args.coding _ _ _ _ c.loop.invariant c.in_ok-write_end_of_line.ensures.ok

pub returns-clause-ok : goal.returns-clause-ok
returns-clause-ok c =
    let all : c.loop.counter ≡ c.args.count = omega arith in
    c.loop.invariant ∙ ap (λ n. c.args.writer.now ++ ends_of_line c.args.coding n) all
