use Rattle.std.proofs.Common.{◌≡◌, ◌≢◌, ◌+◌, ◌-◌, ◌<◌, ℕ, suc, List, Some, take, drop, ap, sym, ◌∙◌, arith}
use Rattle.fax_tiff.specs.Directories.{entry_of, number_16}
use Rattle.fax_tiff.proofs.EntryLemmas.{entry_further, entry_here, no_entry}
use Rattle.fax_tiff.proofs.directory.find_entry.Goals as goal

pub returns-then-read_16-tag-clause-found : goal.returns-then-read_16-tag-clause-found
returns-then-read_16-tag-clause-found c =
    let front : c.split_at.result.0.now ≡ take 12 c.loop.rest.now = c.split_at.ensures.front in
    let tag : number_16 c.args.order (take 12 c.loop.rest.now) 0 ≡ c.args.tag =
    ap (λ (o : List ℕ). number_16 c.args.order o 0) (sym front) ∙ sym c.read_16.ensures ∙ c.if-read_16-tag.true in
    ap (λ (o : List ℕ). Some o) front
    ∙ sym (entry_here c.args.order c.args.tag (c.args.directory.now.count - c.loop.counter) c.loop.rest.now (omega (arith, c.loop-test.true)) tag)
    ∙ c.loop.invariant.found

pub loop-preserved : goal.loop-preserved
loop-preserved c =
    let front : c.split_at.result.0.now ≡ take 12 c.loop.rest.now = c.split_at.ensures.front in
    let other : number_16 c.args.order (take 12 c.loop.rest.now) 0 ≢ c.args.tag =
    λ e. c.if-read_16-tag.false (c.read_16.ensures ∙ ap (λ (o : List ℕ). number_16 c.args.order o 0) front ∙ e) in
    let less : c.args.directory.now.count - c.loop.counter ≡ suc (c.args.directory.now.count - (c.loop.counter + 1)) = omega (arith, c.loop-test.true) in
    record {
      found = ap (λ (o : List ℕ). entry_of c.args.order c.args.tag (c.args.directory.now.count - (c.loop.counter + 1)) o) c.split_at.ensures.back
          ∙ sym (entry_further c.args.order c.args.tag (c.args.directory.now.count - c.loop.counter) (c.args.directory.now.count - (c.loop.counter + 1)) c.loop.rest.now less other)
          ∙ c.loop.invariant.found;
      size = omega (arith, c.loop.invariant.size, c.split_at.ensures.back_len, c.loop-test.true);
    }

pub returns-clause-found : goal.returns-clause-found
returns-clause-found c =
    let none : c.args.directory.now.count - c.loop.counter ≡ 0 = omega (arith, c.loop-test.false) in
    sym (no_entry c.args.order c.args.tag c.loop.rest.now) ∙ ap (λ (n : ℕ). entry_of c.args.order c.args.tag n c.loop.rest.now) (sym none) ∙ c.loop.invariant.found
