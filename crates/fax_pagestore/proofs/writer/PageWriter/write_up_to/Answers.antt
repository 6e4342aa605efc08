use Rattle.std.proofs.Common.{◌≡◌, length, sym, ap, subst, arith}
use Rattle.fax_pagestore.specs.Writers.{WriterValue, WritesOn}
use Rattle.fax_pagestore.proofs.WriterLemmas.{WritesOn-more, goes_on, on_err}
use Rattle.fax_pagestore.proofs.writer.PageWriter.write_up_to.Goals as goal

pub loop-self-preserved : goal.loop-self-preserved
loop-self-preserved g c =
    let step = subst (λ (w : WriterValue). WritesOn w.coding w.least c.args.page.now c.loop-self.place c.in_ok-place.place c.loop-self.writer c.write_step.new.writer)
    c.self.view_is c.in_ok-place.ensures.on in
    record {
      on = WritesOn-more c.args.self.now.coding c.args.self.now.least c.args.page.now c.args.self.now.place c.loop-self.place c.in_ok-place.place
          c.args.writer.now c.loop-self.writer c.write_step.new.writer c.loop-self.invariant.on step;
      more = λ before end none. let longer = c.in_ok-place.ensures.more c.in_default.not-End in let nothing : length c.write_step.new.writer ≡ 0 = ap length none in absurd (omega arith);
    }

pub returns-in_err-place-clause-err : goal.returns-in_err-place-clause-err
returns-in_err-place-clause-err g c =
    on_err c.from_residual.result
    (goes_on c.self.inside.coding c.self.inside.least_bits c.args.page.now c.self.inside.place c.loop-self.place c.args.writer.now c.loop-self.writer c.write_step.new.writer
    (subst (λ (w : WriterValue). WritesOn w.coding w.least c.args.page.now w.place c.loop-self.place c.args.writer.now c.loop-self.writer) (sym c.self.view_is) c.loop-self.invariant.on)
    c.in_err-place.ensures.err)
