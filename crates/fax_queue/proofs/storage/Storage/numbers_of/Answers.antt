use Rattle.std.proofs.Common.{◌≡◌, ◌∙◌, ◌++◌, ◌∷◌, [], List, ℕ, ap, arith, slice_index_or, sym, subst}
use Rattle.fax_queue.specs.Storing.{AreNumbersOf}
use Rattle.fax_queue.proofs.Numbering.{numbers_more}
use Rattle.fax_queue.proofs.storage.Storage.numbers_of.Goals as goal

pub loop-page-preserved : goal.loop-page-preserved
loop-page-preserved g c = (
  subst (λ l. AreNumbersOf c.args.self.now.queues.items c.args.self.now.life c.args.pages.now l) (sym (c.push_reserved.ensures.items ∙ ap (λ (l : List ℕ). l ++ c.next_number-number.result ∷ []) c.reserve.ensures.items))
      (numbers_more c.args.self.now.queues.items c.args.self.now.life c.args.pages.now c.loop-page.numbers.items c.page-item.result c.next_number-number.result
      (omega (arith, c.loop-page-test.true, c.loop-page.invariant.1)) (subst (λ (n : ℕ). c.page-item.result ≡ slice_index_or c.args.pages.now n c.page-item.result) (sym c.loop-page.invariant.1) c.page-item.is) c.next_number-number.ensures c.loop-page.invariant.0),
  grind (arith, c.push_reserved.ensures, c.reserve.ensures, c.loop-page.invariant.1),
)
