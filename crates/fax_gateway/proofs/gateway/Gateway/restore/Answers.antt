use Rattle.std.proofs.Common.{List, [], refl, sym, ◌∙◌, ap}
use Rattle.fax_jobs.specs.Books.{new_book}
use Rattle.fax_gateway.specs.Restored.{RestoredCall, restored_to}
use Rattle.fax_gateway.proofs.Restoring.{restored_book}
use Rattle.fax_gateway.proofs.gateway.Gateway.restore.Goals as goal

pub returns-clause-reached : goal.returns-clause-reached
returns-clause-reached g c setup writes set =
    record {
      is_trace = tt;
      set = set.set;
      at = c.new-3.ensures;
      rung = refl;
      calling = c.in_ok-calling.ensures setup set.set;
      called = c.in_ok-called.ensures.reached setup writes set.set;
      book = c.in_ok-jobs.ensures.book ∙ ap (λ (calls : List RestoredCall). restored_to new_book calls) (sym set.restored) ∙ sym (restored_book setup.restored []);
    }
