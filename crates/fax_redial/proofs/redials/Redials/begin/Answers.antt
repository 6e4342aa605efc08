use Rattle.std.proofs.Common.{Some, slice_set, sym, ◌∙◌, ap}
use Rattle.fax_redial.specs.Telling.{RedialsValue}
use Rattle.fax_redial.proofs.Befalling.{fault_none}
use Rattle.fax_redial.proofs.redials.Redials.begin.Goals as goal

pub returns-clause-begun : goal.returns-clause-begun
returns-clause-begun g c =
    let none = fault_none _ _ _ _ (sym c.fault.ensures ∙ c.in_default.is) in record {
      free = none.0;
      other = none.1;
      not_owed = none.2;
      held = c.in_ok-held.held;
      begins = c.in_ok-held.ensures;
      tries = ap (λ (r : RedialsValue). slice_set r.tries c.args.i (Some c.in_ok-held.held)) c.self.view_is;
    }
