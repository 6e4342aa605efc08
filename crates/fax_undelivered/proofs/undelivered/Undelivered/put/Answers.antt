use Rattle.std.proofs.Common.{List, ◌∙◌, ap}
use Rattle.fax_spool.specs.Calls.{Puts}
use Rattle.fax_spool.proofs.Doing.{does_err, does_nothing}
use Rattle.fax_undelivered.specs.Calls.{CallValue, calls_after}
use Rattle.fax_undelivered.proofs.Coming.{comes}
use Rattle.fax_undelivered.proofs.undelivered.Undelivered.put.Goals as goal

pub returns-clause-kept : goal.returns-clause-kept
returns-clause-kept g c = λ waits keeps.
    comes _ _ _ c.args.self.now _ c.args.records.now waits c.in_ok-put_all.ensures.does
    (c.in_ok-add_pages.ensures ∙ ap (λ (l : List CallValue). calls_after l c.args.records.now) (c.in_ok-calls.ensures ∙ c.as_slice.ensures.value)) keeps

pub returns-clause-does : goal.returns-clause-does
returns-clause-does g c = c.in_ok-put_all.ensures.does

pub returns-in_err-calls-clause-does : goal.returns-in_err-calls-clause-does
returns-in_err-calls-clause-does g c = does_err _ _ _ c.args.self.now.spool c.args.self.now.spool _ c.from_residual.result (Puts c.args.records.now) c.from_residual.ensures.1 (does_nothing _ _ _ c.args.self.now.spool c.args.self.now.spool (Puts c.args.records.now))

pub returns-in_err-add_pages-clause-does : goal.returns-in_err-add_pages-clause-does
returns-in_err-add_pages-clause-does g c = does_err _ _ _ c.args.self.now.spool c.args.self.now.spool _ c.from_residual-in_err-add_pages.result (Puts c.args.records.now) c.from_residual-in_err-add_pages.ensures.1 (does_nothing _ _ _ c.args.self.now.spool c.args.self.now.spool (Puts c.args.records.now))

pub returns-in_err-put_all-clause-does : goal.returns-in_err-put_all-clause-does
returns-in_err-put_all-clause-does g c = does_err _ _ _ c.args.self.now.spool c.put_all.new.self _ c.from_residual-in_err-put_all.result (Puts c.args.records.now) c.from_residual-in_err-put_all.ensures.1 c.in_err-put_all.ensures.does
