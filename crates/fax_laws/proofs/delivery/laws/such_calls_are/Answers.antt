use Rattle.fax_laws.proofs.delivery.Whole as lemmas
use Rattle.fax_laws.proofs.delivery.laws.such_calls_are.Goals as goal

pub returns-clause-readers : goal.returns-clause-readers
returns-clause-readers c = lemmas.readers_are

pub returns-clause-begin : goal.returns-clause-begin
returns-clause-begin c = lemmas.new_machines_may_begin
