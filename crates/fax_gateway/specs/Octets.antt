-- How many octets of memory what a gateway keeps of pages takes, as far as lengths say.
use Rattle.std.specs.Prelude.{ℕ, ◌+◌}
use Rattle.fax_answer.specs.Octets.{octets_of_answerer}
use Rattle.fax_jobs.specs.Octets.{octets_of_book}
use Rattle.fax_gateway.specs.Reached.{GatewayValue}

-- what came in the call of the calling leg, and the pages of all jobs: the one that pages join, those that wait, and the one
-- that is being sent
abbrev pub octets_of_gateway : GatewayValue → ℕ
octets_of_gateway gateway = octets_of_answerer gateway.calling.kept + octets_of_book gateway.book
