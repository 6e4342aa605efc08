use Rattle.std.proofs.Common.{ℕ, ◌∙◌, ◌==◌, sym}
use Rattle.fax_requests.proofs.SecondsLemmas.{front_at, front_whole}
use Rattle.fax_requests.proofs.seconds.before_parameters.Goals as goal

pub returns-in-Some : goal.returns-in-Some
returns-in-Some c = front_at (λ (octet : ℕ). octet == 59) c.args.value.now c.in-Some.place (sym c.place_of_parameters.ensures ∙ c.in-Some.is)

pub returns-in-None : goal.returns-in-None
returns-in-None c = front_whole (λ (octet : ℕ). octet == 59) c.args.value.now (sym c.place_of_parameters.ensures ∙ c.in-None.is)
