use Rattle.std.proofs.Common.{◌≡◌, ◌++◌, drop, string_bytes}
use Rattle.fax_descriptions.specs.Words.{rates_text}
use Rattle.fax_descriptions.proofs.words.add_rates.Given as goal

-- what was added so far goes on with the rates that are left
abbrev pub invariant-loop-rate : goal.invariant-loop-rate
invariant-loop-rate l =
    string_bytes l.words ++ rates_text l.last (drop l.rate-index l.rates) ≡ string_bytes l.fn.words ++ rates_text 0 l.rates
