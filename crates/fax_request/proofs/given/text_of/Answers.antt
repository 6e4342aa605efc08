use Rattle.std.proofs.Common.{◌∙◌}
use Rattle.clap.specs.Words.{found_of}
use Rattle.clap.proofs.WalkLemmas.{first_value-rows}
use Rattle.fax_request.proofs.given.text_of.Goals as goal

-- the first value of an option, by the rows
pub returns : goal.returns
returns c = c.get_str.ensures ∙ first_value-rows (found_of c.args.given.now) c.args.option.now
