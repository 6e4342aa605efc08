use Rattle.std.proofs.Common.{◌∙◌}
use Rattle.clap.specs.Words.{found_of}
use Rattle.clap.proofs.WalkLemmas.{one_text-rows}
use Rattle.fax_request.proofs.given.flag_of.Goals as goal

-- a flag, by the rows
pub returns : goal.returns
returns c =
    let same = one_text-rows (found_of c.args.given.now) c.args.flag.now in
    record {
      given = λ e. c.get_flag.ensures.value (same ∙ e);
      ungiven = λ e. c.get_flag.ensures.other (same ∙ e);
      unsaid = λ e. c.get_flag.ensures.none (same ∙ e);
    }
