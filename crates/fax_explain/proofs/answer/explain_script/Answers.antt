use Rattle.std.proofs.Common.{[], refl, rules}
use Rattle.fax_command.specs.RowLines.{lines_of}
use Rattle.fax_trace.specs.Playing.{nothing_played}
use Rattle.fax_explain.proofs.answer.explain_script.Goals as goal

pub returns-in_err-stage : goal.returns-in_err-stage
returns-in_err-stage c = record {
  before = [];
  others = lines_of c.args.script.now;
  lines_are = refl;
  events = [];
  tell = tt;
  ends = search rules;
  lines = [];
  told = λ setup writes set written. record { played = nothing_played; told = (refl, refl); is_trace = tt };
  text_is = c.requires.empty;
}
