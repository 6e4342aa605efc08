use Rattle.std.proofs.Common.{List, ℕ, ◌++◌, codes, refl, sym, ap, subst}
use Rattle.fax_gateway.specs.declared.settings.Settings.{Settings}
use Rattle.fax_trace.specs.Rep.{HasPlayed}
use Rattle.fax_trace.proofs.AnswerLemmas.{Answers-memory, Answers-same}
use Rattle.fax_trace.proofs.answer.play.Goals as goal

pub returns-in_default : goal.returns-in_default
returns-in_default c =
    let script = c.args.script.now in
    Answers-same c.args.settings script script 0 0 3 3 _ _ (Answers-memory c.args.settings script) refl refl refl
    (ap (λ (text : List ℕ). text ++ codes "fault memory\n") c.new-in_default.ensures.items)

pub returns : goal.returns
returns c =
    let played = subst (λ (s : Settings). HasPlayed s c.args.script.now c.play_lines-outcome.result c.play_lines-outcome.new.lines c.play_lines-outcome.new.player.text.items) c.in-Ok.ensures.settings c.play_lines-outcome.ensures in
    c.answer_of-answer.ensures c.args.settings c.args.script.now c.play_lines-outcome.new.lines
    (subst (λ (text : List ℕ). HasPlayed c.args.settings c.args.script.now c.play_lines-outcome.result c.play_lines-outcome.new.lines text) (sym c.into_text.ensures) played)
