use Rattle.std.proofs.Common.{◌+◌, ◌∷◌, take, drop, rules, sym, ◌∙◌, ap, add-one}
use Rattle.std.proofs.lemmas.List.{take_rest}
use Rattle.fax_command.specs.RowLines.{lines_of}
use Rattle.fax_command.proofs.RowLineLemmas.{lines_of_at, lines_of_whole}
use Rattle.fax_command.proofs.lines.first_line.Goals as goal

pub returns-in-Some-clause-lines : goal.returns-in-Some-clause-lines
returns-in-Some-clause-lines c =
    let text = c.args.text.now in
    let end = c.in-Some.end in
    lines_of_at text end c.in-Some.ensures.within c.in-Some.ensures.found c.in-Some.ensures.before
    ∙ ap (λ rest. take end text ∷ lines_of rest) (ap (λ n. drop n text) (sym (add-one end)) ∙ sym (take_rest text (end + 1)))

pub returns-in-None-clause-lines : goal.returns-in-None-clause-lines
unfolding lines_of
returns-in-None-clause-lines c = lines_of_whole c.args.text.now (search rules) c.in-None.ensures.none
