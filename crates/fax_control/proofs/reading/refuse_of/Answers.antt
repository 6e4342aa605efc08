use Rattle.std.proofs.Common.{◌≡◌, ◌<◌, length, sym, ◌∙◌, ap, subst, arith}
use Rattle.fax_control.specs.Words.{HasNoSpace, IsTag}
use Rattle.fax_control.proofs.SpaceLemmas.{has_space, cut_once}
use Rattle.fax_control.proofs.WordLemmas.{refuse_spelled}
use Rattle.fax_control.proofs.reading.refuse_of.Goals as goal

pub returns-in_err-line-clause-only : goal.returns-in_err-line-clause-only
returns-in_err-line-clause-only c = λ order says.
    let (line, cause, is, e, name, is_cause) = refuse_spelled c.args.rest.now order says in
    absurd (has_space line cause (subst HasNoSpace e c.in_err-line.ensures.none))

pub returns-then-is_empty-clause-only : goal.returns-then-is_empty-clause-only
returns-then-is_empty-clause-only c = λ order says.
    let (line, cause, is, e, name, is_cause) = refuse_spelled c.args.rest.now order says in
    let cut = c.in_ok-line.ensures.some in
    let same = cut_once c.in_ok-line.line.now c.in_ok-line.cause.now line cause cut.1 name.1 (sym cut.0 ∙ e) in
    let long : length c.in_ok-line.line.now ≡ length line = ap length same.0 in
    let some : 0 < length line = name.0 in
    grind (arith, c.if-is_empty.true, c.is_empty.ensures, long, some)

pub returns-then-is_tag-clause-only : goal.returns-then-is_tag-clause-only
returns-then-is_tag-clause-only c = λ order says.
    let (line, cause, is, e, name, is_cause) = refuse_spelled c.args.rest.now order says in
    let cut = c.in_ok-line.ensures.some in
    let same = cut_once c.in_ok-line.line.now c.in_ok-line.cause.now line cause cut.1 name.1 (sym cut.0 ∙ e) in
    let same_line : c.in_ok-line.line.now ≡ line = same.0 in
    let same_cause : c.in_ok-line.cause.now ≡ cause = same.1 in
    cc

pub returns-else-is_tag-clause-only : goal.returns-else-is_tag-clause-only
returns-else-is_tag-clause-only c = λ order says.
    let (line, cause, is, e, name, is_cause) = refuse_spelled c.args.rest.now order says in
    let cut = c.in_ok-line.ensures.some in
    let same = cut_once c.in_ok-line.line.now c.in_ok-line.cause.now line cause cut.1 name.1 (sym cut.0 ∙ e) in
    c.is_tag.ensures.no c.if-is_tag.false (subst IsTag (sym same.1) is_cause)
