use Rattle.std.proofs.Common.{◌≡◌, Some, sym, ◌∙◌, subst}
use Rattle.fax_control.specs.Words.{HasNoSpace}
use Rattle.fax_gateway.specs.LegNames.{leg_text}
use Rattle.fax_control.proofs.SpaceLemmas.{has_space, cut_once}
use Rattle.fax_control.proofs.WordLemmas.{hangup_spelled}
use Rattle.fax_control.proofs.reading.hang_up_of.Goals as goal

pub returns-in_err-line-clause-only : goal.returns-in_err-line-clause-only
returns-in_err-line-clause-only c = λ order says.
    let (line, leg, is, e, name) = hangup_spelled c.args.rest.now order says in
    absurd (has_space line (leg_text leg) (subst HasNoSpace e c.in_err-line.ensures.none))

pub returns-in_err-leg-clause-only : goal.returns-in_err-leg-clause-only
returns-in_err-leg-clause-only c = λ order says.
    let (line, leg, is, e, name) = hangup_spelled c.args.rest.now order says in
    let cut = c.in_ok-line.ensures.some in
    let same = cut_once c.in_ok-line.line.now c.in_ok-line.leg.now line (leg_text leg) cut.1 name.1 (sym cut.0 ∙ e) in
    let found = c.in_err-leg.ensures.only leg same.1 in
    absurd (cc)

pub returns-else-is_empty-clause-only : goal.returns-else-is_empty-clause-only
returns-else-is_empty-clause-only c = λ order says.
    let (line, leg, is, e, name) = hangup_spelled c.args.rest.now order says in
    let cut = c.in_ok-line.ensures.some in
    let same = cut_once c.in_ok-line.line.now c.in_ok-line.leg.now line (leg_text leg) cut.1 name.1 (sym cut.0 ∙ e) in
    let found : Some c.in_ok-leg.leg ≡ Some leg = c.in_ok-leg.ensures.only leg same.1 in
    let same_line : c.in_ok-line.line.now ≡ line = same.0 in
    cc
