use Rattle.std.proofs.Common.{◌≡◌, ◌<◌, Some, decimal, length, sym, ◌∙◌, ap, subst, arith}
use Rattle.fax_control.specs.Words.{HasNoSpace, spaced}
use Rattle.fax_control.proofs.SpaceLemmas.{has_space, cut_once}
use Rattle.fax_control.proofs.OptionLemmas.{NoSpace-decimal}
use Rattle.fax_control.proofs.reading.call_of.Goals as goal

pub returns-in_err-line-clause-only : goal.returns-in_err-line-clause-only
returns-in_err-line-clause-only c = λ line life call is name is_life is_call.
    absurd (has_space line (spaced (decimal life) (decimal call)) (subst HasNoSpace is c.in_err-line.ensures.none))

pub returns-in_err-first-clause-only : goal.returns-in_err-first-clause-only
returns-in_err-first-clause-only c = λ line life call is name is_life is_call.
    let cut = c.in_ok-line.ensures.some in
    let same = cut_once c.in_ok-line.line.now c.in_ok-line.numbers.now line (spaced (decimal life) (decimal call)) cut.1 name.1 (sym cut.0 ∙ is) in
    absurd (has_space (decimal life) (decimal call) (subst HasNoSpace same.1 c.in_err-first.ensures.none))

pub returns-in_err-life-clause-only : goal.returns-in_err-life-clause-only
returns-in_err-life-clause-only c = λ line life call is name is_life is_call.
    let cut = c.in_ok-line.ensures.some in
    let same = cut_once c.in_ok-line.line.now c.in_ok-line.numbers.now line (spaced (decimal life) (decimal call)) cut.1 name.1 (sym cut.0 ∙ is) in
    let again = c.in_ok-first.ensures.some in
    let both = cut_once c.in_ok-first.first.now c.in_ok-first.second.now (decimal life) (decimal call) again.1 (NoSpace-decimal life (omega (arith, is_life))) (sym again.0 ∙ same.1) in
    let found = c.in_err-life.ensures.only life is_life both.0 in
    absurd (cc)

pub returns-in_err-call-clause-only : goal.returns-in_err-call-clause-only
returns-in_err-call-clause-only c = λ line life call is name is_life is_call.
    let cut = c.in_ok-line.ensures.some in
    let same = cut_once c.in_ok-line.line.now c.in_ok-line.numbers.now line (spaced (decimal life) (decimal call)) cut.1 name.1 (sym cut.0 ∙ is) in
    let again = c.in_ok-first.ensures.some in
    let both = cut_once c.in_ok-first.first.now c.in_ok-first.second.now (decimal life) (decimal call) again.1 (NoSpace-decimal life (omega (arith, is_life))) (sym again.0 ∙ same.1) in
    let found = c.in_err-call.ensures.only call is_call both.1 in
    absurd (cc)

pub returns-then-is_empty-clause-only : goal.returns-then-is_empty-clause-only
returns-then-is_empty-clause-only c = λ line life call is name is_life is_call.
    let cut = c.in_ok-line.ensures.some in
    let same = cut_once c.in_ok-line.line.now c.in_ok-line.numbers.now line (spaced (decimal life) (decimal call)) cut.1 name.1 (sym cut.0 ∙ is) in
    let long : length c.in_ok-line.line.now ≡ length line = ap length same.0 in
    let some : 0 < length line = name.0 in
    grind (arith, c.if-is_empty.true, c.is_empty.ensures, long, some)

pub returns-else-is_empty-clause-only : goal.returns-else-is_empty-clause-only
returns-else-is_empty-clause-only c = λ line life call is name is_life is_call.
    let cut = c.in_ok-line.ensures.some in
    let same = cut_once c.in_ok-line.line.now c.in_ok-line.numbers.now line (spaced (decimal life) (decimal call)) cut.1 name.1 (sym cut.0 ∙ is) in
    let again = c.in_ok-first.ensures.some in
    let both = cut_once c.in_ok-first.first.now c.in_ok-first.second.now (decimal life) (decimal call) again.1 (NoSpace-decimal life (omega (arith, is_life))) (sym again.0 ∙ same.1) in
    let is_read : Some c.in_ok-life.life ≡ Some life = c.in_ok-life.ensures.only life is_life both.0 in
    let as_old : c.in_ok-life.life ≡ life = cc in
    let is_called : Some c.in_ok-call.call ≡ Some call = c.in_ok-call.ensures.only call is_call both.1 in
    let as_called : c.in_ok-call.call ≡ call = cc in
    (same.0, as_old, as_called)
