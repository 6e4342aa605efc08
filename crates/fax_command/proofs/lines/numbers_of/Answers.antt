use Rattle.std.proofs.Common.{◌≡◌, ◌<◌, ℕ, List, length, get_or, rules, tests, arith, ◌∙◌, subst}
use Rattle.std.proofs.Math.Dec.{eqb}
use Rattle.std.proofs.lemmas.Iterator.Consumers.{YieldsList-at, YieldsList-end, YieldsList-turn}
use Rattle.std.proofs.lemmas.Iterator.Splits.{YieldsList-from_slice_split}
use Rattle.std.proofs.lemmas.List.Elements.{recursion_from_All}
use Rattle.fax_command.proofs.RowLineLemmas.{line_of_parts, parts_of_line, same_numbers, short_by_sum, number_at}
use Rattle.fax_command.proofs.lines.numbers_of.Goals as goal

pub returns-clause-some : goal.returns-clause-some
returns-clause-some c =
    let seen = YieldsList-end
    (YieldsList-at c.into_iter-part-iterator.ensures.into_iter_gives
    (YieldsList-from_slice_split _ (λ b. eqb b 32) c.args.line.now c.split-part-items.ensures.rest c.split-part-items.ensures.done c.split-part-items.ensures.closure (λ x r q k. search (rules, tests))))
    c.loop-part.yielded _ c.loop-part.yielded_by _ _ c.in-None.is c.next.ensures.steps in
    line_of_parts c.args.line.now c.loop-part.numbers.items (c.loop-part.invariant.2 ∙ seen.0)

pub returns-clause-only : goal.returns-clause-only
returns-clause-only c = λ numbers some few is.
    let seen = YieldsList-end
    (YieldsList-at c.into_iter-part-iterator.ensures.into_iter_gives
    (YieldsList-from_slice_split _ (λ b. eqb b 32) c.args.line.now c.split-part-items.ensures.rest c.split-part-items.ensures.done c.split-part-items.ensures.closure (λ x r q k. search (rules, tests))))
    c.loop-part.yielded _ c.loop-part.yielded_by _ _ c.in-None.is c.next.ensures.steps in
    same_numbers c.loop-part.numbers.items numbers (recursion_from_All _ _ c.loop-part.invariant.3) (short_by_sum numbers (omega arith))
    (c.loop-part.invariant.2 ∙ seen.0 ∙ parts_of_line c.args.line.now numbers (omega arith) (omega arith) is)

pub returns-in_default-clause-only : goal.returns-in_default-clause-only
returns-in_default-clause-only c = λ numbers some few is.
    let here = YieldsList-turn
    (YieldsList-at c.into_iter-part-iterator.ensures.into_iter_gives
    (YieldsList-from_slice_split _ (λ b. eqb b 32) c.args.line.now c.split-part-items.ensures.rest c.split-part-items.ensures.done c.split-part-items.ensures.closure (λ x r q k. search (rules, tests))))
    c.loop-part.yielded _ c.loop-part.yielded_by _ _ c.in-Some.part c.in-Some.is c.next.ensures.steps in
    let part = c.in-Some.part.now in
    let P = λ (parts : List (List ℕ)). (length c.loop-part.yielded < length parts) × (part ≡ get_or parts (length c.loop-part.yielded) part) in
    let at = subst P (parts_of_line c.args.line.now numbers (omega arith) (omega arith) is) here in
    let found = number_at numbers (length c.loop-part.yielded) part (short_by_sum numbers (omega arith)) at.0 at.1 in
    c.in_default.ensures.none found.0 found.1 found.2
