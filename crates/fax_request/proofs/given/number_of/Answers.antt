use Rattle.std.proofs.Common.{◌≡◌, ◌∙◌, ◌<◌, ◌≤◌, ℕ, List, Option, Some, None, arith, sym}
use Rattle.std.specs.Str.Parse.{ParsesUnsigned, ExplainsUnsignedError, HasUnsignedDigitsIfOk}
use Rattle.clap.specs.Words.{found_of, one_of, rows_of}
use Rattle.clap.proofs.WalkLemmas.{one_text-rows}
use Rattle.fax_request.proofs.NumberLemmas.{number_within, read_one, some_is, usual_else, none_is}
use Rattle.fax_request.proofs.given.number_of.Goals as goal
use Rattle.fax_request.proofs.given.number_of.Goals.{else-least-number-via-then-least-number+else-number-most, else-least-number-via-else-least-number}

-- no number was read
pub returns-in_default : goal.returns-in_default
returns-in_default c =
    let same = one_text-rows (found_of c.args.given.now) c.args.option.now in
    usual_else (one_of c.args.option.now (rows_of (found_of c.args.given.now))) None c.args.least c.args.most c.args.usual
    (record {
      said = λ digits e numeral fits. read_one (λ bs r. ParsesUnsigned 64 10 bs r × ExplainsUnsignedError 10 bs r × HasUnsignedDigitsIfOk bs r)
          (λ u r g. g.0) digits None (c.in_default.ensures.value digits (same ∙ e)) numeral fits;
      unsaid = λ e. c.in_default.ensures.none (same ∙ e);
    })
    (λ v e low high. absurd (none_is v (sym e))) c.requires.least c.requires.most c.ranges.most.fits

-- the number that was read lies within its limits
pub returns-then-number-most : goal.returns-then-number-most
returns-then-number-most c =
    let same = one_text-rows (found_of c.args.given.now) c.args.option.now in
    number_within (one_of c.args.option.now (rows_of (found_of c.args.given.now))) c.args.least c.args.most c.args.usual c.in-Some.number
    (record {
      said = λ digits e numeral fits. read_one (λ bs r. ParsesUnsigned 64 10 bs r × ExplainsUnsignedError 10 bs r × HasUnsignedDigitsIfOk bs r)
          (λ u r g. g.0) digits (Some c.in-Some.number) (c.in-Some.ensures.value digits (same ∙ e)) numeral fits;
      unsaid = λ e. c.in-Some.ensures.none (same ∙ e);
    })
    (omega (arith, c.if-least-number.true)) (omega (arith, c.if-number-most.true)) c.ranges.most.fits

-- it lies outside of them
pub returns-else-least-number : goal.returns-else-least-number
returns-else-least-number c =
    let same = one_text-rows (found_of c.args.given.now) c.args.option.now in
    usual_else (one_of c.args.option.now (rows_of (found_of c.args.given.now))) (Some c.in-Some.number) c.args.least c.args.most c.args.usual
    (record {
      said = λ digits e numeral fits. read_one (λ bs r. ParsesUnsigned 64 10 bs r × ExplainsUnsignedError 10 bs r × HasUnsignedDigitsIfOk bs r)
          (λ u r g. g.0) digits (Some c.in-Some.number) (c.in-Some.ensures.value digits (same ∙ e)) numeral fits;
      unsaid = λ e. c.in-Some.ensures.none (same ∙ e);
    })
    (λ v e low high.
    let is : c.in-Some.number ≡ v = some_is _ _ e in
    elim c.else-least-number.branch [
      | else-least-number-via-then-least-number+else-number-most w ↦ let above : c.args.most < c.in-Some.number = omega (arith, w.if-number-most.false) in omega (arith, is, above, high)
      | else-least-number-via-else-least-number w ↦ let below : c.in-Some.number < c.args.least = omega (arith, w.if-least-number.false) in omega (arith, is, below, low)
    ]) c.requires.least c.requires.most c.ranges.most.fits
