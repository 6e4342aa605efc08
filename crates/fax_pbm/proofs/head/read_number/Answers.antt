use Rattle.std.proofs.Common.{ℕ, List, Ok, Result, sym, ◌∙◌, ap, ap₂}
use Rattle.std.proofs.lemmas.Bool.{cond-false, cond-true}
use Rattle.fax_pbm.specs.declared.fault.PbmFault.{PbmFault}
use Rattle.fax_pbm.specs.Pictures.{Number, number_at, number_of}
use Rattle.fax_pbm.proofs.head.read_number.Goals as goal

abbrev made : ℕ → List ℕ → Result Number PbmFault
made value after = Ok (record { value = value; after = after })

pub returns-then-begins_with_digit : goal.returns-then-begins_with_digit
unfolding number_of
returns-then-begins_with_digit c =
    ap number_at (sym c.skip_blanks-digits.ensures)
    ∙ cond-true _ _ _ (sym c.begins_with_digit.ensures ∙ c.if-begins_with_digit.true)
    ∙ ap₂ made (sym c.read_digits.ensures.value) (sym c.read_digits.ensures.after)

pub returns-else-begins_with_digit : goal.returns-else-begins_with_digit
unfolding number_of
returns-else-begins_with_digit c =
    ap number_at (sym c.skip_blanks-digits.ensures)
    ∙ cond-false _ _ _ (sym c.begins_with_digit.ensures ∙ c.if-begins_with_digit.false)
