use Rattle.std.proofs.Common.{List, ℕ, false, ◌++◌, ◌∙◌, ap, codes}
use Rattle.std.proofs.lemmas.Fmt.{hex_byte}
use Rattle.fax_descriptions.proofs.words.words_of_field.Goals as goal

pub returns : goal.returns
returns c =
    let text = rw c.laid_out.ensures at (rw c.in_radix.ensures at c.in_ok-format.ensures.ok) in
    text ∙ ap (λ (digits : List ℕ). codes "a frame that is not read: " ++ digits) (hex_byte false c.args.field c.ranges.field.fits)
