-- Texts of lines.
use Rattle.std.proofs.Common.{◌≡◌, ℕ, List, [], ◌∷◌, ◌++◌, sym, ◌∙◌, ap, ap₂, append-nil, append_assoc}
use Rattle.fax_command.specs.RowLines.{text_of_lines}
use Rattle.fax_command.proofs.TellLemmas.{text_of_lines-append}

-- the text of one line, which is made of words and a text
pub text_of_one : (words text : List ℕ) → text_of_lines ((words ++ text) ∷ []) ≡ words ++ (text ++ 10 ∷ [])
text_of_one words text = append-nil ((words ++ text) ++ 10 ∷ []) ∙ append_assoc words text (10 ∷ [])

-- a text that grows by the text of more lines
pub text_of_more : (lines more : List (List ℕ)) (old new added : List ℕ) → old ≡ text_of_lines lines → new ≡ old ++ added → added ≡ text_of_lines more
    → new ≡ text_of_lines (lines ++ more)
text_of_more lines more old new added was is told = is ∙ ap₂ (λ a b. a ++ b) was told ∙ sym (text_of_lines-append lines more)

-- and one that stays
pub text_of_none : (lines : List (List ℕ)) (text : List ℕ) → text ≡ text_of_lines lines → text ≡ text_of_lines (lines ++ [])
text_of_none lines text is = is ∙ ap text_of_lines (sym (append-nil lines))
