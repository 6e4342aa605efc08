-- Lines of ticks.
use Rattle.std.proofs.Common.{◌≡◌, ℕ, suc, ◌+◌, ◌-◌, ◌<◌, ◌≤◌, List, [], ◌∷◌, ◌++◌, refl, sym, ◌∙◌, ap, arith, append-nil, append_assoc}
use Rattle.fax_command.specs.RowLines.{text_of_lines}
use Rattle.fax_capture.specs.Scripts.{tick_line, tick_lines}

at_zero : (from : ℕ) → text_of_lines (tick_lines from 0) ≡ []
unfolding tick_lines
at_zero from = refl

pub no_ticks : (from count : ℕ) → count ≡ 0 → text_of_lines (tick_lines from count) ≡ []
no_ticks from count none = ap (λ (n : ℕ). text_of_lines (tick_lines from n)) none ∙ at_zero from

first_tick : (from count : ℕ) → text_of_lines (tick_lines from (suc count)) ≡ (tick_line from ++ 10 ∷ []) ++ text_of_lines (tick_lines (from + 1) count)
unfolding tick_lines
first_tick from count = refl

-- the first of the ticks up to one, and the others
pub ticks_up_to : (from to : ℕ) → from < to
    → text_of_lines (tick_lines from (to - from)) ≡ (tick_line from ++ 10 ∷ []) ++ text_of_lines (tick_lines (from + 1) (to - (from + 1)))
ticks_up_to from to less =
    let is : to - from ≡ suc (to - (from + 1)) = omega arith in
    ap (λ (n : ℕ). text_of_lines (tick_lines from n)) is ∙ first_tick from (to - (from + 1))

-- after a text
pub text_with_tick : (text : List ℕ) (from to : ℕ) → from < to
    → text ++ text_of_lines (tick_lines from (to - from)) ≡ (text ++ (tick_line from ++ 10 ∷ [])) ++ text_of_lines (tick_lines (from + 1) (to - (from + 1)))
text_with_tick text from to less =
    ap (λ (t : List ℕ). text ++ t) (ticks_up_to from to less) ∙ sym (append_assoc text (tick_line from ++ 10 ∷ []) (text_of_lines (tick_lines (from + 1) (to - (from + 1)))))

pub text_without_ticks : (text : List ℕ) (from to : ℕ) → to ≤ from → text ++ text_of_lines (tick_lines from (to - from)) ≡ text
text_without_ticks text from to less = ap (λ (t : List ℕ). text ++ t) (no_ticks from (to - from) (omega arith)) ∙ append-nil text
