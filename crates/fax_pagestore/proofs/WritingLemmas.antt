-- Texts of pages as they grow while they are written.
use Rattle.std.proofs.Common.{◌≡◌, ℕ, zero, suc, ◌+◌, ◌-◌, ◌≤◌, Bool, true, false, List, [], ◌∷◌, ◌++◌, length, replicate, refl, sym, ◌∙◌, ap, arith, append_assoc, append-nil, length-append, add-one}
use Rattle.std.specs.Int.{from_bool}
use Rattle.fax_bits.specs.Bits.{bit, word_bits}
use Rattle.fax_runcodes.specs.declared.format.Coding.{Coding}
use Rattle.fax_runcodes.specs.declared.format.Coding.TheVariants.{Mh, Mr}
use Rattle.fax_pagestore.specs.PageTexts.{end_of_line}
use Rattle.fax_pagestore.specs.WrittenPages.{tag_bits, ends_of_line, fill}

-- ---- an EOL and its tag

-- EOL is the number 1 in 12 bits.
end_of_line-word : word_bits 12 1 ≡ end_of_line
unfolding word_bits bit end_of_line
end_of_line-word = refl

-- EOL and a tag are the number 2 or 3 in 13 bits.
tagged-word : (tag : Bool) → word_bits 13 (2 + from_bool tag) ≡ end_of_line ++ (tag ∷ [])
unfolding word_bits bit end_of_line
tagged-word true = refl
tagged-word false = refl

-- An EOL was put in one-dimensional coding.
pub end_written-Mh : (coding : Coding) (tag : Bool) (old new : List Bool) → coding ≡ Mh → new ≡ old ++ word_bits 12 1
    → new ≡ old ++ (end_of_line ++ tag_bits coding tag)
end_written-Mh coding tag old new is e =
    e ∙ ap (λ b. old ++ b) (end_of_line-word ∙ sym (append-nil end_of_line) ∙ ap (λ k. end_of_line ++ tag_bits k tag) (sym is))

-- An EOL and its tag were put in two-dimensional coding.
pub end_written-Mr : (coding : Coding) (tag : Bool) (n : ℕ) (old new : List Bool) → coding ≡ Mr → n ≡ from_bool tag → new ≡ old ++ word_bits 13 (2 + n)
    → new ≡ old ++ (end_of_line ++ tag_bits coding tag)
end_written-Mr coding tag n old new is t e =
    e ∙ ap (λ b. old ++ b) (ap (λ m. word_bits 13 (2 + m)) t ∙ tagged-word tag ∙ ap (λ k. end_of_line ++ tag_bits k tag) (sym is))

-- ---- EOL in a row

-- no EOL
pub ends_of_line-none : (coding : Coding) (bits : List Bool) → bits ≡ bits ++ ends_of_line coding 0
unfolding ends_of_line
ends_of_line-none coding bits = sym (append-nil bits)

-- One more EOL may stand at the head or at the end.
ends_of_line-push : (coding : Coding) (n : ℕ) → ends_of_line coding (suc n) ≡ ends_of_line coding n ++ (end_of_line ++ tag_bits coding true)
unfolding ends_of_line
ends_of_line-push coding zero = ap (λ b. end_of_line ++ b) (append-nil (tag_bits coding true))
ends_of_line-push coding (suc n) =
    ap (λ b. end_of_line ++ (tag_bits coding true ++ b)) (ends_of_line-push coding n)
    ∙ ap (λ b. end_of_line ++ b) (sym (append_assoc (tag_bits coding true) (ends_of_line coding n) (end_of_line ++ tag_bits coding true)))
    ∙ sym (append_assoc end_of_line (tag_bits coding true ++ ends_of_line coding n) (end_of_line ++ tag_bits coding true))

-- One more EOL after some that were put after other bits.
pub ends_of_line-more : (coding : Coding) (n : ℕ) (old now new : List Bool) → now ≡ old ++ ends_of_line coding n
    → new ≡ now ++ (end_of_line ++ tag_bits coding true) → new ≡ old ++ ends_of_line coding (n + 1)
ends_of_line-more coding n old now new e more =
    more ∙ ap (λ b. b ++ (end_of_line ++ tag_bits coding true)) e ∙ append_assoc old (ends_of_line coding n) (end_of_line ++ tag_bits coding true)
    ∙ ap (λ b. old ++ b) (sym (ends_of_line-push coding n)) ∙ ap (λ m. old ++ ends_of_line coding m) (sym (add-one n))

-- ---- a line and its fill

-- So many zeros are the fill, by the bits that are held before and after the line.
fill-zeros : (least before after zeros : ℕ) (old line new : List Bool) → before ≡ length old → new ≡ old ++ line → after ≡ length new
    → zeros ≡ least - (after - before + 12) → replicate zeros false ≡ fill least line
unfolding fill end_of_line
fill-zeros least before after zeros old line new is e are f =
    let size : length new ≡ length old + length line = ap length e ∙ length-append old line in
    let same : zeros ≡ least - (length line + 12) = omega arith in
    ap (λ n. replicate n false) same

-- There is no fill where an EOL has the least bits by itself.
pub no_fill : (least : ℕ) (old line new : List Bool) → least ≤ 12 → new ≡ old ++ line → new ≡ old ++ (line ++ fill least line)
unfolding fill end_of_line
no_fill least old line new few e =
    let none : least - (length line + 12) ≡ 0 = omega arith in
    e ∙ ap (λ b. old ++ b) (sym (append-nil line) ∙ ap (λ n. line ++ replicate n false) (sym none))

-- A line and its fill, put one after the other.
pub filled_line : (least before after zeros : ℕ) (old line lined new : List Bool) → before ≡ length old → lined ≡ old ++ line → after ≡ length lined
    → zeros ≡ least - (after - before + 12) → new ≡ lined ++ replicate zeros false → new ≡ old ++ (line ++ fill least line)
filled_line least before after zeros old line lined new is e are n f =
    f ∙ ap (λ b. lined ++ b) (fill-zeros least before after zeros old line lined is e are n) ∙ ap (λ b. b ++ fill least line) e
    ∙ append_assoc old line (fill least line)
