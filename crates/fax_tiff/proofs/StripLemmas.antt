-- The strip of a page's text.
use Rattle.std.proofs.Common.{◌≡◌, ℕ, ◌+◌, ◌-◌, ◌*◌, ◌%◌, ◌<◌, ◌≤◌, ◌==◌, Bool, true, false, if◌then◌else◌, List, [], ◌∷◌, ◌++◌, length, take, replicate, Option, Some, None, refl, sym, ◌∙◌, ap, subst, arith, append_assoc, length-append}
use Rattle.std.proofs.lemmas.List.{append-nil, take_at, replicate-append-replicate, length-replicate}
use Rattle.fax_bits.specs.Bits.{bit, bits_of, word_bits}
use Rattle.fax_bits.specs.Writing.{IsPadded}
use Rattle.fax_bits.proofs.BitsLemmas.{bits_of-append, length-bits_of, take-bits_of}
use Rattle.fax_runcodes.specs.declared.format.Coding.TheVariants.{Mh}
use Rattle.fax_runcodes.specs.Rows.{Elements}
use Rattle.fax_pagestore.specs.Pages.{PageValue}
use Rattle.fax_pagestore.specs.PageTexts.{end_of_line}
use Rattle.fax_pagestore.specs.WrittenPages.{WritesPage, WritesRows, ends_of_line, fill}
use Rattle.fax_tiff.specs.Strips.{IsStripOf, strip_in}

-- ---- the lines before a return to control

-- The lines of rows end with an EOL.
rows_end : (fine : Bool) (least index : ℕ) (before : Option Elements) (row : Elements) (rows : List Elements) (text : List Bool)
    → WritesRows Mh fine least index before (row ∷ rows) text → (front : List Bool) × (text ≡ front ++ end_of_line)
rows_end fine least index before row [] text (line, rest, writes, e, none) = (
  line ++ fill least line,
  e ∙ ap (λ r. line ++ (fill least line ++ (end_of_line ++ r))) none ∙ ap (λ r. line ++ (fill least line ++ r)) (append-nil end_of_line)
      ∙ sym (append_assoc line (fill least line) end_of_line),
)
rows_end fine least index before row (next ∷ rows) text (line, rest, writes, e, more) =
    let ends = rows_end fine least (index + 1) (Some row) next rows rest more in (
      line ++ (fill least line ++ (end_of_line ++ ends.0)),
      e ∙ ap (λ r. line ++ (fill least line ++ (end_of_line ++ r))) ends.1
          ∙ ap (λ r. line ++ (fill least line ++ r)) (sym (append_assoc end_of_line ends.0 end_of_line))
          ∙ ap (λ r. line ++ r) (sym (append_assoc (fill least line) (end_of_line ++ ends.0) end_of_line))
          ∙ sym (append_assoc line (fill least line ++ (end_of_line ++ ends.0)) end_of_line),
    )

six_ends : ends_of_line Mh 6 ≡ end_of_line ++ ends_of_line Mh 5
unfolding ends_of_line
six_ends = refl

-- The text of a page is its lines, an EOL before each, and six EOLs.
page_ends : (fine : Bool) (least : ℕ) (rows : List Elements) (text : List Bool) → 0 < length rows → WritesPage Mh fine least rows text
    → (lines : List Bool) × (text ≡ lines ++ ends_of_line Mh 6)
page_ends fine least [] text some written = absurd (omega arith)
page_ends fine least (row ∷ rows) text some (lines, w, e) =
    let ends = rows_end fine least 0 None row rows lines w in (
      end_of_line ++ ends.0,
      e ∙ ap (λ l. end_of_line ++ (l ++ ends_of_line Mh 5)) ends.1
          ∙ ap (λ l. end_of_line ++ l) (append_assoc ends.0 end_of_line (ends_of_line Mh 5))
          ∙ ap (λ l. end_of_line ++ (ends.0 ++ l)) (sym six_ends)
          ∙ sym (append_assoc end_of_line ends.0 (ends_of_line Mh 6)),
    )

-- ---- octets

size_of_ends : length (ends_of_line Mh 6) ≡ 72
unfolding ends_of_line end_of_line
size_of_ends = refl

-- six EOLs begin with eleven zeros
eleven_zeros : ends_of_line Mh 6 ≡ replicate 11 false ++ (true ∷ ends_of_line Mh 5)
unfolding ends_of_line end_of_line
eleven_zeros = refl

ends_begin : (z : ℕ) → z < 8 → ends_of_line Mh 6 ≡ replicate z false ++ (replicate (11 - z) false ++ (true ∷ ends_of_line Mh 5))
ends_begin z few =
    let all : z + (11 - z) ≡ 11 = omega arith in
    eleven_zeros ∙ ap (λ (n : ℕ). replicate n false ++ (true ∷ ends_of_line Mh 5)) (sym all)
    ∙ ap (λ (l : List Bool). l ++ (true ∷ ends_of_line Mh 5)) (sym (replicate-append-replicate z (11 - z) false))
    ∙ append_assoc (replicate z false) (replicate (11 - z) false) (true ∷ ends_of_line Mh 5)

sizes : (lines : List Bool) (z : ℕ) (octets : List ℕ) → bits_of octets ≡ (lines ++ ends_of_line Mh 6) ++ replicate z false → 8 * length octets ≡ (length lines + 72) + z
sizes lines z octets e =
    sym (length-bits_of octets) ∙ ap length e ∙ length-append (lines ++ ends_of_line Mh 6) (replicate z false)
    ∙ ap (λ (n : ℕ). n + length (replicate z false)) (length-append lines (ends_of_line Mh 6) ∙ ap (λ (n : ℕ). length lines + n) size_of_ends)
    ∙ ap (λ (n : ℕ). (length lines + 72) + n) (length-replicate z false)

-- Such octets have the nine of a return to control.
pub nine : (lines : List Bool) (z : ℕ) (octets : List ℕ) → bits_of octets ≡ (lines ++ ends_of_line Mh 6) ++ replicate z false → 9 ≤ length octets
nine lines z octets e = omega (arith, sizes lines z octets e)

split_bits : (lines : List Bool) (z : ℕ) → z < 8 → (lines ++ ends_of_line Mh 6) ++ replicate z false
    ≡ (lines ++ replicate z false) ++ ((replicate (11 - z) false ++ (true ∷ ends_of_line Mh 5)) ++ replicate z false)
split_bits lines z few =
    ap (λ (l : List Bool). (lines ++ l) ++ replicate z false) (ends_begin z few)
    ∙ ap (λ (l : List Bool). l ++ replicate z false) (sym (append_assoc lines (replicate z false) (replicate (11 - z) false ++ (true ∷ ends_of_line Mh 5))))
    ∙ append_assoc (lines ++ replicate z false) (replicate (11 - z) false ++ (true ∷ ends_of_line Mh 5)) (replicate z false)

-- Without these nine they have the lines, and as many zeros after them.
without_return : (lines : List Bool) (z : ℕ) (octets : List ℕ) → z < 8 → bits_of octets ≡ (lines ++ ends_of_line Mh 6) ++ replicate z false
    → bits_of (take (length octets - 9) octets) ≡ lines ++ replicate z false
without_return lines z octets few e =
    let size : 8 * length octets ≡ (length lines + 72) + z = sizes lines z octets e in
    let within : length octets - 9 ≤ length octets = omega arith in
    let front : length (lines ++ replicate z false) ≡ 8 * (length octets - 9) = length-append lines (replicate z false) ∙ ap (λ (n : ℕ). length lines + n) (length-replicate z false) ∙ omega arith in
    sym (take-bits_of (length octets - 9) octets within)
    ∙ ap (λ (b : List Bool). take (8 * (length octets - 9)) b) (e ∙ split_bits lines z few)
    ∙ take_at (lines ++ replicate z false) ((replicate (11 - z) false ++ (true ∷ ends_of_line Mh 5)) ++ replicate z false) (8 * (length octets - 9)) front

zero_octet : bits_of (0 ∷ []) ≡ replicate 8 false
unfolding bits_of word_bits bit
zero_octet = refl

-- octets made even in number, which have lines and zeros after them
record IsEven (lines : List Bool) (octets : List ℕ) : Type 0 where
  zeros : ℕ
  few : zeros < 16
  bits_are : bits_of octets ≡ lines ++ replicate zeros false
  even : length octets % 2 ≡ 0

evened : (b : Bool) (lines : List Bool) (z : ℕ) (octets : List ℕ) → (length octets % 2 == 1) ≡ b → z < 8 → bits_of octets ≡ lines ++ replicate z false
    → IsEven lines (if b then octets ++ 0 ∷ [] else octets)
evened true lines z octets odd few e = record {
  zeros = z + 8;
  few = omega arith;
  bits_are = bits_of-append octets (0 ∷ []) ∙ ap (λ (l : List Bool). l ++ bits_of (0 ∷ [])) e ∙ ap (λ (l : List Bool). (lines ++ replicate z false) ++ l) zero_octet
      ∙ append_assoc lines (replicate z false) (replicate 8 false) ∙ ap (λ (l : List Bool). lines ++ l) (replicate-append-replicate z 8 false);
  even = grind (arith, odd, length-append octets (0 ∷ []));
}
evened false lines z octets odd few e = record { zeros = z; few = omega arith; bits_are = e; even = grind (arith, odd) }

strip_of_text : (page : PageValue) (text lines : List Bool) (z : ℕ) (octets : List ℕ) → WritesPage Mh page.format.fine 0 page.rows text → text ≡ lines ++ ends_of_line Mh 6
    → z < 8 → bits_of octets ≡ text ++ replicate z false → IsStripOf page (strip_in octets)
unfolding strip_in
strip_of_text page text lines z octets written e few bits =
    let b : bits_of octets ≡ (lines ++ ends_of_line Mh 6) ++ replicate z false = bits ∙ ap (λ (l : List Bool). l ++ replicate z false) e in
    let even = evened (length (take (length octets - 9) octets) % 2 == 1) lines z (take (length octets - 9) octets) refl few (without_return lines z octets few b) in
    record {
      lines = lines;
      zeros = even.zeros;
      written = subst (WritesPage Mh page.format.fine 0 page.rows) e written;
      bits_are = even.bits_are;
      few = even.few;
      even = even.even;
    }

-- The octets of a page's written text have the page's strip.
pub text_has_strip : (page : PageValue) (octets : List ℕ) → 0 < length page.rows → (text : List Bool) × WritesPage Mh page.format.fine 0 page.rows text × IsPadded octets text
    → IsStripOf page (strip_in octets)
text_has_strip page octets some (text, written, padded) =
    let ends = page_ends page.format.fine 0 page.rows text some written in
    strip_of_text page text ends.0 padded.0 octets written ends.1 padded.1 padded.2

pub text_has_nine : (page : PageValue) (octets : List ℕ) → 0 < length page.rows → (text : List Bool) × WritesPage Mh page.format.fine 0 page.rows text × IsPadded octets text
    → 9 ≤ length octets
text_has_nine page octets some (text, written, padded) =
    let ends = page_ends page.format.fine 0 page.rows text some written in
    nine ends.0 padded.0 octets (padded.2 ∙ ap (λ (l : List Bool). l ++ replicate padded.0 false) ends.1)
