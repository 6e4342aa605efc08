-- What the bits of a page begin with: zeros, separators, the front and lines.
use Rattle.std.proofs.Common.{◌≡◌, ℕ, zero, suc, ◌+◌, ◌<◌, ◌≤◌, Bool, true, false, List, [], ◌∷◌, ◌++◌, Option, Some, None, All, Contains, length, take, sum, replicate, refl, sym, ◌∙◌, ap, subst, arith, inl, inr, ◌⊎◌, append_assoc}
use Rattle.std.proofs.lemmas.Bool.{cases_lt}
use Rattle.std.proofs.lemmas.List.{append_cancel_left, take-append-le, take_all}
use Rattle.std.proofs.lemmas.List.Elements.{All-head}
use Rattle.fax_runcodes.specs.declared.Colour.{Colour}
use Rattle.fax_runcodes.specs.declared.Colour.TheVariants.{White, Black}
use Rattle.fax_runcodes.specs.declared.format.Coding.{Coding}
use Rattle.fax_runcodes.specs.declared.format.Coding.TheVariants.{Mh, Mr}
use Rattle.fax_runcodes.specs.CodeTables.{Word, words, make_up_words, white_terminating, white_make_up, black_terminating, black_make_up, common_make_up}
use Rattle.fax_runcodes.specs.Rows.{Elements, IsWidth}
use Rattle.fax_runcodes.specs.Spelling.{SpellsRun, text_of}
use Rattle.fax_runcodes.proofs.WordLaws.{all_words, all_words_at, from_make_up, from_terminating}
use Rattle.fax_mhcode.specs.Lines as mh
use Rattle.fax_mrcode.specs.declared.mode.Mode.{Mode}
use Rattle.fax_mrcode.specs.declared.mode.Mode.TheVariants.{Pass, Horizontal, Vertical}
use Rattle.fax_mrcode.specs.declared.mode.Offset.{Offset}
use Rattle.fax_mrcode.specs.declared.mode.Offset.TheVariants.{Left3, Left2, Left1, Zero, Right1, Right2, Right3}
use Rattle.fax_mrcode.specs.Modes.{mode_word}
use Rattle.fax_mrcode.specs.Lines as mr
use Rattle.fax_mrcode.proofs.LineLaws as mr_laws
use Rattle.fax_pagestore.specs.PageTexts.{IsTag, IsSeparator, InARow, EndsWithEol, IsFront, SpellsRow}
use Rattle.fax_pagestore.specs.PageFaults.{AreZeros, RunsOut, LineBegins, SeparatorBegins}

-- ---- zeros up to a 1

-- How many zeros come before the first 1, and what comes after it, is told by the bits.
pub zeros_one : (a b : ℕ) (x y : List Bool) → replicate a false ++ true ∷ x ≡ replicate b false ++ true ∷ y → (a ≡ b) × (x ≡ y)
zeros_one zero zero x y e = (refl, cc)
zeros_one zero (suc b) x y e = cc
zeros_one (suc a) zero x y e = cc
zeros_one (suc a) (suc b) x y e =
    let tails : replicate a false ++ true ∷ x ≡ replicate b false ++ true ∷ y = cc in
    let more : (a ≡ b) × (x ≡ y) = zeros_one a b x y tails in
    (ap suc more.0, more.1)

-- Bits with a 1 are not only zeros.
pub zeros_not_all : (a n : ℕ) (x : List Bool) → replicate a false ++ true ∷ x ≡ replicate n false → ⊥
zeros_not_all zero zero x e = cc
zeros_not_all zero (suc n) x e = cc
zeros_not_all (suc a) zero x e = cc
zeros_not_all (suc a) (suc n) x e =
    let tails : replicate a false ++ true ∷ x ≡ replicate n false = cc in
    zeros_not_all a n x tails

-- bits are only zeros, or zeros, a 1 and more
pub zeros_or_one : (bits : List Bool) → AreZeros bits ⊎ ((zeros : ℕ) × (rest : List Bool) × (bits ≡ replicate zeros false ++ true ∷ rest))
zeros_or_one [] = inl (0, refl)
zeros_or_one (true ∷ bits) = inr (0, bits, refl)
zeros_or_one (false ∷ bits) = elim (zeros_or_one bits) [
  | inl zeros ↦ inl (suc zeros.0, ap (λ b. false ∷ b) zeros.1)
  | inr one ↦ inr (suc one.0, one.1, ap (λ b. false ∷ b) one.2)
]

-- ---- tags

-- Bits begin with at most one tag.
pub IsTag-one : (coding : Coding) (a b : Bool) (s t x y : List Bool) → IsTag coding a s → IsTag coding b t → s ++ x ≡ t ++ y → (a ≡ b) × (s ≡ t) × (x ≡ y)
IsTag-one Mh a b s t x y (ea, es) (eb, et) e = (ea ∙ sym eb, es ∙ sym et, ap (λ c. c ++ x) (sym es) ∙ e ∙ ap (λ c. c ++ y) et)
IsTag-one Mr a b s t x y es et e =
    let whole : a ∷ x ≡ b ∷ y = ap (λ c. c ++ x) (sym es) ∙ e ∙ ap (λ c. c ++ y) et in
    let tag : a ≡ b = cc in
    let rest : x ≡ y = cc in
    (tag, es ∙ ap (λ (c : Bool). c ∷ []) tag ∙ sym et, rest)

-- ---- separators

-- what follows a separator's zeros
pub separator_bits : (coding : Coding) (tag : Bool) (s x : List Bool) (p : IsSeparator coding tag s) → s ++ x ≡ replicate p.0 false ++ true ∷ (p.1 ++ x)
separator_bits coding tag s x p = ap (λ b. b ++ x) p.4 ∙ append_assoc (replicate p.0 false) (true ∷ p.1) x

-- Bits that begin with a separator's text begin with a separator.
pub SeparatorBegins-from : (coding : Coding) (tag : Bool) (s x : List Bool) → IsSeparator coding tag s → SeparatorBegins coding (s ++ x)
SeparatorBegins-from coding tag s x p = (tag, s, x, p, refl)

-- Bits that begin with a separator begin with at least 11 zeros and a 1.
pub SeparatorBegins-zeros : (coding : Coding) (bits : List Bool) → SeparatorBegins coding bits
    → (zeros : ℕ) × (rest : List Bool) × (11 ≤ zeros) × (bits ≡ replicate zeros false ++ true ∷ rest)
SeparatorBegins-zeros coding bits (tag, s, rest, p, e) = (p.0, p.1 ++ rest, p.2, e ∙ separator_bits coding tag s rest p)

-- Bits begin with at most one separator.
pub IsSeparator-one : (coding : Coding) (a b : Bool) (s t x y : List Bool) → IsSeparator coding a s → IsSeparator coding b t → s ++ x ≡ t ++ y → (a ≡ b) × (s ≡ t) × (x ≡ y)
IsSeparator-one coding a b s t x y p q h =
    let same : (p.0 ≡ q.0) × (p.1 ++ x ≡ q.1 ++ y) =
    zeros_one p.0 q.0 (p.1 ++ x) (q.1 ++ y) (sym (separator_bits coding a s x p) ∙ h ∙ separator_bits coding b t y q) in
    let tags : (a ≡ b) × (p.1 ≡ q.1) × (x ≡ y) = IsTag-one coding a b p.1 q.1 x y p.3 q.3 same.1 in (
      tags.0,
      p.4 ∙ ap (λ n. replicate n false ++ true ∷ p.1) same.0 ∙ ap (λ c. replicate q.0 false ++ true ∷ c) tags.1 ∙ sym q.4,
      tags.2,
    )

-- ---- what follows a separator or a line: a separator, a line, or nothing that is whole

-- a separator's bits are not an EOL without its tag
whole_tag : (coding : Coding) (tag : Bool) (text rest : List Bool) → IsTag coding tag text → text ++ rest ≡ [] → coding ≡ Mr → ⊥
whole_tag Mh tag text rest p e is = cc
whole_tag Mr tag text rest p e is =
    let whole : tag ∷ rest ≡ [] = ap (λ c. c ++ rest) (sym p) ∙ e in
    cc

-- Where a separator begins the bits don't run out.
pub separator_not_runs_out : (coding : Coding) (bits : List Bool) → SeparatorBegins coding bits → RunsOut coding bits → ⊥
separator_not_runs_out coding bits (tag, s, rest, p, e) (inl zeros) = zeros_not_all p.0 zeros.0 (p.1 ++ rest) (sym (e ∙ separator_bits coding tag s rest p) ∙ zeros.1)
separator_not_runs_out coding bits (tag, s, rest, p, e) (inr eol) =
    let same : (p.0 ≡ eol.0) × (p.1 ++ rest ≡ []) = zeros_one p.0 eol.0 (p.1 ++ rest) [] (sym (e ∙ separator_bits coding tag s rest p) ∙ eol.2) in
    whole_tag coding tag p.1 rest p.3 same.1 eol.3

-- Where a line begins the bits don't run out.
pub line_not_runs_out : (coding : Coding) (bits : List Bool) → LineBegins bits → RunsOut coding bits → ⊥
line_not_runs_out coding bits (z, rest, few, e) (inl zeros) = zeros_not_all z zeros.0 rest (sym e ∙ zeros.1)
line_not_runs_out coding bits (z, rest, few, e) (inr eol) =
    let same : (z ≡ eol.0) × (rest ≡ []) = zeros_one z eol.0 rest [] (sym e ∙ eol.2) in
    omega (arith, same.0, eol.1)

-- Where a separator begins no line does.
pub separator_not_line : (coding : Coding) (bits : List Bool) → SeparatorBegins coding bits → LineBegins bits → ⊥
separator_not_line coding bits s (z, rest, few, e) =
    let r : (zeros : ℕ) × (more : List Bool) × (11 ≤ zeros) × (bits ≡ replicate zeros false ++ true ∷ more) = SeparatorBegins-zeros coding bits s in
    let same : (r.0 ≡ z) × (r.1 ≡ rest) = zeros_one r.0 z r.1 rest (sym r.3 ∙ e) in
    omega (arith, same.0, r.2)

-- after at least 11 zeros and a 1
after_eol : (coding : Coding) (zeros : ℕ) (rest bits : List Bool) → 11 ≤ zeros → bits ≡ replicate zeros false ++ true ∷ rest → SeparatorBegins coding bits ⊎ RunsOut coding bits
after_eol Mh zeros rest bits le e =
    inl (true, replicate zeros false ++ true ∷ [], rest, (zeros, [], le, (refl, refl), refl), e ∙ sym (append_assoc (replicate zeros false) (true ∷ []) rest))
after_eol Mr zeros [] bits le e = inr (inr (zeros, le, e, refl))
after_eol Mr zeros (tag ∷ rest) bits le e =
    inl (tag, replicate zeros false ++ true ∷ tag ∷ [], rest, (zeros, tag ∷ [], le, refl, refl), e ∙ sym (append_assoc (replicate zeros false) (true ∷ tag ∷ []) rest))

-- Any bits begin with a separator or as a line does, or run out.
pub what_begins : (coding : Coding) (bits : List Bool) → SeparatorBegins coding bits ⊎ (LineBegins bits ⊎ RunsOut coding bits)
what_begins coding bits = elim (zeros_or_one bits) [
  | inl zeros ↦ inr (inr (inl zeros))
  | inr one ↦ elim (cases_lt one.0 11) [
    | inl few ↦ inr (inl (one.0, one.1, few, one.2))
    | inr enough ↦ elim (after_eol coding one.0 one.1 bits enough one.2) [ inl separator ↦ inl separator | inr out ↦ inr (inr out) ]
  ]
]

-- ---- separators in a row

-- Bits that begin with some separators begin with one.
pub InARow-begins : (coding : Coding) (tag : Bool) (n : ℕ) (s : List Bool) (last : Bool) (x : List Bool) → 0 < n → InARow coding tag n s last → SeparatorBegins coding (s ++ x)
InARow-begins coding tag zero s last x lt p = absurd (omega arith)
InARow-begins coding tag (suc n) s last x lt (is, first, rest, next, e, p, more) =
    (next, first, rest ++ x, p, ap (λ b. b ++ x) e ∙ append_assoc first rest x)

-- where the shorter of two rows of separators ends, its last has tag 1 and one more follows
pub record OneMore (coding : Coding) (m n : ℕ) (last : Bool) (bits : List Bool) : Type 0 where
  pub fewer : m < n
  pub tag : last ≡ true
  pub begins : SeparatorBegins coding bits

-- Of two rows of separators that begin the same bits either both are as many and leave the same, or
-- after the shorter one a separator follows.
pub InARow-meet : (coding : Coding) (tag : Bool) (m n : ℕ) (s t : List Bool) (a b : Bool) (x y : List Bool)
    → InARow coding tag m s a → InARow coding tag n t b → s ++ x ≡ t ++ y
    → ((m ≡ n) × (a ≡ b) × (x ≡ y)) ⊎ (OneMore coding m n a x ⊎ OneMore coding n m b y)
InARow-meet coding tag zero zero s t a b x y p q e = inl (refl, p.1 ∙ sym q.1, ap (λ c. c ++ x) (sym p.0) ∙ e ∙ ap (λ c. c ++ y) q.0)
InARow-meet coding tag zero (suc n) s t a b x y p q e =
    let bits : x ≡ t ++ y = ap (λ c. c ++ x) (sym p.0) ∙ e in
    inr (inl (record {
      fewer = omega arith;
      tag = p.1 ∙ q.0;
      begins = subst (SeparatorBegins coding) (sym bits) (InARow-begins coding tag (suc n) t b y (omega arith) q);
    }))
InARow-meet coding tag (suc m) zero s t a b x y p q e =
    let bits : y ≡ s ++ x = ap (λ c. c ++ y) (sym q.0) ∙ sym e in
    inr (inr (record {
      fewer = omega arith;
      tag = q.1 ∙ p.0;
      begins = subst (SeparatorBegins coding) (sym bits) (InARow-begins coding tag (suc m) s a x (omega arith) p);
    }))
InARow-meet coding tag (suc m) (suc n) s t a b x y (one, f, r, c, es, pf, pr) (also, g, u, d, et, qg, qu) e =
    let whole : f ++ (r ++ x) ≡ g ++ (u ++ y) = sym (append_assoc f r x) ∙ ap (λ k. k ++ x) (sym es) ∙ e ∙ ap (λ k. k ++ y) et ∙ append_assoc g u y in
    let first : (c ≡ d) × (f ≡ g) × (r ++ x ≡ u ++ y) = IsSeparator-one coding c d f g (r ++ x) (u ++ y) pf qg whole in
    elim (InARow-meet coding c m n r u a b x y pr (subst (λ k. InARow coding k n u b) (sym first.0) qu) first.2) [
      | inl same ↦ inl (ap suc same.0, same.1, same.2)
      | inr apart ↦ elim apart [
        | inl less ↦ inr (inl (record { fewer = omega (arith, less.fewer); tag = less.tag; begins = less.begins }))
        | inr more ↦ inr (inr (record { fewer = omega (arith, more.fewer); tag = more.tag; begins = more.begins }))
      ]
    ]

-- ---- the front

-- no shorter front of these bits ends with an EOL
abbrev IsShortest : List Bool → Type 0
IsShortest front = (k : ℕ) → k < length front → EndsWithEol (take k front) → ⊥

-- the shorter of two fronts of the same bits begins the longer
front_inside : (f g x y : List Bool) → length f ≤ length g → f ++ x ≡ g ++ y → take (length f) g ≡ f
front_inside f g x y le e =
    sym (take-append-le (length f) g y le) ∙ ap (take (length f)) (sym e) ∙ take-append-le (length f) f x (omega arith) ∙ take_all (length f) f (omega arith)

front_not_shorter : (f g x y : List Bool) → EndsWithEol f → IsShortest g → f ++ x ≡ g ++ y → length f < length g → ⊥
front_not_shorter f g x y ends shortest e lt = shortest (length f) lt (subst EndsWithEol (sym (front_inside f g x y (omega arith) e)) ends)

-- bits have at most one shortest front that ends with an EOL
front_one : (f g x y : List Bool) → EndsWithEol f → IsShortest f → EndsWithEol g → IsShortest g → f ++ x ≡ g ++ y → f ≡ g
front_one f g x y pe ps qe qs e = elim (cases_lt (length f) (length g)) [
  | inl less ↦ absurd (front_not_shorter f g x y pe qs e less)
  | inr notless ↦ elim (cases_lt (length g) (length f)) [
    | inl less ↦ absurd (front_not_shorter g f y x qe ps (sym e) less)
    | inr same ↦ sym (front_inside f g x y same e) ∙ take_all (length f) g notless
  ]
]

-- Bits have at most one front.
pub IsFront-one : (coding : Coding) (a b : Bool) (f g x y : List Bool) → IsFront coding a f → IsFront coding b g → f ++ x ≡ g ++ y → (a ≡ b) × (f ≡ g) × (x ≡ y)
IsFront-one coding a b f g x y p q e =
    let whole : p.front ++ (p.tag_text ++ x) ≡ q.front ++ (q.tag_text ++ y) =
    sym (append_assoc p.front p.tag_text x) ∙ ap (λ c. c ++ x) (sym p.text_is) ∙ e ∙ ap (λ c. c ++ y) q.text_is ∙ append_assoc q.front q.tag_text y in
    let fronts : p.front ≡ q.front = front_one p.front q.front (p.tag_text ++ x) (q.tag_text ++ y) p.ends p.shortest q.ends q.shortest whole in
    let after : p.tag_text ++ x ≡ q.tag_text ++ y =
    append_cancel_left p.front (p.tag_text ++ x) (q.tag_text ++ y) (whole ∙ ap (λ c. c ++ (q.tag_text ++ y)) (sym fronts)) in
    let tags : (a ≡ b) × (p.tag_text ≡ q.tag_text) × (x ≡ y) = IsTag-one coding a b p.tag_text q.tag_text x y p.is_tag q.is_tag after in
    (tags.0, p.text_is ∙ ap (λ c. c ++ p.tag_text) fronts ∙ ap (λ c. q.front ++ c) tags.1 ∙ sym q.text_is, tags.2)

-- ---- lines

-- a 1 comes after at most so many zeros
abbrev pub few_zeros : ℕ → List Bool → Bool
few_zeros k [] = false
few_zeros k (true ∷ bits) = true
few_zeros zero (false ∷ bits) = false
few_zeros (suc k) (false ∷ bits) = few_zeros k bits

-- what the test says
few_zeros_are : (k : ℕ) (bits : List Bool) → few_zeros k bits ≡ true → (zeros : ℕ) × (rest : List Bool) × (zeros ≤ k) × (bits ≡ replicate zeros false ++ true ∷ rest)
few_zeros_are k [] h = cc
few_zeros_are k (true ∷ bits) h = (0, bits, omega arith, refl)
few_zeros_are zero (false ∷ bits) h = cc
few_zeros_are (suc k) (false ∷ bits) h =
    let r : (zeros : ℕ) × (rest : List Bool) × (zeros ≤ k) × (bits ≡ replicate zeros false ++ true ∷ rest) = few_zeros_are k bits h in
    (suc r.0, r.1, omega (arith, r.2), ap (λ b. false ∷ b) r.3)

-- what begins with bits that pass the test begins as a line does
few_zeros_begin : (word x : List Bool) → few_zeros 7 word ≡ true → LineBegins (word ++ x)
few_zeros_begin word x h =
    let r : (zeros : ℕ) × (rest : List Bool) × (zeros ≤ 7) × (word ≡ replicate zeros false ++ true ∷ rest) = few_zeros_are 7 word h in
    (r.0, r.1 ++ x, omega (arith, r.2), ap (λ b. b ++ x) r.3 ∙ append_assoc (replicate r.0 false) (true ∷ r.1) x)

-- the test, computed over the tables: in each word a 1 comes after at most 7 zeros
words_few_zeros : (colour : Colour) → all_words (λ w. few_zeros 7 w.word) (words colour) ≡ true
unfolding white_terminating white_make_up black_terminating black_make_up common_make_up
words_few_zeros White = refl
words_few_zeros Black = refl

-- Bits that begin with a code word begin as a line does: with fewer than 11 zeros and then a 1.
pub word_begins : (colour : Colour) (w : Word) (x : List Bool) → Contains (words colour) w → LineBegins (w.word ++ x)
word_begins colour w x h =
    few_zeros_begin w.word x (all_words_at (λ v. few_zeros 7 v.word) (words colour) (words_few_zeros colour) w h)

-- so do bits that begin with words
words_begin : (colour : Colour) (make_up : List Word) (last : Word) (bits x : List Bool) → All (λ w. Contains (make_up_words colour) w) make_up
    → Contains (words colour) last → bits ≡ text_of make_up ++ (last.word ++ x) → LineBegins bits
words_begin colour [] last bits x p q e = subst LineBegins (sym e) (word_begins colour last x q)
words_begin colour (w ∷ ws) last bits x p q e =
    subst LineBegins (sym (e ∙ append_assoc w.word (text_of ws) (last.word ++ x)))
    (word_begins colour w (text_of ws ++ (last.word ++ x)) (from_make_up colour w (All-head (λ u. Contains (make_up_words colour) u) w ws p)))

-- Bits that begin with a run's text begin as a line does.
pub run_begins : (colour : Colour) (text x : List Bool) (n : ℕ) → SpellsRun colour text n → LineBegins (text ++ x)
run_begins colour text x n p =
    words_begin colour p.make_up p.last (text ++ x) x p.are_make_up (from_terminating colour p.last p.is_terminating)
    (ap (λ b. b ++ x) p.text_is ∙ append_assoc (text_of p.make_up) p.last.word x)

-- so do bits that begin with runs, where there is one
runs_begin : (runs : List ℕ) (text x : List Bool) → mh.SpellsRuns White text runs → 0 < sum runs → LineBegins (text ++ x)
runs_begin [] text x p lt = absurd (omega arith)
runs_begin (run ∷ runs) text x (first, rest, e, p, more) lt =
    subst LineBegins (sym (ap (λ b. b ++ x) e ∙ append_assoc first rest x)) (run_begins White first (rest ++ x) run p)

-- bits that begin with a one-dimensional line
one_dimensional_begins : (width : ℕ) (text x : List Bool) (row : Elements) → 0 < width → mh.SpellsLine width text row → LineBegins (text ++ x)
one_dimensional_begins width text x row lt p = runs_begin p.runs text x p.spelt (omega (arith, p.whole))

-- in the word of each mode a 1 comes after at most 7 zeros
offset_few_zeros : (offset : Offset) → few_zeros 7 (mode_word (Vertical offset)) ≡ true
offset_few_zeros Zero = refl
offset_few_zeros Right1 = refl
offset_few_zeros Right2 = refl
offset_few_zeros Right3 = refl
offset_few_zeros Left1 = refl
offset_few_zeros Left2 = refl
offset_few_zeros Left3 = refl

mode_few_zeros : (mode : Mode) → few_zeros 7 (mode_word mode) ≡ true
mode_few_zeros Pass = refl
mode_few_zeros Horizontal = refl
mode_few_zeros (Vertical offset) = offset_few_zeros offset

-- Bits that begin with the word of a mode begin as a line does.
pub mode_begins : (mode : Mode) (x : List Bool) → LineBegins (mode_word mode ++ x)
mode_begins mode x = few_zeros_begin (mode_word mode) x (mode_few_zeros mode)

-- so do bits that begin with steps, where there is one
steps_begin : (reference row : Elements) (modes : List Mode) (text x : List Bool) (end : ℕ) → 0 < end → mr.Steps reference row 0 modes text end → LineBegins (text ++ x)
steps_begin reference row [] text x end lt (e, at) = absurd (omega arith)
steps_begin reference row (mode ∷ modes) text x end lt (le, step, rest, next, e, taken, more) =
    subst LineBegins (mr_laws.front mode step rest x ∙ ap (λ b. b ++ x) (sym e)) (mode_begins mode ((step ++ rest) ++ x))

-- bits that begin with a two-dimensional line
two_dimensional_begins : (reference : Elements) (text x : List Bool) (row : Elements) → mr.SpellsLine reference text row → LineBegins (text ++ x)
two_dimensional_begins reference text x row p = steps_begin reference row p.modes text x (length row + 1) (omega arith) p.steps

-- Bits that begin with the line of a row begin as a line does.
pub SpellsRow-begins : (width : ℕ) (tag : Bool) (before : Option Elements) (text x : List Bool) (row : Elements) → 0 < width → SpellsRow width tag before text row → LineBegins (text ++ x)
SpellsRow-begins width true before text x row lt p = one_dimensional_begins width text x row lt p
SpellsRow-begins width false (Some reference) text x row lt p = two_dimensional_begins reference text x row p
SpellsRow-begins width false None text x row lt p = absurd p

-- ---- widths: each is more than 0, and none is more than 2432

pub width_some : (width : ℕ) → IsWidth width → 0 < width
width_some width h = omega arith

pub width_most : (width : ℕ) → IsWidth width → width ≤ 2432
width_most width h = omega arith
