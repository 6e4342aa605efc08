-- Laws of the code words, each computed over the tables of T.4.
use Rattle.std.proofs.Common.{◌≡◌, zero, suc, ◌<◌, ◌≤◌, nat_lt, nat_le, Bool, true, false, not, ◌&&◌, List, [], ◌∷◌, ◌++◌, Contains, length, replicate, refl, sym, ◌∙◌, ap, subst, arith, inl, inr}
use Rattle.std.proofs.lemmas.Bool.{and_parts, not-true, ltb-true, leb-true}
use Rattle.std.proofs.lemmas.List.Elements.{Contains-append_cases, Contains-append_left, Contains-append_right}
use Rattle.fax_runcodes.specs.declared.Colour.{Colour}
use Rattle.fax_runcodes.specs.declared.Colour.TheVariants.{White, Black}
use Rattle.fax_runcodes.specs.CodeTables.{Word, code, words, terminating_words, make_up_words, white_terminating, white_make_up, black_terminating, black_make_up, common_make_up}
use Rattle.fax_runcodes.proofs.Fronts.{agree, agree_fronts, agree_comm}

-- each word passes a test
abbrev pub all_words : (Word → Bool) → List Word → Bool
all_words p [] = true
all_words p (w ∷ ws) = p w && all_words p ws

pub all_words_at : (p : Word → Bool) (ws : List Word) → all_words p ws ≡ true → (w : Word) → Contains ws w → p w ≡ true
all_words_at p [] h w (k, lt, e) = absurd (omega arith)
all_words_at p (v ∷ ws) h w (zero, lt, e) = subst (λ x. p x ≡ true) e (and_parts (p v) (all_words p ws) h).0
all_words_at p (v ∷ ws) h w (suc k, lt, e) = all_words_at p ws (and_parts (p v) (all_words p ws) h).1 w (k, omega arith, e)

-- no word agrees with one after it
abbrev pub is_prefix_free : List Word → Bool
is_prefix_free [] = true
is_prefix_free (w ∷ ws) = all_words (λ v. not (agree w.word v.word)) ws && is_prefix_free ws

pub prefix_free_at : (ws : List Word) → is_prefix_free ws ≡ true → (v w : Word) → Contains ws v → Contains ws w → agree v.word w.word ≡ true → v ≡ w
prefix_free_at [] h v w (k, lt, e) q a = absurd (omega arith)
prefix_free_at (u ∷ ws) h v w (zero, lt, e) (zero, lt2, e2) a = sym e ∙ e2
prefix_free_at (u ∷ ws) h v w (zero, lt, e) (suc j, lt2, e2) a =
    let apart : not (agree u.word w.word) ≡ true = all_words_at (λ x. not (agree u.word x.word)) ws (and_parts (all_words (λ x. not (agree u.word x.word)) ws) (is_prefix_free ws) h).0 w (j, omega arith, e2) in
    let no : agree u.word w.word ≡ false = not-true (agree u.word w.word) apart in
    let yes : agree u.word w.word ≡ true = ap (λ (x : Word). agree x.word w.word) e ∙ a in
    cc
prefix_free_at (u ∷ ws) h v w (suc k, lt, e) (zero, lt2, e2) a =
    let apart : not (agree u.word v.word) ≡ true = all_words_at (λ x. not (agree u.word x.word)) ws (and_parts (all_words (λ x. not (agree u.word x.word)) ws) (is_prefix_free ws) h).0 v (k, omega arith, e) in
    let no : agree u.word v.word ≡ false = not-true (agree u.word v.word) apart in
    let yes : agree u.word v.word ≡ true = ap (λ (x : Word). agree x.word v.word) e2 ∙ agree_comm w.word v.word ∙ a in
    cc
prefix_free_at (u ∷ ws) h v w (suc k, lt, e) (suc j, lt2, e2) a =
    prefix_free_at ws (and_parts (all_words (λ x. not (agree u.word x.word)) ws) (is_prefix_free ws) h).1 v w (k, omega arith, e) (j, omega arith, e2) a

-- ---- the tests, computed
prefix_free : (colour : Colour) → is_prefix_free (words colour) ≡ true
unfolding white_terminating white_make_up black_terminating black_make_up common_make_up
prefix_free White = refl
prefix_free Black = refl

has_bits : (colour : Colour) → all_words (λ w. nat_lt 1 (length w.word) && (nat_le (length w.word) 13 && nat_le w.run 2560)) (words colour) ≡ true
unfolding white_terminating white_make_up black_terminating black_make_up common_make_up
has_bits White = refl
has_bits Black = refl

terminating_short : (colour : Colour) → all_words (λ w. nat_lt w.run 64) (terminating_words colour) ≡ true
unfolding white_terminating white_make_up black_terminating black_make_up common_make_up
terminating_short White = refl
terminating_short Black = refl

make_up_long : (colour : Colour) → all_words (λ w. nat_le 64 w.run) (make_up_words colour) ≡ true
unfolding white_terminating white_make_up black_terminating black_make_up common_make_up
make_up_long White = refl
make_up_long Black = refl

not_eight_zeros : (colour : Colour) → all_words (λ w. not (agree w.word (replicate 8 false))) (words colour) ≡ true
unfolding white_terminating white_make_up black_terminating black_make_up common_make_up
not_eight_zeros White = refl
not_eight_zeros Black = refl

-- ---- the laws

-- Of two words of a colour neither begins the other: two that begin the same bits are one.
pub words_prefix_free : (colour : Colour) (v w : Word) (x y : List Bool) → Contains (words colour) v → Contains (words colour) w → v.word ++ x ≡ w.word ++ y → v ≡ w
words_prefix_free colour v w x y p q e = prefix_free_at (words colour) (prefix_free colour) v w p q (agree_fronts v.word w.word x y e)

pub record WordSize (w : Word) : Type 0 where
  pub some : 1 < length w.word
  pub few : length w.word ≤ 13
  pub run : w.run ≤ 2560

pub word_size : (colour : Colour) (w : Word) → Contains (words colour) w → WordSize w
word_size colour w h =
    let t : (nat_lt 1 (length w.word) && (nat_le (length w.word) 13 && nat_le w.run 2560)) ≡ true = all_words_at (λ x. nat_lt 1 (length x.word) && (nat_le (length x.word) 13 && nat_le x.run 2560)) (words colour) (has_bits colour) w h in
    let outer = and_parts (nat_lt 1 (length w.word)) (nat_le (length w.word) 13 && nat_le w.run 2560) t in
    let inner = and_parts (nat_le (length w.word) 13) (nat_le w.run 2560) outer.1 in
    record { some = ltb-true 1 (length w.word) outer.0; few = leb-true (length w.word) 13 inner.0; run = leb-true w.run 2560 inner.1 }

pub terminating_run : (colour : Colour) (w : Word) → Contains (terminating_words colour) w → w.run < 64
terminating_run colour w h = ltb-true w.run 64 (all_words_at (λ x. nat_lt x.run 64) (terminating_words colour) (terminating_short colour) w h)

pub make_up_run : (colour : Colour) (w : Word) → Contains (make_up_words colour) w → 64 ≤ w.run
make_up_run colour w h = leb-true 64 w.run (all_words_at (λ x. nat_le 64 x.run) (make_up_words colour) (make_up_long colour) w h)

pub from_terminating : (colour : Colour) (w : Word) → Contains (terminating_words colour) w → Contains (words colour) w
from_terminating colour w h = Contains-append_left (terminating_words colour) (make_up_words colour) w h

pub from_make_up : (colour : Colour) (w : Word) → Contains (make_up_words colour) w → Contains (words colour) w
from_make_up colour w h = Contains-append_right (terminating_words colour) (make_up_words colour) w h

-- the run of a word tells which table it is of
pub is_terminating : (colour : Colour) (w : Word) → Contains (words colour) w → w.run < 64 → Contains (terminating_words colour) w
is_terminating colour w h lt = elim (Contains-append_cases (terminating_words colour) (make_up_words colour) w h) [
  | inl here ↦ here
  | inr there ↦ let long : 64 ≤ w.run = make_up_run colour w there in absurd (omega arith)
]

pub is_make_up : (colour : Colour) (w : Word) → Contains (words colour) w → 64 ≤ w.run → Contains (make_up_words colour) w
is_make_up colour w h le = elim (Contains-append_cases (terminating_words colour) (make_up_words colour) w h) [
  | inl here ↦ let short : w.run < 64 = terminating_run colour w here in absurd (omega arith)
  | inr there ↦ there
]

-- no word begins bits that begin with eight zeros, nor ends after them
pub eight_zeros : (colour : Colour) (w : Word) (x y : List Bool) → Contains (words colour) w → w.word ++ x ≡ replicate 8 false ++ y → ⊥
eight_zeros colour w x y h e =
    let apart : not (agree w.word (replicate 8 false)) ≡ true = all_words_at (λ v. not (agree v.word (replicate 8 false))) (words colour) (not_eight_zeros colour) w h in
    let no : agree w.word (replicate 8 false) ≡ false = not-true (agree w.word (replicate 8 false)) apart in
    let yes : agree w.word (replicate 8 false) ≡ true = agree_fronts w.word (replicate 8 false) x y e in
    cc

-- fewer than eight zeros end inside a word
pub word_of_seven_zeros : (colour : Colour) → Contains (words colour) (code 1792 "00000001000")
unfolding white_terminating white_make_up black_terminating black_make_up common_make_up
word_of_seven_zeros White = (91, omega arith, refl)
word_of_seven_zeros Black = (91, omega arith, refl)
