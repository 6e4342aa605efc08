-- Runs as they are written.
use Rattle.std.proofs.Common.{◌≡◌, ℕ, zero, suc, ◌+◌, ◌-◌, ◌*◌, ◌/◌, ◌%◌, ◌^◌, ◌<◌, ◌==◌, nat_lt, Bool, true, false, ◌&&◌, List, [], ◌∷◌, ◌++◌, All, Contains, filter, refl, sym, ◌∙◌, ap, ap₂, arith, inl, inr, bit_or, append-nil}
use Rattle.std.proofs.lemmas.Bool.{and_parts, cases_lt, lt-ltb, le-ltb, eqb-true}
use Rattle.std.proofs.lemmas.List.Elements.{All-nil, All-cons, All-head, All-contains_itself, All-same, All-filter, filter_passes}
use Rattle.std.proofs.lemmas.Nat.{shl_below, pow_below, or_shifted}
use Rattle.std.proofs.Math.Nat.{mod-eq_of_lt}
use Rattle.fax_runcodes.specs.declared.Colour.{Colour}
use Rattle.fax_runcodes.specs.declared.Colour.TheVariants.{White, Black}
use Rattle.fax_runcodes.specs.CodeTables.{Word, terminating_words, make_up_words, white_terminating, white_make_up, black_terminating, black_make_up, common_make_up}
use Rattle.fax_runcodes.specs.Spelling.{SpellsRun, text_of, run_of, word_for, written_run}
use Rattle.fax_runcodes.proofs.RunLaws.{run_of-cons}

-- no make-up word stands for a run of none
no_make_up : (colour : Colour) → word_for (make_up_words colour) 0 ≡ []
unfolding white_make_up black_make_up common_make_up
no_make_up White = refl
no_make_up Black = refl

-- below 64 too a run is written as a make-up word, of no bits, and a terminating word
pub written_run-two : (colour : Colour) (run : ℕ) → written_run colour run ≡ word_for (make_up_words colour) (64 * (run / 64)) ++ word_for (terminating_words colour) (run % 64)
unfolding written_run
written_run-two colour run = elim (cases_lt run 64) [
  | inl short ↦
      let test : nat_lt run 64 ≡ true = lt-ltb run 64 short in
      let none : 64 * (run / 64) ≡ 0 = omega arith in
      rw (test, none, no_make_up colour) refl
  | inr long ↦
      let test : nat_lt run 64 ≡ false = le-ltb run 64 long in
      rw test refl
]

-- below 64 a run is written as its terminating word
pub written_run-short : (colour : Colour) (run : ℕ) → run < 64 → written_run colour run ≡ word_for (terminating_words colour) run
unfolding written_run
written_run-short colour run short =
    let test : nat_lt run 64 ≡ true = lt-ltb run 64 short in
    let same : run % 64 ≡ run = omega arith in
    rw (test, same) refl

-- two words as one number
pub then_sum : (a p b q : ℕ) → p + q < 32 → a < 2 ^ p → b < 2 ^ q → bit_or (a * 2 ^ q % 4294967296) b ≡ a * 2 ^ q + b
then_sum a p b q few la lb =
    let small : a * 2 ^ q < 2 ^ (p + q) = shl_below a p q la in
    let wide : 2 ^ (p + q) < 2 ^ 32 = pow_below (p + q) 32 few in
    let whole : a * 2 ^ q % 4294967296 ≡ a * 2 ^ q = mod-eq_of_lt (omega arith) in
    ap (λ m. bit_or m b) whole ∙ or_shifted a q b lb

-- ---- what is written spells the run
abbrev is_single : List Word → Bool
is_single [] = false
is_single (w ∷ []) = true
is_single (w ∷ v ∷ ws) = false

-- one word of a table stands for this run
abbrev has_one : List Word → ℕ → Bool
has_one table run = is_single (filter (λ w. w.run == run) table)

-- each number below n passes a test
abbrev each_below : (ℕ → Bool) → ℕ → Bool
each_below p zero = true
each_below p (suc n) = p n && each_below p n

each_below_at : (p : ℕ → Bool) (n : ℕ) → each_below p n ≡ true → (i : ℕ) → i < n → p i ≡ true
each_below_at p zero h i lt = absurd (omega arith)
each_below_at p (suc n) h i lt = elim (cases_lt i n) [
  | inl below ↦ each_below_at p n (and_parts (p n) (each_below p n) h).1 i below
  | inr top ↦ let same : i ≡ n = omega arith in rw same (and_parts (p n) (each_below p n) h).0
]

one_terminating : (colour : Colour) → each_below (has_one (terminating_words colour)) 64 ≡ true
unfolding white_terminating black_terminating
one_terminating White = refl
one_terminating Black = refl

one_make_up : (colour : Colour) → each_below (λ i. has_one (make_up_words colour) (64 * (i + 1))) 40 ≡ true
unfolding white_make_up black_make_up common_make_up
one_make_up White = refl
one_make_up Black = refl

-- a word of a table that stands for a run, and whose bits are the ones written for it
pub record WordOf (table : List Word) (run : ℕ) : Type 0 where
  pub word : Word
  pub is_word : Contains table word
  pub run_is : word.run ≡ run
  pub text_is : word_for table run ≡ word.word

only_word : (table : List Word) (run : ℕ) (found : List Word) → found ≡ filter (λ w. w.run == run) table → is_single found ≡ true → WordOf table run
only_word table run [] e h = cc
only_word table run (w ∷ v ∷ ws) e h = cc
only_word table run (w ∷ []) e h =
    let inside : All (λ v. Contains table v) (w ∷ []) = All-same (λ v. Contains table v) (w ∷ []) (filter (λ v. v.run == run) table) e (All-filter (λ v. v.run == run) (λ v. Contains table v) table (All-contains_itself table)) in
    let passes : All (λ v. (v.run == run) ≡ true) (w ∷ []) = All-same (λ v. (v.run == run) ≡ true) (w ∷ []) (filter (λ v. v.run == run) table) e (filter_passes (λ v. v.run == run) table) in
    record {
      word = w;
      is_word = All-head (λ v. Contains table v) w [] inside;
      run_is = eqb-true w.run run (All-head (λ v. (v.run == run) ≡ true) w [] passes);
      text_is = ap text_of (sym e) ∙ append-nil w.word;
    }

terminating_of : (colour : Colour) (run : ℕ) → run < 64 → WordOf (terminating_words colour) run
terminating_of colour run lt =
    only_word (terminating_words colour) run (filter (λ w. w.run == run) (terminating_words colour)) refl (each_below_at (has_one (terminating_words colour)) 64 (one_terminating colour) run lt)

make_up_of : (colour : Colour) (i : ℕ) → i < 40 → WordOf (make_up_words colour) (64 * (i + 1))
make_up_of colour i lt =
    only_word (make_up_words colour) (64 * (i + 1)) (filter (λ w. w.run == 64 * (i + 1)) (make_up_words colour)) refl
    (each_below_at (λ i. has_one (make_up_words colour) (64 * (i + 1))) 40 (one_make_up colour) i lt)

-- The bits in which a run is written spell it.
pub written_run_spells : (colour : Colour) (run : ℕ) → run < 2624 → SpellsRun colour (written_run colour run) run
written_run_spells colour run lt =
    let last : WordOf (terminating_words colour) (run % 64) = terminating_of colour (run % 64) (omega arith) in
    let last_run : last.word.run ≡ run % 64 = last.run_is in
    rw (written_run-two colour run) (elim (cases_lt run 64) [
      | inl short ↦
          let none : 64 * (run / 64) ≡ 0 = omega arith in
          record {
            make_up = [];
            last = last.word;
            are_make_up = All-nil _;
            is_terminating = last.is_word;
            text_is = ap₂ (λ (s t : List Bool). s ++ t) (ap (word_for (make_up_words colour)) none ∙ no_make_up colour) last.text_is;
            run_is = omega arith;
          }
      | inr long ↦
          let times : ℕ = run / 64 - 1 in
          let first : WordOf (make_up_words colour) (64 * (times + 1)) = make_up_of colour times (omega arith) in
          let first_run : first.word.run ≡ 64 * (times + 1) = first.run_is in
          let place : 64 * (run / 64) ≡ 64 * (times + 1) = omega arith in
          let sum : run_of (first.word ∷ []) ≡ first.word.run + 0 = run_of-cons first.word [] in
          record {
            make_up = first.word ∷ [];
            last = last.word;
            are_make_up = All-cons (λ w. Contains (make_up_words colour) w) first.word [] first.is_word (All-nil _);
            is_terminating = last.is_word;
            text_is = ap₂ (λ (s t : List Bool). s ++ t) (ap (word_for (make_up_words colour)) place ∙ first.text_is ∙ sym (append-nil first.word.word)) last.text_is;
            run_is = omega arith;
          }
    ])
