-- A run that is being read: make-up words so far.
use Rattle.std.proofs.Common.{◌≡◌, ℕ, ◌+◌, ◌<◌, ◌≤◌, Bool, List, [], ◌∷◌, ◌++◌, All, Contains, refl, sym, ◌∙◌, ap, subst, arith, append-nil, zero-add}
use Rattle.std.proofs.lemmas.List.Concat.{flat_map-append}
use Rattle.std.proofs.lemmas.List.Sums.{sum_by-append}
use Rattle.std.proofs.lemmas.List.Elements.{All-nil, All-push}
use Rattle.fax_bits.specs.Reading.{Place, Passes}
use Rattle.fax_bits.proofs.ReadingLemmas.{Passes-none, Passes-then}
use Rattle.fax_runcodes.specs.declared.Colour.{Colour}
use Rattle.fax_runcodes.specs.CodeTables.{Word, words, make_up_words, terminating_words}
use Rattle.fax_runcodes.specs.Spelling.{SpellsRun, text_of, run_of}
use Rattle.fax_runcodes.specs.RunFaults.{Stops, FailsRun, longest_run}
use Rattle.fax_runcodes.specs.declared.fault.RunFault.{RunFault}
use Rattle.fax_runcodes.specs.declared.fault.RunFault.TheVariants.{TooLong}

-- from old to new make-up words were passed, which add to this run length
pub record RunSoFar (colour : Colour) (old new : Place) (run : ℕ) : Type 0 where
  pub make_up : List Word
  pub are_make_up : All (λ w. Contains (make_up_words colour) w) make_up
  pub passes : Passes old new (text_of make_up)
  pub run_is : run ≡ run_of make_up
  pub within : run ≤ longest_run

pub text_of-push : (ws : List Word) (w : Word) → text_of (ws ++ w ∷ []) ≡ text_of ws ++ w.word
text_of-push ws w = flat_map-append (λ (v : Word). v.word) ws (w ∷ []) ∙ ap (λ t. text_of ws ++ t) (append-nil w.word)

pub run_of-push : (ws : List Word) (w : Word) → run_of (ws ++ w ∷ []) ≡ run_of ws + w.run
run_of-push ws w = sum_by-append (λ (v : Word). v.run) ws (w ∷ []) ∙ ap (λ n. run_of ws + n) (zero-add w.run)

-- nothing was read
pub RunSoFar-none : (colour : Colour) (p : Place) → RunSoFar colour p p 0
RunSoFar-none colour p = record { make_up = []; are_make_up = All-nil _; passes = Passes-none p; run_is = refl; within = omega arith }

-- one more make-up word
pub RunSoFar-more : (colour : Colour) (old mid new : Place) (run : ℕ) (w : Word) → RunSoFar colour old mid run → Contains (make_up_words colour) w → Passes mid new w.word → run + w.run ≤ longest_run → RunSoFar colour old new (run + w.run)
RunSoFar-more colour old mid new run w r is_word p le = record {
  make_up = r.make_up ++ w ∷ [];
  are_make_up = All-push (λ v. Contains (make_up_words colour) v) r.make_up w r.are_make_up is_word;
  passes = rw (text_of-push r.make_up w) (Passes-then old mid new (text_of r.make_up) w.word r.passes p);
  run_is = ap (λ n. n + w.run) r.run_is ∙ sym (run_of-push r.make_up w);
  within = le;
}

-- ---- where a run ends, and why reading stops

-- the place of a run's end
pub Passes-left : (old new : Place) (text : List Bool) → Passes old new text → old.left ≡ text ++ new.left
Passes-left old new text p = p.bits

-- a terminating word ends the run
pub SpellsRun-from : (colour : Colour) (old mid new : Place) (run : ℕ) (w : Word) → RunSoFar colour old mid run → Contains (terminating_words colour) w → Passes mid new w.word
    → (text : List Bool) × SpellsRun colour text (run + w.run) × Passes old new text
SpellsRun-from colour old mid new run w r is_word p = (
  text_of r.make_up ++ w.word,
  record { make_up = r.make_up; last = w; are_make_up = r.are_make_up; is_terminating = is_word; text_is = refl; run_is = ap (λ n. n + w.run) r.run_is },
  Passes-then old mid new (text_of r.make_up) w.word r.passes p,
)

-- a fault after the words so far
pub FailsRun-from : (colour : Colour) (old mid : Place) (run : ℕ) (fault : RunFault) → RunSoFar colour old mid run → Stops colour run mid.left fault → FailsRun colour old.left fault
FailsRun-from colour old mid run fault r s = record {
  make_up = r.make_up;
  rest = mid.left;
  are_make_up = r.are_make_up;
  bits_are = r.passes.bits;
  within = subst (λ n. n ≤ longest_run) r.run_is r.within;
  stops = subst (λ n. Stops colour n mid.left fault) r.run_is s;
}

pub Stops-too_long : (colour : Colour) (mid new : Place) (run : ℕ) (w : Word) → Contains (words colour) w → Passes mid new w.word → longest_run < run + w.run → Stops colour run mid.left TooLong
Stops-too_long colour mid new run w is_word p lt = (w, (is_word, new.left, p.bits), lt)
