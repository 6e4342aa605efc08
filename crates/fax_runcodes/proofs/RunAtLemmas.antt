-- A run whose words stand in one window.
use Rattle.std.proofs.Common.{◌≡◌, ℕ, ◌+◌, ◌-◌, ◌<◌, ◌≤◌, Bool, false, List, [], ◌∷◌, ◌++◌, Contains, length, drop, replicate, refl, sym, ◌∙◌, ap, subst, arith, append_assoc, length-append, zero-add, inl, inr}
use Rattle.std.proofs.lemmas.List.{length-drop}
use Rattle.std.proofs.Math.Seq.{drop-append_seam}
use Rattle.std.proofs.lemmas.List.Elements.{All-nil, All-push}
use Rattle.fax_runcodes.specs.declared.Colour.{Colour}
use Rattle.fax_runcodes.specs.declared.tables.CodeWord.{CodeWord}
use Rattle.fax_runcodes.specs.CodeTables.{Word, make_up_words, terminating_words}
use Rattle.fax_runcodes.specs.Entries.{IsEntryAt, IsRunAt}
use Rattle.fax_runcodes.specs.Lookups.{IsFoundAt}
use Rattle.fax_runcodes.specs.RunFaults.{longest_run}
use Rattle.fax_runcodes.specs.Spelling.{SpellsRun}
use Rattle.fax_runcodes.proofs.ReadLemmas.{found_of, front_of}
use Rattle.fax_runcodes.proofs.RunLemmas.{run_of-push, text_of-push}
use Rattle.fax_runcodes.proofs.WordLaws.{is_make_up, is_terminating, word_size}

pub short_spelt : (colour : Colour) (w : Word) → Contains (terminating_words colour) w → SpellsRun colour w.word w.run
short_spelt colour w ends = record {
  make_up = [];
  last = w;
  are_make_up = All-nil (λ (m : Word). Contains (make_up_words colour) m);
  is_terminating = ends;
  text_is = refl;
  run_is = sym (zero-add w.run);
}

pub long_spelt : (colour : Colour) (w v : Word) → Contains (make_up_words colour) w → Contains (terminating_words colour) v → SpellsRun colour (w.word ++ v.word) (w.run + v.run)
long_spelt colour w v begins ends = record {
  make_up = [] ++ w ∷ [];
  last = v;
  are_make_up = All-push (λ (m : Word). Contains (make_up_words colour) m) [] w (All-nil (λ (m : Word). Contains (make_up_words colour) m)) begins;
  is_terminating = ends;
  text_is = ap (λ (bits : List Bool). bits ++ v.word) (sym (text_of-push [] w));
  run_is = ap (λ (n : ℕ). n + v.run) (sym (run_of-push [] w ∙ zero-add w.run));
}

-- an entry of fewer elements than the answer that there is none is that of a word
pub entry_found : (colour : Colour) (bits : List Bool) (found : CodeWord) → IsEntryAt colour bits found → found.run ≤ longest_run → IsFoundAt colour bits found
entry_found colour bits found entry few = found_of colour bits found entry (λ is. omega (arith, is))

pub run_at_short : (colour : Colour) (bits : List Bool) (found : CodeWord) (n : ℕ) → IsEntryAt colour bits found → found.run < 64 → n ≡ found.bits
    → IsRunAt colour bits (record { elements = found.run; bits = n })
run_at_short colour bits found n entry short is =
    let f = entry_found colour bits found entry (omega arith) in
    let ends = is_terminating colour f.word f.begins.0 (omega (arith, f.run_is)) in
    record {
      text = f.word.word;
      rest = f.begins.1;
      spelt = subst (λ (k : ℕ). SpellsRun colour f.word.word k) f.run_is (short_spelt colour f.word ends);
      bits_are = f.begins.2;
      size_is = f.bits_is ∙ sym is;
      few = omega (arith, (word_size colour f.word f.begins.0).few);
      within = omega arith;
    }

pub run_at_long : (colour : Colour) (window after : List Bool) (first last : CodeWord) (n m : ℕ) → length window ≡ 56
    → IsEntryAt colour window first → 64 ≤ first.run → n ≡ first.bits → after ≡ drop n window ++ replicate n false
    → IsEntryAt colour after last → last.run < 64 → m ≡ last.bits → first.run + last.run ≤ longest_run
    → IsRunAt colour window (record { elements = first.run + last.run; bits = n + m })
run_at_long colour window after first last n m wide entry long is is_after entry_after short is_last fits =
    let f = entry_found colour window first entry (omega arith) in
    let g = entry_found colour after last entry_after (omega arith) in
    let begins = is_make_up colour f.word f.begins.0 (omega (arith, f.run_is)) in
    let ends = is_terminating colour g.word g.begins.0 (omega (arith, g.run_is)) in
    let few_first : length f.word.word ≤ 13 = (word_size colour f.word f.begins.0).few in
    let few_last : length g.word.word ≤ 13 = (word_size colour g.word g.begins.0).few in
    let size : n ≡ length f.word.word = is ∙ sym f.bits_is in
    let rest : drop n window ≡ f.begins.1 = ap (λ (k : ℕ). drop k window) size ∙ ap (drop (length f.word.word)) f.begins.2 ∙ drop-append_seam f.word.word f.begins.1 in
    let ahead : length (drop n window) ≡ 56 - n = length-drop n window ∙ ap (λ (k : ℕ). k - n) wide in
    let begun : g.word.word ++ g.begins.1 ≡ drop n window ++ replicate n false = sym g.begins.2 ∙ is_after in
    let there : drop n window ≡ g.word.word ++ drop (length g.word.word) (drop n window) =
    front_of g.word.word (drop n window) g.begins.1 (replicate n false) begun (omega (arith, ahead, size)) in
    let both : length (f.word.word ++ g.word.word) ≡ length f.word.word + length g.word.word = length-append f.word.word g.word.word in
    let sum : f.word.run + g.word.run ≡ first.run + last.run = omega (arith, f.run_is, g.run_is) in
    record {
      text = f.word.word ++ g.word.word;
      rest = drop (length g.word.word) (drop n window);
      spelt = subst (λ (k : ℕ). SpellsRun colour (f.word.word ++ g.word.word) k) sum (long_spelt colour f.word g.word begins ends);
      bits_are = f.begins.2 ∙ ap (λ (bits : List Bool). f.word.word ++ bits) (sym rest ∙ there) ∙ sym (append_assoc f.word.word g.word.word (drop (length g.word.word) (drop n window)));
      size_is = omega (arith, both, f.bits_is, g.bits_is, is, is_last);
      few = omega (arith, both);
      within = fits;
    }

-- no entry says more elements than the answer that there is none
pub entry_few : (colour : Colour) (bits : List Bool) (found : CodeWord) → IsEntryAt colour bits found → found.run ≤ 4095
entry_few colour bits found (inl none) = omega (arith, none.0)
entry_few colour bits found (inr some) = omega (arith, some.run_is, (word_size colour some.word some.begins.0).run)
