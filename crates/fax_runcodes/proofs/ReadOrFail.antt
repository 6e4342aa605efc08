-- Of any bits a run is read, or reading one meets a fault.
use Rattle.std.proofs.Common.{◌≡◌, ◌≢◌, ◌⊎◌, ℕ, zero, suc, ◌+◌, ◌<◌, ◌≤◌, Bool, List, [], ◌∷◌, ◌++◌, All, Contains, length, refl, sym, ◌∙◌, ap, arith, inl, inr, append_assoc, length-append}
use Rattle.std.proofs.lemmas.Bool.{cases_lt}
use Rattle.std.proofs.lemmas.List.Elements.{All-nil, All-push, Contains-append_right}
use Rattle.fax_runcodes.specs.declared.Colour.{Colour}
use Rattle.fax_runcodes.specs.declared.fault.RunFault.{RunFault}
use Rattle.fax_runcodes.specs.declared.fault.RunFault.TheVariants.{NoWord, TooLong, End}
use Rattle.fax_runcodes.specs.CodeTables.{Word, words, make_up_words}
use Rattle.fax_runcodes.specs.Laws.{RunsAreReadOrFail}
use Rattle.fax_runcodes.specs.RunFaults.{Stops, FailsRun, ReadsRun, longest_run}
use Rattle.fax_runcodes.specs.Spelling.{text_of, run_of}
use Rattle.fax_runcodes.proofs.Fronts.{begins_or_not, inside_or_not}
use Rattle.fax_runcodes.proofs.RunLemmas.{text_of-push, run_of-push}
use Rattle.fax_runcodes.proofs.WordLaws.{word_size, is_terminating, is_make_up}

-- ---- the word that begins bits

-- an element is the first of a list, or stands after it
first_or_later : (v : Word) (ws : List Word) (w : Word) → Contains (v ∷ ws) w → (v ≡ w) ⊎ Contains ws w
first_or_later v ws w (zero, lt, e) = inl e
first_or_later v ws w (suc k, lt, e) = inr (k, omega arith, e)

first : (v : Word) (ws : List Word) → Contains (v ∷ ws) v
first v ws = (0, omega arith, refl)

later : (v : Word) (ws : List Word) (w : Word) → Contains ws w → Contains (v ∷ ws) w
later v ws w is = Contains-append_right (v ∷ []) ws w is

none_of : (w : Word) → Contains [] w → ⊥
none_of w (k, lt, e) = omega arith

-- one of these words begins the bits, or none does
word_or_none : (bits : List Bool) (ws : List Word)
    → ((w : Word) × Contains ws w × (rest : List Bool) × (bits ≡ w.word ++ rest)) ⊎ ((w : Word) → Contains ws w → (rest : List Bool) → bits ≡ w.word ++ rest → ⊥)
word_or_none bits [] = inr (λ w is rest e. none_of w is)
word_or_none bits (v ∷ ws) = elim (begins_or_not v.word bits) [
  | inl begins ↦ inl (v, first v ws, begins.0, begins.1)
  | inr not ↦ elim (word_or_none bits ws) [
    | inl found ↦ inl (found.0, later v ws found.0 found.1, found.2, found.3)
    | inr none ↦ inr (λ w is rest e. elim (first_or_later v ws w is) [
      | inl same ↦ not rest (e ∙ ap (λ (x : Word). x.word ++ rest) (sym same))
      | inr after ↦ none w after rest e
    ])
  ]
]

-- the bits end inside one of these words, or inside none
inside_or_none : (bits : List Bool) (ws : List Word)
    → ((w : Word) × Contains ws w × (more : List Bool) × (more ≢ []) × (w.word ≡ bits ++ more))
    ⊎ ((w : Word) → Contains ws w → (more : List Bool) → more ≢ [] → w.word ≡ bits ++ more → ⊥)
inside_or_none bits [] = inr (λ w is more some e. none_of w is)
inside_or_none bits (v ∷ ws) = elim (inside_or_not bits v.word) [
  | inl inside ↦ inl (v, first v ws, inside.0, inside.1, inside.2)
  | inr not ↦ elim (inside_or_none bits ws) [
    | inl found ↦ inl (found.0, later v ws found.0 found.1, found.2, found.3, found.4)
    | inr none ↦ inr (λ w is more some e. elim (first_or_later v ws w is) [
      | inl same ↦ not more some (ap (λ (x : Word). x.word) same ∙ e)
      | inr after ↦ none w after more some e
    ])
  ]
]

-- ---- a run

abbrev ReadsOrFails : Colour → List Bool → Type 0
ReadsOrFails colour bits = ((run : ℕ) × (rest : List Bool) × ReadsRun colour bits run rest) ⊎ ((fault : RunFault) × FailsRun colour bits fault)

-- make-up words were read, which add to no more than the longest run
record MadeUp (colour : Colour) (start bits : List Bool) (ws : List Word) : Type 0 where
  pub are_make_up : All (λ w. Contains (make_up_words colour) w) ws
  pub bits_are : start ≡ text_of ws ++ bits
  pub within : run_of ws ≤ longest_run

MadeUp-none : (colour : Colour) (bits : List Bool) → MadeUp colour bits bits []
MadeUp-none colour bits = record { are_make_up = All-nil (λ (w : Word). Contains (make_up_words colour) w); bits_are = refl; within = omega arith }

-- with one more word
text_more : (start bits rest : List Bool) (ws : List Word) (w : Word) → start ≡ text_of ws ++ bits → bits ≡ w.word ++ rest → start ≡ (text_of ws ++ w.word) ++ rest
text_more start bits rest ws w e begins = e ∙ ap (λ b. text_of ws ++ b) begins ∙ sym (append_assoc (text_of ws) w.word rest)

MadeUp-more : (colour : Colour) (start bits rest : List Bool) (ws : List Word) (w : Word) → MadeUp colour start bits ws → Contains (make_up_words colour) w → bits ≡ w.word ++ rest
    → run_of ws + w.run ≤ longest_run → MadeUp colour start rest (ws ++ w ∷ [])
MadeUp-more colour start bits rest ws w m is begins fits = record {
  are_make_up = All-push (λ (v : Word). Contains (make_up_words colour) v) ws w m.are_make_up is;
  bits_are = text_more start bits rest ws w m.bits_are begins ∙ ap (λ b. b ++ rest) (sym (text_of-push ws w));
  within = omega (arith, run_of-push ws w);
}

-- no further word is taken
stops_here : (colour : Colour) (start bits : List Bool) (ws : List Word) (fault : RunFault) → MadeUp colour start bits ws → Stops colour (run_of ws) bits fault → ReadsOrFails colour start
stops_here colour start bits ws fault m stops =
    inr (fault, record { make_up = ws; rest = bits; are_make_up = m.are_make_up; bits_are = m.bits_are; within = m.within; stops = stops })

-- a terminating word is the last
ends_here : (colour : Colour) (start bits rest : List Bool) (ws : List Word) (w : Word) → MadeUp colour start bits ws → Contains (words colour) w → w.run < 64 → bits ≡ w.word ++ rest
    → run_of ws + w.run ≤ longest_run → ReadsOrFails colour start
ends_here colour start bits rest ws w m is short begins fits =
    inl (
      run_of ws + w.run,
      rest,
      record {
        text = text_of ws ++ w.word;
        spelt = record { make_up = ws; last = w; are_make_up = m.are_make_up; is_terminating = is_terminating colour w is short; text_is = refl; run_is = refl };
        within = fits;
        bits_are = text_more start bits rest ws w m.bits_are begins;
      },
    )

-- where no word begins the bits
none_begins : (colour : Colour) (start bits : List Bool) (ws : List Word) → MadeUp colour start bits ws
    → ((w : Word) → Contains (words colour) w → (rest : List Bool) → bits ≡ w.word ++ rest → ⊥) → ReadsOrFails colour start
none_begins colour start bits ws m none = elim (inside_or_none bits (words colour)) [
  | inl inside ↦ stops_here colour start bits ws End m inside
  | inr outside ↦ stops_here colour start bits ws NoWord m (λ w begins. none w begins.0 begins.1 begins.2, λ inside. outside inside.0 inside.1 inside.2 inside.3 inside.4)
]

read_from : (colour : Colour) (n : ℕ) (start bits : List Bool) (ws : List Word) → length bits < n → MadeUp colour start bits ws → ReadsOrFails colour start
read_from colour zero start bits ws few m = absurd (omega arith)
read_from colour (suc n) start bits ws few m = elim (word_or_none bits (words colour)) [
  | inr none ↦ none_begins colour start bits ws m none
  | inl found ↦ elim (cases_lt longest_run (run_of ws + found.0.run)) [
    | inl long ↦ stops_here colour start bits ws TooLong m (found.0, (found.1, found.2, found.3), long)
    | inr fits ↦ elim (cases_lt found.0.run 64) [
      | inl short ↦ ends_here colour start bits found.2 ws found.0 m found.1 short found.3 fits
      | inr long ↦
          let some : 1 < length found.0.word = (word_size colour found.0 found.1).some in
          let parts : length bits ≡ length found.0.word + length found.2 = ap length found.3 ∙ length-append found.0.word found.2 in
          read_from colour n start found.2 (ws ++ found.0 ∷ []) (omega arith)
          (MadeUp-more colour start bits found.2 ws found.0 m (is_make_up colour found.0 found.1 long) found.3 fits)
    ]
  ]
]

-- Of any bits a run is read, or reading one meets a fault.
pub runs_are_read_or_fail : RunsAreReadOrFail
runs_are_read_or_fail colour bits = read_from colour (suc (length bits)) bits bits [] (omega arith) (MadeUp-none colour bits)
