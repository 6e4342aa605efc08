-- Laws of runs: bits begin with at most one run, and fail in at most one way.
use Rattle.std.proofs.Common.{◌≡◌, ℕ, ◌+◌, ◌<◌, ◌≤◌, Bool, List, [], ◌∷◌, ◌++◌, All, Contains, length, refl, sym, ◌∙◌, ap, ap₂, subst, arith, inl, inr, ◌⊎◌, append_assoc, append-nil, zero-add, length-append}
use Rattle.std.proofs.lemmas.List.{append_cancel_left, nil_from_length}
use Rattle.std.proofs.lemmas.List.Concat.{flat_map-append}
use Rattle.std.proofs.lemmas.List.Sums.{sum_by-append}
use Rattle.std.proofs.lemmas.List.Elements.{All-head, All-tail}
use Rattle.fax_runcodes.specs.declared.Colour.{Colour}
use Rattle.fax_runcodes.specs.declared.fault.RunFault.{RunFault}
use Rattle.fax_runcodes.specs.declared.fault.RunFault.TheVariants.{NoWord, TooLong, End}
use Rattle.fax_runcodes.specs.CodeTables.{Word, make_up_words, terminating_words}
use Rattle.fax_runcodes.specs.Spelling.{SpellsRun, text_of, run_of}
use Rattle.fax_runcodes.specs.RunFaults.{Stops, FailsRun, ReadsRun, BeginsWith, EndsInside, longest_run}
use Rattle.fax_runcodes.proofs.WordLaws.{word_size, words_prefix_free, from_make_up, from_terminating, make_up_run, terminating_run}

abbrev AreMakeUp : Colour → List Word → Type 0
AreMakeUp colour ws = All (λ w. Contains (make_up_words colour) w) ws

pub run_of-cons : (w : Word) (ws : List Word) → run_of (w ∷ ws) ≡ w.run + run_of ws
run_of-cons w ws = sum_by-append (λ (v : Word). v.run) (w ∷ []) ws ∙ ap (λ n. n + run_of ws) (zero-add w.run)

pub run_of-append : (vs ws : List Word) → run_of (vs ++ ws) ≡ run_of vs + run_of ws
run_of-append vs ws = sum_by-append (λ (v : Word). v.run) vs ws

pub text_of-append : (vs ws : List Word) → text_of (vs ++ ws) ≡ text_of vs ++ text_of ws
text_of-append vs ws = flat_map-append (λ (v : Word). v.word) vs ws

-- Of two lists of make-up words that begin the same bits one begins the other.
pub meet : (colour : Colour) (vs ws : List Word) (x y : List Bool) → AreMakeUp colour vs → AreMakeUp colour ws → text_of vs ++ x ≡ text_of ws ++ y
    → ((more : List Word) × (ws ≡ vs ++ more) × (x ≡ text_of more ++ y)) ⊎ ((more : List Word) × (vs ≡ ws ++ more) × (y ≡ text_of more ++ x))
meet colour [] ws x y p q e = inl (ws, refl, e)
meet colour (v ∷ vs) [] x y p q e = inr (v ∷ vs, refl, sym e)
meet colour (v ∷ vs) (w ∷ ws) x y p q e =
    let f : v.word ++ (text_of vs ++ x) ≡ w.word ++ (text_of ws ++ y) = sym (append_assoc v.word (text_of vs) x) ∙ e ∙ append_assoc w.word (text_of ws) y in
    let same : v ≡ w = words_prefix_free colour v w (text_of vs ++ x) (text_of ws ++ y)
    (from_make_up colour v (All-head (λ u. Contains (make_up_words colour) u) v vs p)) (from_make_up colour w (All-head (λ u. Contains (make_up_words colour) u) w ws q)) f in
    let rest : text_of vs ++ x ≡ text_of ws ++ y = append_cancel_left v.word (text_of vs ++ x) (text_of ws ++ y) (f ∙ ap (λ (u : Word). u.word ++ (text_of ws ++ y)) (sym same)) in
    elim (meet colour vs ws x y (All-tail (λ u. Contains (make_up_words colour) u) v vs p) (All-tail (λ u. Contains (make_up_words colour) u) w ws q) rest) [
      | inl r ↦ inl (r.0, ap₂ (λ (u : Word) (us : List Word). u ∷ us) (sym same) r.1, r.2)
      | inr r ↦ inr (r.0, ap₂ (λ (u : Word) (us : List Word). u ∷ us) same r.1, r.2)
    ]

-- bits don't both begin with a word and end inside one
inside_begins : (colour : Colour) (bits : List Bool) (u : Word) → BeginsWith colour bits u → EndsInside colour bits → ⊥
inside_begins colour bits u (is_word, rest, begun) (v, is_word_v, more, some, inside) =
    let e : v.word ++ [] ≡ u.word ++ (rest ++ more) = append-nil v.word ∙ inside ∙ ap (λ b. b ++ more) begun ∙ append_assoc u.word rest more in
    let same : v ≡ u = words_prefix_free colour v u [] (rest ++ more) is_word_v is_word e in
    let sizes : length v.word ≡ length bits + length more = ap length inside ∙ length-append bits more in
    let begun_size : length bits ≡ length u.word + length rest = ap length begun ∙ length-append u.word rest in
    let same_size : length v.word ≡ length u.word = ap (λ (w : Word). length w.word) same in
    let empty : length more ≡ 0 = omega arith in
    some (nil_from_length more empty)

-- the word that begins make-up words and a terminating word after them, or make-up words alone
first_word : (colour : Colour) (more : List Word) (last : Word) (rest bits : List Bool) → AreMakeUp colour more → Contains (terminating_words colour) last
    → bits ≡ text_of more ++ (last.word ++ rest) → (w : Word) × BeginsWith colour bits w × (w.run ≤ run_of more + last.run)
first_word colour [] last rest bits p q e = (last, (from_terminating colour last q, rest, e), omega arith)
first_word colour (w ∷ ws) last rest bits p q e =
    let sum : run_of (w ∷ ws) ≡ w.run + run_of ws = run_of-cons w ws in
    (w, (from_make_up colour w (All-head (λ u. Contains (make_up_words colour) u) w ws p), text_of ws ++ (last.word ++ rest), e ∙ append_assoc w.word (text_of ws) (last.word ++ rest)), omega arith)

-- a terminating word is no make-up word
not_both : (colour : Colour) (t w : Word) (x y : List Bool) → Contains (terminating_words colour) t → Contains (make_up_words colour) w → t.word ++ x ≡ w.word ++ y → ⊥
not_both colour t w x y p q e =
    let same : t ≡ w = words_prefix_free colour t w x y (from_terminating colour t p) (from_make_up colour w q) e in
    let runs : t.run ≡ w.run = ap (λ (u : Word). u.run) same in
    let short : t.run < 64 = terminating_run colour t p in
    let long : 64 ≤ w.run = make_up_run colour w q in
    omega arith

-- a part of make-up words
All-append_right : (colour : Colour) (vs ws : List Word) → AreMakeUp colour (vs ++ ws) → AreMakeUp colour ws
All-append_right colour [] ws p = p
All-append_right colour (v ∷ vs) ws p = All-append_right colour vs ws (All-tail (λ u. Contains (make_up_words colour) u) v (vs ++ ws) p)

-- where one run's make-up words go on with more of the other's
spells_one : (colour : Colour) (s t : List Bool) (m n : ℕ) (x y : List Bool) (p : SpellsRun colour s m) (q : SpellsRun colour t n)
    → (more : List Word) → q.make_up ≡ p.make_up ++ more → p.last.word ++ x ≡ text_of more ++ (q.last.word ++ y) → (s ≡ t) × (m ≡ n)
spells_one colour s t m n x y p q [] e1 e2 =
    let last : p.last ≡ q.last = words_prefix_free colour p.last q.last x y (from_terminating colour p.last p.is_terminating) (from_terminating colour q.last q.is_terminating) e2 in
    let front : q.make_up ≡ p.make_up = e1 ∙ append-nil p.make_up in (
      p.text_is ∙ ap₂ (λ (ws : List Word) (w : Word). text_of ws ++ w.word) (sym front) last ∙ sym q.text_is,
      p.run_is ∙ ap₂ (λ (ws : List Word) (w : Word). run_of ws + w.run) (sym front) last ∙ sym q.run_is,
    )
spells_one colour s t m n x y p q (w ∷ ws) e1 e2 =
    let are : AreMakeUp colour (w ∷ ws) = All-append_right colour p.make_up (w ∷ ws) (subst (AreMakeUp colour) e1 q.are_make_up) in
    absurd (not_both colour p.last w x (text_of ws ++ (q.last.word ++ y)) p.is_terminating (All-head (λ u. Contains (make_up_words colour) u) w ws are)
    (e2 ∙ append_assoc w.word (text_of ws) (q.last.word ++ y)))

-- bits that begin with a word that isn't too much are not where reading stops
begun_not_stopped : (colour : Colour) (run : ℕ) (bits : List Bool) (fault : RunFault) (w : Word) → BeginsWith colour bits w → run + w.run ≤ longest_run → Stops colour run bits fault → ⊥
begun_not_stopped colour run bits NoWord w b le s = s.0 w b
begun_not_stopped colour run bits End w b le s = inside_begins colour bits w b s
begun_not_stopped colour run bits TooLong w (is_word, rest, e) le (u, (is_word_u, rest_u, e_u), lt) =
    let same : u ≡ w = words_prefix_free colour u w rest_u rest is_word_u is_word (sym e_u ∙ e) in
    let runs : u.run ≡ w.run = ap (λ (v : Word). v.run) same in
    omega arith

-- Of two spelt runs that begin the same bits, both have one text and one length.
pub SpellsRun-one : (colour : Colour) (s t : List Bool) (m n : ℕ) (x y : List Bool) → SpellsRun colour s m → SpellsRun colour t n → s ++ x ≡ t ++ y → (s ≡ t) × (m ≡ n)
SpellsRun-one colour s t m n x y p q e =
    let first : text_of p.make_up ++ (p.last.word ++ x) ≡ text_of q.make_up ++ (q.last.word ++ y) =
    sym (append_assoc (text_of p.make_up) p.last.word x) ∙ ap (λ b. b ++ x) (sym p.text_is) ∙ e ∙ ap (λ b. b ++ y) q.text_is ∙ append_assoc (text_of q.make_up) q.last.word y in
    elim (meet colour p.make_up q.make_up (p.last.word ++ x) (q.last.word ++ y) p.are_make_up q.are_make_up first) [
      | inl r ↦ spells_one colour s t m n x y p q r.0 r.1 r.2
      | inr r ↦
          let back : (t ≡ s) × (n ≡ m) = spells_one colour t s n m y x q p r.0 r.1 r.2 in
          (sym back.0, sym back.1)
    ]

-- a run whose make-up words are fewer than those before the fault
longer_not_fails : (colour : Colour) (rest left : List Bool) (n : ℕ) (fault : RunFault) (run : ℕ) {text : List Bool} (q : SpellsRun colour text n) (vs : List Word) → AreMakeUp colour vs → run ≡ run_of vs
    → n ≤ longest_run → Stops colour run left fault → (more : List Word) → vs ≡ q.make_up ++ more → q.last.word ++ rest ≡ text_of more ++ left → ⊥
longer_not_fails colour rest left n fault run q vs are sum within s [] e1 e2 =
    let front : vs ≡ q.make_up = e1 ∙ append-nil q.make_up in
    let runs : run ≡ run_of q.make_up = sum ∙ ap run_of front in
    let whole : n ≡ run_of q.make_up + q.last.run = q.run_is in
    begun_not_stopped colour run left fault q.last (from_terminating colour q.last q.is_terminating, rest, sym e2) (omega arith) s
longer_not_fails colour rest left n fault run q vs are sum within s (w ∷ ws) e1 e2 =
    let parts : AreMakeUp colour (w ∷ ws) = All-append_right colour q.make_up (w ∷ ws) (subst (AreMakeUp colour) e1 are) in
    not_both colour q.last w rest (text_of ws ++ left) q.is_terminating (All-head (λ u. Contains (make_up_words colour) u) w ws parts)
    (e2 ∙ append_assoc w.word (text_of ws) left)

-- the same bits stop in one way
Stops-one : (colour : Colour) (run : ℕ) (bits : List Bool) (f g : RunFault) → Stops colour run bits f → Stops colour run bits g → f ≡ g
Stops-one colour run bits NoWord NoWord s t = refl
Stops-one colour run bits NoWord TooLong s (w, b, lt) = absurd (s.0 w b)
Stops-one colour run bits NoWord End s t = absurd (s.1 t)
Stops-one colour run bits TooLong NoWord (w, b, lt) t = absurd (t.0 w b)
Stops-one colour run bits TooLong TooLong s t = refl
Stops-one colour run bits TooLong End (w, b, lt) t = absurd (inside_begins colour bits w b t)
Stops-one colour run bits End NoWord s t = absurd (t.1 s)
Stops-one colour run bits End TooLong s (w, b, lt) = absurd (inside_begins colour bits w b s)
Stops-one colour run bits End End s t = refl

-- where one fault's make-up words go on with more of the other's
fails_one : (colour : Colour) (bits : List Bool) (f g : RunFault) (p : FailsRun colour bits f) (q : FailsRun colour bits g)
    → (more : List Word) → q.make_up ≡ p.make_up ++ more → p.rest ≡ text_of more ++ q.rest → f ≡ g
fails_one colour bits f g p q [] e1 e2 =
    let front : q.make_up ≡ p.make_up = e1 ∙ append-nil p.make_up in
    let runs : run_of q.make_up ≡ run_of p.make_up = ap run_of front in
    let other : Stops colour (run_of p.make_up) p.rest g = subst (λ b. Stops colour (run_of p.make_up) b g) (sym e2) (subst (λ n. Stops colour n q.rest g) runs q.stops) in
    Stops-one colour (run_of p.make_up) p.rest f g p.stops other
fails_one colour bits f g p q (w ∷ ws) e1 e2 =
    let parts : AreMakeUp colour (w ∷ ws) = All-append_right colour p.make_up (w ∷ ws) (subst (AreMakeUp colour) e1 q.are_make_up) in
    let begun : BeginsWith colour p.rest w = (from_make_up colour w (All-head (λ u. Contains (make_up_words colour) u) w ws parts), text_of ws ++ q.rest, e2 ∙ append_assoc w.word (text_of ws) q.rest) in
    let sums : run_of q.make_up ≡ run_of p.make_up + run_of (w ∷ ws) = ap run_of e1 ∙ run_of-append p.make_up (w ∷ ws) in
    let sum : run_of (w ∷ ws) ≡ w.run + run_of ws = run_of-cons w ws in
    let within : run_of q.make_up ≤ longest_run = q.within in
    absurd (begun_not_stopped colour (run_of p.make_up) p.rest f w begun (omega arith) p.stops)

-- What begins with a run is read, and doesn't fail.
pub ReadsRun-not_fails : (colour : Colour) (bits : List Bool) (n : ℕ) (rest : List Bool) (fault : RunFault) → ReadsRun colour bits n rest → FailsRun colour bits fault → ⊥
ReadsRun-not_fails colour bits n rest fault r f =
    let q : SpellsRun colour r.text n = r.spelt in
    let first : text_of f.make_up ++ f.rest ≡ text_of q.make_up ++ (q.last.word ++ rest) =
    sym f.bits_are ∙ r.bits_are ∙ ap (λ b. b ++ rest) q.text_is ∙ append_assoc (text_of q.make_up) q.last.word rest in
    elim (meet colour f.make_up q.make_up f.rest (q.last.word ++ rest) f.are_make_up q.are_make_up first) [
      | inl m ↦
          let more_are : AreMakeUp colour m.0 = All-append_right colour f.make_up m.0 (subst (AreMakeUp colour) m.1 q.are_make_up) in
          let w : (w : Word) × BeginsWith colour f.rest w × (w.run ≤ run_of m.0 + q.last.run) = first_word colour m.0 q.last rest f.rest more_are q.is_terminating m.2 in
          let sums : run_of q.make_up ≡ run_of f.make_up + run_of m.0 = ap run_of m.1 ∙ run_of-append f.make_up m.0 in
          let whole : n ≡ run_of q.make_up + q.last.run = q.run_is in
          let within : n ≤ longest_run = r.within in
          begun_not_stopped colour (run_of f.make_up) f.rest fault w.0 w.1 (omega arith) f.stops
      | inr m ↦ longer_not_fails colour rest f.rest n fault (run_of f.make_up) q f.make_up f.are_make_up refl r.within f.stops m.0 m.1 m.2
    ]

-- Bits fail in one way.
pub FailsRun-one : (colour : Colour) (bits : List Bool) (f g : RunFault) → FailsRun colour bits f → FailsRun colour bits g → f ≡ g
FailsRun-one colour bits f g p q =
    let first : text_of p.make_up ++ p.rest ≡ text_of q.make_up ++ q.rest = sym p.bits_are ∙ q.bits_are in
    elim (meet colour p.make_up q.make_up p.rest q.rest p.are_make_up q.are_make_up first) [
      | inl r ↦ fails_one colour bits f g p q r.0 r.1 r.2
      | inr r ↦ sym (fails_one colour bits g f q p r.0 r.1 r.2)
    ]

-- a run has bits
pub SpellsRun-some : (colour : Colour) (text : List Bool) (n : ℕ) → SpellsRun colour text n → 0 < length text
SpellsRun-some colour text n p =
    let size : 1 < length p.last.word = (word_size colour p.last (from_terminating colour p.last p.is_terminating)).some in
    let parts : length text ≡ length (text_of p.make_up) + length p.last.word = ap length p.text_is ∙ length-append (text_of p.make_up) p.last.word in
    omega arith
