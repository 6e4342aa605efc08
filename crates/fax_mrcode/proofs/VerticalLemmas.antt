-- Steps in vertical mode, read from one window: the table of their words, and what a window shows.
use Rattle.std.proofs.Common.{◌≡◌, ℕ, zero, suc, ◌+◌, ◌-◌, ◌*◌, ◌/◌, ◌%◌, ◌^◌, ◌<◌, ◌≤◌, ◌==◌, Bool, true, false, ◌&&◌, ◌||◌, List, [], ◌∷◌, ◌++◌, length, slice_index_or, take, drop, take_at, subst, length-drop, replicate, min, refl, sym, ◌∙◌, ap, ap₂, arith, append_assoc, add-zero, add-suc, suc-add, inl, inr, ◌⊎◌}
use Rattle.std.proofs.lemmas.Bool.{and_parts, eqb-true}
use Rattle.std.proofs.lemmas.List.{drop-drop, take-append-drop, drop_at, drop-append-le, take-append-le, length-take-le, take-take, drop-take}
use Rattle.fax_bits.specs.Bits.{word_bits, bit}
use Rattle.fax_bits.specs.Reading.{Place, Passes, padded}
use Rattle.fax_runcodes.proofs.Fronts.{agree, agree_fronts, begins, begins_rest}
use Rattle.fax_mrcode.specs.declared.mode.Mode.TheVariants.{Pass, Horizontal, Vertical}
use Rattle.fax_mrcode.specs.declared.reading.verticals.VerticalWord.{VerticalWord}
use Rattle.fax_mrcode.specs.declared.reading.verticals.TheConstants.{VERTICAL_WORDS, NOT_VERTICAL}
use Rattle.fax_mrcode.specs.declared.mode.Offset.{Offset}
use Rattle.fax_mrcode.specs.declared.mode.Offset.TheVariants.{Left3, Left2, Left1, Zero, Right1, Right2, Right3}
use Rattle.fax_mrcode.specs.Modes.{mode_word}
use Rattle.fax_runcodes.specs.Rows.{Elements}
use Rattle.fax_mrcode.specs.declared.reading.Start.{Start}
use Rattle.std.proofs.Math.Seq.{take-add}
use Rattle.fax_mrcode.specs.declared.mode.Mode.{Mode}
use Rattle.fax_mrcode.specs.Windows.{Shows, ShowsAfter, FirstAre}
use Rattle.fax_mrcode.specs.Starts.{IsBack, TakesStep}
use Rattle.fax_mrcode.proofs.LineLaws.{modes_prefix_free}
use Rattle.fax_bits.proofs.WindowLemmas.{padded-known}
use Rattle.fax_bits.proofs.BitsLemmas.{length-word_bits, word_bits-add, word_bits-mod, word_bits-shl}

-- the place n bits further on
abbrev pub after_place : Place → ℕ → Place
after_place p n = record { passed = p.passed + n; left = drop n p.left }

-- ---- how long mode words are
offset_size : (o : Offset) → (1 ≤ length (mode_word (Vertical o))) × (length (mode_word (Vertical o)) ≤ 7)
offset_size Zero = (omega arith, omega arith)
offset_size Right1 = (omega arith, omega arith)
offset_size Right2 = (omega arith, omega arith)
offset_size Right3 = (omega arith, omega arith)
offset_size Left1 = (omega arith, omega arith)
offset_size Left2 = (omega arith, omega arith)
offset_size Left3 = (omega arith, omega arith)

-- a mode word has bits, and 7 at most
pub mode_size : (m : Mode) → (1 ≤ length (mode_word m)) × (length (mode_word m) ≤ 7)
mode_size Pass = (omega arith, omega arith)
mode_size Horizontal = (omega arith, omega arith)
mode_size (Vertical o) = offset_size o

-- ---- bits that no word of vertical mode begins

-- the bits that no mode word agrees with
abbrev pub no_mode : List Bool
no_mode = replicate 6 false

offset_not_none : (o : Offset) → agree (mode_word (Vertical o)) no_mode ≡ true → ⊥
offset_not_none Zero h = cc
offset_not_none Right1 h = cc
offset_not_none Right2 h = cc
offset_not_none Right3 h = cc
offset_not_none Left1 h = cc
offset_not_none Left2 h = cc
offset_not_none Left3 h = cc

-- another mode's word begins them, or six zeros
abbrev pub is_other : List Bool → Bool
is_other text = begins (mode_word Pass) text || (begins (mode_word Horizontal) text || begins no_mode text)

or_else : (a b : Bool) → (a || b) ≡ true → (a ≡ true) ⊎ (b ≡ true)
or_else true b h = inl refl
or_else false b h = inr h

-- bits that begin with a word, and go on
goes_on : (word text more : List Bool) → begins word text ≡ true → (rest : List Bool) × (text ++ more ≡ word ++ rest)
goes_on word text more h = let r = begins_rest word text h in (r.0 ++ more, ap (λ b. b ++ more) r.1 ∙ append_assoc word r.0 more)

other_not_vertical : (text more : List Bool) → is_other text ≡ true → (o : Offset) (rest : List Bool) → text ++ more ≡ mode_word (Vertical o) ++ rest → ⊥
other_not_vertical text more h o rest e = elim (or_else (begins (mode_word Pass) text) (begins (mode_word Horizontal) text || begins no_mode text) h) [
  | inl pass ↦
      let r = goes_on (mode_word Pass) text more pass in
      let same : Pass ≡ Vertical o = modes_prefix_free Pass (Vertical o) r.0 rest (sym r.1 ∙ e) in
      cc
  | inr later ↦ elim (or_else (begins (mode_word Horizontal) text) (begins no_mode text) later) [
    | inl horizontal ↦
        let r = goes_on (mode_word Horizontal) text more horizontal in
        let same : Horizontal ≡ Vertical o = modes_prefix_free Horizontal (Vertical o) r.0 rest (sym r.1 ∙ e) in
        cc
    | inr zeros ↦
        let r = goes_on no_mode text more zeros in
        offset_not_none o (agree_fronts (mode_word (Vertical o)) no_mode rest r.0 (sym e ∙ r.1))
  ]
]

-- ---- the table
-- how far back the next b1 is looked for
abbrev pub back_of : Offset → ℕ
back_of Left3 = 2
back_of Left2 = 2
back_of Left1 = 0
back_of Zero = 0
back_of Right1 = 0
back_of Right2 = 0
back_of Right3 = 0

pub IsBack-of : (offset : Offset) → IsBack offset (back_of offset)
IsBack-of Left3 = inl refl
IsBack-of Left2 = inl refl
IsBack-of Left1 = inr (refl, λ a b at. omega arith)
IsBack-of Zero = inr (refl, λ a b at. omega arith)
IsBack-of Right1 = inr (refl, λ a b at. omega arith)
IsBack-of Right2 = inr (refl, λ a b at. omega arith)
IsBack-of Right3 = inr (refl, λ a b at. omega arith)

-- an entry with bits has the word of its offset, which begins these bits; else another mode's word does, or six zeros
abbrev pub is_right : List Bool → VerticalWord → Bool
is_right text entry = (entry.back == back_of entry.offset) && (((entry.bits == 0) && is_other text) || ((length (mode_word (Vertical entry.offset)) == entry.bits) && begins (mode_word (Vertical entry.offset)) text))

-- each entry from this index on says what begins the 7 bits of its index
abbrev pub are_right : ℕ → List VerticalWord → Bool
are_right index [] = true
are_right index (e ∷ es) = is_right (word_bits 7 index) e && are_right (suc index) es

-- ---- the rule, computed
pub vertical_words_are_right : are_right 0 VERTICAL_WORDS ≡ true
unfolding word_bits bit
vertical_words_are_right = refl

are_right_at : (index : ℕ) (es : List VerticalWord) → are_right index es ≡ true → (i : ℕ) → i < length es → is_right (word_bits 7 (index + i)) (slice_index_or es i NOT_VERTICAL) ≡ true
are_right_at index [] h i lt = absurd (omega arith)
are_right_at index (e ∷ es) h zero lt = rw add-zero (and_parts (is_right (word_bits 7 index) e) (are_right (suc index) es) h).0
are_right_at index (e ∷ es) h (suc i) lt =
    let rest = (and_parts (is_right (word_bits 7 index) e) (are_right (suc index) es) h).1 in
    let there : is_right (word_bits 7 (suc index + i)) (slice_index_or es i NOT_VERTICAL) ≡ true = are_right_at (suc index) es rest i (omega arith) in
    rw add-suc (rw suc-add at there)

-- what an entry says of the bits that it stands for
abbrev pub SaysWord : List Bool → VerticalWord → Type 0
SaysWord text entry = (length (mode_word (Vertical entry.offset)) ≡ entry.bits) × ((rest : List Bool) × (text ≡ mode_word (Vertical entry.offset) ++ rest))

says_back : (text : List Bool) (entry : VerticalWord) → is_right text entry ≡ true → IsBack entry.offset entry.back
says_back text entry h =
    let parts = and_parts (entry.back == back_of entry.offset) (((entry.bits == 0) && is_other text) || ((length (mode_word (Vertical entry.offset)) == entry.bits) && begins (mode_word (Vertical entry.offset)) text)) h in
    subst (λ (n : ℕ). IsBack entry.offset n) (sym (eqb-true entry.back (back_of entry.offset) parts.0)) (IsBack-of entry.offset)

says_word : (text : List Bool) (entry : VerticalWord) → is_right text entry ≡ true → (((entry.bits == 0) && is_other text) || ((length (mode_word (Vertical entry.offset)) == entry.bits) && begins (mode_word (Vertical entry.offset)) text)) ≡ true
says_word text entry h = (and_parts (entry.back == back_of entry.offset) (((entry.bits == 0) && is_other text) || ((length (mode_word (Vertical entry.offset)) == entry.bits) && begins (mode_word (Vertical entry.offset)) text)) h).1

-- no word of vertical mode begins them
abbrev pub SaysNone : List Bool → VerticalWord → Type 0
SaysNone text entry = (entry.bits ≡ 0) × (is_other text ≡ true)

says : (text : List Bool) (entry : VerticalWord) → is_right text entry ≡ true → SaysNone text entry ⊎ SaysWord text entry
says text entry h = elim (or_else ((entry.bits == 0) && is_other text) ((length (mode_word (Vertical entry.offset)) == entry.bits) && begins (mode_word (Vertical entry.offset)) text) (says_word text entry h)) [
  | inl none ↦
      let parts = and_parts (entry.bits == 0) (is_other text) none in
      inl (eqb-true entry.bits 0 parts.0, parts.1)
  | inr word ↦
      let parts = and_parts (length (mode_word (Vertical entry.offset)) == entry.bits) (begins (mode_word (Vertical entry.offset)) text) word in
      inr (eqb-true (length (mode_word (Vertical entry.offset))) entry.bits parts.0, begins_rest (mode_word (Vertical entry.offset)) text parts.1)
]

few_of : (text : List Bool) (entry : VerticalWord) → SaysNone text entry ⊎ SaysWord text entry → entry.bits ≤ 7
few_of text entry (inl none) = omega (arith, none.0)
few_of text entry (inr word) = let size = mode_size (Vertical entry.offset) in omega (arith, word.0)

said : (text more : List Bool) (entry : VerticalWord) → SaysNone text entry ⊎ SaysWord text entry → 0 < entry.bits → SaysWord (text ++ more) entry
said text more entry (inl none) some = absurd (omega (arith, none.0))
said text more entry (inr word) some = (word.0, (word.1.0 ++ more, ap (λ b. b ++ more) word.1.1 ∙ append_assoc (mode_word (Vertical entry.offset)) word.1.0 more))

said_none : (text more : List Bool) (entry : VerticalWord) → SaysNone text entry ⊎ SaysWord text entry → entry.bits ≡ 0 → (o : Offset) (rest : List Bool) → text ++ more ≡ mode_word (Vertical o) ++ rest → ⊥
said_none text more entry (inl none) no_bits o rest e = other_not_vertical text more none.1 o rest e
said_none text more entry (inr word) no_bits o rest e = let size = offset_size entry.offset in omega (arith, word.0)

-- the entry of a window's first 7 bits
module _ (window : ℕ) (below : window < 2 ^ 64) (entry : VerticalWord) (is : entry ≡ slice_index_or VERTICAL_WORDS (window / 2 ^ 57) NOT_VERTICAL) where
  entry_right : is_right (word_bits 7 (window / 2 ^ 57)) entry ≡ true
  entry_right =
      let at : is_right (word_bits 7 (0 + window / 2 ^ 57)) (slice_index_or VERTICAL_WORDS (window / 2 ^ 57) NOT_VERTICAL) ≡ true = are_right_at 0 VERTICAL_WORDS vertical_words_are_right (window / 2 ^ 57) (omega arith) in
      let place : 0 + window / 2 ^ 57 ≡ window / 2 ^ 57 = omega arith in
      rw is (rw place at at)

  of_seven : SaysNone (word_bits 7 (window / 2 ^ 57)) entry ⊎ SaysWord (word_bits 7 (window / 2 ^ 57)) entry
  of_seven = says (word_bits 7 (window / 2 ^ 57)) entry entry_right

  pub entry_back : IsBack entry.offset entry.back
  entry_back = says_back (word_bits 7 (window / 2 ^ 57)) entry entry_right

  pub entry_few : entry.bits ≤ 7
  entry_few = few_of (word_bits 7 (window / 2 ^ 57)) entry of_seven

  pub entry_says : 0 < entry.bits → SaysWord (word_bits 64 window) entry
  entry_says some =
      let whole : word_bits 64 window ≡ word_bits 7 (window / 2 ^ 57) ++ word_bits 57 window = word_bits-add 7 57 window in
      rw whole (said (word_bits 7 (window / 2 ^ 57)) (word_bits 57 window) entry of_seven some)

  pub entry_none : entry.bits ≡ 0 → (o : Offset) (rest : List Bool) → word_bits 64 window ≡ mode_word (Vertical o) ++ rest → ⊥
  entry_none none o rest e =
      said_none (word_bits 7 (window / 2 ^ 57)) (word_bits 57 window) entry of_seven none o rest (sym (word_bits-add 7 57 window) ∙ e)

-- ---- what a window shows

-- at first it shows what is known
pub Shows-first : (window known : ℕ) (bits : List Bool) → known ≡ min 56 (length bits) → word_bits 56 window ≡ padded 56 bits → Shows (window * 2 ^ 8 % 2 ^ 64) known (drop (known - known) bits)
Shows-first window known bits k e =
    let none : known - known ≡ 0 = omega arith in
    rw none (record {
      rest = replicate (56 - known) false ++ replicate 8 false;
      front = word_bits-mod 64 64 (window * 2 ^ 8) (omega arith) ∙ word_bits-shl 56 8 window ∙ ap (λ b. b ++ replicate 8 false) (e ∙ padded-known 56 known bits k) ∙ append_assoc (take known bits) (replicate (56 - known) false) (replicate 8 false);
      there = omega arith;
    })

-- the bits after the first n, moved to the top
pub moved_up : (window n : ℕ) → n ≤ 64 → word_bits 64 (window * 2 ^ n % 2 ^ 64) ≡ drop n (word_bits 64 window) ++ replicate n false
moved_up window n few =
    let parts : n + (64 - n) ≡ 64 = omega arith in
    let parts2 : 64 - n + n ≡ 64 = omega arith in
    let split : word_bits 64 window ≡ word_bits n (window / 2 ^ (64 - n)) ++ word_bits (64 - n) window = rw parts at (word_bits-add n (64 - n) window) in
    let after : drop n (word_bits 64 window) ≡ word_bits (64 - n) window = ap (drop n) split ∙ drop_at (word_bits n (window / 2 ^ (64 - n))) (word_bits (64 - n) window) n (length-word_bits n (window / 2 ^ (64 - n))) in
    let up : word_bits 64 (window * 2 ^ n) ≡ word_bits (64 - n) window ++ replicate n false = rw parts2 at (word_bits-shl (64 - n) n window) in
    word_bits-mod 64 64 (window * 2 ^ n) (omega arith) ∙ up ∙ ap (λ b. b ++ replicate n false) (sym after)

-- the first 56 bits of 64
pub first_56 : (window : ℕ) (word rest : List Bool) → word_bits 56 (window / 2 ^ 8) ≡ word ++ rest → word_bits 64 window ≡ word ++ (rest ++ word_bits 8 window)
first_56 window word rest e = word_bits-add 56 8 window ∙ ap (λ b. b ++ word_bits 8 window) e ∙ append_assoc word rest (word_bits 8 window)

-- the word that begins the window, where so many bits are known, begins the bits
module _ (window known n : ℕ) (bits word more : List Bool) (shows : Shows window known bits) (size : length word ≡ n) (few : n ≤ known) (begun : word_bits 64 window ≡ word ++ more) where
  pub shown_word : take n bits ≡ word
  shown_word =
      let long : length (take known bits) ≡ known = length-take-le known bits shows.there in
      sym (take-take n known bits few)
      ∙ sym (take-append-le n (take known bits) shows.rest (omega arith))
      ∙ ap (take n) (sym shows.front ∙ begun)
      ∙ take_at word more n size

pub Shows-next : (window known n : ℕ) (bits : List Bool) → Shows window known bits → n ≤ known → (next : ℕ) → word_bits 64 next ≡ drop n (word_bits 64 window) ++ replicate n false → Shows next (known - n) (drop n bits)
Shows-next window known n bits shows few next e =
    let long : length (take known bits) ≡ known = length-take-le known bits shows.there in
    let parts : known ≡ n + (known - n) = omega arith in
    let front : drop n (word_bits 64 window) ≡ take (known - n) (drop n bits) ++ shows.rest =
    ap (drop n) shows.front ∙ drop-append-le n (take known bits) shows.rest (omega arith) ∙ ap (λ b. b ++ shows.rest) (ap (λ k. drop n (take k bits)) parts ∙ drop-take n (known - n) bits) in
    record {
      rest = shows.rest ++ replicate n false;
      front = e ∙ ap (λ b. b ++ replicate n false) front ∙ append_assoc (take (known - n) (drop n bits)) shows.rest (replicate n false);
      there = omega (arith, shows.there, length-drop n bits);
    }

pub ShowsAfter-next : (window known n next : ℕ) → n ≤ known → word_bits 64 next ≡ drop n (word_bits 64 window) ++ replicate n false → ShowsAfter window known next (known - n)
ShowsAfter-next window known n next few e =
    let back : known - (known - n) ≡ n = omega arith in
    record { less = omega arith; shows = λ bits s. rw back (Shows-next window known n bits s few next e) }

-- the word that begins the window
pub FirstAre-word : (window known n : ℕ) (word more : List Bool) → length word ≡ n → n ≤ known → word_bits 64 window ≡ word ++ more → FirstAre window known (known - n) word
FirstAre-word window known n word more size few begun = λ bits s. (
    let back : known - (known - n) ≡ n = omega arith in
    rw back (shown_word window known n bits word more s size few begun))

pub FirstAre-then : (w k w1 k1 k2 : ℕ) (s t : List Bool) → ShowsAfter w k w1 k1 → k2 ≤ k1 → FirstAre w k k1 s → FirstAre w1 k1 k2 t → FirstAre w k k2 (s ++ t)
FirstAre-then w k w1 k1 k2 s t after less f g = λ bits h. (
    let sum : k - k2 ≡ (k - k1) + (k1 - k2) = omega (arith, after.less) in
    ap (λ (n : ℕ). take n bits) sum ∙ take-add (k - k1) (k1 - k2) bits ∙ ap₂ (λ (a b : List Bool). a ++ b) (f bits h) (g (drop (k - k1) bits) (after.shows bits h)))

pub ShowsAfter-then : (w k w1 k1 w2 k2 : ℕ) → ShowsAfter w k w1 k1 → ShowsAfter w1 k1 w2 k2 → ShowsAfter w k w2 k2
ShowsAfter-then w k w1 k1 w2 k2 p q =
    let sum : (k - k1) + (k1 - k2) ≡ k - k2 = omega (arith, p.less, q.less) in
    record {
      less = omega (arith, p.less, q.less);
      shows = λ bits h. subst (λ (b : List Bool). Shows w2 k2 b) (drop-drop (k1 - k2) (k - k1) bits ∙ ap (λ (n : ℕ). drop n bits) sum) (q.shows (drop (k - k1) bits) (p.shows bits h));
    }

pub horizontal_word : word_bits 3 1 ≡ mode_word Horizontal
unfolding word_bits bit
horizontal_word = refl

-- the word of horizontal mode begins a window
pub horizontal_begins : (window : ℕ) → window / 2 ^ 61 ≡ 1 → word_bits 64 window ≡ mode_word Horizontal ++ word_bits 61 window
horizontal_begins window e = word_bits-add 3 61 window ∙ ap (λ (n : ℕ). word_bits 3 n ++ word_bits 61 window) e ∙ ap (λ (b : List Bool). b ++ word_bits 61 window) horizontal_word

pub pass_word : word_bits 4 1 ≡ mode_word Pass
unfolding word_bits bit
pass_word = refl

-- the word of pass mode begins a window
pub pass_begins : (window : ℕ) → window / 2 ^ 60 ≡ 1 → word_bits 64 window ≡ mode_word Pass ++ word_bits 60 window
pass_begins window e = word_bits-add 4 60 window ∙ ap (λ (n : ℕ). word_bits 4 n ++ word_bits 60 window) e ∙ ap (λ (b : List Bool). b ++ word_bits 60 window) pass_word

zero_word : word_bits 1 1 ≡ mode_word (Vertical Zero)
unfolding word_bits bit
zero_word = refl

-- the word of vertical mode with a1 at b1 begins a window
pub zero_begins : (window : ℕ) → window / 2 ^ 63 ≡ 1 → word_bits 64 window ≡ mode_word (Vertical Zero) ++ word_bits 63 window
zero_begins window e = word_bits-add 1 63 window ∙ ap (λ (n : ℕ). word_bits 1 n ++ word_bits 63 window) e ∙ ap (λ (b : List Bool). b ++ word_bits 63 window) zero_word

-- ---- places
pub after_none : (p : Place) (k : ℕ) → after_place p (k - k) ≡ p
after_none p k = let none : k - k ≡ 0 = omega arith in rw (none, add-zero) refl

pub skipped : (p q : Place) (n : ℕ) → n ≤ length p.left → Passes p q (take n p.left) → after_place p n ≡ q
skipped p q n few passes =
    let long : length (take n p.left) ≡ n = length-take-le n p.left few in
    let left : drop n p.left ≡ q.left = ap (drop n) passes.bits ∙ drop_at (take n p.left) q.left n long in
    let passed : p.passed + n ≡ q.passed = omega (arith, passes.place) in
    rw (left, passed) refl

pub passes_shown : (p : Place) (k n next : ℕ) (text : List Bool) → n ≤ length (drop k p.left) → take n (drop k p.left) ≡ text → next ≡ k + n → Passes (after_place p k) (after_place p next) text
passes_shown p k n next text few is e =
    let long : length (take n (drop k p.left)) ≡ n = length-take-le n (drop k p.left) few in
    let size : length text ≡ n = sym (ap length is) ∙ long in
    rw e (record {
      bits = sym (take-append-drop n (drop k p.left)) ∙ ap₂ (λ (a b : List Bool). a ++ b) is (drop-drop n k p.left);
      place = omega arith;
    })

-- the step is the same, whatever the index
pub TakesStep-at : (reference : Elements) (width : ℕ) (mode : Mode) (text : List Bool) (before : Elements) (start : Start) (index : ℕ) (after : Elements) (next : Start)
    → TakesStep reference width mode text before (record { from = start.from; colour = start.colour; index = index }) after next → TakesStep reference width mode text before start after next
TakesStep-at reference width mode text before start index after next t = record { place = t.place; from_is = t.from_is; right = t.right; completes = t.completes; step = t.step }

pub TakesStep-to : (reference : Elements) (width : ℕ) (mode : Mode) (text : List Bool) (before : Elements) (start : Start) (after : Elements) (next : Start) (index : ℕ)
    → TakesStep reference width mode text before start after (record { from = next.from; colour = next.colour; index = index }) → TakesStep reference width mode text before start after next
TakesStep-to reference width mode text before start after next index t = record { place = t.place; from_is = t.from_is; right = t.right; completes = t.completes; step = t.step }
