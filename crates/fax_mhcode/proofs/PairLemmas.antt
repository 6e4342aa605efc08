-- A white word and a black one in one window.
use Rattle.std.proofs.Common.{◌≡◌, ℕ, ◌+◌, ◌-◌, ◌*◌, ◌/◌, ◌%◌, ◌^◌, ◌<◌, ◌≤◌, Bool, false, List, ◌++◌, length, take, drop, replicate, refl, sym, ◌∙◌, ap, ap₂, subst, arith, append_assoc, length-append, length-take-le, add-zero}
use Rattle.std.proofs.lemmas.List.{drop-append-le, drop-drop, drop-take, length-drop, length-replicate, replicate-append-replicate, take-append-drop, take_at}
use Rattle.std.proofs.Math.Seq.{take-append_seam}
use Rattle.fax_bits.specs.Bits.{word_bits}
use Rattle.fax_bits.specs.Reading.{Place, Passes}
use Rattle.fax_bits.proofs.BitsLemmas.{word_bits-add, word_bits-mod, word_bits-shl, length-word_bits}
use Rattle.fax_bits.proofs.WindowLemmas.{shifted_bits}
use Rattle.fax_runcodes.specs.declared.Colour.TheVariants.{White, Black}
use Rattle.fax_runcodes.specs.Pairs.{IsPairAt}
use Rattle.fax_runcodes.specs.declared.tables.WordPair.{WordPair}
use Rattle.fax_runcodes.specs.Rows.{Elements}
use Rattle.fax_runcodes.specs.Spelling.{SpellsRun}
use Rattle.fax_runcodes.proofs.ReadLemmas.{front_of}
use Rattle.fax_runcodes.proofs.RunAtLemmas.{short_spelt}
use Rattle.fax_mhcode.specs.Pairs.{GoesOn, RunsSoFar, SpellsPair}
use Rattle.fax_mhcode.proofs.LineLemmas.{RunsSoFar-more, length-paint}

-- the pair that a shifted window begins with stands in the bits after those that were used
pub pair_spelt : (left window after : List Bool) (used : ℕ) (found : WordPair) → take 56 left ≡ window → length window ≡ 56
    → after ≡ drop used window ++ replicate used false → used + 11 ≤ 56 → IsPairAt after found
    → SpellsPair (drop used left) found.white found.black found.bits
pair_spelt left window after used found front wide is_after within at =
    let both : List Bool = at.white.word ++ at.black.word in
    let long : length both ≡ length at.white.word + length at.black.word = length-append at.white.word at.black.word in
    let ahead : length (drop used window) ≡ 56 - used = length-drop used window ∙ ap (λ (n : ℕ). n - used) wide in
    let begun : both ++ at.begins.rest ≡ drop used window ++ replicate used false = sym at.begins.bits_are ∙ is_after in
    let there : drop used window ≡ both ++ drop (length both) (drop used window) =
    front_of both (drop used window) at.begins.rest (replicate used false) begun (omega (arith, long, at.begins.few, ahead)) in
    let all : left ≡ window ++ drop 56 left = sym (take-append-drop 56 left) ∙ ap (λ (bits : List Bool). bits ++ drop 56 left) front in
    let after_used : drop used left ≡ drop used window ++ drop 56 left = ap (drop used) all ∙ drop-append-le used window (drop 56 left) (omega (arith, wide)) in
    record {
      white_text = at.white.word;
      black_text = at.black.word;
      rest = drop (length both) (drop used window) ++ drop 56 left;
      white_spelt = subst (λ (n : ℕ). SpellsRun White at.white.word n) at.white_is (short_spelt White at.white at.begins.white_ends);
      black_spelt = subst (λ (n : ℕ). SpellsRun Black at.black.word n) at.black_is (short_spelt Black at.black at.begins.black_ends);
      bits_are = after_used ∙ ap (λ (bits : List Bool). bits ++ drop 56 left) there ∙ append_assoc both (drop (length both) (drop used window)) (drop 56 left);
      size_is = sym at.bits_is;
    }

-- a window that is shifted once more
pub after_more : (size : ℕ) (window after next : List Bool) (used n : ℕ) → length window ≡ size → used + n ≤ size
    → after ≡ drop used window ++ replicate used false → next ≡ drop n after ++ replicate n false
    → next ≡ drop (used + n) window ++ replicate (used + n) false
after_more size window after next used n wide within is_after is_next =
    let ahead : length (drop used window) ≡ size - used = length-drop used window ∙ ap (λ (k : ℕ). k - used) wide in
    is_next
    ∙ ap (λ (bits : List Bool). drop n bits ++ replicate n false) is_after
    ∙ ap (λ (bits : List Bool). bits ++ replicate n false) (drop-append-le n (drop used window) (replicate used false) (omega arith))
    ∙ append_assoc (drop n (drop used window)) (replicate used false) (replicate n false)
    ∙ ap (λ (bits : List Bool). bits ++ (replicate used false ++ replicate n false)) (drop-drop n used window)
    ∙ ap (λ (bits : List Bool). drop (used + n) window ++ bits) (replicate-append-replicate used n false)

-- ---- a window at the top of 64 bits
abbrev pub at_top : List Bool → List Bool
at_top window = window ++ replicate 8 false

pub at_top_bits : (window : ℕ) → word_bits 64 (window * 2 ^ 8 % 18446744073709551616) ≡ at_top (word_bits 56 window)
at_top_bits window = word_bits-mod 64 64 (window * 2 ^ 8) (omega arith) ∙ word_bits-shl 56 8 window

pub shifted_top : (rest n : ℕ) → n ≤ 64 → word_bits 64 (rest * 2 ^ n % 18446744073709551616) ≡ drop n (word_bits 64 rest) ++ replicate n false
shifted_top rest n few = word_bits-mod 64 64 (rest * 2 ^ n) (omega arith) ∙ shifted_bits 64 rest n few

-- its first 56 bits, once it is shifted
pub top_of : (rest : ℕ) (window : List Bool) (used : ℕ) → length window ≡ 56 → used ≤ 56 → word_bits 64 rest ≡ drop used (at_top window) ++ replicate used false
    → word_bits 56 (rest / 2 ^ 8) ≡ drop used window ++ replicate used false
top_of rest window used wide within is =
    let swap : 8 + used ≡ used + 8 = omega arith in
    let front : length (drop used window) ≡ 56 - used = length-drop used window ∙ ap (λ (n : ℕ). n - used) wide in
    let zeros : length (replicate used false) ≡ used = length-replicate used false in
    let all : length (drop used window ++ replicate used false) ≡ 56 = omega (arith, length-append (drop used window) (replicate used false), front, zeros) in
    let text : word_bits 64 rest ≡ (drop used window ++ replicate used false) ++ replicate 8 false =
    is ∙ ap (λ (bits : List Bool). bits ++ replicate used false) (drop-append-le used window (replicate 8 false) (omega (arith, wide)))
    ∙ append_assoc (drop used window) (replicate 8 false) (replicate used false)
    ∙ ap (λ (bits : List Bool). drop used window ++ bits) (replicate-append-replicate 8 used false ∙ ap (λ (n : ℕ). replicate n false) swap ∙ sym (replicate-append-replicate used 8 false))
    ∙ sym (append_assoc (drop used window) (replicate used false) (replicate 8 false)) in
    sym (take_at (word_bits 56 (rest / 2 ^ 8)) (word_bits 8 rest) 56 (length-word_bits 56 (rest / 2 ^ 8)))
    ∙ ap (take 56) (sym (word_bits-add 56 8 rest) ∙ text) ∙ take_at (drop used window ++ replicate used false) (replicate 8 false) 56 all

-- the place after the first bits of what is left
abbrev pub after_first : ℕ → Place → Place
after_first n here = record { passed = here.passed + n; left = drop n here.left }

pub first_passes : (here : Place) (n : ℕ) → n ≤ length here.left → Passes here (after_first n here) (take n here.left)
first_passes here n le = record {
  bits = sym (take-append-drop n here.left);
  place = ap (λ (k : ℕ). here.passed + k) (sym (length-take-le n here.left le));
}

pub rest_passes : (here there : Place) (n more : ℕ) → n + more ≤ length here.left → Passes here there (take (n + more) here.left)
    → Passes (after_first n here) there (take more (drop n here.left))
rest_passes here there n more le passed =
    let size : length (take (n + more) here.left) ≡ n + more = length-take-le (n + more) here.left le in
    let rest : length (drop n here.left) ≡ length here.left - n = length-drop n here.left in
    let last : length (take more (drop n here.left)) ≡ more = length-take-le more (drop n here.left) (omega arith) in
    record {
      bits =
          ap (drop n) passed.bits
          ∙ drop-append-le n (take (n + more) here.left) there.left (omega arith)
          ∙ ap (λ (bits : List Bool). bits ++ there.left) (drop-take n more here.left);
      place = omega (arith, passed.place, size, last);
    }

-- the runs so far, and a white one and a black one
pub RunsSoFar-pair : (width : ℕ) (old here new : Place) (row : Elements) (white black size : ℕ) → RunsSoFar width old here row White
    → SpellsPair here.left white black size → Passes here new (take size here.left) → length row + white < width → length row + white + black ≤ width
    → RunsSoFar width old new ((row ++ replicate white White) ++ replicate black Black) White
RunsSoFar-pair width old here new row white black size so_far pair passed less within =
    let text : take size here.left ≡ pair.white_text ++ pair.black_text =
    ap (λ (k : ℕ). take k here.left) (pair.size_is ∙ sym (length-append pair.white_text pair.black_text)) ∙ ap (take (length (pair.white_text ++ pair.black_text))) pair.bits_are ∙ take-append_seam (pair.white_text ++ pair.black_text) pair.rest in
    let mid : Place = record { passed = here.passed + length pair.white_text; left = pair.black_text ++ new.left } in
    let first : Passes here mid pair.white_text = record {
      bits = passed.bits ∙ ap (λ (bits : List Bool). bits ++ new.left) text ∙ append_assoc pair.white_text pair.black_text new.left;
      place = refl;
    } in
    let long : length (take size here.left) ≡ length pair.white_text + length pair.black_text = ap length text ∙ length-append pair.white_text pair.black_text in
    let second : Passes mid new pair.black_text = record { bits = refl; place = omega (arith, passed.place) } in
    let longer : length (row ++ replicate white White) ≡ length row + white = length-paint row (row ++ replicate white White) white White refl in
    RunsSoFar-more width old mid new (row ++ replicate white White) Black pair.black_text black
    (RunsSoFar-more width old here mid row White pair.white_text white so_far pair.white_spelt first (omega arith) (omega arith))
    pair.black_spelt second (omega arith) (omega arith)

-- ---- any runs so far go on
pub GoesOn-pair : (here there : Place) (row new : Elements) (white black size left after : ℕ) → new ≡ (row ++ replicate white White) ++ replicate black Black
    → SpellsPair here.left white black size → Passes here there (take size here.left) → 0 < black → white + black + after ≡ left → GoesOn here row left there new after
GoesOn-pair here there row new white black size left after painted pair passed some fits width start so_far is =
    rw painted (RunsSoFar-pair width start here there row white black size so_far pair passed (omega arith) (omega arith))

pub GoesOn-then : (here mid there : Place) (row more new : Elements) (left fewer after : ℕ) → length row + left ≡ length more + fewer
    → GoesOn here row left mid more fewer → GoesOn mid more fewer there new after → GoesOn here row left there new after
GoesOn-then here mid there row more new left fewer after same first second width start so_far is =
    second width start (first width start so_far is) (omega arith)

pub GoesOn-none : (here : Place) (row : Elements) (left : ℕ) → GoesOn here row left here row left
GoesOn-none here row left width start so_far is = so_far

abbrev place_of : ℕ → List Bool → Place
place_of n bits = record { passed = n; left = bits }

-- nothing is passed
pub nothing_passed : (here there : Place) → Passes here there (take 0 here.left) → there ≡ here
nothing_passed here there passed =
    let left : there.left ≡ here.left = sym passed.bits in
    let place : there.passed ≡ here.passed = passed.place ∙ add-zero here.passed in
    ap₂ (λ (n : ℕ) (bits : List Bool). place_of n bits) place left
