-- What stands before the first EOL, and what of it matters no more.
use Rattle.std.proofs.Common.{◌≡◌, ℕ, ◌+◌, ◌-◌, ◌*◌, ◌<◌, ◌≤◌, Bool, true, List, [], ◌∷◌, ◌++◌, length, take, drop, refl, sym, ◌∙◌, ap, subst, arith, append_assoc, append-nil, length-append, length-drop, inl, inr}
use Rattle.std.proofs.lemmas.List.{drop_at, drop-drop, drop-append-le, take-append-le, take_at, take-append-drop, length-take-le}
use Rattle.std.proofs.Math.Seq.{take-append-add}
use Rattle.std.proofs.lemmas.Bool.{cases_lt}
use Rattle.fax_bits.specs.Bits.{bits_of}
use Rattle.fax_bits.proofs.BitsLemmas.{length-bits_of}
use Rattle.fax_runcodes.specs.declared.format.Coding.{Coding}
use Rattle.fax_runcodes.specs.declared.format.Coding.TheVariants.{Mh, Mr}
use Rattle.fax_pagestore.specs.PageTexts.{end_of_line, IsTag, IsFront}
use Rattle.fax_pagestore.specs.PageFaults.{HasNoEol}
use Rattle.fax_pagestore.specs.Ends.{HoldsNoTaggedEol, BeginNoEol}
use Rattle.fax_pagestore.proofs.EndsLemmas.{ends_at}

-- ---- parts of bits

-- what stands after a front that is not longer than another
pub after_front : (before left front rest : List Bool) → before ++ left ≡ front ++ rest → length before ≤ length front → left ≡ drop (length before) front ++ rest
after_front before left front rest e le =
    sym (drop_at before left (length before) refl) ∙ ap (drop (length before)) e ∙ drop-append-le (length before) front rest le

-- a front that ends within bits, whatever follows them
pub within : (bits more front rest : List Bool) → bits ++ more ≡ front ++ rest → length front ≤ length bits → bits ≡ front ++ drop (length front) bits
within bits more front rest e le =
    let begins : take (length front) bits ≡ front =
    sym (take-append-le (length front) bits more le) ∙ ap (take (length front)) e ∙ take_at front rest (length front) refl in
    sym (take-append-drop (length front) bits) ∙ ap (λ b. b ++ drop (length front) bits) begins

-- bits after a place are those up to another, and those after that
pub between : (bits : List Bool) (used place : ℕ) → used ≤ place → drop used bits ≡ take (place - used) (drop used bits) ++ drop place bits
between bits used place le =
    let whole : used + (place - used) ≡ place = omega arith in
    sym (take-append-drop (place - used) (drop used bits)) ∙ ap (λ b. take (place - used) (drop used bits) ++ b) (drop-drop (place - used) used bits ∙ ap (λ n. drop n bits) whole)

-- ---- fronts

-- a front is one of bits that hold an EOL with its tag
pub front_tagged : (coding : Coding) (tag : Bool) (text rest bits : List Bool) → IsFront coding tag text → bits ≡ text ++ rest
    → (before tag_text : List Bool) × IsTag coding tag tag_text × (bits ≡ before ++ (end_of_line ++ (tag_text ++ rest)))
front_tagged coding tag text rest bits is e =
    let before : List Bool = is.ends.0 in (
      before,
      is.tag_text,
      is.is_tag,
      ends_at text before is.tag_text rest bits (is.text_is ∙ ap (λ b. b ++ is.tag_text) is.ends.1 ∙ append_assoc before end_of_line is.tag_text) e,
    )

-- the front of what is left is that of all, where no EOL begins before it
pub front_after : (coding : Coding) (tag : Bool) (before left front rest : List Bool) → BeginNoEol before left → IsFront coding tag front → left ≡ front ++ rest → IsFront coding tag (before ++ front)
front_after coding tag before left front rest begin is e = record {
  front = before ++ is.front;
  tag_text = is.tag_text;
  text_is = ap (λ b. before ++ b) is.text_is ∙ sym (append_assoc before is.front is.tag_text);
  ends = (before ++ is.ends.0, ap (λ b. before ++ b) is.ends.1 ∙ sym (append_assoc before is.ends.0 end_of_line));
  shortest = λ k lt ends.
      let whole : before ++ left ≡ (before ++ is.front) ++ (is.tag_text ++ rest) =
      ap (λ b. before ++ b) (e ∙ ap (λ b. b ++ rest) is.text_is ∙ append_assoc is.front is.tag_text rest) ∙ sym (append_assoc before is.front (is.tag_text ++ rest)) in
      let cut : before ++ is.front ≡ take k (before ++ is.front) ++ drop k (before ++ is.front) = sym (take-append-drop k (before ++ is.front)) in
      let there : before ++ (left ++ []) ≡ ends.0 ++ (end_of_line ++ (drop k (before ++ is.front) ++ (is.tag_text ++ rest))) =
      ap (λ b. before ++ b) (append-nil left) ∙ whole ∙ ap (λ b. b ++ (is.tag_text ++ rest)) (cut ∙ ap (λ b. b ++ drop k (before ++ is.front)) ends.1)
      ∙ append_assoc (ends.0 ++ end_of_line) (drop k (before ++ is.front)) (is.tag_text ++ rest)
      ∙ append_assoc ends.0 end_of_line (drop k (before ++ is.front) ++ (is.tag_text ++ rest)) in
      let at : length before ≤ length ends.0 = begin [] ends.0 (drop k (before ++ is.front) ++ (is.tag_text ++ rest)) there in
      let size : length (take k (before ++ is.front)) ≡ k = length-take-le k (before ++ is.front) (omega (arith, lt)) in
      let long : length before ≤ k = omega (arith, at, size, ap length ends.1, length-append ends.0 end_of_line) in
      let back : length before + (k - length before) ≡ k = omega (arith, long) in
      let parts : take k (before ++ is.front) ≡ before ++ take (k - length before) is.front =
      ap (λ n. take n (before ++ is.front)) (sym back) ∙ take-append-add before is.front (k - length before) in
      is.shortest (k - length before) (omega (arith, lt, long, length-append before is.front))
      (drop (length before) ends.0, after_front before (take (k - length before) is.front) ends.0 end_of_line (sym parts ∙ ends.1) at);
  is_tag = is.is_tag;
}

-- octets have no first EOL where none begins before what is left, and none stands there
pub nowhere_eol : (coding : Coding) (octets : List ℕ) (before left : List Bool) → bits_of octets ≡ before ++ left → BeginNoEol before left → HoldsNoTaggedEol coding left → HasNoEol coding octets
nowhere_eol coding octets before left whole begin none = λ tag front rest is e.
    let t = front_tagged coding tag front rest (bits_of octets) is e in
    let all : before ++ left ≡ t.0 ++ (end_of_line ++ (t.1 ++ rest)) = sym whole ∙ t.3 in
    let at : length before ≤ length t.0 = begin [] t.0 (t.1 ++ rest) (ap (λ b. before ++ b) (append-nil left) ∙ all) in
    none tag (drop (length before) t.0) t.1 rest t.2 (after_front before left t.0 (end_of_line ++ (t.1 ++ rest)) all at)

-- ---- what is left, with more after it

pub BeginNoEol-none : (left : List Bool) → BeginNoEol [] left
BeginNoEol-none left = λ more front rest e. omega arith

pub BeginNoEol-more : (before left piece : List Bool) → BeginNoEol before left → BeginNoEol before (left ++ piece)
BeginNoEol-more before left piece begin = λ more front rest e. begin (piece ++ more) front rest (ap (λ b. before ++ b) (sym (append_assoc left piece more)) ∙ e)

pub HoldsNoTaggedEol-none : (coding : Coding) → HoldsNoTaggedEol coding []
unfolding end_of_line
HoldsNoTaggedEol-none coding = λ tag before tag_text rest is e.
    omega (arith, ap length e, length-append before (end_of_line ++ (tag_text ++ rest)), length-append end_of_line (tag_text ++ rest))

-- ---- fewer bits left

pub HoldsNoTaggedEol-fewer : (coding : Coding) (before left : List Bool) → HoldsNoTaggedEol coding (before ++ left) → HoldsNoTaggedEol coding left
HoldsNoTaggedEol-fewer coding before left none = λ tag front tag_text rest is e.
    none tag (before ++ front) tag_text rest is (ap (λ b. before ++ b) e ∙ sym (append_assoc before front (end_of_line ++ (tag_text ++ rest))))

-- an EOL that ends one bit before the end of bits has its tag there
tag_after : (coding : Coding) (bits front rest : List Bool) → 1 ≤ length rest → HoldsNoTaggedEol coding bits → bits ≡ front ++ (end_of_line ++ rest) → ⊥
tag_after Mh bits front rest some none e = none true front [] rest (refl, refl) e
tag_after Mr bits front [] some none e = absurd (omega arith)
tag_after Mr bits front (tag ∷ rest) some none e = none tag front (tag ∷ []) rest refl e

-- so none begins 13 bits before the end, whatever follows
tagged_within : (coding : Coding) (bits more front rest : List Bool) → length front + 13 ≤ length bits → HoldsNoTaggedEol coding bits → bits ++ more ≡ front ++ (end_of_line ++ rest) → ⊥
unfolding end_of_line
tagged_within coding bits more front rest inside none e =
    let size : length (front ++ end_of_line) ≡ length front + 12 = length-append front end_of_line in
    let here : bits ≡ (front ++ end_of_line) ++ drop (length (front ++ end_of_line)) bits =
    within bits more (front ++ end_of_line) rest (e ∙ sym (append_assoc front end_of_line rest)) (omega arith) in
    let left : length (drop (length (front ++ end_of_line)) bits) ≡ length bits - length (front ++ end_of_line) = length-drop (length (front ++ end_of_line)) bits in
    tag_after coding bits front (drop (length (front ++ end_of_line)) bits) (omega arith) none (here ∙ append_assoc front end_of_line (drop (length (front ++ end_of_line)) bits))

pub BeginNoEol-fewer : (coding : Coding) (before gone left : List Bool) → (0 < length gone → 13 ≤ length left) → HoldsNoTaggedEol coding (gone ++ left) → BeginNoEol before (gone ++ left)
    → BeginNoEol (before ++ gone) left
BeginNoEol-fewer coding before gone left enough none begin = λ more front rest e.
    let bits : List Bool = (gone ++ left) ++ more in
    let whole : before ++ bits ≡ front ++ (end_of_line ++ rest) =
    ap (λ b. before ++ b) (append_assoc gone left more) ∙ sym (append_assoc before gone (left ++ more)) ∙ e in
    let at : length before ≤ length front = begin more front rest whole in
    let after : bits ≡ drop (length before) front ++ (end_of_line ++ rest) = after_front before bits front (end_of_line ++ rest) whole at in
    let size : length (drop (length before) front) ≡ length front - length before = length-drop (length before) front in
    elim (cases_lt (length (drop (length before) front)) (length gone)) [
      | inl inside ↦ absurd (tagged_within coding (gone ++ left) more (drop (length before) front) rest (omega (arith, inside, enough (omega (arith, inside)), length-append gone left)) none after)
      | inr past ↦ omega (arith, past, at, size, length-append before gone)
    ]

-- ---- what of octets is kept

-- the bits after a place, where those after another that is not after it hold no EOL with its tag
pub left_after : (coding : Coding) (octets held : List ℕ) (used place : ℕ) → used ≤ place → (used < place → place + 13 ≤ 8 * length held) → HoldsNoTaggedEol coding (drop used (bits_of held))
    → (before : List Bool) × (bits_of octets ≡ before ++ drop used (bits_of held)) × BeginNoEol before (drop used (bits_of held))
    → (before : List Bool) × (bits_of octets ≡ before ++ drop place (bits_of held)) × BeginNoEol before (drop place (bits_of held))
left_after coding octets held used place le enough none (before, whole, begin) =
    let left : List Bool = drop place (bits_of held) in
    let gone : List Bool = take (place - used) (drop used (bits_of held)) in
    let split : drop used (bits_of held) ≡ gone ++ left = between (bits_of held) used place le in
    let long : 0 < length gone → 13 ≤ length left = λ some. elim (cases_lt used place) [
      | inl lt ↦ omega (arith, enough lt, length-drop place (bits_of held), length-bits_of held)
      | inr ge ↦
          let empty : place - used ≡ 0 = omega arith in
          absurd (omega (arith, some, ap (λ n. length (take n (drop used (bits_of held)))) empty))
    ] in (
      before ++ gone,
      whole ∙ ap (λ b. before ++ b) split ∙ sym (append_assoc before gone left),
      BeginNoEol-fewer coding before gone left long (subst (HoldsNoTaggedEol coding) split none) (subst (BeginNoEol before) split begin),
    )

pub none_after_place : (coding : Coding) (held : List ℕ) (used place : ℕ) → used ≤ place → HoldsNoTaggedEol coding (drop used (bits_of held)) → HoldsNoTaggedEol coding (drop place (bits_of held))
none_after_place coding held used place le none =
    HoldsNoTaggedEol-fewer coding (take (place - used) (drop used (bits_of held))) (drop place (bits_of held)) (subst (HoldsNoTaggedEol coding) (between (bits_of held) used place le) none)
