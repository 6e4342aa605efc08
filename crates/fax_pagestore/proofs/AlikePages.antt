-- Texts that differ by the number of zeros in one place, where both have many: octets of both mean the same page, or meet the same fault.
use Rattle.std.proofs.Common.{◌≡◌, ℕ, zero, suc, ◌+◌, ◌<◌, ◌≤◌, Bool, true, false, List, [], ◌∷◌, ◌++◌, Option, Some, None, length, take, drop, replicate, refl, sym, ◌∙◌, ap, subst, arith, inl, inr, ◌⊎◌, append_assoc, append-nil, length-append}
use Rattle.std.proofs.lemmas.List.{append_cancel_left, length-replicate, nil_from_length, replicate-append-replicate, take-append-drop, take-append-le, take_at}
use Rattle.std.proofs.lemmas.Bool.{cases_lt}
use Rattle.fax_bits.specs.Bits.{bits_of}
use Rattle.fax_runcodes.specs.declared.format.Coding.{Coding}
use Rattle.fax_runcodes.specs.declared.format.Coding.TheVariants.{Mh, Mr}
use Rattle.fax_runcodes.specs.Rows.{Elements}
use Rattle.fax_pagestore.specs.declared.fault.PageFault.{PageFault}
use Rattle.fax_pagestore.specs.declared.fault.PageFault.TheVariants.{NoEol, BadLine, NoRtc, Empty, TooManyRows, NoMemory}
use Rattle.fax_pagestore.specs.PageTexts.{end_of_line, IsTag, IsSeparator, InARow, EndsWithEol, IsFront, SpellsRows, ReadSoFar, MeansRows}
use Rattle.fax_pagestore.specs.PageFaults.{RunsOut, LineBegins, SeparatorBegins, WantsLine, Stops, FailsPage, last_of}
use Rattle.fax_pagestore.specs.Ends.{HoldsEol}
use Rattle.fax_pagestore.proofs.TextLemmas.{zeros_one, zeros_or_one, separator_bits, separator_not_runs_out, line_not_runs_out, what_begins}
use Rattle.fax_pagestore.proofs.FrontLemmas.{front_ends}
use Rattle.fax_pagestore.proofs.BeforeEolLemmas.{within}
use Rattle.fax_pagestore.proofs.ZerosAfterLemmas.{HoldsEol-zeros}
use Rattle.fax_pagestore.proofs.AlikeLemmas.{DifferAhead, DifferHere, Alike, Alike-swap, zeros_in_front, before_zeros, pass_few, after_text, Carries-word, carried, Carries-row, FailsRow-alike, ReadsRow-alike}

-- texts are the same but for the number of zeros in one place ahead
abbrev pub DifferOnce : List Bool → List Bool → Type 0
DifferOnce a b = (a ≡ b) ⊎ DifferAhead a b

pub DifferOnce-swap : (a b : List Bool) → DifferOnce a b → DifferOnce b a
DifferOnce-swap a b (inl same) = inl (sym same)
DifferOnce-swap a b (inr d) = inr (record { before = d.before; m = d.n; n = d.m; rest = d.rest; many = d.as_many; as_many = d.many; a_is = d.b_is; b_is = d.a_is })

-- bits begin with such a text, and what follows it is like this
abbrev BeginsAlike : (List Bool → Type 0) → List Bool → List Bool → Type 0
BeginsAlike IsText a bits = (text rest : List Bool) × IsText text × (bits ≡ text ++ rest) × Alike a rest

-- ---- separators

zeros_joined : (m n : ℕ) (rest : List Bool) → replicate m false ++ (replicate n false ++ rest) ≡ replicate (m + n) false ++ rest
zeros_joined m n rest = sym (append_assoc (replicate m false) (replicate n false) rest) ∙ ap (λ t. t ++ rest) (replicate-append-replicate m n false)

-- Bits begin with as many zeros as an EOL has and a 1, and what follows is like this.
record AfterOne (x bits : List Bool) : Type 0 where
  pub zeros : ℕ
  pub rest : List Bool
  pub many : 11 ≤ zeros
  pub bits_are : bits ≡ replicate zeros false ++ true ∷ rest
  pub differ : DifferOnce x rest

after_here : (z : ℕ) (x bits : List Bool) → DifferHere (replicate z false ++ true ∷ x) bits → AfterOne x bits
after_here z x bits d =
    let at = zeros_in_front d.m z d.rest x (sym d.a_is) in
    record {
      zeros = d.n + at.0;
      rest = x;
      many = omega (arith, d.as_many);
      bits_are = d.b_is ∙ ap (λ t. replicate d.n false ++ t) at.2 ∙ zeros_joined d.n at.0 (true ∷ x);
      differ = inl refl;
    }

after_one : (z : ℕ) (x bits : List Bool) → 11 ≤ z → Alike (replicate z false ++ true ∷ x) bits → AfterOne x bits
after_one z x bits many (inl same) = record { zeros = z; rest = x; many = many; bits_are = sym same; differ = inl refl }
after_one z x bits many (inr (inr here)) = after_here z x bits here
after_one z x bits many (inr (inl d)) =
    let zeros : List Bool = replicate d.m false ++ d.rest in
    let others : List Bool = replicate d.n false ++ d.rest in
    elim (zeros_or_one d.before) [
      | inl none ↦ after_here z x bits (record {
        m = none.0 + d.m;
        n = none.0 + d.n;
        rest = d.rest;
        many = omega (arith, d.many);
        as_many = omega (arith, d.as_many);
        a_is = d.a_is ∙ ap (λ t. t ++ zeros) none.1 ∙ zeros_joined none.0 d.m d.rest;
        b_is = d.b_is ∙ ap (λ t. t ++ others) none.1 ∙ zeros_joined none.0 d.n d.rest;
      })
      | inr one ↦
          let same = zeros_one z one.0 x (one.1 ++ zeros) (d.a_is ∙ ap (λ t. t ++ zeros) one.2 ∙ append_assoc (replicate one.0 false) (true ∷ one.1) zeros) in
          record {
            zeros = one.0;
            rest = one.1 ++ others;
            many = omega (arith, many, same.0);
            bits_are = d.b_is ∙ ap (λ t. t ++ others) one.2 ∙ append_assoc (replicate one.0 false) (true ∷ one.1) others;
            differ = inr (record { before = one.1; m = d.m; n = d.n; rest = d.rest; many = d.many; as_many = d.as_many; a_is = same.1; b_is = refl });
          }
    ]

tag_few : (coding : Coding) (tag : Bool) (text : List Bool) → IsTag coding tag text → length text ≤ 13
tag_few Mh tag text p = omega (arith, ap length p.1)
tag_few Mr tag text p = omega (arith, ap length p)

pass_tag : (coding : Coding) (tag : Bool) (text a bits : List Bool) → IsTag coding tag text → DifferOnce (text ++ a) bits → (rest : List Bool) × (bits ≡ text ++ rest) × Alike a rest
pass_tag coding tag text a bits p (inl same) = (a, sym same, inl refl)
pass_tag coding tag text a bits p (inr ahead) = pass_few text a bits (tag_few coding tag text p) ahead

pass_separator : (coding : Coding) (tag : Bool) (text a bits : List Bool) → IsSeparator coding tag text → Alike (text ++ a) bits → BeginsAlike (IsSeparator coding tag) a bits
pass_separator coding tag text a bits p alike =
    let one = after_one p.0 (p.1 ++ a) bits p.2 (subst (λ c. Alike c bits) (separator_bits coding tag text a p) alike) in
    let there = pass_tag coding tag p.1 a one.rest p.3 one.differ in (
      replicate one.zeros false ++ true ∷ p.1,
      there.0,
      (one.zeros, p.1, one.many, p.3, refl),
      after_text bits (replicate one.zeros false) (true ∷ one.rest) (true ∷ p.1) there.0 one.bits_are (ap (λ t. true ∷ t) there.1),
      there.2,
    )

pass_in_a_row : (coding : Coding) (tag : Bool) (n : ℕ) (text : List Bool) (last : Bool) (a bits : List Bool) → InARow coding tag n text last → Alike (text ++ a) bits
    → BeginsAlike (λ t. InARow coding tag n t last) a bits
pass_in_a_row coding tag zero text last a bits (e, is) alike = ([], bits, (refl, is), refl, subst (λ c. Alike (c ++ a) bits) e alike)
pass_in_a_row coding tag (suc n) text last a bits (one, first, rest, next, e, p, more) alike =
    let s = pass_separator coding next first (rest ++ a) bits p (subst (λ c. Alike c bits) (ap (λ c. c ++ a) e ∙ append_assoc first rest a) alike) in
    let r = pass_in_a_row coding next n rest last a s.1 more s.4 in
    (s.0 ++ r.0, r.1, (one, s.0, r.0, next, refl, s.2, r.2), after_text bits s.0 s.1 r.0 r.1 s.3 r.3, r.4)

-- ---- lines of rows

pass_rows : (coding : Coding) (width : ℕ) (tag : Bool) (before : Option Elements) (rows : List Elements) (text : List Bool) (last : Bool) (a bits : List Bool)
    → SpellsRows coding width tag before rows text last → Alike (text ++ a) bits → BeginsAlike (λ t. SpellsRows coding width tag before rows t last) a bits
pass_rows coding width tag before [] text last a bits (e, is) alike = ([], bits, (refl, is), refl, subst (λ c. Alike (c ++ a) bits) e alike)
pass_rows coding width tag before (row ∷ rows) text last a bits (line, separator, rest, next, e, spelt, is, more) alike =
    let whole : text ++ a ≡ line ++ (separator ++ (rest ++ a)) =
    ap (λ c. c ++ a) e ∙ append_assoc line (separator ++ rest) a ∙ ap (λ c. line ++ c) (append_assoc separator rest a) in
    let l = carried line (text ++ a) (separator ++ (rest ++ a)) bits (Carries-row width tag before line row spelt) whole alike in
    let s = pass_separator coding next separator (rest ++ a) l.0 is l.2 in
    let r = pass_rows coding width next (Some row) rows rest last a s.1 more s.4 in (
      line ++ (s.0 ++ r.0),
      r.1,
      (line, s.0, r.0, next, refl, spelt, s.2, r.2),
      after_text bits line l.0 (s.0 ++ r.0) r.1 l.1 (after_text l.0 s.0 s.1 r.0 r.1 s.3 r.3),
      r.4,
    )

-- ---- the front

-- no shorter front of these bits ends with an EOL
abbrev pub IsShortest : List Bool → Type 0
IsShortest front = (k : ℕ) → k < length front → EndsWithEol (take k front) → ⊥

-- so none ends in what stands before its last bits
none_before : (front before after : List Bool) → IsShortest front → front ≡ before ++ after → 0 < length after → HoldsEol before → ⊥
none_before front before after shortest e some (first, rest, holds) =
    let begin : List Bool = first ++ end_of_line in
    let whole : front ≡ begin ++ (rest ++ after) =
    e ∙ ap (λ t. t ++ after) (holds ∙ sym (append_assoc first end_of_line rest)) ∙ append_assoc begin rest after in
    let short : length begin < length front = omega (arith, some, ap length whole, length-append begin (rest ++ after), length-append rest after) in
    shortest (length begin) short (subst EndsWithEol (sym (ap (take (length begin)) whole ∙ take_at begin (rest ++ after) (length begin) refl)) (first, refl))

-- an EOL at the end of bits that are followed by others
ends_holds : (bits front rest : List Bool) → bits ≡ front ++ rest → EndsWithEol front → HoldsEol bits
ends_holds bits front rest e (before, ends) = (before, rest, e ∙ ap (λ t. t ++ rest) ends ∙ append_assoc before end_of_line rest)

-- zeros and a 1 are the shortest front that ends with an EOL, where none stands before them
pub zeros_shortest : (before : List Bool) (zeros : ℕ) → (HoldsEol before → ⊥) → IsShortest (before ++ (replicate zeros false ++ true ∷ []))
zeros_shortest before zeros none = λ k lt ends.
    let bits : List Bool = before ++ replicate zeros false in
    let whole : before ++ (replicate zeros false ++ true ∷ []) ≡ bits ++ true ∷ [] = sym (append_assoc before (replicate zeros false) (true ∷ [])) in
    let same : take k (before ++ (replicate zeros false ++ true ∷ [])) ≡ take k bits =
    ap (take k) whole ∙ take-append-le k bits (true ∷ []) (omega (arith, lt, ap length whole, length-append bits (true ∷ []))) in
    none (HoldsEol-zeros before zeros (ends_holds bits (take k bits) (drop k bits) (sym (take-append-drop k bits)) (subst EndsWithEol same ends)))

-- a front that goes on after what stands before the zeros ends with the 1 after them
ends_after : (front before rest x : List Bool) (m : ℕ) → 11 ≤ m → EndsWithEol front → IsShortest front → front ++ x ≡ before ++ (replicate m false ++ rest) → length before < length front
    → (more : ℕ) × (rest ≡ replicate more false ++ true ∷ x) × (HoldsEol before → ⊥)
ends_after front before rest x m many ends shortest whole past =
    let after : List Bool = drop (length before) front in
    let split : front ≡ before ++ after = within front x before (replicate m false ++ rest) whole (omega (arith, past)) in
    let some : 0 < length after = omega (arith, past, ap length split, length-append before after) in
    let none : HoldsEol before → ⊥ = none_before front before after shortest split some in
    let tail : after ++ x ≡ replicate m false ++ rest =
    append_cancel_left before (after ++ x) (replicate m false ++ rest) (sym (append_assoc before after x) ∙ ap (λ t. t ++ x) (sym split) ∙ whole) in
    elim (zeros_or_one after) [
      | inl zeros ↦ absurd (none (HoldsEol-zeros before zeros.0 (subst HoldsEol (split ∙ ap (λ t. before ++ t) zeros.1) (ends_holds front front [] (sym (append-nil front)) ends))))
      | inr one ↦
          let at = zeros_in_front m one.0 rest (one.1 ++ x) (sym tail ∙ ap (λ t. t ++ x) one.2 ∙ append_assoc (replicate one.0 false) (true ∷ one.1) x) in
          let begin : List Bool = before ++ (replicate one.0 false ++ true ∷ []) in
          let all : front ≡ begin ++ one.1 =
          split ∙ ap (λ t. before ++ t) (one.2 ∙ sym (append_assoc (replicate one.0 false) (true ∷ []) one.1)) ∙ sym (append_assoc before (replicate one.0 false ++ true ∷ []) one.1) in
          let last : one.1 ≡ [] = elim (cases_lt (length begin) (length front)) [
            | inl short ↦ absurd (shortest (length begin) short (subst EndsWithEol (sym (ap (take (length begin)) all ∙ take_at begin one.1 (length begin) refl)) (front_ends before one.0 (omega (arith, at.1, many)))))
            | inr whole ↦ nil_from_length one.1 (omega (arith, whole, ap length all, length-append begin one.1))
          ] in
          (at.0, at.2 ∙ ap (λ t. replicate at.0 false ++ true ∷ (t ++ x)) last, none)
    ]

-- the front that ends after the zeros
zeros_front : (coding : Coding) (tag : Bool) (before tag_text a : List Bool) (zeros : ℕ) (bits : List Bool) → IsTag coding tag tag_text → 11 ≤ zeros → (HoldsEol before → ⊥)
    → bits ≡ before ++ (replicate zeros false ++ true ∷ (tag_text ++ a)) → BeginsAlike (IsFront coding tag) a bits
zeros_front coding tag before tag_text a zeros bits is many none e =
    let front : List Bool = before ++ (replicate zeros false ++ true ∷ []) in (
      front ++ tag_text,
      a,
      record { front = front; tag_text = tag_text; text_is = refl; ends = front_ends before zeros many; shortest = zeros_shortest before zeros none; is_tag = is },
      e ∙ ap (λ t. before ++ t) (sym (append_assoc (replicate zeros false) (true ∷ []) (tag_text ++ a))) ∙ sym (append_assoc before (replicate zeros false ++ true ∷ []) (tag_text ++ a))
          ∙ sym (append_assoc front tag_text a),
      inl refl,
    )

front_ahead : (coding : Coding) (tag : Bool) (text a bits : List Bool) (p : IsFront coding tag text) → DifferAhead (p.front ++ (p.tag_text ++ a)) bits → BeginsAlike (IsFront coding tag) a bits
front_ahead coding tag text a bits p d = elim (cases_lt (length d.before) (length p.front)) [
  | inr inside ↦
      let f = before_zeros p.front (p.tag_text ++ a) bits d inside in
      let t = pass_tag coding tag p.tag_text a f.0 p.is_tag (inr f.2) in
      (text, t.0, p, after_text bits p.front f.0 p.tag_text t.0 f.1 t.1 ∙ ap (λ c. c ++ t.0) (sym p.text_is), t.2)
  | inl past ↦
      let at = ends_after p.front d.before d.rest (p.tag_text ++ a) d.m (omega (arith, d.many)) p.ends p.shortest d.a_is past in
      zeros_front coding tag d.before p.tag_text a (d.n + at.0) bits p.is_tag (omega (arith, d.as_many)) at.2
      (d.b_is ∙ ap (λ t. d.before ++ (replicate d.n false ++ t)) at.1 ∙ ap (λ t. d.before ++ t) (zeros_joined d.n at.0 (true ∷ (p.tag_text ++ a))))
]

pass_front : (coding : Coding) (tag : Bool) (text a bits : List Bool) → IsFront coding tag text → DifferOnce (text ++ a) bits → BeginsAlike (IsFront coding tag) a bits
pass_front coding tag text a bits p (inl same) = (text, a, p, sym same, inl refl)
pass_front coding tag text a bits p (inr d) =
    front_ahead coding tag text a bits p (subst (λ c. DifferAhead c bits) (ap (λ c. c ++ a) p.text_is ∙ append_assoc p.front p.tag_text a) d)

-- ---- what is read

pub read_alike : (coding : Coding) (width : ℕ) (octets others : List ℕ) (rows : List Elements) (further : ℕ) (tag : Bool) (rest : List Bool) → DifferOnce (bits_of octets) (bits_of others)
    → ReadSoFar coding width octets rows further tag rest → (more : List Bool) × ReadSoFar coding width others rows further tag more × Alike rest more
read_alike coding width octets others rows further tag rest differ r =
    let f = pass_front coding r.front_tag r.front (r.lines ++ (r.separators ++ rest)) (bits_of others) r.is_front (subst (λ c. DifferOnce c (bits_of others)) r.bits_are differ) in
    let l = pass_rows coding width r.front_tag None rows r.lines r.row_tag (r.separators ++ rest) f.1 r.spelt f.4 in
    let s = pass_in_a_row coding r.row_tag further r.separators tag rest l.1 r.in_a_row l.4 in (
      s.1,
      record {
        front = f.0;
        lines = l.0;
        separators = s.0;
        front_tag = r.front_tag;
        row_tag = r.row_tag;
        is_front = f.2;
        spelt = l.2;
        in_a_row = s.2;
        bits_are = f.3 ∙ ap (λ c. f.0 ++ c) (l.3 ∙ ap (λ c. l.0 ++ c) s.3);
      },
      s.4,
    )

-- ---- what stops a page

LineBegins-alike : (a b : List Bool) → Alike a b → LineBegins a → LineBegins b
LineBegins-alike a b alike (zeros, rest, few, e) =
    let word : List Bool = replicate zeros false ++ true ∷ [] in
    let size : length word ≤ 13 = omega (arith, few, length-append (replicate zeros false) (true ∷ []), length-replicate zeros false) in
    let begins = Carries-word word size (λ c. (zeros, c, few, append_assoc (replicate zeros false) (true ∷ []) c)) in
    let there = carried word a rest b begins (e ∙ sym (append_assoc (replicate zeros false) (true ∷ []) rest)) alike in
    (zeros, there.0, few, there.1 ∙ append_assoc (replicate zeros false) (true ∷ []) there.0)

SeparatorBegins-alike : (coding : Coding) (a b : List Bool) → Alike a b → SeparatorBegins coding a → SeparatorBegins coding b
SeparatorBegins-alike coding a b alike (tag, separator, rest, is, e) =
    let there = pass_separator coding tag separator rest b is (subst (λ c. Alike c b) e alike) in
    (tag, there.0, there.1, there.2, there.3)

RunsOut-alike : (coding : Coding) (a b : List Bool) → Alike a b → RunsOut coding a → RunsOut coding b
RunsOut-alike coding a b alike out = elim (what_begins coding b) [
  | inl separator ↦ absurd (separator_not_runs_out coding a (SeparatorBegins-alike coding b a (Alike-swap a b alike) separator) out)
  | inr after ↦ elim after [
    | inl line ↦ absurd (line_not_runs_out coding a (LineBegins-alike b a (Alike-swap a b alike) line) out)
    | inr there ↦ there
  ]
]

WantsLine-alike : (rows : List Elements) (further : ℕ) (a b : List Bool) → Alike a b → WantsLine rows further a → WantsLine rows further b
WantsLine-alike rows further a b alike wants = record { one_separator = wants.one_separator; begins = LineBegins-alike a b alike wants.begins; room = wants.room }

Stops-alike : (coding : Coding) (width : ℕ) (rows : List Elements) (further : ℕ) (tag : Bool) (a b : List Bool) (fault : PageFault) → Alike a b
    → Stops coding width rows further tag a fault → Stops coding width rows further tag b fault
Stops-alike coding width rows further tag a b NoRtc alike (inl (few, out)) = inl (few, RunsOut-alike coding a b alike out)
Stops-alike coding width rows further tag a b NoRtc alike (inr (inl (some, few, line))) = inr (inl (some, few, LineBegins-alike a b alike line))
Stops-alike coding width rows further tag a b NoRtc alike (inr (inr (inl (untagged, inl (few, separator))))) =
    inr (inr (inl (untagged, inl (few, SeparatorBegins-alike coding a b alike separator))))
Stops-alike coding width rows further tag a b NoRtc alike (inr (inr (inl (untagged, inr six)))) = inr (inr (inl (untagged, inr six)))
Stops-alike coding width rows further tag a b NoRtc alike (inr (inr (inr (wants, rest, reads, out)))) =
    let there = ReadsRow-alike width tag (last_of rows) a b rest alike reads in
    inr (inr (inr (WantsLine-alike rows further a b alike wants, there.0, there.1, RunsOut-alike coding rest there.0 there.2 out)))
Stops-alike coding width rows further tag a b Empty alike s = s
Stops-alike coding width rows further tag a b TooManyRows alike (none, line, full) = (none, LineBegins-alike a b alike line, full)
Stops-alike coding width rows further tag a b (BadLine n) alike (is, wants, inl fails) =
    (is, WantsLine-alike rows further a b alike wants, inl (FailsRow-alike width tag (last_of rows) a b alike fails))
Stops-alike coding width rows further tag a b (BadLine n) alike (is, wants, inr (rest, reads, line)) =
    let there = ReadsRow-alike width tag (last_of rows) a b rest alike reads in
    (is, WantsLine-alike rows further a b alike wants, inr (there.0, there.1, LineBegins-alike rest there.0 there.2 line))
Stops-alike coding width rows further tag a b NoEol alike s = elim s [ ]
Stops-alike coding width rows further tag a b NoMemory alike s = elim s [ ]

-- ---- pages

-- Octets whose bits differ so mean the same rows.
pub MeansRows-alike : (width : ℕ) (coding : Coding) (octets others : List ℕ) (rows : List Elements) → DifferOnce (bits_of octets) (bits_of others)
    → MeansRows width coding octets rows → MeansRows width coding others rows
MeansRows-alike width coding octets others rows differ p =
    let there = read_alike coding width octets others rows 5 true p.more differ p.read in
    record { are_rows = p.are_rows; more = there.0; read = there.1 }

-- They meet the same fault.
pub FailsPage-alike : (width : ℕ) (coding : Coding) (octets others : List ℕ) (fault : PageFault) → DifferOnce (bits_of octets) (bits_of others)
    → FailsPage width coding octets fault → FailsPage width coding others fault
FailsPage-alike width coding octets others fault differ (inl (is, none)) = inl (
  is,
  λ tag front rest is_front e.
      let back = pass_front coding tag front rest (bits_of octets) is_front (subst (λ c. DifferOnce c (bits_of octets)) e (DifferOnce-swap (bits_of octets) (bits_of others) differ)) in
      none tag back.0 back.1 back.2 back.3,
)
FailsPage-alike width coding octets others fault differ (inr f) =
    let there = read_alike coding width octets others f.rows f.further f.tag f.rest differ f.read in
    inr (record {
      rows = f.rows;
      further = f.further;
      tag = f.tag;
      rest = there.0;
      few = f.few;
      at_most_six = f.at_most_six;
      read = there.1;
      stops = Stops-alike coding width f.rows f.further f.tag f.rest there.0 fault there.2 f.stops;
    })
