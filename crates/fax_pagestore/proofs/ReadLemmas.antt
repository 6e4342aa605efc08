-- What is read of octets: two readings of the same octets, and where reading stops.
use Rattle.std.proofs.Common.{◌≡◌, ℕ, zero, suc, ◌+◌, ◌<◌, ◌≤◌, Bool, true, false, List, [], ◌∷◌, ◌++◌, Option, Some, None, All, length, refl, sym, ◌∙◌, ap, ap₂, subst, arith, inl, inr, ◌⊎◌, append_assoc, append-nil, length-append}
use Rattle.std.proofs.lemmas.List.{append_cancel_left}
use Rattle.std.proofs.lemmas.List.Elements.{All-nil, All-cons}
use Rattle.fax_runcodes.specs.declared.format.Coding.{Coding}
use Rattle.fax_runcodes.specs.Rows.{Elements, IsWidth}
use Rattle.fax_mhcode.proofs.LineLaws as mh_lines
use Rattle.fax_mhcode.proofs.FaultLaws as mh_faults
use Rattle.fax_mrcode.proofs.LineLaws as mr_lines
use Rattle.fax_mrcode.proofs.FaultLaws as mr_faults
use Rattle.fax_pagestore.specs.declared.fault.PageFault.{PageFault}
use Rattle.fax_pagestore.specs.declared.fault.PageFault.TheVariants.{NoEol, BadLine, NoRtc, Empty, TooManyRows, NoMemory}
use Rattle.fax_pagestore.specs.PageRows.{most_rows}
use Rattle.fax_pagestore.specs.PageTexts.{InARow, SpellsRow, SpellsRows, ReadSoFar}
use Rattle.fax_pagestore.specs.PageFaults.{LineBegins, SeparatorBegins, last_of, FailsRow, ReadsRow, Stops}
use Rattle.fax_pagestore.specs.Readers.{BeginsRow}
use Rattle.fax_pagestore.proofs.TextLemmas.{SeparatorBegins-from, separator_not_runs_out, line_not_runs_out, separator_not_line, IsSeparator-one, OneMore, InARow-begins, InARow-meet, IsFront-one, SpellsRow-begins, width_some, width_most}

-- ---- the line of one row

-- Bits begin with at most one line after a separator of a tag and a row before.
pub SpellsRow-one : (width : ℕ) (tag : Bool) (before : Option Elements) (s t : List Bool) (v w : Elements) (x y : List Bool)
    → SpellsRow width tag before s v → SpellsRow width tag before t w → s ++ x ≡ t ++ y → (s ≡ t) × (v ≡ w)
SpellsRow-one width true before s t v w x y p q e = mh_lines.SpellsLine-one width s t v w x y p q e
SpellsRow-one width false (Some reference) s t v w x y p q e = mr_lines.SpellsLine-one reference s t v w x y p q e
SpellsRow-one width false None s t v w x y p q e = absurd p

-- the row before, if there is one, has the width
abbrev pub HasWidth : ℕ → Option Elements → Type 0
HasWidth width None = Unit {0}
HasWidth width (Some row) = length row ≡ width

-- The row of a line has the width, where the row before has it.
pub SpellsRow-length : (width : ℕ) (tag : Bool) (before : Option Elements) (text : List Bool) (row : Elements)
    → HasWidth width before → SpellsRow width tag before text row → length row ≡ width
SpellsRow-length width true before text row has p = mh_lines.SpellsLine-length width text row p
SpellsRow-length width false (Some reference) text row has p = p.same_width ∙ has
SpellsRow-length width false None text row has p = absurd p

-- ---- the row before

-- the last of these rows, or the one before them where there are none
abbrev pub row_after : Option Elements → List Elements → Option Elements
row_after before [] = before
row_after before (row ∷ rows) = row_after (Some row) rows

row_after-some : (row : Elements) (rows : List Elements) → row_after (Some row) rows ≡ last_of (row ∷ rows)
row_after-some row [] = refl
row_after-some row (next ∷ rows) = row_after-some next rows

-- Of rows with none before them it is the last.
pub row_after-last : (rows : List Elements) → row_after None rows ≡ last_of rows
row_after-last [] = refl
row_after-last (row ∷ rows) = row_after-some row rows

-- Each row of lines has the width.
pub SpellsRows-lengths : (coding : Coding) (width : ℕ) (tag : Bool) (before : Option Elements) (rows : List Elements) (text : List Bool) (last : Bool)
    → HasWidth width before → SpellsRows coding width tag before rows text last → All (λ row. length row ≡ width) rows
SpellsRows-lengths coding width tag before [] text last has p = All-nil (λ (r : Elements). length r ≡ width)
SpellsRows-lengths coding width tag before (row ∷ rows) text last has (line, separator, rest, next, e, spelt, is, more) =
    let here : length row ≡ width = SpellsRow-length width tag before line row has spelt in
    let later : All (λ (r : Elements). length r ≡ width) rows = SpellsRows-lengths coding width next (Some row) rows rest last here more in
    All-cons (λ (r : Elements). length r ≡ width) row rows here later

-- So has the last of them.
pub SpellsRows-width : (coding : Coding) (width : ℕ) (tag : Bool) (before : Option Elements) (rows : List Elements) (text : List Bool) (last : Bool)
    → HasWidth width before → SpellsRows coding width tag before rows text last → HasWidth width (row_after before rows)
SpellsRows-width coding width tag before [] text last has p = has
SpellsRows-width coding width tag before (row ∷ rows) text last has (line, separator, rest, next, e, spelt, is, more) =
    SpellsRows-width coding width next (Some row) rows rest last (SpellsRow-length width tag before line row has spelt) more

-- Of what is read each row has the width.
pub ReadSoFar-lengths : (coding : Coding) (width : ℕ) (octets : List ℕ) (rows : List Elements) (further : ℕ) (tag : Bool) (rest : List Bool)
    → ReadSoFar coding width octets rows further tag rest → All (λ row. length row ≡ width) rows
ReadSoFar-lengths coding width octets rows further tag rest r = SpellsRows-lengths coding width r.front_tag None rows r.lines r.row_tag tt r.spelt

-- so has the last
pub ReadSoFar-width : (coding : Coding) (width : ℕ) (octets : List ℕ) (rows : List Elements) (further : ℕ) (tag : Bool) (rest : List Bool)
    → ReadSoFar coding width octets rows further tag rest → HasWidth width (last_of rows)
ReadSoFar-width coding width octets rows further tag rest r =
    subst (HasWidth width) (row_after-last rows) (SpellsRows-width coding width r.front_tag None rows r.lines r.row_tag tt r.spelt)

-- ---- lines of rows

-- Where a row begins a line does.
pub BeginsRow-line : (coding : Coding) (width : ℕ) (tag : Bool) (before : Option Elements) (bits : List Bool) → 0 < width → BeginsRow coding width tag before bits → LineBegins bits
BeginsRow-line coding width tag before bits lt r = subst LineBegins (sym r.bits_are) (SpellsRow-begins width tag before r.line r.rest r.row lt r.spelt)

-- One list of rows, with the tag `last` after it, goes on where the other ends, with the tag `end` after
-- that.
pub record RowsGoOn (coding : Coding) (width : ℕ) (before : Option Elements) (ms ns : List Elements) (last end : Bool) (x y : List Bool) : Type 0 where
  pub more : List Elements
  pub text : List Bool
  pub rows : ns ≡ ms ++ more
  pub bits : x ≡ text ++ y
  pub spelt : SpellsRows coding width last (row_after before ms) more text end

-- what follows the line of a row and the separator after it
row_bits : (line separator rest text x : List Bool) → text ≡ line ++ (separator ++ rest) → text ++ x ≡ line ++ (separator ++ (rest ++ x))
row_bits line separator rest text x e =
    ap (λ b. b ++ x) e ∙ append_assoc line (separator ++ rest) x ∙ ap (λ b. line ++ b) (append_assoc separator rest x)

-- Of two lists of rows whose lines begin the same bits one goes on where the other ends.
pub SpellsRows-meet : (coding : Coding) (width : ℕ) (tag : Bool) (before : Option Elements) (ms ns : List Elements) (s t : List Bool) (a b : Bool) (x y : List Bool)
    → SpellsRows coding width tag before ms s a → SpellsRows coding width tag before ns t b → s ++ x ≡ t ++ y
    → RowsGoOn coding width before ms ns a b x y ⊎ RowsGoOn coding width before ns ms b a y x
SpellsRows-meet coding width tag before [] ns s t a b x y p q e =
    inl (record {
      more = ns;
      text = t;
      rows = refl;
      bits = ap (λ c. c ++ x) (sym p.0) ∙ e;
      spelt = subst (λ (c : Bool). SpellsRows coding width c before ns t b) (sym p.1) q;
    })
SpellsRows-meet coding width tag before (m ∷ ms) [] s t a b x y p q e =
    inr (record {
      more = m ∷ ms;
      text = s;
      rows = refl;
      bits = ap (λ c. c ++ y) (sym q.0) ∙ sym e;
      spelt = subst (λ (c : Bool). SpellsRows coding width c before (m ∷ ms) s a) (sym q.1) p;
    })
SpellsRows-meet coding width tag before (m ∷ ms) (n ∷ ns) s t a b x y (f, h, r, c, es, pf, ph, pr) (g, k, u, d, et, qg, qk, qu) e =
    let whole : f ++ (h ++ (r ++ x)) ≡ g ++ (k ++ (u ++ y)) = sym (row_bits f h r s x es) ∙ e ∙ row_bits g k u t y et in
    let first : (f ≡ g) × (m ≡ n) = SpellsRow-one width tag before f g m n (h ++ (r ++ x)) (k ++ (u ++ y)) pf qg whole in
    let second : h ++ (r ++ x) ≡ k ++ (u ++ y) = append_cancel_left f (h ++ (r ++ x)) (k ++ (u ++ y)) (whole ∙ ap (λ z. z ++ (k ++ (u ++ y))) (sym first.0)) in
    let third : (c ≡ d) × (h ≡ k) × (r ++ x ≡ u ++ y) = IsSeparator-one coding c d h k (r ++ x) (u ++ y) ph qk second in
    let later : SpellsRows coding width c (Some m) ns u b =
    subst (λ (z : Bool). SpellsRows coding width z (Some m) ns u b) (sym third.0) (subst (λ (row : Elements). SpellsRows coding width d (Some row) ns u b) (sym first.1) qu) in
    elim (SpellsRows-meet coding width c (Some m) ms ns r u a b x y pr later third.2) [
      | inl on ↦ inl (record { more = on.more; text = on.text; rows = ap₂ (λ (v : Elements) (vs : List Elements). v ∷ vs) (sym first.1) on.rows; bits = on.bits; spelt = on.spelt })
      | inr on ↦
          inr (record {
            more = on.more;
            text = on.text;
            rows = ap₂ (λ (v : Elements) (vs : List Elements). v ∷ vs) first.1 on.rows;
            bits = on.bits;
            spelt = subst (λ (row : Elements). SpellsRows coding width b (row_after (Some row) ns) on.more on.text a) first.1 on.spelt;
          })
    ]

-- lines of rows begin with one
SpellsRows-begin : (coding : Coding) (width : ℕ) (tag : Bool) (before : Option Elements) (row : Elements) (rows : List Elements) (text : List Bool) (last : Bool) (x : List Bool)
    → SpellsRows coding width tag before (row ∷ rows) text last → BeginsRow coding width tag before (text ++ x)
SpellsRows-begin coding width tag before row rows text last x (line, separator, rest, next, e, spelt, is, more) = record {
  line = line;
  row = row;
  rest = separator ++ (rest ++ x);
  spelt = spelt;
  bits_are = row_bits line separator rest text x e;
  after = SeparatorBegins-from coding next separator (rest ++ x) is;
}

-- ---- two readings of the same octets

-- the second reading has more rows, and where the first is a row begins at once
pub record ByRow (coding : Coding) (width : ℕ) (ms ns : List Elements) (further : ℕ) (tag : Bool) (bits : List Bool) : Type 0 where
  pub shorter : length ms < length ns
  pub none : further ≡ 0
  pub begins : BeginsRow coding width tag (last_of ms) bits

-- the second reading has the same rows and more separators, and where the first is one follows
pub record BySeparator (coding : Coding) (ms ns : List Elements) (j k : ℕ) (tag : Bool) (bits : List Bool) : Type 0 where
  pub same : ms ≡ ns
  pub one_more : OneMore coding j k tag bits

-- From where the first reading is (rows ms, j further separators, the last of this tag, these bits left)
-- the second (rows ns, k further separators) goes on: by a separator or by a row.
abbrev pub OtherGoesOn : Coding → ℕ → List Elements → List Elements → ℕ → ℕ → Bool → List Bool → Type 0
OtherGoesOn coding width ms ns j k tag bits = BySeparator coding ms ns j k tag bits ⊎ ByRow coding width ms ns j tag bits

-- both readings are at one place: the same rows, as many further separators, the last of the same tag, and
-- the same bits left
pub record SamePlace (ms ns : List Elements) (j k : ℕ) (a b : Bool) (x y : List Bool) : Type 0 where
  pub rows : ms ≡ ns
  pub further : j ≡ k
  pub tag : a ≡ b
  pub rest : x ≡ y

-- Of two readings of the same octets both are at one place, or one goes on where the other is.
abbrev pub Met : Coding → ℕ → List Elements → List Elements → ℕ → ℕ → Bool → Bool → List Bool → List Bool → Type 0
Met coding width ms ns j k a b x y = SamePlace ms ns j k a b x y ⊎ (OtherGoesOn coding width ms ns j k a x ⊎ OtherGoesOn coding width ns ms k j b y)

-- where the rows of one, with the tag c after them, go on with more of the other's, with the tag d after
-- those
rows_met : (coding : Coding) (width : ℕ) (ms ns more : List Elements) (j k : ℕ) (c d a b : Bool) (s t text x y : List Bool) → 0 < width → ns ≡ ms ++ more
    → SpellsRows coding width c (last_of ms) more text d → InARow coding c j s a → InARow coding d k t b → s ++ x ≡ text ++ (t ++ y) → Met coding width ms ns j k a b x y
rows_met coding width ms ns [] j k c d a b s t text x y lt e p q r bits =
    let rows : ms ≡ ns = sym (e ∙ append-nil ms) in
    let other : InARow coding c k t b = subst (λ (z : Bool). InARow coding z k t b) p.1 r in
    elim (InARow-meet coding c j k s t a b x y q other (bits ∙ ap (λ z. z ++ (t ++ y)) p.0)) [
      | inl same ↦ inl (record { rows = rows; further = same.0; tag = same.1; rest = same.2 })
      | inr apart ↦ elim apart [
        | inl less ↦ inr (inl (inl (record { same = rows; one_more = less })))
        | inr more ↦ inr (inr (inl (record { same = sym rows; one_more = more })))
      ]
    ]
rows_met coding width ms ns (row ∷ more) zero k c d a b s t text x y lt e p q r bits =
    let begins : BeginsRow coding width c (last_of ms) (text ++ (t ++ y)) = SpellsRows-begin coding width c (last_of ms) row more text d (t ++ y) p in
    let size : length ns ≡ length ms + length (row ∷ more) = ap length e ∙ length-append ms (row ∷ more) in
    let some : length (row ∷ more) ≡ suc (length more) = refl in
    inr (inl (inr (record {
      shorter = omega arith;
      none = refl;
      begins =
          subst (λ (z : Bool). BeginsRow coding width z (last_of ms) x) (sym q.1)
          (subst (BeginsRow coding width c (last_of ms)) (sym bits ∙ ap (λ z. z ++ x) q.0) begins);
    })))
rows_met coding width ms ns (row ∷ more) (suc j) k c d a b s t text x y lt e p q r bits =
    let begins : BeginsRow coding width c (last_of ms) (text ++ (t ++ y)) = SpellsRows-begin coding width c (last_of ms) row more text d (t ++ y) p in
    absurd (separator_not_line coding (text ++ (t ++ y)) (subst (SeparatorBegins coding) bits (InARow-begins coding c (suc j) s a x (omega arith) q))
    (BeginsRow-line coding width c (last_of ms) (text ++ (t ++ y)) lt begins))

-- the two readings in the other order
met_swap : (coding : Coding) (width : ℕ) (ms ns : List Elements) (j k : ℕ) (a b : Bool) (x y : List Bool) → Met coding width ms ns j k a b x y → Met coding width ns ms k j b a y x
met_swap coding width ms ns j k a b x y m = elim m [
  | inl same ↦ inl (record { rows = sym same.rows; further = sym same.further; tag = sym same.tag; rest = sym same.rest })
  | inr apart ↦ elim apart [ inl on ↦ inr (inr on) | inr on ↦ inr (inl on) ]
]

-- where one list of rows goes on with more of the other's
goes_on_met : (coding : Coding) (width : ℕ) (ms ns : List Elements) (j k : ℕ) (c d a b : Bool) (s t x y : List Bool) → 0 < width
    → RowsGoOn coding width None ms ns c d (s ++ x) (t ++ y) → InARow coding c j s a → InARow coding d k t b → Met coding width ms ns j k a b x y
goes_on_met coding width ms ns j k c d a b s t x y lt on p q =
    let spelt : SpellsRows coding width c (last_of ms) on.more on.text d =
    subst (λ (before : Option Elements). SpellsRows coding width c before on.more on.text d) (row_after-last ms) on.spelt in
    rows_met coding width ms ns on.more j k c d a b s t on.text x y lt on.rows spelt p q on.bits

-- Two readings of the same octets are at one place, or one goes on where the other is.
pub ReadSoFar-meet : (coding : Coding) (width : ℕ) (octets : List ℕ) (ms ns : List Elements) (j k : ℕ) (a b : Bool) (x y : List Bool) → 0 < width
    → ReadSoFar coding width octets ms j a x → ReadSoFar coding width octets ns k b y → Met coding width ms ns j k a b x y
ReadSoFar-meet coding width octets ms ns j k a b x y lt p q =
    let fronts : (p.front_tag ≡ q.front_tag) × (p.front ≡ q.front) × (p.lines ++ (p.separators ++ x) ≡ q.lines ++ (q.separators ++ y)) =
    IsFront-one coding p.front_tag q.front_tag p.front q.front (p.lines ++ (p.separators ++ x)) (q.lines ++ (q.separators ++ y)) p.is_front q.is_front (sym p.bits_are ∙ q.bits_are) in
    let other : SpellsRows coding width p.front_tag None ns q.lines q.row_tag =
    subst (λ (z : Bool). SpellsRows coding width z None ns q.lines q.row_tag) (sym fronts.0) q.spelt in
    elim (SpellsRows-meet coding width p.front_tag None ms ns p.lines q.lines p.row_tag q.row_tag (p.separators ++ x) (q.separators ++ y) p.spelt other fronts.2) [
      | inl on ↦ goes_on_met coding width ms ns j k p.row_tag q.row_tag a b p.separators q.separators x y lt on p.in_a_row q.in_a_row
      | inr on ↦
          met_swap coding width ns ms k j b a y x
          (goes_on_met coding width ns ms k j q.row_tag p.row_tag b a q.separators p.separators y x lt on q.in_a_row p.in_a_row)
    ]

-- ---- where reading stops

-- Reading doesn't stop before the sixth separator where one follows one of tag 1.
pub Stops-separator : (coding : Coding) (width : ℕ) (rows : List Elements) (further : ℕ) (tag : Bool) (bits : List Bool) (fault : PageFault) → further < 5 → tag ≡ true
    → SeparatorBegins coding bits → Stops coding width rows further tag bits fault → ⊥
Stops-separator coding width rows further tag bits NoRtc lt is b s = elim s [
  | inl out ↦ separator_not_runs_out coding bits b out.1
  | inr later ↦ elim later [
    | inl line ↦ separator_not_line coding bits b line.2
    | inr last ↦ elim last [
      | inl zero_tag ↦ let both : true ≡ false = sym is ∙ zero_tag.0 in cc
      | inr read ↦ separator_not_line coding bits b read.0.begins
    ]
  ]
]
Stops-separator coding width rows further tag bits Empty lt is b s = omega (arith, s.0)
Stops-separator coding width rows further tag bits TooManyRows lt is b s = separator_not_line coding bits b s.1
Stops-separator coding width rows further tag bits (BadLine n) lt is b s = separator_not_line coding bits b s.1.begins
Stops-separator coding width rows further tag bits NoEol lt is b s = s
Stops-separator coding width rows further tag bits NoMemory lt is b s = s

-- A row is read of bits in one way.
pub ReadsRow-one : (width : ℕ) (tag : Bool) (before : Option Elements) (bits x y : List Bool) → ReadsRow width tag before bits x → ReadsRow width tag before bits y → x ≡ y
ReadsRow-one width tag before bits x y (s, v, p, e) (t, w, q, f) =
    let both : s ++ x ≡ t ++ y = sym e ∙ f in
    let texts : s ≡ t = (SpellsRow-one width tag before s t v w x y p q both).0 in
    append_cancel_left s x y (both ∙ ap (λ b. b ++ y) (sym texts))

-- A row that is read doesn't fail.
pub ReadsRow-not_fails : (width : ℕ) (tag : Bool) (before : Option Elements) (bits x : List Bool) → IsWidth width → HasWidth width before
    → ReadsRow width tag before bits x → FailsRow width tag before bits → ⊥
ReadsRow-not_fails width true before bits x is has (s, v, p, e) f = mh_faults.SpellsLine-not_fails width bits s x v f.0 (width_most width is) p e f.1
ReadsRow-not_fails width false (Some reference) bits x is has (s, v, p, e) f =
    let most : width ≤ 2432 = width_most width is in
    mr_faults.SpellsLine-not_fails reference bits s x v f.0 (omega (arith, has)) p e f.1
ReadsRow-not_fails width false None bits x is has (s, v, p, e) f = absurd p

-- a row that begins is a row that is read
BeginsRow-reads : (coding : Coding) (width : ℕ) (tag : Bool) (before : Option Elements) (bits : List Bool) (r : BeginsRow coding width tag before bits) → ReadsRow width tag before bits r.rest
BeginsRow-reads coding width tag before bits r = (r.line, r.row, r.spelt, r.bits_are)

-- Reading doesn't stop where a row follows for which there is room.
pub Stops-row : (coding : Coding) (width : ℕ) (rows : List Elements) (further : ℕ) (tag : Bool) (bits : List Bool) (fault : PageFault) → IsWidth width → HasWidth width (last_of rows)
    → further ≡ 0 → length rows < most_rows → BeginsRow coding width tag (last_of rows) bits → Stops coding width rows further tag bits fault → ⊥
Stops-row coding width rows further tag bits NoRtc is has none room b s =
    let line_begins : LineBegins bits = BeginsRow-line coding width tag (last_of rows) bits (width_some width is) b in
    elim s [
      | inl out ↦ line_not_runs_out coding bits line_begins out.1
      | inr later ↦ elim later [
        | inl line ↦ omega (arith, line.0)
        | inr last ↦ elim last [
          | inl zero_tag ↦ elim zero_tag.1 [ inl next ↦ separator_not_line coding bits next.1 line_begins | inr six ↦ omega arith ]
          | inr read ↦
              let same : b.rest ≡ read.1 = ReadsRow-one width tag (last_of rows) bits b.rest read.1 (BeginsRow-reads coding width tag (last_of rows) bits b) read.2 in
              separator_not_runs_out coding read.1 (subst (SeparatorBegins coding) same b.after) read.3
        ]
      ]
    ]
Stops-row coding width rows further tag bits Empty is has none room b s = omega (arith, s.0)
Stops-row coding width rows further tag bits TooManyRows is has none room b s = omega (arith, s.2)
Stops-row coding width rows further tag bits (BadLine n) is has none room b s = elim s.2 [
  | inl fails ↦ ReadsRow-not_fails width tag (last_of rows) bits b.rest is has (BeginsRow-reads coding width tag (last_of rows) bits b) fails
  | inr read ↦
      let same : b.rest ≡ read.0 = ReadsRow-one width tag (last_of rows) bits b.rest read.0 (BeginsRow-reads coding width tag (last_of rows) bits b) read.1 in
      separator_not_line coding read.0 (subst (SeparatorBegins coding) same b.after) read.2
]
Stops-row coding width rows further tag bits NoEol is has none room b s = s
Stops-row coding width rows further tag bits NoMemory is has none room b s = s

-- where the page ends too early, no line is bad
rtc_not_bad : (coding : Coding) (width : ℕ) (rows : List Elements) (further : ℕ) (tag : Bool) (bits : List Bool) (n : ℕ) → IsWidth width → HasWidth width (last_of rows)
    → Stops coding width rows further tag bits NoRtc → Stops coding width rows further tag bits (BadLine n) → ⊥
rtc_not_bad coding width rows further tag bits n is has s (at, wants, bad) = elim s [
  | inl out ↦ line_not_runs_out coding bits wants.begins out.1
  | inr later ↦ elim later [
    | inl line ↦ omega (arith, line.0, wants.one_separator)
    | inr last ↦ elim last [
      | inl zero_tag ↦ elim zero_tag.1 [ inl next ↦ separator_not_line coding bits next.1 wants.begins | inr six ↦ omega (arith, wants.one_separator) ]
      | inr read ↦ elim bad [
        | inl fails ↦ ReadsRow-not_fails width tag (last_of rows) bits read.1 is has read.2 fails
        | inr other ↦
            let same : other.0 ≡ read.1 = ReadsRow-one width tag (last_of rows) bits other.0 read.1 other.1 read.2 in
            line_not_runs_out coding read.1 (subst LineBegins same other.2) read.3
      ]
    ]
  ]
]

-- nor are there too many rows
rtc_not_many : (coding : Coding) (width : ℕ) (rows : List Elements) (further : ℕ) (tag : Bool) (bits : List Bool)
    → Stops coding width rows further tag bits NoRtc → Stops coding width rows further tag bits TooManyRows → ⊥
rtc_not_many coding width rows further tag bits s (none, begins, full) = elim s [
  | inl out ↦ line_not_runs_out coding bits begins out.1
  | inr later ↦ elim later [
    | inl line ↦ omega (arith, line.0)
    | inr last ↦ elim last [
      | inl zero_tag ↦ elim zero_tag.1 [ inl next ↦ separator_not_line coding bits next.1 begins | inr six ↦ omega arith ]
      | inr read ↦ omega (arith, read.0.room)
    ]
  ]
]

-- nor did the sixth separator come with tag 1
rtc_not_six : (coding : Coding) (width : ℕ) (rows : List Elements) (further : ℕ) (tag : Bool) (bits : List Bool) → further ≡ 5 → tag ≡ true
    → Stops coding width rows further tag bits NoRtc → ⊥
rtc_not_six coding width rows further tag bits five is s = elim s [
  | inl out ↦ omega (arith, out.0)
  | inr later ↦ elim later [
    | inl line ↦ omega (arith, line.1)
    | inr last ↦ elim last [
      | inl zero_tag ↦ let both : true ≡ false = sym is ∙ zero_tag.0 in cc
      | inr read ↦ omega (arith, read.0.one_separator)
    ]
  ]
]

-- Reading stops for one reason.
pub Stops-one : (coding : Coding) (width : ℕ) (rows : List Elements) (further : ℕ) (tag : Bool) (bits : List Bool) (f g : PageFault) → IsWidth width → HasWidth width (last_of rows)
    → Stops coding width rows further tag bits f → Stops coding width rows further tag bits g → f ≡ g
Stops-one coding width rows further tag bits NoRtc NoRtc is has s t = refl
Stops-one coding width rows further tag bits NoRtc Empty is has s t = absurd (rtc_not_six coding width rows further tag bits t.0 t.1 s)
Stops-one coding width rows further tag bits NoRtc TooManyRows is has s t = absurd (rtc_not_many coding width rows further tag bits s t)
Stops-one coding width rows further tag bits NoRtc (BadLine n) is has s t = absurd (rtc_not_bad coding width rows further tag bits n is has s t)
Stops-one coding width rows further tag bits Empty NoRtc is has s t = absurd (rtc_not_six coding width rows further tag bits s.0 s.1 t)
Stops-one coding width rows further tag bits Empty Empty is has s t = refl
Stops-one coding width rows further tag bits Empty TooManyRows is has s t = absurd (omega (arith, s.0, t.0))
Stops-one coding width rows further tag bits Empty (BadLine n) is has s t = absurd (omega (arith, s.0, t.1.one_separator))
Stops-one coding width rows further tag bits TooManyRows NoRtc is has s t = absurd (rtc_not_many coding width rows further tag bits t s)
Stops-one coding width rows further tag bits TooManyRows Empty is has s t = absurd (omega (arith, s.0, t.0))
Stops-one coding width rows further tag bits TooManyRows TooManyRows is has s t = refl
Stops-one coding width rows further tag bits TooManyRows (BadLine n) is has s t = absurd (omega (arith, s.2, t.1.room))
Stops-one coding width rows further tag bits (BadLine n) NoRtc is has s t = absurd (rtc_not_bad coding width rows further tag bits n is has t s)
Stops-one coding width rows further tag bits (BadLine n) Empty is has s t = absurd (omega (arith, s.1.one_separator, t.0))
Stops-one coding width rows further tag bits (BadLine n) TooManyRows is has s t = absurd (omega (arith, s.1.room, t.2))
Stops-one coding width rows further tag bits (BadLine n) (BadLine m) is has s t = ap (λ (k : ℕ). BadLine k) (s.0 ∙ sym t.0)
Stops-one coding width rows further tag bits NoEol g is has s t = absurd s
Stops-one coding width rows further tag bits NoMemory g is has s t = absurd s
Stops-one coding width rows further tag bits NoRtc NoEol is has s t = absurd t
Stops-one coding width rows further tag bits NoRtc NoMemory is has s t = absurd t
Stops-one coding width rows further tag bits Empty NoEol is has s t = absurd t
Stops-one coding width rows further tag bits Empty NoMemory is has s t = absurd t
Stops-one coding width rows further tag bits TooManyRows NoEol is has s t = absurd t
Stops-one coding width rows further tag bits TooManyRows NoMemory is has s t = absurd t
Stops-one coding width rows further tag bits (BadLine n) NoEol is has s t = absurd t
Stops-one coding width rows further tag bits (BadLine n) NoMemory is has s t = absurd t

-- Reading doesn't stop at a fault where a page was read whole: some rows and all six separators, of which
-- the last has tag 1.
pub Stops-whole : (coding : Coding) (width : ℕ) (rows : List Elements) (further : ℕ) (tag : Bool) (bits : List Bool) (fault : PageFault) → 0 < length rows → further ≡ 5 → tag ≡ true
    → Stops coding width rows further tag bits fault → ⊥
Stops-whole coding width rows further tag bits NoRtc some five is s = rtc_not_six coding width rows further tag bits five is s
Stops-whole coding width rows further tag bits Empty some five is s = let none : length rows ≡ 0 = ap length s.2 in omega arith
Stops-whole coding width rows further tag bits TooManyRows some five is s = omega (arith, s.0)
Stops-whole coding width rows further tag bits (BadLine n) some five is s = omega (arith, s.1.one_separator)
Stops-whole coding width rows further tag bits NoEol some five is s = s
Stops-whole coding width rows further tag bits NoMemory some five is s = s
