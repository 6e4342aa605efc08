-- The laws of pages: octets mean at most one page, and then meet no fault, and octets meet at most one.
use Rattle.std.proofs.Common.{◌≡◌, ℕ, ◌<◌, ◌≤◌, Bool, true, List, ◌++◌, length, sym, ◌∙◌, subst, arith, inl, inr}
use Rattle.fax_runcodes.specs.declared.format.Coding.{Coding}
use Rattle.fax_runcodes.specs.Rows.{Elements, IsWidth}
use Rattle.fax_pagestore.specs.declared.fault.PageFault.{PageFault}
use Rattle.fax_pagestore.specs.PageRows.{most_rows}
use Rattle.fax_pagestore.specs.PageTexts.{ReadSoFar, MeansRows}
use Rattle.fax_pagestore.specs.PageFaults.{Stops, FailsAfterFront, HasNoEol, last_of}
use Rattle.fax_pagestore.specs.PageLaws.{PagesAreUnique, PagesDontFail, FaultsAreUnique}
use Rattle.fax_pagestore.proofs.TextLemmas.{width_some}
use Rattle.fax_pagestore.proofs.ReadLemmas.{HasWidth, OtherGoesOn, ReadSoFar-meet, ReadSoFar-width, Stops-separator, Stops-row, Stops-one, Stops-whole}

-- octets of which anything was read have an EOL
read_has_eol : (coding : Coding) (width : ℕ) (octets : List ℕ) (rows : List Elements) (further : ℕ) (tag : Bool) (rest : List Bool)
    → ReadSoFar coding width octets rows further tag rest → HasNoEol coding octets → ⊥
read_has_eol coding width octets rows further tag rest r none = none r.front_tag r.front (r.lines ++ (r.separators ++ rest)) r.is_front r.bits_are

-- after a whole page no other reading of five further separators goes on
whole_ends : (coding : Coding) (width : ℕ) (ms ns : List Elements) (k : ℕ) (tag : Bool) (bits : List Bool) → k ≤ 5 → OtherGoesOn coding width ms ns 5 k tag bits → ⊥
whole_ends coding width ms ns k tag bits le g = elim g [ inl s ↦ omega (arith, s.one_more.fewer) | inr r ↦ omega (arith, r.none) ]

-- reading doesn't stop where another reading goes on
not_stopped : (coding : Coding) (width : ℕ) (ms ns : List Elements) (j k : ℕ) (tag : Bool) (bits : List Bool) (fault : PageFault) → IsWidth width → HasWidth width (last_of ms)
    → k ≤ 5 → length ns ≤ most_rows → OtherGoesOn coding width ms ns j k tag bits → Stops coding width ms j tag bits fault → ⊥
not_stopped coding width ms ns j k tag bits fault is has le few g s = elim g [
  | inl b ↦ Stops-separator coding width ms j tag bits fault (omega (arith, b.one_more.fewer)) b.one_more.tag b.one_more.begins s
  | inr r ↦ Stops-row coding width ms j tag bits fault is has r.none (omega (arith, r.shorter)) r.begins s
]

-- Octets mean at most one page.
pub pages_are_unique : PagesAreUnique
pages_are_unique width coding octets rows others is p q =
    elim (ReadSoFar-meet coding width octets rows others 5 5 true true p.more q.more (width_some width is) p.read q.read) [
      | inl same ↦ same.rows
      | inr apart ↦ elim apart [
        | inl on ↦ absurd (whole_ends coding width rows others 5 true p.more (omega arith) on)
        | inr on ↦ absurd (whole_ends coding width others rows 5 true q.more (omega arith) on)
      ]
    ]

-- the last row of what was read before a fault has the width
fails_width : (coding : Coding) (width : ℕ) (octets : List ℕ) (fault : PageFault) (f : FailsAfterFront coding width octets fault) → HasWidth width (last_of f.rows)
fails_width coding width octets fault f = ReadSoFar-width coding width octets f.rows f.further f.tag f.rest f.read

-- a page that is meant doesn't stop at a fault after the front
means_not_stopped : (width : ℕ) (coding : Coding) (octets : List ℕ) (rows : List Elements) (fault : PageFault) → IsWidth width
    → MeansRows width coding octets rows → FailsAfterFront coding width octets fault → ⊥
means_not_stopped width coding octets rows fault is p f =
    elim (ReadSoFar-meet coding width octets rows f.rows 5 f.further true f.tag p.more f.rest (width_some width is) p.read f.read) [
      | inl same ↦
          Stops-whole coding width f.rows f.further f.tag f.rest fault (subst (λ (rs : List Elements). 0 < length rs) same.rows p.are_rows.some) (sym same.further) (sym same.tag) f.stops
      | inr apart ↦ elim apart [
        | inl on ↦ whole_ends coding width rows f.rows f.further true p.more f.at_most_six on
        | inr on ↦ not_stopped coding width f.rows rows f.further 5 f.tag f.rest fault is (fails_width coding width octets fault f) (omega arith) p.are_rows.few on f.stops
      ]
    ]

-- Octets that mean a page meet no fault.
pub pages_dont_fail : PagesDontFail
pages_dont_fail width coding octets rows fault is p f = elim f [
  | inl none ↦ read_has_eol coding width octets rows 5 true p.more p.read none.1
  | inr after ↦ means_not_stopped width coding octets rows fault is p after
]

-- a stop at one place is a stop at the other, where both are one
stops_there : (coding : Coding) (width : ℕ) (ms ns : List Elements) (j k : ℕ) (a b : Bool) (x y : List Bool) (fault : PageFault) → ms ≡ ns → j ≡ k → a ≡ b → x ≡ y
    → Stops coding width ns k b y fault → Stops coding width ms j a x fault
stops_there coding width ms ns j k a b x y fault rows further tag rest s =
    subst (λ (rs : List Elements). Stops coding width rs j a x fault) (sym rows)
    (subst (λ n. Stops coding width ns n a x fault) (sym further)
    (subst (λ (c : Bool). Stops coding width ns k c x fault) (sym tag) (subst (λ bits. Stops coding width ns k b bits fault) (sym rest) s)))

-- reading stops after the front at one fault
after_one : (coding : Coding) (width : ℕ) (octets : List ℕ) (f g : PageFault) → IsWidth width → FailsAfterFront coding width octets f → FailsAfterFront coding width octets g → f ≡ g
after_one coding width octets f g is p q =
    elim (ReadSoFar-meet coding width octets p.rows q.rows p.further q.further p.tag q.tag p.rest q.rest (width_some width is) p.read q.read) [
      | inl same ↦
          Stops-one coding width p.rows p.further p.tag p.rest f g is (fails_width coding width octets f p) p.stops
          (stops_there coding width p.rows q.rows p.further q.further p.tag q.tag p.rest q.rest g same.rows same.further same.tag same.rest q.stops)
      | inr apart ↦ elim apart [
        | inl on ↦ absurd (not_stopped coding width p.rows q.rows p.further q.further p.tag p.rest f is (fails_width coding width octets f p) q.at_most_six q.few on p.stops)
        | inr on ↦ absurd (not_stopped coding width q.rows p.rows q.further p.further q.tag q.rest g is (fails_width coding width octets g q) p.at_most_six p.few on q.stops)
      ]
    ]

-- Octets meet at most one fault.
pub faults_are_unique : FaultsAreUnique
faults_are_unique width coding octets fault other is p q = elim p [
  | inl none ↦ elim q [
    | inl also ↦ none.0 ∙ sym also.0
    | inr after ↦ absurd (read_has_eol coding width octets after.rows after.further after.tag after.rest after.read none.1)
  ]
  | inr after ↦ elim q [
    | inl none ↦ absurd (read_has_eol coding width octets after.rows after.further after.tag after.rest after.read none.1)
    | inr also ↦ after_one coding width octets fault other is after also
  ]
]
