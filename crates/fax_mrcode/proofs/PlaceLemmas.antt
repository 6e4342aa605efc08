-- Laws of the places of two-dimensional coding.
use Rattle.std.proofs.Common.{◌≡◌, ℕ, zero, suc, ◌+◌, ◌-◌, ◌<◌, ◌≤◌, Bool, true, false, ◌&&◌, find, unwrap_or, length, refl, sym, ◌∙◌, ap₂, arith, inl, inr}
use Rattle.std.proofs.lemmas.Bool.{cases_eq, cases_lt}
use Rattle.std.specs.List.{range_with_len}
use Rattle.fax_runcodes.specs.declared.Colour.{Colour}
use Rattle.fax_runcodes.specs.declared.Colour.TheVariants.{White, Black}
use Rattle.fax_runcodes.specs.Rows.{Elements, other, differ, colour_at, colour_before, is_changing, first_place}
use Rattle.fax_mrcode.specs.Places.{a1, a2, b1, b2}

-- a place is the first from one on, before an end, that passes the test
pub record IsFirst (test : ℕ → Bool) (from end place : ℕ) : Type 0 where
  pub low : from ≤ place
  pub high : place ≤ end
  pub none : (k : ℕ) → from ≤ k → k < place → test k ≡ false
  pub found : place < end → test place ≡ true

scan_step : (test : ℕ → Bool) (n from end : ℕ) → from < end → IsFirst test (from + 1) end (unwrap_or (find test (range_with_len (from + 1) n)) end)
    → (b : Bool) → test from ≡ b → IsFirst test from end (unwrap_or (find test (range_with_len from (suc n))) end)
scan_step test n from end le rest true t = rw t (record { low = omega arith; high = omega arith; none = λ k a b. absurd (omega arith); found = λ lt. t })
scan_step test n from end le rest false t = rw t (record {
  low = omega (arith, rest.low);
  high = rest.high;
  none = λ k a b. elim (cases_eq k from) [ inl same ↦ rw same t | inr apart ↦ rest.none k (omega arith) b ];
  found = rest.found;
})

scan_is : (test : ℕ → Bool) (n from end : ℕ) → from + n ≡ end → IsFirst test from end (unwrap_or (find test (range_with_len from n)) end)
scan_is test zero from end e = record { low = omega arith; high = omega arith; none = λ k a b. absurd (omega arith); found = λ lt. absurd (omega arith) }
scan_is test (suc n) from end e = scan_step test n from end (omega arith) (scan_is test n (from + 1) end (omega arith)) (test from) refl

pub first_place_is : (test : ℕ → Bool) (from end : ℕ) → from ≤ end → IsFirst test from end (first_place test from end)
first_place_is test from end le = scan_is test (end - from) from end (omega arith)

pub first_place_past : (test : ℕ → Bool) (from end : ℕ) → end ≤ from → first_place test from end ≡ end
first_place_past test from end le = let none : end - from ≡ 0 = omega arith in rw none refl

-- ---- colours
pub differ_false : (a b : Colour) → differ a b ≡ false → a ≡ b
differ_false White White h = refl
differ_false White Black h = cc
differ_false Black White h = cc
differ_false Black Black h = refl

pub differ_true : (a b : Colour) → differ a b ≡ true → a ≡ other b
differ_true White White h = cc
differ_true White Black h = refl
differ_true Black White h = refl
differ_true Black Black h = cc

other_other : (a : Colour) → other (other a) ≡ a
other_other White = refl
other_other Black = refl

-- ---- rows that agree left of a place
unfoldable pub Agree : Elements → Elements → ℕ → Type 0
Agree v w n = (k : ℕ) → k < n → colour_at v k ≡ colour_at w k

pub Agree-before : (v w : Elements) (from : ℕ) → Agree v w from → colour_before v from ≡ colour_before w from
unfolding Agree
Agree-before v w zero h = refl
Agree-before v w (suc p) h = h p (omega arith)

-- the elements from a place up to another have one colour
pub record IsStretch (row : Elements) (colour : Colour) (from to : ℕ) : Type 0 where
  pub all : (k : ℕ) → from ≤ k → k < to → colour_at row k ≡ colour

pub Agree-stretch : (v w : Elements) (colour : Colour) (from to : ℕ) → Agree v w from → IsStretch v colour from to → IsStretch w colour from to → Agree v w to
unfolding Agree
Agree-stretch v w colour from to h p q = λ k lt. elim (cases_lt k from) [
  | inl below ↦ h k below
  | inr here ↦ p.all k here lt ∙ sym (q.all k here lt)
]

pub Agree-more : (v w : Elements) (n : ℕ) → Agree v w n → colour_at v n ≡ colour_at w n → Agree v w (n + 1)
unfolding Agree
Agree-more v w n h e = λ k lt. elim (cases_eq k n) [ inl same ↦ rw same e | inr apart ↦ h k (omega arith) ]

-- ---- a1 and a2
pub record IsA1 (row : Elements) (from : ℕ) : Type 0 where
  pub low : from ≤ a1 row from
  pub high : a1 row from ≤ length row
  pub stretch : IsStretch row (colour_before row from) from (a1 row from)
  pub change : a1 row from < length row → colour_at row (a1 row from) ≡ other (colour_before row from)

pub a1_is : (row : Elements) (from : ℕ) → from ≤ length row → IsA1 row from
unfolding a1
a1_is row from le =
    let f : IsFirst (λ place. differ (colour_at row place) (colour_before row from)) from (length row) (first_place (λ place. differ (colour_at row place) (colour_before row from)) from (length row)) =
    first_place_is (λ place. differ (colour_at row place) (colour_before row from)) from (length row) le in
    record {
      low = f.low;
      high = f.high;
      stretch = record { all = λ k a b. differ_false (colour_at row k) (colour_before row from) (f.none k a b) };
      change = λ lt. differ_true (colour_at row (first_place (λ place. differ (colour_at row place) (colour_before row from)) from (length row))) (colour_before row from) (f.found lt);
    }

pub record IsA2 (row : Elements) (from : ℕ) : Type 0 where
  pub low : a1 row from ≤ a2 row from
  pub high : a2 row from ≤ length row
  pub stretch : IsStretch row (other (colour_before row from)) (a1 row from) (a2 row from)
  pub change : a2 row from < length row → colour_at row (a2 row from) ≡ colour_before row from

a2_inside : (row : Elements) (from : ℕ) → IsA1 row from → a1 row from < length row → IsA2 row from
unfolding a2
a2_inside row from first lt =
    let colour : Colour = other (colour_before row from) in
    let f : IsFirst (λ place. differ (colour_at row place) colour) (a1 row from + 1) (length row) (first_place (λ place. differ (colour_at row place) colour) (a1 row from + 1) (length row)) =
    first_place_is (λ place. differ (colour_at row place) colour) (a1 row from + 1) (length row) (omega arith) in
    record {
      low = omega (arith, f.low);
      high = f.high;
      stretch = record { all = λ k a b. elim (cases_eq k (a1 row from)) [ inl same ↦ rw same (first.change lt) | inr apart ↦ differ_false (colour_at row k) colour (f.none k (omega arith) b) ] };
      change = λ below. differ_true (colour_at row (first_place (λ place. differ (colour_at row place) colour) (a1 row from + 1) (length row))) colour (f.found below) ∙ other_other (colour_before row from);
    }

a2_past : (row : Elements) (from : ℕ) → IsA1 row from → a1 row from ≡ length row → IsA2 row from
unfolding a2
a2_past row from first at_end =
    let e : first_place (λ place. differ (colour_at row place) (other (colour_before row from))) (a1 row from + 1) (length row) ≡ length row =
    first_place_past (λ place. differ (colour_at row place) (other (colour_before row from))) (a1 row from + 1) (length row) (omega arith) in
    record {
      low = omega arith;
      high = omega arith;
      stretch = record { all = λ k a b. absurd (omega arith) };
      change = λ lt. absurd (omega arith);
    }

pub a2_is : (row : Elements) (from : ℕ) → from ≤ length row → IsA2 row from
a2_is row from le =
    let first : IsA1 row from = a1_is row from le in
    elim (cases_lt (a1 row from) (length row)) [
      | inl inside ↦ a2_inside row from first inside
      | inr past ↦ a2_past row from first (omega (arith, first.high))
    ]

-- ---- b1 and b2 see of the row only its length and the colour at a0
pub b1_same : (reference v w : Elements) (from : ℕ) → length v ≡ length w → colour_before v from ≡ colour_before w from → b1 reference v from ≡ b1 reference w from
unfolding b1
b1_same reference v w from l e = ap₂ (λ (c : Colour) (n : ℕ). first_place (λ place. is_changing reference place && differ (colour_at reference place) c) from n) e l

pub b2_same : (reference v w : Elements) (from : ℕ) → length v ≡ length w → colour_before v from ≡ colour_before w from → b2 reference v from ≡ b2 reference w from
unfolding b2
b2_same reference v w from l e = ap₂ (λ (p n : ℕ). first_place (is_changing reference) (p + 1) n) (b1_same reference v w from l e) l
