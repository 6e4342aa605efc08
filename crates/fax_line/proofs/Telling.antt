-- A store is told of the turns of lines that wait.
use Rattle.std.proofs.Common.{◌≡◌, ◌≢◌, ◌+◌, ◌++◌, ℕ, zero, suc, ◌<◌, ◌≤◌, Bool, true, false, nat_eq, nat_lt, cond, List, [], ◌∷◌, length, slice_get, slice_index_or, refl, sym, ◌∙◌, ap, subst, arith, Option, Some, None, inl, inr, append-nil, append_assoc}
use Rattle.std.specs.List.{All, AllPairs}
use Rattle.std.proofs.lemmas.Bool.{eq-eqb, eqb-false, eqb-true, ltb-false, ltb-true, ne_eqb}
use Rattle.std.proofs.lemmas.List.Elements.{All-append, All-cons}
use Rattle.std.proofs.lemmas.List.Quantifiers.{all_pairs_push}
use Rattle.fax_jobs.specs.declared.report.Report.{Report}
use Rattle.fax_line.specs.declared.settling.LineReport.{LineReport}
use Rattle.fax_line.specs.declared.settling.PageToStore.{PageToStore}
use Rattle.fax_line.specs.Operations.{waits_of}
use Rattle.fax_line.specs.StoredRuns.{EndsEach, EndsIf, EndsLines, EndsWith, NotesFirst, NotesLines, NotesPlace, NotesWhere, TellsLines, report_if, report_list, reports_at, reports_in, reports_of}
use Rattle.fax_line.specs.Places.{PlaceValue}
use Rattle.fax_line.specs.Settling.{RiseByLine, has_page}
use Rattle.fax_line.proofs.Slots.{waits_is}

-- ---- of pages

module _ (K : Type 0) (notes : ℕ → ℕ → K → K → Type 0) where
  -- of the line that is next
  pub notes_next : (pages : List PageToStore) (lines : List PlaceValue) (at : ℕ) (place : PlaceValue) (k l m : K) → at < length lines → slice_get lines at ≡ Some place
      → place ≡ slice_index_or lines at place → NotesWhere notes at place.waits place.line.turned (has_page pages at) l m
      → NotesFirst notes (waits_of lines) pages lines at k l → NotesFirst notes (waits_of lines) pages lines (at + 1) k m
  notes_next pages lines at place k l m low there same tells before =
      let next : suc at ≡ at + 1 = omega arith in
      let waits : place.waits ≡ waits_of lines at = ap (λ (p : PlaceValue). p.waits) same ∙ sym (waits_is lines at place low) in
      subst (λ (n : ℕ). NotesFirst notes (waits_of lines) pages lines n k m) next (
        l,
        before,
        subst (λ (o : Option PlaceValue). NotesPlace notes (waits_of lines) pages at o l m) (sym there)
            (subst (λ (b : Bool). NotesWhere notes at b place.line.turned (has_page pages at) l m) waits tells),
      )

  -- of the same lines, told otherwise
  place_so : (which other : ℕ → Bool) (pages : List PageToStore) (number : ℕ) (o : Option PlaceValue) (k l : K) → other number ≡ which number → NotesPlace notes which pages number o k l → NotesPlace notes other pages number o k l
  place_so which other pages number None k l same told = told
  place_so which other pages number (Some place) k l same told =
      subst (λ (b : Bool). NotesWhere notes number b place.line.turned (has_page pages number) k l) (sym same) told

  first_so : (which other : ℕ → Bool) (pages : List PageToStore) (lines : List PlaceValue) (number : ℕ) (k l : K) → ((i : ℕ) → other i ≡ which i) → NotesFirst notes which pages lines number k l
      → NotesFirst notes other pages lines number k l
  first_so which other pages lines zero k l same told = told
  first_so which other pages lines (suc number) k l same told =
      (told.0, first_so which other pages lines number k told.0 same told.1, place_so which other pages number (slice_get lines number) told.0 l (same number) told.2)

reports_so : (which other : ℕ → Bool) (line : ℕ) (o : Option PlaceValue) → other line ≡ which line → reports_at which line o ≡ reports_at other line o
reports_so which other line None same = refl
reports_so which other line (Some place) same = ap (λ (b : Bool). report_list (report_if b place.line.turned)) (sym same)

pub told_so : (K : Type 0) (notes : ℕ → ℕ → K → K → Type 0) (ends : List LineReport → K → K → Type 0) (which other : ℕ → Bool) (pages : List PageToStore) (lines : List PlaceValue) (k l : K) → ((i : ℕ) → other i ≡ which i)
    → TellsLines notes ends which pages lines k l → TellsLines notes ends other pages lines k l
told_so K notes ends which other pages lines k l same told = record {
  between = told.between;
  noted = record { count = told.noted.count; all = told.noted.all; told = first_so K notes which other pages lines told.noted.count k told.between same told.noted.told };
  ended = record {
    batches = told.ended.batches;
    once = λ line. told.ended.once line ∙ reports_so which other line (slice_get lines line) (same line);
    told = told.ended.told;
  };
}

pub there_at : (lines : List PlaceValue) (at : ℕ) (d : PlaceValue) → at < length lines → slice_get lines at ≡ Some (slice_index_or lines at d)
there_at [] at d low = absurd (omega (arith, low))
there_at (p ∷ lines) zero d low = refl
there_at (p ∷ lines) (suc at) d low = there_at lines at d (omega (arith, low))

-- ---- of jobs

none_at : (lines : List PlaceValue) (i : ℕ) → length lines ≤ i → slice_get lines i ≡ None
none_at [] i far = refl
none_at (p ∷ lines) zero far = absurd (omega (arith, far))
none_at (p ∷ lines) (suc i) far = none_at lines i (omega (arith, far))

pub reports_append : (line : ℕ) (xs ys : List LineReport) → reports_of line (xs ++ ys) ≡ reports_of line xs ++ reports_of line ys
reports_append line [] ys = refl
reports_append line (x ∷ xs) ys =
    elim (nat_eq x.line line) as (λ b. cond b (x.report ∷ reports_of line (xs ++ ys)) (reports_of line (xs ++ ys)) ≡ cond b (x.report ∷ reports_of line xs) (reports_of line xs) ++ reports_of line ys) [
      | true ↦ ap (λ (l : List Report). x.report ∷ l) (reports_append line xs ys)
      | false ↦ reports_append line xs ys
    ]

reports_push : (line : ℕ) (batches : List (List LineReport)) (batch : List LineReport) → reports_in line (batches ++ batch ∷ []) ≡ reports_in line batches ++ reports_of line batch
reports_push line [] batch = append-nil (reports_of line batch)
reports_push line (b ∷ batches) batch =
    ap (λ (l : List Report). reports_of line b ++ l) (reports_push line batches batch) ∙ sym (append_assoc (reports_of line b) (reports_in line batches) (reports_of line batch))

module _ {K : Type 0} (ends : List LineReport → K → K → Type 0) where
  each_more : (batches : List (List LineReport)) (batch : List LineReport) (k l m : K) → EndsEach ends batches k l → EndsIf ends batch l m → EndsEach ends (batches ++ batch ∷ []) k m
  each_more [] batch k l m was is = (m, subst (λ (x : K). EndsIf ends batch x m) was is, refl)
  each_more (b ∷ batches) batch k l m was is = (was.0, was.1, each_more batches batch was.0 l m was.2 is)

abbrev none_told : List Report
none_told = []

-- the reports of the first so many lines
abbrev pub reports_before : (which : ℕ → Bool) → List PlaceValue → ℕ → ℕ → List Report
reports_before which lines count line = cond (nat_lt line count) (reports_at which line (slice_get lines line)) []

off_lt : (line count : ℕ) → count ≤ line → nat_lt line count ≡ false
off_lt line count far = by (nat_lt line count) refl
  where
    by : (b : Bool) → nat_lt line count ≡ b → b ≡ false
    by true is = absurd (omega (arith, far, ltb-true line count is))
    by false is = refl

on_lt : (line count : ℕ) → line < count → nat_lt line count ≡ true
on_lt line count low = by (nat_lt line count) refl
  where
    by : (b : Bool) → nat_lt line count ≡ b → b ≡ true
    by true is = refl
    by false is = absurd (omega (arith, low, ltb-false line count is))

same_lt : (line count : ℕ) → line ≢ count → nat_lt line (count + 1) ≡ nat_lt line count
same_lt line count other = by (nat_lt line count) refl
  where
    by : (b : Bool) → nat_lt line count ≡ b → nat_lt line (count + 1) ≡ b
    by true is = on_lt line (count + 1) (omega (arith, ltb-true line count is))
    by false is = off_lt line (count + 1) (let far : count ≤ line = ltb-false line count is in omega (arith, far, other))

before_none : (which : ℕ → Bool) (lines : List PlaceValue) (line : ℕ) → reports_before which lines 0 line ≡ []
before_none which lines line = ap (λ (b : Bool). cond b (reports_at which line (slice_get lines line)) []) (off_lt line 0 (omega arith))

before_all : (which : ℕ → Bool) (lines : List PlaceValue) (count line : ℕ) → length lines ≤ count → reports_before which lines count line ≡ reports_at which line (slice_get lines line)
before_all which lines count line all = by (nat_lt line count) refl
  where
    by : (b : Bool) → nat_lt line count ≡ b → cond b (reports_at which line (slice_get lines line)) [] ≡ reports_at which line (slice_get lines line)
    by true is = refl
    by false is = sym (ap (λ (o : Option PlaceValue). reports_at which line o) (none_at lines line (let far : count ≤ line = ltb-false line count is in omega (arith, far, all))))

-- one line more
before_next : (which : ℕ → Bool) (lines : List PlaceValue) (count line : ℕ) (more : List Report) → reports_at which count (slice_get lines count) ≡ more
    → reports_before which lines (count + 1) line ≡ reports_before which lines count line ++ cond (nat_eq count line) more []
before_next which lines count line more is = by (nat_eq count line) refl
  where
    by : (b : Bool) → nat_eq count line ≡ b → reports_before which lines (count + 1) line ≡ reports_before which lines count line ++ cond b more []
    by true on =
        let same : count ≡ line = eqb-true count line on in
        subst (λ (n : ℕ). reports_before which lines (count + 1) n ≡ reports_before which lines count n ++ more) same
        (ap (λ (b : Bool). cond b (reports_at which count (slice_get lines count)) []) (on_lt count (count + 1) (omega arith)) ∙ is
        ∙ sym (ap (λ (b : Bool). cond b (reports_at which count (slice_get lines count)) [] ++ more) (off_lt count count (omega arith))))
    by false off =
        ap (λ (b : Bool). cond b (reports_at which line (slice_get lines line)) []) (same_lt line count (λ same. eqb-false count line off (sym same)))
        ∙ sym (append-nil (reports_before which lines count line))

-- of the first so many lines the store was told, or these are still to be told
pub record Collected {K : Type 0} (ends : List LineReport → K → K → Type 0) (which : ℕ → Bool) (lines : List PlaceValue) (count : ℕ) (start now : K) (pending : List LineReport) : Type 0 where
  pub batches : List (List LineReport)
  pub told : EndsEach ends batches start now
  pub once : (line : ℕ) → reports_in line batches ++ reports_of line pending ≡ reports_before which lines count line
  pub rise : RiseByLine pending
  pub below : All (λ report. report.line < count) pending

pub none_rise : RiseByLine []
none_rise = λ i j d low high. absurd (omega arith)

none_below : (count : ℕ) → All (λ (report : LineReport). report.line < count) []
none_below count = λ k d low. absurd (omega arith)

still_below : (count : ℕ) (pending : List LineReport) → All (λ report. report.line < count) pending → All (λ report. report.line < count + 1) pending
still_below count pending below = λ k d low. let less : (slice_index_or pending k d).line < count = below k d low in omega (arith, less)

module _ {K : Type 0} (ends : List LineReport → K → K → Type 0) (which : ℕ → Bool) (lines : List PlaceValue) where
  pub collected_none : (k : K) (pending : List LineReport) → pending ≡ [] → Collected ends which lines 0 k k pending
  collected_none k pending none = subst (λ (l : List LineReport). Collected ends which lines 0 k k l) (sym none) (record {
    batches = [];
    told = refl;
    once = λ line. sym (before_none which lines line);
    rise = none_rise;
    below = none_below 0;
  })

  -- the turn of the next line told of no job
  pub collected_still : (count : ℕ) (k l : K) (pending : List LineReport) → reports_at which count (slice_get lines count) ≡ [] → Collected ends which lines count k l pending → Collected ends which lines (count + 1) k l pending
  collected_still count k l pending none was = record {
    batches = was.batches;
    told = was.told;
    once = λ line. was.once line ∙ sym (before_next which lines count line [] none ∙ ap (λ (l : List Report). reports_before which lines count line ++ l) (no_more (nat_eq count line)) ∙ append-nil (reports_before which lines count line));
    rise = was.rise;
    below = still_below count pending was.below;
  }
    where
      no_more : (b : Bool) → cond b none_told none_told ≡ none_told
      no_more true = refl
      no_more false = refl

  -- or of one
  pub collected_more : (count : ℕ) (k l m : K) (pending after : List LineReport) (report : Report) → reports_at which count (slice_get lines count) ≡ report ∷ []
      → EndsWith ends (record { line = count; report = report }) pending after l m → Collected ends which lines count k l pending → Collected ends which lines (count + 1) k m after
  collected_more count k l m pending after report is (inl joins) was =
      subst (λ (x : K). Collected ends which lines (count + 1) k x after) (sym joins.1)
      (subst (λ (p : List LineReport). Collected ends which lines (count + 1) k l p) (sym joins.0) (record {
        batches = was.batches;
        told = was.told;
        once = λ line.
            ap (λ (r : List Report). reports_in line was.batches ++ r) (reports_append line pending (one ∷ [])) ∙ sym (append_assoc (reports_in line was.batches) (reports_of line pending) (reports_of line (one ∷ [])))
            ∙ ap (λ (r : List Report). r ++ reports_of line (one ∷ [])) (was.once line) ∙ sym (before_next which lines count line (report ∷ []) is);
        rise = all_pairs_push (λ (a b : LineReport). a.line < b.line) pending one was.rise was.below;
        below = All-append (λ (r : LineReport). r.line < count + 1) pending (one ∷ []) (still_below count pending was.below) (All-cons (λ (r : LineReport). r.line < count + 1) one [] (omega arith) (none_below (count + 1)));
      }))
    where
      one : LineReport
      one = record { line = count; report = report }
  collected_more count k l m pending after report is (inr now) was =
      subst (λ (p : List LineReport). Collected ends which lines (count + 1) k m p) (sym now.0) (record {
        batches = (was.batches ++ pending ∷ []) ++ (one ∷ []) ∷ [];
        told = each_more ends (was.batches ++ pending ∷ []) (one ∷ []) k now.1.0 m (each_more ends was.batches pending k l now.1.0 was.told now.1.1) now.1.2;
        once = λ line.
            append-nil (reports_in line ((was.batches ++ pending ∷ []) ++ (one ∷ []) ∷ [])) ∙ reports_push line (was.batches ++ pending ∷ []) (one ∷ [])
            ∙ ap (λ (r : List Report). r ++ reports_of line (one ∷ [])) (reports_push line was.batches pending ∙ was.once line) ∙ sym (before_next which lines count line (report ∷ []) is);
        rise = none_rise;
        below = none_below (count + 1);
      })
    where
      one : LineReport
      one = record { line = count; report = report }

  -- of all
  pub collected_all : (count : ℕ) (k l m : K) (pending : List LineReport) → length lines ≤ count → EndsIf ends pending l m → Collected ends which lines count k l pending → EndsLines ends which lines k m
  collected_all count k l m pending all is was = record {
    batches = was.batches ++ pending ∷ [];
    once = λ line. reports_push line was.batches pending ∙ was.once line ∙ before_all which lines count line all;
    told = each_more ends was.batches pending k l m was.told is;
  }

-- what the line at a place told
pub reports_here : (lines : List PlaceValue) (at : ℕ) (place : PlaceValue) (o : Option Report) → at < length lines → place ≡ slice_index_or lines at place → o ≡ report_if place.waits place.line.turned
    → reports_at (waits_of lines) at (slice_get lines at) ≡ report_list o
reports_here lines at place o low same is =
    ap (λ (p : Option PlaceValue). reports_at (waits_of lines) at p) (there_at lines at place low ∙ ap (λ (p : PlaceValue). Some p) (sym same))
    ∙ ap (λ (b : Bool). report_list (report_if b place.line.turned)) (waits_is lines at place low ∙ ap (λ (p : PlaceValue). p.waits) (sym same))
    ∙ ap report_list (sym is)
