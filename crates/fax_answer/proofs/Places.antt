-- Readers of images in their list, which the code has the oldest first.
use Rattle.std.proofs.Common.{◌≡◌, ℕ, zero, suc, ◌+◌, ◌-◌, ◌≤◌, ◌<◌, List, [], ◌∷◌, ◌++◌, length, take, drop, reverse, get_or, Option, Some, None, Result, Ok, Err, refl, sym, ◌∙◌, ap, subst, arith, append_assoc}
use Rattle.std.proofs.lemmas.List.{reverse-append, reverse-reverse, length-reverse, length-append, get_or_at, take_at, drop_at, drop_all, drop-append-le}
use Rattle.fax_runcodes.specs.Rows.{Elements}
use Rattle.fax_runcodes.specs.Widths.{elements_of}
use Rattle.fax_runcodes.specs.declared.format.Format.{Format}
use Rattle.fax_runcodes.specs.declared.format.Coding.{Coding}
use Rattle.fax_frames.specs.declared.dcs.Dcs.{Dcs}
use Rattle.fax_frames.specs.Capabilities.{format_of, coding_of}
use Rattle.fax_pagestore.specs.declared.fault.PageFault.{PageFault}
use Rattle.fax_pagestore.specs.Pages.{PageValue}
use Rattle.fax_pagestore.specs.PageTexts.{MeansRows, MeansPage}
use Rattle.fax_pagestore.specs.PageFaults.{FailsPage}
use Rattle.fax_pagestore.specs.Readers.{ReaderValue, MarkValue, HasRead, mark_of, reader_at}
use Rattle.fax_answer.specs.declared.image.Accepted.{Accepted}
use Rattle.fax_answer.specs.declared.image.Mark.{Mark}
use Rattle.fax_answer.specs.Images.{ImageValue, IsReaderOf, HasEnded, MeansAt, Extends, GoesOn, IsMarkOf, mark_of_first}

-- LISTS
pub newest : {A : Type 0} → (xs : List A) (x : A) → reverse (xs ++ x ∷ []) ≡ x ∷ reverse xs
newest xs x = reverse-append xs (x ∷ [])

split : {A : Type 0} → (xs later before : List A) (r : A) → reverse xs ≡ later ++ r ∷ before → xs ≡ (reverse before ++ r ∷ []) ++ reverse later
split {A = A} xs later before r e =
    sym (reverse-reverse xs) ∙ ap reverse e ∙ reverse-append later (r ∷ before) ∙ ap (λ (ys : List A). ys ++ reverse later) (reverse-append (r ∷ []) before)

split_at : {A : Type 0} → (xs later before : List A) (r : A) → reverse xs ≡ later ++ r ∷ before → xs ≡ reverse before ++ r ∷ reverse later
split_at xs later before r e = split xs later before r e ∙ append_assoc (reverse before) (r ∷ []) (reverse later)

stands_at : {A : Type 0} → (xs later before : List A) (r d : A) (place : ℕ) → reverse xs ≡ later ++ r ∷ before → place ≡ length before → get_or xs place d ≡ r
stands_at {A = A} xs later before r d place e p =
    ap (λ (ys : List A). get_or ys place d) (split_at xs later before r e) ∙ get_or_at (reverse before) r (reverse later) d place (length-reverse before ∙ sym p)

length_at : {A : Type 0} → (xs later before : List A) (r : A) → reverse xs ≡ later ++ r ∷ before → length xs ≡ length later + (length before + 1)
length_at xs later before r e =
    let same : length (reverse xs) ≡ length xs = length-reverse xs in
    let both : length (reverse xs) ≡ length later + length (r ∷ before) = ap length e ∙ length-append later (r ∷ before) in
    omega arith

removed : {A : Type 0} → (xs later before : List A) (r : A) (place : ℕ) → reverse xs ≡ later ++ r ∷ before → place ≡ length before → reverse (take place xs ++ drop (place + 1) xs) ≡ later ++ before
removed {A = A} xs later before r place e p =
    let front : take place xs ≡ reverse before =
    ap (take place) (split_at xs later before r e) ∙ take_at (reverse before) (r ∷ reverse later) place (length-reverse before ∙ sym p) in
    let few : length (reverse before ++ r ∷ []) ≡ place + 1 =
    let both : length (reverse before ++ r ∷ []) ≡ length (reverse before) + 1 = length-append (reverse before) (r ∷ []) in
    let same : length (reverse before) ≡ length before = length-reverse before in omega arith in
    let back : drop (place + 1) xs ≡ reverse later =
    ap (drop (place + 1)) (split xs later before r e) ∙ drop_at (reverse before ++ r ∷ []) (reverse later) (place + 1) few in
    ap (λ (ys : List A). reverse (ys ++ drop (place + 1) xs)) front ∙ ap (λ (ys : List A). reverse (reverse before ++ ys)) back
    ∙ reverse-append (reverse before) (reverse later) ∙ ap (λ (ys : List A). ys ++ reverse (reverse before)) (reverse-reverse later)
    ∙ ap (λ (ys : List A). later ++ ys) (reverse-reverse before)

-- the newest of a list
back_kept : {A : Type 0} → (n : ℕ) (ys : List A) → reverse (drop (length ys - n) (reverse ys)) ≡ take n ys
back_kept {A = A} zero ys = let few : length (reverse ys) ≡ length ys = length-reverse ys in ap reverse (drop_all (length ys - 0) (reverse ys) (omega arith))
back_kept {A = A} (suc n) [] = let none : List A = [] in ap reverse (drop_all (length none - suc n) none (omega arith))
back_kept {A = A} (suc n) (y ∷ ys) =
    let k : ℕ = length ys - n in
    let e : length (y ∷ ys) - suc n ≡ k = omega arith in
    let same : length (reverse ys) ≡ length ys = length-reverse ys in
    ap (λ (i : ℕ). reverse (drop i (reverse (y ∷ ys)))) e ∙ ap (λ (l : List A). reverse (drop k l)) (reverse-append (y ∷ []) ys)
    ∙ ap reverse (drop-append-le k (reverse ys) (y ∷ []) (omega arith)) ∙ newest (drop k (reverse ys)) y ∙ ap (λ (l : List A). y ∷ l) (back_kept n ys)

pub newest_kept : {A : Type 0} → (n k : ℕ) (xs : List A) → k ≡ length xs - n → reverse (drop k xs) ≡ take n (reverse xs)
newest_kept {A = A} n k xs e =
    let same : length (reverse xs) ≡ length xs = length-reverse xs in
    let f : k ≡ length (reverse xs) - n = omega arith in
    ap (λ (i : ℕ). reverse (drop i xs)) f ∙ ap (λ (l : List A). reverse (drop (length (reverse xs) - n) l)) (sym (reverse-reverse xs)) ∙ back_kept n (reverse xs)

cons_head : {A : Type 0} → (x y : A) (xs ys : List A) → x ∷ xs ≡ y ∷ ys → x ≡ y
cons_head x y xs ys e = cc

cons_tail : {A : Type 0} → (x y : A) (xs ys : List A) → x ∷ xs ≡ y ∷ ys → xs ≡ ys
cons_tail x y xs ys e = cc

-- THE IMAGE that ended
ended_parts : (dcs : Dcs) (octets : List ℕ) (readers : List ReaderValue) → HasEnded dcs octets readers
    → (u r : ReaderValue) × (before : List ReaderValue) × (readers ≡ u ∷ r ∷ before) × IsReaderOf dcs octets r
ended_parts dcs octets [] h = absurd h
ended_parts dcs octets (u ∷ []) h = absurd h
ended_parts dcs octets (u ∷ r ∷ before) h = (u, r, before, refl, h)

pub ended_at : (xs readers : List ReaderValue) (place : ℕ) (r : ReaderValue) (dcs : Dcs) (octets : List ℕ) → reverse xs ≡ readers → place ≡ length xs - 2 → r ≡ get_or xs place r
    → HasEnded dcs octets readers → (u : ReaderValue) × (before : List ReaderValue) × (readers ≡ u ∷ r ∷ before) × (place ≡ length before) × IsReaderOf dcs octets r
ended_at xs readers place r dcs octets e p at h =
    let parts = ended_parts dcs octets readers h in
    let u : ReaderValue = parts.0 in
    let ended : ReaderValue = parts.1 in
    let before : List ReaderValue = parts.2 in
    let are : reverse xs ≡ (u ∷ []) ++ ended ∷ before = e ∙ parts.3 in
    let long : length xs ≡ 1 + (length before + 1) = length_at xs (u ∷ []) before ended are in
    let here : place ≡ length before = omega arith in
    let same : ended ≡ r = sym (stands_at xs (u ∷ []) before ended r place are here) ∙ sym at in
    (u, before, parts.3 ∙ ap (λ (x : ReaderValue). u ∷ x ∷ before) same, here, subst (IsReaderOf dcs octets) same parts.4)

pub ended_means : (xs readers : List ReaderValue) (place : ℕ) (r : ReaderValue) (dcs : Dcs) (octets : List ℕ) → reverse xs ≡ readers → place ≡ length xs - 2 → r ≡ get_or xs place r
    → ((os : List ℕ) → HasRead os r → MeansRows (elements_of r.format.width) r.coding os r.rows) → HasEnded dcs octets readers
    → (page : PageValue) × MeansAt readers place page × MeansPage (format_of dcs) (coding_of dcs) octets page
ended_means xs readers place r dcs octets e p at checked h =
    let parts = ended_at xs readers place r dcs octets e p at h in
    let of : IsReaderOf dcs octets r = parts.4 in
    let page : PageValue = record { format = r.format; rows = r.rows } in
    let rows : MeansRows (elements_of r.format.width) r.coding octets r.rows = checked octets of.read in (
      page,
      record { under_way = parts.0; later = []; reader = r; before = parts.1; are = parts.2; place_is = parts.3; octets = octets; read = of.read; means = (refl, rows) },
      (of.format, subst (λ (f : Format). MeansRows (elements_of f.width) (coding_of dcs) octets r.rows) of.format (subst (λ (k : Coding). MeansRows (elements_of r.format.width) k octets r.rows) of.coding rows)),
    )

pub ended_fails : (xs readers : List ReaderValue) (place : ℕ) (r : ReaderValue) (dcs : Dcs) (octets : List ℕ) (fault : PageFault) → reverse xs ≡ readers → place ≡ length xs - 2 → r ≡ get_or xs place r
    → ((os : List ℕ) → HasRead os r → FailsPage (elements_of r.format.width) r.coding os fault) → HasEnded dcs octets readers
    → FailsPage (elements_of (format_of dcs).width) (coding_of dcs) octets fault
ended_fails xs readers place r dcs octets fault e p at checked h =
    let parts = ended_at xs readers place r dcs octets e p at h in
    let of : IsReaderOf dcs octets r = parts.4 in
    subst (λ (f : Format). FailsPage (elements_of f.width) (coding_of dcs) octets fault) of.format (subst (λ (k : Coding). FailsPage (elements_of r.format.width) k octets fault) of.coding (checked octets of.read))

-- THE PAGE that is accepted
pub accepted_reader : (xs readers : List ReaderValue) (place : ℕ) (page : PageValue) (r : ReaderValue) → reverse xs ≡ readers → (at : MeansAt readers place page) → r ≡ get_or xs place r
    → HasRead at.octets r × MeansPage r.format r.coding at.octets page
accepted_reader xs readers place page r e at is =
    let same : at.reader ≡ r = sym (stands_at xs (at.under_way ∷ at.later) at.before at.reader r place (e ∙ at.are) at.place_is) ∙ sym is in
    (subst (HasRead at.octets) same at.read, subst (λ (x : ReaderValue). MeansPage x.format x.coding at.octets page) same at.means)

pub accepted_left : (xs ys readers : List ReaderValue) (place : ℕ) (page : PageValue) → reverse xs ≡ readers → (at : MeansAt readers place page) → ys ≡ take place xs ++ drop (place + 1) xs
    → reverse ys ≡ at.under_way ∷ (at.later ++ at.before)
accepted_left xs ys readers place page e at is = ap reverse is ∙ removed xs (at.under_way ∷ at.later) at.before at.reader place (e ∙ at.are) at.place_is

pub accepted_within : (xs readers : List ReaderValue) (place : ℕ) (page : PageValue) → reverse xs ≡ readers → MeansAt readers place page → place < length xs
accepted_within xs readers place page e at =
    let long : length xs ≡ length (at.under_way ∷ at.later) + (length at.before + 1) = length_at xs (at.under_way ∷ at.later) at.before at.reader (e ∙ at.are) in
    let is : place ≡ length at.before = at.place_is in
    omega arith

-- BACK to a mark
abbrev pub BackAt : List ReaderValue → List ReaderValue → MarkValue → ReaderValue → List ReaderValue → Type 0
BackAt old new mark now before = (here : ReaderValue) × (old ≡ here ∷ before) × (mark ≡ mark_of here) × Extends here now × (new ≡ now ∷ before)

back_first : (old readers : List ReaderValue) (xs : List ReaderValue) (count : ℕ) (mark : MarkValue) → count ≡ length old → mark_of_first old ≡ Some mark → GoesOn old readers → reverse xs ≡ readers
    → (now : ReaderValue) × (before : List ReaderValue) × BackAt old (reverse (take count xs)) mark now before
back_first [] readers xs count mark c m g e = cc
back_first (here ∷ before) readers xs count mark c m g e =
    let few : length (reverse before ++ g.1 ∷ []) ≡ count =
    let both : length (reverse before ++ g.1 ∷ []) ≡ length (reverse before) + 1 = length-append (reverse before) (g.1 ∷ []) in
    let same : length (reverse before) ≡ length before = length-reverse before in omega arith in
    let front : take count xs ≡ reverse before ++ g.1 ∷ [] =
    ap (take count) (split xs g.0 before g.1 (e ∙ g.2)) ∙ take_at (reverse before ++ g.1 ∷ []) (reverse g.0) count few in
    (g.1, before, (here, refl, cc, g.3, ap reverse front ∙ newest (reverse before) g.1 ∙ ap (λ (l : List ReaderValue). g.1 ∷ l) (reverse-reverse before)))

reader_again : (here now : ReaderValue) → Extends here now → reader_at (mark_of here) now.rows ≡ here
reader_again here now e =
    let rows : take (length here.rows) now.rows ≡ here.rows = ap (take (length here.rows)) e.rows ∙ take_at here.rows e.more (length here.rows) refl in
    ap (λ (r : List Elements). let k : ReaderValue = record { format = here.format; coding = here.coding; rows = r; tag = here.tag; left = here.left; zeros = here.zeros; settled = here.settled } in k) rows

-- the reader that is put back
pub back_to : (old readers : List ReaderValue) (xs popped : List ReaderValue) (count : ℕ) (mark : MarkValue) (r : ReaderValue) → count ≡ length old → mark_of_first old ≡ Some mark → GoesOn old readers → reverse xs ≡ readers
    → take count xs ≡ popped ++ r ∷ []
    → (mark.format ≡ r.format) × (mark.coding ≡ r.coding) × (mark.count ≤ length r.rows) × (reader_at mark r.rows ∷ reverse popped ≡ old)
back_to old readers xs popped count mark r c m g e p =
    let b = back_first old readers xs count mark c m g e in
    let now : ReaderValue = b.0 in
    let here : ReaderValue = b.2.0 in
    let pair : now ∷ b.1 ≡ r ∷ reverse popped = sym b.2.4 ∙ ap reverse p ∙ newest popped r in
    let same : now ≡ r = cons_head now r b.1 (reverse popped) pair in
    let rest : b.1 ≡ reverse popped = cons_tail now r b.1 (reverse popped) pair in
    let x : Extends here r = subst (Extends here) same b.2.3 in
    let is : mark ≡ mark_of here = b.2.2 in
    let long : length r.rows ≡ length here.rows + length x.more = ap length x.rows ∙ length-append here.rows x.more in
    let few : mark.count ≤ length r.rows = let k : mark.count ≡ length here.rows = ap (λ (k : MarkValue). k.count) is in omega arith in (
      ap (λ (k : MarkValue). k.format) is ∙ sym x.format,
      ap (λ (k : MarkValue). k.coding) is ∙ sym x.coding,
      few,
      ap (λ (k : MarkValue). reader_at k r.rows ∷ reverse popped) is ∙ ap (λ (k : ReaderValue). k ∷ reverse popped) (reader_again here r x) ∙ ap (λ (l : List ReaderValue). here ∷ l) (sym rest) ∙ sym b.2.1,
    )

pub back_none : (old : List ReaderValue) (xs : List ReaderValue) (count : ℕ) → count ≡ length old → mark_of_first old ≡ None → reverse (take count xs) ≡ old
back_none [] xs count c m = ap (λ (n : ℕ). reverse (take n xs)) c
back_none (here ∷ before) xs count c m = cc

pub same_found : (a b : Accepted) → Some a ≡ Some b → a ≡ b
same_found a b e = cc

pub same_page : (p q : PageValue) → ◌≡◌ {A = Result PageValue PageFault} (Ok p) (Ok q) → p ≡ q
same_page p q e = cc

pub no_fault : (f : PageFault) (p : PageValue) → ◌≡◌ {A = Result PageValue PageFault} (Err f) (Ok p) → ⊥
no_fault f p e = cc

nothing : (x : ReaderValue) (xs : List ReaderValue) → [] ≡ x ∷ xs → ⊥
nothing x xs e = cc

pub some_popped : (old readers : List ReaderValue) (xs : List ReaderValue) (count : ℕ) (mark : MarkValue) → count ≡ length old → mark_of_first old ≡ Some mark → GoesOn old readers → reverse xs ≡ readers → take count xs ≡ [] → ⊥
some_popped old readers xs count mark c m g e none =
    let b = back_first old readers xs count mark c m g e in
    nothing b.0 b.1 (ap reverse (sym none) ∙ b.2.4)

pub as_before : (readers : List ReaderValue) (mark : Mark) (old : ImageValue) → IsMarkOf old mark → readers ≡ old.readers
    → (let i : ImageValue = record { readers = readers; accepted = mark.accepted; run = mark.zeros.run; longest = mark.zeros.longest } in i) ≡ old
as_before readers mark old is e =
    ap (λ (l : List ReaderValue). let i : ImageValue = record { readers = l; accepted = mark.accepted; run = mark.zeros.run; longest = mark.zeros.longest } in i) e
    ∙ ap (λ (a : Option Accepted). let i : ImageValue = record { readers = old.readers; accepted = a; run = mark.zeros.run; longest = mark.zeros.longest } in i) is.accepted
    ∙ ap (λ (n : ℕ). let i : ImageValue = record { readers = old.readers; accepted = old.accepted; run = n; longest = mark.zeros.longest } in i) is.run
    ∙ ap (λ (n : ℕ). let i : ImageValue = record { readers = old.readers; accepted = old.accepted; run = old.run; longest = n } in i) is.longest
