-- Which calls are torn.
use Rattle.std.proofs.Common.{◌≡◌, ℕ, ◌+◌, ◌<◌, Bool, true, false, cond, not, ◌&&◌, ◌||◌, nat_lt, List, [], ◌∷◌, ◌++◌, length, take, drop, get_or, refl, sym, ◌∙◌, ap, arith, append_assoc, if◌then◌else◌}
use Rattle.std.specs.List.{list_any}
use Rattle.std.proofs.lemmas.List.{append-nil, drop_more, take_more}
use Rattle.std.proofs.lemmas.List.Folds.{list_any-append}
use Rattle.std.proofs.lemmas.List.Sums.{sum_by-cons}
use Rattle.fax_spool.specs.RecordOctets.{PageValue}
use Rattle.fax_spool.specs.Torn.{CallName, NothingIsTornWithoutDamage, call_of, damaged, has_damage, is_damaged, is_next, is_previous, lacks_after, lacks_before, torn_among, torn_by, torn_calls}
use Rattle.fax_spool.specs.declared.spool_record.SpoolRecord.{SpoolRecord}
use Rattle.fax_spool.specs.declared.spool_record.SpoolRecord.TheVariants.{Page, Ended, Epoch, Damaged}

-- ---- records in two parts

pub torn_append : (before xs ys after : List SpoolRecord) → torn_among before (xs ++ ys) after ≡ torn_among before xs (ys ++ after) ++ torn_among (before ++ xs) ys after
torn_append before [] ys after = ap (λ (l : List SpoolRecord). torn_among l ys after) (sym (append-nil before))
torn_append before (r ∷ xs) ys after =
    ap (λ (l : List SpoolRecord). torn_by before r l ++ torn_among (before ++ r ∷ []) (xs ++ ys) after) (append_assoc xs ys after)
    ∙ ap (λ (l : List CallName). torn_by before r (xs ++ (ys ++ after)) ++ l)
    (torn_append (before ++ r ∷ []) xs ys after ∙ ap (λ (l : List SpoolRecord). torn_among (before ++ r ∷ []) xs (ys ++ after) ++ torn_among l ys after) (append_assoc before (r ∷ []) xs))
    ∙ sym (append_assoc (torn_by before r (xs ++ (ys ++ after))) (torn_among (before ++ r ∷ []) xs (ys ++ after)) (torn_among (before ++ r ∷ xs) ys after))

-- those of two files
pub torn_both : (olds news : List SpoolRecord) → torn_among [] olds news ++ torn_among olds news [] ≡ torn_calls (olds ++ news)
torn_both olds news = sym (torn_append [] olds news [] ∙ ap (λ (l : List SpoolRecord). torn_among [] olds l ++ torn_among olds news []) (append-nil news))

-- one record more was looked at
pub next_torn : (before records after : List SpoolRecord) (i : ℕ) (kept : SpoolRecord) (calls more total : List CallName) → i < length records → get_or records i kept ≡ kept
    → more ≡ calls ++ torn_by (before ++ take i records) kept (drop (i + 1) records ++ after)
    → calls ++ torn_among (before ++ take i records) (drop i records) after ≡ total
    → more ++ torn_among (before ++ take (i + 1) records) (drop (i + 1) records) after ≡ total
next_torn before records after i kept calls more total lt got is was =
    let split : drop i records ≡ kept ∷ drop (i + 1) records = drop_more records i kept lt ∙ ap (λ (r : SpoolRecord). r ∷ drop (i + 1) records) got in
    let front : before ++ take (i + 1) records ≡ before ++ take i records ++ kept ∷ [] =
    ap (λ (l : List SpoolRecord). before ++ l) (take_more records i kept lt ∙ ap (λ (r : SpoolRecord). take i records ++ r ∷ []) got) ∙ sym (append_assoc before (take i records) (kept ∷ [])) in
    ap (λ (l : List CallName). l ++ torn_among (before ++ take (i + 1) records) (drop (i + 1) records) after) is
    ∙ append_assoc calls (torn_by (before ++ take i records) kept (drop (i + 1) records ++ after)) (torn_among (before ++ take (i + 1) records) (drop (i + 1) records) after)
    ∙ ap (λ (l : List SpoolRecord). calls ++ (torn_by (before ++ take i records) kept (drop (i + 1) records ++ after) ++ torn_among l (drop (i + 1) records) after)) front
    ∙ ap (λ (l : List SpoolRecord). calls ++ torn_among (before ++ take i records) l after) (sym split)
    ∙ was

-- ---- where nothing is damaged

pub or_false : (a b : Bool) → (a || b) ≡ false → (a ≡ false) × (b ≡ false)
or_false false b nay = (refl, nay)
or_false true b nay = absurd (cc)

pub both_false : (a b : Bool) → a ≡ false → b ≡ false → (a || b) ≡ false
both_false a b p q = ap (λ (t : Bool). t || b) p ∙ q

nothing_lacks : (a b c : Bool) → c ≡ false → (a && (b && c)) ≡ false
nothing_lacks true true c nay = nay
nothing_lacks true false c nay = refl
nothing_lacks false b c nay = refl

none_by : (before after : List SpoolRecord) (r : SpoolRecord) → has_damage before ≡ false → has_damage after ≡ false → torn_by before r after ≡ []
none_by before after (Page page) first second =
    ap (λ (b : Bool). if b then call_of page ∷ [] else [])
    (both_false (lacks_before before page) (lacks_after page after) (nothing_lacks (nat_lt 1 page.number) (not (list_any (is_previous page) before)) (has_damage before) first)
    (nothing_lacks (not page.closes) (not (list_any (is_next page) after)) (has_damage after) second))
none_by before after (Ended ended) first second = refl
none_by before after (Epoch number) first second = refl
none_by before after Damaged first second = refl

none_among : (before records after : List SpoolRecord) → has_damage before ≡ false → has_damage (records ++ after) ≡ false → torn_among before records after ≡ []
none_among before [] after first second = refl
none_among before (r ∷ records) after first second =
    let parts = or_false (is_damaged r) (has_damage (records ++ after)) second in
    let more : has_damage (before ++ r ∷ []) ≡ false = list_any-append is_damaged before (r ∷ []) ∙ both_false (has_damage before) (is_damaged r || false) first (both_false (is_damaged r) false parts.0 refl) in
    ap (λ (l : List CallName). l ++ torn_among (before ++ r ∷ []) records after) (none_by before (records ++ after) r first parts.1) ∙ none_among (before ++ r ∷ []) records after more parts.1

pub undamaged : (records : List SpoolRecord) → has_damage records ≡ false → torn_calls records ≡ []
undamaged records none = none_among [] records [] refl (ap has_damage (append-nil records) ∙ none)

pub none_counted : (records : List SpoolRecord) → damaged records ≡ 0 → has_damage records ≡ false
none_counted [] none = refl
none_counted (Page page ∷ records) none = none_counted records none
none_counted (Ended ended ∷ records) none = none_counted records none
none_counted (Epoch number ∷ records) none = none_counted records none
none_counted (Damaged ∷ records) none = absurd (omega (arith, none, sum_by-cons (λ (r : SpoolRecord). cond (is_damaged r) 1 0) Damaged records))

pub nothing_is_torn_without_damage : NothingIsTornWithoutDamage
nothing_is_torn_without_damage records none = undamaged records (none_counted records none)

-- both files have none
pub neither : (olds news : List SpoolRecord) → has_damage olds ≡ false → has_damage news ≡ false → torn_calls (olds ++ news) ≡ []
neither olds news first second = undamaged (olds ++ news) (list_any-append is_damaged olds news ∙ both_false (has_damage olds) (has_damage news) first second)

-- ---- tests over records in two parts

not_either : (a b c : Bool) → (not (a || b) && c) ≡ (not a && (not b && c))
not_either true b c = refl
not_either false b c = refl

nor_either : (a b c : Bool) → (not (a || b) && c) ≡ (not b && (not a && c))
nor_either true true c = refl
nor_either true false c = refl
nor_either false true c = refl
nor_either false false c = refl

pub before_parts : (far near : List SpoolRecord) (page : PageValue)
    → lacks_before (far ++ near) page ≡ (nat_lt 1 page.number && (not (list_any (is_previous page) near) && (not (list_any (is_previous page) far) && (has_damage far || has_damage near))))
before_parts far near page =
    ap (λ (b : Bool). nat_lt 1 page.number && (not b && has_damage (far ++ near))) (list_any-append (is_previous page) far near)
    ∙ ap (λ (b : Bool). nat_lt 1 page.number && (not (list_any (is_previous page) far || list_any (is_previous page) near) && b)) (list_any-append is_damaged far near)
    ∙ ap (λ (b : Bool). nat_lt 1 page.number && b) (nor_either (list_any (is_previous page) far) (list_any (is_previous page) near) (has_damage far || has_damage near))

pub after_parts : (near far : List SpoolRecord) (page : PageValue)
    → lacks_after page (near ++ far) ≡ (not page.closes && (not (list_any (is_next page) near) && (not (list_any (is_next page) far) && (has_damage near || has_damage far))))
after_parts near far page =
    ap (λ (b : Bool). not page.closes && (not b && has_damage (near ++ far))) (list_any-append (is_next page) near far)
    ∙ ap (λ (b : Bool). not page.closes && (not (list_any (is_next page) near || list_any (is_next page) far) && b)) (list_any-append is_damaged near far)
    ∙ ap (λ (b : Bool). not page.closes && b) (not_either (list_any (is_next page) near) (list_any (is_next page) far) (has_damage near || has_damage far))

-- one record less, which is not looked for
pub last_not : (f : SpoolRecord → Bool) (before : List SpoolRecord) (r : SpoolRecord) → f r ≡ false → list_any f (before ++ r ∷ []) ≡ list_any f before
last_not f before r nay = list_any-append f before (r ∷ []) ∙ ap (λ (b : Bool). list_any f before || (b || false)) nay ∙ or_none (list_any f before)
  where
    or_none : (b : Bool) → (b || false) ≡ b
    or_none true = refl
    or_none false = refl

pub last_is : (f : SpoolRecord → Bool) (before : List SpoolRecord) (r : SpoolRecord) → f r ≡ true → list_any f (before ++ r ∷ []) ≡ true
last_is f before r yea = list_any-append f before (r ∷ []) ∙ ap (λ (b : Bool). list_any f before || (b || false)) yea ∙ or_all (list_any f before)
  where
    or_all : (b : Bool) → (b || true) ≡ true
    or_all true = refl
    or_all false = refl
