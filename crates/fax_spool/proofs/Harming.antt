-- What harm of records leaves.
use Rattle.std.proofs.Common.{◌≡◌, inl, inr, ℕ, ◌+◌, ◌≤◌, Bool, true, false, not, cond, max, List, [], ◌∷◌, ◌++◌, refl, sym, ◌∙◌, ap, subst, arith, append_assoc}
use Rattle.fax_spool.specs.RecordOctets.{PageValue, EndedValue}
use Rattle.fax_spool.specs.Waits.{ends, left_after, left_of, name_of, waiting, without}
use Rattle.fax_spool.specs.Spools.{AreAbove, epochs, greatest_after, greatest_epoch, raised}
use Rattle.fax_spool.specs.Harm.{HarmKeepsTheOrder, HarmLosesItsOwn, IsHarmed, IsHarmedOnce, OneHarmKeepsTheOrder}
use Rattle.fax_spool.specs.declared.spool_record.SpoolRecord.{SpoolRecord}
use Rattle.fax_spool.specs.declared.spool_record.SpoolRecord.TheVariants.{Page, Ended, Epoch, Damaged}
use Rattle.fax_spool.proofs.Order.{order_found}
use Rattle.fax_spool.proofs.Shares.{shares, splits}

-- ---- the order

none_found : (records found : List SpoolRecord) → IsHarmed records found → records ≡ [] → found ≡ []
none_found [] [] harmed none = refl
none_found [] (x ∷ found) harmed none = absurd harmed
none_found (r ∷ records) [] harmed none = absurd harmed
none_found (r ∷ records) (x ∷ found) harmed none = cc

less : (records : List SpoolRecord) (least most : ℕ) → least ≤ most → greatest_after least records ≤ greatest_after most records
less [] least most le = le
less (Page page ∷ records) least most le = less records least most le
less (Ended ended ∷ records) least most le = less records least most le
less (Epoch number ∷ records) least most le = less records (max least number) (max most number) (omega (arith, le))
less (Damaged ∷ records) least most le = less records least most le

raises : (most : ℕ) (r : SpoolRecord) → most ≤ raised most r
raises most (Page page) = omega arith
raises most (Ended ended) = omega arith
raises most (Epoch number) = omega arith
raises most Damaged = omega arith

-- harm adds no epoch
no_greater : (records found : List SpoolRecord) (most : ℕ) → IsHarmed records found → greatest_after most found ≤ greatest_after most records
no_greater [] [] most harmed = omega arith
no_greater [] (x ∷ found) most harmed = absurd harmed
no_greater (r ∷ records) [] most harmed = absurd harmed
no_greater (r ∷ records) (x ∷ found) most harmed = elim harmed.0 [
  | inl is ↦ omega (arith, ap (λ (k : SpoolRecord). greatest_after (raised most k) found) is, no_greater records found (raised most r) harmed.1)
  | inr lost ↦
      omega (arith, ap (λ (k : SpoolRecord). greatest_after (raised most k) found) lost, no_greater records found most harmed.1, less records most (raised most r) (raises most r))
]

above_less : (n m : ℕ) (records : List SpoolRecord) → n ≤ m → AreAbove m records → AreAbove n records
above_less n m [] le above = tt
above_less n m (Page page ∷ records) le above = above_less n m records le above
above_less n m (Ended ended ∷ records) le above = above_less n m records le above
above_less n m (Epoch number ∷ records) le above = (omega (arith, le, above.0), above_less n m records le above.1)
above_less n m (Damaged ∷ records) le above = above_less n m records le above

above_after : (n : ℕ) (r : SpoolRecord) (records : List SpoolRecord) → AreAbove n (r ∷ records) → AreAbove n records
above_after n (Page page) records above = above
above_after n (Ended ended) records above = above
above_after n (Epoch number) records above = above.1
above_after n Damaged records above = above

above_first : (n : ℕ) (r : SpoolRecord) (records found : List SpoolRecord) → AreAbove n (r ∷ records) → AreAbove n found → AreAbove n (r ∷ found)
above_first n (Page page) records found above more = more
above_first n (Ended ended) records found above more = more
above_first n (Epoch number) records found above more = (above.0, more)
above_first n Damaged records found above more = more

above_found : (n : ℕ) (records found : List SpoolRecord) → IsHarmed records found → AreAbove n records → AreAbove n found
above_found n [] [] harmed above = tt
above_found n [] (x ∷ found) harmed above = absurd harmed
above_found n (r ∷ records) [] harmed above = absurd harmed
above_found n (r ∷ records) (x ∷ found) harmed above =
    let more = above_found n records found harmed.1 (above_after n r records above) in
    elim harmed.0 [
      | inl is ↦ subst (λ (k : SpoolRecord). AreAbove n (k ∷ found)) (sym is) (above_first n r records found above more)
      | inr lost ↦ subst (λ (k : SpoolRecord). AreAbove n (k ∷ found)) (sym lost) more
    ]

pub harm_keeps_the_order : HarmKeepsTheOrder
harm_keeps_the_order olds news older newer (inl none) first second some = inl (none_found news newer second none)
harm_keeps_the_order olds news older newer (inr (inl none)) first second some = inr (inl (none_found olds older first none))
harm_keeps_the_order olds news older newer (inr (inr come)) first second some =
    inr (inr (some, above_less (greatest_epoch older) (greatest_epoch olds) newer (no_greater olds older 0 first) (above_found (greatest_epoch olds) news newer second come.1)))

-- ---- one record

still_harmed : (records : List SpoolRecord) → IsHarmed records records
still_harmed [] = tt
still_harmed (r ∷ records) = (inl refl, still_harmed records)

once_harmed : (records found : List SpoolRecord) → IsHarmedOnce records found → IsHarmed records found
once_harmed [] [] once = tt
once_harmed [] (x ∷ found) once = absurd once
once_harmed (r ∷ records) [] once = absurd once
once_harmed (r ∷ records) (x ∷ found) (inl once) = (inl once.0, once_harmed records found once.1)
once_harmed (r ∷ records) (x ∷ found) (inr lost) = (inr lost.0, subst (λ (l : List SpoolRecord). IsHarmed records l) (sym lost.1) (still_harmed records))

one_less : (r : SpoolRecord) (records : List SpoolRecord) → epochs (r ∷ records) ≤ epochs records + 1
one_less (Page page) records = omega arith
one_less (Ended ended) records = omega arith
one_less (Epoch number) records = omega arith
one_less Damaged records = omega arith

at_least : (r : SpoolRecord) (records found : List SpoolRecord) → epochs records ≤ epochs found + 1 → epochs (r ∷ records) ≤ epochs (r ∷ found) + 1
at_least (Page page) records found le = le
at_least (Ended ended) records found le = le
at_least (Epoch number) records found le = omega (arith, le)
at_least Damaged records found le = le

epochs_left : (records found : List SpoolRecord) → IsHarmedOnce records found → epochs records ≤ epochs found + 1
epochs_left [] [] once = omega arith
epochs_left [] (x ∷ found) once = absurd once
epochs_left (r ∷ records) [] once = absurd once
epochs_left (r ∷ records) (x ∷ found) (inl once) =
    subst (λ (k : SpoolRecord). epochs (r ∷ records) ≤ epochs (k ∷ found) + 1) (sym once.0) (at_least r records found (epochs_left records found once.1))
epochs_left (r ∷ records) (x ∷ found) (inr lost) =
    subst (λ (k : SpoolRecord). epochs (r ∷ records) ≤ epochs (k ∷ found) + 1) (sym lost.0)
    (subst (λ (l : List SpoolRecord). epochs (r ∷ records) ≤ epochs l + 1) (sym lost.1) (one_less r records))

pub one_harm_keeps_the_order : OneHarmKeepsTheOrder
one_harm_keeps_the_order olds news older newer (inl none) first once = inr (inl (none_found olds older first none))
one_harm_keeps_the_order olds news older newer (inr come) first once =
    harm_keeps_the_order olds news older newer (order_found olds news (inr come)) first (once_harmed news newer once) (omega (arith, come.0, epochs_left news newer once))

-- ---- what waits

without_one : (e f : EndedValue) (p : PageValue) (pages : List PageValue) (a b : Bool) → ends e (name_of p) ≡ a → ends f (name_of p) ≡ b → without e (without f pages) ≡ without f (without e pages)
    → without e (without f (p ∷ pages)) ≡ without f (without e (p ∷ pages))
without_one e f p pages true true is also same =
    ap (λ (c : Bool). without e (cond (not c) (p ∷ without f pages) (without f pages))) also ∙ same
    ∙ sym (ap (λ (c : Bool). without f (cond (not c) (p ∷ without e pages) (without e pages))) is)
without_one e f p pages true false is also same =
    ap (λ (c : Bool). without e (cond (not c) (p ∷ without f pages) (without f pages))) also
    ∙ ap (λ (c : Bool). cond (not c) (p ∷ without e (without f pages)) (without e (without f pages))) is
    ∙ same
    ∙ sym (ap (λ (c : Bool). without f (cond (not c) (p ∷ without e pages) (without e pages))) is)
without_one e f p pages false true is also same =
    ap (λ (c : Bool). without e (cond (not c) (p ∷ without f pages) (without f pages))) also
    ∙ same
    ∙ sym (ap (λ (c : Bool). without f (cond (not c) (p ∷ without e pages) (without e pages))) is
    ∙ ap (λ (c : Bool). cond (not c) (p ∷ without f (without e pages)) (without f (without e pages))) also)
without_one e f p pages false false is also same =
    ap (λ (c : Bool). without e (cond (not c) (p ∷ without f pages) (without f pages))) also
    ∙ ap (λ (c : Bool). cond (not c) (p ∷ without e (without f pages)) (without e (without f pages))) is
    ∙ ap (λ (l : List PageValue). p ∷ l) same
    ∙ sym (ap (λ (c : Bool). without f (cond (not c) (p ∷ without e pages) (without e pages))) is
    ∙ ap (λ (c : Bool). cond (not c) (p ∷ without f (without e pages)) (without f (without e pages))) also)

without_both : (e f : EndedValue) (pages : List PageValue) → without e (without f pages) ≡ without f (without e pages)
without_both e f [] = refl
without_both e f (p ∷ pages) = without_one e f p pages (ends e (name_of p)) (ends f (name_of p)) refl refl (without_both e f pages)

left_without : (e : EndedValue) (r : SpoolRecord) (pages : List PageValue) → left_of (without e pages) r ≡ without e (left_of pages r)
left_without e (Page page) pages = refl
left_without e (Ended f) pages = without_both f e pages
left_without e (Epoch number) pages = refl
left_without e Damaged pages = refl

after_without : (e : EndedValue) (records : List SpoolRecord) (pages : List PageValue) → left_after (without e pages) records ≡ without e (left_after pages records)
after_without e [] pages = refl
after_without e (r ∷ records) pages = ap (λ (l : List PageValue). left_after l records) (left_without e r pages) ∙ after_without e records (left_of pages r)

pub harm_loses_its_own : HarmLosesItsOwn
harm_loses_its_own before after (Page page) = (
  left_after (waiting before) after,
  waiting after,
  shares before (Damaged ∷ after),
  shares before (Page page ∷ after) ∙ ap (λ (l : List PageValue). left_after (waiting before) after ++ l) (splits (page ∷ []) [] after)
      ∙ sym (append_assoc (left_after (waiting before) after) (left_after (page ∷ []) after) (waiting after)),
)
harm_loses_its_own before after (Ended ended) = (
  left_after (waiting before) after,
  waiting after,
  shares before (Damaged ∷ after),
  shares before (Ended ended ∷ after) ∙ ap (λ (l : List PageValue). l ++ waiting after) (after_without ended after (waiting before)),
)
harm_loses_its_own before after (Epoch number) = (left_after (waiting before) after, waiting after, shares before (Damaged ∷ after), shares before (Epoch number ∷ after))
harm_loses_its_own before after Damaged = (left_after (waiting before) after, waiting after, shares before (Damaged ∷ after), shares before (Damaged ∷ after))
