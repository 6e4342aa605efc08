-- Records that are passed over tear their call as harmed ones do.
use Rattle.std.proofs.Common.{◌≡◌, ◌⊎◌, inl, inr, Bool, true, false, not, ◌&&◌, ◌||◌, nat_lt, List, [], ◌∷◌, ◌++◌, refl, sym, ◌∙◌, ap, subst, if◌then◌else◌}
use Rattle.std.specs.List.{list_any}
use Rattle.std.proofs.lemmas.List.Folds.{list_any-append}
use Rattle.fax_spool.specs.RecordOctets.{PageValue}
use Rattle.fax_spool.specs.Torn.{CallName, call_of, has_damage, is_damaged, is_next, is_of, is_of_any, is_previous, lacks_after, lacks_before, torn_among, torn_by}
use Rattle.fax_spool.specs.Harm.{IsFound, IsHarmed, LostPagesTearTheirCall, is_page}
use Rattle.fax_spool.specs.declared.spool_record.SpoolRecord.{SpoolRecord}
use Rattle.fax_spool.specs.declared.spool_record.SpoolRecord.TheVariants.{Page, Ended, Epoch, Damaged}
use Rattle.fax_spool.proofs.TornCalls.{both_false, torn_append}
use Rattle.fax_spool.proofs.Lost.{and_true, both_true, harmed_both, harmed_pages_tear_their_call, or_left, or_right}

either : (a b : Bool) → (a || b) ≡ true → (a ≡ true) ⊎ (b ≡ true)
either true b yea = inl refl
either false b yea = inr yea

-- ---- a damaged record in place of each one that was lost

abbrev damages : List SpoolRecord → List SpoolRecord
damages [] = []
damages (r ∷ lost) = Damaged ∷ damages lost

harmed_damages : (lost : List SpoolRecord) → IsHarmed lost (damages lost)
harmed_damages [] = tt
harmed_damages (r ∷ lost) = (inr refl, harmed_damages lost)

abbrev apart : (records found : List SpoolRecord) → IsFound records found → List SpoolRecord
apart records [] is = []
apart records (f ∷ found) (inl same) = f ∷ apart same.0 found same.2
apart records (f ∷ found) (inr gone) = damages gone.1 ++ apart gone.2 found gone.4

apart_harmed : (records found : List SpoolRecord) (is : IsFound records found) → IsHarmed records (apart records found is)
apart_harmed records [] is = subst (λ (l : List SpoolRecord). IsHarmed l []) (sym is) tt
apart_harmed records (f ∷ found) (inl same) = subst (λ (l : List SpoolRecord). IsHarmed l (f ∷ apart same.0 found same.2)) (sym same.1) (inl refl, apart_harmed same.0 found same.2)
apart_harmed records (f ∷ found) (inr gone) =
    subst (λ (l : List SpoolRecord). IsHarmed l (damages gone.1 ++ apart gone.2 found gone.4)) (sym gone.3)
    (harmed_both gone.1 (damages gone.1) gone.2 (apart gone.2 found gone.4) (harmed_damages gone.1) (apart_harmed gone.2 found gone.4))

-- ---- tests that no damaged record passes

test_damages : (t : SpoolRecord → Bool) → t Damaged ≡ false → (lost : List SpoolRecord) → list_any t (damages lost) ≡ false
test_damages t nay [] = refl
test_damages t nay (r ∷ lost) = both_false (t Damaged) (list_any t (damages lost)) nay (test_damages t nay lost)

test_apart : (t : SpoolRecord → Bool) → t Damaged ≡ false → (records found : List SpoolRecord) (is : IsFound records found) → list_any t (apart records found is) ≡ list_any t found
test_apart t nay records [] is = refl
test_apart t nay records (f ∷ found) (inl same) = ap (λ (b : Bool). t f || b) (test_apart t nay same.0 found same.2)
test_apart t nay records (f ∷ found) (inr gone) =
    list_any-append t (damages gone.1) (apart gone.2 found gone.4)
    ∙ ap (λ (b : Bool). b || list_any t (apart gone.2 found gone.4)) (test_damages t nay gone.1)
    ∙ test_apart t nay gone.2 found gone.4
    ∙ sym (ap (λ (b : Bool). b || list_any t found) (ap t gone.0 ∙ nay))

-- ---- records that tell the same pages, where the others have damage if these do

record Covers (these others : List SpoolRecord) : Type 0 where
  next : (page : PageValue) → list_any (is_next page) these ≡ list_any (is_next page) others
  previous : (page : PageValue) → list_any (is_previous page) these ≡ list_any (is_previous page) others
  damage : has_damage these ≡ true → has_damage others ≡ true

covers_same : (these : List SpoolRecord) → Covers these these
covers_same these = record { next = λ page. refl; previous = λ page. refl; damage = λ yea. yea }

both_any : (t : SpoolRecord → Bool) (a b c d : List SpoolRecord) → list_any t a ≡ list_any t b → list_any t c ≡ list_any t d → list_any t (a ++ c) ≡ list_any t (b ++ d)
both_any t a b c d first second =
    list_any-append t a c ∙ ap (λ (x : Bool). x || list_any t c) first ∙ ap (λ (x : Bool). list_any t b || x) second ∙ sym (list_any-append t b d)

both_damaged : (a b c d : List SpoolRecord) → (has_damage a ≡ true → has_damage b ≡ true) → (has_damage c ≡ true → has_damage d ≡ true) → has_damage (a ++ c) ≡ true → has_damage (b ++ d) ≡ true
both_damaged a b c d first second yea =
    list_any-append is_damaged b d
    ∙ elim (either (has_damage a) (has_damage c) (sym (list_any-append is_damaged a c) ∙ yea)) [
      | inl here ↦ or_left (has_damage b) (has_damage d) (first here)
      | inr there ↦ or_right (has_damage b) (has_damage d) (second there)
    ]

covers_both : (a b c d : List SpoolRecord) → Covers a b → Covers c d → Covers (a ++ c) (b ++ d)
covers_both a b c d first second = record {
  next = λ page. both_any (is_next page) a b c d (first.next page) (second.next page);
  previous = λ page. both_any (is_previous page) a b c d (first.previous page) (second.previous page);
  damage = both_damaged a b c d first.damage second.damage;
}

covers_damages : (lost : List SpoolRecord) → Covers (damages lost) (Damaged ∷ [])
covers_damages lost = record {
  next = λ page. test_damages (is_next page) refl lost;
  previous = λ page. test_damages (is_previous page) refl lost;
  damage = λ yea. refl;
}

apart_damage : (records found : List SpoolRecord) (is : IsFound records found) → has_damage (apart records found is) ≡ true → has_damage found ≡ true
apart_damage records [] is yea = yea
apart_damage records (f ∷ found) (inl same) yea = elim (either (is_damaged f) (has_damage (apart same.0 found same.2)) yea) [
  | inl here ↦ or_left (is_damaged f) (has_damage found) here
  | inr there ↦ or_right (is_damaged f) (has_damage found) (apart_damage same.0 found same.2 there)
]
apart_damage records (f ∷ found) (inr gone) yea = or_left (is_damaged f) (has_damage found) (ap is_damaged gone.0)

covers_apart : (records found : List SpoolRecord) (is : IsFound records found) → Covers (apart records found is) found
covers_apart records found is = record {
  next = λ page. test_apart (is_next page) refl records found is;
  previous = λ page. test_apart (is_previous page) refl records found is;
  damage = apart_damage records found is;
}

-- ---- so a call that is torn by the ones is torn by the others

lacks_with : (x y z a b : Bool) → a ≡ b → (x && (not a && y)) ≡ true → (y ≡ true → z ≡ true) → (x && (not b && z)) ≡ true
lacks_with x y z a b same yea more =
    let parts = both_true x (not a && y) yea in
    let last = both_true (not a) y parts.1 in
    and_true x (not b && z) parts.0 (and_true (not b) z (ap not (sym same) ∙ last.0) (more last.1))

lacks_covers :
    (a b c d : List SpoolRecord) (p : PageValue) → Covers a b → Covers c d → (lacks_before a p || lacks_after p c) ≡ true → (lacks_before b p || lacks_after p d) ≡ true
lacks_covers a b c d p first second yea = elim (either (lacks_before a p) (lacks_after p c) yea) [
  | inl here ↦
      or_left (lacks_before b p) (lacks_after p d)
      (lacks_with (nat_lt 1 p.number) (has_damage a) (has_damage b) (list_any (is_previous p) a) (list_any (is_previous p) b) (first.previous p) here first.damage)
  | inr there ↦
      or_right (lacks_before b p) (lacks_after p d)
      (lacks_with (not p.closes) (has_damage c) (has_damage d) (list_any (is_next p) c) (list_any (is_next p) d) (second.next p) there second.damage)
]

torn_if : (x y : Bool) (name : CallName) (page : PageValue) → (x ≡ true → y ≡ true) → is_of_any (if x then name ∷ [] else []) page ≡ true → is_of_any (if y then name ∷ [] else []) page ≡ true
torn_if true y name page more yea = ap (λ (b : Bool). is_of_any (if b then name ∷ [] else []) page) (more refl) ∙ yea
torn_if false y name page more yea = absurd (cc)

by_covers :
    (a b c d : List SpoolRecord) (r : SpoolRecord) (page : PageValue) → Covers a b → Covers c d → is_of_any (torn_by a r c) page ≡ true → is_of_any (torn_by b r d) page ≡ true
by_covers a b c d (Page p) page first second yea =
    torn_if (lacks_before a p || lacks_after p c) (lacks_before b p || lacks_after p d) (call_of p) page (lacks_covers a b c d p first second) yea
by_covers a b c d (Ended ended) page first second yea = absurd (cc)
by_covers a b c d (Epoch number) page first second yea = absurd (cc)
by_covers a b c d Damaged page first second yea = absurd (cc)

torn_damages : (before lost after : List SpoolRecord) → torn_among before (damages lost) after ≡ []
torn_damages before [] after = refl
torn_damages before (r ∷ lost) after = torn_damages (before ++ Damaged ∷ []) lost after

among_covers :
    (a b c d records found : List SpoolRecord) (is : IsFound records found) (page : PageValue) → Covers a b → Covers c d → is_of_any (torn_among a (apart records found is) c) page ≡ true
    → is_of_any (torn_among b found d) page ≡ true
among_covers a b c d records [] is page first second yea = absurd (cc)
among_covers a b c d records (f ∷ found) (inl same) page first second yea =
    let rest = apart same.0 found same.2 in
    let own = covers_apart same.0 found same.2 in
    list_any-append (is_of page) (torn_by b f (found ++ d)) (torn_among (b ++ f ∷ []) found d)
    ∙ elim (either (is_of_any (torn_by a f (rest ++ c)) page) (is_of_any (torn_among (a ++ f ∷ []) rest c) page)
    (sym (list_any-append (is_of page) (torn_by a f (rest ++ c)) (torn_among (a ++ f ∷ []) rest c)) ∙ yea)) [
      | inl here ↦
          or_left (is_of_any (torn_by b f (found ++ d)) page) (is_of_any (torn_among (b ++ f ∷ []) found d) page)
          (by_covers a b (rest ++ c) (found ++ d) f page first (covers_both rest found c d own second) here)
      | inr there ↦
          or_right (is_of_any (torn_by b f (found ++ d)) page) (is_of_any (torn_among (b ++ f ∷ []) found d) page)
          (among_covers (a ++ f ∷ []) (b ++ f ∷ []) c d same.0 found same.2 page (covers_both a b (f ∷ []) (f ∷ []) first (covers_same (f ∷ []))) second there)
    ]
among_covers a b c d records (f ∷ found) (inr gone) page first second yea =
    let rest = apart gone.2 found gone.4 in
    let split : torn_among a (damages gone.1 ++ rest) c ≡ torn_among (a ++ damages gone.1) rest c =
    torn_append a (damages gone.1) rest c ∙ ap (λ (l : List CallName). l ++ torn_among (a ++ damages gone.1) rest c) (torn_damages a gone.1 (rest ++ c)) in
    ap (λ (k : SpoolRecord). is_of_any (torn_among b (k ∷ found) d) page) gone.0
    ∙ among_covers (a ++ damages gone.1) (b ++ Damaged ∷ []) c d gone.2 found gone.4 page (covers_both a b (damages gone.1) (Damaged ∷ []) first (covers_damages gone.1)) second
    (ap (λ (l : List CallName). is_of_any l page) (sym split) ∙ yea)

pub lost_pages_tear_their_call : LostPagesTearTheirCall
lost_pages_tear_their_call records found pages there lost is once job stand some other kept gone =
    among_covers [] [] [] [] records found is lost (covers_same []) (covers_same [])
    (harmed_pages_tear_their_call records (apart records found is) pages there lost (apart_harmed records found is) once job stand some other
    (test_apart (is_page there) refl records found is ∙ kept) (test_apart (is_page lost) refl records found is ∙ gone))
