-- A line that is restored with what is left of a job.
use Rattle.std.proofs.Common.{◌≡◌, ◌⊎◌, inl, inr, ℕ, ◌-◌, min, Bool, true, false, not, ◌&&◌, cond, nat_eq, bytes_eq, [], ◌∷◌, Option, Result, Err, IfErr, List, length, drop, take, map, refl, sym, ◌∙◌, ap, subst, arith, length-drop}
use Rattle.std.specs.List.{filter, list_all}
use Rattle.std.specs.Str.{IsUtf8, is_utf8}
use Rattle.std.proofs.lemmas.Bool.Decides.{nat_tests}
use Rattle.std.proofs.lemmas.List.{drop_min, take_all}
use Rattle.std.proofs.lemmas.Str.{IsUtf8-from_is_utf8, is_utf8-from_IsUtf8}
use Rattle.fax_desk.specs.declared.tag.Tag.{Tag}
use Rattle.fax_gateway.specs.Restored.{call_shown}
use Rattle.fax_line.specs.Actions.{BeginsWith, LineValue}
use Rattle.fax_queue.specs.Restorations.{AreAside, NoneIsTorn, Restores, WholeLinesAreRestored, own_pages, whole_pages}
use Rattle.fax_queue.specs.declared.queue.Aside.{Aside}
use Rattle.fax_queue.specs.declared.restored.RestoredLine.{RestoredLine}
use Rattle.fax_redial.specs.Begun.{BeginsWithLeft, HasPages, IsFaultOf, IsJobOf, LacksOne, RestoresUnless, may_restore}
use Rattle.fax_redial.specs.declared.fault.BeginFault.{BeginFault}
use Rattle.fax_redial.specs.declared.fault.BeginFault.TheVariants as faults
use Rattle.fax_redial.specs.declared.job.RetryJob.{RetryJob}
use Rattle.fax_spool.specs.RecordOctets.{PageValue}
use Rattle.fax_spool.specs.Torn.{CallName, is_of}
use Rattle.fax_undelivered.specs.Calls.{CallValue, name_of}
use Rattle.fax_undelivered.specs.Dropped.{IsIn}

-- no call is among none
pub none_torn : (line : List ℕ) (pages : List PageValue) → NoneIsTorn line [] pages
none_torn line pages = λ k d within. refl

-- from the first page on that was not delivered
left_is : (pages : List PageValue) (first delivered : ℕ) → first ≡ min delivered (length pages) → take (length pages - first) (drop first pages) ≡ drop delivered pages
left_is pages first delivered is =
    take_all (length pages - first) (drop first pages) (omega (arith, length-drop first pages)) ∙ ap (λ (n : ℕ). drop n pages) is ∙ drop_min delivered pages

restored_left : (name : List ℕ) (pages : List PageValue) (first delivered : ℕ) (restored : RestoredLine) → WholeLinesAreRestored → first ≡ min delivered (length pages)
    → Restores name (whole_pages [] (take (length pages - first) (drop first pages))) restored → Restores name (drop delivered pages) restored
restored_left name pages first delivered restored whole is restores =
    let left = take (length pages - first) (drop first pages) in
    subst (λ (l : List PageValue). Restores name l restored) (left_is pages first delivered is) (whole name [] left restored (none_torn name left) restores)

pub begins_left : (name : List ℕ) (pages : List PageValue) (first delivered : ℕ) (restored : RestoredLine) (line : LineValue) → WholeLinesAreRestored → first ≡ min delivered (length pages)
    → Restores name (whole_pages [] (take (length pages - first) (drop first pages))) restored → restored.queue.aside ≡ [] → BeginsWith (map call_shown restored.calls.items) line → BeginsWithLeft name pages delivered line
begins_left name pages first delivered restored line whole is restores none begins = record {
  restored = restored;
  restores = restored_left name pages first delivered restored whole is restores;
  none_aside = none;
  begins = begins;
}

-- ---- where one was set aside

pub none_aside : (aside : List Aside) (b : Bool) → b ≡ not (nat_eq (length aside) 0) → b ≡ false → aside ≡ []
none_aside [] b is un = refl
none_aside (a ∷ aside) b is un = absurd (grind (arith, nat_tests))

pub some_aside : (aside : List Aside) (b : Bool) → b ≡ not (nat_eq (length aside) 0) → b ≡ true → aside ≡ [] → ⊥
some_aside [] b is so none = let wrong : true ≡ false = sym so ∙ is in absurd (cc)
some_aside (a ∷ aside) b is so none = absurd (cc)

lacks_in : (pages : List PageValue) (aside : List Aside) → AreAside pages aside → (aside ≡ [] → ⊥) → LacksOne pages
lacks_in [] aside are some = absurd (some are)
lacks_in (w ∷ pages) [] are some = absurd (some refl)
lacks_in (w ∷ pages) (a ∷ aside) (inl (means, are)) some = let it = lacks_in pages (a ∷ aside) are some in (it.0, inr it.1, it.2)
lacks_in (w ∷ pages) (a ∷ aside) (inr (none, is, are)) some = (w, inl refl, none)

-- a page that is kept is one of all
from_kept : (page p : PageValue) (pages kept : List PageValue) (b : Bool) → (IsIn page kept → IsIn page pages) → IsIn page (cond b (p ∷ kept) kept) → IsIn page (p ∷ pages)
from_kept page p pages kept true rest (inl same) = inl same
from_kept page p pages kept true rest (inr is) = inr (rest is)
from_kept page p pages kept false rest is = inr (rest is)

in_whole : (test : PageValue → Bool) (page : PageValue) (pages : List PageValue) → IsIn page (filter test pages) → IsIn page pages
in_whole test page [] is = is
in_whole test page (p ∷ pages) is = from_kept page p pages (filter test pages) (test p) (in_whole test page pages) is

pub lacks_one : (name : List ℕ) (pages : List PageValue) (first delivered : ℕ) (restored : RestoredLine) → WholeLinesAreRestored → first ≡ min delivered (length pages)
    → Restores name (whole_pages [] (take (length pages - first) (drop first pages))) restored → (restored.queue.aside ≡ [] → ⊥) → LacksOne (drop delivered pages)
lacks_one name pages first delivered restored whole is restores some =
    let left = restored_left name pages first delivered restored whole is restores in
    let it = lacks_in (own_pages name (drop delivered pages)) restored.queue.aside left.aside some in
    (it.0, in_whole (λ page. bytes_eq page.line name) it.0 (drop delivered pages) it.1, it.2)

pub for_memory : {T : Type 0} (left : List PageValue) (answer : Result T BeginFault) (fault : BeginFault) → answer ≡ Err fault → fault ≡ faults.NoMemory → IfErr answer (λ fault. IsFaultOf left fault)
for_memory {T} left answer fault is none = subst (λ (r : Result T BeginFault). IfErr r (λ fault. IsFaultOf left fault)) (sym is) (inl none)

-- ---- a job that has the numbers of these pages

second_of : (a b : Bool) → (a && b) ≡ true → b ≡ true
second_of true b is = is
second_of false b is = absurd (cc)

pub has_pages : (call : CallValue) (tag : Option Tag) (pages : List PageValue) (job : RetryJob) (line : LineValue) (name : List ℕ) (delivered : ℕ) → may_restore call pages ≡ true → name ≡ call.line
    → BeginsWithLeft name pages delivered line → IsJobOf call tag pages job → HasPages job line
has_pages call tag pages job line name delivered may same begins is = record {
  pages = pages;
  own = subst (λ (n : CallName). list_all (λ page. is_of page n) pages ≡ true) (sym is.name) (second_of (is_utf8 call.line) (list_all (λ page. is_of page (name_of call)) pages) may);
  delivered = delivered;
  begins = subst (λ (l : List ℕ). BeginsWithLeft l pages delivered line) (same ∙ ap (λ (n : CallName). n.line) (sym is.name)) begins;
  numbers = is.numbers;
}

-- ---- the name of its line

none_so : (line : List ℕ) (b : Bool) → is_utf8 line ≡ b → (IsUtf8 line → ⊥) → b ≡ false
none_so line true is none = absurd (none (IsUtf8-from_is_utf8 line is))
none_so line false is none = refl

both_off : (a : Bool) → (a && false) ≡ false
both_off true = refl
both_off false = refl

pub name_so : (call : CallValue) (pages : List PageValue) (own : Bool) → own ≡ list_all (λ page. is_of page (name_of call)) pages → own ≡ true → IsUtf8 call.line → may_restore call pages ≡ true
name_so call pages own are so text = ap (λ (b : Bool). b && list_all (λ page. is_of page (name_of call)) pages) (is_utf8-from_IsUtf8 call.line text) ∙ sym are ∙ so

pub no_name : (call : CallValue) (pages : List PageValue) → (IsUtf8 call.line → ⊥) → may_restore call pages ≡ false
no_name call pages none = ap (λ (b : Bool). b && list_all (λ page. is_of page (name_of call)) pages) (none_so call.line (is_utf8 call.line) refl none)

pub not_own : (call : CallValue) (pages : List PageValue) (own : Bool) → own ≡ list_all (λ page. is_of page (name_of call)) pages → own ≡ false → may_restore call pages ≡ false
not_own call pages own are un = ap (λ (b : Bool). is_utf8 call.line && b) (sym are ∙ un) ∙ both_off (is_utf8 call.line)

-- ---- why there is no try

pub faulted : {T : Type 0} (may : Bool) (left : List PageValue) (answer : Result T BeginFault) (fault : BeginFault) → may ≡ true → answer ≡ Err fault → IsFaultOf left fault → RestoresUnless may left answer
faulted {T} true left answer fault so is why = subst (λ (r : Result T BeginFault). RestoresUnless true left r) (sym is) why
faulted false left answer fault so is why = absurd (cc)
