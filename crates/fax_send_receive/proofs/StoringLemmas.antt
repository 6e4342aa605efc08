-- The files of a call, page by page, and of a run, call by call.
use Rattle.std.proofs.Common.{◌≡◌, ◌⊎◌, inl, inr, ℕ, zero, suc, ◌+◌, add-one, Bool, true, false, List, [], ◌∷◌, ◌++◌, append_assoc, Option, Some, None, length, refl, ap, subst, sym, ◌∙◌}
use Rattle.std.specs.Prelude.{Ok, Err}
use Rattle.fax_pagestore.specs.Pages.{PageValue}
use Rattle.fax_answer.specs.Sent.{pages_confirmed}
use Rattle.fax_terminal.specs.declared.fault.TerminalFault.{TerminalFault}
use Rattle.fax_terminal.specs.declared.fault.TerminalFault.TheVariants as terminal_faults
use Rattle.fax_terminal.specs.Calls.{StoresConfirmed, StoresWholeCall, rung_at}
use Rattle.fax_terminal.specs.Stores.{AreGiven, stored_all}
use Rattle.fax_send_receive.specs.declared.run_fault.RunFault.{RunFault}
use Rattle.fax_send_receive.specs.Faults.{IsStoreFault}
use Rattle.fax_send_receive.specs.Folders.{FileValue, IsAdded}
use Rattle.fax_send_receive.specs.Naming.{Naming}
use Rattle.fax_send_receive.specs.Storing.{AddsFiles, AreFilesOf, BeginsCall, BreaksOff, FilingValue, HasBroken, HasCall, HasCalls, HasWholeCall, IsFileOfPage, IsPageAdded, StoresPage, pages_stored}

-- files after others
pub AddsFiles-join : {P Q : List FileValue → Type 0} (R : List FileValue → Type 0) → ((newer older : List FileValue) → Q newer → P older → R (newer ++ older))
    → (first before after : Option (List FileValue)) → AddsFiles P first before → AddsFiles Q before after → AddsFiles R first after
AddsFiles-join R join None before after so_far now = tt
AddsFiles-join {P} {Q} R join (Some older) before after (files, same, is) now =
    let (newer, added, more) = subst (λ (told : Option (List FileValue)). AddsFiles Q told after) same now in
    (newer ++ files, added ∙ ap (λ all. Some all) (sym (append_assoc newer files older)), join newer files more is)

-- the same files, which are so
pub AddsFiles-none : (P : List FileValue → Type 0) (before after : Option (List FileValue)) → after ≡ before → P [] → AddsFiles P before after
AddsFiles-none P None after same is = tt
AddsFiles-none P (Some older) after same is = ([], same, is)

-- what is so of the files is otherwise so
pub AddsFiles-as : {P Q : List FileValue → Type 0} → ((files : List FileValue) → P files → Q files) → (before after : Option (List FileValue))
    → AddsFiles P before after → AddsFiles Q before after
AddsFiles-as leads None after adds = tt
AddsFiles-as leads (Some older) after (newer, same, is) = (newer, same, leads newer is)

-- one file more
added_file : (naming naming' : Naming) (call call' number : ℕ) (page : PageValue) (pages : List PageValue) (first before after : Option (List FileValue))
    → naming' ≡ naming → call' ≡ call → number ≡ length pages + 1
    → AddsFiles (AreFilesOf naming call pages) first before → IsPageAdded naming' call' number page before after
    → AddsFiles (AreFilesOf naming call (page ∷ pages)) first after
added_file naming naming' call call' number page pages None before after same_naming same_call same_number so_far added = tt
added_file naming naming' call call' number page pages (Some older) before after same_naming same_call same_number (files, same, are) added =
    let (file, is, now) = subst (λ (told : Option (List FileValue)). IsPageAdded naming' call' number page told after) same added in
    let is_naming = subst (λ (p : Naming). IsFileOfPage p call' number page file) same_naming is in
    let is_call = subst (λ (n : ℕ). IsFileOfPage naming n number page file) same_call is_naming in
    (file ∷ files, now, (subst (λ (n : ℕ). IsFileOfPage naming call n page file) same_number is_call, are))

-- What is made of a store by the pages of a call that began with none
pub record FilesGiven (all_stored : Bool) (pages : List PageValue) (old new : FilingValue) : Type 0 where
  pub same_naming : new.naming ≡ old.naming
  pub same_call : new.call ≡ old.call
  pub counted : all_stored ≡ true → new.pages ≡ length pages
  pub adds : AddsFiles (AreFilesOf old.naming old.call (pages_stored all_stored pages)) old.made new.made

pub FilesGiven-all : (all_stored : Bool) (pages : List PageValue) (old new : FilingValue) → old.pages ≡ 0 → AreGiven StoresPage all_stored pages old new
    → FilesGiven all_stored pages old new
FilesGiven-all true [] old new begun given = record {
  same_naming = ap (λ (f : FilingValue). f.naming) given;
  same_call = ap (λ (f : FilingValue). f.call) given;
  counted = λ all. ap (λ (f : FilingValue). f.pages) given ∙ begun;
  adds = AddsFiles-none (AreFilesOf old.naming old.call []) old.made new.made (ap (λ (f : FilingValue). f.made) given) tt;
}
FilesGiven-all false [] old new begun given = absurd given
FilesGiven-all true (page ∷ pages) old new begun (between, given, is) =
    let so_far = FilesGiven-all true pages old between begun given in
    record {
      same_naming = is.same_naming ∙ so_far.same_naming;
      same_call = is.same_call ∙ so_far.same_call;
      counted = λ all. is.counted refl ∙ ap (λ (n : ℕ). n + 1) (so_far.counted refl) ∙ add-one (length pages);
      adds = added_file old.naming between.naming old.call between.call (between.pages + 1) page pages old.made between.made new.made
          so_far.same_naming so_far.same_call (ap (λ (n : ℕ). n + 1) (so_far.counted refl)) so_far.adds (is.kept refl);
    }
FilesGiven-all false (page ∷ pages) old new begun (between, given, is) =
    let so_far = FilesGiven-all true pages old between begun given in
    record {
      same_naming = is.same_naming ∙ so_far.same_naming;
      same_call = is.same_call ∙ so_far.same_call;
      counted = λ all. let q : false ≡ true = all in cc;
      adds = subst (λ (after : Option (List FileValue)). AddsFiles (AreFilesOf old.naming old.call pages) old.made after) (sym (is.unkept refl)) so_far.adds;
    }

-- ---- calls

HasCall-kept : (naming : Naming) (pause : ℕ) (all_stored : Bool) (before begun after : FilingValue) → BeginsCall naming before begun
    → StoresConfirmed StoresPage pause all_stored begun after → AddsFiles (HasCall naming pause all_stored) before.made after.made
HasCall-kept naming pause all_stored before begun after begins k =
    let pages = pages_confirmed (rung_at pause k.start) k.events in
    let given = FilesGiven-all all_stored pages begun after begins.no_pages k.given in
    subst (λ (told : Option (List FileValue)). AddsFiles (HasCall naming pause all_stored) told after.made) begins.same_files
    (AddsFiles-as (λ files are. record {
      call = begun.call;
      start = k.start;
      events = k.events;
      right = k.right;
      files_are = subst (λ (p : Naming). AreFilesOf p begun.call (pages_stored all_stored pages) files) begins.same_naming are;
    }) begun.made after.made given.adds)

HasWholeCall-kept : (naming : Naming) (pause : ℕ) (before begun after : FilingValue) → BeginsCall naming before begun
    → StoresWholeCall StoresPage pause begun after → AddsFiles (HasWholeCall naming pause) before.made after.made
HasWholeCall-kept naming pause before begun after begins w =
    let k = w.kept in
    let pages = pages_confirmed (rung_at pause k.start) k.events in
    let given = FilesGiven-all true pages begun after begins.no_pages k.given in
    subst (λ (told : Option (List FileValue)). AddsFiles (HasWholeCall naming pause) told after.made) begins.same_files
    (AddsFiles-as (λ files are. record {
      has = record {
        call = begun.call;
        start = k.start;
        events = k.events;
        right = k.right;
        files_are = subst (λ (p : Naming). AreFilesOf p begun.call pages files) begins.same_naming are;
      };
      over = w.over;
    }) begun.made after.made given.adds)

-- one call more that is over
pub one_call_more : (naming : Naming) (pause calls : ℕ) (first : Option (List FileValue)) (before begun after : FilingValue)
    → AddsFiles (HasCalls naming pause calls) first before.made → BeginsCall naming before begun → StoresWholeCall StoresPage pause begun after
    → AddsFiles (HasCalls naming pause (calls + 1)) first after.made
one_call_more naming pause calls first before begun after so_far begins whole =
    subst (λ (n : ℕ). AddsFiles (HasCalls naming pause n) first after.made) (sym (add-one calls))
    (AddsFiles-join (HasCalls naming pause (suc calls)) (λ newer older w c. (newer, older, refl, w, c)) first before.made after.made so_far
    (HasWholeCall-kept naming pause before begun after begins whole))

-- a run that ends between two calls
pub ends_between : (naming : Naming) (pause calls : ℕ) (fault : RunFault) (first last : Option (List FileValue))
    → AddsFiles (HasCalls naming pause calls) first last → AddsFiles (HasBroken naming pause fault) first last
ends_between naming pause calls fault first last so_far =
    AddsFiles-as (λ files has. record { calls = calls; newer = []; older = files; split = refl; whole = has; last = inl refl }) first last so_far

-- before the first
pub ends_before : (naming : Naming) (pause : ℕ) (fault : RunFault) (first last : Option (List FileValue)) → last ≡ first
    → AddsFiles (HasBroken naming pause fault) first last
ends_before naming pause fault first last same = ends_between naming pause 0 fault first last (AddsFiles-none (HasCalls naming pause 0) first last same refl)

-- or in one
pub ends_in : (naming : Naming) (pause calls : ℕ) (all_stored : Bool) (fault : RunFault) (first : Option (List FileValue)) (before begun after : FilingValue)
    → AddsFiles (HasCalls naming pause calls) first before.made → BeginsCall naming before begun → StoresConfirmed StoresPage pause all_stored begun after
    → (all_stored ≡ false → IsStoreFault naming fault) → AddsFiles (HasBroken naming pause fault) first after.made
ends_in naming pause calls all_stored fault first before begun after so_far begins kept told =
    AddsFiles-join (HasBroken naming pause fault)
    (λ newer older is has. record {
      calls = calls;
      newer = newer;
      older = older;
      split = refl;
      whole = has;
      last = inr (record { all_stored = all_stored; has = is; told = told });
    }) first before.made after.made so_far (HasCall-kept naming pause all_stored before begun after begins kept)

-- a call that goes no further since a page was not stored
pub store_fault : (fault : TerminalFault) (told : RunFault) (naming : Naming) → (fault ≡ terminal_faults.Storing → IsStoreFault naming told)
    → stored_all {A = Unit {0}} (Err fault) ≡ false → IsStoreFault naming told
store_fault terminal_faults.NoMemory told naming storage unkept = let q : true ≡ false = unkept in cc
store_fault terminal_faults.Clock told naming storage unkept = let q : true ≡ false = unkept in cc
store_fault terminal_faults.Storing told naming storage unkept = storage refl
