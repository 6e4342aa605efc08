-- The pages of files, and the fault of one file of a job.
use Rattle.std.proofs.Common.{◌≡◌, ◌⊎◌, inl, inr, ℕ, zero, suc, ◌+◌, ◌<◌, ◌≤◌, List, [], ◌∷◌, ◌++◌, Option, Some, None, length, map, take, get_or, refl, ap, subst, sym, ◌∙◌, arith, add-one, append_assoc, append-nil, length-append, Bor}
use Rattle.std.proofs.lemmas.List.{length-map, get_or-map, take_all}
use Rattle.std.specs.Prelude.{Contains}
use Rattle.fax_runcodes.specs.declared.format.Format.{Format}
use Rattle.fax_runcodes.specs.declared.format.Coding.{Coding}
use Rattle.fax_pagestore.specs.Pages.{PageValue}
use Rattle.fax_jobs.specs.Jobs.{JobValue, most_pages}
use Rattle.fax_send_receive.specs.declared.run_fault.RunFault.{RunFault}
use Rattle.fax_send_receive.specs.declared.run_fault.RunFault.TheVariants as faults
use Rattle.fax_send_receive.specs.Faults.{IsFileFault, IsJobFault}
use Rattle.fax_send_receive.specs.Files.{ArePagesOfFile, ArePagesOfFiles}
use Rattle.fax_send_receive.specs.Runs.{IsBegun, IsJobOfFiles, pages_of}

-- the pages of one file more
pub files_after : (holds : List ℕ → Option (List ℕ)) (format : Format) (coding : Coding) (names : List (List ℕ)) (pages : List PageValue) (name : List ℕ) (more : List PageValue)
    → ArePagesOfFiles holds format coding names pages → ArePagesOfFile format coding (holds name) more
    → ArePagesOfFiles holds format coding (names ++ name ∷ []) (pages ++ more)
files_after holds format coding [] pages name more are is = (more, [], ap (λ (l : List PageValue). l ++ more) are ∙ sym (append-nil more), is, refl)
files_after holds format coding (other ∷ names) pages name more (first, rest, same, own, are) is =
    (first, rest ++ more, ap (λ (l : List PageValue). l ++ more) same ∙ append_assoc first rest more, own, files_after holds format coding names rest name more are is)

-- one name more
taken : {X Y : Type 0} (f : X → Y) (xs : List X) (k : ℕ) (d : X) → k < length xs → take (suc k) (map f xs) ≡ take k (map f xs) ++ f (get_or xs k d) ∷ []
taken f [] k d l = absurd (omega arith)
taken f (x ∷ xs) zero d l = refl
taken f (x ∷ xs) (suc k) d l = ap (λ ys. f x ∷ ys) (taken f xs k d (omega arith))

pub name_after : (names : List (Bor (List ℕ))) (k : ℕ) (d : Bor (List ℕ)) → k < length names
    → take (k + 1) (map (λ name. name.now) names) ≡ take k (map (λ name. name.now) names) ++ (get_or names k d).now ∷ []
name_after names k d l =
    subst (λ (n : ℕ). take n (map (λ name. name.now) names) ≡ take k (map (λ name. name.now) names) ++ (get_or names k d).now ∷ []) (sym (add-one k))
    (taken (λ name. name.now) names k d l)

-- what is made of an element is among what is made of all of them
pub made_contained : {X Y : Type 0} (f : X → Y) (xs : List X) (k : ℕ) (d : X) → k < length xs → Contains (map f xs) (f (get_or xs k d))
made_contained f xs k d l = (k, subst (λ (n : ℕ). k < n) (sym (length-map xs f)) l, get_or-map f xs k d (f (get_or xs k d)) l)

-- a file of the job is at fault
of_name : (holds : List ℕ → Option (List ℕ)) (format : Format) (coding : Coding) (names : List (List ℕ)) (name : List ℕ) (fault : RunFault)
    → Contains names name → IsFileFault (holds name) format coding name fault → IsJobFault holds format coding names fault
of_name holds format coding names name faults.NoMemory has is = tt
of_name holds format coding names name (faults.File named error) has is = (name, has, is)
of_name holds format coding names name (faults.Unread named error) has is = (name, has, is)
of_name holds format coding names name (faults.Tiff named fault) has is = (name, has, is)
of_name holds format coding names name (faults.Picture named fault) has is = (name, has, is)
of_name holds format coding names name (faults.Text named fault) has is = (name, has, is)
of_name holds format coding names name faults.PageCount has is = absurd is
of_name holds format coding names name (faults.Address named error) has is = absurd is
of_name holds format coding names name (faults.Clock error) has is = absurd is
of_name holds format coding names name faults.Time has is = absurd is
of_name holds format coding names name (faults.Page named call page error) has is = absurd is

-- the fault of the file that is read
pub of_file : (holds : List ℕ → Option (List ℕ)) (format : Format) (coding : Coding) (names : List (Bor (List ℕ))) (k : ℕ) (d : Bor (List ℕ)) (fault : RunFault)
    → k < length names → IsFileFault (holds (get_or names k d).now) format coding (get_or names k d).now fault
    → IsJobFault holds format coding (map (λ name. name.now) names) fault
of_file holds format coding names k d fault l is =
    of_name holds format coding (map (λ name. name.now) names) (get_or names k d).now fault (made_contained (λ name. name.now) names k d l) is

-- the pages of the file that is read, after those of the files before it
pub pages_more : (holds : List ℕ → Option (List ℕ)) (format : Format) (coding : Coding) (names : List (Bor (List ℕ))) (k : ℕ) (d : Bor (List ℕ)) (pages more : List PageValue)
    → k < length names → ArePagesOfFiles holds format coding (take k (map (λ name. name.now) names)) pages
    → ArePagesOfFile format coding (holds (get_or names k d).now) more
    → ArePagesOfFiles holds format coding (take (k + 1) (map (λ name. name.now) names)) (pages ++ more)
pages_more holds format coding names k d pages more l are is =
    subst (λ (taken : List (List ℕ)). ArePagesOfFiles holds format coding taken (pages ++ more)) (sym (name_after names k d l))
    (files_after holds format coding (take k (map (λ name. name.now) names)) pages (get_or names k d).now more are is)

-- there are too many of them, or memory is wanting
pub of_pages : (holds : List ℕ → Option (List ℕ)) (format : Format) (coding : Coding) (names : List (List ℕ)) (count : ℕ) (pages : List PageValue) (fault : RunFault)
    → ArePagesOfFiles holds format coding (take count names) pages
    → ((fault ≡ faults.NoMemory) ⊎ ((fault ≡ faults.PageCount) × (most_pages < length pages))) → IsJobFault holds format coding names fault
of_pages holds format coding names count pages fault are (inl same) =
    subst (λ (f : RunFault). IsJobFault holds format coding names f) (sym same) tt
of_pages holds format coding names count pages fault are (inr (same, long)) =
    subst (λ (f : RunFault). IsJobFault holds format coding names f) (sym same) (inr (count, pages, are, long))

-- ---- all files

all_names : (names : List (Bor (List ℕ))) (k : ℕ) → length names ≤ k → take k (map (λ name. name.now) names) ≡ map (λ name. name.now) names
all_names names k l = take_all k (map (λ name. name.now) names) (subst (λ (n : ℕ). n ≤ k) (sym (length-map names (λ name. name.now))) l)

-- they make a job
pub job_made : (holds : List ℕ → Option (List ℕ)) (format : Format) (coding : Coding) (names : List (Bor (List ℕ))) (k : ℕ) (so_far : Option JobValue) (job : JobValue)
    → length names ≤ k → so_far ≡ Some job → IsBegun so_far → ArePagesOfFiles holds format coding (take k (map (λ name. name.now) names)) (pages_of so_far)
    → IsJobOfFiles holds format coding (map (λ name. name.now) names) job
job_made holds format coding names k so_far job l same begun are =
    let is : IsBegun (Some job) = subst IsBegun same begun in
    record {
      call = is.0;
      some = is.1;
      few = is.2;
      pages = subst (λ (taken : List (List ℕ)). ArePagesOfFiles holds format coding taken job.pages) (all_names names k l)
          (subst (λ (j : Option JobValue). ArePagesOfFiles holds format coding (take k (map (λ name. name.now) names)) (pages_of j)) same are);
    }

-- or they have no page
pub no_page : (holds : List ℕ → Option (List ℕ)) (format : Format) (coding : Coding) (names : List (Bor (List ℕ))) (k : ℕ) (so_far : Option JobValue)
    → length names ≤ k → so_far ≡ None → ArePagesOfFiles holds format coding (take k (map (λ name. name.now) names)) (pages_of so_far)
    → IsJobFault holds format coding (map (λ name. name.now) names) faults.PageCount
no_page holds format coding names k so_far l same are =
    inl (subst (λ (taken : List (List ℕ)). ArePagesOfFiles holds format coding taken []) (all_names names k l)
    (subst (λ (j : Option JobValue). ArePagesOfFiles holds format coding (take k (map (λ name. name.now) names)) (pages_of j)) same are))

-- ---- the pages of a job

-- one page more
pub one_more_joined : (before rest left all : List PageValue) (page : PageValue) (more : List PageValue)
    → more ≡ before ++ page ∷ [] → left ≡ page ∷ rest → before ++ left ≡ all → more ++ rest ≡ all
one_more_joined before rest left all page more is gone joined =
    ap (λ (l : List PageValue). l ++ rest) is ∙ append_assoc before (page ∷ []) rest ∙ ap (λ (l : List PageValue). before ++ l) (sym gone) ∙ joined

-- none fits any more
pub too_many : (before rest left all : List PageValue) (page : PageValue) (fault : RunFault) → left ≡ page ∷ rest → before ++ left ≡ all
    → ((fault ≡ faults.NoMemory) ⊎ ((fault ≡ faults.PageCount) × (most_pages ≤ length before)))
    → ((fault ≡ faults.NoMemory) ⊎ ((fault ≡ faults.PageCount) × (most_pages < length all)))
too_many before rest left all page fault gone joined (inl same) = inl same
too_many before rest left all page fault gone joined (inr (same, many)) =
    let long : length before + length left ≡ length all = sym (length-append before left) ∙ ap (λ (l : List PageValue). length l) joined in
    let some : length left ≡ suc (length rest) = ap (λ (l : List PageValue). length l) gone in
    inr (same, omega (arith, many, long, some))

-- none is left
pub all_joined : (before left all : List PageValue) → length left ≡ 0 → before ++ left ≡ all → before ≡ all
all_joined before [] all none joined = sym (append-nil before) ∙ joined
all_joined before (page ∷ left) all none joined = absurd (omega arith)
