-- Cuts of confirmations, and one confirmation more.
use Rattle.std.proofs.Common.{◌≡◌, ℕ, ◌+◌, ◌<◌, ◌≤◌, ◌⊎◌, inl, inr, Bool, true, false, List, [], ◌∷◌, ◌++◌, length, Option, Some, None, refl, sym, ◌∙◌, ap, subst, arith, append_assoc, length-append}
use Rattle.std.proofs.lemmas.List.{append-nil}
use Rattle.fax_pagestore.specs.Pages.{PageValue}
use Rattle.fax_jobs.specs.Jobs.{JobValue, most_pages}
use Rattle.fax_jobs.specs.Books.{job_of, longer, takes_page}
use Rattle.fax_jobs.specs.Cuts.{Confirmation, pages_by, NoneButLast, EndsByEop, IsJobOf, IsCutOf, IsKnown, IsRest, IsCutSoFar}
use Rattle.fax_jobs.proofs.FirstFormat.{first_stays}
use Rattle.fax_jobs.proofs.TakenPages.{taken_page, refused_page}

-- a confirmation more
pages_more : (cs : List Confirmation) (c : Confirmation) → pages_by (cs ++ c ∷ []) ≡ pages_by cs ++ c.page ∷ []
pages_more [] c = refl
pages_more (x ∷ cs) c = ap (λ (ps : List PageValue). x.page ∷ ps) (pages_more cs c)

pub pages_length : (cs : List Confirmation) → length (pages_by cs) ≡ length cs
pages_length [] = refl
pages_length (c ∷ cs) = let e : length (pages_by cs) ≡ length cs = pages_length cs in omega arith

not_true : (b : Bool) → (b ≡ true → ⊥) → b ≡ false
not_true false n = refl
not_true true n = absurd (n refl)

none_more : (cs : List Confirmation) (c : Confirmation) → NoneButLast cs → (EndsByEop cs → ⊥) → NoneButLast (cs ++ c ∷ [])
none_more [] c l n = tt
none_more (x ∷ []) c l n = (not_true x.closes n, tt)
none_more (x ∷ y ∷ cs) c l n = (l.0, none_more (y ∷ cs) c l.1 n)

ends_to : (cs : List Confirmation) (c : Confirmation) → c.closes ≡ true → EndsByEop (cs ++ c ∷ [])
ends_to [] c h = h
ends_to (x ∷ []) c h = h
ends_to (x ∷ y ∷ cs) c h = ends_to (y ∷ cs) c h

ends_from : (cs : List Confirmation) (c : Confirmation) → EndsByEop (cs ++ c ∷ []) → c.closes ≡ true
ends_from [] c h = h
ends_from (x ∷ []) c h = h
ends_from (x ∷ y ∷ cs) c h = ends_from (y ∷ cs) c h

length_more : (cs : List Confirmation) (c : Confirmation) → length (cs ++ c ∷ []) ≡ length cs + 1
length_more cs c = grind (arith, length-append)

some_more : (cs : List Confirmation) (c : Confirmation) → (cs ++ c ∷ [] ≡ []) → ⊥
some_more [] c h = cc
some_more (x ∷ cs) c h = cc

-- a cut whose rest has some property
abbrev pub UpTo : ℕ → List Confirmation → List JobValue → (List Confirmation → Type 0) → Type 0
UpTo call cs [] P = P cs
UpTo call cs (job ∷ jobs) P =
    (own : List Confirmation) × (others : List Confirmation) × (cs ≡ own ++ others) × IsJobOf call own others job × IsKnown own others × UpTo call others jobs P

pub to_up : (call : ℕ) (cs : List Confirmation) (jobs : List JobValue) (o : Option JobValue) → IsCutSoFar call cs jobs o → UpTo call cs jobs (IsRest call o)
to_up call cs [] o h = h
to_up call cs (job ∷ jobs) o h = (h.0, h.1, h.2, h.3, h.4, to_up call h.1 jobs o h.5)

pub from_up : (call : ℕ) (cs : List Confirmation) (jobs : List JobValue) (o : Option JobValue) → UpTo call cs jobs (IsRest call o) → IsCutSoFar call cs jobs o
from_up call cs [] o h = h
from_up call cs (job ∷ jobs) o h = (h.0, h.1, h.2, h.3, h.4, from_up call h.1 jobs o h.5)

pub up_map : (call : ℕ) (cs : List Confirmation) (jobs : List JobValue) (P Q : List Confirmation → Type 0) → ((own : List Confirmation) → P own → Q own) → UpTo call cs jobs P → UpTo call cs jobs Q
up_map call cs [] P Q f h = f cs h
up_map call cs (job ∷ jobs) P Q f h = (h.0, h.1, h.2, h.3, h.4, up_map call h.1 jobs P Q f h.5)

pub up_join : (call : ℕ) (cs : List Confirmation) (jobs more : List JobValue) (Q : List Confirmation → Type 0) → UpTo call cs jobs (λ own. UpTo call own more Q) → UpTo call cs (jobs ++ more) Q
up_join call cs [] more Q h = h
up_join call cs (job ∷ jobs) more Q h = (h.0, h.1, h.2, h.3, h.4, up_join call h.1 jobs more Q h.5)

-- the call ends
pub up_ends : (call : ℕ) (cs : List Confirmation) (jobs more : List JobValue) (P : List Confirmation → Type 0) → ((own : List Confirmation) → P own → IsCutOf call own more) → UpTo call cs jobs P → IsCutOf call cs (jobs ++ more)
up_ends call cs [] more P f h = f cs h
up_ends call cs (job ∷ jobs) more P f h = (h.0, h.1, h.2, h.3, up_ends call h.1 jobs more P f h.5)

-- a job whose cut is known stays one where a confirmation comes
why_more : (own others : List Confirmation) (c : Confirmation) → IsKnown own others →
    (others ≡ []) ⊎ EndsByEop own ⊎ (length own ≡ most_pages) →
    (others ++ c ∷ [] ≡ []) ⊎ EndsByEop own ⊎ (length own ≡ most_pages)
why_more own others c (inl k) w = inr (inl k)
why_more own others c (inr k) (inl e) = absurd (k e)
why_more own others c (inr k) (inr w) = inr w

job_more : (call : ℕ) (own others : List Confirmation) (job : JobValue) (c : Confirmation) → IsKnown own others → IsJobOf call own others job → IsJobOf call own (others ++ c ∷ []) job
job_more call own others job c k j =
    record { same_call = j.same_call; some = j.some; few = j.few; same_pages = j.same_pages; of_first = j.of_first; eop_at_end = j.eop_at_end; why = why_more own others c k j.why }

known_more : (own others : List Confirmation) (c : Confirmation) → IsKnown own others → IsKnown own (others ++ c ∷ [])
known_more own others c (inl l) = inl l
known_more own others c (inr n) = inr (some_more others c)

pub up_more : (call : ℕ) (cs : List Confirmation) (jobs : List JobValue) (P Q : List Confirmation → Type 0) (c : Confirmation) → ((own : List Confirmation) → P own → Q (own ++ c ∷ [])) → UpTo call cs jobs P → UpTo call (cs ++ c ∷ []) jobs Q
up_more call cs [] P Q c f h = f cs h
up_more call cs (job ∷ jobs) P Q c f h =
    (h.0, h.1 ++ c ∷ [], ap (λ (xs : List Confirmation). xs ++ c ∷ []) h.2 ∙ append_assoc h.0 h.1 (c ∷ []), job_more call h.0 h.1 job c h.4 h.3, known_more h.0 h.1 c h.4, up_more call h.1 jobs P Q c f h.5)

-- the rest is one job, which ends with this confirmation
pub record EndsWith (call : ℕ) (c : Confirmation) (job : JobValue) (own : List Confirmation) : Type 0 where
  pub is_job : IsJobOf call own [] job
  pub to : c.closes ≡ true → EndsByEop own
  pub from : EndsByEop own → c.closes ≡ true

one_page : (call : ℕ) (c : Confirmation) → IsJobOf call (c ∷ []) [] (job_of call c.page)
one_page call c =
    record { same_call = refl; some = omega arith; few = omega arith; same_pages = refl; of_first = refl; eop_at_end = tt; why = inl refl }

pub first_page : (call : ℕ) (c : Confirmation) (own : List Confirmation) → own ≡ [] → EndsWith call c (job_of call c.page) (own ++ c ∷ [])
first_page call c own e =
    subst (λ (xs : List Confirmation). EndsWith call c (job_of call c.page) (xs ++ c ∷ [])) (sym e) (record { is_job = one_page call c; to = λ h. h; from = λ h. h })

pub further_page : (call : ℕ) (c : Confirmation) (job : JobValue) (own : List Confirmation) → takes_page job call ≡ true → IsRest call (Some job) own → EndsWith call c (longer job c.page) (own ++ c ∷ [])
further_page call c job own t r =
    let j : IsJobOf call own [] job = r.0 in
    let e : length job.pages ≡ length own = ap (λ (ps : List PageValue). length ps) j.same_pages ∙ pages_length own in
    let l : length job.pages < most_pages = taken_page job call t in
    let m : length (own ++ c ∷ []) ≡ length own + 1 = length_more own c in
    record {
      is_job = record {
        same_call = j.same_call;
        some = omega arith;
        few = omega arith;
        same_pages = ap (λ (ps : List PageValue). ps ++ c.page ∷ []) j.same_pages ∙ sym (pages_more own c);
        of_first = first_stays job.format job.pages c.page j.of_first;
        eop_at_end = none_more own c j.eop_at_end r.1;
        why = inl refl;
      };
      to = ends_to own c;
      from = ends_from own c;
    }

all_pages : (job : JobValue) (own : List Confirmation) → length job.pages ≡ length own → length own ≤ most_pages → most_pages ≤ length job.pages → length own ≡ most_pages
all_pages job own e k f = omega arith

pub other_job : (call : ℕ) (c : Confirmation) (job : JobValue) (own : List Confirmation) → takes_page job call ≡ false → IsRest call (Some job) own → UpTo call (own ++ c ∷ []) (job ∷ []) (EndsWith call c (job_of call c.page))
other_job call c job own t r =
    let j : IsJobOf call own [] job = r.0 in
    let e : length job.pages ≡ length own = ap (λ (ps : List PageValue). length ps) j.same_pages ∙ pages_length own in
    let is : IsJobOf call own (c ∷ []) job =
    record {
      same_call = j.same_call;
      some = j.some;
      few = j.few;
      same_pages = j.same_pages;
      of_first = j.of_first;
      eop_at_end = j.eop_at_end;
      why = inr (inr (all_pages job own e j.few (refused_page job call j.same_call t)));
    } in
    let k : IsKnown own (c ∷ []) = inr (λ h. cc) in
    (own, c ∷ [], refl, is, k, record { is_job = one_page call c; to = λ h. h; from = λ h. h })

pub stays_open : (c : Confirmation) (call : ℕ) (job : JobValue) (own : List Confirmation) → c.closes ≡ false → EndsWith call c job own → IsRest call (Some job) own
stays_open c call job own m e = (e.is_job, λ l. let q : c.closes ≡ true = e.from l in let r : false ≡ true = sym m ∙ q in cc)

pub shut : (c : Confirmation) (call : ℕ) (job : JobValue) (own : List Confirmation) → c.closes ≡ true → EndsWith call c job own → UpTo call own (job ∷ []) (IsRest call None)
shut c call job own l e = let k : IsKnown own [] = inl (e.to l) in (own, [], sym (append-nil own), e.is_job, k, refl)
