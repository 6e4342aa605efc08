-- A whole call: every job gets through, and so every page.
use Rattle.std.proofs.Common.{◌≡◌, ℕ, zero, suc, ◌<◌, ◌⊎◌, inl, inr, ◌+◌, ◌-◌, ◌*◌, ◌≤◌, true, false, List, [], ◌∷◌, length, Option, Some, sym, ◌∙◌, ap, subst, arith, refl}
use Rattle.std.proofs.lemmas.Bool.{cases_lt}
use Rattle.std.proofs.lemmas.List.Elements.{All-head, All-tail, All-cons, All-nil}
use Rattle.std.specs.Prelude.{All}
use Rattle.fax_runcodes.specs.declared.format.Coding.TheVariants.{Mr}
use Rattle.fax_pagestore.specs.Pages.{IsPage, PageValue}
use Rattle.fax_jobs.specs.Books.{job_of}
use Rattle.fax_jobs.specs.Jobs.{IsJob, IsOfFirst, JobValue}
use Rattle.fax_ifp.specs.Pieces.{Piece}
use Rattle.fax_answer.specs.Calls as answer
use Rattle.fax_answer.specs.Calls.{AnswererCore}
use Rattle.fax_answer.proofs.Readings.{questions_are_known}
use Rattle.fax_call.specs.Calls.{CallerCore}
use Rattle.fax_call.specs.Delivery.{is_over}
use Rattle.fax_call.specs.Writings.{IsWriting, Writing}
use Rattle.fax_laws.specs.delivery.Delivered.{IsDelivered, MayBegin, NewMachinesMayBegin, OverIsDelivered, PagesGetThrough, ReadersAre}
use Rattle.fax_laws.specs.delivery.Jobs.{AreDelivered, JobsGetThrough, all_kept, more_rounds, rounds_of_pages}
use Rattle.fax_gateway.specs.CallingLegs.{is_idle}
use Rattle.fax_laws.specs.delivery.Links.{IsReader, Link, Reader, answerer_turned, begun, caller_turned, packet_given, pieces_with, read_by, round, rounds}
use Rattle.fax_laws.proofs.delivery.Short.{stays_idle, stays_over}
use Rattle.fax_laws.proofs.delivery.Turns.{Env, job_in, play, run, run_more, run_on, stays, Gets}
use Rattle.fax_laws.proofs.delivery.Goodbye.{Last}
use Rattle.fax_laws.proofs.delivery.Places.{IsPlace, command_for, first_place}
use Rattle.fax_laws.proofs.delivery.Begins.{rounds_of_call, begins}
use Rattle.fax_laws.proofs.delivery.Between.{rounds_after, sends_on, text_some}

-- what a call comes to: the round in which it ends
abbrev env_of : (writes : Writing) (reads : Reader) (job : JobValue) → IsWriting writes → IsReader reads → Env
env_of writes reads job is_writing is_reader = record { writes = writes; reads = reads; job = job; is_writing = is_writing; is_reader = is_reader }

first_is : (job : JobValue) (page : PageValue) (rest : List PageValue) → job.pages ≡ page ∷ rest → IsJob job → IsPlace job (first_place job page rest)
first_is job page rest is j =
    let pages : All IsPage (page ∷ rest) = subst (All IsPage) is j.are_pages in
    let first : job.format ≡ page.format = subst (λ (ps : List PageValue). IsOfFirst job.format ps) is j.of_first in
    record {
      left = is;
      is_page = All-head IsPage page rest pages;
      are_pages = All-tail IsPage page rest pages;
      same = sym first;
      asks = refl;
      kept_so = ap (λ (ps : List PageValue). all_kept ps []) (sym is);
    }

few_after : (writes : Writing) (rest : List PageValue) → rounds_after writes rest ≤ 51 + more_rounds writes rest
few_after writes [] = omega arith
few_after writes (next ∷ rest) = let few : rounds_after writes rest ≤ 51 + more_rounds writes rest = few_after writes rest in omega (arith, few)

-- it ends in so many rounds
ends : (e : Env) (pages : List PageValue) (start : ℕ) (caller : CallerCore) (answerer : AnswererCore) → e.job.pages ≡ pages → IsJob e.job → MayBegin caller.pace start → MayBegin answerer.pace start
    → start + 40 * rounds_of_pages e.writes pages < 18446744073709551615 → (most : ℕ) × (most + 1 ≤ rounds_of_pages e.writes pages) × Gets e most start (begun (job_in e) caller answerer start) (Last e)
ends e [] start caller answerer is j may also fits = let some : 0 < length e.job.pages = j.some in let none : length e.job.pages ≡ 0 = ap (λ (ps : List PageValue). length ps) is in absurd (omega (arith, some, none))
ends e (page ∷ rest) start caller answerer is j may also fits =
    let place : IsPlace e.job (first_place e.job page rest) = first_is e.job page rest is j in
    let few : rounds_after e.writes rest ≤ 51 + more_rounds e.writes rest = few_after e.writes rest in (
      rounds_of_call (length (e.writes page Mr 0)) (rounds_after e.writes rest),
      omega (arith, few),
      begins e page rest (rounds_after e.writes rest) start caller answerer place (text_some e (first_place e.job page rest) place) may also (omega (arith, few, fits))
          (sends_on rest e 0 page e.job.format (command_for page.format rest) [] place),
    )

-- after its end
ended : (e : Env) (now n left : ℕ) (l : Link) → Last e (now + 40 * n) (run e n now l) → AreDelivered e.job (run e (n + (1 + left)) now l)
ended e now n left l last =
    let x : Link = run e n now l in
    let at : ℕ = now + 40 * n in
    let same : run e (n + (1 + left)) now l ≡ play e (now + 40 * n) (run e n now l) =
    run_on e n (1 + left) now l
    ∙ ap (λ (k : ℕ). run e k (now + 40 * n) (run e n now l)) (let s : 1 + left ≡ suc left = omega arith in s)
    ∙ run_more e left (now + 40 * n) (run e n now l)
    ∙ stays e left (now + 40 * n + 40) (play e (now + 40 * n) (run e n now l)) (λ j h. last.ends.stays (now + 40 * n + 40 + 40 * j)) in
    subst (λ (y : Link). AreDelivered e.job y) (sym same) last.ends.delivered

-- and before it
on_before : (e : Env) (k now : ℕ) (l : Link) → is_over (run e k now l).caller.state ≡ false → is_over l.caller.state ≡ false
unfolding rounds round caller_turned
on_before e zero now l h = h
on_before e (suc k) now l h =
    stays_over e.writes (job_in e) l.caller (pieces_with l.reply (is_over l.caller.state) l.to_caller) now (on_before e k (now + 40) (play e now l) h)

idle_before : (e : Env) (k now : ℕ) (l : Link) → is_idle (run e k now l).answerer.state ≡ false → is_idle l.answerer.state ≡ false
unfolding rounds round answerer_turned
idle_before e zero now l h = h
idle_before e (suc k) now l h =
    let packet : Option (List ℕ) = packet_given (caller_turned e.writes (job_in e) now l).given in
    let ps : List Piece = pieces_with packet (is_idle l.answerer.state) l.to_answerer in
    stays_idle (read_by e.reads (answer.first_asked l.answerer ps now)) l.answerer ps now (idle_before e k (now + 40) (play e now l) h)

-- the answerer's call is on a round longer than not all is confirmed
pub job_awake : (writes : Writing) (reads : Reader) (job : JobValue) (start : ℕ) (caller : CallerCore) (answerer : AnswererCore) → IsWriting writes → IsReader reads → IsJob job
    → MayBegin caller.pace start → MayBegin answerer.pace start → start + 40 * rounds_of_pages writes job.pages < 18446744073709551615 → (j : ℕ)
    → (is_idle (rounds writes reads job (suc j) start (begun job caller answerer start)).answerer.state ≡ false) ⊎ ((rounds writes reads job j start (begun job caller answerer start)).kept ≡ all_kept job.pages [])
job_awake writes reads job start caller answerer is_writing is_reader is_job may also fits j = by (cases_lt j g.many)
  where
    e : Env
    e = env_of writes reads job is_writing is_reader

    l : Link
    l = begun job caller answerer start

    x : (most : ℕ) × (most + 1 ≤ rounds_of_pages writes job.pages) × Gets (env_of writes reads job is_writing is_reader) most start (begun job caller answerer start) (Last (env_of writes reads job is_writing is_reader))
    x = ends (env_of writes reads job is_writing is_reader) job.pages start caller answerer refl is_job may also fits

    g : Gets (env_of writes reads job is_writing is_reader) x.0 start (begun job caller answerer start) (Last (env_of writes reads job is_writing is_reader))
    g = x.2

    kept_at : (m : ℕ) → j ≡ g.many + m → (run e j start l).kept ≡ all_kept job.pages []
    kept_at zero is = let same : j ≡ g.many = omega (arith, is) in ap (λ (k : ℕ). (run e k start l).kept) same ∙ g.there.kept_so
    kept_at (suc m) is = let same : j ≡ g.many + (1 + m) = omega (arith, is) in ap (λ (k : ℕ). (run e k start l).kept) same ∙ (ended e start g.many m l g.there).kept

    by : (j < g.many) ⊎ (g.many ≤ j)
        → (is_idle (rounds writes reads job (suc j) start (begun job caller answerer start)).answerer.state ≡ false) ⊎ ((rounds writes reads job j start (begun job caller answerer start)).kept ≡ all_kept job.pages [])
    by (inl h) =
        let left : ℕ = g.many - suc j in
        let all : suc j + left ≡ g.many = omega arith in
        inl (idle_before e left (start + 40 * suc j) (run e (suc j) start l)
        (ap (λ (y : Link). is_idle y.answerer.state) (sym (run_on e (suc j) left start l) ∙ ap (λ (k : ℕ). run e k start l) all) ∙ g.there.awake))
    by (inr h) = let more : ℕ = j - g.many in let all : j ≡ g.many + more = omega arith in inr (kept_at more all)

pub jobs_get_through : JobsGetThrough
jobs_get_through writes reads job start many caller answerer is_writing is_reader j may also enough fits =
    let e : Env = env_of writes reads job is_writing is_reader in
    let l : Link = begun (job_in e) caller answerer start in
    let x = ends e job.pages start caller answerer refl j may also (omega (arith, enough, fits)) in
    let g : Gets e x.0 start l (Last e) = x.2 in
    let soon : x.0 + 1 ≤ rounds_of_pages writes job.pages = x.1 in
    let few : g.many ≤ x.0 = g.few in
    let left : ℕ = many - g.many - 1 in
    let all : g.many + (1 + left) ≡ many = omega arith in
    subst (λ (k : ℕ). AreDelivered job (run e k start l)) all (ended e start g.many left l g.there)

-- as soon as the caller's call is over
pub over_is_all_delivered : (writes : Writing) (reads : Reader) (job : JobValue) (start many : ℕ) (caller : CallerCore) (answerer : AnswererCore) → IsWriting writes → IsReader reads → IsJob job
    → MayBegin caller.pace start → MayBegin answerer.pace start → start + 40 * (rounds_of_pages writes job.pages + many) + 1 < 18446744073709551616
    → is_over (rounds writes reads job many start (begun job caller answerer start)).caller.state ≡ true → AreDelivered job (rounds writes reads job many start (begun job caller answerer start))
over_is_all_delivered writes reads job start many caller answerer is_writing is_reader j may also fits over = by (cases_lt g.many many)
  where
    e : Env
    e = env_of writes reads job is_writing is_reader

    l : Link
    l = begun job caller answerer start

    x : (most : ℕ) × (most + 1 ≤ rounds_of_pages writes job.pages) × Gets (env_of writes reads job is_writing is_reader) most start (begun job caller answerer start) (Last (env_of writes reads job is_writing is_reader))
    x = ends (env_of writes reads job is_writing is_reader) job.pages start caller answerer refl j may also (omega (arith, fits))

    g : Gets (env_of writes reads job is_writing is_reader) x.0 start (begun job caller answerer start) (Last (env_of writes reads job is_writing is_reader))
    g = x.2

    by : (g.many < many) ⊎ (many ≤ g.many) → AreDelivered job (rounds writes reads job many start (begun job caller answerer start))
    by (inl h) = let left : ℕ = many - g.many - 1 in let all : g.many + (1 + left) ≡ many = omega arith in subst (λ (k : ℕ). AreDelivered job (run e k start l)) all (ended e start g.many left l g.there)
    by (inr h) =
        let left : ℕ = g.many - many in
        let all : many + left ≡ g.many = omega arith in
        let later : is_over (run e left (start + 40 * many) (run e many start l)).caller.state ≡ false =
        ap (λ (y : Link). is_over y.caller.state) (sym (run_on e many left start l) ∙ ap (λ (k : ℕ). run e k start l) all) ∙ g.there.on in
        let clash : true ≡ false = sym over ∙ on_before e left (start + 40 * many) (run e many start l) later in
        absurd cc

-- ---- A JOB OF ONE PAGE
pub one_job : (number : ℕ) (page : PageValue) → IsPage page → IsJob (job_of number page)
one_job number page is = record { some = omega arith; few = omega arith; of_first = refl; are_pages = All-cons IsPage page [] is (All-nil IsPage) }

one_delivered : (number : ℕ) (page : PageValue) (l : Link) → AreDelivered (job_of number page) l → IsDelivered page l
one_delivered number page l d = record { caller_over = d.caller_over; outcome = d.outcome; delivered = d.delivered; answerer_over = d.answerer_over; kept = d.kept }

pub pages_get_through : PagesGetThrough
pages_get_through writes reads page number start many caller answerer is_writing is_reader is_page may also enough fits =
    one_delivered number page (rounds writes reads (job_of number page) many start (begun (job_of number page) caller answerer start))
    (jobs_get_through writes reads (job_of number page) start many caller answerer is_writing is_reader (one_job number page is_page) may also (omega (arith, enough)) fits)

pub over_is_delivered : OverIsDelivered
over_is_delivered writes reads page number start many caller answerer is_writing is_reader is_page may also fits over =
    one_delivered number page (rounds writes reads (job_of number page) many start (begun (job_of number page) caller answerer start))
    (over_is_all_delivered writes reads (job_of number page) start many caller answerer is_writing is_reader (one_job number page is_page) may also (omega (arith, fits)) over)

pub readers_are : ReadersAre
readers_are = (λ q. (questions_are_known (Some q)).0, λ q. (questions_are_known (Some q)).1)

pub new_machines_may_begin : NewMachinesMayBegin
new_machines_may_begin pause now is = record { pause = is; allowed = omega arith }
