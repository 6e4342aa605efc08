-- A whole call by datagrams.
use Rattle.std.proofs.Common.{◌≡◌, ℕ, ◌+◌, ◌*◌, ◌<◌, false, List, [], ◌∷◌, ◌++◌, map, reverse, None, refl, sym, ◌∙◌, ap, arith, append-nil, append_assoc}
use mathlib.Core.List.{reverse-cons}
use Rattle.fax_pagestore.specs.Pages.{PageValue}
use Rattle.fax_jobs.specs.Books.{job_of}
use Rattle.fax_jobs.specs.Jobs.{IsJob, JobValue}
use Rattle.fax_answer.specs.Calls.{AnswererCore, new_answering}
use Rattle.fax_answer.specs.Replies.{ConfirmedPage}
use Rattle.fax_call.specs.declared.state.State.TheVariants as calling
use Rattle.fax_call.specs.Calls.{CallerCore}
use Rattle.fax_call.specs.Delivery.{is_over}
use Rattle.fax_call.specs.Writings.{IsWriting, Writing}
use Rattle.fax_gateway.specs.CalledLegs.{core_left, core_of}
use Rattle.fax_gateway.specs.Setups.{Setup}
use Rattle.fax_laws.specs.delivery.Datagrams.{ArePassed, DatagramsGetThrough, Legs, legs_begun, legs_rounds}
use Rattle.fax_laws.specs.delivery.Delivered.{IsDelivered}
use Rattle.fax_laws.specs.delivery.Jobs.{AreAllPassed, AreDelivered, JobsPass, all_kept, rounds_of_pages}
use Rattle.fax_laws.specs.delivery.Links.{IsReader, Link, Reader, begun, rounds}
use Rattle.fax_laws.proofs.delivery.Legs.{GoAlike, alike_on, begin_alike}
use Rattle.fax_laws.proofs.delivery.Whole.{jobs_get_through, over_is_all_delivered, pages_get_through}

-- legs that go as a link that is delivered
passed_by : (setup other : Setup) (writes : Writing) (job : JobValue) (page : PageValue) (x : Legs) (y : Link) → GoAlike setup other writes job x y → IsDelivered page y → ArePassed writes page x
passed_by setup other writes job page x y g d =
    record {
      caller_over = ap (λ (a : CallerCore). a.state) g.caller ∙ d.caller_over;
      outcome = ap (λ (a : CallerCore). a.outcome) g.caller ∙ d.outcome;
      delivered = ap (λ (a : CallerCore). a.counts.delivered) g.caller ∙ d.delivered;
      answerer_over = ap (λ (a : AnswererCore). a.state) g.answerer ∙ d.answerer_over;
      pages = g.pages ∙ ap (λ (ks : List ConfirmedPage). map (λ (c : ConfirmedPage). c.page) ks) d.kept;
    }

pub datagrams_get_through : DatagramsGetThrough
datagrams_get_through setup other writes reads page number start many is_writing is_reader is_page enough fits =
    let job : JobValue = job_of number page in
    let caller : CallerCore = core_left setup writes None in
    let answerer : AnswererCore = new_answering other.pause in
    passed_by setup other writes job page (legs_rounds setup other writes reads many start (legs_begun setup other writes job start)) (rounds writes reads job many start (begun job caller answerer start))
    (alike_on setup other writes reads job many start (legs_begun setup other writes job start) (begun job caller answerer start) (begin_alike setup other writes job start))
    (pages_get_through writes reads page number start many caller answerer is_writing is_reader is_page (record { pause = setup.is_pause; allowed = omega arith }) (record { pause = other.is_pause; allowed = omega arith }) enough fits)

-- ---- A JOB OF ANY PAGES
all_pages : (pages : List PageValue) (kept : List ConfirmedPage) → map (λ (c : ConfirmedPage). c.page) (all_kept pages kept) ≡ reverse pages ++ map (λ (c : ConfirmedPage). c.page) kept
all_pages [] kept = refl
all_pages (page ∷ []) kept = refl
all_pages (page ∷ next ∷ rest) kept =
    let others : List PageValue = next ∷ rest in
    let before : List PageValue = map (λ (c : ConfirmedPage). c.page) kept in
    all_pages (next ∷ rest) (record { page = page; closes = false } ∷ kept) ∙ sym (append_assoc (reverse others) (page ∷ []) before) ∙ ap (λ (ps : List PageValue). ps ++ before) (sym (reverse-cons page others))

passed_all : (setup other : Setup) (writes : Writing) (job : JobValue) (x : Legs) (y : Link) → GoAlike setup other writes job x y → AreDelivered job y → AreAllPassed writes job x
passed_all setup other writes job x y g d =
    record {
      caller_over = ap (λ (a : CallerCore). a.state) g.caller ∙ d.caller_over;
      outcome = ap (λ (a : CallerCore). a.outcome) g.caller ∙ d.outcome;
      delivered = ap (λ (a : CallerCore). a.counts.delivered) g.caller ∙ d.delivered;
      answerer_over = ap (λ (a : AnswererCore). a.state) g.answerer ∙ d.answerer_over;
      pages = g.pages ∙ ap (λ (ks : List ConfirmedPage). map (λ (c : ConfirmedPage). c.page) ks) d.kept ∙ all_pages job.pages [] ∙ append-nil (reverse job.pages);
    }

pub jobs_pass : JobsPass
jobs_pass setup other writes reads job start many is_writing is_reader is_job enough fits =
    let caller : CallerCore = core_left setup writes None in
    let answerer : AnswererCore = new_answering other.pause in
    passed_all setup other writes job (legs_rounds setup other writes reads many start (legs_begun setup other writes job start)) (rounds writes reads job many start (begun job caller answerer start))
    (alike_on setup other writes reads job many start (legs_begun setup other writes job start) (begun job caller answerer start) (begin_alike setup other writes job start))
    (jobs_get_through writes reads job start many caller answerer is_writing is_reader is_job (record { pause = setup.is_pause; allowed = omega arith }) (record { pause = other.is_pause; allowed = omega arith }) enough fits)

-- as soon as the caller's call is over
pub over_are_all_passed : (setup other : Setup) (writes : Writing) (reads : Reader) (job : JobValue) (start many : ℕ) → IsWriting writes → IsReader reads → IsJob job → start + 40 * (rounds_of_pages writes job.pages + many) + 1 < 18446744073709551616
    → (core_of writes (legs_rounds setup other writes reads many start (legs_begun setup other writes job start)).caller).state ≡ calling.Idle
    → AreAllPassed writes job (legs_rounds setup other writes reads many start (legs_begun setup other writes job start))
over_are_all_passed setup other writes reads job start many is_writing is_reader is_job fits over =
    let caller : CallerCore = core_left setup writes None in
    let answerer : AnswererCore = new_answering other.pause in
    let x : Legs = legs_rounds setup other writes reads many start (legs_begun setup other writes job start) in
    let y : Link = rounds writes reads job many start (begun job caller answerer start) in
    let g : GoAlike setup other writes job x y =
    alike_on setup other writes reads job many start (legs_begun setup other writes job start) (begun job caller answerer start) (begin_alike setup other writes job start) in
    passed_all setup other writes job x y g
    (over_is_all_delivered writes reads job start many caller answerer is_writing is_reader is_job (record { pause = setup.is_pause; allowed = omega arith }) (record { pause = other.is_pause; allowed = omega arith }) fits
    (ap is_over (sym (ap (λ (a : CallerCore). a.state) g.caller) ∙ over)))
