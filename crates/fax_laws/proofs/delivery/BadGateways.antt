-- THREE BAD GATEWAYS, which the law refuses: what each leaves after its rounds is not what is promised.
use Rattle.std.proofs.Common.{◌≡◌, List, [], ◌∷◌, sym, ◌∙◌, ap}
use Rattle.fax_pagestore.specs.Pages.{PageValue}
use Rattle.fax_jobs.specs.declared.outcome.Outcome.{Outcome}
use Rattle.fax_jobs.specs.declared.outcome.Outcome.TheVariants as outcomes
use Rattle.fax_jobs.specs.declared.report.Report.{Report}
use Rattle.fax_jobs.specs.Books.{job_of, report_of}
use Rattle.fax_call.specs.Writings.{Writing}
use Rattle.fax_gateway.specs.Setups.{Setup}
use Rattle.fax_gateway.specs.BothLegs.{book_of, both_legs}
use Rattle.fax_laws.specs.delivery.Gateways.{Relay, IsRelayed, pages_on}

-- it never calls: nothing is reported
never_calls : (gateway : Setup) (writes : Writing) (page : PageValue) (r : Relay) → (book_of (both_legs gateway writes r.trace)).reports ≡ [] → IsRelayed gateway writes page r → ⊥
never_calls gateway writes page r none is = let e : [] ≡ report_of (job_of 0 page) outcomes.Delivered 1 ∷ [] = sym none ∙ is.reports in cc

-- it gives up while a long page is sent
first_outcome : List Report → Outcome
first_outcome [] = outcomes.NotPlaced
first_outcome (report ∷ reports) = report.outcome

gives_up : (gateway : Setup) (writes : Writing) (page : PageValue) (r : Relay) → (book_of (both_legs gateway writes r.trace)).reports ≡ report_of (job_of 0 page) outcomes.NoReply 0 ∷ [] → IsRelayed gateway writes page r → ⊥
unfolding first_outcome
gives_up gateway writes page r told is = let e : outcomes.NoReply ≡ outcomes.Delivered = ap first_outcome (sym told ∙ is.reports) in cc

-- it asks for the page again, so that the machine that is called has it twice
asks_again : (gateway : Setup) (writes : Writing) (page : PageValue) (r : Relay) → pages_on r.answerer ≡ page ∷ page ∷ [] → IsRelayed gateway writes page r → ⊥
asks_again gateway writes page r twice is = let e : page ∷ page ∷ [] ≡ page ∷ [] = sym twice ∙ is.pages in cc
