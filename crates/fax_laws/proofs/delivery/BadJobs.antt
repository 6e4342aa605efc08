-- THREE BAD GATEWAYS, whose called legs the law of jobs refuses: what each leaves is not what is promised.
use Rattle.std.proofs.Common.{◌≡◌, true, false, List, [], ◌∷◌, map, Some, sym, ◌∙◌, ap}
use Rattle.fax_pagestore.specs.Pages.{PageValue}
use Rattle.fax_jobs.specs.declared.outcome.Outcome.TheVariants as outcomes
use Rattle.fax_jobs.specs.Jobs.{JobValue}
use Rattle.fax_answer.specs.Replies.{ConfirmedPage}
use Rattle.fax_laws.specs.delivery.Links.{Link}
use Rattle.fax_laws.specs.delivery.Jobs.{AreDelivered}

-- a job of two pages
abbrev two : PageValue → PageValue → JobValue
two page other = record { call = 0; format = page.format; pages = page ∷ other ∷ [] }

-- it closes the call after the first page, as if that were all
closes_early : (page other : PageValue) (l : Link) → l.kept ≡ record { page = page; closes = true } ∷ [] → AreDelivered (two page other) l → ⊥
closes_early page other l told d = let e : page ∷ [] ≡ other ∷ page ∷ [] = ap (λ (ks : List ConfirmedPage). map (λ (c : ConfirmedPage). c.page) ks) (sym told ∙ d.kept) in cc

-- it sends the first page again where the second is due
sends_again : (page other : PageValue) (l : Link) → (page ≡ other → ⊥) → l.kept ≡ record { page = page; closes = true } ∷ record { page = page; closes = false } ∷ [] → AreDelivered (two page other) l → ⊥
sends_again page other l differ told d = let e : page ∷ page ∷ [] ≡ other ∷ page ∷ [] = ap (λ (ks : List ConfirmedPage). map (λ (c : ConfirmedPage). c.page) ks) (sym told ∙ d.kept) in differ cc

-- it gives up after EOM, where a DIS is awaited again
gives_up : (page other : PageValue) (l : Link) → l.caller.outcome ≡ Some outcomes.NoReply → AreDelivered (two page other) l → ⊥
gives_up page other l told d = let e : Some outcomes.NoReply ≡ Some outcomes.Delivered = sym told ∙ d.outcome in cc
