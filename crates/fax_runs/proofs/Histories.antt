-- The lines of a server, each by its name.
use Rattle.std.proofs.Common.{◌≡◌, ◌≢◌, ◌⊎◌, ◌∙◌, ◌<◌, ℕ, zero, suc, inl, inr, Bool, List, [], ◌∷◌, length, map, Some, None, slice_get, get_or, arith, refl, sym, ap, subst}
use Rattle.std.specs.String.{string_bytes}
use Rattle.fax_config.specs.declared.config.LineConfig.{LineConfig}
use Rattle.fax_config.specs.Configurations.{AreUnlike, names_of_lines}
use Rattle.fax_gateway.specs.Restored.{call_shown}
use Rattle.fax_gateway.specs.Setups.{AreSetWith}
use Rattle.fax_line.specs.Places.{PlaceValue}
use Rattle.fax_line.specs.declared.settling.LineReport.{LineReport}
use Rattle.fax_line.specs.declared.settling.PageToStore.{PageToStore}
use Rattle.fax_spool.specs.RecordOctets as spool
use Rattle.fax_spool.specs.declared.spool.Spool.{Spool}
use Rattle.fax_queue.specs.Restorations.{Restores, WholeLinesAreRestored, whole_pages}
use Rattle.fax_queue.specs.Queues.{QueueValue}
use Rattle.fax_runs.specs.restarts.Runs.{WasRun}
use Rattle.fax_runs.specs.Crossings.{ServedLine, run_of}
use Rattle.fax_runs.specs.Histories.{IsOnDisk}
use Rattle.fax_runs.proofs.Weaker.{weaker_run}
use Rattle.fax_opening.specs.Openings.{AreRestored, IsRestored}

-- the line of a configuration
record Its (pages : List spool.PageValue) (config : LineConfig) (number : ℕ) (places : List PlaceValue) (queues : List QueueValue) : Type 0 where
  place : PlaceValue
  queue : QueueValue
  there : slice_get places number ≡ Some place
  queued : slice_get queues number ≡ Some queue
  is : IsRestored pages config place queue

same_config : (a b : LineConfig) → Some a ≡ Some b → a ≡ b
same_config a b same = cc

its : (pages : List spool.PageValue) (configs : List LineConfig) (places : List PlaceValue) (queues : List QueueValue) (number : ℕ) (config : LineConfig) → AreRestored pages configs places queues
    → slice_get configs number ≡ Some config → Its pages config number places queues
its pages [] [] [] number config are at = let no : None ≡ Some config = at in absurd (cc)
its pages [] [] (s ∷ queues) number config are at = absurd are
its pages [] (p ∷ places) queues number config are at = absurd are
its pages (c ∷ configs) [] queues number config are at = absurd are
its pages (c ∷ configs) (p ∷ places) [] number config are at = absurd are
its pages (c ∷ configs) (p ∷ places) (s ∷ queues) zero config are at = record {
  place = p;
  queue = s;
  there = refl;
  queued = refl;
  is = subst (λ (x : LineConfig). IsRestored pages x p s) (same_config c config at) are.0;
}
its pages (c ∷ configs) (p ∷ places) (s ∷ queues) (suc number) config are at =
    let rest = its pages configs places queues number config are.1 at in record { place = rest.place; queue = rest.queue; there = rest.there; queued = rest.queued; is = rest.is }

as_many : (pages : List spool.PageValue) (configs : List LineConfig) (places : List PlaceValue) (queues : List QueueValue) → AreRestored pages configs places queues → length queues ≡ length places
as_many pages [] [] [] are = refl
as_many pages [] [] (s ∷ queues) are = absurd are
as_many pages [] (p ∷ places) queues are = absurd are
as_many pages (c ∷ configs) [] queues are = absurd are
as_many pages (c ∷ configs) (p ∷ places) [] are = absurd are
as_many pages (c ∷ configs) (p ∷ places) (s ∷ queues) are = ap suc (as_many pages configs places queues are.1)

-- each queue has the name of its line
named_at : (pages : List spool.PageValue) (configs : List LineConfig) (places : List PlaceValue) (queues : List QueueValue) (other : ℕ) (queue : QueueValue) → AreRestored pages configs places queues
    → slice_get queues other ≡ Some queue → (other < length configs) × ((default : List ℕ) → get_or (names_of_lines configs) other default ≡ queue.line)
named_at pages [] [] [] other queue are at = let no : None ≡ Some queue = at in absurd (cc)
named_at pages [] [] (s ∷ queues) other queue are at = absurd are
named_at pages [] (p ∷ places) queues other queue are at = absurd are
named_at pages (c ∷ configs) [] queues other queue are at = absurd are
named_at pages (c ∷ configs) (p ∷ places) [] other queue are at = absurd are
named_at pages (c ∷ configs) (p ∷ places) (s ∷ queues) zero queue are at =
    let same : s ≡ queue = same_queue s queue at in (
      omega arith,
      λ default. sym (are.0.restores.are.named) ∙ ap (λ (x : QueueValue). x.line) (are.0.queue_is ∙ same),
    )
  where
    same_queue : (a b : QueueValue) → Some a ≡ Some b → a ≡ b
    same_queue a b same = cc
named_at pages (c ∷ configs) (p ∷ places) (s ∷ queues) (suc other) queue are at =
    let rest = named_at pages configs places queues other queue are.1 at in
    let low : other < length configs = rest.0 in (omega (arith, low), λ default. rest.1 default)

config_low : (configs : List LineConfig) (number : ℕ) (config : LineConfig) → slice_get configs number ≡ Some config → (number < length configs) × ((default : List ℕ) → get_or (names_of_lines configs) number default ≡ string_bytes config.name)
config_low [] number config at = let no : None ≡ Some config = at in absurd (cc)
config_low (c ∷ configs) zero config at = (omega arith, λ default. ap (λ (x : LineConfig). string_bytes x.name) (same_config c config at))
config_low (c ∷ configs) (suc number) config at =
    let rest = config_low configs number config at in
    let low : number < length configs = rest.0 in (omega (arith, low), λ default. rest.1 default)

length_names : (configs : List LineConfig) → length (names_of_lines configs) ≡ length configs
length_names [] = refl
length_names (c ∷ configs) = ap suc (length_names configs)

differ : (a b : ℕ) → a ≢ b → (a < b) ⊎ (b < a)
differ zero zero unlike = absurd (unlike refl)
differ zero (suc b) unlike = inl (omega arith)
differ (suc a) zero unlike = inr (omega arith)
differ (suc a) (suc b) unlike = elim (differ a b (λ same. unlike (ap suc same))) [ inl less ↦ inl (omega (arith, less)) | inr less ↦ inr (omega (arith, less)) ]

same_place : (a b : PlaceValue) → Some a ≡ Some b → a ≡ b
same_place a b same = cc

-- no other line has its name
apart : (configs : List LineConfig) → AreUnlike (names_of_lines configs) → (number other : ℕ) (line : List ℕ) (queue : QueueValue) → other < length configs → get_or (names_of_lines configs) other [] ≡ queue.line → number < length configs → get_or (names_of_lines configs) number [] ≡ line
    → other ≢ number → queue.line ≡ line → ⊥
apart configs unlike number other line queue low its low_number name differs same_name = elim (differ other number differs) [
  | inl less ↦ unlike other number [] less (let many : length (names_of_lines configs) ≡ length configs = length_names configs in omega (arith, many, low_number)) (its ∙ same_name ∙ sym name)
  | inr less ↦ unlike number other [] less (let many : length (names_of_lines configs) ≡ length configs = length_names configs in omega (arith, many, low)) (name ∙ sym same_name ∙ sym its)
]

module _ {D K : Type 0} (seen : D → List ℕ) (may_leave : D → List ℕ → Type 0) (is_usable : D → Bool) (queues_of : K → List QueueValue) (spool_of : K → Spool D) (same : K → K → Type 0) (stores : List PageToStore → Bool → K → K → Type 0) (notes : ℕ → ℕ → K → K → Type 0) (ends : List LineReport → K → K → Type 0) (on_disk : IsOnDisk seen may_leave is_usable queues_of spool_of same stores notes ends) where
  -- what a run of the server was to a line
  pub was_run : WholeLinesAreRestored → (line : List ℕ) (ran : ServedLine seen may_leave is_usable queues_of spool_of same stores notes ends line) → WasRun seen may_leave is_usable queues_of spool_of line (run_of ran)
  was_run restore line ran =
      let pages : List spool.PageValue = whole_pages ran.served.opened.torn.items ran.served.opened.pages.items in
      let mine : Its pages ran.config ran.number ran.served.begun (queues_of ran.served.store) = its pages ran.configs ran.served.begun (queues_of ran.served.store) ran.number ran.config ran.served.restored ran.at in
      let restores : Restores line ran.served.opened.pages.items mine.is.restored =
      restore line ran.served.opened.torn.items ran.served.opened.pages.items mine.is.restored ran.whole (subst (λ (l : List ℕ). Restores l pages mine.is.restored) ran.named mine.is.restores) in
      let same : ran.place ≡ mine.place = same_place ran.place mine.place (sym ran.there ∙ mine.there) in
      let name = config_low ran.configs ran.number ran.config ran.at in
      record {
        spool_is = ran.served.spool_is;
        restored = mine.is.restored;
        restores = restores;
        place = mine.place;
        there = mine.there;
        begins = mine.is.begins;
        fresh = mine.is.fresh;
        set = subst (λ (p : PlaceValue). AreSetWith ran.setup p.line.gateway.settings (map call_shown mine.is.restored.calls.items)) same (ran.set mine.is.restored restores);
        queued = mine.queued ∙ ap (λ (s : QueueValue). Some s) (sym mine.is.queue_is);
        as_many = as_many pages ran.configs ran.served.begun (queues_of ran.served.store) ran.served.restored;
        alone = λ other queue is differs same_name.
            let its_name = named_at pages ran.configs ran.served.begun (queues_of ran.served.store) other queue ran.served.restored is in
            apart ran.configs ran.unlike ran.number other line queue its_name.0 (its_name.1 []) name.0 (name.1 [] ∙ ran.named) differs same_name;
        ran = weaker_run _ _ _ _ _ _ _ _ on_disk.unchanged on_disk.put on_disk.noted on_disk.ended ran.served.run.done ran.served.run.settled ran.served.begun ran.served.run.left ran.served.store ran.served.run.after ran.served.run.ran;
      }
