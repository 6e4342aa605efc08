-- What the second pair of files keeps. (This project's profile.)
use Rattle.std.specs.Prelude.{◌≡◌, ◌⊎◌, ℕ, Bool, List, [], ◌∷◌, ◌++◌}
use Rattle.fax_spool.specs.RecordOctets.{PageValue}
use Rattle.fax_spool.specs.Torn.{CallName, call_of}
use Rattle.fax_spool.specs.Calls.{Rests}
use Rattle.fax_queue.specs.Jobs.{WaitSo}
use Rattle.fax_undelivered.specs.Calls.{calls_of}
use Rattle.fax_undelivered.specs.declared.undelivered.Undelivered.{Undelivered}

-- THESE PAGES AND CARDS WAIT in the second pair, whatever crash follows, and just their calls are listed.
pub record Keeps {D : Type 0} (seen : D → List ℕ) (may_leave : D → List ℕ → Type 0)
    (is_usable : D → Bool) (kept : Undelivered D) (waits : List PageValue) : Type 0 where
  pub wait : Rests seen may_leave is_usable kept.spool waits
  pub listed : kept.calls.items ≡ calls_of waits

-- the same; or the pair refuses everything from now on, and each crash tells these
pub record KeepsStill {D : Type 0} (seen : D → List ℕ) (may_leave : D → List ℕ → Type 0)
    (is_usable : D → Bool) (kept : Undelivered D) (waits : List PageValue) : Type 0 where
  pub wait : WaitSo seen may_leave is_usable kept.spool (λ told. told ≡ waits)
  pub listed : kept.calls.items ≡ calls_of waits

-- the call of these pages is told after the others, or memory for that was refused
abbrev pub TellsCall : List PageValue → (olds news : List CallName) → Type 0
TellsCall [] olds news = news ≡ olds
TellsCall (page ∷ pages) olds news = (news ≡ olds ++ call_of page ∷ []) ⊎ (news ≡ olds)
