-- A call that is dropped, since too many wait.
use Rattle.std.proofs.Common.{◌≡◌, ℕ, Bool, true, false, List, ◌∙◌, ap, subst}
use Rattle.std.specs.Bool.{MatchBool}
use Rattle.fax_spool.specs.RecordOctets.{PageValue}
use Rattle.fax_spool.specs.Torn.{CallName}
use Rattle.fax_spool.specs.Waits.{without}
use Rattle.fax_undelivered.specs.Calls.{end_of}
use Rattle.fax_undelivered.specs.Keeps.{Keeps, KeepsStill}
use Rattle.fax_undelivered.specs.declared.undelivered.Undelivered.{Undelivered}

abbrev name_with : ℕ → ℕ → List ℕ → CallName
name_with life call line = record { life = life; call = call; line = line }

pub named_so : (life call : ℕ) (line items : List ℕ) (name wanted : CallName) → line ≡ items → name_with life call items ≡ name → name ≡ wanted → name_with life call line ≡ wanted
named_so life call line items name wanted are is same = ap (λ (l : List ℕ). name_with life call l) are ∙ is ∙ same

pub dropped_so :
    {U : Type 0} (seen : U → List ℕ) (may_leave : U → List ℕ → Type 0) (is_usable : U → Bool) (old new : Undelivered U) (name wanted : CallName) (was : Bool) (other : Type 0) → was ≡ true → name ≡ wanted
    → MatchBool was ((waits : List PageValue) → Keeps seen may_leave is_usable old waits → KeepsStill seen may_leave is_usable new (without (end_of name) waits)) other
    → (waits : List PageValue) → Keeps seen may_leave is_usable old waits → KeepsStill seen may_leave is_usable new (without (end_of wanted) waits)
dropped_so seen may_leave is_usable old new name wanted true other is same gone =
    subst (λ (n : CallName). (waits : List PageValue) → Keeps seen may_leave is_usable old waits → KeepsStill seen may_leave is_usable new (without (end_of n) waits)) same gone
dropped_so seen may_leave is_usable old new name wanted false other is same gone = let wrong : false ≡ true = is in absurd (cc)
