-- The pages that a call emits never fall.
use Rattle.std.proofs.Common.{◌≡◌, ℕ, ◌≤◌, true, false, List, [], ◌∷◌, ◌++◌, Option, Some, None, refl, sym, ◌∙◌, arith}
use Rattle.fax_jobs.specs.Jobs.{JobValue}
use Rattle.fax_call.specs.Emission.{Emission, Mark, Gave, Acknowledged, Refused, Begins, elements_given, emitted_at, Reply, Unasked, Asked, Answered, replied, IsAnswered, EmitsBy, Emits}
use Rattle.fax_call.specs.Numbers.{numbered}
use Rattle.fax_call.proofs.Numbered.{numbers_are_fixed}

abbrev pub HasNoBegin : List Mark → Type 0
HasNoBegin [] = Unit {0}
HasNoBegin (Begins ∷ marks) = ⊥
HasNoBegin (mark ∷ marks) = HasNoBegin marks

-- the page emitted last is m or a later one
pub record IsFrom (m : ℕ) (last : Option ℕ) : Type 0 where
  pub page : ℕ
  pub is : last ≡ Some page
  pub later : m ≤ page

one_number : (m : ℕ) (last : Option ℕ) (o : Option (Option ℕ)) → o ≡ Some (Some m) → o ≡ Some last → last ≡ Some m
one_number m last o e f = let h : Some (Some m) ≡ Some last = sym e ∙ f in cc

answered_from : (m : ℕ) (k : ℕ) (r : Reply) (n : ℕ) → m ≤ k → IsAnswered (Some k) r n → m ≤ n
answered_from m k (Answered true) n l a = omega (arith, l, a)
answered_from m k (Answered false) n l a = omega (arith, l, a)
answered_from m k Unasked n l a = absurd a
answered_from m k Asked n l a = absurd a

none_from : (m : ℕ) → IsFrom m None → ⊥
none_from m f = let e : None ≡ Some f.page = f.is in cc

some_from : (m k : ℕ) → IsFrom m (Some k) → m ≤ k
some_from m k f = let e : Some k ≡ Some f.page = f.is in let same : k ≡ f.page = cc in let l : m ≤ f.page = f.later in omega arith

by_last : (job : JobValue) (m : ℕ) (o : Option Emission) (r : Reply) (last : Option ℕ) (before : Option ℕ → Type 0) → ((x : Option ℕ) → before x → IsFrom m x) → EmitsBy job o r last before → IsFrom m last
by_last job m None r last before f e = f last e
by_last job m (Some emission) r None before f e = absurd e
by_last job m (Some emission) r (Some n) before f e = record { page = n; is = refl; later = from e.1 (f e.1 e.2) e.3 }
  where
    from : (x : Option ℕ) → IsFrom m x → IsAnswered x r n → m ≤ n
    from None g a = absurd (none_from m g)
    from (Some k) g a = answered_from m k r n (some_from m k g) a

pub emitted_in_order : (job : JobValue) (later before : List Mark) (m : ℕ) (last : Option ℕ) → HasNoBegin later → Emits job before (Some m) → Emits job (later ++ before) last → IsFrom m last
emitted_in_order job [] before m last h e f =
    record { page = m; is = one_number m last (numbered before) (numbers_are_fixed job before (Some m) e) (numbers_are_fixed job before last f); later = omega arith }
emitted_in_order job (Begins ∷ later) before m last h e f = absurd h
emitted_in_order job (Acknowledged ∷ later) before m last h e f = emitted_in_order job later before m last h e f
emitted_in_order job (Refused ∷ later) before m last h e f = emitted_in_order job later before m last h e f
emitted_in_order job (Gave x ∷ later) before m last h e f =
    by_last job m (emitted_at (elements_given (later ++ before)) x) (replied (later ++ before)) last (Emits job (later ++ before)) (λ y g. emitted_in_order job later before m y h e g) f
