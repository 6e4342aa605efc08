-- Texts and tokens that are written one after the other.
use Rattle.std.proofs.Common.{◌≡◌, ℕ, List, ◌++◌, Result, Ok, Err, ◌∙◌, ap, append_assoc}
use Rattle.std.specs.Result.{OnOk}
use Rattle.json.specs.Token.{Token}
use Rattle.json.specs.Written.{Written}
use Rattle.fax_control.specs.events.Events.{Adds}

-- a text after what was written after the old one
pub then_text : (old mid new s t : List ℕ) → mid ≡ old ++ s → new ≡ mid ++ t → new ≡ old ++ (s ++ t)
then_text old mid new s t e f = f ∙ ap (λ u. u ++ t) e ∙ append_assoc old s t

-- the same, where the last write may fail
pub last_text : {T E : Type 0} (r : Result T E) (old mid new s t : List ℕ) → mid ≡ old ++ s → OnOk r (new ≡ mid ++ t) → OnOk r (new ≡ old ++ (s ++ t))
last_text (Ok done) old mid new s t e f = then_text old mid new s t e f
last_text (Err fault) old mid new s t e f = tt

-- tokens after others
pub Adds-then : (old mid new : Written) (s t : List Token) → Adds old mid s → Adds mid new t → Adds old new (s ++ t)
Adds-then old mid new s t a b = record {
  before = b.before ∙ a.before;
  added = b.added ∙ ap (λ u. u ++ t) a.added ∙ append_assoc old.tokens s t;
}

-- the same, where the last write may fail, for any spelling of the tokens
pub Adds-last : {T E : Type 0} (r : Result T E) (old mid new : Written) (s t whole : List Token) → Adds old mid s → OnOk r (Adds mid new t) → s ++ t ≡ whole → OnOk r (Adds old new whole)
Adds-last (Ok done) old mid new s t whole a b e = let both = Adds-then old mid new s t a b in record {
  before = both.before;
  added = both.added ∙ ap (λ u. old.tokens ++ u) e;
}
Adds-last (Err fault) old mid new s t whole a b e = tt
