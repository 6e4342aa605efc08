-- Clients one after another.
use Rattle.std.proofs.Common.{◌≡◌, ℕ, zero, suc, ◌+◌, ◌<◌, ◌≤◌, List, [], ◌∷◌, length, get_or, map, refl, sym, ap, subst, ◌∙◌, add-one, arith, Option, None, Some, IfNone, IfSome, Result, Ok, Err, OnOk}
use Rattle.std.proofs.Math.ListN.{set}
use Rattle.std.specs.List.{AllZip}
use Rattle.fax_control.specs.declared.hearing.HeardLine.{HeardLine}
use Rattle.fax_clients.specs.Clients.{ClientValue, Hears, HearsLine, HearsNoLine, changed_at}

-- each of the first clients, as many as n, went through R, and the others are as they were
abbrev pub First : (ClientValue → ClientValue → Type 0) → ℕ → List ClientValue → List ClientValue → Type 0
First R zero old new = new ≡ old
First R (suc n) [] new = new ≡ []
First R (suc n) (one ∷ others) [] = ⊥
First R (suc n) (one ∷ others) (new ∷ new_others) = R one new × First R n others new_others

-- one more
first_more :
    (R : ClientValue → ClientValue → Type 0) (n : ℕ) (old now : List ClientValue) (x d : ClientValue)
    → First R n old now → n < length now → R (get_or now n d) x → First R (suc n) old (set now n x)
first_more R zero old [] x d same within goes = absurd (omega arith)
first_more R zero old (y ∷ ys) x d same within goes = subst (λ (l : List ClientValue). First R 1 l (x ∷ ys)) same (goes, refl)
first_more R (suc n) [] [] x d same within goes = absurd (omega arith)
first_more R (suc n) [] (y ∷ ys) x d same within goes = absurd (cc)
first_more R (suc n) (one ∷ others) [] x d same within goes = absurd same
first_more R (suc n) (one ∷ others) (y ∷ ys) x d (here, more) within goes = (here, first_more R n others ys x d more (omega arith) goes)

pub first_next :
    (R : ClientValue → ClientValue → Type 0) (n : ℕ) (old now : List ClientValue) (x d : ClientValue)
    → First R n old now → n < length now → R (get_or now n d) x → First R (n + 1) old (set now n x)
first_next R n old now x d before within goes = subst (λ (k : ℕ). First R k old (set now n x)) (sym (add-one n)) (first_more R n old now x d before within goes)

-- all
pub first_all : (R : ClientValue → ClientValue → Type 0) (n : ℕ) (old now : List ClientValue) → First R n old now → length now ≤ n → AllZip R old now
first_all R zero old [] same within = subst (λ (l : List ClientValue). AllZip R l []) same tt
first_all R zero old (y ∷ ys) same within = absurd (omega arith)
first_all R (suc n) [] now same within = subst (λ (l : List ClientValue). AllZip R [] l) (sym same) tt
first_all R (suc n) (one ∷ others) [] same within = absurd same
first_all R (suc n) (one ∷ others) (y ∷ ys) (here, more) within = (here, first_all R n others ys more (omega arith))

-- a line of the next one is heard
pub first_hears :
    (n : ℕ) (heard : HeardLine) (old now : List ClientValue) (x d : ClientValue)
    → First HearsNoLine n old now → n < length now → HearsLine heard (get_or now n d) x → Hears n heard old (set now n x)
first_hears zero heard old [] x d same within hears = absurd (omega arith)
first_hears zero heard old (y ∷ ys) x d same within hears = subst (λ (l : List ClientValue). Hears 0 heard l (x ∷ ys)) same (hears, refl)
first_hears (suc n) heard [] [] x d same within hears = absurd (omega arith)
first_hears (suc n) heard [] (y ∷ ys) x d same within hears = absurd (cc)
first_hears (suc n) heard (one ∷ others) [] x d same within hears = absurd same
first_hears (suc n) heard (one ∷ others) (y ∷ ys) x d (here, more) within hears = (here, first_hears n heard others ys x d more (omega arith) hears)

-- what all are told stays while they are heard
pub told_none : (old new : List ClientValue) → AllZip HearsNoLine old new → map (λ client. client.told) new ≡ map (λ client. client.told) old
told_none [] [] same = refl
told_none [] (y ∷ ys) same = absurd same
told_none (x ∷ xs) [] same = absurd same
told_none (x ∷ xs) (y ∷ ys) (here, more) =
    ap (λ t. t ∷ map (λ (client : ClientValue). client.told) ys) here.told ∙ ap (λ l. x.told ∷ l) (told_none xs ys more)

pub told_some : (place : ℕ) (heard : HeardLine) (old new : List ClientValue) → Hears place heard old new → map (λ client. client.told) new ≡ map (λ client. client.told) old
told_some zero heard [] new hears = absurd hears
told_some zero heard (x ∷ xs) [] hears = absurd hears
told_some zero heard (x ∷ xs) (y ∷ ys) (here, more) =
    ap (λ t. t ∷ map (λ (client : ClientValue). client.told) ys) here.told ∙ ap (λ (l : List ClientValue). x.told ∷ map (λ client. client.told) l) more
told_some (suc place) heard [] new hears = absurd hears
told_some (suc place) heard (x ∷ xs) [] hears = absurd hears
told_some (suc place) heard (x ∷ xs) (y ∷ ys) (here, more) =
    ap (λ t. t ∷ map (λ (client : ClientValue). client.told) ys) here.told ∙ ap (λ l. x.told ∷ l) (told_some place heard xs ys more)

-- the client at a place is changed
pub changed_there :
    (change : ClientValue → ClientValue) (place : ℕ) (clients : List ClientValue) (x d : ClientValue)
    → place < length clients → x ≡ change (get_or clients place d) → set clients place x ≡ changed_at change place clients
changed_there change place [] x d within is = absurd (omega arith)
changed_there change zero (y ∷ ys) x d within is = ap (λ c. c ∷ ys) is
changed_there change (suc place) (y ∷ ys) x d within is = ap (λ l. y ∷ l) (changed_there change place ys x d (omega arith) is)

pub changed_nowhere : (change : ClientValue → ClientValue) (place : ℕ) (clients : List ClientValue) → length clients ≤ place → clients ≡ changed_at change place clients
changed_nowhere change place [] past = refl
changed_nowhere change zero (y ∷ ys) past = absurd (omega arith)
changed_nowhere change (suc place) (y ∷ ys) past = ap (λ l. y ∷ l) (changed_nowhere change place ys (omega arith))

pub told_same :
    (result : Option (ℕ × HeardLine)) (old new : List ClientValue) → IfNone result (AllZip HearsNoLine old new) → IfSome result (λ said. Hears said.0 said.1 old new)
    → map (λ client. client.told) new ≡ map (λ client. client.told) old
told_same None old new none some = told_none old new none
told_same (Some said) old new none some = told_some said.0 said.1 old new some

pub ok_then : {T E : Type 0} (r : Result T E) (P Q : Type 0) → OnOk r P → (P → Q) → OnOk r Q
ok_then (Ok x) P Q p f = f p
ok_then (Err e) P Q p f = tt
