-- Places one after another.
use Rattle.std.proofs.Common.{◌≡◌, ℕ, zero, suc, ◌+◌, ◌<◌, ◌≤◌, ◌⊎◌, inl, inr, List, [], ◌∷◌, length, get_or, refl, sym, ap, subst, ◌∙◌, add-one, arith, option_and_then, Option, None, Some}
use Rattle.std.proofs.Math.ListN.{set}
use Rattle.std.specs.List.{AllZip}
use Rattle.fax_http.specs.declared.answer.Answer.{Answer}
use Rattle.fax_http.specs.declared.question.Question.{Question}
use Rattle.fax_http.specs.Connections.{ConnectionValue, nothing_heard, unanswered}
use Rattle.fax_http.specs.visitors.Visits.{AsksAt, IsAnsweredAt, IsAnsweredPlace, IsCame, IsServedPlace, PlaceGoes}

abbrev pub There : Type 0
There = Option ConnectionValue

-- each of the first places, as many as n, went through R, and the others are as they were
abbrev pub First : (There → There → Type 0) → ℕ → List There → List There → Type 0
First R zero old new = new ≡ old
First R (suc n) [] new = new ≡ []
First R (suc n) (one ∷ others) [] = ⊥
First R (suc n) (one ∷ others) (new ∷ new_others) = R one new × First R n others new_others

-- one more
first_more :
    (R : There → There → Type 0) (n : ℕ) (old now : List There) (x d : There)
    → First R n old now → n < length now → R (get_or now n d) x → First R (suc n) old (set now n x)
first_more R zero old [] x d same within goes = absurd (omega arith)
first_more R zero old (y ∷ ys) x d same within goes = subst (λ (l : List There). First R 1 l (x ∷ ys)) same (goes, refl)
first_more R (suc n) [] [] x d same within goes = absurd (omega arith)
first_more R (suc n) [] (y ∷ ys) x d same within goes = absurd (cc)
first_more R (suc n) (one ∷ others) [] x d same within goes = absurd same
first_more R (suc n) (one ∷ others) (y ∷ ys) x d (here, more) within goes = (here, first_more R n others ys x d more (omega arith) goes)

pub first_next :
    (R : There → There → Type 0) (n : ℕ) (old now : List There) (x d : There)
    → First R n old now → n < length now → R (get_or now n d) x → First R (n + 1) old (set now n x)
first_next R n old now x d before within goes = subst (λ (k : ℕ). First R k old (set now n x)) (sym (add-one n)) (first_more R n old now x d before within goes)

-- all
pub first_all : (R : There → There → Type 0) (n : ℕ) (old now : List There) → First R n old now → length now ≤ n → AllZip R old now
first_all R zero old [] same within = subst (λ (l : List There). AllZip R l []) same tt
first_all R zero old (y ∷ ys) same within = absurd (omega arith)
first_all R (suc n) [] now same within = subst (λ (l : List There). AllZip R [] l) (sym same) tt
first_all R (suc n) (one ∷ others) [] same within = absurd same
first_all R (suc n) (one ∷ others) (y ∷ ys) (here, more) within = (here, first_all R n others ys more (omega arith))

-- ---- who comes

pub none_came : (places : List There) → AllZip IsCame places places
none_came [] = tt
none_came (one ∷ others) = (inl refl, none_came others)

pub came_then : (a b c : List There) → AllZip IsCame a b → AllZip IsCame b c → AllZip IsCame a c
came_then [] [] [] p q = tt
came_then [] [] (z ∷ zs) p q = absurd q
came_then [] (y ∷ ys) zs p q = absurd p
came_then (x ∷ xs) [] zs p q = absurd p
came_then (x ∷ xs) (y ∷ ys) [] p q = absurd q
came_then (x ∷ xs) (y ∷ ys) (z ∷ zs) (p, ps) (inl same, qs) = (subst (λ (t : There). IsCame x t) (sym same) p, came_then xs ys zs ps qs)
came_then (x ∷ xs) (y ∷ ys) (z ∷ zs) (p, ps) (inr fresh, qs) = (inr fresh, came_then xs ys zs ps qs)

came_at : (n : ℕ) (old now : List There) (x : There) → AllZip IsCame old now → x ≡ Some nothing_heard → AllZip IsCame old (set now n x)
came_at n [] [] x came is = tt
came_at n [] (y ∷ ys) x came is = absurd came
came_at n (one ∷ others) [] x came is = absurd came
came_at zero (one ∷ others) (y ∷ ys) x (here, more) is = (inr is, more)
came_at (suc n) (one ∷ others) (y ∷ ys) x (here, more) is = (here, came_at n others ys x more is)

pub one_came : (n : ℕ) (places : List There) (x : There) → x ≡ Some nothing_heard → AllZip IsCame places (set places n x)
one_came n places x is = came_at n places places x (none_came places) is

-- ---- served, and then come

goes : (old served new : There) → IsServedPlace old served → IsCame served new → PlaceGoes old new
goes old served new was (inl same) = inl (subst (λ (t : There). IsServedPlace old t) (sym same) was)
goes old served new was (inr fresh) = inr fresh

pub all_go : (old served new : List There) → AllZip IsServedPlace old served → AllZip IsCame served new → AllZip PlaceGoes old new
all_go [] [] [] a b = tt
all_go [] [] (z ∷ zs) a b = absurd b
all_go [] (y ∷ ys) zs a b = absurd a
all_go (x ∷ xs) [] zs a b = absurd a
all_go (x ∷ xs) (y ∷ ys) [] a b = absurd b
all_go (x ∷ xs) (y ∷ ys) (z ∷ zs) (p, ps) (q, qs) = (goes x y z p q, all_go xs ys zs ps qs)

-- ---- answered

pub answered_there : (answer : Answer) (place : ℕ) (old : List There) (x d : There) → place < length old → IsAnsweredPlace answer (get_or old place d) x → IsAnsweredAt answer place old (set old place x)
answered_there answer place [] x d within is = absurd (omega arith)
answered_there answer zero (y ∷ ys) x d within is = (is, refl)
answered_there answer (suc place) (y ∷ ys) x d within is = (refl, answered_there answer place ys x d (omega arith) is)

pub answered_nowhere : (answer : Answer) (place : ℕ) (old : List There) → length old ≤ place → IsAnsweredAt answer place old old
answered_nowhere answer place [] past = refl
answered_nowhere answer zero (y ∷ ys) past = absurd (omega arith)
answered_nowhere answer (suc place) (y ∷ ys) past = (refl, answered_nowhere answer place ys (omega arith))

-- ---- asked

pub asks_there : (place : ℕ) (places : List There) (question : Question) (d : There) → place < length places → option_and_then unanswered (get_or places place d) ≡ Some question → AsksAt places place question
asks_there place [] question d within is = absurd (omega arith)
asks_there zero (y ∷ ys) question d within is = is
asks_there (suc place) (y ∷ ys) question d within is = asks_there place ys question d (omega arith) is
