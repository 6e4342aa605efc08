-- Redial lines, each with a try or without one.
use Rattle.std.proofs.Common.{◌≡◌, ℕ, zero, suc, true, false, List, [], ◌∷◌, ◌++◌, append-nil, drop, length, take, get_or, position, slice_get, slice_set, Option, Some, None, refl, sym, ◌∙◌, ap, subst, arith}
use Rattle.std.proofs.lemmas.List.{drop_all, take_all}
use Rattle.std.proofs.lemmas.List.Quantifiers.{position-Some}
use Rattle.std.proofs.lemmas.Option.{slice_get-get_or}
use Rattle.fax_desk.specs.declared.questions.Cause.{Cause}
use Rattle.fax_desk.specs.declared.told.Turn.{Turn}
use Rattle.fax_line.specs.declared.asked.LineAnswer.{LineAnswer}
use Rattle.fax_line.specs.declared.asked.LineRequest.{LineRequest}
use Rattle.fax_redial.specs.Befalls.{EndsAt, Tries, is_over_if}
use Rattle.fax_redial.specs.Telling.{TurnsIf, TurnsOne, told_if_held, told_of_try, told_on}
use Rattle.fax_redial.specs.Tries.{IsAsked, TryValue, Turns, end_of}
use Rattle.fax_redial.specs.Words.{AsksAt, AsksOne}
use Rattle.fax_redial.specs.declared.job.RetryEnd.{RetryEnd}

-- an element that is put where it is
set_itself : {X : Type 0} (xs : List X) (i : ℕ) (x : X) → slice_get xs i ≡ Some x → slice_set xs i x ≡ xs
set_itself {X} [] i x at = refl
set_itself {X} (y ∷ ys) zero x at = let e : x ≡ y = (cc) in ap (λ (z : X). z ∷ ys) e
set_itself {X} (y ∷ ys) (suc i) x at = ap (λ (zs : List X). y ∷ zs) (set_itself ys i x at)

get_set : {X : Type 0} (xs : List X) (i : ℕ) (v x : X) → slice_get xs i ≡ Some x → slice_get (slice_set xs i v) i ≡ Some v
get_set [] i v x is = (cc)
get_set (y ∷ ys) zero v x is = refl
get_set (y ∷ ys) (suc i) v x is = get_set ys i v x is

-- where there is a try
pub asks_some : (now : ℕ) (what : LineRequest) (answer : Option LineAnswer) (old : Option TryValue) (held next : TryValue) → old ≡ Some held → IsAsked now what answer held next → AsksOne now what old answer (Some next)
asks_some now what answer old held next is asked = subst (λ (o : Option TryValue). AsksOne now what o answer (Some next)) (sym is) (next, refl, asked)

pub turns_some : (now : ℕ) (cause : Option Cause) (old : Option TryValue) (held next : TryValue) → old ≡ Some held → Turns now cause held next → TurnsOne now cause old (Some next)
turns_some now cause old held next is turns = subst (λ (o : Option TryValue). TurnsOne now cause o (Some next)) (sym is) (next, refl, turns)

pub told_some : (old : Option TryValue) (held next : TryValue) (told : Option Turn) → old ≡ Some held → told ≡ told_of_try held (Some next) → told ≡ told_if_held old (Some next)
told_some old held next told is so = subst (λ (o : Option TryValue). told ≡ told_if_held o (Some next)) (sym is) so

-- something is asked of the try on a line
asks_there : (now : ℕ) (what : LineRequest) (answer : Option LineAnswer) (tries : Tries) (i : ℕ) (old new : Option TryValue) → slice_get tries i ≡ Some old → AsksOne now what old answer new
    → AsksAt i now what answer (Some old) tries (slice_set tries i new)
asks_there now what answer tries i None new at one = (one.0, ap (λ (h : Option TryValue). slice_set tries i h) one.1 ∙ set_itself tries i None at)
asks_there now what answer tries i (Some held) new at one = record {
  held = held;
  there = at;
  next = one.0;
  asked = one.2;
  tries = ap (λ (h : Option TryValue). slice_set tries i h) one.1;
}

pub asks_at : (now : ℕ) (what : LineRequest) (answer : Option LineAnswer) (tries : Tries) (i : ℕ) (old new : Option TryValue) → slice_get tries i ≡ Some old → AsksOne now what old answer new
    → AsksAt i now what answer (slice_get tries i) tries (slice_set tries i new)
asks_at now what answer tries i old new at one =
    subst (λ (o : Option (Option TryValue)). AsksAt i now what answer o tries (slice_set tries i new)) (sym at) (asks_there now what answer tries i old new at one)

-- it has a turn
turns_there : (now : ℕ) (cause : Option Cause) (tries : Tries) (i : ℕ) (old new : Option TryValue) → slice_get tries i ≡ Some old → TurnsOne now cause old new
    → TurnsIf i now cause (Some old) tries (slice_set tries i new)
turns_there now cause tries i None new at one = ap (λ (h : Option TryValue). slice_set tries i h) one ∙ set_itself tries i None at
turns_there now cause tries i (Some held) new at one = record {
  held = held;
  there = at;
  next = one.0;
  turns = one.2;
  tries = ap (λ (h : Option TryValue). slice_set tries i h) one.1;
}

pub turns_at : (now : ℕ) (cause : Option Cause) (tries : Tries) (i : ℕ) (old new : Option TryValue) → slice_get tries i ≡ Some old → TurnsOne now cause old new
    → TurnsIf i now cause (slice_get tries i) tries (slice_set tries i new)
turns_at now cause tries i old new at one =
    subst (λ (o : Option (Option TryValue)). TurnsIf i now cause o tries (slice_set tries i new)) (sym at) (turns_there now cause tries i old new at one)

-- and that is told
pub told_at : (tries : Tries) (i : ℕ) (old new : Option TryValue) → slice_get tries i ≡ Some old → told_if_held old new ≡ told_on (slice_get tries i) (slice_get (slice_set tries i new) i)
told_at tries i old new at =
    subst (λ (o : Option (Option TryValue)). told_if_held old new ≡ told_on (slice_get tries i) o) (sym (get_set tries i new old at))
    (subst (λ (o : Option (Option TryValue)). told_if_held old new ≡ told_on o (Some new)) (sym at) refl)

-- one that is over ends
over_at : (tries : Tries) (i : ℕ) (old : Option TryValue) → position is_over_if tries ≡ Some i → old ≡ get_or tries i old → (slice_get tries i ≡ Some old) × (is_over_if old ≡ true)
over_at tries i old found at =
    let over = position-Some is_over_if tries i old found in
    (slice_get-get_or tries i old over.0 ∙ ap (λ (h : Option TryValue). Some h) (sym at), ap is_over_if at ∙ over.1)

pub ends_first : (tries all : Tries) (i : ℕ) (old left : Option TryValue) (held : TryValue) (end : RetryEnd) → tries ≡ all → position is_over_if tries ≡ Some i → old ≡ get_or tries i old → old ≡ Some held
    → left ≡ None → end ≡ end_of held → (k : ℕ) × EndsAt k end all (slice_set tries i left)
ends_first tries all i old left held end same found at is none end_is =
    let over = over_at tries i old found at in (
      i,
      subst (λ (t : Tries). EndsAt i end t (slice_set tries i left)) same (record {
        held = held;
        there = over.0 ∙ ap (λ (h : Option TryValue). Some h) is;
        over = sym (ap is_over_if is) ∙ over.1;
        end_is = end_is;
        tries = ap (λ (h : Option TryValue). slice_set tries i h) none;
      }),
    )

-- the first that is over is there
pub over_is_there : (tries : Tries) (i : ℕ) (old : Option TryValue) → position is_over_if tries ≡ Some i → old ≡ get_or tries i old → old ≡ None → ⊥
over_is_there tries i old found at none = let over : false ≡ true = sym (ap is_over_if none) ∙ (over_at tries i old found at).1 in cc

-- a slice of a whole list that comes back
pub comes_back : {X : Type 0} (n : ℕ) (new old : List X) → n ≡ length old → length new ≡ length old → take n (new ++ drop (length new) old) ≡ new
comes_back {X} n new old same as_many =
    ap (λ (l : List X). take n (new ++ l)) (drop_all (length new) old (omega arith))
    ∙ ap (λ (l : List X). take n l) (append-nil new)
    ∙ take_all n new (omega arith)
