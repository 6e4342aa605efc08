-- What befalls the tries of redial lines, one thing after the other.
use Rattle.std.proofs.Common.{◌≡◌, ◌+◌, ℕ, zero, suc, Bool, true, false, ◌&&◌, nat_eq, bytes_eq, if◌then◌else◌, List, [], ◌∷◌, ◌++◌, slice_get, slice_set, Option, Some, None, refl, sym, ◌∙◌, ap, subst, arith}
use Rattle.std.proofs.lemmas.Bool.{eq-eqb, eqb-false, eqb-true}
use Rattle.std.proofs.lemmas.List.Elements.{All-head, All-tail}
use Rattle.std.proofs.lemmas.Map.Keys.{any_passes_from_place}
use Rattle.fax_gateway.specs.Restored.{RestoredCall}
use Rattle.fax_line.specs.Actions.{BeginsWith}
use Rattle.fax_line.specs.Runs.{DoneOrder}
use Rattle.fax_redial.specs.Befalls.{AreApart, Asked, Befall, Befell, Begun, Ended, IsBefallen, Tries, Turned, fault_at, is_under_way}
use Rattle.fax_redial.specs.Begun.{HasPages}
use Rattle.fax_redial.specs.Laws.{AreIdle, AreNotOwed, Beginning, HasBegun, begun_on, one_if, times_begun, times_ended, times_on}
use Rattle.fax_redial.specs.Totals.{end_if}
use Rattle.fax_redial.specs.Tries.{GoesOn, IsTried, TryValue, is_of, same_name}
use Rattle.fax_redial.specs.declared.job.RetryEnd.{RetryEnd}
use Rattle.fax_redial.specs.declared.job.RetryJob.{RetryJob}
use Rattle.fax_redial.specs.declared.total.FailedTry.{FailedTry}
use Rattle.fax_spool.specs.Torn.{CallName}

-- ---- an element that was set

get_set_at : {X : Type 0} (xs : List X) (i : ℕ) (v x : X) → slice_get xs i ≡ Some x → slice_get (slice_set xs i v) i ≡ Some v
get_set_at [] i v x is = (cc)
get_set_at (y ∷ ys) zero v x is = refl
get_set_at (y ∷ ys) (suc i) v x is = get_set_at ys i v x is

get_set_other : {X : Type 0} (xs : List X) (i k : ℕ) (v : X) → (i ≡ k → ⊥) → slice_get (slice_set xs i v) k ≡ slice_get xs k
get_set_other [] i k v other = refl
get_set_other (y ∷ ys) zero zero v other = absurd (other refl)
get_set_other (y ∷ ys) zero (suc k) v other = refl
get_set_other (y ∷ ys) (suc i) zero v other = refl
get_set_other (y ∷ ys) (suc i) (suc k) v other = get_set_other ys i k v (λ e. other (ap (λ (n : ℕ). suc n) e))

-- what is there where that is set is what was set
set_is : {X : Type 0} (xs : List X) (i k : ℕ) (v old x : X) → slice_get xs i ≡ Some old → nat_eq i k ≡ true → slice_get (slice_set xs i v) k ≡ Some x → v ≡ x
set_is xs i k v old x there same is =
    let at_i = subst (λ (n : ℕ). slice_get (slice_set xs i v) n ≡ Some x) (sym (eqb-true i k same)) is in
    let found = get_set_at xs i v old there in cc

-- and what is there elsewhere was there before
set_was : {X : Type 0} (xs : List X) (i k : ℕ) (v : X) (x : X) → nat_eq i k ≡ false → slice_get (slice_set xs i v) k ≡ Some x → slice_get xs k ≡ Some x
set_was xs i k v x other is = sym (get_set_other xs i k v (eqb-false i k other)) ∙ is

both : (a b : Bool) → a ≡ true → b ≡ true → (a && b) ≡ true
both true true p q = refl
both true false p q = q
both false b p q = p

bytes_itself : (xs : List ℕ) → bytes_eq xs xs ≡ true
bytes_itself [] = refl
bytes_itself (x ∷ xs) = both (nat_eq x x) (bytes_eq xs xs) (eq-eqb x x refl) (bytes_itself xs)

same_name_itself : (name : CallName) → same_name name name ≡ true
same_name_itself name =
    both (nat_eq name.life name.life && nat_eq name.call name.call) (bytes_eq name.line name.line)
    (both (nat_eq name.life name.life) (nat_eq name.call name.call) (eq-eqb name.life name.life refl) (eq-eqb name.call name.call refl)) (bytes_itself name.line)

-- ---- no two of one job

-- no other try has the job of one that is put there
abbrev pub IsOther : Tries → ℕ → Option TryValue → Type 0
IsOther tries i next = (k : ℕ) (one other : TryValue) → next ≡ Some one → slice_get tries k ≡ Some (Some other) → one.job.name ≡ other.job.name → i ≡ k

apart_at : (tries : Tries) (i : ℕ) (next old : Option TryValue) → AreApart tries → IsOther tries i next → slice_get tries i ≡ Some old
    → (a b : ℕ) (one other : TryValue) (x y : Bool) → nat_eq i a ≡ x → nat_eq i b ≡ y
    → slice_get (slice_set tries i next) a ≡ Some (Some one) → slice_get (slice_set tries i next) b ≡ Some (Some other) → one.job.name ≡ other.job.name → a ≡ b
apart_at tries i next old apart fits there a b one other true true is_a is_b at_a at_b same = sym (eqb-true i a is_a) ∙ eqb-true i b is_b
apart_at tries i next old apart fits there a b one other true false is_a is_b at_a at_b same =
    sym (eqb-true i a is_a) ∙ fits b one other (set_is tries i a next old (Some one) there is_a at_a) (set_was tries i b next (Some other) is_b at_b) same
apart_at tries i next old apart fits there a b one other false true is_a is_b at_a at_b same =
    sym (fits a other one (set_is tries i b next old (Some other) there is_b at_b) (set_was tries i a next (Some one) is_a at_a) (sym same)) ∙ eqb-true i b is_b
apart_at tries i next old apart fits there a b one other false false is_a is_b at_a at_b same =
    apart a b one other (set_was tries i a next (Some one) is_a at_a) (set_was tries i b next (Some other) is_b at_b) same

pub apart_after : (tries : Tries) (i : ℕ) (next old : Option TryValue) → AreApart tries → IsOther tries i next → slice_get tries i ≡ Some old → AreApart (slice_set tries i next)
apart_after tries i next old apart fits there = λ a b one other at_a at_b same.
    apart_at tries i next old apart fits there a b one other (nat_eq i a) (nat_eq i b) refl refl at_a at_b same

-- a try that goes on is of its job
pub goes_apart : (tries : Tries) (i : ℕ) (held next : TryValue) → AreApart tries → slice_get tries i ≡ Some (Some held) → next.job ≡ held.job → AreApart (slice_set tries i (Some next))
goes_apart tries i held next apart there job =
    apart_after tries i (Some next) (Some held) apart (λ k one other is at same. apart i k held other there at (of_one one is ∙ same)) there
  where
    of_one : (one : TryValue) → Some next ≡ Some one → held.job.name ≡ one.job.name
    of_one one is = let n : next ≡ one = (cc) in ap (λ (j : RetryJob). j.name) (sym job) ∙ ap (λ (t : TryValue). t.job.name) n

-- one that ended has none
pub ends_apart : (tries : Tries) (i : ℕ) (held : TryValue) → AreApart tries → slice_get tries i ≡ Some (Some held) → AreApart (slice_set tries i None)
ends_apart tries i held apart there = apart_after tries i None (Some held) apart (λ k one other is at same. cc) there

-- one that begins is of a job that none has
pub begins_apart : (tries : Tries) (i : ℕ) (held : TryValue) (name : CallName) → AreApart tries → slice_get tries i ≡ Some None → held.job.name ≡ name → is_under_way name tries ≡ false
    → AreApart (slice_set tries i (Some held))
begins_apart tries i held name apart free job none =
    apart_after tries i (Some held) None apart (λ k one other is at same. absurd (never k one other is at same)) free
  where
    never : (k : ℕ) (one other : TryValue) → Some held ≡ Some one → slice_get tries k ≡ Some (Some other) → one.job.name ≡ other.job.name → ⊥
    never k one other is at same =
        let h : held ≡ one = (cc) in
        let n : name ≡ other.job.name = sym job ∙ (ap (λ (t : TryValue). t.job.name) h ∙ same) in
        let passes : is_of name (Some other) ≡ true = subst (λ (m : CallName). same_name other.job.name m ≡ true) (sym n) (same_name_itself other.job.name) in
        let any : is_under_way name tries ≡ true = any_passes_from_place (is_of name) tries k (Some other) at passes in
        let e : true ≡ false = sym any ∙ none in cc

pub apart_by : (befall : Befall) (old new : Tries) → AreApart old → IsBefallen befall old new → AreApart new
apart_by (Begun i queues job line) old new apart is =
    subst (λ (t : Tries). AreApart t) (sym is.tries) (begins_apart old i is.held job.name apart is.free (ap (λ (j : RetryJob). j.name) is.begins.job) is.other)
apart_by (Turned i now cause) old new apart is = subst (λ (t : Tries). AreApart t) (sym is.tries) (goes_apart old i is.held is.next apart is.there is.turns.job)
apart_by (Asked i now what answer) old new apart is = subst (λ (t : Tries). AreApart t) (sym is.tries) (goes_apart old i is.held is.next apart is.there is.asked.job)
apart_by (Ended i end) old new apart is = subst (λ (t : Tries). AreApart t) (sym is.tries) (ends_apart old i is.held apart is.there)

-- of all that are idle none has a job
idle_has_none : (tries : Tries) (i : ℕ) (held : TryValue) → AreIdle tries → slice_get tries i ≡ Some (Some held) → ⊥
idle_has_none [] i held idle at = (cc)
idle_has_none (x ∷ xs) zero held idle at = let is : x ≡ None = All-head (λ (h : Option TryValue). h ≡ None) x xs idle in cc
idle_has_none (x ∷ xs) (suc i) held idle at = idle_has_none xs i held (All-tail (λ (h : Option TryValue). h ≡ None) x xs idle) at

pub idle_apart : (tries : Tries) → AreIdle tries → AreApart tries
idle_apart tries idle = λ i k one other at_i at_k same. absurd (idle_has_none tries i one idle at_i)

pub apart_along : (befell : List Befall) (old new : Tries) → AreIdle old → Befell befell old new → AreApart new
apart_along [] old new idle is = subst (λ (t : Tries). AreApart t) (sym is) (idle_apart old idle)
apart_along (befall ∷ earlier) old new idle (between, before, is) = apart_by befall between new (apart_along earlier old between idle before) is

-- ---- each try went on from the line that it began with

abbrev HaveBegun : List Befall → Tries → Type 0
HaveBegun befell tries = (i : ℕ) (held : TryValue) → slice_get tries i ≡ Some (Some held) → HasBegun (begun_on i befell) held

begun_goes : (begun : Option Beginning) (more : List DoneOrder) (old new : TryValue) → new.job ≡ old.job → GoesOn more old new → HasBegun begun old → HasBegun begun new
begun_goes None more old new job goes has = has
begun_goes (Some begun) more old new job goes (is, pages, tried) =
    (job ∙ is, pages, λ (calls : List RestoredCall) (begins : BeginsWith calls begun.line). let t = tried calls begins in (more ++ t.0, goes.goes calls t.0 t.1))

-- of the line that went on, and of another one
goes_at : (tries : Tries) (k : ℕ) (held next : TryValue) (befell : List Befall) (more : List DoneOrder) → slice_get tries k ≡ Some (Some held) → next.job ≡ held.job → GoesOn more held next → HaveBegun befell tries
    → (i : ℕ) (now : TryValue) (b : Bool) → nat_eq k i ≡ b → slice_get (slice_set tries k (Some next)) i ≡ Some (Some now) → HasBegun (begun_on i befell) now
goes_at tries k held next befell more there job goes have i now true same at =
    let is : Some next ≡ Some now = set_is tries k i (Some next) (Some held) (Some now) there same at in
    let n : next ≡ now = (cc) in
    subst (λ (t : TryValue). HasBegun (begun_on i befell) t) n
    (begun_goes (begun_on i befell) more held next job goes (have i held (subst (λ (m : ℕ). slice_get tries m ≡ Some (Some held)) (eqb-true k i same) there)))
goes_at tries k held next befell more there job goes have i now false other at = have i now (set_was tries k i (Some next) (Some now) other at)

begins_at : (tries : Tries) (k : ℕ) (held : TryValue) (begun : Beginning) (befell : List Befall) → slice_get tries k ≡ Some None → held.job ≡ begun.job → HasPages begun.job begun.line
    → ((calls : List RestoredCall) → BeginsWith calls begun.line → IsTried calls [] held) → HaveBegun befell tries
    → (i : ℕ) (now : TryValue) (b : Bool) → nat_eq k i ≡ b → slice_get (slice_set tries k (Some held)) i ≡ Some (Some now) → HasBegun (if b then Some begun else begun_on i befell) now
begins_at tries k held begun befell free job pages tried have i now true same at =
    let is : Some held ≡ Some now = set_is tries k i (Some held) None (Some now) free same at in
    let n : held ≡ now = (cc) in
    subst (λ (t : TryValue). HasBegun (Some begun) t) n (job, pages, λ (calls : List RestoredCall) (begins : BeginsWith calls begun.line). ([], tried calls begins))
begins_at tries k held begun befell free job pages tried have i now false other at = have i now (set_was tries k i (Some held) (Some now) other at)

ends_at : (tries : Tries) (k : ℕ) (held : TryValue) (befell : List Befall) → slice_get tries k ≡ Some (Some held) → HaveBegun befell tries
    → (i : ℕ) (now : TryValue) (b : Bool) → nat_eq k i ≡ b → slice_get (slice_set tries k None) i ≡ Some (Some now) → HasBegun (begun_on i befell) now
ends_at tries k held befell there have i now true same at = let is : None ≡ Some now = set_is tries k i None (Some held) (Some now) there same at in cc
ends_at tries k held befell there have i now false other at = have i now (set_was tries k i None (Some now) other at)

have_same : (befell : List Befall) (a b : Tries) → b ≡ a → HaveBegun befell a → HaveBegun befell b
have_same befell a b same have = subst (λ (t : Tries). HaveBegun befell t) (sym same) have

begun_by : (befall : Befall) (earlier : List Befall) (old new : Tries) → HaveBegun earlier old → IsBefallen befall old new → HaveBegun (befall ∷ earlier) new
begun_by (Begun k queues job line) earlier old new have is =
    let begun : Beginning = record { job = job; line = line } in
    have_same (Begun k queues job line ∷ earlier) (slice_set old k (Some is.held)) new is.tries
    (λ i now at. begins_at old k is.held begun earlier is.free is.begins.job is.begins.pages is.begins.tried have i now (nat_eq k i) refl at)
begun_by (Turned k moment cause) earlier old new have is =
    have_same (Turned k moment cause ∷ earlier) (slice_set old k (Some is.next)) new is.tries
    (λ i now at. goes_at old k is.held is.next earlier _ is.there is.turns.job is.turns.goes have i now (nat_eq k i) refl at)
begun_by (Asked k moment what answer) earlier old new have is =
    have_same (Asked k moment what answer ∷ earlier) (slice_set old k (Some is.next)) new is.tries
    (λ i now at. goes_at old k is.held is.next earlier _ is.there is.asked.job is.asked.goes have i now (nat_eq k i) refl at)
begun_by (Ended k end) earlier old new have is =
    have_same (Ended k end ∷ earlier) (slice_set old k None) new is.tries (λ i now at. ends_at old k is.held earlier is.there have i now (nat_eq k i) refl at)

pub begun_along : (befell : List Befall) (old new : Tries) → AreIdle old → Befell befell old new → (i : ℕ) (held : TryValue) → slice_get new i ≡ Some (Some held) → HasBegun (begun_on i befell) held
begun_along [] old new idle is i held at = absurd (idle_has_none old i held idle (subst (λ (t : Tries). slice_get t i ≡ Some (Some held)) is at))
begun_along (befall ∷ earlier) old new idle (between, before, is) i held at = begun_by befall earlier between new (begun_along earlier old between idle before) is i held at

-- ---- how often

swap_ifs : (a b : Bool) (n : ℕ) → one_if a (one_if b n) ≡ one_if b (one_if a n)
swap_ifs true true n = refl
swap_ifs true false n = refl
swap_ifs false true n = refl
swap_ifs false false n = refl

on_set : (name : CallName) (tries : Tries) (i : ℕ) (v x : Option TryValue) → slice_get tries i ≡ Some x → one_if (is_of name x) (times_on name (slice_set tries i v)) ≡ one_if (is_of name v) (times_on name tries)
on_set name [] i v x at = (cc)
on_set name (y ∷ ys) zero v x at =
    let is : y ≡ x = (cc) in
    subst (λ (z : Option TryValue). one_if (is_of name z) (one_if (is_of name v) (times_on name ys)) ≡ one_if (is_of name v) (one_if (is_of name y) (times_on name ys))) is
    (swap_ifs (is_of name y) (is_of name v) (times_on name ys))
on_set name (y ∷ ys) (suc i) v x at =
    swap_ifs (is_of name x) (is_of name y) (times_on name (slice_set ys i v)) ∙ ap (one_if (is_of name y)) (on_set name ys i v x at) ∙ swap_ifs (is_of name y) (is_of name v) (times_on name ys)

same_ifs : (b : Bool) (m n : ℕ) → one_if b m ≡ one_if b n → m ≡ n
same_ifs true m n same = omega arith
same_ifs false m n same = same

more_on : (b : Bool) (ended m n begun : ℕ) → n ≡ one_if b m → begun ≡ ended + m → one_if b begun ≡ ended + n
more_on true ended m n begun is before = omega arith
more_on false ended m n begun is before = omega arith

less_on : (b : Bool) (ended m n begun : ℕ) → one_if b n ≡ m → begun ≡ ended + m → begun ≡ one_if b ended + n
less_on true ended m n begun is before = omega arith
less_on false ended m n begun is before = omega arith

idle_on : (name : CallName) (tries : Tries) → AreIdle tries → times_on name tries ≡ 0
idle_on name [] idle = refl
idle_on name (x ∷ xs) idle =
    let is : x ≡ None = All-head (λ (h : Option TryValue). h ≡ None) x xs idle in
    subst (λ (h : Option TryValue). one_if (is_of name h) (times_on name xs) ≡ 0) (sym is) (idle_on name xs (All-tail (λ (h : Option TryValue). h ≡ None) x xs idle))

pub end_name : (job : RetryJob) (delivered : ℕ) (failed : Option FailedTry) → (end_if job delivered failed).name ≡ job.name
end_name job delivered None = refl
end_name job delivered (Some failed) = refl

abbrev IsCounted : CallName → List Befall → Tries → Type 0
IsCounted name befell tries = times_begun name befell ≡ times_ended name befell + times_on name tries

goes_on : (name : CallName) (tries : Tries) (i : ℕ) (held next : TryValue) → slice_get tries i ≡ Some (Some held) → next.job ≡ held.job → times_on name (slice_set tries i (Some next)) ≡ times_on name tries
goes_on name tries i held next there job =
    same_ifs (is_of name (Some held)) (times_on name (slice_set tries i (Some next))) (times_on name tries)
    (on_set name tries i (Some next) (Some held) there ∙ ap (λ (j : RetryJob). one_if (same_name j.name name) (times_on name tries)) job)

counted_by : (name : CallName) (befall : Befall) (earlier : List Befall) (old new : Tries) → IsCounted name earlier old → IsBefallen befall old new → IsCounted name (befall ∷ earlier) new
counted_by name (Begun k queues job line) earlier old new counted is =
    more_on (same_name job.name name) (times_ended name earlier) (times_on name old) (times_on name new) (times_begun name earlier)
    (ap (times_on name) is.tries ∙ on_set name old k (Some is.held) None is.free ∙ ap (λ (j : RetryJob). one_if (same_name j.name name) (times_on name old)) is.begins.job) counted
counted_by name (Turned k moment cause) earlier old new counted is =
    counted ∙ ap (λ (n : ℕ). times_ended name earlier + n) (sym (ap (times_on name) is.tries ∙ goes_on name old k is.held is.next is.there is.turns.job))
counted_by name (Asked k moment what answer) earlier old new counted is =
    counted ∙ ap (λ (n : ℕ). times_ended name earlier + n) (sym (ap (times_on name) is.tries ∙ goes_on name old k is.held is.next is.there is.asked.job))
counted_by name (Ended k end) earlier old new counted is =
    let named : end.name ≡ is.held.job.name = ap (λ (e : RetryEnd). e.name) is.end_is ∙ end_name is.held.job is.held.total.delivered is.held.total.failed in
    less_on (same_name end.name name) (times_ended name earlier) (times_on name old) (times_on name new) (times_begun name earlier)
    (ap (λ (m : CallName). one_if (same_name m name) (times_on name new)) named ∙ ap (λ (t : Tries). one_if (is_of name (Some is.held)) (times_on name t)) is.tries ∙ on_set name old k None (Some is.held) is.there) counted

pub counted_along : (befell : List Befall) (old new : Tries) → AreIdle old → Befell befell old new → (name : CallName) → IsCounted name befell new
counted_along [] old new idle is name = let none : times_on name new ≡ 0 = ap (times_on name) is ∙ idle_on name old idle in omega (arith, none)
counted_along (befall ∷ earlier) old new idle (between, before, is) name = counted_by name befall earlier between new (counted_along earlier old between idle before name) is

-- ---- where a try begins

pub fault_none : (at : Option (Option TryValue)) (is_tried is_owed_now : Bool) (waiting : ℕ) → fault_at at is_tried is_owed_now waiting ≡ None → (at ≡ Some None) × (is_tried ≡ false) × (is_owed_now ≡ false)
fault_none None is_tried is_owed_now waiting is = (cc)
fault_none (Some (Some held)) is_tried is_owed_now waiting is = (cc)
fault_none (Some None) true is_owed_now waiting is = (cc)
fault_none (Some None) false true waiting is = (cc)
fault_none (Some None) false false waiting is = (refl, refl, refl)

-- ---- what its line owes

pub not_owed_along : (befell : List Befall) (old new : Tries) → Befell befell old new → AreNotOwed befell
not_owed_along [] old new is = tt
not_owed_along (Begun k queues job line ∷ earlier) old new (between, before, is) = (is.not_owed, not_owed_along earlier old between before)
not_owed_along (Turned k moment cause ∷ earlier) old new (between, before, is) = not_owed_along earlier old between before
not_owed_along (Asked k moment what answer ∷ earlier) old new (between, before, is) = not_owed_along earlier old between before
not_owed_along (Ended k end ∷ earlier) old new (between, before, is) = not_owed_along earlier old between before
