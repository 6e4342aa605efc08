-- What is sent on a leg, and what that leaves.
use Rattle.std.proofs.Common.{◌≡◌, ℕ, ◌+◌, ◌<◌, ◌≤◌, suc, zero, Bool, true, false, ◌&&◌, nat_eq, nat_lt, nat_le, List, [], ◌∷◌, length, Option, Some, None, if◌then◌else◌, refl, sym, ◌∙◌, ap, subst, arith}
use Rattle.std.proofs.lemmas.Bool.{eq-eqb, eqb-true}
use Rattle.fax_gateway.specs.declared.leg.Leg.{Leg}
use Rattle.fax_gateway.specs.declared.leg.Leg.TheVariants as legs
use Rattle.fax_gateway.specs.Wires.{Grows, HandedDatagram}
use Rattle.fax_wires.specs.declared.repeat.policy.RepeatPolicy.{RepeatPolicy}
use Rattle.fax_wires.specs.repeat.Gaps.{gap_after, gap_at, gaps}
use Rattle.fax_wires.specs.repeat.Policies.{LastValue, after, due_after, has_come, kept_of, other_leg, repeat_of, repeated, unknown}
use Rattle.fax_wires.specs.repeat.Repeats.{IsLast, IsWithin, RepeatsIf, at_most, newest, once, same_leg, same_octets, times, told_if}

-- ---- when a datagram is sent again

within_gap : (l : List ℕ) (place gap : ℕ) → gap_at l place ≡ Some gap → (0 < place) × (place ≤ length l)
within_gap [] place gap is = cc
within_gap (x ∷ xs) zero gap is = cc
within_gap (x ∷ xs) (suc zero) gap is = (omega arith, omega arith)
within_gap (x ∷ xs) (suc (suc place)) gap is = let more = within_gap xs (suc place) gap is in (omega arith, omega (arith, more.1))

after_gap : (now moment : ℕ) (o : Option ℕ) → after now o ≡ Some moment → (gap : ℕ) × (o ≡ Some gap)
after_gap now moment None is = cc
after_gap now moment (Some gap) is = (gap, refl)

within_due : (policy : RepeatPolicy) (now sends moment : ℕ) → due_after policy now sends ≡ Some moment → (0 < sends) × (sends ≤ length (gaps policy))
within_due policy now sends moment is = let g = after_gap now moment (gap_after policy sends) is in within_gap (gaps policy) sends g.0 g.1

pub within_sent : (policy : RepeatPolicy) (now sends : ℕ) (octets : List ℕ) → IsWithin policy (record { octets = octets; sends = sends; due = due_after policy now sends })
within_sent policy now sends octets = record { within = λ moment is. within_due policy now sends moment is }

within_none : (policy : RepeatPolicy) (octets : List ℕ) (sends : ℕ) → IsWithin policy (record { octets = octets; sends = sends; due = None })
within_none policy octets sends = record { within = λ moment is. cc }

within_if : (policy : RepeatPolicy) (b : Bool) (one other : LastValue) → IsWithin policy one → IsWithin policy other → IsWithin policy (if b then one else other)
within_if policy true one other first second = first
within_if policy false one other first second = second

pub within_kept : (policy : RepeatPolicy) (now : ℕ) (octets : List ℕ) (last : LastValue) → last ≡ kept_of policy now octets → IsWithin policy last
within_kept policy now octets last is =
    subst (λ (x : LastValue). IsWithin policy x) (sym is)
    (within_if policy (nat_le (length octets) 1500) (record { octets = octets; sends = 1; due = due_after policy now 1 }) unknown (within_sent policy now 1 octets) (within_none policy [] 0))

pub within_repeated : (policy : RepeatPolicy) (now : ℕ) (old last : LastValue) → last ≡ repeated policy now old → IsWithin policy old → IsWithin policy last
within_repeated policy now old last is within =
    subst (λ (x : LastValue). IsWithin policy x) (sym is)
    (within_if policy (has_come old.due now) (record { octets = old.octets; sends = old.sends + 1; due = due_after policy now (old.sends + 1) }) old (within_sent policy now (old.sends + 1) old.octets) within)

come_due : (now : ℕ) (due : Option ℕ) → has_come due now ≡ true → (moment : ℕ) × (due ≡ Some moment)
come_due now None is = cc
come_due now (Some moment) is = (moment, refl)

come_within : (policy : RepeatPolicy) (now : ℕ) (last : LastValue) → IsWithin policy last → has_come last.due now ≡ true → (0 < last.sends) × (last.sends ≤ length (gaps policy))
come_within policy now last within is = let d = come_due now last.due is in within.within d.0 d.1

-- ---- what was sent on a leg

-- where none was sent on a leg, none is like this one; nor where the newest is another one
none_step : (b c : Bool) (octets : List ℕ) (rest : Option (List ℕ)) (t : ℕ) → (if b then Some octets else rest) ≡ None → (rest ≡ None → t ≡ 0) → (if b then (if c then t + 1 else 0) else t) ≡ 0
none_step true c octets rest t is f = cc
none_step false c octets rest t is f = f is

none_times : (at : Leg) (octets : List ℕ) (sent : List HandedDatagram) → newest at sent ≡ None → times at octets sent ≡ 0
none_times at octets [] is = refl
none_times at octets (h ∷ earlier) is = none_step (same_leg at h.leg) (same_octets octets h.octets) h.octets (newest at earlier) (times at octets earlier) is (none_times at octets earlier)

some_inner : (a b : List ℕ) → Some a ≡ Some b → a ≡ b
some_inner a b is = cc

other_step : (b : Bool) (mine octets old : List ℕ) (rest : Option (List ℕ)) (t : ℕ) → (if b then Some octets else rest) ≡ Some old → same_octets mine old ≡ false → (rest ≡ Some old → t ≡ 0)
    → (if b then (if same_octets mine octets then t + 1 else 0) else t) ≡ 0
other_step true mine octets old rest t is other f =
    ap (λ (x : Bool). if x then t + 1 else 0) (ap (λ (o : List ℕ). same_octets mine o) (some_inner octets old is) ∙ other)
other_step false mine octets old rest t is other f = f is

other_times : (at : Leg) (octets old : List ℕ) (sent : List HandedDatagram) → newest at sent ≡ Some old → same_octets octets old ≡ false → times at octets sent ≡ 0
other_times at octets old [] is other = refl
other_times at octets old (h ∷ earlier) is other =
    other_step (same_leg at h.leg) octets h.octets old (newest at earlier) (times at octets earlier) is other (λ e. other_times at octets old earlier e other)

same_self : (octets : List ℕ) → same_octets octets octets ≡ true
same_self [] = refl
same_self (x ∷ xs) = ap (λ (b : Bool). b && same_octets xs xs) (eq-eqb x x refl) ∙ same_self xs

-- a datagram that is not the last one of its leg
new_of : (at : Leg) (octets old : List ℕ) (sends : ℕ) (sent : List HandedDatagram) → (0 < sends → newest at sent ≡ Some old) → (sends ≡ 0 → newest at sent ≡ None)
    → (0 < sends → same_octets octets old ≡ false) → times at octets sent ≡ 0
new_of at octets old zero sent is none other = none_times at octets sent (none refl)
new_of at octets old (suc n) sent is none other = other_times at octets old sent (is (omega arith)) (other (omega arith))

times_new : (at : Leg) (octets : List ℕ) (last : LastValue) (sent : List HandedDatagram) → IsLast at last sent → (0 < last.sends → same_octets octets last.octets ≡ false) → times at octets sent ≡ 0
times_new at octets last sent is other = new_of at octets last.octets last.sends sent is.newest_is is.none other

-- ---- one more send

-- the last of a leg, and that of the other one
record Keeps (at : Leg) (most : ℕ) (last beside : LastValue) (sent : List HandedDatagram) : Type 0 where
  within : at_most most sent ≡ true
  on : IsLast at last sent
  other : IsLast (other_leg at) beside sent

one_more : (b : Bool) (t sends : ℕ) → b ≡ true → t ≡ sends → (if b then t + 1 else 0) ≡ sends + 1
one_more true t sends is same = omega arith
one_more false t sends is same = cc

at_more : (t most : ℕ) (b : Bool) → t < most → b ≡ true → (nat_lt t most && b) ≡ true
at_more t most true low is = grind arith
at_more t most false low is = cc

-- after so many sends of a datagram it is sent
sent_on : (at : Leg) (most sends : ℕ) (octets : List ℕ) (due : Option ℕ) (last beside : LastValue) (older : List HandedDatagram) → Keeps at most last beside older
    → times at octets older ≡ sends → sends < most → Keeps at most (record { octets = octets; sends = sends + 1; due = due }) beside (record { leg = at; octets = octets } ∷ older)
sent_on legs.Calling most sends octets due last beside older keeps same low = record {
  within = at_more (times legs.Calling octets older) most (at_most most older) (omega arith) keeps.within;
  on = record { newest_is = λ lt. refl; none = λ e. absurd (omega arith); sends_are = one_more (same_octets octets octets) (times legs.Calling octets older) sends (same_self octets) same };
  other = record { newest_is = keeps.other.newest_is; none = keeps.other.none; sends_are = keeps.other.sends_are };
}
sent_on legs.Called most sends octets due last beside older keeps same low = record {
  within = at_more (times legs.Called octets older) most (at_most most older) (omega arith) keeps.within;
  on = record { newest_is = λ lt. refl; none = λ e. absurd (omega arith); sends_are = one_more (same_octets octets octets) (times legs.Called octets older) sends (same_self octets) same };
  other = record { newest_is = keeps.other.newest_is; none = keeps.other.none; sends_are = keeps.other.sends_are };
}

abbrev KeepsIf : Bool → Leg → ℕ → LastValue → LastValue → Option (List HandedDatagram) → Type 0
KeepsIf tells at most last beside told = (sent : List HandedDatagram) → tells ≡ true → told ≡ Some sent → Keeps at most last beside sent

-- a datagram is handed over
handed_on :
    (t : Bool) (at : Leg) (most : ℕ) (octets : List ℕ) (due : Option ℕ) (last beside : LastValue) (a b : Option (List HandedDatagram))
    → KeepsIf t at most last beside a → Grows (record { leg = at; octets = octets } ∷ []) a b → 0 < most → (t ≡ true → 0 < last.sends → same_octets octets last.octets ≡ false)
    → KeepsIf t at most (record { octets = octets; sends = 1; due = due }) beside b
handed_on t at most octets due last beside a b keeps grows low other sent tells is =
    let h : HandedDatagram = record { leg = at; octets = octets } in
    let g : Grows (h ∷ []) a (Some sent) = subst (λ (x : Option (List HandedDatagram)). Grows (h ∷ []) a x) is grows in
    let k = keeps g.0 tells g.1 in
    subst (λ (x : List HandedDatagram). Keeps at most (record { octets = octets; sends = 1; due = due }) beside x) (sym g.2)
    (sent_on at most 0 octets due last beside g.0 k (times_new at octets last g.0 k.on (other tells)) low)

-- or the last one is sent again, where its moment has come
again_on :
    (b t : Bool) (at : Leg) (most : ℕ) (due : Option ℕ) (last beside : LastValue) (x y : Option (List HandedDatagram))
    → KeepsIf t at most last beside x → Grows (if b then record { leg = at; octets = last.octets } ∷ [] else []) x y → (b ≡ true → last.sends < most)
    → KeepsIf t at most (if b then record { octets = last.octets; sends = last.sends + 1; due = due } else last) beside y
again_on true t at most due last beside x y keeps grows low sent tells is =
    let h : HandedDatagram = record { leg = at; octets = last.octets } in
    let g : Grows (h ∷ []) x (Some sent) = subst (λ (o : Option (List HandedDatagram)). Grows (h ∷ []) x o) is grows in
    let k = keeps g.0 tells g.1 in
    subst (λ (l : List HandedDatagram). Keeps at most (record { octets = last.octets; sends = last.sends + 1; due = due }) beside l) (sym g.2)
    (sent_on at most last.sends last.octets due last beside g.0 k k.on.sends_are (low refl))
again_on false t at most due last beside x y keeps grows low sent tells is =
    let g : Grows {A = HandedDatagram} [] x (Some sent) = subst (λ (o : Option (List HandedDatagram)). Grows [] x o) is grows in
    subst (λ (l : List HandedDatagram). Keeps at most last beside l) (sym g.2) (keeps g.0 tells g.1)

-- ---- what is told of it

-- a datagram that was handed over
once_new : (h : HandedDatagram) (t : ℕ) (older : List HandedDatagram) → t ≡ 0 → (if nat_eq t 0 then h ∷ older else older) ≡ h ∷ older
once_new h t older is = ap (λ (k : ℕ). if nat_eq k 0 then h ∷ older else older) is

told_new :
    (t : Bool) (at : Leg) (most : ℕ) (octets : List ℕ) (last beside : LastValue) (a b : Option (List HandedDatagram))
    → KeepsIf t at most last beside a → Grows (record { leg = at; octets = octets } ∷ []) a b → (t ≡ true → 0 < last.sends → same_octets octets last.octets ≡ false)
    → Grows (record { leg = at; octets = octets } ∷ []) (told_if t a) (told_if t b)
told_new false at most octets last beside a b keeps grows other = tt
told_new true at most octets last beside a None keeps grows other = tt
told_new true at most octets last beside a (Some sent) keeps grows other =
    let h : HandedDatagram = record { leg = at; octets = octets } in
    let k = keeps grows.0 refl grows.1 in
    (once grows.0, ap (told_if true) grows.1, ap once grows.2 ∙ once_new h (times at octets grows.0) (once grows.0) (times_new at octets last grows.0 k.on (other refl)))

-- it goes on telling only where it told before
told_of_new :
    (s t : Bool) (h : HandedDatagram) (a b : Option (List HandedDatagram)) → (t ≡ true → s ≡ true) → Grows (h ∷ []) (told_if t a) (told_if t b) → Grows (h ∷ []) (told_if s a) (told_if t b)
told_of_new s false h a b only grows = tt
told_of_new s true h a b only grows = subst (λ (x : Bool). Grows (h ∷ []) (told_if x a) (told_if true b)) (sym (only refl)) grows

-- a repeat
again_if : (h : HandedDatagram) (t : ℕ) (older : List HandedDatagram) (b : Bool) → nat_eq t 0 ≡ b → 0 < t → (if b then h ∷ older else older) ≡ older
again_if h t older true is low = let zero_is : t ≡ 0 = eqb-true t 0 is in absurd (omega arith)
again_if h t older false is low = refl

once_again : (h : HandedDatagram) (t : ℕ) (older : List HandedDatagram) → 0 < t → (if nat_eq t 0 then h ∷ older else older) ≡ older
once_again h t older low = again_if h t older (nat_eq t 0) refl low

told_again :
    (b t : Bool) (at : Leg) (most : ℕ) (last beside : LastValue) (x y : Option (List HandedDatagram))
    → KeepsIf t at most last beside x → Grows (if b then record { leg = at; octets = last.octets } ∷ [] else []) x y → (b ≡ true → 0 < last.sends)
    → Grows [] (told_if t x) (told_if t y)
told_again b false at most last beside x y keeps grows low = tt
told_again b true at most last beside x None keeps grows low = tt
told_again true true at most last beside x (Some sent) keeps grows low =
    let h : HandedDatagram = record { leg = at; octets = last.octets } in
    let k = keeps grows.0 refl grows.1 in
    (once grows.0, ap (told_if true) grows.1, ap once grows.2 ∙ once_again h (times at last.octets grows.0) (once grows.0) (omega (arith, k.on.sends_are, low refl)))
told_again false true at most last beside x (Some sent) keeps grows low = (once grows.0, ap (told_if true) grows.1, ap once grows.2)

grows_none : {A : Type 0} (a b c : Option (List A)) → Grows [] a b → Grows [] b c → Grows [] a c
grows_none a b None first second = tt
grows_none {A = A} a b (Some told) first second =
    let g : Grows {A = A} [] a (Some second.0) = subst (λ (x : Option (List A)). Grows [] a x) second.1 first in
    (g.0, g.1, second.2 ∙ g.2)

-- ---- both legs

calling_first : (t : Bool) (policy : RepeatPolicy) (calling called : LastValue) (told : Option (List HandedDatagram)) → RepeatsIf t policy calling called told
    → KeepsIf t legs.Calling (length (gaps policy) + 1) calling called told
calling_first t policy calling called told repeats sent tells is =
    let r = repeats sent tells is in record { within = r.within; on = r.on_calling; other = r.on_called }

called_first : (t : Bool) (policy : RepeatPolicy) (calling called : LastValue) (told : Option (List HandedDatagram)) → RepeatsIf t policy calling called told
    → KeepsIf t legs.Called (length (gaps policy) + 1) called calling told
called_first t policy calling called told repeats sent tells is =
    let r = repeats sent tells is in record { within = r.within; on = r.on_called; other = r.on_calling }

calling_back : (t : Bool) (policy : RepeatPolicy) (calling called : LastValue) (told : Option (List HandedDatagram)) → KeepsIf t legs.Calling (length (gaps policy) + 1) calling called told
    → RepeatsIf t policy calling called told
calling_back t policy calling called told keeps sent tells is =
    let k = keeps sent tells is in record { within = k.within; on_calling = k.on; on_called = k.other }

called_back : (t : Bool) (policy : RepeatPolicy) (calling called : LastValue) (told : Option (List HandedDatagram)) → KeepsIf t legs.Called (length (gaps policy) + 1) called calling told
    → RepeatsIf t policy calling called told
called_back t policy calling called told keeps sent tells is =
    let k = keeps sent tells is in record { within = k.within; on_calling = k.other; on_called = k.on }

-- what is kept of a short datagram
kept_short : (b : Bool) (one other : LastValue) → b ≡ true → (if b then one else other) ≡ one
kept_short true one other is = refl
kept_short false one other is = cc

kept_if : (t : Bool) (at : Leg) (most : ℕ) (policy : RepeatPolicy) (now : ℕ) (octets : List ℕ) (new beside : LastValue) (b : Option (List HandedDatagram))
    → new ≡ kept_of policy now octets → (t ≡ true → nat_le (length octets) 1500 ≡ true)
    → KeepsIf t at most (record { octets = octets; sends = 1; due = due_after policy now 1 }) beside b → KeepsIf t at most new beside b
kept_if t at most policy now octets new beside b kept short keeps sent tells is =
    subst (λ (x : LastValue). Keeps at most x beside sent)
    (sym (kept ∙ kept_short (nat_le (length octets) 1500) (record { octets = octets; sends = 1; due = due_after policy now 1 }) unknown (short tells))) (keeps sent tells is)

pub repeats_calling :
    (s t : Bool) (policy : RepeatPolicy) (now : ℕ) (octets : List ℕ) (old new called : LastValue) (a b : Option (List HandedDatagram))
    → (t ≡ true → s ≡ true) → new ≡ kept_of policy now octets → (t ≡ true → nat_le (length octets) 1500 ≡ true) → (t ≡ true → 0 < old.sends → same_octets octets old.octets ≡ false)
    → RepeatsIf s policy old called a → Grows (record { leg = legs.Calling; octets = octets } ∷ []) a b → RepeatsIf t policy new called b
repeats_calling s t policy now octets old new called a b only kept short other repeats grows =
    calling_back t policy new called b (kept_if t legs.Calling (length (gaps policy) + 1) policy now octets new called b kept short
    (handed_on t legs.Calling (length (gaps policy) + 1) octets (due_after policy now 1) old called a b (calling_first t policy old called a (λ sent tells is. repeats sent (only tells) is)) grows (omega arith) other))

pub repeats_called :
    (s t : Bool) (policy : RepeatPolicy) (now : ℕ) (octets : List ℕ) (old new calling : LastValue) (a b : Option (List HandedDatagram))
    → (t ≡ true → s ≡ true) → new ≡ kept_of policy now octets → (t ≡ true → nat_le (length octets) 1500 ≡ true) → (t ≡ true → 0 < old.sends → same_octets octets old.octets ≡ false)
    → RepeatsIf s policy calling old a → Grows (record { leg = legs.Called; octets = octets } ∷ []) a b → RepeatsIf t policy calling new b
repeats_called s t policy now octets old new calling a b only kept short other repeats grows =
    called_back t policy calling new b (kept_if t legs.Called (length (gaps policy) + 1) policy now octets new calling b kept short
    (handed_on t legs.Called (length (gaps policy) + 1) octets (due_after policy now 1) old calling a b (called_first t policy calling old a (λ sent tells is. repeats sent (only tells) is)) grows (omega arith) other))

pub tells_calling :
    (s t : Bool) (policy : RepeatPolicy) (octets : List ℕ) (old called : LastValue) (a b : Option (List HandedDatagram))
    → (t ≡ true → s ≡ true) → (t ≡ true → 0 < old.sends → same_octets octets old.octets ≡ false) → RepeatsIf s policy old called a → Grows (record { leg = legs.Calling; octets = octets } ∷ []) a b
    → Grows (record { leg = legs.Calling; octets = octets } ∷ []) (told_if s a) (told_if t b)
tells_calling s t policy octets old called a b only other repeats grows =
    told_of_new s t (record { leg = legs.Calling; octets = octets }) a b only
    (told_new t legs.Calling (length (gaps policy) + 1) octets old called a b (calling_first t policy old called a (λ sent tells is. repeats sent (only tells) is)) grows other)

pub tells_called :
    (s t : Bool) (policy : RepeatPolicy) (octets : List ℕ) (old calling : LastValue) (a b : Option (List HandedDatagram))
    → (t ≡ true → s ≡ true) → (t ≡ true → 0 < old.sends → same_octets octets old.octets ≡ false) → RepeatsIf s policy calling old a → Grows (record { leg = legs.Called; octets = octets } ∷ []) a b
    → Grows (record { leg = legs.Called; octets = octets } ∷ []) (told_if s a) (told_if t b)
tells_called s t policy octets old calling a b only other repeats grows =
    told_of_new s t (record { leg = legs.Called; octets = octets }) a b only
    (told_new t legs.Called (length (gaps policy) + 1) octets old calling a b (called_first t policy calling old a (λ sent tells is. repeats sent (only tells) is)) grows other)

-- time goes on: the calling leg first
calling_again : (t : Bool) (policy : RepeatPolicy) (now : ℕ) (old new called : LastValue) (a b : Option (List HandedDatagram)) → IsWithin policy old → new ≡ repeated policy now old
    → RepeatsIf t policy old called a → Grows (repeat_of legs.Calling now old) a b → RepeatsIf t policy new called b
calling_again t policy now old new called a b within is repeats grows =
    subst (λ (x : LastValue). RepeatsIf t policy x called b) (sym is)
    (calling_back t policy (repeated policy now old) called b
    (again_on (has_come old.due now) t legs.Calling (length (gaps policy) + 1) (due_after policy now (old.sends + 1)) old called a b (calling_first t policy old called a repeats) grows
    (λ come. let w = come_within policy now old within come in omega (arith, w.1))))

called_again : (t : Bool) (policy : RepeatPolicy) (now : ℕ) (old new calling : LastValue) (a b : Option (List HandedDatagram)) → IsWithin policy old → new ≡ repeated policy now old
    → RepeatsIf t policy calling old a → Grows (repeat_of legs.Called now old) a b → RepeatsIf t policy calling new b
called_again t policy now old new calling a b within is repeats grows =
    subst (λ (x : LastValue). RepeatsIf t policy calling x b) (sym is)
    (called_back t policy calling (repeated policy now old) b
    (again_on (has_come old.due now) t legs.Called (length (gaps policy) + 1) (due_after policy now (old.sends + 1)) old calling a b (called_first t policy calling old a repeats) grows
    (λ come. let w = come_within policy now old within come in omega (arith, w.1))))

pub both_again :
    (t : Bool) (policy : RepeatPolicy) (now : ℕ) (calling called new_calling new_called : LastValue) (a b c : Option (List HandedDatagram))
    → IsWithin policy calling → IsWithin policy called → new_calling ≡ repeated policy now calling → new_called ≡ repeated policy now called → RepeatsIf t policy calling called a
    → Grows (repeat_of legs.Calling now calling) a b → Grows (repeat_of legs.Called now called) b c → RepeatsIf t policy new_calling new_called c
both_again t policy now calling called new_calling new_called a b c first second is also repeats grows more =
    called_again t policy now called new_called new_calling b c second also (calling_again t policy now calling new_calling called a b first is repeats grows) more

pub told_both :
    (t : Bool) (policy : RepeatPolicy) (now : ℕ) (calling called new_calling : LastValue) (a b c : Option (List HandedDatagram))
    → IsWithin policy calling → IsWithin policy called → new_calling ≡ repeated policy now calling → RepeatsIf t policy calling called a
    → Grows (repeat_of legs.Calling now calling) a b → Grows (repeat_of legs.Called now called) b c → Grows [] (told_if t a) (told_if t c)
told_both t policy now calling called new_calling a b c first second is repeats grows more =
    grows_none (told_if t a) (told_if t b) (told_if t c)
    (told_again (has_come calling.due now) t legs.Calling (length (gaps policy) + 1) calling called a b (calling_first t policy calling called a repeats) grows
    (λ come. let w = come_within policy now calling first come in w.0))
    (told_again (has_come called.due now) t legs.Called (length (gaps policy) + 1) called new_calling b c
    (called_first t policy new_calling called b (calling_again t policy now calling new_calling called a b first is repeats grows)) more
    (λ come. let w = come_within policy now called second come in w.0))
