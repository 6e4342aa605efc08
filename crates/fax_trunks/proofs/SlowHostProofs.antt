-- What is remembered of a host.
use Rattle.std.proofs.Common.{◌≡◌, ℕ, Bool, true, false, ◌&&◌, not, nat_eq, nat_lt, if◌then◌else◌, cond, List, [], ◌∷◌, ◌++◌, length, drop, Option, None, Some, refl, ap, sym, subst, ◌∙◌, eq-eqb, true≢false}
use Rattle.std.proofs.lemmas.Bool.{eqb-true}
use Rattle.std.specs.Prelude.{filter, find}
use Rattle.fax_trunks.specs.declared.host.Family.{Family}
use Rattle.fax_trunks.specs.declared.host.Family.TheVariants.{Four, Six}
use Rattle.fax_trunks.specs.declared.host.Host.{Host}
use Rattle.fax_trunks.specs.declared.slow_host.SlowHost.{SlowHost}
use Rattle.fax_trunks.specs.Hosts.{is_same}
use Rattle.fax_trunks.specs.SlowHosts.{is_of, is_one, pause_after, slow_of, slowed, with_room, without}
use Rattle.fax_trunks.specs.SlowHostLaws.{FailureIsRemembered, FailureKeepsOthers, SuccessIsForgotten, SuccessKeepsOthers}
use Rattle.fax_trunks.proofs.Choices.{lt_true}

-- none of a list passes a test
abbrev pub NonePasses : (SlowHost → Bool) → List SlowHost → Type 0
NonePasses test [] = Unit {0}
NonePasses test (slow ∷ hosts) = (test slow ≡ false) × NonePasses test hosts

filter_step : (test : SlowHost → Bool) (slow : SlowHost) (hosts : List SlowHost) (b : Bool) → test slow ≡ b → NonePasses test hosts → NonePasses test (cond (not b) (slow ∷ hosts) hosts)
filter_step test slow hosts true e none = none
filter_step test slow hosts false e none = (e, none)

pub others_pass_not : (test : SlowHost → Bool) (hosts : List SlowHost) → NonePasses test (filter (λ slow. not (test slow)) hosts)
others_pass_not test [] = tt
others_pass_not test (slow ∷ hosts) = filter_step test slow (filter (λ slow. not (test slow)) hosts) (test slow) refl (others_pass_not test hosts)

pub found_last : (test : SlowHost → Bool) (hosts : List SlowHost) (last : SlowHost) → NonePasses test hosts → test last ≡ true → find test (hosts ++ last ∷ []) ≡ Some last
found_last test [] last none e = ap (λ (b : Bool). cond b (Some last) None) e
found_last test (slow ∷ hosts) last none e = ap (λ (b : Bool). cond b (Some slow) (find test (hosts ++ last ∷ []))) none.0 ∙ found_last test hosts last none.1 e

pub found_none : (test : SlowHost → Bool) (hosts : List SlowHost) → NonePasses test hosts → find test hosts ≡ None
found_none test [] none = refl
found_none test (slow ∷ hosts) none = ap (λ (b : Bool). cond b (Some slow) (find test hosts)) none.0 ∙ found_none test hosts none.1

pub room_passes_not : (test : SlowHost → Bool) (b : Bool) (hosts : List SlowHost) → NonePasses test hosts → NonePasses test (if b then hosts else drop 1 hosts)
room_passes_not test true hosts none = none
room_passes_not test false [] none = tt
room_passes_not test false (slow ∷ hosts) none = none.1

same_family : (family : Family) → is_same family family ≡ true
same_family Four = refl
same_family Six = refl

is_itself_one : (host : Host) → is_one host host ≡ true
is_itself_one host = ap (λ (b : Bool). b && nat_eq host.bits host.bits) (same_family host.family) ∙ eq-eqb host.bits host.bits refl

is_itself : (host : Host) (now pause : ℕ) → is_of host (slowed host now pause) ≡ true
is_itself host now pause = is_itself_one host

pub failure_is_remembered : FailureIsRemembered
failure_is_remembered hosts host now =
    found_last (is_of host) (with_room (without hosts host)) (slowed host now (pause_after (slow_of hosts host)))
    (room_passes_not (is_of host) (nat_lt (length (without hosts host)) 256) (without hosts host) (others_pass_not (is_of host) hosts)) (is_itself host now (pause_after (slow_of hosts host)))

pub success_is_forgotten : SuccessIsForgotten
success_is_forgotten hosts host = found_none (is_of host) (without hosts host) (others_pass_not (is_of host) hosts)

-- ---- others

-- a test that is false wherever another is true
abbrev pub AreApart : (SlowHost → Bool) → (SlowHost → Bool) → Type 0
AreApart test other = (slow : SlowHost) → other slow ≡ true → test slow ≡ false

other_step : (test other : SlowHost → Bool) (slow : SlowHost) (hosts filtered : List SlowHost) (a b : Bool) → test slow ≡ a → other slow ≡ b → (b ≡ true → a ≡ false)
    → find other filtered ≡ find other hosts → find other (cond (not a) (slow ∷ filtered) filtered) ≡ cond b (Some slow) (find other hosts)
other_step test other slow hosts filtered true true e f none same = absurd (true≢false (none refl))
other_step test other slow hosts filtered true false e f none same = same
other_step test other slow hosts filtered false true e f none same = ap (λ (c : Bool). cond c (Some slow) (find other filtered)) f
other_step test other slow hosts filtered false false e f none same = ap (λ (c : Bool). cond c (Some slow) (find other filtered)) f ∙ same

pub found_among_others : (test other : SlowHost → Bool) (hosts : List SlowHost) → AreApart test other → find other (filter (λ slow. not (test slow)) hosts) ≡ find other hosts
found_among_others test other [] are = refl
found_among_others test other (slow ∷ hosts) are =
    other_step test other slow hosts (filter (λ slow. not (test slow)) hosts) (test slow) (other slow) refl refl (are slow) (found_among_others test other hosts are)

last_step : (test : SlowHost → Bool) (slow : SlowHost) (b : Bool) (x y : Option SlowHost) → x ≡ y → cond b (Some slow) x ≡ cond b (Some slow) y
last_step test slow b x y e = ap (λ (o : Option SlowHost). cond b (Some slow) o) e

pub found_before_last : (test : SlowHost → Bool) (hosts : List SlowHost) (last : SlowHost) → test last ≡ false → find test (hosts ++ last ∷ []) ≡ find test hosts
found_before_last test [] last e = ap (λ (b : Bool). cond b (Some last) None) e
found_before_last test (slow ∷ hosts) last e = last_step test slow (test slow) (find test (hosts ++ last ∷ [])) (find test hosts) (found_before_last test hosts last e)

abbrev host_with : Family → ℕ → Host
host_with family bits = record { family = family; bits = bits }

-- hosts that are one are equal
one_bits : (f g : Family) (m n : ℕ) → (is_same f g && nat_eq m n) ≡ true → host_with f m ≡ host_with g n
one_bits Four Four m n e = ap (host_with Four) (eqb-true m n e)
one_bits Six Six m n e = ap (host_with Six) (eqb-true m n e)
one_bits Four Six m n e = absurd (true≢false (sym e))
one_bits Six Four m n e = absurd (true≢false (sym e))

pub one_equal : (host other : Host) → is_one host other ≡ true → host ≡ other
one_equal host other e = one_bits host.family other.family host.bits other.bits e

refuted : (b : Bool) → (b ≡ true → ⊥) → b ≡ false
refuted true none = absurd (none refl)
refuted false none = refl

pub others_apart : (host other : Host) → is_one other host ≡ false → AreApart (is_of host) (is_of other)
others_apart host other apart slow e =
    let same : other ≡ slow.host = one_equal other slow.host e in
    refuted (is_of host slow) (λ f. true≢false (sym (is_itself_one host) ∙ subst (λ (h : Host). is_one h host ≡ false) (same ∙ sym (one_equal host slow.host f)) apart))

pub failure_keeps_others : FailureKeepsOthers
failure_keeps_others hosts host other now apart room =
    found_before_last (is_of other) (with_room (without hosts host)) (slowed host now (pause_after (slow_of hosts host))) apart
    ∙ (ap (λ (b : Bool). find (is_of other) (if b then without hosts host else drop 1 (without hosts host))) (lt_true (length (without hosts host)) 256 room)
    ∙ found_among_others (is_of host) (is_of other) hosts (others_apart host other apart))

pub success_keeps_others : SuccessKeepsOthers
success_keeps_others hosts host other apart = found_among_others (is_of host) (is_of other) hosts (others_apart host other apart)
