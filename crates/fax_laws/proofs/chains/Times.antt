-- What is timely is near.
use Rattle.std.proofs.Common.{◌≡◌, ℕ, suc, ◌+◌, ◌-◌, ◌*◌, ◌<◌, ◌≤◌, max, nat_le, Bool, true, false, List, [], ◌∷◌, length, reverse, slice_get, Option, Some, None, ◌⊎◌, inl, inr, refl, ◌∙◌, subst, arith}
use Rattle.std.proofs.lemmas.Grind.{reverse_onto}
use Rattle.std.proofs.lemmas.List.{length-reverse}
use Rattle.std.proofs.lemmas.Option.{slice_get_within}
use Rattle.fax_jobs.specs.Jobs.{JobValue}
use Rattle.fax_call.specs.Writings.{Writing}
use Rattle.fax_gateway.specs.Setups.{Setup}
use Rattle.fax_gateway.specs.Events.{Event, Ring, FromCalling, FromCalled, Tick, Placed, clock}
use Rattle.fax_gateway.specs.Apart.{DatagramsAreApart, IsApart, LastGiven, if_given, last_given}
use Rattle.fax_gateway.specs.BothLegs.{begins_next, book_of, both_legs, in_tick}
use Rattle.fax_gateway.specs.Traces.{IsTrace}
use Rattle.fax_laws.specs.chains.Given.{in_call}
use Rattle.fax_laws.specs.chains.Links.{AreNear, greatest}
use Rattle.fax_laws.specs.chains.Times.{AreTimely, Follows, IsSoon, TimelyAreNear, at_if, moments_given, moments_heard}
use Rattle.fax_laws.proofs.chains.Given.{last_or_before, none_some}

-- ---- THE MOMENTS of a call stand 40 ms apart
abbrev AreApart : List ℕ → Type 0
AreApart [] = Unit {0}
AreApart (now ∷ []) = Unit {0}
AreApart (now ∷ last ∷ earlier) = (last + 40 ≤ now) × AreApart (last ∷ earlier)

-- the newest of them is that of the datagram given last
abbrev IsNewest : List ℕ → Option LastGiven → Type 0
IsNewest [] o = Unit {0}
IsNewest (now ∷ earlier) None = ⊥
IsNewest (now ∷ earlier) (Some last) = last.at ≡ now

record Moments (moments : List ℕ) (o : Option LastGiven) : Type 0 where
  apart : AreApart moments
  newest : IsNewest moments o

begun : (b : Bool) (sending : Option JobValue) (moments : List ℕ) (o : Option LastGiven) → Moments moments o → Moments (in_call b sending moments) o
begun true None moments o m = m
begun true (Some job) moments o m = record { apart = tt; newest = tt }
begun false sending moments o m = m

with_one : (moments : List ℕ) (o : Option LastGiven) (setup : Setup) (now : ℕ) → IsApart setup o now → Moments moments o → AreApart (now ∷ moments)
with_one [] o setup now a m = tt
with_one (last ∷ earlier) None setup now a m = absurd m.newest
with_one (last ∷ earlier) (Some l) setup now a m =
    let same : l.at ≡ last = m.newest in
    let later : l.at + 40 ≤ now = a.0 in (omega arith, m.apart)

given_one : (given : Option (List ℕ)) (now : ℕ) (moments : List ℕ) (o : Option LastGiven) (setup : Setup) → ((octets : List ℕ) → given ≡ Some octets → IsApart setup o now) → Moments moments o → Moments (at_if given now moments) (if_given given now o)
given_one None now moments o setup a m = m
given_one (Some octets) now moments o setup a m = record { apart = with_one moments o setup now (a octets refl) m; newest = refl }

are_apart : DatagramsAreApart → (setup : Setup) (writes : Writing) (trace : List Event) → IsTrace setup writes trace → Moments (moments_given setup writes trace) (last_given (λ g. g.on_called) trace)
are_apart law setup writes [] t = record { apart = tt; newest = tt }
are_apart law setup writes (Ring at number ∷ earlier) t = are_apart law setup writes earlier t.1
are_apart law setup writes (FromCalling octets at decided read ∷ earlier) t = are_apart law setup writes earlier t.1
are_apart law setup writes (FromCalled octets at decided ∷ earlier) t = are_apart law setup writes earlier t.1
are_apart law setup writes (Placed at connected ∷ earlier) t =
    begun true (book_of (both_legs setup writes (Placed at connected ∷ earlier))).sending (moments_given setup writes earlier) (last_given (λ g. g.on_called) earlier) (are_apart law setup writes earlier t.1)
are_apart law setup writes (Tick at given ∷ earlier) t =
    let o : Option LastGiven = last_given (λ g. g.on_called) earlier in
    let moments : List ℕ = in_call (begins_next setup (both_legs setup writes earlier).leg) (book_of (in_tick setup writes earlier at)).sending (moments_given setup writes earlier) in
    given_one given.on_called (max at (clock earlier)) moments o setup (λ octets e. (law setup writes earlier at given octets t).1 e)
    (begun (begins_next setup (both_legs setup writes earlier).leg) (book_of (in_tick setup writes earlier at)).sending (moments_given setup writes earlier) o (are_apart law setup writes earlier t.1))

-- ---- so later places were given later
at_end : (moments : List ℕ) (now : ℕ) (place s : ℕ) → slice_get (reverse (now ∷ moments)) place ≡ Some s → (slice_get (reverse moments) place ≡ Some s) ⊎ ((place ≡ length moments) × (now ≡ s))
at_end moments now place s e = by (last_or_before (reverse moments) now s place (subst (λ (xs : List ℕ). slice_get xs place ≡ Some s) (reverse_onto moments now []) e))
  where
    by : (slice_get (reverse moments) place ≡ Some s) ⊎ ((place ≡ length (reverse moments)) × (now ≡ s)) → (slice_get (reverse moments) place ≡ Some s) ⊎ ((place ≡ length moments) × (now ≡ s))
    by (inl h) = inl h
    by (inr h) = inr (h.0 ∙ length-reverse moments, h.1)

-- up to the newest
record Below (length_before now place s : ℕ) : Type 0 where
  within : place ≤ length_before
  long : s + 40 * (length_before - place) ≤ now

below : (now : ℕ) (moments : List ℕ) (place s : ℕ) → AreApart (now ∷ moments) → slice_get (reverse (now ∷ moments)) place ≡ Some s → Below (length moments) now place s
below now [] place s a e = by (at_end [] now place s e)
  where
    by : (◌≡◌ {A = Option ℕ} None (Some s)) ⊎ ((place ≡ 0) × (now ≡ s)) → Below 0 now place s
    by (inl h) = absurd (none_some s h)
    by (inr h) = let p : place ≡ 0 = h.0 in let q : now ≡ s = h.1 in record { within = omega arith; long = omega arith }
below now (last ∷ earlier) place s a e = by (λ h. below last earlier place s a.1 h) (at_end (last ∷ earlier) now place s e)
  where
    by : (slice_get (reverse (last ∷ earlier)) place ≡ Some s → Below (length earlier) last place s)
        → (slice_get (reverse (last ∷ earlier)) place ≡ Some s) ⊎ ((place ≡ suc (length earlier)) × (now ≡ s)) → Below (suc (length earlier)) now place s
    by older (inl h) =
        let b : Below (length earlier) last place s = older h in
        let w : place ≤ length earlier = b.within in
        let l : s + 40 * (length earlier - place) ≤ last = b.long in
        let more : last + 40 ≤ now = a.0 in record { within = omega arith; long = omega arith }
    by older (inr h) = let p : place ≡ suc (length earlier) = h.0 in let q : now ≡ s = h.1 in record { within = omega arith; long = omega arith }

those_before : (now : ℕ) (moments : List ℕ) → AreApart (now ∷ moments) → AreApart moments
those_before now [] a = tt
those_before now (last ∷ earlier) a = a.1

before : (moments : List ℕ) (p q s t : ℕ) → AreApart moments → slice_get (reverse moments) p ≡ Some s → slice_get (reverse moments) q ≡ Some t → p ≤ q → s + 40 * (q - p) ≤ t
before [] p q s t a e f l = absurd (none_some s e)
before (now ∷ moments) p q s t a e f l = by (λ h g. before moments p q s t (those_before now moments a) h g l) (at_end moments now q t f) (at_end moments now p s e)
  where
    b : Below (length moments) now p s
    b = below now moments p s a e

    by : (slice_get (reverse moments) p ≡ Some s → slice_get (reverse moments) q ≡ Some t → s + 40 * (q - p) ≤ t)
        → (slice_get (reverse moments) q ≡ Some t) ⊎ ((q ≡ length moments) × (now ≡ t)) → (slice_get (reverse moments) p ≡ Some s) ⊎ ((p ≡ length moments) × (now ≡ s)) → s + 40 * (q - p) ≤ t
    by older (inl g) (inl h) = older h g
    by older (inl g) (inr h) =
        let within : q < length (reverse moments) = slice_get_within (reverse moments) q t g in
        let many : length (reverse moments) ≡ length moments = length-reverse moments in
        let p_is : p ≡ length moments = h.0 in absurd (omega (arith, within, many, p_is, l))
    by older (inr g) h =
        let w : p ≤ length moments = b.within in
        let k : s + 40 * (length moments - p) ≤ now = b.long in
        let q_is : q ≡ length moments = g.0 in
        let t_is : now ≡ t = g.1 in omega arith

-- ---- WHAT CAME: the greatest place so far was given soon before the last datagram came
record IsHeld (moments : List ℕ) (place last : ℕ) : Type 0 where
  sent : ℕ
  at_place : slice_get (reverse moments) place ≡ Some sent
  after : sent ≤ last
  soon : last ≤ sent + 1200000

abbrev AreHeld : List ℕ → List ℕ → List ℕ → Type 0
AreHeld moments places [] = Unit {0}
AreHeld moments places (last ∷ heard) = IsHeld moments (greatest places) last

record IsTimely (moments places heard : List ℕ) : Type 0 where
  near : AreNear places
  held : AreHeld moments places heard

held_at : (moments : List ℕ) (m n last : ℕ) → m ≡ n → IsHeld moments m last → IsHeld moments n last
held_at moments m n last e h = subst (λ (x : ℕ). IsHeld moments x last) e h

soon_held : (moments : List ℕ) (place at : ℕ) → IsSoon (reverse moments) place at → IsHeld moments place at
soon_held moments place at s = record { sent = s.sent; at_place = s.at_place; after = s.after; soon = s.soon }

le_of : (m n : ℕ) → nat_le m n ≡ true → m ≤ n
le_of m n h = grind (arith)

lt_of : (m n : ℕ) → nat_le m n ≡ false → n < m
lt_of m n h = grind (arith)

-- one more comes, of a later place or of an earlier one
record Step (moments : List ℕ) (big place at : ℕ) : Type 0 where
  above : place ≤ big + 32767
  below : big ≤ place + 32767
  held : IsHeld moments (max place big) at

step : (moments : List ℕ) (big place last at : ℕ) → AreApart moments → IsHeld moments big last → IsSoon (reverse moments) place at → last ≤ at → at ≤ last + 60000 → Step moments big place at
step moments big place last at a h s follows soon =
    let after_big : h.sent ≤ last = h.after in
    let soon_big : last ≤ h.sent + 1200000 = h.soon in
    let after_place : s.sent ≤ at = s.after in
    let soon_place : at ≤ s.sent + 1200000 = s.soon in
    by (nat_le big place) refl after_big soon_big after_place soon_place
  where
    by : (b : Bool) → nat_le big place ≡ b → h.sent ≤ last → last ≤ h.sent + 1200000 → s.sent ≤ at → at ≤ s.sent + 1200000 → Step moments big place at
    by true e after_big soon_big after_place soon_place =
        let le : big ≤ place = le_of big place e in
        let apart : h.sent + 40 * (place - big) ≤ s.sent = before moments big place h.sent s.sent a h.at_place s.at_place le in
        record { above = omega arith; below = omega arith; held = held_at moments place (max place big) at (omega arith) (soon_held moments place at s) }
    by false e after_big soon_big after_place soon_place =
        let lt : place < big = lt_of big place e in
        let le : place ≤ big = omega arith in
        let apart : s.sent + 40 * (big - place) ≤ h.sent = before moments place big s.sent h.sent a s.at_place h.at_place le in
        record {
          above = omega arith;
          below = omega arith;
          held = held_at moments big (max place big) at (omega arith) (record { sent = h.sent; at_place = h.at_place; after = omega arith; soon = omega arith });
        }

one_more : (moments : List ℕ) (place at : ℕ) (places heard : List ℕ) → AreApart moments → IsSoon (reverse moments) place at → Follows heard at → AreTimely (reverse moments) places heard → IsTimely moments places heard
    → IsTimely moments (place ∷ places) (at ∷ heard)
one_more moments place at [] [] a s f t i = record { near = (tt, tt); held = held_at moments place (max place 0) at (omega arith) (soon_held moments place at s) }
one_more moments place at [] (last ∷ heard) a s f t i = absurd t
one_more moments place at (p ∷ places) [] a s f t i = absurd t
one_more moments place at (p ∷ places) (last ∷ heard) a s f t i =
    let one : Step moments (greatest (p ∷ places)) place at = step moments (greatest (p ∷ places)) place last at a i.held s f.0 f.1 in
    record { near = ((one.above, one.below), i.near); held = one.held }

timely : (moments places heard : List ℕ) → AreApart moments → AreTimely (reverse moments) places heard → IsTimely moments places heard
timely moments [] [] a t = record { near = tt; held = tt }
timely moments [] (at ∷ heard) a t = absurd t
timely moments (place ∷ places) [] a t = absurd t
timely moments (place ∷ places) (at ∷ heard) a t = one_more moments place at places heard a t.0 t.1 t.2 (timely moments places heard a t.2)

pub timely_are_near : DatagramsAreApart → TimelyAreNear
timely_are_near law setup other writes first second places is t =
    (timely (moments_given setup writes first) places (moments_heard other second) (are_apart law setup writes first is).apart t).near
