-- What one more datagram decides, in each of the three cases: it is the first, a later one, or late.
use Rattle.std.proofs.Common.{◌≡◌, ℕ, zero, suc, ◌+◌, ◌-◌, ◌%◌, ◌<◌, ◌≤◌, Bool, true, false, nat_le, is_some, List, [], ◌∷◌, ◌++◌, length, map, reverse, take, replicate, Option, Some, None, Ok, refl, sym, ◌∙◌, ap, arith, append_assoc, if◌then◌else◌}
use Rattle.std.specs.Prelude.{filter_map, slice_get}
use Rattle.std.specs.List.{cons_option}
use Rattle.std.proofs.lemmas.List.{map-append}
use Rattle.std.proofs.lemmas.Grind.{reverse_onto}
use Rattle.fax_udptl.specs.Datagrams.{DatagramValue, datagram_of}
use Rattle.fax_udptl.specs.Slots.{nearest, IsNearest, greatest, integer_after, said_of, decision, first_slot, integers_from, slots}
use Rattle.fax_udptl.specs.Taking.{IsAfter, DecidedValue, Decides, Takes}
use Rattle.fax_udptl.proofs.SlotLemmas.{slots_go_on, decided_below, is_nearest}

Slots : Type 0
Slots = List (Option (List ℕ))

-- what a list has at n - 1, n - 2 and so on down to 0
abbrev downs : List (List ℕ) → ℕ → List (Option (List ℕ))
downs xs zero = []
downs xs (suc n) = slice_get xs n ∷ downs xs n

-- the last of these is the first of the list
last_down : (p : List ℕ) (ss : List (List ℕ)) (n : ℕ) → downs (p ∷ ss) (suc n) ≡ downs ss n ++ Some p ∷ []
last_down p ss zero = refl
last_down p ss (suc n) = ap (λ (rest : List (Option (List ℕ))). slice_get ss n ∷ rest) (last_down p ss n)

missing : ℕ → List (Option (List ℕ))
missing n = replicate n None

there : List (List ℕ) → List (Option (List ℕ))
there packets = map Some packets

none_ahead : (ss : List (List ℕ)) → zero - length ss ≡ zero
none_ahead ss = omega arith

more_missing : (n : ℕ) → missing (suc n - 0) ≡ None ∷ missing (n - 0)
unfolding missing
more_missing n = ap (λ (m : ℕ). replicate m None) (let e : suc n - 0 ≡ suc (n - 0) = omega arith in e)

none_taken : (n : ℕ) → take {A = List ℕ} n [] ≡ []
none_taken zero = refl
none_taken (suc n) = refl

downs_are : (ss : List (List ℕ)) (n : ℕ) → downs ss n ≡ missing (n - length ss) ++ there (reverse (take n ss))
unfolding missing there
downs_are ss zero = sym (ap (λ (m : ℕ). replicate {A = Option (List ℕ)} m None ++ []) (none_ahead ss))
downs_are [] (suc n) =
    ap (λ (rest : List (Option (List ℕ))). None ∷ rest) (downs_are [] n)
    ∙ ap (λ (packets : List (List ℕ)). None ∷ (missing (n - 0) ++ there (reverse packets))) (none_taken n)
    ∙ sym (ap (λ (rest : List (Option (List ℕ))). rest ++ []) (more_missing n))
downs_are (s ∷ ss) (suc n) =
    last_down s ss n
    ∙ ap (λ (rest : List (Option (List ℕ))). rest ++ Some s ∷ []) (downs_are ss n)
    ∙ append_assoc (missing (n - length ss)) (there (reverse (take n ss))) (Some s ∷ [])
    ∙ ap (λ (rest : List (Option (List ℕ))). missing (n - length ss) ++ rest)
    (sym (map-append (λ (x : List ℕ). Some x) (reverse (take n ss)) (s ∷ [])) ∙ ap there (sym (reverse_onto (take n ss) s [])))
    ∙ ap (λ (m : ℕ). missing m ++ there (reverse (s ∷ take n ss))) (let e : n - length ss ≡ suc n - suc (length ss) = omega arith in e)

-- a datagram decides what it says of the slots up to its integer
undecided : (s : Option (Option (List ℕ))) (b : Bool) (t : Option (List ℕ)) → is_some s ≡ false → b ≡ true → (if is_some s then s else if b then Some t else None) ≡ Some t
undecided None true t h l = refl
undecided None false t h l = cc
undecided (Some s) b t h l = cc

le_true : (k n : ℕ) → k ≤ n → nat_le k n ≡ true
le_true k n h = grind (arith)

le_false : (k n : ℕ) → n < k → nat_le k n ≡ false
le_false k n h = grind (arith)

by_it : (d : DatagramValue) (earlier : List DatagramValue) (k : ℕ) → is_some (decision earlier k) ≡ false → k ≤ integer_after earlier d
    → decision (d ∷ earlier) k ≡ Some (said_of (integer_after earlier d) d k)
by_it d earlier k h l =
    undecided (decision earlier k) (nat_le k (integer_after earlier d)) (said_of (integer_after earlier d) d k) h (le_true k (integer_after earlier d) l)

said_down : (d : DatagramValue) (earlier : List DatagramValue) (n a : ℕ) → a + n ≡ integer_after earlier d + 1
    → ((k : ℕ) → a ≤ k → is_some (decision earlier k) ≡ false)
    → filter_map (decision (d ∷ earlier)) (integers_from a n) ≡ downs (d.primary ∷ d.secondaries) n
said_down d earlier zero a e free = refl
said_down d earlier (suc n) a e free =
    let within : a ≤ integer_after earlier d = omega arith in
    let place : integer_after earlier d - a ≡ n = omega arith in
    let next : a + 1 + n ≡ integer_after earlier d + 1 = omega arith in
    ap (λ (o : Option (Option (List ℕ))). cons_option o (filter_map (decision (d ∷ earlier)) (integers_from (a + 1) n)))
    (by_it d earlier a (free a (omega arith)) within)
    ∙ ap (λ (m : ℕ). slice_get (d.primary ∷ d.secondaries) m ∷ filter_map (decision (d ∷ earlier)) (integers_from (a + 1) n)) place
    ∙ ap (λ (rest : List (Option (List ℕ))). slice_get (d.primary ∷ d.secondaries) n ∷ rest)
    (said_down d earlier n (a + 1) next (λ k l. free k (omega arith)))

-- what the datagram says of the last n + 1 slots up to its integer
last_slots : (d : DatagramValue) (n : ℕ) → downs (d.primary ∷ d.secondaries) (suc n) ≡ missing (n - length d.secondaries) ++ there (reverse (take n d.secondaries) ++ d.primary ∷ [])
unfolding missing there
last_slots d n =
    last_down d.primary d.secondaries n
    ∙ ap (λ (rest : List (Option (List ℕ))). rest ++ Some d.primary ∷ []) (downs_are d.secondaries n)
    ∙ append_assoc (missing (n - length d.secondaries)) (there (reverse (take n d.secondaries))) (Some d.primary ∷ [])
    ∙ ap (λ (rest : List (Option (List ℕ))). missing (n - length d.secondaries) ++ rest) (sym (map-append (λ (x : List ℕ). Some x) (reverse (take n d.secondaries)) (d.primary ∷ [])))

-- every integer is at least 65,536, so that what is expected is more
pub from_the_first : (e : DatagramValue) (earlier : List DatagramValue) → 65536 ≤ greatest (e ∷ earlier)
from_the_first e [] = omega arith
from_the_first e (f ∷ earlier) = let h : 65536 ≤ greatest (f ∷ earlier) = from_the_first f earlier in omega arith

free_past : (e : DatagramValue) (earlier : List DatagramValue) (k : ℕ) → greatest (e ∷ earlier) + 1 ≤ k → is_some (decision (e ∷ earlier) k) ≡ false
free_past e earlier k l = decided_below e earlier k ∙ le_false k (greatest (e ∷ earlier)) (omega arith)

all_taken : (ss : List (List ℕ)) → take (length ss) ss ≡ ss
all_taken [] = refl
all_taken (s ∷ ss) = ap (λ (rest : List (List ℕ)). s ∷ rest) (all_taken ss)

-- the first datagram decides all that it has
first_slots : (d : DatagramValue) → length d.secondaries ≤ 65536 → slots (d ∷ []) ≡ there (reverse d.secondaries ++ d.primary ∷ [])
unfolding slots missing there
first_slots d l =
    let n : ℕ = length d.secondaries in
    let f : ℕ = first_slot (d ∷ []) in
    let count : 65536 + d.number + 1 - f ≡ suc n = omega arith in
    let end : f + suc n ≡ 65536 + d.number + 1 = omega arith in
    ap (λ (m : ℕ). filter_map (decision (d ∷ [])) (integers_from f m)) count
    ∙ said_down d [] (suc n) f end (λ k _. refl)
    ∙ last_slots d n
    ∙ ap (λ (m : ℕ). replicate {A = Option (List ℕ)} m None ++ there (reverse (take n d.secondaries) ++ d.primary ∷ [])) (let z : n - n ≡ 0 = omega arith in z)
    ∙ ap (λ (ss : List (List ℕ)). there (reverse ss ++ d.primary ∷ [])) (all_taken d.secondaries)

-- a later one decides the slots from the expected one to its own
later_slots : (d e : DatagramValue) (earlier : List DatagramValue) (ahead : ℕ) → nearest (greatest (e ∷ earlier) + 1) d.number ≡ greatest (e ∷ earlier) + 1 + ahead
    → slots (d ∷ e ∷ earlier) ≡ slots (e ∷ earlier) ++ (missing (ahead - length d.secondaries) ++ there (reverse (take ahead d.secondaries) ++ d.primary ∷ []))
later_slots d e earlier ahead h =
    let g : ℕ = greatest (e ∷ earlier) in
    let count : greatest (d ∷ e ∷ earlier) - g ≡ suc ahead = omega arith in
    let end : g + 1 + suc ahead ≡ integer_after (e ∷ earlier) d + 1 = omega arith in
    slots_go_on d e earlier
    ∙ ap (λ (more : List (Option (List ℕ))). slots (e ∷ earlier) ++ more)
    (ap (λ (m : ℕ). filter_map (decision (d ∷ e ∷ earlier)) (integers_from (g + 1) m)) count
    ∙ said_down d (e ∷ earlier) (suc ahead) (g + 1) end (free_past e earlier)
    ∙ last_slots d ahead)

-- a late one decides nothing
late_slots : (d e : DatagramValue) (earlier : List DatagramValue) → nearest (greatest (e ∷ earlier) + 1) d.number < greatest (e ∷ earlier) + 1
    → slots (d ∷ e ∷ earlier) ≡ slots (e ∷ earlier) ++ []
late_slots d e earlier h =
    let g : ℕ = greatest (e ∷ earlier) in
    let count : greatest (d ∷ e ∷ earlier) - g ≡ 0 = omega arith in
    slots_go_on d e earlier
    ∙ ap (λ (m : ℕ). slots (e ∷ earlier) ++ filter_map (decision (d ∷ e ∷ earlier)) (integers_from (g + 1) m)) count

-- The same of a receiver and of the answer.
abbrev pub first_answer : DatagramValue → DecidedValue
first_answer d = record { from = (65536 + d.number - length d.secondaries) % 65536; lost = 0; packets = reverse d.secondaries ++ d.primary ∷ [] }

abbrev pub later_answer : ℕ → ℕ → DatagramValue → DecidedValue
later_answer expected ahead d = record { from = expected; lost = ahead - length d.secondaries; packets = reverse (take ahead d.secondaries) ++ d.primary ∷ [] }

abbrev pub late_answer : ℕ → DecidedValue
late_answer expected = record { from = expected; lost = 0; packets = [] }

abbrev Follows : List DatagramValue → DatagramValue → Option ℕ → DecidedValue → Type 0
Follows arrived d expected decided = IsAfter (d ∷ arrived) expected × Decides arrived d decided

number_of : (m n : ℕ) → m ≡ n → ◌≡◌ {A = Option ℕ} (Some m) (Some n)
number_of m n e = ap (λ (k : ℕ). let o : Option ℕ = Some k in o) e

first_follows : (arrived : List DatagramValue) (d : DatagramValue) (old : Option ℕ) → length d.secondaries ≤ 65536 → old ≡ None → IsAfter arrived old
    → Follows arrived d (Some ((d.number + 1) % 65536)) (first_answer d)
unfolding there slots
first_follows [] d old l none after = (
  number_of ((d.number + 1) % 65536) ((65536 + d.number + 1) % 65536) (omega arith),
  record { from = refl; slots = first_slots d l },
)
first_follows (e ∷ earlier) d old l none after = cc

later_follows : (arrived : List DatagramValue) (d : DatagramValue) (old : Option ℕ) (expected ahead : ℕ) → d.number < 65536 → old ≡ Some expected
    → ((e : ℕ) → 65536 ≤ e → e % 65536 ≡ expected → nearest e d.number ≡ e + ahead) → IsAfter arrived old
    → Follows arrived d (Some ((d.number + 1) % 65536)) (later_answer expected ahead d)
unfolding missing there
later_follows [] d old expected ahead n some near after = cc
later_follows (e ∷ earlier) d old expected ahead n some near after =
    let g : ℕ = greatest (e ∷ earlier) in
    let big : 65536 ≤ g = from_the_first e earlier in
    let same : expected ≡ (g + 1) % 65536 = cc in
    let h : nearest (g + 1) d.number ≡ g + 1 + ahead = near (g + 1) (omega arith) (sym same) in
    let is : IsNearest (g + 1) d.number (nearest (g + 1) d.number) = is_nearest (g + 1) d.number (omega arith) n in
    let agrees : nearest (g + 1) d.number % 65536 ≡ d.number = is.agrees in
    let top : greatest (d ∷ e ∷ earlier) ≡ nearest (g + 1) d.number = omega arith in (
      number_of ((d.number + 1) % 65536) ((greatest (d ∷ e ∷ earlier) + 1) % 65536) (omega arith),
      record { from = same; slots = later_slots d e earlier ahead h },
    )

late_follows : (arrived : List DatagramValue) (d : DatagramValue) (old : Option ℕ) (expected : ℕ) → old ≡ Some expected
    → ((e : ℕ) → 65536 ≤ e → e % 65536 ≡ expected → nearest e d.number < e) → IsAfter arrived old
    → Follows arrived d old (late_answer expected)
late_follows [] d old expected some near after = cc
late_follows (e ∷ earlier) d old expected some near after =
    let g : ℕ = greatest (e ∷ earlier) in
    let big : 65536 ≤ g = from_the_first e earlier in
    let same : expected ≡ (g + 1) % 65536 = cc in
    let h : nearest (g + 1) d.number < g + 1 = near (g + 1) (omega arith) (sym same) in
    let top : greatest (d ∷ e ∷ earlier) ≡ g = omega arith in (
      after ∙ number_of ((g + 1) % 65536) ((greatest (d ∷ e ∷ earlier) + 1) % 65536) (ap (λ (m : ℕ). (m + 1) % 65536) (sym top)),
      record { from = same; slots = late_slots d e earlier h },
    )

pub first_taken : (octets : List ℕ) (d : DatagramValue) (old : Option ℕ) (decided : DecidedValue) → datagram_of octets ≡ Ok d → old ≡ None
    → length d.secondaries < 65536 → decided ≡ first_answer d → Takes octets old (Some ((d.number + 1) % 65536)) decided
first_taken octets d old decided is none few made =
    let all : (arrived : List DatagramValue) → IsAfter arrived old → Follows arrived d (Some ((d.number + 1) % 65536)) decided =
    λ arrived after. rw made (first_follows arrived d old (omega arith) none after) in
    record { datagram = d; is = is; after = λ arrived after. (all arrived after).0; decides = λ arrived after. (all arrived after).1 }

pub later_taken : (octets : List ℕ) (d : DatagramValue) (old : Option ℕ) (expected ahead : ℕ) (decided : DecidedValue) → datagram_of octets ≡ Ok d → old ≡ Some expected
    → d.number < 65536 → ((e : ℕ) → 65536 ≤ e → e % 65536 ≡ expected → nearest e d.number ≡ e + ahead) → decided ≡ later_answer expected ahead d
    → Takes octets old (Some ((d.number + 1) % 65536)) decided
later_taken octets d old expected ahead decided is some fits near made =
    let all : (arrived : List DatagramValue) → IsAfter arrived old → Follows arrived d (Some ((d.number + 1) % 65536)) decided =
    λ arrived after. rw made (later_follows arrived d old expected ahead fits some near after) in
    record { datagram = d; is = is; after = λ arrived after. (all arrived after).0; decides = λ arrived after. (all arrived after).1 }

pub late_taken : (octets : List ℕ) (d : DatagramValue) (old : Option ℕ) (expected : ℕ) (decided : DecidedValue) → datagram_of octets ≡ Ok d → old ≡ Some expected
    → ((e : ℕ) → 65536 ≤ e → e % 65536 ≡ expected → nearest e d.number < e) → decided ≡ late_answer expected → Takes octets old old decided
late_taken octets d old expected decided is some near made =
    let all : (arrived : List DatagramValue) → IsAfter arrived old → Follows arrived d old decided =
    λ arrived after. rw made (late_follows arrived d old expected some near after) in
    record { datagram = d; is = is; after = λ arrived after. (all arrived after).0; decides = λ arrived after. (all arrived after).1 }
