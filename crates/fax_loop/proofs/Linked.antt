-- Datagrams that were written of the packets that were given, and were read, are an honest schedule of these.
use Rattle.std.proofs.Common.{◌≡◌, ℕ, zero, suc, ◌+◌, ◌≤◌, ◌<◌, ◌⊎◌, inl, inr, List, [], ◌∷◌, ◌++◌, length, reverse, Result, Ok, refl, sym, ◌∙◌, ap, subst, arith, length-append, slice_index_or}
use Rattle.std.specs.Prelude.{All, Contains}
use Rattle.std.proofs.lemmas.List.Elements.{All-head, All-tail}
use Rattle.fax_udptl.specs.declared.fault.UdptlFault.{UdptlFault}
use Rattle.fax_udptl.specs.Datagrams.{DatagramValue, datagram_of}
use Rattle.fax_udptl.specs.Schedules.{Arrival, IsNear, IsSentAt, greatest_place}
use Rattle.fax_udptl.specs.Sending.{AreShort, datagram_for}
use Rattle.fax_udptl.proofs.Honest.{senders_send_their_list}
use Rattle.fax_gateway.specs.Setups.{Setup}
use Rattle.fax_gateway.specs.Legs.{sent}
use Rattle.fax_gateway.proofs.Fitting.{sent_back}
use Rattle.fax_loop.specs.Faithful.{AreCarried}
use Rattle.fax_loop.specs.Links.{most_near}
use Rattle.fax_terminal.specs.Terminals.{datagrams_of}

-- ---- datagrams among others
abbrev pub IsIn : List (List ℕ) → List ℕ → Type 0
IsIn [] octets = ⊥
IsIn (first ∷ others) octets = (first ≡ octets) ⊎ IsIn others octets

abbrev pub AreIn : List (List ℕ) → List (List ℕ) → Type 0
AreIn others [] = Unit {0}
AreIn others (octets ∷ more) = IsIn others octets × AreIn others more

at_index : (others : List (List ℕ)) (octets : List ℕ) (k : ℕ) → k < length others → slice_index_or others k octets ≡ octets → IsIn others octets
at_index [] octets k l e = absurd (omega (arith, l))
at_index (first ∷ others) octets zero l e = inl e
at_index (first ∷ others) octets (suc k) l e = inr (at_index others octets k (omega arith) e)

pub are_in : (others more : List (List ℕ)) → All (Contains others) more → AreIn others more
are_in others [] a = tt
are_in others (octets ∷ more) a =
    let c : Contains others octets = All-head (Contains others) octets more a in
    (at_index others octets c.0 c.1 c.2, are_in others more (All-tail (Contains others) octets more a))

pub in_both : (others xs ys : List (List ℕ)) → AreIn others (xs ++ ys) → AreIn others xs × AreIn others ys
in_both others [] ys a = (tt, a)
in_both others (x ∷ xs) ys a = let b = in_both others xs ys a.1 in ((a.0, b.0), b.1)

-- ---- a datagram that a sender made of a packet
record IsMade (setup : Setup) (given : List (List ℕ)) (octets : List ℕ) : Type 0 where
  later : List (List ℕ)
  packet : List ℕ
  older : List (List ℕ)
  given_is : given ≡ later ++ packet ∷ older
  octets_are : sent setup older packet ≡ octets

is_made : (setup : Setup) (given : List (List ℕ)) (octets : List ℕ) → IsIn (datagrams_of setup given) octets → IsMade setup given octets
is_made setup [] octets i = absurd i
is_made setup (packet ∷ older) octets (inl e) = record { later = []; packet = packet; older = older; given_is = refl; octets_are = e }
is_made setup (packet ∷ older) octets (inr i) =
    let m : IsMade setup older octets = is_made setup older octets i in
    record { later = packet ∷ m.later; packet = m.packet; older = m.older; given_is = ap (λ (xs : List (List ℕ)). packet ∷ xs) m.given_is; octets_are = m.octets_are }

after_short : (later more : List (List ℕ)) → AreShort (later ++ more) → AreShort more
after_short [] more s = s
after_short (x ∷ later) more s = after_short later more s.1

same_read : (r : Result DatagramValue UdptlFault) (d e : DatagramValue) → r ≡ Ok d → r ≡ Ok e → d ≡ e
same_read r d e a b = cc

within_all : (later : List (List ℕ)) (packet : List ℕ) (older given : List (List ℕ)) → given ≡ later ++ packet ∷ older → length older < length given
within_all later packet older given e =
    let l : length (later ++ packet ∷ older) ≡ length later + length (packet ∷ older) = length-append later (packet ∷ older) in
    let m : length given ≡ length (later ++ packet ∷ older) = ap (λ (xs : List (List ℕ)). length xs) e in omega arith

-- where it is read it is one of the sender's
record IsPlaced (given : List (List ℕ)) (d : DatagramValue) : Type 0 where
  place : ℕ
  sent_at : IsSentAt (reverse given) place d
  within : place < length given

is_placed : (setup : Setup) (given : List (List ℕ)) (octets : List ℕ) (d : DatagramValue) → AreShort given → IsMade setup given octets → datagram_of octets ≡ Ok d → IsPlaced given d
is_placed setup given octets d short m read =
    let made : DatagramValue = datagram_for setup.redundancy m.older m.packet in
    let own : AreShort (m.packet ∷ m.older) = after_short m.later (m.packet ∷ m.older) (subst AreShort m.given_is short) in
    let back : datagram_of (sent setup m.older m.packet) ≡ Ok made = sent_back setup m.older m.packet own.1 own.0 in
    let is : made ≡ d = same_read (datagram_of (sent setup m.older m.packet)) made d back (ap datagram_of m.octets_are ∙ read) in
    record {
      place = length m.older;
      sent_at =
          subst (λ (x : DatagramValue). IsSentAt (reverse given) (length m.older) x) is
          (subst (λ (xs : List (List ℕ)). IsSentAt (reverse xs) (length m.older) made) (sym m.given_is) (senders_send_their_list setup.redundancy m.later m.packet m.older setup.few));
      within = within_all m.later m.packet m.older given m.given_is;
    }

-- ---- all that came
pub record IsReadOf (others : List (List ℕ)) (d : DatagramValue) : Type 0 where
  pub octets : List ℕ
  pub among : IsIn others octets
  pub read : datagram_of octets ≡ Ok d

abbrev pub AreReadOf : List (List ℕ) → List DatagramValue → Type 0
AreReadOf others [] = Unit {0}
AreReadOf others (d ∷ arrived) = IsReadOf others d × AreReadOf others arrived

near : (arrivals : List Arrival) (place : ℕ) → place ≤ 32767 → greatest_place arrivals ≤ 32767 → IsNear arrivals place
near [] place a b = tt
near (x ∷ arrivals) place a b = (omega arith, omega arith)

record CarriesRounds (given : List (List ℕ)) (arrived : List DatagramValue) : Type 0 where
  carried : AreCarried given arrived
  low : greatest_place carried.arrivals ≤ 32767

carry : (setup : Setup) (given : List (List ℕ)) (arrived : List DatagramValue) → AreShort given → length given < most_near → AreReadOf (datagrams_of setup given) arrived → CarriesRounds given arrived
carry setup given [] short few r = record { carried = record { arrivals = []; honest = tt; arrived_are = refl }; low = omega arith }
carry setup given (d ∷ arrived) short few r =
    let earlier : CarriesRounds given arrived = carry setup given arrived short few r.1 in
    let p : IsPlaced given d = is_placed setup given r.0.octets d short (is_made setup given r.0.octets r.0.among) r.0.read in
    let before : List Arrival = earlier.carried.arrivals in
    let within : p.place < length given = p.within in
    let high : p.place ≤ 32767 = omega arith in
    let low : greatest_place before ≤ 32767 = earlier.low in
    record {
      carried = record {
        arrivals = record { place = p.place; datagram = d } ∷ before;
        honest = (p.sent_at, near before p.place high low, earlier.carried.honest);
        arrived_are = ap (λ (ds : List DatagramValue). d ∷ ds) earlier.carried.arrived_are;
      };
      low = omega arith;
    }

pub are_carried : (setup : Setup) (given : List (List ℕ)) (arrived : List DatagramValue) → AreShort given → length given < most_near → AreReadOf (datagrams_of setup given) arrived → AreCarried given arrived
are_carried setup given arrived short few r = (carry setup given arrived short few r).carried

pub datagrams_many : (setup : Setup) (given : List (List ℕ)) → length (datagrams_of setup given) ≡ length given
datagrams_many setup [] = refl
datagrams_many setup (packet ∷ given) = ap (λ (n : ℕ). suc n) (datagrams_many setup given)
