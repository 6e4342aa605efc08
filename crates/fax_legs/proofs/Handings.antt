-- A peer who comes late hears nothing old.
use Rattle.std.proofs.Common.{◌≡◌, ℕ, zero, suc, ◌+◌, ◌-◌, ◌*◌, ◌/◌, ◌<◌, ◌≤◌, ◌%◌, max, min, Bool, true, false, List, [], ◌∷◌, Option, None, Some, inl, inr, refl, sym, subst, ap, ◌∙◌, arith, if◌then◌else◌}
use Rattle.std.specs.Prelude.{option_map}
use Rattle.std.specs.declared.net.socket_addr.SocketAddr.{SocketAddr}
use Rattle.fax_udptl.specs.Datagrams.{DatagramValue, written_datagram}
use Rattle.fax_udptl.specs.Slots.{IsNearest, greatest, integer_after, nearest}
use Rattle.fax_udptl.proofs.SlotLemmas.{is_nearest}
use Rattle.fax_legs.specs.Bounding.{sent_as}
use Rattle.fax_legs.specs.BoundingLaws.{IsSendable}
use Rattle.fax_legs.specs.Handing.{before_own, handed_over, may_have, noted, since_after, since_of, steps, with_at_most}
use Rattle.fax_legs.specs.HandingLaws.{HandedDatagram, IsNewWhere, SendsNew, datagrams, handed_after, missed}
use Rattle.fax_legs.specs.HangUps.{HaveNumbers, is_late, newer_of, newest_of}
use Rattle.fax_legs.specs.Legs.{LegValue, limits_of, sent_by, sent_to}
use Rattle.fax_legs.specs.Sockets.{SocketValue, handed_to}
use Rattle.fax_legs.specs.declared.handing.Handed.{Handed}
use Rattle.fax_legs.proofs.Cuts.{are_cut, read_fewer}
use Rattle.fax_legs.proofs.Goodbyes.{early_so, grown, late_so, newest_is}

-- A number is late where what is nearest is at most the greatest; and so far it is from the one to the other.
late_by : (n g near : ℕ) → n < 65536 → near % 65536 ≡ n → g + 1 ≤ near + 32768 → near ≤ g + 32768 → steps n (g % 65536) < 32768 → near + steps n (g % 65536) ≡ g
late_by n g near low agrees above below late = omega arith

early_by : (n g near : ℕ) → n < 65536 → near % 65536 ≡ n → g + 1 ≤ near + 32768 → near ≤ g + 32768 → 32768 ≤ steps n (g % 65536) → g + steps (g % 65536) n ≡ near
early_by n g near low agrees above below early = omega arith

-- what comes after what was missed
record Counts (missed near packets : ℕ) : Type 0 where
  pub within : 0 < packets → missed + packets ≤ near
  pub none : packets ≡ 0 → near ≤ missed

counts_late : (m g near far : ℕ) → m ≤ g → far < 32768 → near + far ≡ g → Counts m near (min (g - m) 65535 - far)
counts_late m g near far h small is = record { within = λ some. omega arith; none = λ none. omega arith }

counts_early : (m g near far : ℕ) → m ≤ g → g + far ≡ near → 0 < far → Counts m near (min (min (g - m) 65535 + far) 65535)
counts_early m g near far h is some = record { within = λ any. omega arith; none = λ none. omega arith }

after_early : (m g near far : ℕ) → m ≤ g → g + far ≡ near → min (min (g - m) 65535 + far) 65535 ≡ min (max near g - m) 65535
after_early m g near far h is = omega arith

after_late : (m g near far : ℕ) → near + far ≡ g → min (g - m) 65535 ≡ min (max near g - m) 65535
after_late m g near far is = omega arith

-- ---- what a leg knows

-- the first two octets of a datagram are its number
over_is : (has_peer : Bool) (d : DatagramValue) (old : Handed) → handed_over has_peer (written_datagram d) old ≡ noted has_peer d.number old
unfolding written_datagram
over_is has_peer d old = ap (λ (n : ℕ). noted has_peer n old) (let same : 256 * (d.number / 256) + d.number % 256 ≡ d.number = omega arith in same)

may_have_is : (handed : Handed) (d : DatagramValue) → may_have handed (written_datagram d) ≡ before_own (since_of handed.newest handed.since d.number)
unfolding written_datagram
may_have_is handed d =
    ap (λ (n : ℕ). before_own (since_of handed.newest handed.since n)) (let same : 256 * (d.number / 256) + d.number % 256 ≡ d.number = omega arith in same)

noted_newest : (has_peer : Bool) (number : ℕ) (old : Handed) → (noted has_peer number old).newest ≡ newer_of old.newest number
noted_newest true number old = refl
noted_newest false number old = refl

newest_known : (earlier : List HandedDatagram) → (handed_after earlier).newest ≡ newest_of (datagrams earlier)
newest_known [] = refl
newest_known (h ∷ earlier) =
    ap (λ (s : Handed). s.newest) (over_is h.has_peer h.datagram (handed_after earlier))
    ∙ noted_newest h.has_peer h.datagram.number (handed_after earlier)
    ∙ ap (λ (o : Option ℕ). newer_of o h.datagram.number) (newest_known earlier)

-- how many of the newest packets come after what was missed
abbrev KnowsSince : List HandedDatagram → ℕ → Type 0
KnowsSince [] since = since ≡ 65535
KnowsSince (h ∷ earlier) since =
    (since ≡ min (greatest (datagrams (h ∷ earlier)) - missed (h ∷ earlier)) 65535) × (missed (h ∷ earlier) ≤ greatest (datagrams (h ∷ earlier)))

-- one more datagram, while there is a peer
after_by : (n g near m since : ℕ) (late : Bool) → is_late (g % 65536) n ≡ late → n < 65536 → near % 65536 ≡ n → g + 1 ≤ near + 32768 → near ≤ g + 32768
    → since ≡ min (g - m) 65535 → m ≤ g
    → ((if late then since else min (since + steps (g % 65536) n) 65535) ≡ min (max near g - m) 65535) × (m ≤ max near g)
after_by n g near m since true h low agrees above below is few =
    (is ∙ after_late m g near (steps n (g % 65536)) (late_by n g near low agrees above below (late_so (steps n (g % 65536)) 32768 h)), omega (arith, few))
after_by n g near m since false h low agrees above below is few =
    let far = steps (g % 65536) n in
    (ap (λ (s : ℕ). min (s + far) 65535) is ∙ after_early m g near far few (early_by n g near low agrees above below (early_so (steps n (g % 65536)) 32768 h)), omega (arith, few))

of_by : (n g near m since : ℕ) (late : Bool) → is_late (g % 65536) n ≡ late → n < 65536 → near % 65536 ≡ n → g + 1 ≤ near + 32768 → near ≤ g + 32768
    → since ≡ min (g - m) 65535 → m ≤ g → Counts m near (if late then since - steps n (g % 65536) else min (since + steps (g % 65536) n) 65535)
of_by n g near m since true h low agrees above below is few =
    let far = steps n (g % 65536) in
    let small : far < 32768 = late_so far 32768 h in
    subst (λ (s : ℕ). Counts m near (s - far)) (sym is) (counts_late m g near far few small (late_by n g near low agrees above below small))
of_by n g near m since false h low agrees above below is few =
    let far = steps (g % 65536) n in
    let same : g + far ≡ near = early_by n g near low agrees above below (early_so (steps n (g % 65536)) 32768 h) in
    subst (λ (s : ℕ). Counts m near (min (s + far) 65535)) (sym is) (counts_early m g near far few same (apart n g far (early_so (steps n (g % 65536)) 32768 h) refl))
  where
    apart : (n g far : ℕ) → 32768 ≤ steps n (g % 65536) → far ≡ steps (g % 65536) n → 0 < far
    apart n g far early is = omega (arith, early, is)

since_known : (earlier : List HandedDatagram) → HaveNumbers (datagrams earlier) → KnowsSince earlier (handed_after earlier).since
since_known [] low = refl
since_known (h ∷ earlier) low =
    subst (λ (s : ℕ). KnowsSince (h ∷ earlier) s) (sym (ap (λ (s : Handed). s.since) (over_is h.has_peer h.datagram (handed_after earlier))))
    (by h.has_peer earlier low (handed_after earlier) (newest_known earlier) (since_known earlier low.1))
  where
    -- where there is none all up to the greatest is missed
    by : (b : Bool) (earlier : List HandedDatagram) → HaveNumbers (h.datagram ∷ datagrams earlier) → (old : Handed) → old.newest ≡ newest_of (datagrams earlier) → KnowsSince earlier old.since
        → ((noted b h.datagram.number old).since ≡ min (greatest (h.datagram ∷ datagrams earlier) - (if b then missed earlier else greatest (h.datagram ∷ datagrams earlier))) 65535)
        × ((if b then missed earlier else greatest (h.datagram ∷ datagrams earlier)) ≤ greatest (h.datagram ∷ datagrams earlier))
    by false earlier low old newest known = (omega arith, omega arith)
    by true [] low old newest known =
        (ap (λ (o : Option ℕ). since_after o old.since h.datagram.number) newest ∙ known ∙ (let all : 65535 ≡ min (65536 + h.datagram.number - 0) 65535 = omega arith in all), omega arith)
    by true (e ∷ rest) low old newest known =
        let ds = datagrams (e ∷ rest) in
        let g = greatest ds in
        let number = h.datagram.number in
        let least : 65536 ≤ g = grown e.datagram (datagrams rest) low.1 in
        let near : IsNearest (g + 1) number (nearest (g + 1) number) = is_nearest (g + 1) number (omega (arith, least)) low.0 in
        let is : old.newest ≡ Some (g % 65536) = newest ∙ newest_is e.datagram (datagrams rest) low.1 in
        let next = after_by number g (nearest (g + 1) number) (missed (e ∷ rest)) old.since (is_late (g % 65536) number) refl low.0 near.agrees near.above (let under = near.below in omega (arith, under)) known.0 known.1 in
        (ap (λ (o : Option ℕ). since_after o old.since number) is ∙ next.0, next.1)

-- how many packets of one more datagram come after that
counts_known : (earlier : List HandedDatagram) (d : DatagramValue) (handed : Handed) → HaveNumbers (d ∷ datagrams earlier) → handed.newest ≡ newest_of (datagrams earlier)
    → KnowsSince earlier handed.since → Counts (missed earlier) (integer_after (datagrams earlier) d) (since_of handed.newest handed.since d.number)
counts_known [] d handed low newest known =
    subst (λ (o : Option ℕ). Counts 0 (65536 + d.number) (since_of o handed.since d.number)) (sym newest)
    (subst (λ (s : ℕ). Counts 0 (65536 + d.number) s) (sym known) (record { within = λ some. omega arith; none = λ none. omega arith }))
counts_known (e ∷ rest) d handed low newest known =
    let g = greatest (datagrams (e ∷ rest)) in
    let least : 65536 ≤ g = grown e.datagram (datagrams rest) low.1 in
    let near : IsNearest (g + 1) d.number (nearest (g + 1) d.number) = is_nearest (g + 1) d.number (omega (arith, least)) low.0 in
    let is : handed.newest ≡ Some (g % 65536) = newest ∙ newest_is e.datagram (datagrams rest) low.1 in
    subst (λ (o : Option ℕ). Counts (missed (e ∷ rest)) (nearest (g + 1) d.number) (since_of o handed.since d.number)) (sym is)
    (of_by d.number g (nearest (g + 1) d.number) (missed (e ∷ rest)) handed.since (is_late (g % 65536) d.number) refl low.0 near.agrees near.above
    (let under = near.below in omega (arith, under)) known.0 known.1)

-- and so what goes to a peer, by how many packets before its own it may have
goes : (peer : SocketAddr) (d : DatagramValue) (is_sent : Bool) (leg : LegValue) (socket : SocketValue) (m integer packets : ℕ) → IsSendable d → leg.socket ≡ Some socket
    → Counts m integer packets → IsNewWhere (Some peer) d m integer socket (sent_to peer (written_datagram d) is_sent (before_own packets) leg).socket
goes peer d is_sent leg socket m integer zero s known counts = inl (counts.none refl, known)
goes peer d is_sent leg socket m integer (suc before) s known counts =
    let limits = with_at_most before (limits_of leg.redundancy leg.peer) in
    let cut = are_cut limits d s in
    inr (record {
      count = cut.kept;
      put = ap (option_map (handed_to (Some peer) (sent_as limits (written_datagram d)))) known ∙ ap (λ (os : List ℕ). Some (handed_to (Some peer) os socket)) cut.sent_is;
      read_as = read_fewer cut.kept d s;
      after = let all : m + suc before ≤ integer = counts.within (omega arith) in let few = cut.few in omega (arith, all, few);
    })

-- a send leaves what was handed over before
still_handed : (peer : SocketAddr) (octets : List ℕ) (is_sent : Bool) (before : Option ℕ) (leg : LegValue) → (sent_to peer octets is_sent before leg).handed ≡ leg.handed
still_handed peer octets is_sent None leg = refl
still_handed peer octets is_sent (Some before) leg = refl

pub nothing_old : (earlier : List HandedDatagram) (d : DatagramValue) (is_sent : Bool) (leg : LegValue) (socket : SocketValue) → HaveNumbers (datagrams earlier)
    → IsSendable d → leg.handed ≡ handed_after earlier → leg.socket ≡ Some socket
    → SendsNew earlier leg.peer.address d socket (sent_by (written_datagram d) is_sent leg.peer.address leg)
nothing_old earlier d is_sent leg socket low s is known = by leg.peer.address
  where
    by : (peer : Option SocketAddr) → SendsNew earlier peer d socket (sent_by (written_datagram d) is_sent peer leg)
    by None = record { handed = ap (handed_over false (written_datagram d)) is; sent = known }
    by (Some peer) = record {
      handed = ap (handed_over true (written_datagram d)) (still_handed peer (written_datagram d) is_sent (may_have leg.handed (written_datagram d)) leg ∙ is);
      sent = subst (λ (o : Option ℕ). IsNewWhere (Some peer) d (missed earlier) (integer_after (datagrams earlier) d) socket (sent_to peer (written_datagram d) is_sent o leg).socket)
          (sym (may_have_is leg.handed d))
          (goes peer d is_sent leg socket (missed earlier) (integer_after (datagrams earlier) d) (since_of leg.handed.newest leg.handed.since d.number) s known
          (subst (λ (handed : Handed). Counts (missed earlier) (integer_after (datagrams earlier) d) (since_of handed.newest handed.since d.number)) (sym is)
          (counts_known earlier d (handed_after earlier) (s.number, low) (newest_known earlier) (since_known earlier low))));
    }
