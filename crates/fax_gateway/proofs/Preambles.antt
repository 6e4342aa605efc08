-- A datagram whose packet is the preamble was given for one.
use Rattle.std.proofs.Common.{◌≡◌, ℕ, get_or, ◌+◌, ◌-◌, ◌*◌, ◌/◌, ◌%◌, ◌≤◌, Bool, true, false, nat_lt, nat_le, List, [], ◌∷◌, ◌++◌, length, take, drop, Result, Ok, Err, refl, sym, ◌∙◌, ap, arith, if◌then◌else◌, append_assoc}
use Rattle.std.specs.Prelude.{flat_map}
use Rattle.std.proofs.lemmas.Bool.{leb-true}
use Rattle.fax_udptl.specs.declared.fault.UdptlFault.{UdptlFault}
use Rattle.fax_udptl.specs.declared.fault.UdptlFault.TheVariants.{Short, BadLength}
use Rattle.fax_udptl.specs.Datagrams.{DatagramValue, ◌>>=◌, length_at, low_octet_at, packet_at, secondaries_at, datagram_of, written_length, written_packet, written_datagram}
use Rattle.fax_udptl.specs.Sending.{datagram_for}
use Rattle.fax_udptl.proofs.WrittenLemmas.{packet_back}
use Rattle.fax_answer.specs.Replies.{is_preamble, preamble}
use Rattle.fax_call.specs.Replies.{Packet, Signals, Tells, Part, signals_preamble, written}
use Rattle.fax_gateway.specs.Setups.{Setup}
use Rattle.fax_gateway.specs.Legs.{sent}
use Rattle.fax_gateway.specs.Apart.{HasPreamble}

abbrev Read : Type 0
Read = Result (ℕ × List ℕ) UdptlFault

abbrev Packets : Type 0
Packets = Result (List ℕ × List ℕ) UdptlFault

not_lt : (m n : ℕ) → n ≤ m → nat_lt m n ≡ false
not_lt m n h = grind (arith)

-- a length of more than 14 bits is not read
too_long_by : (n : ℕ) (rest : List ℕ) (b : Bool) → 16384 ≤ n → nat_lt n 128 ≡ b → length_at ((if b then n ∷ [] else (128 + n / 256) ∷ n % 256 ∷ []) ++ rest) ≡ Err BadLength
unfolding length_at
too_long_by n rest true s h = absurd (contradicts n h s)
  where
    contradicts : (m : ℕ) → nat_lt m 128 ≡ true → 16384 ≤ m → ⊥
    contradicts m e l = grind (arith)
too_long_by n rest false s h =
    ap (λ (t : Bool). if◌then◌else◌ {A = Read} t (Ok (128 + n / 256, n % 256 ∷ rest)) (if nat_lt (128 + n / 256) 192 then low_octet_at (128 + n / 256 - 128) (n % 256 ∷ rest) else Err BadLength)) (not_lt (128 + n / 256) 128 (omega arith))
    ∙ ap (λ (t : Bool). if◌then◌else◌ {A = Read} t (low_octet_at (128 + n / 256 - 128) (n % 256 ∷ rest)) (Err BadLength)) (not_lt (128 + n / 256) 192 (omega arith))

too_long : (p rest : List ℕ) → 16384 ≤ length p → packet_at (written_packet p ++ rest) ≡ Err BadLength
unfolding packet_at written_packet written_length
too_long p rest s =
    ap (λ (os : List ℕ). packet_at os) (append_assoc (written_length (length p)) p rest)
    ∙ ap (λ (r : Read). r >>= λ n. if nat_lt (length n.1) n.0 then Err Short else Ok (take n.0 n.1, drop n.0 n.1)) (too_long_by (length p) (p ++ rest) (nat_lt (length p) 128) s refl)

-- a datagram that is read has the primary that was written
primary_of : Result DatagramValue UdptlFault → List ℕ
primary_of (Ok d) = d.primary
primary_of (Err fault) = []

with_secondaries : (n : ℕ) (p : List ℕ) (r : Result (List (List ℕ)) UdptlFault) (e : DatagramValue) → (r >>= λ ss. let made : Result DatagramValue UdptlFault = Ok (record { number = n; primary = p; secondaries = ss }) in made) ≡ Ok e → e.primary ≡ p
unfolding primary_of
with_secondaries n p (Ok ss) e h = sym (ap primary_of h)
with_secondaries n p (Err fault) e h = cc

read_from : ℕ → Packets → Result DatagramValue UdptlFault
read_from n r = r >>= λ q. secondaries_at q.1 >>= λ ss. Ok (record { number = n; primary = q.0; secondaries = ss })

primary_by : (n : ℕ) (p rest : List ℕ) (e : DatagramValue) (b : Bool) → nat_le (length p) 16383 ≡ b → read_from n (packet_at (written_packet p ++ rest)) ≡ Ok e → e.primary ≡ p
unfolding read_from
primary_by n p rest e true s h =
    with_secondaries n p (secondaries_at rest) e (sym (ap (read_from n) (packet_back p rest (leb-true (length p) 16383 s))) ∙ h)
primary_by n p rest e false s h =
    let none : read_from n (Err BadLength) ≡ Ok e = sym (ap (read_from n) (too_long p rest (far (length p) s))) ∙ h in cc
  where
    far : (m : ℕ) → nat_le m 16383 ≡ false → 16384 ≤ m
    far m f = grind (arith)

primary_read : (d e : DatagramValue) → datagram_of (written_datagram d) ≡ Ok e → e.primary ≡ d.primary
unfolding datagram_of written_datagram read_from
primary_read d e h =
    let rest : List ℕ = 0 ∷ (written_length (length d.secondaries) ++ flat_map written_packet d.secondaries) in
    primary_by (256 * (d.number / 256) + d.number % 256) d.primary rest e (nat_le (length d.primary) 16383) refl
    (sym (ap (λ (os : List ℕ). datagram_of ((d.number / 256) ∷ d.number % 256 ∷ os)) (append_assoc (written_packet d.primary) (0 ∷ written_length (length d.secondaries)) (flat_map written_packet d.secondaries))) ∙ h)

-- so what was given is the preamble, on the calling leg
sent_back : (setup : Setup) (given : List (List ℕ)) (packet : List ℕ) → HasPreamble (sent setup given packet) → packet ≡ preamble
sent_back setup given packet h = sym (primary_read (datagram_for setup.redundancy given packet) h.0 h.1) ∙ h.2

pub preamble_answered : (setup : Setup) (given : List (List ℕ)) (packet : List ℕ) → HasPreamble (sent setup given packet) → is_preamble packet ≡ true
preamble_answered setup given packet h = ap is_preamble (sent_back setup given packet h)

-- and on the called leg
first_of : List ℕ → ℕ
first_of octets = get_or octets 0 0

signals_it : (packet : Packet) → written packet ≡ preamble → signals_preamble packet ≡ true
unfolding first_of
signals_it (Signals code) e = let is : code ≡ 3 = omega (arith, ap first_of e) in ap (λ (n : ℕ). signals_preamble (Signals n)) is
signals_it (Tells frame) e = absurd (omega (arith, ap first_of e))
signals_it (Part kind last octets) e = absurd (omega (arith, ap first_of e))

pub preamble_called : (setup : Setup) (given : List (List ℕ)) (packet : Packet) → HasPreamble (sent setup given (written packet)) → signals_preamble packet ≡ true
preamble_called setup given packet h = signals_it packet (sent_back setup given (written packet) h)
