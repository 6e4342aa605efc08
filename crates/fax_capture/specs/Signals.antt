-- SIGNALS of both ends of a call, as T.38 has them. (ITU-T T.30: CNG, of who calls; CED, of who answers. ITU-T T.38: each is an
-- indicator, which is a packet of one octet.)
use Rattle.std.specs.Prelude.{ℕ, ◌==◌, Bool, false, List, [], ◌∷◌, Result, Ok, Err}
use Rattle.fax_udptl.specs.declared.fault.UdptlFault.{UdptlFault}
use Rattle.fax_udptl.specs.Datagrams.{DatagramValue, datagram_of}
use Rattle.fax_capture.specs.declared.address.Role.{Role}
use Rattle.fax_capture.specs.declared.address.Role.TheVariants.{FromCaller, FromCalled}

abbrev pub cng : ℕ
cng = 2

abbrev pub ced : ℕ
ced = 4

-- a packet of one octet alone
abbrev pub is_alone : ℕ → List ℕ → Bool
is_alone octet (only ∷ []) = only == octet
is_alone octet packet = false

-- the primary packet of what reads as UDPTL
abbrev pub is_primary : ℕ → Result DatagramValue UdptlFault → Bool
is_primary octet (Ok datagram) = is_alone octet datagram.primary
is_primary octet (Err fault) = false

-- The caller answers a call, or the called machine makes one: their addresses may be exchanged.
abbrev pub seems_exchanged : Role → List ℕ → Bool
seems_exchanged FromCaller octets = is_primary ced (datagram_of octets)
seems_exchanged FromCalled octets = is_primary cng (datagram_of octets)
seems_exchanged role octets = false
