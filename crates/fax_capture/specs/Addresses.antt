-- ADDRESSES of the two machines, and what a datagram is to them. (This project's profile.)
use Rattle.std.specs.Prelude.{◌≡◌, ℕ, ◌==◌, ◌&&◌, bytes_eq, Bool, true, false, not, List, Option, Some, None, is_some}
use Rattle.fax_capture.specs.pcap.Datagrams.{EndpointValue, DatagramValue}
use Rattle.fax_capture.specs.declared.address.Host.{Host}
use Rattle.fax_capture.specs.declared.address.Host.TheVariants.{V4, V6}
use Rattle.fax_capture.specs.declared.address.Address.{Address}
use Rattle.fax_capture.specs.declared.machines.Machines.{Machines}
use Rattle.fax_capture.specs.declared.machines.Machines.TheVariants.{Known, CallerKnown, Unknown}
use Rattle.fax_capture.specs.declared.address.Role.{Role}
use Rattle.fax_capture.specs.declared.address.Role.TheVariants.{FromCaller, FromCalled, ToCaller, ToCalled, CallerInFragments, CalledInFragments, Unrelated}

-- the octets of a host's address
abbrev pub host_octets : Host → List ℕ
host_octets (V4 octets) = octets
host_octets (V6 octets) = octets

-- An address without a port means every port of its host.
abbrev pub HasPort : Option ℕ → ℕ → Type 0
HasPort None port = Unit {0}
HasPort (Some wanted) port = wanted ≡ port

abbrev pub IsAt : Address → EndpointValue → Type 0
IsAt address endpoint =
    (host_octets address.host ≡ endpoint.host) × HasPort address.port endpoint.port

-- the same as tests
abbrev pub has_port : Option ℕ → ℕ → Bool
has_port None port = true
has_port (Some wanted) port = wanted == port

abbrev pub is_at : Address → EndpointValue → Bool
is_at address endpoint =
    bytes_eq (host_octets address.host) endpoint.host && has_port address.port endpoint.port

-- Two addresses have an endpoint in common where they have the host in common, and a port.
abbrev pub ShareAPort : Option ℕ → Option ℕ → Type 0
ShareAPort None port = Unit {0}
ShareAPort (Some one) port = HasPort port one

-- or none
abbrev pub AreApart : Address → Address → Type 0
AreApart one other = (host_octets one.host ≡ host_octets other.host)
    → ShareAPort one.port other.port → ⊥

-- a datagram went in fragments, of which the first has not all of its data
abbrev pub is_in_fragments : DatagramValue → Bool
is_in_fragments datagram = is_some datagram.fragments && not datagram.is_whole

-- the caller and the called machine, where they are known
abbrev pub caller_of : Machines → Option Address
caller_of (Known caller called) = Some caller
caller_of (CallerKnown caller gateway) = Some caller
caller_of Unknown = None

abbrev pub called_of : Machines → Option Address
called_of (Known caller called) = Some called
called_of (CallerKnown caller gateway) = None
called_of Unknown = None

abbrev pub IsAtKnown : Option Address → EndpointValue → Type 0
IsAtKnown None endpoint = ⊥
IsAtKnown (Some address) endpoint = IsAt address endpoint

-- Whoever sends a datagram decides, the caller first: a capture at the gateway has what they send to the gateway.
abbrev pub IsRole : Option Address → Option Address → DatagramValue → Role → Type 0
IsRole caller called datagram FromCaller =
    IsAtKnown caller datagram.source × (is_in_fragments datagram ≡ false)
IsRole caller called datagram FromCalled = (IsAtKnown caller datagram.source → ⊥)
    × IsAtKnown called datagram.source × (is_in_fragments datagram ≡ false)
IsRole caller called datagram CallerInFragments =
    IsAtKnown caller datagram.source × (is_in_fragments datagram ≡ true)
IsRole caller called datagram CalledInFragments = (IsAtKnown caller datagram.source → ⊥)
    × IsAtKnown called datagram.source × (is_in_fragments datagram ≡ true)
IsRole caller called datagram ToCaller = (IsAtKnown caller datagram.source → ⊥)
    × (IsAtKnown called datagram.source → ⊥) × IsAtKnown caller datagram.destination
IsRole caller called datagram ToCalled =
    (IsAtKnown caller datagram.source → ⊥) × (IsAtKnown called datagram.source → ⊥)
    × (IsAtKnown caller datagram.destination → ⊥) × IsAtKnown called datagram.destination
IsRole caller called datagram Unrelated =
    (IsAtKnown caller datagram.source → ⊥) × (IsAtKnown called datagram.source → ⊥)
    × (IsAtKnown caller datagram.destination → ⊥) × (IsAtKnown called datagram.destination → ⊥)

-- Of a capture's datagrams those are passed over that went in fragments, until they are put together, or are of others.
abbrev pub is_passed_over : Role → Bool
is_passed_over CallerInFragments = true
is_passed_over CalledInFragments = true
is_passed_over Unrelated = true
is_passed_over role = false

-- Of a datagram that one of the two sent some is lacking, where it is not whole. Of others nothing is wanted, nor of the first of
-- fragments.
abbrev pub lacks : Role → Bool → Bool
lacks FromCaller is_whole = not is_whole
lacks FromCalled is_whole = not is_whole
lacks role is_whole = false
