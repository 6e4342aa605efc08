-- DATAGRAMS of UDP (RFC 768), and their fragments (RFC 791, 3.2; RFC 8200, 4.5).
use Rattle.std.specs.Prelude.{ℕ, Bool, List, Option}

-- a host, by the 4 octets of its address of IPv4 or the 16 of IPv6, and a port
pub record EndpointValue : Type 0 where
  pub host : List ℕ
  pub port : ℕ

-- a UDP datagram: who sent it, to whom, the number of its fragments, where it went in fragments and this is the first one, how many
-- octets of data it has, whether they are all there, and what is there of them
pub record DatagramValue : Type 0 where
  pub source : EndpointValue
  pub destination : EndpointValue
  pub fragments : Option ℕ
  pub length : ℕ
  pub is_whole : Bool
  pub octets : List ℕ

-- a fragment that is not the first one of a UDP datagram, whose ports it does not have: who sent it, to whom, by the octets of their
-- addresses, the number that it shares with the first one, the place of its octets in the data of the datagram, whether it is the
-- last one, and what is there of its octets
pub record FragmentValue : Type 0 where
  pub source : List ℕ
  pub destination : List ℕ
  pub number : ℕ
  pub place : ℕ
  pub is_last : Bool
  pub octets : List ℕ
