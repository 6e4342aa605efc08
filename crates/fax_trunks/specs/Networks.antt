-- Networks: which hosts are within, and how they are written (RFC 4632, 3.1; RFC 4291, 2.3).
use Rattle.std.specs.Prelude.{◌≡◌, ℕ, ◌-◌, ◌/◌, ◌%◌, ◌^◌, ◌==◌, ◌&&◌, nat_lt, Bool, if◌then◌else◌, List, None, Some, Result, Ok, Err}
use Rattle.std.specs.Net.Grammar.{IsIpText}
use Rattle.std.specs.declared.net.ip_addr.IpAddr.{IpAddr}
use Rattle.fax_trunks.specs.declared.host.Host.{Host}
use Rattle.fax_trunks.specs.declared.network.Network.{Network}
use Rattle.fax_trunks.specs.declared.network_fault.NetworkFault.{NetworkFault}
use Rattle.fax_trunks.specs.declared.network_fault.NetworkFault.TheVariants.{NoLength, BadAddress, BadLength, TooLong, BitsBeyond}
use Rattle.fax_trunks.specs.Hosts.{bits_of, host_of, is_same, width_of}
use Rattle.fax_trunks.specs.Texts.{cut_at, number}

-- a host of the same family, with the same first bits
abbrev pub is_within : Host → Network → Bool
is_within host network = is_same host.family network.host.family
    && host.bits / 2 ^ network.free == network.host.bits / 2 ^ network.free

-- the first bits of an address, so many; no bit after them is set
abbrev pub network_of : IpAddr → ℕ → Result Network NetworkFault
network_of address length = if nat_lt (width_of address) length
    then Err TooLong else if bits_of address % 2 ^ (width_of address - length) == 0
    then Ok (record { host = host_of address; free = width_of address - length })
    else Err BitsBeyond

-- a text is an address, a slash and a length
pub record IsSpelled (text : List ℕ) (address : IpAddr) (length : ℕ) : Type 0 where
  pub front : List ℕ
  pub back : List ℕ
  pub is_cut : cut_at 47 text ≡ Some (front, back)
  pub address_is : IsIpText front address
  pub length_is : number back ≡ Some length

abbrev pub IsNetwork : List ℕ → Network → Type 0
IsNetwork text network = (address : IpAddr)
    × (length : ℕ) × IsSpelled text address length × (network_of address length ≡ Ok network)

-- why a text is no network
abbrev pub IsFaultOf : List ℕ → NetworkFault → Type 0
IsFaultOf text NoLength = cut_at 47 text ≡ None
IsFaultOf text BadAddress = (front back : List ℕ)
    × (cut_at 47 text ≡ Some (front, back)) × ((address : IpAddr) → ¬ (IsIpText front address))
IsFaultOf text BadLength =
    (front back : List ℕ) × (cut_at 47 text ≡ Some (front, back)) × (number back ≡ None)
IsFaultOf text TooLong = (address : IpAddr)
    × (length : ℕ) × IsSpelled text address length × (network_of address length ≡ Err TooLong)
IsFaultOf text BitsBeyond = (address : IpAddr)
    × (length : ℕ) × IsSpelled text address length × (network_of address length ≡ Err BitsBeyond)
