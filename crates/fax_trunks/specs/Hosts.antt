-- Addresses by their bits.
use Rattle.std.specs.Prelude.{ℕ, ◌/◌, ◌%◌, ◌^◌, ◌==◌, Bool, true, false, if◌then◌else◌}
use Rattle.std.specs.Net.Addr.{ipv4_bits, ipv6_bits}
use Rattle.std.specs.declared.net.ip_addr.IpAddr.{IpAddr}
use Rattle.std.specs.declared.net.ip_addr.IpAddr.TheVariants.{V4, V6}
use Rattle.fax_trunks.specs.declared.host.Family.{Family}
use Rattle.fax_trunks.specs.declared.host.Family.TheVariants.{Four, Six}
use Rattle.fax_trunks.specs.declared.host.Host.{Host}

-- how many bits an address has, and which
abbrev pub width_of : IpAddr → ℕ
width_of (V4 address) = 32
width_of (V6 address) = 128

abbrev pub bits_of : IpAddr → ℕ
bits_of (V4 address) = ipv4_bits address
bits_of (V6 address) = ipv6_bits address

-- an IPv4-mapped address has 80 bits 0 and 16 bits 1 before those of the IPv4 one (RFC 4291, 2.5.5.2)
abbrev pub of_six : ℕ → Host
of_six bits = if bits / 2 ^ 32 == 0xffff
    then record { family = Four; bits = bits % 2 ^ 32 } else record { family = Six; bits = bits }

abbrev pub host_of : IpAddr → Host
host_of (V4 address) = record { family = Four; bits = ipv4_bits address }
host_of (V6 address) = of_six (ipv6_bits address)

abbrev pub is_same : Family → Family → Bool
is_same Four Four = true
is_same Six Six = true
is_same Four Six = false
is_same Six Four = false
