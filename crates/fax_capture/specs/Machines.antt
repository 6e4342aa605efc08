-- MACHINES of a capture: those that are said, or those that its first signals find. (ITU-T T.30: who calls sends CNG, and who answers
-- sends CED; ITU-T T.38: each is a packet of one octet. That a gateway is called before it calls, since it sends on what came, is
-- this project's profile.)
use Rattle.std.specs.Prelude.{ℕ, ◌==◌, ◌&&◌, not, bytes_eq, List, length, option_map, Option, Some, None, if◌then◌else◌}
use Rattle.fax_udptl.specs.Datagrams.{datagram_of}
use Rattle.fax_capture.specs.pcap.Datagrams.{EndpointValue, DatagramValue}
use Rattle.fax_capture.specs.declared.address.Host.{Host}
use Rattle.fax_capture.specs.declared.address.Host.TheVariants.{V4, V6}
use Rattle.fax_capture.specs.declared.address.Address.{Address}
use Rattle.fax_capture.specs.declared.machines.Machines.{Machines}
use Rattle.fax_capture.specs.declared.machines.Machines.TheVariants.{Known, CallerKnown, Unknown}
use Rattle.fax_capture.specs.Addresses.{host_octets, is_at}
use Rattle.fax_capture.specs.Signals.{ced, cng, is_primary}

-- from whom to whom a call goes, as its CNG tells, or its CED from the other end
abbrev pub call_of : DatagramValue → Option (EndpointValue × EndpointValue)
call_of datagram = if is_primary cng (datagram_of datagram.octets) then Some (
  datagram.source,
  datagram.destination,
) else if is_primary ced (datagram_of datagram.octets)
    then Some (datagram.destination, datagram.source) else None

abbrev pub host_of : List ℕ → Option Host
host_of octets = if length octets == 4
    then Some (V4 octets) else if length octets == 16 then Some (V6 octets) else None

abbrev pub address_of : EndpointValue → Option Address
address_of endpoint =
    option_map (λ host. record { host = host; port = Some endpoint.port }) (host_of endpoint.host)

abbrev pub caller_found : Option Address → Option Host → Machines
caller_found (Some caller) (Some gateway) = CallerKnown caller gateway
caller_found caller gateway = Unknown

abbrev pub called_found : Address → Host → Option Address → Machines
called_found caller gateway (Some called) = Known caller called
called_found caller gateway None = CallerKnown caller gateway

-- The first call goes from the caller to the gateway, and the first that goes from the gateway's host after it, but not from the
-- caller, to the called machine.
abbrev pub machines_by : Machines → EndpointValue → EndpointValue → Machines
machines_by (Known caller called) from to = Known caller called
machines_by (CallerKnown caller gateway) from to =
    if bytes_eq (host_octets gateway) from.host && not (is_at caller from)
    then called_found caller gateway (address_of to) else CallerKnown caller gateway
machines_by Unknown from to = caller_found (address_of from) (host_of to.host)

abbrev pub machines_in : Machines → Option (EndpointValue × EndpointValue) → Machines
machines_in machines None = machines
machines_in machines (Some call) = machines_by machines call.0 call.1

-- after one datagram more
abbrev pub machines_with : Machines → DatagramValue → Machines
machines_with machines datagram = machines_in machines (call_of datagram)
