-- Who is heard: nobody but trunks (this project's profile).
use Rattle.std.specs.Prelude.{ℕ, ◌==◌, ◌&&◌, ◌||◌, Bool, List, Option, position}
use Rattle.std.specs.List.{list_any}
use Rattle.std.specs.Net.Socket.{socket_ip}
use Rattle.std.specs.declared.net.socket_addr.SocketAddr.{SocketAddr}
use Rattle.fax_trunks.specs.declared.host.Host.{Host}
use Rattle.fax_trunks.specs.Hosts.{host_of, is_same}
use Rattle.fax_trunks.specs.Networks.{is_within}
use Rattle.fax_user_agent.specs.declared.settings.Trunk.{Trunk}

abbrev pub is_one_host : Host → Host → Bool
is_one_host one other = is_same one.family other.family && one.bits == other.bits

-- a datagram of a trunk comes from the host of its address, or from one of its networks
abbrev pub is_of_trunk : SocketAddr → Trunk → Bool
is_of_trunk from trunk = is_one_host (host_of (socket_ip from)) (host_of (socket_ip trunk.address))
    || list_any (is_within (host_of (socket_ip from))) trunk.allow.items

-- the first trunk whose datagram it may be
abbrev pub trunk_of : List Trunk → SocketAddr → Option ℕ
trunk_of trunks from = position (is_of_trunk from) trunks
