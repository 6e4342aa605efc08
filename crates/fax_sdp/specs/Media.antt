-- What a medium is to a fax: T.38 over UDPTL (T.38, annex D), or audio over RTP; where it is heard, and whether it is held (RFC 3264, 6 and 8.4).
use Rattle.std.specs.Prelude.{◌≡◌, ℕ, ◌<◌, ◌==◌, Bool, true, false, not, ◌&&◌, ◌||◌, List, codes, Option, None, Some}
use Rattle.std.specs.Net.Grammar.{IsIpText}
use Rattle.std.specs.Net.Socket.{socket_ip, socket_port, socket_flowinfo, socket_scope_id}
use Rattle.std.specs.Str.{bytes_eq}
use Rattle.std.specs.declared.net.socket_addr.SocketAddr.{SocketAddr}
use Rattle.fax_sdp.specs.declared.medium.Direction.{Direction}
use Rattle.fax_sdp.specs.declared.medium.Direction.TheVariants.{SendReceive, SendOnly, ReceiveOnly, Inactive}
use Rattle.fax_sdp.specs.Sessions.{MediumText}
use Rattle.fax_sdp.specs.Texts.{has_word, is_word}

-- its port is not 0: it is neither refused nor left out
abbrev pub is_open : MediumText → Bool
is_open medium = not (medium.port == 0)

-- an image over UDPTL in the format T.38
abbrev pub is_t38 : MediumText → Bool
is_t38 medium = is_open medium && is_word medium.name (codes "image")
    && is_word medium.transport (codes "udptl") && has_word medium.formats (codes "t38")

-- audio over RTP in the format of this number
abbrev pub is_audio : MediumText → List ℕ → Bool
is_audio medium payload = is_open medium && is_word medium.name (codes "audio")
    && is_word medium.transport (codes "RTP/AVP") && has_word medium.formats payload

-- The text of a host and a port are this address.
pub record IsAt (host : List ℕ) (port : ℕ) (address : SocketAddr) : Type 0 where
  pub spelled : IsIpText host (socket_ip address)
  pub port_is : socket_port address ≡ port
  pub is_open : 0 < port
  pub flow_is : socket_flowinfo address ≡ 0
  pub scope_is : socket_scope_id address ≡ 0

-- a medium is heard there
abbrev pub IsHeardAt : Option (List ℕ) → ℕ → SocketAddr → Type 0
IsHeardAt None port address = ⊥
IsHeardAt (Some host) port address = IsAt host port address

abbrev pub is_inactive : Direction → Bool
is_inactive SendReceive = false
is_inactive SendOnly = false
is_inactive ReceiveOnly = false
is_inactive Inactive = true

-- the host of a medium on hold, as RFC 2543 has it
abbrev pub is_zero : Option (List ℕ) → Bool
is_zero None = false
is_zero (Some host) = bytes_eq host (codes "0.0.0.0")

-- on hold: inactive, or with the host that stands for a hold
abbrev pub is_held : MediumText → Bool
is_held medium = is_inactive medium.direction || is_zero medium.host
