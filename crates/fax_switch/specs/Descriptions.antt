-- What the body of a message says of its sender's media (RFC 3264; T.38, annex D): T.38 before audio, PCMU before PCMA.
use Rattle.std.specs.Prelude.{◌≡◌, ℕ, Bool, List, [], ◌∷◌, codes, find, Option, None, Some, Result, Ok, Err}
use Rattle.std.specs.declared.net.socket_addr.SocketAddr.{SocketAddr}
use Rattle.fax_sdp.specs.declared.fault.SdpFault.{SdpFault}
use Rattle.fax_sdp.specs.Media.{IsHeardAt, is_audio, is_t38}
use Rattle.fax_sdp.specs.Sessions.{MediumText, media_of}
use Rattle.fax_switch.specs.declared.media.Coding.{Coding}
use Rattle.fax_switch.specs.declared.media.Coding.TheVariants.{MuLaw, ALaw}
use Rattle.fax_switch.specs.declared.media.Description.{Description}
use Rattle.fax_switch.specs.declared.media.Description.TheVariants.{FaxAt, AudioAt, NothingSaid, Unusable}

-- a medium has no address
abbrev pub IsNowhere : MediumText → Type 0
IsNowhere medium = (address : SocketAddr) → IsHeardAt medium.host medium.port address → ⊥

-- T.38 where a medium is heard, with the bound that it tells
abbrev pub SaysFax : MediumText → Description → Type 0
SaysFax medium (FaxAt end) =
    IsHeardAt medium.host medium.port end.address × (end.octets ≡ medium.terms.max_datagram)
SaysFax medium (AudioAt end) = ⊥
SaysFax medium NothingSaid = ⊥
SaysFax medium Unusable = IsNowhere medium

abbrev pub SaysAudio : Coding → MediumText → Description → Type 0
SaysAudio coding medium (FaxAt end) = ⊥
SaysAudio coding medium (AudioAt end) =
    IsHeardAt medium.host medium.port end.address × (end.coding ≡ coding)
SaysAudio coding medium NothingSaid = ⊥
SaysAudio coding medium Unusable = IsNowhere medium

-- the first medium that is T.38; else the first that is PCMU; else the first that is PCMA
abbrev pub SaysOf : Option MediumText → Option MediumText → Option MediumText → Description → Type 0
SaysOf (Some medium) mu_law a_law said = SaysFax medium said
SaysOf None (Some medium) a_law said = SaysAudio MuLaw medium said
SaysOf None None (Some medium) said = SaysAudio ALaw medium said
SaysOf None None None said = said ≡ Unusable

abbrev pub is_mu_law : MediumText → Bool
is_mu_law medium = is_audio medium (codes "0")

abbrev pub is_a_law : MediumText → Bool
is_a_law medium = is_audio medium (codes "8")

abbrev pub SaysMedia : List MediumText → Description → Type 0
SaysMedia media said = SaysOf (find is_t38 media) (find is_mu_law media) (find is_a_law media) said

abbrev pub SaysRead : Result (List MediumText) SdpFault → Description → Type 0
SaysRead (Ok media) said = SaysMedia media said
SaysRead (Err fault) said = said ≡ Unusable

-- What a body says.
abbrev pub Says : List ℕ → Description → Type 0
Says [] said = said ≡ NothingSaid
Says (octet ∷ octets) said = SaysRead (media_of (octet ∷ octets)) said
