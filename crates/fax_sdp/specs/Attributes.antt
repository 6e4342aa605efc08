-- What an `a=` line says (RFC 8866, 6.7; T.38, annex D; two misspelt names are read that other programs are known to write).
use Rattle.std.specs.Prelude.{ℕ, ◌||◌, if◌then◌else◌, List, codes, Option, None, Some}
use Rattle.fax_sdp.specs.declared.medium.Direction.TheVariants.{SendReceive, SendOnly, ReceiveOnly, Inactive}
use Rattle.fax_sdp.specs.declared.medium.RateManagement.TheVariants.{Local, Transferred}
use Rattle.fax_sdp.specs.declared.medium.ErrorCorrection.TheVariants.{Redundancy, Parity, Nothing}
use Rattle.fax_sdp.specs.declared.attribute.Attribute.{Attribute}
use Rattle.fax_sdp.specs.declared.attribute.Attribute.TheVariants.{Goes, Version, BitRate, Management, Correction, MaxBuffer, MaxDatagram, Other}
use Rattle.fax_sdp.specs.Texts.{cut_at, is_word, number, without_space}

-- which way the media go
abbrev pub flag : List ℕ → Attribute
flag text =
    if is_word text (codes "sendrecv") then Goes SendReceive else
    if is_word text (codes "sendonly") then Goes SendOnly else
    if is_word text (codes "recvonly") then Goes ReceiveOnly else
    if is_word text (codes "inactive") then Goes Inactive else Other

abbrev pub management : List ℕ → Attribute
management value =
    if is_word value (codes "transferredTCF") then Management Transferred else
    if is_word value (codes "localTCF") then Management Local else Other

abbrev pub correction : List ℕ → Attribute
correction value =
    if is_word value (codes "t38UDPRedundancy") then Correction Redundancy else
    if is_word value (codes "t38UDPFEC") then Correction Parity else
    if is_word value (codes "t38UDPNoEC") then Correction Nothing else Other

-- the version
abbrev pub version : Option ℕ → Attribute
version None = Other
version (Some n) = Version n

-- a bound, by its name; two names are misspelt
abbrev pub bound : List ℕ → Option ℕ → Attribute
bound name None = Other
bound name (Some n) =
    if is_word name (codes "T38FaxMaxDatagram") || is_word name (codes "T38MaxDatagram")
    then MaxDatagram n else if is_word name (codes "T38FaxMaxBuffer") then MaxBuffer n
    else if is_word name (codes "T38MaxBitRate") || is_word name (codes "T38FaxMaxRate")
    then BitRate n else Other

-- what a name and a value say
abbrev pub valued : List ℕ → List ℕ → Attribute
valued name value =
    if is_word name (codes "T38FaxVersion") then version (number value) else
    if is_word name (codes "T38FaxRateManagement") then management value else
    if is_word name (codes "T38FaxUdpEC") then correction value else bound name (number value)

-- with or without a colon
abbrev pub flag_or_valued : List ℕ → Option (List ℕ × List ℕ) → Attribute
flag_or_valued text None = flag text
flag_or_valued text (Some parts) = valued parts.0 (without_space parts.1)

-- what the text after `a=` says; white space after the colon is passed over
abbrev pub attribute : List ℕ → Attribute
attribute text = flag_or_valued text (cut_at 58 text)
