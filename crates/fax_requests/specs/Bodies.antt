-- What we tell of our media (T.38, annex D): its address, and our bounds, 1,800 and 1,400 octets (this project's profile).
use Rattle.std.specs.Net.Socket.{socket_ip, socket_port}
use Rattle.fax_sdp.specs.declared.writing.AudioFormats.{AudioFormats}
use Rattle.fax_sdp.specs.declared.writing.Origin.{Origin}
use Rattle.fax_sdp.specs.declared.writing.Section.{Section}
use Rattle.fax_sdp.specs.declared.writing.Section.TheVariants as section
use Rattle.fax_switch.specs.declared.media.Offer.{Offer}
use Rattle.fax_switch.specs.declared.media.Offer.TheVariants as offer
use Rattle.fax_requests.specs.declared.body.OurMedia.{OurMedia}

abbrev pub origin_by : OurMedia → Origin
origin_by ours =
    record { session = ours.session; version = ours.version; host = socket_ip ours.address }

abbrev pub section_at : OurMedia → AudioFormats → Offer → Section
section_at ours formats offer.Fax =
    section.Fax (record { port = socket_port ours.address; max_buffer = 1800; max_datagram = 1400 })
section_at ours formats offer.Audio =
    section.Audio (record { port = socket_port ours.address; formats = formats })

abbrev pub section_by : OurMedia → AudioFormats → Section
section_by ours formats = section_at ours formats ours.offer
