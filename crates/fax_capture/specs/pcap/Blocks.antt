-- What a block and an option show.
use Rattle.fax_capture.specs.declared.pcap.interface.InterfaceOption.{InterfaceOption}
use Rattle.fax_capture.specs.declared.pcap.pcapng.Block.{Block}
use Rattle.fax_capture.specs.pcap.Captures.{BlockValue, OptionValue}

abbrev pub block_shown : Block → BlockValue
block_shown block = record { kind = block.kind; body = block.body.now }

abbrev pub option_shown : InterfaceOption → OptionValue
option_shown option =
    record { code = option.code; value = option.value.now; after = option.after.now }
