-- What a directory and the numbers of a field show.
use Rattle.fax_tiff.specs.declared.directory.Directory.{Directory}
use Rattle.fax_tiff.specs.declared.directory.Numbers.{Numbers}
use Rattle.fax_tiff.specs.Directories.{DirectoryValue, NumbersValue}

abbrev pub directory_shown : Directory → DirectoryValue
directory_shown directory =
    record { count = directory.count; entries = directory.entries.now; next = directory.next }

abbrev pub numbers_shown : Numbers → NumbersValue
numbers_shown numbers =
    record { long = numbers.long; count = numbers.count; octets = numbers.octets.now }
