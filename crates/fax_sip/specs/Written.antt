-- Header lines, as they are written (RFC 3261, 7.3.1).
use Rattle.std.specs.Prelude.{ℕ, ◌++◌, List, codes, decimal}
use Rattle.fax_sip.specs.declared.name.Name.{Name}
use Rattle.fax_sip.specs.declared.writing.Field.{Field}
use Rattle.fax_sip.specs.Names.{long}

-- a header line, with its end
abbrev pub header : Name → List ℕ → List ℕ
header name value = long name ++ (codes ": " ++ (value ++ codes "\r\n"))

-- a header line that is told
abbrev pub field_octets : Field → List ℕ
field_octets field = header field.name field.value.now

-- the length of the body, and the empty line
abbrev pub length_line : ℕ → List ℕ
length_line count = codes "Content-Length: " ++ (decimal count ++ codes "\r\n\r\n")
