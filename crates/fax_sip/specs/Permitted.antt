-- What may be written (RFC 3261, 7.3.1 and 25.1): no text that is told ends its line.
use Rattle.std.specs.Prelude.{ℕ, Bool, true, false, not, ◌&&◌, ◌||◌, ◌==◌, nat_le, nat_lt, if◌then◌else◌, List, length, codes, Option, None, Some}
use Rattle.std.specs.List.{filter_map, list_all, list_any}
use Rattle.fax_sip.specs.declared.name.Name.{Name}
use Rattle.fax_sip.specs.declared.name.Name.TheVariants as name
use Rattle.fax_sip.specs.declared.write_fault.WriteFault.{WriteFault}
use Rattle.fax_sip.specs.declared.write_fault.WriteFault.TheVariants.{BadField}
use Rattle.fax_sip.specs.declared.writing.Field.{Field}
use Rattle.fax_sip.specs.Fields.{first_of}

-- an octet of a text in one line: no control character but the tab
abbrev pub is_text_octet : ℕ → Bool
is_text_octet octet = octet == 9 || (nat_le 32 octet && not (octet == 127))

abbrev pub is_text : List ℕ → Bool
is_text text = list_all is_text_octet text

-- a visible octet of ASCII that parts no values and no parameters: neither a comma, a semicolon, a quotation mark nor an angle bracket
abbrev pub is_visible_octet : ℕ → Bool
is_visible_octet octet =
    nat_lt 32 octet && nat_lt octet 127 && not (list_any (λ mark. mark == octet) (codes ",;\"<>"))

abbrev pub is_visible : List ℕ → Bool
is_visible text = nat_lt 0 (length text) && list_all is_visible_octet text

-- a visible octet of ASCII that may stand in an address between angle brackets
abbrev pub is_address_octet : ℕ → Bool
is_address_octet octet =
    nat_lt 32 octet && nat_lt octet 127 && not (list_any (λ mark. mark == octet) (codes "\"<>"))

abbrev pub is_address : List ℕ → Bool
is_address text = nat_lt 0 (length text) && list_all is_address_octet text

-- the header lines that a message gets of itself, or that no end of a call writes
abbrev pub is_own : Name → Bool
is_own name.Via = true
is_own name.From = true
is_own name.To = true
is_own name.CallId = true
is_own name.CSeq = true
is_own name.MaxForwards = true
is_own name.RecordRoute = true
is_own name.ContentLength = true
is_own other = false

-- why a header line is not told
abbrev pub field_fault : Field → Option WriteFault
field_fault field =
    if is_own field.name || not (is_text field.value.now) then Some (BadField field.name) else None

-- why the first that is not told is not
abbrev pub fields_fault : List Field → Option WriteFault
fields_fault fields = first_of (filter_map field_fault fields)
