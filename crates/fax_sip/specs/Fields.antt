-- Header lines and the values of those of one name (RFC 3261, 7.3 and 25.1).
use Rattle.std.specs.Prelude.{◌≡◌, ℕ, Bool, false, ◌&&◌, ◌||◌, ◌==◌, nat_lt, if◌then◌else◌, List, [], ◌∷◌, length, codes, Option, None, Some, Result, Ok, Err}
use Rattle.std.specs.Char.{is_ascii_alphanumeric}
use Rattle.std.specs.List.{filter_map, list_all, list_any}
use Rattle.fax_sip.specs.declared.fault.SipFault.{SipFault}
use Rattle.fax_sip.specs.declared.fault.SipFault.TheVariants.{Missing, Repeated}
use Rattle.fax_sip.specs.declared.mark.Mark.TheVariants.{Octet}
use Rattle.fax_sip.specs.declared.name.Name.{Name}
use Rattle.fax_sip.specs.Names.{is_named}
use Rattle.fax_sip.specs.Texts.{cut, trimmed}

-- an octet of a token
abbrev pub is_token_octet : ℕ → Bool
is_token_octet octet =
    is_ascii_alphanumeric octet || list_any (λ mark. mark == octet) (codes "-.!%*_+`'~")

-- a token: one octet or more
unfoldable pub is_token : List ℕ → Bool
is_token word = nat_lt 0 (length word) && list_all is_token_octet word

abbrev pub has_name : Option (List ℕ × List ℕ) → Bool
has_name None = false
has_name (Some parts) = is_token (trimmed parts.0)

-- a line is a header line: a token, white space aside, stands before its first colon
unfoldable pub is_field : List ℕ → Bool
is_field line = has_name (cut (Octet 58) line)

abbrev pub value_named : Name → Option (List ℕ × List ℕ) → Option (List ℕ)
value_named name None = None
value_named name (Some parts) =
    if is_named name (trimmed parts.0) then Some (trimmed parts.1) else None

-- the value of a line, white space at its ends aside, where the line has this name
unfoldable pub value_of : Name → List ℕ → Option (List ℕ)
value_of name line = value_named name (cut (Octet 58) line)

-- the values of the lines of a name, in their order
abbrev pub values_of : Name → List (List ℕ) → List (List ℕ)
values_of name lines = filter_map (value_of name) lines

-- the first of a list
abbrev pub first_of : {A : Type 0} → List A → Option A
first_of [] = None
first_of (x ∷ xs) = Some x

-- the one value of a name that stands once
abbrev pub only : Name → List (List ℕ) → Result (List ℕ) SipFault
only name [] = Err (Missing name)
only name (value ∷ []) = Ok value
only name (value ∷ other ∷ values) = Err (Repeated name)

abbrev pub single : Name → List (List ℕ) → Result (List ℕ) SipFault
single name lines = only name (values_of name lines)

-- the value of a name that stands once at most
abbrev pub only_or_none : Name → List (List ℕ) → Result (Option (List ℕ)) SipFault
only_or_none name [] = Ok None
only_or_none name (value ∷ []) = Ok (Some value)
only_or_none name (value ∷ other ∷ values) = Err (Repeated name)

abbrev pub at_most_one : Name → List (List ℕ) → Result (Option (List ℕ)) SipFault
at_most_one name lines = only_or_none name (values_of name lines)

-- the first value of a name that stands once at least
abbrev pub some_first : Name → List (List ℕ) → Result (List ℕ) SipFault
some_first name [] = Err (Missing name)
some_first name (value ∷ values) = Ok value

abbrev pub at_least_one : Name → List (List ℕ) → Result (List ℕ) SipFault
at_least_one name lines = some_first name (values_of name lines)

-- What a call answered, seen so, is this.
abbrev pub Gives : {X Y : Type 0} → (X → Y) → Result X SipFault → Result Y SipFault → Type 0
Gives view (Ok x) told = told ≡ Ok (view x)
Gives view (Err fault) told = told ≡ Err fault
