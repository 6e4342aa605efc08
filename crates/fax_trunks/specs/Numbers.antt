-- Numbers: what octets are one, and why others are none.
use Rattle.std.specs.Prelude.{ℕ, ◌==◌, ◌&&◌, nat_le, nat_lt, Bool, if◌then◌else◌, List, [], ◌∷◌, length, Option, None, Some, Result, Ok, Err}
use Rattle.std.specs.Char.{is_ascii_digit}
use Rattle.std.specs.List.{list_all}
use Rattle.fax_trunks.specs.declared.number_fault.NumberFault.{NumberFault}
use Rattle.fax_trunks.specs.declared.number_fault.NumberFault.TheVariants.{NoUser, TooLong, NoDigits, NotADigit}

-- octets without a `+` in front
abbrev pub digits_of : List ℕ → List ℕ
digits_of [] = []
digits_of (octet ∷ octets) = if octet == 43 then octets else octet ∷ octets

-- an optional `+` and digits, one at least; 32 octets at most
abbrev pub is_number : List ℕ → Bool
is_number octets = nat_lt 0 (length (digits_of octets))
    && list_all is_ascii_digit (digits_of octets) && nat_le (length octets) 32

-- why octets are no number: the first of these that holds
abbrev pub fault_of : List ℕ → NumberFault
fault_of octets = if nat_lt 32 (length octets)
    then TooLong else if nat_lt 0 (length (digits_of octets)) then NotADigit else NoDigits

-- the number, or why there is none
abbrev pub reading : List ℕ → Result (List ℕ) NumberFault
reading octets = if is_number octets then Ok octets else Err (fault_of octets)

-- the same of the user of an address, where there is one
abbrev pub reading_of_user : Option (List ℕ) → Result (List ℕ) NumberFault
reading_of_user None = Err NoUser
reading_of_user (Some user) = reading user
