-- Routes: which trunk a number is placed over, and what is dialled there. This project's profile.
use Rattle.std.specs.Prelude.{◌≡◌, ℕ, ◌<◌, ◌≤◌, ◌++◌, nat_eq, nat_le, nat_lt, if◌then◌else◌, List, length, map, drop, slice_index, Result, Ok, Err}
use Rattle.std.specs.Char.{is_ascii_digit}
use Rattle.std.specs.List.{list_all, starts_with}
use Rattle.fax_trunks.specs.declared.number_fault.NumberFault.{NumberFault}
use Rattle.fax_trunks.specs.declared.number_fault.NumberFault.TheVariants.{TooLong, NoDigits, NotADigit}
use Rattle.fax_trunks.specs.Numbers.{digits_of, reading}
use Rattle.fax_trunks.specs.RouteValues.{RouteValue}

-- what is put in front is an optional `+` and digits, or nothing; 32 octets at most
abbrev pub route_of : List ℕ → ℕ → ℕ → List ℕ → Result RouteValue NumberFault
route_of prefix trunk strip add =
    if nat_lt 32 (length add) then Err TooLong else if list_all is_ascii_digit (digits_of add)
    then Ok (record { prefix = prefix; trunk = trunk; strip = strip; add = add }) else Err NotADigit

-- how many octets of a number a prefix takes: all of its own where the number begins with it, and else none
abbrev pub fit_of : List ℕ → List ℕ → ℕ
fit_of number prefix = if starts_with nat_eq number prefix then length prefix else 0

abbrev pub fits_of : List RouteValue → List ℕ → List ℕ
fits_of routes number = map (λ route. fit_of number route.prefix) routes

-- the longest, and the first of these
pub record IsChoice (fits : List ℕ) (chosen : ℕ) : Type 0 where
  pub within : chosen < length fits
  pub fits_some : 0 < slice_index fits chosen
  pub longest : (k : ℕ) → slice_index fits k ≤ slice_index fits chosen
  pub first : (k : ℕ) → k < chosen → slice_index fits k < slice_index fits chosen

-- no prefix begins the number
abbrev pub NoneFits : List ℕ → Type 0
NoneFits fits = (k : ℕ) → slice_index fits k ≡ 0

-- the number without its first octets, and what is put in front; some of the number is left
abbrev pub dialled : RouteValue → List ℕ → Result (List ℕ) NumberFault
dialled route number = if nat_le (length number) route.strip
    then Err NoDigits else reading (route.add ++ drop route.strip number)
