-- What the values that were found of a command's options mean, as clap tells them: a row for each option. (This project's
-- profile.)
use Rattle.std.specs.Prelude.{◌≡◌, ℕ, ◌≤◌, Bool, true, false, List, Option, Some, None, codes, if◌then◌else◌}
use Rattle.std.specs.Str.{bytes_eq}
use Rattle.std.specs.Str.Parse.{IsNumeral, digits_value, without_leading_plus}
use Rattle.clap.specs.Words.{Row, Text, first_of, one_of}
use Rattle.fax_runcodes.specs.declared.Width.{Width}
use Rattle.fax_runcodes.specs.declared.Width.TheVariants.{W1728, W2048, W2432}
use Rattle.fax_runcodes.specs.declared.format.Format.{Format}
use Rattle.fax_runcodes.specs.declared.format.Coding.{Coding}
use Rattle.fax_runcodes.specs.declared.format.Coding.TheVariants.{Mh, Mr}
use Rattle.fax_wires.specs.declared.repeat.policy.RepeatPolicy.{RepeatPolicy}
use Rattle.fax_wires.specs.declared.repeat.policy.RepeatPolicy.TheVariants.{Full, Once, Never}
use Rattle.fax_timers.specs.Spans.{longest_pause, pace}
use Rattle.fax_udptl.specs.Sending.{most_redundancy}
use Rattle.fax_gateway.specs.declared.settings.Settings.{Settings}

-- the value of the decimal digits of a text, which may have a plus before them
abbrev pub decimal_value : Text → ℕ
decimal_value text = digits_value 10 (without_leading_plus text)

-- The number that a text says, which lies within its limits; the usual one where there is no text.
pub record IsNumberOf (text : Option Text) (least most usual number : ℕ) : Type 0 where
  pub said : (digits : Text) → text ≡ Some digits → IsNumeral 10 (without_leading_plus digits)
      → least ≤ decimal_value digits → decimal_value digits ≤ most → number ≡ decimal_value digits
  pub unsaid : text ≡ None → number ≡ usual
  pub at_least : least ≤ number
  pub at_most : number ≤ most

-- whether a flag was given
pub record IsFlagOf (text : Option Text) (flag : Bool) : Type 0 where
  pub given : text ≡ Some (codes "true") → flag ≡ true
  pub ungiven : text ≡ Some (codes "false") → flag ≡ false
  pub unsaid : text ≡ None → flag ≡ false

-- the width by its elements
abbrev pub width_named : Option Text → Width
width_named None = W1728
width_named (Some text) =
    if bytes_eq text (codes "2432") then W2432
    else if bytes_eq text (codes "2048") then W2048
    else W1728

-- the coding by its name
abbrev pub coding_named : Option Text → Coding
coding_named None = Mh
coding_named (Some text) = if bytes_eq text (codes "mr") then Mr else Mh

-- the policy of repeats by its name
abbrev pub repeat_named : Option Text → RepeatPolicy
repeat_named None = Full
repeat_named (Some text) =
    if bytes_eq text (codes "last") then Once
    else if bytes_eq text (codes "none") then Never
    else Full

pub record IsFormatOf (given : List Row) (format : Format) : Type 0 where
  pub width : format.width ≡ width_named (first_of (codes "width") given)
  pub fine : IsFlagOf (one_of (codes "fine") given) format.fine

-- the settings of both legs: a job's call begins by itself, and what is held is not bounded
pub record AreSettingsOf (given : List Row) (settings : Settings) : Type 0 where
  pub redundancy :
      IsNumberOf (one_of (codes "redundancy") given) 0 most_redundancy 3 settings.redundancy
  pub preamble :
      IsNumberOf (one_of (codes "preamble") given) pace longest_pause 40 settings.preamble_ms
  pub asks : settings.asks ≡ false
  pub memory : settings.memory ≡ 18446744073709551615

-- those of a gateway on which a script is played: a job's call is asked for where --asks is given
pub record AreScriptSettingsOf (given : List Row) (settings : Settings) : Type 0 where
  pub legs : AreSettingsOf given (record settings { asks = false })
  pub asks : IsFlagOf (one_of (codes "asks") given) settings.asks
