-- What a read and a write leave of the streams (this project's profile).
use Rattle.std.specs.Prelude.{ℕ, ◌+◌, ◌-◌, ◌^◌, min, Bool, true, List, Option, Result, Ok, Err}
use Rattle.std.specs.Io.KnownBytes.{Appends, append_known}
use Rattle.fax_command.specs.declared.stream.ReadFault.{ReadFault}
use Rattle.fax_command.specs.declared.stream.ReadFault.TheVariants.{Interrupted, Failed}

-- whether a read has failed, once one more gave this
abbrev pub failed_after_read : Bool → Result ℕ ReadFault → Bool
failed_after_read failed (Ok n) = failed
failed_after_read failed (Err Interrupted) = failed
failed_after_read failed (Err Failed) = true

-- where counts stop
abbrev pub greatest_count : ℕ
greatest_count = 2 ^ 64 - 1

-- how many octets reads have given, once one more gave this
abbrev pub given_after_read : ℕ → Result ℕ ReadFault → ℕ
given_after_read given (Ok n) = min (given + n) greatest_count
given_after_read given (Err fault) = given

-- whether a write has failed, once one more ended so
abbrev pub failed_after_write : {E : Type 0} → Bool → Result Unit E → Bool
failed_after_write failed (Ok done) = failed
failed_after_write failed (Err fault) = true

-- A text was put into a sink, or after the octets that wait to be written to it: what it holds and what waits,
-- before and after.
pub record Puts (old : Option (List ℕ))
    (waiting : List ℕ) (new : Option (List ℕ)) (still_waiting text : List ℕ) : Type 0 where
  pub grows : Appends (append_known old waiting) (append_known new still_waiting) text
