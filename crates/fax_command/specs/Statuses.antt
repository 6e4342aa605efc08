-- The exit statuses (this project's profile).
use Rattle.std.specs.Prelude.{ℕ}
use Rattle.fax_command.specs.declared.status.Status.{Status}
use Rattle.fax_command.specs.declared.status.Status.TheVariants.{Done, Fault, Usage, NoMemory, Stream, Undelivered}

abbrev pub status_code : Status → ℕ
status_code Done = 0
status_code Fault = 1
status_code Usage = 2
status_code NoMemory = 3
status_code Stream = 4
status_code Undelivered = 5
