-- The end of a server (this project's profile).
use Rattle.std.specs.Prelude.{ℕ, ◌+◌, ◌-◌, ◌^◌, min, Bool, true, false, ◌||◌, nat_le}
use Rattle.fax_desk.specs.declared.stop.Stop.{Stop}
use Rattle.fax_desk.specs.declared.stop.Stop.TheVariants as stop

abbrev pub stop_after : Stop → (now within : ℕ) → Stop
stop_after stop.No now within = stop.At (min (now + within) (2 ^ 64 - 1))
stop_after (stop.At moment) now within = stop.Now
stop_after stop.Now now within = stop.Now

abbrev pub takes_rings : Stop → Bool
takes_rings stop.No = true
takes_rings (stop.At moment) = false
takes_rings stop.Now = false

abbrev pub is_over : Stop → (now : ℕ) → (are_idle : Bool) → Bool
is_over stop.No now are_idle = false
is_over (stop.At moment) now are_idle = are_idle || nat_le moment now
is_over stop.Now now are_idle = true
