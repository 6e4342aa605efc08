-- A configuration that was read again, and is to be served by another run (this project's profile).
use Rattle.std.specs.Prelude.{ℕ, ◌+◌, ◌-◌, ◌^◌, min, Bool, true, false, not, ◌&&◌, nat_le, Option, is_some, if◌then◌else◌}
use Rattle.fax_control.specs.declared.refusal.Refusal.TheVariants as refusal
use Rattle.fax_desk.specs.declared.card.Card.{Card}
use Rattle.fax_desk.specs.declared.next.Next.{Next}
use Rattle.fax_desk.specs.declared.next.Next.TheVariants as next
use Rattle.fax_desk.specs.declared.reload.Reload.{Reload}
use Rattle.fax_desk.specs.declared.reload.Reload.TheVariants as reload
use Rattle.fax_desk.specs.declared.spool.SpoolFailure.{SpoolFailure}
use Rattle.fax_desk.specs.declared.stop.Stop.{Stop}
use Rattle.fax_desk.specs.declared.stop.Stop.TheVariants as stop
use Rattle.fax_desk.specs.Words.{refuses}

-- ---- A WORD ASKS FOR IT at a server that does not stop, and whose spool has not failed

abbrev pub reload_next : (takes_rings has_failed : Bool) → Next
reload_next false has_failed = refuses refusal.Stopping
reload_next true true = refuses refusal.NoSpool
reload_next true false = next.Reloads

-- ---- IT IS ASKED FOR: lines take calls for as long as a stop takes, and then no more

abbrev pub reload_after : Reload → (now within : ℕ) → Reload
reload_after reload.No now within = reload.Asked (min (now + within) (2 ^ 64 - 1))
reload_after (reload.Asked until) now within = reload.Asked until
reload_after reload.Closed now within = reload.Closed

abbrev pub reload_at : Reload → (now : ℕ) → Reload
reload_at reload.No now = reload.No
reload_at (reload.Asked until) now = if nat_le until now then reload.Closed else reload.Asked until
reload_at reload.Closed now = reload.Closed

abbrev pub is_asked : Reload → Bool
is_asked reload.No = false
is_asked (reload.Asked until) = true
is_asked reload.Closed = true

abbrev pub takes_calls : Stop → Reload → Bool
takes_calls stop.No reload.No = true
takes_calls stop.No (reload.Asked until) = true
takes_calls stop.No reload.Closed = false
takes_calls (stop.At moment) asked = false
takes_calls stop.Now asked = false

-- ---- A LINE THAT IS NOT IN IT, OR NOT SO, takes no call any more: none of its pages may wait

abbrev pub closed_card : Card → Card
closed_card card = record card { limits = record card.limits { most_waiting = 0 } }

-- ---- THE RUN IS OVER for it once no line has a call; one whose spool has failed is over as for that

abbrev pub reloads_now : Option SpoolFailure → Reload → (are_calm : Bool) → Bool
reloads_now failed asked are_calm = not (is_some failed) && is_asked asked && are_calm
