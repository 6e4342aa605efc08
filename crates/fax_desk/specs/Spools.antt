-- What a failed spool comes to, and what is told of a spool (this project's profile).
use Rattle.std.specs.Prelude.{ℕ, ◌+◌, ◌-◌, ◌^◌, min, Bool, true, false, ◌&&◌, ◌||◌, nat_eq, nat_le, Option, Some, None, is_some, if◌then◌else◌}
use Rattle.fax_control.specs.declared.refusal.Refusal.TheVariants as refusal
use Rattle.fax_control.specs.declared.word.Word.{Word}
use Rattle.fax_control.specs.declared.word.Word.TheVariants as word
use Rattle.fax_control.specs.declared.events.event.What.{What}
use Rattle.fax_control.specs.declared.events.event.What.TheVariants as what
use Rattle.fax_desk.specs.declared.next.Reply.{Reply}
use Rattle.fax_desk.specs.declared.next.Reply.TheVariants as reply
use Rattle.fax_desk.specs.declared.spool.Damage.{Damage}
use Rattle.fax_desk.specs.declared.spool.SpoolFailure.{SpoolFailure}
use Rattle.fax_desk.specs.declared.spool.RunEnd.{RunEnd}
use Rattle.fax_desk.specs.declared.spool.RunEnd.TheVariants as run_end
use Rattle.fax_desk.specs.declared.spool.SpoolTold.{SpoolTold}
use Rattle.fax_desk.specs.declared.reload.Reload.{Reload}
use Rattle.fax_desk.specs.declared.stop.Stop.{Stop}
use Rattle.fax_desk.specs.declared.stop.Stop.TheVariants as stop
use Rattle.fax_desk.specs.Reloads.{is_asked, reloads_now}
use Rattle.fax_desk.specs.Stops.{is_over, takes_rings}

-- ---- A SPOOL THAT HAS FAILED ends the run: 10 s later at the earliest, where no line has a call, and as late as a stop does at the latest

abbrev pub failed_at : (now within : ℕ) → SpoolFailure
failed_at now within =
    record { first = min (now + 10000) (2 ^ 64 - 1); last = min (now + within) (2 ^ 64 - 1) }

-- it counts from the moment at which that was seen first
abbrev pub failed_after : Option SpoolFailure
    → (has_failed : Bool) → (now within : ℕ) → Option SpoolFailure
failed_after (Some failed) has_failed now within = Some failed
failed_after None false now within = None
failed_after None true now within = Some (failed_at now within)

abbrev pub is_news : Option SpoolFailure → (has_failed : Bool) → Bool
is_news (Some failed) has_failed = false
is_news None has_failed = has_failed

abbrev pub is_drained : Option SpoolFailure → (now : ℕ) → (are_calm : Bool) → Bool
is_drained None now are_calm = false
is_drained (Some failed) now are_calm =
    nat_le failed.first now && (are_calm || nat_le failed.last now)

-- What a stop waits for: that no line has a call or a job; where the spool has failed, that none has a call, since jobs that wait are on
-- the disk, and none is asked for any more.
abbrev pub are_at_rest : Option SpoolFailure → (are_idle are_calm : Bool) → Bool
are_at_rest failed are_idle are_calm = if is_some failed then are_calm else are_idle

-- THE RUN IS OVER: one that was told to stop as a stop says; else one whose spool has failed, or whose configuration is to be served by
-- another run
abbrev pub run_is_over : Stop
    → Option SpoolFailure → Reload → (now : ℕ) → (are_idle are_calm : Bool) → Bool
run_is_over before failed asked now are_idle are_calm =
    if takes_rings before then is_drained failed now are_calm || reloads_now failed asked are_calm
    else is_over before now (are_at_rest failed are_idle are_calm)

-- how it ends
abbrev pub end_of : Stop → Option SpoolFailure → Reload → RunEnd
end_of stop.No None asked = if is_asked asked then run_end.Reload else run_end.Stopped
end_of stop.No (Some failed) asked = run_end.SpoolFailed
end_of (stop.At moment) failed asked = run_end.Stopped
end_of stop.Now failed asked = run_end.Stopped

-- ---- WHAT IS TOLD OF THE SPOOL FIRST, to each client that comes later too: what the start found damaged, and that it has failed

abbrev pub damage_told : Damage → Option What
damage_told damage = if nat_eq damage.records 0 && nat_eq damage.octets 0
    then None else Some (what.Damaged damage.records damage.octets)

abbrev pub failure_told : Option SpoolFailure → Option What
failure_told None = None
failure_told (Some failed) = Some what.SpoolFailed

abbrev pub spool_told : Damage → Option SpoolFailure → SpoolTold
spool_told damage failed = record { damage = damage_told damage; failure = failure_told failed }

-- ---- WHILE NO LINE IS SERVED, since the spool cannot be opened, a stop is done, and each other word refused

abbrev pub unserved_reply : Word → Reply
unserved_reply word.Stop = reply.Done
unserved_reply (word.Ring ring) = reply.Refused (record { why = refusal.NoSpool })
unserved_reply (word.Peer peer) = reply.Refused (record { why = refusal.NoSpool })
unserved_reply (word.HangUp name leg) = reply.Refused (record { why = refusal.NoSpool })
unserved_reply (word.Refuse name why) = reply.Refused (record { why = refusal.NoSpool })
unserved_reply (word.Report name) = reply.Refused (record { why = refusal.NoSpool })
unserved_reply (word.Undelivered name) = reply.Refused (record { why = refusal.NoSpool })
unserved_reply (word.Discard said) = reply.Refused (record { why = refusal.NoSpool })
unserved_reply (word.Retry said) = reply.Refused (record { why = refusal.NoSpool })
unserved_reply word.Status = reply.Refused (record { why = refusal.NoSpool })
unserved_reply word.Metrics = reply.Refused (record { why = refusal.NoSpool })
unserved_reply word.Events = reply.Refused (record { why = refusal.NoSpool })
unserved_reply word.Reload = reply.Refused (record { why = refusal.NoSpool })
unserved_reply (word.Frames name) = reply.Refused (record { why = refusal.NoSpool })
