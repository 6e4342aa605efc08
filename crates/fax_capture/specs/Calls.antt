-- CALLS of the caller, one after the other in a capture, by the datagrams of its leg. (ITU-T T.38, UDPTL: a machine numbers the
-- datagrams of a call up from 0, in 16 bits. ITU-T T.30: no timer is longer than T5, of 60 s. That a datagram comes at most eight
-- numbers late, and that of number 0 not at all, is this project's profile.)
use Rattle.std.specs.Prelude.{ℕ, ◌+◌, ◌-◌, ◌==◌, ◌&&◌, ◌||◌, nat_lt, Bool, true, false, List, Option, Some, None, Result, Ok, Err, if◌then◌else◌}
use Rattle.fax_udptl.specs.declared.fault.UdptlFault.{UdptlFault}
use Rattle.fax_udptl.specs.Datagrams.{DatagramValue, datagram_of}
use Rattle.fax_capture.specs.declared.address.Role.{Role}
use Rattle.fax_capture.specs.declared.address.Role.TheVariants.{FromCaller, ToCaller}
use Rattle.fax_capture.specs.declared.leg.CallingLeg.{CallingLeg}

-- the number of a datagram that reads as UDPTL
abbrev pub number_in : Result DatagramValue UdptlFault → Option ℕ
number_in (Ok datagram) = Some datagram.number
number_in (Err fault) = None

abbrev pub number_of : List ℕ → Option ℕ
number_of octets = number_in (datagram_of octets)

-- nothing was heard
abbrev pub silent_leg : CallingLeg
silent_leg = record { from_caller = None; to_caller = None; time = None }

-- by how many numbers a datagram comes late at most
abbrev pub lateness : ℕ → ℕ
lateness number = if number == 0 then 0 else 8

-- A number lies further below the last one, and not so far that the numbers only went on from 65,535 to 0.
abbrev pub starts_over : Option ℕ → ℕ → Bool
starts_over None number = false
starts_over (Some last) number =
    nat_lt (number + lateness number) last && nat_lt last (number + 65528)

-- More than 60 s passed, in nanoseconds.
abbrev pub is_silence : Option ℕ → Option ℕ → Bool
is_silence (Some last) (Some time) = nat_lt 60000000000 (time - last)
is_silence last time = false

-- A call begins anew where the numbers start over of what comes from the caller, or of what goes to it, or after more than 60 s in
-- which nothing did.
abbrev pub begins_anew : CallingLeg → Role → Option ℕ → Option ℕ → Bool
begins_anew leg FromCaller (Some number) time =
    starts_over leg.from_caller number || is_silence leg.time time
begins_anew leg ToCaller (Some number) time =
    starts_over leg.to_caller number || is_silence leg.time time
begins_anew leg role number time = false

-- With a call the numbers of the other way begin anew too.
abbrev pub kept : Bool → Option ℕ → Option ℕ
kept true last = None
kept false last = last

-- what was heard last, after a datagram with which a call begins, or goes on
abbrev pub leg_with : CallingLeg → Role → Option ℕ → Option ℕ → Bool → CallingLeg
leg_with leg FromCaller (Some number) time begins =
    record { from_caller = Some number; to_caller = kept begins leg.to_caller; time = time }
leg_with leg ToCaller (Some number) time begins =
    record { from_caller = kept begins leg.from_caller; to_caller = Some number; time = time }
leg_with leg role number time begins = leg

-- the call that is asked for, counted from 1, or each
abbrev pub is_asked : Option ℕ → ℕ → Bool
is_asked None call = true
is_asked (Some asked) call = asked == call
