-- What is counted of a leg (this project's profile). Counts stop at the greatest `u64`.
use Rattle.std.specs.Prelude.{ℕ, ◌+◌, ◌-◌, ◌^◌, min, Bool, true, false}
use Rattle.fax_legs.specs.declared.leg_socket.LegCounts.{LegCounts}

abbrev pub no_counts : LegCounts
no_counts = record { received = 0; sent = 0; receive_failures = 0; send_failures = 0; unsent = 0 }

abbrev pub one_more : ℕ → ℕ
one_more count = min (count + 1) (2 ^ 64 - 1)

-- a datagram came; it could not be received
abbrev pub one_received : LegCounts → LegCounts
one_received old = record old { received = one_more old.received }

abbrev pub one_not_received : LegCounts → LegCounts
one_not_received old = record old { receive_failures = one_more old.receive_failures }

-- one was handed to the system, which took it or not
abbrev pub one_handed : Bool → LegCounts → LegCounts
one_handed true old = record old { sent = one_more old.sent }
one_handed false old = record old { send_failures = one_more old.send_failures }

-- one was dropped, since there is no peer
abbrev pub one_unsent : LegCounts → LegCounts
one_unsent old = record old { unsent = one_more old.unsent }
