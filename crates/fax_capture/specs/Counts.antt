-- COUNTS of a capture's datagrams, by whom they came from, and of its calls. (This project's profile.)
use Rattle.std.specs.Prelude.{ℕ, ◌+◌, ◌-◌, ◌==◌, min, Bool, true, false, List, if◌then◌else◌}
use Rattle.fax_capture.specs.declared.address.Role.{Role}
use Rattle.fax_capture.specs.declared.address.Role.TheVariants.{FromCaller, FromCalled, ToCaller, ToCalled, CallerInFragments, CalledInFragments, Unrelated}
use Rattle.fax_capture.specs.declared.counts.Counts.{Counts}
use Rattle.fax_capture.specs.declared.machines.Machines.{Machines}
use Rattle.fax_capture.specs.Signals.{seems_exchanged}

-- A capture begins with its first call.
abbrev pub no_counts : Machines → Counts
no_counts machines = record {
  machines = machines;
  from_caller = 0;
  from_called = 0;
  in_fragments = 0;
  passed_over = 0;
  calls = 1;
  of_other_calls = 0;
  exchanged = 0;
}

-- one more, of as many as 64 bits count
abbrev pub one_more : ℕ → ℕ
one_more count = min (count + 1) 18446744073709551615

abbrev pub one_more_if : Bool → ℕ → ℕ
one_more_if true count = one_more count
one_more_if false count = count

-- One datagram more. One that was sent to either of the two by another host, the gateway, is used, and not counted.
abbrev pub counts_with : Counts → Role → Counts
counts_with counts FromCaller = record counts { from_caller = one_more counts.from_caller }
counts_with counts FromCalled = record counts { from_called = one_more counts.from_called }
counts_with counts CallerInFragments = record counts { in_fragments = one_more counts.in_fragments }
counts_with counts CalledInFragments = record counts { in_fragments = one_more counts.in_fragments }
counts_with counts ToCaller = counts
counts_with counts ToCalled = counts
counts_with counts Unrelated = record counts { passed_over = one_more counts.passed_over }

-- one datagram more that is told
abbrev pub counts_told : Counts → Role → List ℕ → Counts
counts_told counts role octets = record (counts_with counts role) {
  exchanged = one_more_if (seems_exchanged role octets) counts.exchanged;
}

-- One of the datagrams in fragments is put together. Of as many as 64 bits count it is not known how many are left.
abbrev pub one_less : ℕ → ℕ
one_less count = if count == 18446744073709551615 then count else count - 1

abbrev pub counts_of_whole : Counts → Counts
counts_of_whole counts = record counts { in_fragments = one_less counts.in_fragments }

-- A call more, where one begins anew.
abbrev pub counts_of_call : Counts → Bool → Counts
counts_of_call counts begins = record counts { calls = one_more_if begins counts.calls }

-- one datagram more that is in another call than is asked for
abbrev pub counts_of_other : Counts → Counts
counts_of_other counts = record counts { of_other_calls = one_more counts.of_other_calls }
