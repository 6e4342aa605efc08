-- The calls of the switch, event by event. An entry is a call after what happened last, with what is to be done for it; a call that is over stands there until the
-- next event.
use Rattle.std.specs.Prelude.{ℕ, ◌+◌, nat_lt, Bool, true, false, if◌then◌else◌, List, [], ◌∷◌, ◌++◌, length, map, filter, take, drop, Option, None, Some}
use Rattle.fax_switch.specs.declared.call.Entry.{Entry}
use Rattle.fax_switch.specs.declared.call.Stage.{Stage}
use Rattle.fax_switch.specs.declared.call.Stage.TheVariants.{Asking, Dropped, Placing, Cancelling, Talking, Over}
use Rattle.fax_switch.specs.declared.event.Event.{Event}
use Rattle.fax_switch.specs.Calls.{begun_by, call_row}

-- the calls, the number of the next one, and how many there may be
pub record Table : Type 0 where
  pub next : ℕ
  pub most : ℕ
  pub entries : List Entry

abbrev pub begun : ℕ → Table
begun most = record { next = 0; most = most; entries = [] }

abbrev pub is_on_at : Stage → Bool
is_on_at (Asking said until) = true
is_on_at (Dropped until) = true
is_on_at (Placing offer again) = true
is_on_at (Cancelling until) = true
is_on_at (Talking session media) = true
is_on_at Over = false

-- calls that are over are let go of
abbrev pub is_on : Entry → Bool
is_on entry = is_on_at entry.call.stage

abbrev pub swept : Table → Table
swept table = record { next = table.next; most = table.most; entries = filter is_on table.entries }

-- there is room for one more
abbrev pub has_room : Table → Bool
has_room table = nat_lt (length table.entries) table.most

-- the call that an event begins; no number is given twice
abbrev pub new_entry : Table → ℕ → Event → Option Entry
new_entry table now event = if nat_lt table.next 18446744073709551615
    then begun_by (has_room table) table.next now event else None

-- each call hears each event
abbrev pub stepped : ℕ → Event → List Entry → List Entry
stepped now event entries = map (λ entry. call_row entry.call now event) entries

-- the same of so many of the first
abbrev pub stepped_first : ℕ → ℕ → Event → List Entry → List Entry
stepped_first count now event entries = stepped now event (take count entries) ++ drop count entries

abbrev pub with_new : Option Entry → Table → Table
with_new None table = table
with_new (Some entry) table =
    record { next = table.next + 1; most = table.most; entries = table.entries ++ entry ∷ [] }

abbrev pub heard : ℕ → Event → Table → Table
heard now event table = with_new (new_entry table now event) (record {
  next = table.next;
  most = table.most;
  entries = stepped now event table.entries;
})

-- What happens at a moment.
abbrev pub row : Table → ℕ → Event → Table
row table now event = heard now event (swept table)
