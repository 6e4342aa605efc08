-- Which call is dropped where too many wait. Lists have the oldest first. (This project's profile.)
use Rattle.std.specs.Prelude.{ℕ, Bool, not, nat_lt, List, length, position, Option, None, if◌then◌else◌}
use Rattle.std.specs.List.{list_any}
use Rattle.fax_spool.specs.Torn.{CallName}
use Rattle.fax_undelivered.specs.Calls.{CallValue, is_named}

-- at most so many calls wait in memory
abbrev pub most_calls : ℕ
most_calls = 64

abbrev pub name_of : CallValue → CallName
name_of call = record { life = call.life; call = call.call; line = call.line }

-- a try of it is under way
abbrev pub is_under_way : List CallName → CallValue → Bool
is_under_way under_way call = list_any (λ name. is_named name call) under_way

-- ONLY WHERE MORE THAN 64 CALLS WAIT IS ONE DROPPED: the oldest of which no try is under way.
abbrev pub dropped_next : List CallName → List CallValue → Option ℕ
dropped_next under_way calls = if nat_lt most_calls (length calls)
    then position (λ call. not (is_under_way under_way call)) calls else None
