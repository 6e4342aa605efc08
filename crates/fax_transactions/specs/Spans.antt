-- Spans and moments, in milliseconds (RFC 3261, 17.1.1.1 and table 4 of annex A).
use Rattle.std.specs.Prelude.{ℕ, ◌+◌, ◌-◌, ◌^◌, min}

-- an estimate of the round trip
abbrev pub t1 : ℕ
t1 = 500

-- the longest pause between two sendings of what is no INVITE, and of an answer to an INVITE
abbrev pub t2 : ℕ
t2 = 4000

-- how long a message stays in the network
abbrev pub t4 : ℕ
t4 = 5000

-- 64 T1
abbrev pub timeout : ℕ
timeout = 32000

-- the moment so long after another; the last one of 64 bits stands for all after it
abbrev pub later : ℕ → ℕ → ℕ
later now span = min (now + span) (2 ^ 64 - 1)

-- twice a pause
abbrev pub doubled : ℕ → ℕ
doubled pause = min (pause + pause) (2 ^ 64 - 1)

-- twice a pause, at most T2
abbrev pub longer : ℕ → ℕ
longer pause = min (doubled pause) t2
