-- Spans and moments of a registration, in milliseconds.
use Rattle.std.specs.Prelude.{ℕ, ◌+◌, ◌-◌, ◌*◌, ◌/◌, ◌^◌, min, max}

-- two REGISTERs are so far apart at least; this project's profile
abbrev pub least_pause : ℕ
least_pause = 5000

-- after a first failure, and after many (RFC 5626, 4.5)
abbrev pub first_pause : ℕ
first_pause = 30000

abbrev pub longest_pause : ℕ
longest_pause = 1800000

-- an answer is waited for so long: 64 T1 (RFC 3261, 17.1.2.2)
abbrev pub answer_time : ℕ
answer_time = 32000

-- the end takes so long at most: the answer that is waited for, and the answer to the end
abbrev pub ending_time : ℕ
ending_time = 64000

-- a refresh comes so long before the end at most; this project's profile
abbrev pub margin : ℕ
margin = 90000

-- the moment so long after another; the last one of 64 bits stands for all after it
abbrev pub later : ℕ → ℕ → ℕ
later now span = min (now + span) (2 ^ 64 - 1)

-- twice a pause, up to the longest
abbrev pub longer : ℕ → ℕ
longer pause = min (pause + pause) longest_pause

-- so many seconds from now
abbrev pub expiry : ℕ → ℕ → ℕ
expiry now seconds = later now (1000 * seconds)

-- half of them later, or a margin before they are over, whichever is later
abbrev pub refresh : ℕ → ℕ → ℕ
refresh now seconds = later now (max (1000 * seconds / 2) (1000 * seconds - margin))
