-- Spans of time, in milliseconds.
use Rattle.std.specs.Prelude.{ℕ}

-- T1: how long two terminals try to identify each other (ITU-T T.30, 5.4.3.1)
abbrev pub t1 : ℕ
t1 = 35000

-- T2: how long a terminal waits for the next command before it looks for it anew (ITU-T T.30, 5.4.3.1)
abbrev pub t2 : ℕ
t2 = 6000

-- T4: how long a terminal waits for the response to a command (ITU-T T.30, 5.4.3.1)
abbrev pub t4 : ℕ
t4 = 3000

-- the least time between two packets given on a leg (this project's profile)
abbrev pub pace : ℕ
pace = 40

-- the longest pause after a preamble (this project's profile)
abbrev pub longest_pause : ℕ
longest_pause = 2000
