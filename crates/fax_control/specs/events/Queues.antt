-- The lines that wait for a reader, and the places where some were lost (this project's profile).
use Rattle.std.specs.Prelude.{ℕ, zero, suc, ◌+◌, ◌-◌, ◌^◌, min, nat_lt, List, [], ◌∷◌, ◌++◌, flat_map, if◌then◌else◌, Option, None, Some, Vec}
use Rattle.fax_control.specs.declared.events.queue.Due.{Due}
use Rattle.std.specs.declared.alloc.Global.{Global}
use Rattle.fax_control.specs.declared.events.queue.WaitingLine.{WaitingLine}
use Rattle.fax_control.specs.declared.events.queue.EventQueue.{EventQueue}

-- What a reader is told: a line, or that so many lines were lost at this place.
pub data QueuedLine : Type 0 where
  Line : List ℕ → QueuedLine
  Lost : ℕ → QueuedLine

-- how many lines are due
abbrev pub lines_in : List QueuedLine → ℕ
lines_in [] = 0
lines_in (Line octets ∷ due) = suc (lines_in due)
lines_in (Lost count ∷ due) = lines_in due

-- nothing is told where no line was lost
abbrev pub lost_lines : ℕ → List QueuedLine
lost_lines zero = []
lost_lines (suc n) = Lost (suc n) ∷ []

-- a line, where there is one
abbrev pub next_line : Option (Vec ℕ Global) → List QueuedLine
next_line None = []
next_line (Some line) = Line line.items ∷ []

-- lines that were lost, and the line after them
abbrev pub tellings_of : Due → List QueuedLine
tellings_of due = lost_lines due.lost ++ next_line due.line

-- a line that waits, after those that were lost right before it
abbrev pub tellings_of_waiting : WaitingLine → List QueuedLine
tellings_of_waiting waiting = lost_lines waiting.lost ++ Line waiting.line.items ∷ []

-- what a reader will be told, in order
abbrev pub due_of : EventQueue → List QueuedLine
due_of queue = flat_map tellings_of_waiting queue.waiting.items ++ lost_lines queue.lost

-- where the count of lost lines stops
abbrev pub greatest_count : ℕ
greatest_count = 2 ^ 64 - 1

-- one more line is lost right after this
abbrev pub lost_after : QueuedLine → List QueuedLine
lost_after (Line octets) = Line octets ∷ Lost 1 ∷ []
lost_after (Lost count) = Lost (min (count + 1) greatest_count) ∷ []

-- one more line is lost after all that is due
abbrev pub one_more_lost : List QueuedLine → List QueuedLine
one_more_lost [] = Lost 1 ∷ []
one_more_lost (last ∷ []) = lost_after last
one_more_lost (first ∷ second ∷ due) = first ∷ one_more_lost (second ∷ due)

-- what is due once a line comes: it is kept where fewer than 1,024 wait, and else it is lost
abbrev pub after_line : List QueuedLine → List ℕ → List QueuedLine
after_line due line =
    if nat_lt (lines_in due) 1024 then due ++ Line line ∷ [] else one_more_lost due
