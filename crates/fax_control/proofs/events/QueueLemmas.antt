-- What is due to a reader, line by line.
use Rattle.std.proofs.Common.{◌≡◌, ℕ, zero, suc, ◌+◌, ◌<◌, ◌≤◌, min, Bool, true, false, cond, nat_lt, List, [], ◌∷◌, ◌++◌, length, flat_map, drop, slice_get, Option, None, Some, refl, sym, ◌∙◌, ap, append_assoc, append-nil, arith}
use Rattle.std.proofs.lemmas.Bool.{lt-ltb, le-ltb}
use Rattle.std.proofs.lemmas.Grind.{flat_map-append}
use Rattle.std.specs.Option.{IfNone, IfSome}
use Rattle.fax_control.specs.declared.events.queue.Due.{Due}
use Rattle.fax_control.specs.declared.events.queue.WaitingLine.{WaitingLine}
use Rattle.fax_control.specs.events.Queues.{QueuedLine, Line, Lost, after_line, greatest_count, lines_in, lost_lines, next_line, one_more_lost, tellings_of, tellings_of_waiting}

-- what a list of lines that wait tells
abbrev pub told : List WaitingLine → List QueuedLine
told waiting = flat_map tellings_of_waiting waiting

-- a line that waits, with what is told right before it, in front of others
in_front : (lost : ℕ) (octets : List ℕ) (rest : List QueuedLine) → lines_in ((lost_lines lost ++ Line octets ∷ []) ++ rest) ≡ suc (lines_in rest)
in_front zero octets rest = refl
in_front (suc n) octets rest = refl

-- as many lines are due as wait
pub lines_due : (waiting : List WaitingLine) (lost : ℕ) → lines_in (told waiting ++ lost_lines lost) ≡ length waiting
lines_due [] zero = refl
lines_due [] (suc n) = refl
lines_due (first ∷ waiting) lost =
    ap (lines_in) (append_assoc (tellings_of_waiting first) (told waiting) (lost_lines lost))
    ∙ in_front first.lost first.line.items (told waiting ++ lost_lines lost)
    ∙ ap (λ n. suc n) (lines_due waiting lost)

-- a count that is not 0
pub some_lost : (n : ℕ) → 0 < n → lost_lines n ≡ Lost n ∷ []
some_lost zero some = absurd (omega arith)
some_lost (suc n) some = refl

line_first : (octets : List ℕ) (rest : List QueuedLine) → one_more_lost (Line octets ∷ rest) ≡ Line octets ∷ one_more_lost rest
line_first octets [] = refl
line_first octets (next ∷ rest) = refl

-- one more is lost after what is told of a line that waits
after_front : (lost : ℕ) (octets : List ℕ) (rest : List QueuedLine) → one_more_lost ((lost_lines lost ++ Line octets ∷ []) ++ rest) ≡ (lost_lines lost ++ Line octets ∷ []) ++ one_more_lost rest
after_front zero octets rest = line_first octets rest
after_front (suc n) octets rest = ap (λ due. Lost (suc n) ∷ due) (line_first octets rest)

-- one more line is lost after lines that wait
pub loses_one : (waiting : List WaitingLine) (lost : ℕ) → one_more_lost (told waiting ++ lost_lines lost) ≡ told waiting ++ lost_lines (min (lost + 1) greatest_count)
loses_one [] zero = sym (some_lost (min (0 + 1) greatest_count) (omega arith))
loses_one [] (suc n) = sym (some_lost (min (suc n + 1) greatest_count) (omega arith))
loses_one (first ∷ waiting) lost =
    ap one_more_lost (append_assoc (tellings_of_waiting first) (told waiting) (lost_lines lost))
    ∙ after_front first.lost first.line.items (told waiting ++ lost_lines lost)
    ∙ ap (λ due. tellings_of_waiting first ++ due) (loses_one waiting lost)
    ∙ sym (append_assoc (tellings_of_waiting first) (told waiting) (lost_lines (min (lost + 1) greatest_count)))

chosen : (b c : Bool) (x y : List QueuedLine) → b ≡ c → cond b x y ≡ cond c x y
chosen b c x y e = ap (λ t. cond t x y) e

-- a line is kept where there is room
pub keeps : (waiting : List WaitingLine) (lost : ℕ) (one : WaitingLine) (octets : List ℕ) → one.lost ≡ lost → one.line.items ≡ octets → length waiting < 1024
    → told (waiting ++ one ∷ []) ++ lost_lines 0 ≡ after_line (told waiting ++ lost_lines lost) octets
keeps waiting lost one octets same_lost same_line room =
    let due : List QueuedLine = told waiting ++ lost_lines lost in
    let yes : nat_lt (lines_in due) 1024 ≡ true = ap (λ n. nat_lt n 1024) (lines_due waiting lost) ∙ lt-ltb (length waiting) 1024 room in
    append-nil (told (waiting ++ one ∷ []))
    ∙ flat_map-append tellings_of_waiting waiting (one ∷ [])
    ∙ ap (λ more. told waiting ++ more) (append-nil (tellings_of_waiting one))
    ∙ ap (λ n. told waiting ++ (lost_lines n ++ Line one.line.items ∷ [])) same_lost
    ∙ ap (λ l. told waiting ++ (lost_lines lost ++ Line l ∷ [])) same_line
    ∙ sym (append_assoc (told waiting) (lost_lines lost) (Line octets ∷ []))
    ∙ sym (chosen (nat_lt (lines_in due) 1024) true (due ++ Line octets ∷ []) (one_more_lost due) yes)

-- a line is lost where there is none
pub loses : (waiting : List WaitingLine) (lost : ℕ) (octets : List ℕ) → 1024 ≤ length waiting
    → told waiting ++ lost_lines (min (lost + 1) greatest_count) ≡ after_line (told waiting ++ lost_lines lost) octets
loses waiting lost octets full =
    let due : List QueuedLine = told waiting ++ lost_lines lost in
    let no : nat_lt (lines_in due) 1024 ≡ false = ap (λ n. nat_lt n 1024) (lines_due waiting lost) ∙ le-ltb (length waiting) 1024 full in
    sym (loses_one waiting lost) ∙ sym (chosen (nat_lt (lines_in due) 1024) false (due ++ Line octets ∷ []) (one_more_lost due) no)

-- the first line that waits, with what is told right before it
pub takes_first : (waiting : List WaitingLine) (lost : ℕ) (first : WaitingLine) (more : List WaitingLine) → waiting ≡ first ∷ more
    → told waiting ++ lost_lines lost ≡ tellings_of_waiting first ++ (told more ++ lost_lines lost)
takes_first waiting lost first more is =
    ap (λ w. told w ++ lost_lines lost) is ∙ append_assoc (tellings_of_waiting first) (told more) (lost_lines lost)

-- a list with a first item
pub first_of_list : (waiting : List WaitingLine) (first : WaitingLine) → Some first ≡ slice_get waiting 0 → waiting ≡ first ∷ drop 1 waiting
first_of_list [] first is = absurd (cc)
first_of_list (one ∷ more) first is = let same : first ≡ one = cc in ap (λ w. w ∷ more) (sym same)

pub none_of_list : (waiting : List WaitingLine) → None ≡ slice_get waiting 0 → waiting ≡ []
none_of_list [] is = refl
none_of_list (one ∷ more) is = absurd (cc)

-- where no line waits, the lines that were lost are told alone
pub alone_none : {P : Type 0} (r : Option Due) (lost : ℕ) → IfNone r (lost ≡ 0) → (lost ≡ 0 → P) → IfNone r P
alone_none None lost none f = f none
alone_none (Some due) lost none f = tt

pub alone_told : (r : Option Due) (lost : ℕ) (old new : List QueuedLine) → IfSome r (λ due. (due.lost ≡ lost) × (due.line ≡ None) × (0 < lost)) → old ≡ lost_lines lost → new ≡ []
    → IfSome r (λ due. old ≡ tellings_of due ++ new)
alone_told None lost old new told e f = tt
alone_told (Some due) lost old new (same, none, some) e f =
    e
    ∙ sym (ap (λ n. (lost_lines due.lost ++ next_line due.line) ++ n) f ∙ append-nil (lost_lines due.lost ++ next_line due.line)
    ∙ ap (λ l. lost_lines due.lost ++ next_line l) none ∙ append-nil (lost_lines due.lost) ∙ ap (λ n. lost_lines n) same)

some_length : (n : ℕ) (rest : List QueuedLine) → 0 < n → 0 < length (lost_lines n ++ rest)
some_length zero rest some = absurd (omega arith)
some_length (suc n) rest some = omega arith

pub alone_some : (r : Option Due) (lost : ℕ) → IfSome r (λ due. (due.lost ≡ lost) × (due.line ≡ None) × (0 < lost)) → IfSome r (λ due. 0 < length (tellings_of due))
alone_some None lost told = tt
alone_some (Some due) lost (same, none, some) = let more : 0 < due.lost = omega arith in some_length due.lost (next_line due.line) more
