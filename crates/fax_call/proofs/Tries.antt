-- What asks for an answer is counted: what was given of it, and what waits.
use Rattle.std.proofs.Common.{◌≡◌, ℕ, zero, suc, ◌+◌, ◌≤◌, ◌<◌, nat_le, nat_lt, Bool, true, false, List, [], ◌∷◌, length, take, drop, replicate, Option, Some, None, Result, Ok, Err, refl, sym, ◌∙◌, ap, subst, arith, if◌then◌else◌}
use Rattle.fax_runcodes.specs.declared.format.Format.{Format}
use Rattle.fax_frames.specs.declared.dis.Dis.{Dis}
use Rattle.fax_frames.specs.declared.dcs.Dcs.{Dcs}
use Rattle.fax_frames.specs.declared.frame.Frame.{Frame}
use Rattle.fax_frames.specs.declared.frame.Frame.TheVariants as frames
use Rattle.fax_frames.specs.declared.choice.Refusal.{Refusal}
use Rattle.fax_frames.specs.Choice.{choice}
use Rattle.fax_frames.specs.Frames.{frame_of}
use Rattle.fax_frames.specs.Rates.{kind_of}
use Rattle.fax_frames.specs.Written.{written_dcs}
use Rattle.fax_timers.specs.Moments.{is_due}
use Rattle.fax_timers.specs.Paces.{pace_allows}
use Rattle.fax_ifp.specs.Pieces as pieces
use Rattle.fax_jobs.specs.declared.outcome.Outcome.TheVariants as outcomes
use Rattle.fax_jobs.specs.Jobs.{JobValue}
use Rattle.fax_call.specs.declared.state.State.{State}
use Rattle.fax_call.specs.declared.state.State.TheVariants.{Idle, AwaitDis, AwaitCfr, AwaitMcf, Closing}
use Rattle.fax_call.specs.Writings.{Writing}
use Rattle.fax_call.specs.Replies.{Packet, Tells, Part, Due, One, Text, waits, is_last_page, turn_after, part_length, parts_of, check_length, training_check, training, command_by, command, image}
use Rattle.fax_call.specs.Table.{Counts, Move, Stays, Trains, Sends, AsksAgain, Turns, Closes, HangsUp, first_try, next_try, next_step, next_page, one_delivered, one_refused, most_tries, by_choice, tries_again, asks_again, turns_or, on_frame, on_timers}
use Rattle.fax_call.specs.Calls.{CallerCore, started, moved, came, timed, text_at, TakenPart, taken, state_when_given, after_giving, TickResult, given_first, paced, ticked, CallEvent, Comes, Ticks, after_events}
use Rattle.fax_call.specs.Tries.{asks_for, asks, answers_by, answers, asked_by, asked, ThreeTries}
use Rattle.fax_call.proofs.PacketsBack.{dcs_back}

-- ---- WHAT WAITS

abbrev one_if : Bool → ℕ
one_if true = 1
one_if false = 0

abbrev asking : List Due → ℕ
asking [] = 0
asking (One packet ∷ due) = one_if (asks packet) + asking due
asking (Text page dcs from ∷ due) = asking due

asking_parts : (most kind n : ℕ) (octets : List ℕ) → asking (parts_of most kind n octets) ≡ 0
asking_parts zero kind n octets = refl
asking_parts (suc most) kind n octets = by (asking_parts most kind n (drop n octets)) (nat_le (length octets) n)
  where
    by : asking (parts_of most kind n (drop n octets)) ≡ 0 → (t : Bool) → asking (if t then One (Part kind true octets) ∷ [] else One (Part kind false (take n octets)) ∷ parts_of most kind n (drop n octets)) ≡ 0
    by i true = refl
    by i false = omega arith

asking_check : (dcs : Dcs) → asking (training_check dcs) ≡ 0
unfolding training_check
asking_check dcs = asking_parts (check_length dcs) (kind_of dcs.rate) (part_length dcs) (replicate (check_length dcs) 0)

asking_training : (dcs : Dcs) → asking (training dcs) ≡ 1
asking_training dcs =
    let c : asking (training_check dcs) ≡ 0 = asking_check dcs in
    let d : one_if (asks (Tells (written_dcs dcs))) ≡ 1 = ap (λ (o : Option Frame). one_if (asks_for o)) (dcs_back dcs) in
    omega arith

asking_command : (end : Bool) (turn : Option Format) → asking (command (command_by end turn)) ≡ 1
asking_command true turn = refl
asking_command false (Some format) = refl
asking_command false None = refl

asking_image : (end : Bool) (turn : Option Format) (page : ℕ) (dcs : Dcs) → asking (image (command_by end turn) page dcs) ≡ 1
asking_image true turn page dcs = refl
asking_image false (Some format) page dcs = refl
asking_image false None page dcs = refl

-- ---- WHAT IS KNOWN, where so often was asked: n given, w waiting

abbrev Knows : State → (tries w n : ℕ) → Type 0
Knows AwaitDis k w n = n + w ≡ 0
Knows (AwaitCfr dis dcs) k w n = (n + w ≡ k) × (k ≤ 3)
Knows (AwaitMcf dis dcs) k w n = (n + w ≡ k) × (k ≤ 3)
Knows state k w n = n + w ≤ 3

-- a move where nothing of it waits
abbrev MoveKnows : State → (tries n : ℕ) → Move → Type 0
MoveKnows s k n Stays = Knows s k 0 n
MoveKnows s k n (Trains dis dcs c) = (n + 1 ≡ c.tries) × (c.tries ≤ 3)
MoveKnows s k n (Sends dis dcs c) = (n + 1 ≡ c.tries) × (c.tries ≤ 3)
MoveKnows s k n (AsksAgain c) = Knows s c.tries 1 n
MoveKnows s k n (Turns format t1 c) = n ≡ 0
MoveKnows s k n (Closes outcome c) = n ≤ 3
MoveKnows s k n HangsUp = n ≤ 3

abbrev CoreKnows : CallerCore → ℕ → Type 0
CoreKnows a n = Knows a.state a.counts.tries (asking a.waiting) n

moved_knows : (a : CallerCore) (m : Move) (n : ℕ) → a.waiting ≡ [] → MoveKnows a.state a.counts.tries n m → CoreKnows (moved a m) n
moved_knows a Stays n w h = subst (λ (due : List Due). Knows a.state a.counts.tries (asking due) n) (sym w) h
moved_knows a (Trains dis dcs c) n w h = subst (λ (k : ℕ). (n + k ≡ c.tries) × (c.tries ≤ 3)) (sym (asking_training dcs)) h
moved_knows a (Sends dis dcs c) n w h = subst (λ (k : ℕ). (n + k ≡ c.tries) × (c.tries ≤ 3)) (sym (asking_image (is_last_page a.pages c.page) (turn_after a.formats c.page) c.page dcs)) h
moved_knows a (AsksAgain c) n w h = subst (λ (k : ℕ). Knows a.state c.tries k n) (sym (asking_command (is_last_page a.pages c.page) (turn_after a.formats c.page))) h
moved_knows a (Turns format t1 c) n w h = omega arith
moved_knows a (Closes outcome c) n w h = omega arith
moved_knows a HangsUp n w h = omega arith

if_knows : (s : State) (k n : ℕ) (t : Bool) (x y : Move) → MoveKnows s k n x → MoveKnows s k n y → MoveKnows s k n (if t then x else y)
if_knows s k n true x y g h = g
if_knows s k n false x y g h = h

few : (s : State) (k w n : ℕ) → Knows s k w n → n ≤ 3
few Idle k w n h = omega arith
few AwaitDis k w n h = omega arith
few (AwaitCfr dis dcs) k w n h = let e : n + w ≡ k = h.0 in let l : k ≤ 3 = h.1 in omega arith
few (AwaitMcf dis dcs) k w n h = let e : n + w ≡ k = h.0 in let l : k ≤ 3 = h.1 in omega arith
few (Closing x) k w n h = omega arith

-- ---- a frame

choice_knows : (s : State) (k : ℕ) (dis : Dis) (c : Counts) (r : Result Dcs Refusal) → c.tries ≡ 1 → MoveKnows s k 0 (by_choice dis c r)
choice_knows s k dis c (Ok dcs) h = (omega arith, omega arith)
choice_knows s k dis c (Err x) h = omega arith

lt_if : (m : ℕ) → nat_lt m 3 ≡ true → m < 3
lt_if m h = grind (arith)

tries_knows : (s : State) (n : ℕ) (dis : Dis) (dcs : Dcs) (c : Counts) → (n + 0 ≡ c.tries) × (c.tries ≤ 3) → MoveKnows s c.tries n (tries_again dis dcs c)
tries_knows s n dis dcs c h = by (nat_lt c.tries most_tries) refl
  where
    by : (t : Bool) → nat_lt c.tries most_tries ≡ t → MoveKnows s c.tries n (if t then Trains dis dcs (next_try c) else Closes outcomes.NoReply c)
    by true q = let l : c.tries < 3 = lt_if c.tries q in let e : n + 0 ≡ c.tries = h.0 in (omega arith, omega arith)
    by false q = let e : n + 0 ≡ c.tries = h.0 in let l : c.tries ≤ 3 = h.1 in omega arith

asks_knows : (n : ℕ) (dis : Dis) (dcs : Dcs) (c : Counts) → (n + 0 ≡ c.tries) × (c.tries ≤ 3) → MoveKnows (AwaitMcf dis dcs) c.tries n (asks_again c)
asks_knows n dis dcs c h = by (nat_lt c.tries most_tries) refl
  where
    by : (t : Bool) → nat_lt c.tries most_tries ≡ t → MoveKnows (AwaitMcf dis dcs) c.tries n (if t then AsksAgain (next_try c) else Closes outcomes.NoReply c)
    by true q = let l : c.tries < 3 = lt_if c.tries q in let e : n + 0 ≡ c.tries = h.0 in (omega arith, omega arith)
    by false q = let e : n + 0 ≡ c.tries = h.0 in let l : c.tries ≤ 3 = h.1 in omega arith

turns_knows : (s : State) (k now : ℕ) (turn : Option Format) (c : Counts) (m : Move) → MoveKnows s k 0 m → MoveKnows s k 0 (turns_or now turn c m)
turns_knows s k now (Some format) c m h = refl
turns_knows s k now None c m h = h

first : (0 + 1 ≡ 1) × (1 ≤ 3)
first = (refl, omega arith)

abbrev asked_if : Bool → ℕ → ℕ
asked_if t n = if t then 0 else n

frame_knows : (now : ℕ) (f : Format) (turn : Option Format) (pages : ℕ) (s : State) (c : Counts) (frame : Option Frame) (n : ℕ) → Knows s c.tries 0 n
    → MoveKnows s c.tries (asked_if (answers_by s false frame) n) (on_frame now f turn pages s c frame)
frame_knows now f turn pages AwaitDis c (Some (frames.Dis dis)) n h = choice_knows AwaitDis c.tries dis (first_try c) (choice dis f c.step) refl
frame_knows now f turn pages AwaitDis c (Some frames.Dcn) n h = omega arith
frame_knows now f turn pages (AwaitCfr dis dcs) c (Some frames.Cfr) n h = first
frame_knows now f turn pages (AwaitCfr dis dcs) c (Some frames.Ftt) n h = choice_knows (AwaitCfr dis dcs) c.tries dis (next_step c) (choice dis f (c.step + 1)) refl
frame_knows now f turn pages (AwaitCfr dis dcs) c (Some (frames.Dis other)) n h = tries_knows (AwaitCfr dis dcs) n dis dcs c h
frame_knows now f turn pages (AwaitCfr dis dcs) c (Some frames.Dcn) n h = few (AwaitCfr dis dcs) c.tries 0 n h
frame_knows now f turn pages (AwaitMcf dis dcs) c (Some frames.Mcf) n h =
    if_knows (AwaitMcf dis dcs) c.tries 0 (is_last_page pages c.page) (Closes outcomes.Delivered (one_delivered c)) (turns_or now turn c (Sends dis dcs (next_page c))) (omega arith)
    (turns_knows (AwaitMcf dis dcs) c.tries now turn c (Sends dis dcs (next_page c)) first)
frame_knows now f turn pages (AwaitMcf dis dcs) c (Some frames.Rtp) n h =
    if_knows (AwaitMcf dis dcs) c.tries 0 (is_last_page pages c.page) (Closes outcomes.Delivered (one_delivered c)) (turns_or now turn c (Trains dis dcs (next_page c))) (omega arith)
    (turns_knows (AwaitMcf dis dcs) c.tries now turn c (Trains dis dcs (next_page c)) first)
frame_knows now f turn pages (AwaitMcf dis dcs) c (Some frames.Rtn) n h =
    if_knows (AwaitMcf dis dcs) c.tries 0 (nat_lt c.refused 2) (Trains dis dcs (one_refused c)) (Closes outcomes.PageRefused c) first (omega arith)
frame_knows now f turn pages (AwaitMcf dis dcs) c (Some frames.Dcn) n h = few (AwaitMcf dis dcs) c.tries 0 n h
frame_knows now f turn pages s c frame n h = h

timers_know : (x y : Bool) (s : State) (c : Counts) (n : ℕ) → Knows s c.tries 0 n → MoveKnows s c.tries n (on_timers x y s c)
timers_know x y Idle c n h = h
timers_know x y (Closing outcome) c n h = h
timers_know true y AwaitDis c n h = few AwaitDis c.tries 0 n h
timers_know false y AwaitDis c n h = h
timers_know x true (AwaitCfr dis dcs) c n h = tries_knows (AwaitCfr dis dcs) n dis dcs c h
timers_know x false (AwaitCfr dis dcs) c n h = h
timers_know x true (AwaitMcf dis dcs) c n h = asks_knows n dis dcs c h
timers_know x false (AwaitMcf dis dcs) c n h = h

-- ---- a piece, and a tick

none_answers : (s : State) (frame : Option Frame) → answers_by s true frame ≡ false
none_answers Idle frame = refl
none_answers AwaitDis frame = refl
none_answers (AwaitCfr dis dcs) frame = refl
none_answers (AwaitMcf dis dcs) frame = refl
none_answers (Closing outcome) frame = refl

came_knows : (a : CallerCore) (piece : pieces.Piece) (now n : ℕ) → CoreKnows a n → CoreKnows (came a piece now) (asked_if (answers a piece) n)
came_knows a (pieces.Frame octets) now n h = by a.waiting refl
  where
    move : Move
    move = on_frame now a.format (turn_after a.formats a.counts.page) a.pages a.state a.counts (frame_of octets)

    by : (due : List Due) → a.waiting ≡ due → CoreKnows (moved a (if waits due then Stays else move)) (asked_if (answers_by a.state (waits due) (frame_of octets)) n)
    by [] e =
        moved_knows a move (asked_if (answers_by a.state false (frame_of octets)) n) e
        (frame_knows now a.format (turn_after a.formats a.counts.page) a.pages a.state a.counts (frame_of octets) n (subst (λ (d : List Due). Knows a.state a.counts.tries (asking d) n) e h))
    by (d ∷ due) e = subst (λ (t : Bool). CoreKnows a (asked_if t n)) (sym (none_answers a.state (frame_of octets))) h
came_knows a (pieces.Start k) now n h = h
came_knows a (pieces.Octets os) now n h = h
came_knows a (pieces.End w) now n h = h
came_knows a pieces.Gap now n h = h

timed_knows : (a : CallerCore) (now n : ℕ) → CoreKnows a n → CoreKnows (timed a now) n
timed_knows a now n h = by a.waiting refl
  where
    move : Move
    move = on_timers (is_due a.t1 now) (is_due a.t4 now) a.state a.counts

    by : (due : List Due) → a.waiting ≡ due → CoreKnows (moved a (if waits due then Stays else move)) n
    by [] e = moved_knows a move n e (timers_know (is_due a.t1 now) (is_due a.t4 now) a.state a.counts n (subst (λ (d : List Due). Knows a.state a.counts.tries (asking d) n) e h))
    by (d ∷ due) e = h

-- what is given no longer waits
taken_asks : (writes : Writing) (job : JobValue) (d : Due) (due : List Due) → one_if (asks (taken writes job d due).packet) + asking (taken writes job d due).rest ≡ asking (d ∷ due)
taken_asks writes job (One packet) due = refl
taken_asks writes job (Text page dcs from) due = by (nat_le (length (drop from (text_at writes job page dcs))) (part_length dcs))
  where
    text : List ℕ
    text = text_at writes job page dcs

    by : (t : Bool) →
        let k : TakenPart = if◌then◌else◌ {A = TakenPart} t (record { packet = Part (kind_of dcs.rate) true (drop from text); rest = due }) (record { packet = Part (kind_of dcs.rate) false (take (part_length dcs) (drop from text)); rest = Text page dcs (from + part_length dcs) ∷ due }) in
        one_if (asks k.packet) + asking k.rest ≡ asking due
    by true = omega arith
    by false = omega arith

moves_over : (s : State) (k w v n : ℕ) (t : Bool) → one_if t + v ≡ w → Knows s k w n → Knows s k v (if t then n + 1 else n)
moves_over s k w v n true e h = by s h
  where
    by : (s : State) → Knows s k w n → Knows s k v (n + 1)
    by Idle g = omega arith
    by AwaitDis g = omega arith
    by (AwaitCfr dis dcs) g = let q : n + w ≡ k = g.0 in (omega arith, g.1)
    by (AwaitMcf dis dcs) g = let q : n + w ≡ k = g.0 in (omega arith, g.1)
    by (Closing x) g = omega arith
moves_over s k w v n false e h = by s h
  where
    by : (s : State) → Knows s k w n → Knows s k v n
    by Idle g = omega arith
    by AwaitDis g = omega arith
    by (AwaitCfr dis dcs) g = let q : n + w ≡ k = g.0 in (omega arith, g.1)
    by (AwaitMcf dis dcs) g = let q : n + w ≡ k = g.0 in (omega arith, g.1)
    by (Closing x) g = omega arith

given_knows : (s : State) (k w n : ℕ) → Knows s k w n → Knows (state_when_given s) k w n
given_knows Idle k w n h = h
given_knows AwaitDis k w n h = h
given_knows (AwaitCfr dis dcs) k w n h = h
given_knows (AwaitMcf dis dcs) k w n h = h
given_knows (Closing x) k w n h = h

after_knows : (a : CallerCore) (now : ℕ) (packet : Packet) (rest : List Due) (n : ℕ) → Knows a.state a.counts.tries (asking rest) n → CoreKnows (after_giving a now packet rest) n
after_knows a now packet [] n h = given_knows a.state a.counts.tries 0 n h
after_knows a now packet (r ∷ rest) n h = h

first_knows : (writes : Writing) (job : JobValue) (a : CallerCore) (now : ℕ) (due : List Due) (n : ℕ) → Knows a.state a.counts.tries (asking due) n → a.waiting ≡ due
    → CoreKnows (given_first writes job a now due).core (asked_by (given_first writes job a now due).given n)
first_knows writes job a now [] n h e = subst (λ (due : List Due). Knows a.state a.counts.tries (asking due) n) (sym e) h
first_knows writes job a now (d ∷ due) n h e =
    let packet : Packet = (taken writes job d due).packet in
    let rest : List Due = (taken writes job d due).rest in
    after_knows a now packet rest (if asks packet then n + 1 else n)
    (moves_over a.state a.counts.tries (asking (d ∷ due)) (asking rest) n (asks packet) (taken_asks writes job d due) h)

ticked_knows : (writes : Writing) (job : JobValue) (a : CallerCore) (now n : ℕ) → CoreKnows a n → CoreKnows (ticked writes job a now).core (asked_by (ticked writes job a now).given n)
ticked_knows writes job a now n h = by (timed a now) (timed_knows a now n h) (pace_allows (timed a now).pace.last now)
  where
    by : (b : CallerCore) → CoreKnows b n → (t : Bool) →
        let r : TickResult = if◌then◌else◌ {A = TickResult} t (given_first writes job b now b.waiting) (record { core = b; given = None }) in
        CoreKnows r.core (asked_by r.given n)
    by b k true = first_knows writes job b now b.waiting n k refl
    by b k false = k

-- ---- a call

call_knows : (writes : Writing) (job : JobValue) (core : CallerCore) (start : ℕ) (events : List CallEvent)
    → CoreKnows (after_events writes job (started core job start) events) (asked writes job (started core job start) events)
call_knows writes job core start [] = refl
call_knows writes job core start (Comes piece now ∷ before) =
    came_knows (after_events writes job (started core job start) before) piece now (asked writes job (started core job start) before) (call_knows writes job core start before)
call_knows writes job core start (Ticks now ∷ before) =
    ticked_knows writes job (after_events writes job (started core job start) before) now (asked writes job (started core job start) before) (call_knows writes job core start before)

-- ---- T4 is due

trains : (writes : Writing) (job : JobValue) (a : CallerCore) (n now : ℕ) (dis : Dis) (dcs : Dcs) → (n + 0 ≡ a.counts.tries) × (a.counts.tries ≤ 3) → a.state ≡ AwaitCfr dis dcs → a.waiting ≡ [] → is_due a.t4 now ≡ true
    → (ticked writes job a now).core.state ≡ (if nat_lt n 3 then AwaitCfr dis dcs else Closing outcomes.NoReply)
trains writes job a n now dis dcs k s w e =
    ap (λ (m : Move). (paced writes job (moved a m) now).core.state) move ∙ by (nat_lt n 3)
  where
    same : a.counts.tries ≡ n
    same = let q : n + 0 ≡ a.counts.tries = k.0 in omega arith

    move : (if waits a.waiting then Stays else on_timers (is_due a.t1 now) (is_due a.t4 now) a.state a.counts) ≡ (if nat_lt n 3 then Trains dis dcs (next_try a.counts) else Closes outcomes.NoReply a.counts)
    move =
        ap (λ (due : List Due). if waits due then Stays else on_timers (is_due a.t1 now) (is_due a.t4 now) a.state a.counts) w
        ∙ ap (λ (x : State). on_timers (is_due a.t1 now) (is_due a.t4 now) x a.counts) s
        ∙ ap (λ (t : Bool). on_timers (is_due a.t1 now) t (AwaitCfr dis dcs) a.counts) e
        ∙ ap (λ (x : ℕ). if nat_lt x 3 then Trains dis dcs (next_try a.counts) else Closes outcomes.NoReply a.counts) same

    by : (t : Bool) → (paced writes job (moved a (if t then Trains dis dcs (next_try a.counts) else Closes outcomes.NoReply a.counts)) now).core.state ≡ (if t then AwaitCfr dis dcs else Closing outcomes.NoReply)
    by true = two (pace_allows a.pace.last now)
      where
        b : CallerCore
        b = moved a (Trains dis dcs (next_try a.counts))

        two : (t : Bool) → (if◌then◌else◌ {A = TickResult} t (given_first writes job b now b.waiting) (record { core = b; given = None })).core.state ≡ AwaitCfr dis dcs
        two true = refl
        two false = refl
    by false = two (pace_allows a.pace.last now)
      where
        b : CallerCore
        b = moved a (Closes outcomes.NoReply a.counts)

        two : (t : Bool) → (if◌then◌else◌ {A = TickResult} t (given_first writes job b now b.waiting) (record { core = b; given = None })).core.state ≡ Closing outcomes.NoReply
        two true = refl
        two false = refl

asks_so : (writes : Writing) (job : JobValue) (a : CallerCore) (n now : ℕ) (dis : Dis) (dcs : Dcs) → (n + 0 ≡ a.counts.tries) × (a.counts.tries ≤ 3) → a.state ≡ AwaitMcf dis dcs → a.waiting ≡ [] → is_due a.t4 now ≡ true
    → (ticked writes job a now).core.state ≡ (if nat_lt n 3 then AwaitMcf dis dcs else Closing outcomes.NoReply)
asks_so writes job a n now dis dcs k s w e =
    ap (λ (m : Move). (paced writes job (moved a m) now).core.state) move ∙ by (nat_lt n 3)
  where
    same : a.counts.tries ≡ n
    same = let q : n + 0 ≡ a.counts.tries = k.0 in omega arith

    move : (if waits a.waiting then Stays else on_timers (is_due a.t1 now) (is_due a.t4 now) a.state a.counts) ≡ (if nat_lt n 3 then AsksAgain (next_try a.counts) else Closes outcomes.NoReply a.counts)
    move =
        ap (λ (due : List Due). if waits due then Stays else on_timers (is_due a.t1 now) (is_due a.t4 now) a.state a.counts) w
        ∙ ap (λ (x : State). on_timers (is_due a.t1 now) (is_due a.t4 now) x a.counts) s
        ∙ ap (λ (t : Bool). on_timers (is_due a.t1 now) t (AwaitMcf dis dcs) a.counts) e
        ∙ ap (λ (x : ℕ). if nat_lt x 3 then AsksAgain (next_try a.counts) else Closes outcomes.NoReply a.counts) same

    by : (t : Bool) → (paced writes job (moved a (if t then AsksAgain (next_try a.counts) else Closes outcomes.NoReply a.counts)) now).core.state ≡ (if t then AwaitMcf dis dcs else Closing outcomes.NoReply)
    by true = two (pace_allows a.pace.last now)
      where
        b : CallerCore
        b = moved a (AsksAgain (next_try a.counts))

        two : (t : Bool) → (if◌then◌else◌ {A = TickResult} t (given_first writes job b now b.waiting) (record { core = b; given = None })).core.state ≡ AwaitMcf dis dcs
        two true = s
        two false = s
    by false = two (pace_allows a.pace.last now)
      where
        b : CallerCore
        b = moved a (Closes outcomes.NoReply a.counts)

        two : (t : Bool) → (if◌then◌else◌ {A = TickResult} t (given_first writes job b now b.waiting) (record { core = b; given = None })).core.state ≡ Closing outcomes.NoReply
        two true = refl
        two false = refl

pub three_tries : ThreeTries
three_tries writes job core start events =
    let begun : CallerCore = started core job start in
    let a : CallerCore = after_events writes job begun events in
    let n : ℕ = asked writes job begun events in
    let k : CoreKnows a n = call_knows writes job core start events in
    let known : (s : State) → a.state ≡ s → a.waiting ≡ [] → Knows s a.counts.tries 0 n
    = λ s e w. subst (λ (due : List Due). Knows s a.counts.tries (asking due) n) w (subst (λ (x : State). Knows x a.counts.tries (asking a.waiting) n) e k) in (
      few a.state a.counts.tries (asking a.waiting) n k,
      λ dis dcs now s w e. trains writes job a n now dis dcs (known (AwaitCfr dis dcs) s w) s w e,
      λ dis dcs now s w e. asks_so writes job a n now dis dcs (known (AwaitMcf dis dcs) s w) s w e,
    )
