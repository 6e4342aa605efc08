-- Each high-speed signal that a call gives to its end is a training check, or it means a page of the job.
use Rattle.std.proofs.Common.{◌≡◌, ℕ, zero, suc, ◌+◌, ◌-◌, ◌<◌, ◌≤◌, Bool, true, false, nat_le, nat_lt, ◌⊎◌, inl, inr, List, [], ◌∷◌, ◌++◌, length, map, reverse, take, drop, replicate, Option, Some, None, Result, Ok, Err, refl, sym, ◌∙◌, ap, subst, arith, if◌then◌else◌, option_map, append_assoc}
use Rattle.std.proofs.Common.{length-drop}
use Rattle.std.proofs.Math.Seq.{take-add}
use Rattle.fax_runcodes.specs.declared.format.Format.{Format}
use Rattle.fax_frames.specs.declared.dis.Dis.{Dis}
use Rattle.fax_frames.specs.declared.dcs.Dcs.{Dcs}
use Rattle.fax_frames.specs.declared.rate.Rate.{Rate}
use Rattle.fax_frames.specs.declared.rate.Rate.TheVariants.{V27At2400, V27At4800, V29At7200, V29At9600, V17At7200, V17At9600, V17At12000, V17At14400}
use Rattle.fax_frames.specs.declared.frame.Frame.{Frame}
use Rattle.fax_frames.specs.declared.frame.Frame.TheVariants as frames
use Rattle.fax_frames.specs.declared.choice.Refusal.{Refusal}
use Rattle.fax_frames.specs.declared.writing.Plain.TheVariants as plain
use Rattle.fax_frames.specs.Choice.{choice}
use Rattle.fax_frames.specs.Frames.{frame_of}
use Rattle.fax_frames.specs.Rates.{kind_of, training_of}
use Rattle.fax_frames.specs.Written.{written_dcs, written_plain}
use Rattle.fax_ifp.specs.Elements as elements
use Rattle.fax_ifp.specs.Pieces as pieces
use Rattle.fax_ifp.specs.Schedules.{signal_at}
use Rattle.fax_jobs.specs.declared.outcome.Outcome.TheVariants as outcomes
use Rattle.fax_jobs.specs.Jobs.{JobValue, IsJob}
use Rattle.fax_timers.specs.Moments.{is_due}
use Rattle.fax_timers.specs.Paces.{pace_allows}
use Rattle.fax_call.specs.declared.state.State.{State}
use Rattle.fax_call.specs.declared.state.State.TheVariants.{Idle, AwaitDis, AwaitCfr, AwaitMcf, Closing}
use Rattle.fax_call.specs.Writings.{Writing, IsWriting}
use Rattle.fax_call.specs.Replies.{Packet, Signals, Tells, Part, written, Due, One, Text, part_length, parts_of, check_length, training_check, training, image, goodbye, is_last_page, turn_after, command_by, command, waits}
use Rattle.fax_call.specs.Table.{Counts, Move, Stays, Trains, Sends, AsksAgain, Turns, Closes, HangsUp, turns_or, gives_up_dis, next_try, next_page, one_delivered, one_refused, next_step, first_try, by_choice, tries_again, asks_again, on_frame, on_timers}
use Rattle.fax_call.specs.Calls.{CallerCore, started, moved, came, timed, text_at, TakenPart, taken_text, state_when_given, after_giving, given_first, ticked, TickResult, CallEvent, Comes, Ticks, after_events}
use Rattle.fax_call.specs.Emission.{Mark, Begins, IsPageOf, Emits, elements_given, marks_given, marks_after, Reply, replied}
use Rattle.fax_call.specs.Given.{packets_with, packets_given, dcs_in}
use Rattle.fax_call.specs.GivenSignals.{dcs_or, last_dcs, ends_signal, IsCheck, IsImage, GivesChecksAndPages}
use Rattle.fax_call.proofs.PacketsBack.{read_dcs, dcs_back}
use Rattle.fax_call.proofs.Waiting.{Texts, SafeTo, PostOf, IsFormatOf, is_training_of, part_some, check_length_some, length_zeros, means_page}
use Rattle.fax_call.proofs.Emitted.{Good, InTurn, IsSent, timed_good, start_good, events_good}
use Rattle.fax_call.proofs.FinePackets.{given_fine}
use Rattle.fax_call.proofs.SignalsGiven.{open_octets, open_kind, PartBy, IsNeat, IsEnded, at_place}

-- the DCS told last is the one that is read back of this
abbrev Has : Dcs → List Packet → Type 0
Has dcs given = last_dcs given ≡ Some (read_dcs dcs)

abbrev PostState : State → List Packet → Type 0
PostState (AwaitCfr dis dcs) given = Has dcs given
PostState (AwaitMcf dis dcs) given = Has dcs given
PostState state given = Unit {0}

-- WHAT WAITS: parts of a check, of zeros, or of the text of a page; and in the end Post holds
abbrev Zeros : List Packet → List ℕ → Type 0
Zeros before octets = IsCheck octets

abbrev IsPut : Packet → List Packet → Type 0
IsPut (Signals code) given = open_octets given ≡ None
IsPut (Tells frame) given = open_octets given ≡ None
IsPut (Part kind last octets) given = PartBy Zeros kind last octets given

abbrev IsFrom : Writing → JobValue → ℕ → Dcs → ℕ → List Packet → Type 0
IsFrom writes job page dcs from given =
    (open_octets given ≡ Some (take from (text_at writes job page dcs))) × (kind_of dcs.rate ≡ open_kind given) × Has dcs given

abbrev NeatTo : Writing → JobValue → (List Packet → Type 0) → List Due → List Packet → Type 0
NeatTo writes job Post [] given = (open_octets given ≡ None) × Post given
NeatTo writes job Post (One p ∷ due) given = IsPut p given × NeatTo writes job Post due (p ∷ given)
NeatTo writes job Post (Text page dcs from ∷ due) given =
    IsFrom writes job page dcs from given × ((after : List Packet) → open_octets after ≡ None → Has dcs after → NeatTo writes job Post due after)

-- zeros
abbrev AllZero : List ℕ → Type 0
AllZero [] = Unit {0}
AllZero (x ∷ xs) = (x ≡ 0) × AllZero xs

zeros_are : (n : ℕ) → AllZero (replicate n 0)
zeros_are zero = tt
zeros_are (suc n) = (refl, zeros_are n)

zeros_both : (xs ys : List ℕ) → AllZero xs → AllZero ys → AllZero (xs ++ ys)
zeros_both [] ys h k = k
zeros_both (x ∷ xs) ys h k = (h.0, zeros_both xs ys h.1 k)

zeros_take : (n : ℕ) (xs : List ℕ) → AllZero xs → AllZero (take n xs)
zeros_take zero xs h = tt
zeros_take (suc n) [] h = tt
zeros_take (suc n) (x ∷ xs) h = (h.0, zeros_take n xs h.1)

zeros_drop : (n : ℕ) (xs : List ℕ) → AllZero xs → AllZero (drop n xs)
zeros_drop zero xs h = h
zeros_drop (suc n) [] h = tt
zeros_drop (suc n) (x ∷ xs) h = zeros_drop n xs h.1

is_check : (xs : List ℕ) → AllZero xs → IsCheck xs
is_check [] h = (0, refl)
is_check (x ∷ xs) h =
    let c : IsCheck xs = is_check xs h.1 in
    (suc c.0, ap (λ (y : ℕ). y ∷ xs) h.0 ∙ ap (λ (ys : List ℕ). 0 ∷ ys) c.1)

-- the training check
le_so : (m n : ℕ) → nat_le m n ≡ true → m ≤ n
le_so m n h = grind (arith)

lt_so : (m n : ℕ) → nat_le m n ≡ false → n < m
lt_so m n h = grind (arith)

parts_neat : (writes : Writing) (job : JobValue) (Post : List Packet → Type 0) (dcs : Dcs) (most kind n : ℕ) (os : List ℕ) (given : List Packet) (front : List ℕ)
    → 1 ≤ n → 1 ≤ length os → length os ≤ most → AllZero os → AllZero front → open_octets given ≡ Some front → kind ≡ open_kind given → Has dcs given
    → ((after : List Packet) → Has dcs after → Post after) → NeatTo writes job Post (parts_of most kind n os) given
parts_neat writes job Post dcs zero kind n os given front a b c z f o k d h = absurd (omega (arith, b, c))
parts_neat writes job Post dcs (suc most) kind n os given front a b c z f o k d h =
    by (nat_le (length os) n) refl (λ r l x y. parts_neat writes job Post dcs most kind n (drop n os) (Part kind false (take n os) ∷ given) (front ++ take n os) a r l x y (ap (option_map (λ (xs : List ℕ). xs ++ take n os)) o) k d h)
  where
    by : (t : Bool) → nat_le (length os) n ≡ t
        → (1 ≤ length (drop n os) → length (drop n os) ≤ most → AllZero (drop n os) → AllZero (front ++ take n os) → NeatTo writes job Post (parts_of most kind n (drop n os)) (Part kind false (take n os) ∷ given))
        → NeatTo writes job Post (if t then One (Part kind true os) ∷ [] else One (Part kind false (take n os)) ∷ parts_of most kind n (drop n os)) given
    by true e go = ((front, o, k, λ l. is_check (front ++ os) (zeros_both front os f z)), (refl, h (Part kind true os ∷ given) d))
    by false e go =
        let l : n < length os = lt_so (length os) n e in
        let m : length (drop n os) ≡ length os - n = length-drop n os in (
          (front, o, k, λ x. cc),
          go (omega arith) (omega arith) (zeros_drop n os z) (zeros_both front (take n os) f (zeros_take n os z)),
        )

kind_same : (rate : Rate) (long : Bool) → kind_of rate ≡ pieces.kind_of_training (training_of rate long)
kind_same V27At2400 long = refl
kind_same V27At4800 long = refl
kind_same V29At7200 long = refl
kind_same V29At9600 long = refl
kind_same V17At7200 true = refl
kind_same V17At7200 false = refl
kind_same V17At9600 true = refl
kind_same V17At9600 false = refl
kind_same V17At12000 true = refl
kind_same V17At12000 false = refl
kind_same V17At14400 true = refl
kind_same V17At14400 false = refl

begun_so : (rate : Rate) (long : Bool) (given : List Packet) → open_octets (Signals (training_of rate long) ∷ given) ≡ Some []
begun_so rate long given = ap (λ (b : Bool). if◌then◌else◌ {A = Option (List ℕ)} b (Some []) None) (is_training_of rate long)

training_neat : (writes : Writing) (job : JobValue) (dis : Dis) (dcs : Dcs) (given : List Packet) → open_octets given ≡ None → NeatTo writes job (PostState (AwaitCfr dis dcs)) (training dcs) given
unfolding training_check
training_neat writes job dis dcs given h =
    let front : List Packet = Signals (training_of dcs.rate true) ∷ Tells (written_dcs dcs) ∷ Signals 3 ∷ given in
    let some : 1 ≤ check_length dcs = check_length_some dcs in
    let long : length {A = ℕ} (replicate (check_length dcs) 0) ≡ check_length dcs = length_zeros (check_length dcs) in (
      h,
      (
        refl,
        (
          refl,
          parts_neat writes job (λ after. Has dcs after) dcs (check_length dcs) (kind_of dcs.rate) (part_length dcs) (replicate (check_length dcs) 0) front []
              (part_some dcs.rate).0 (omega arith) (omega arith) (zeros_are (check_length dcs)) tt (begun_so dcs.rate true (Tells (written_dcs dcs) ∷ Signals 3 ∷ given)) (kind_same dcs.rate true)
              (ap (λ (o : Option Frame). dcs_or (dcs_in o) (last_dcs given)) (dcs_back dcs)) (λ after x. x),
        ),
      ),
    )

abbrev after_command : (end : Bool) (turn : Option Format) → List Packet → List Packet
after_command end turn given = Tells (written_plain (command_by end turn) true) ∷ Signals 3 ∷ given

plain_neat : (writes : Writing) (job : JobValue) (Post : List Packet → Type 0) (end : Bool) (turn : Option Format) (given : List Packet) → open_octets given ≡ None → Post (after_command end turn given) → NeatTo writes job Post (command (command_by end turn)) given
plain_neat writes job Post true turn given h f = (h, (refl, (refl, f)))
plain_neat writes job Post false (Some format) given h f = (h, (refl, (refl, f)))
plain_neat writes job Post false None given h f = (h, (refl, (refl, f)))

-- a command tells no DCS
command_has : (dcs : Dcs) (end : Bool) (turn : Option Format) (given : List Packet) → Has dcs given → Has dcs (after_command end turn given)
command_has dcs true turn given d = d
command_has dcs false (Some format) given d = d
command_has dcs false None given d = d

command_neat : (writes : Writing) (job : JobValue) (dcs : Dcs) (end : Bool) (turn : Option Format) (given : List Packet) → open_octets given ≡ None → Has dcs given
    → NeatTo writes job (λ (x : List Packet). Has dcs x) (command (command_by end turn)) given
command_neat writes job dcs end turn given h d = plain_neat writes job (λ (x : List Packet). Has dcs x) end turn given h (command_has dcs end turn given d)

image_neat : (writes : Writing) (job : JobValue) (dis : Dis) (dcs : Dcs) (end : Bool) (turn : Option Format) (page : ℕ) (given : List Packet) → open_octets given ≡ None → Has dcs given
    → NeatTo writes job (PostState (AwaitMcf dis dcs)) (image (command_by end turn) page dcs) given
image_neat writes job dis dcs end turn page given h d =
    (h, ((begun_so dcs.rate false given, kind_same dcs.rate false, d), λ after o k. command_neat writes job dcs end turn after o k))

goodbye_neat : (writes : Writing) (job : JobValue) (Post : List Packet → Type 0) (given : List Packet) → open_octets given ≡ None → ((after : List Packet) → Post after) → NeatTo writes job Post goodbye given
goodbye_neat writes job Post given h f = (h, (refl, (refl, f (Tells (written_plain plain.Dcn true) ∷ Signals 3 ∷ given))))

-- A MOVE
abbrev Knows : List Packet → Move → Type 0
Knows given (Sends dis dcs c) = Has dcs given
Knows given m = Unit {0}

knows_if : (given : List Packet) (b : Bool) (m n : Move) → Knows given m → Knows given n → Knows given (if b then m else n)
knows_if given true m n x y = x
knows_if given false m n x y = y

knows_choice : (given : List Packet) (dis : Dis) (c : Counts) (r : Result Dcs Refusal) → Knows given (by_choice dis c r)
knows_choice given dis c (Ok dcs) = tt
knows_choice given dis c (Err e) = tt

knows_turn : (given : List Packet) (now : ℕ) (turn : Option Format) (c : Counts) (m : Move) → Knows given m → Knows given (turns_or now turn c m)
knows_turn given now None c m h = h
knows_turn given now (Some format) c m h = tt

knows_ack : (given : List Packet) (now pages : ℕ) (turn : Option Format) (c : Counts) (m : Move) → Knows given m
    → Knows given (if is_last_page pages c.page then Closes outcomes.Delivered (one_delivered c) else turns_or now turn c m)
knows_ack given now pages turn c m h = knows_if given (is_last_page pages c.page) (Closes outcomes.Delivered (one_delivered c)) (turns_or now turn c m) tt (knows_turn given now turn c m h)

knows_frame : (given : List Packet) (now : ℕ) (format : Format) (turn : Option Format) (pages : ℕ) (state : State) (c : Counts) (o : Option Frame) → PostState state given → Knows given (on_frame now format turn pages state c o)
knows_frame given now format turn pages Idle c o h = tt
knows_frame given now format turn pages (Closing outcome) c o h = tt
knows_frame given now format turn pages AwaitDis c (Some (frames.Dis dis)) h = knows_choice given dis (first_try c) (choice dis format c.step)
knows_frame given now format turn pages AwaitDis c (Some frames.Dcn) h = tt
knows_frame given now format turn pages AwaitDis c o h = tt
knows_frame given now format turn pages (AwaitCfr dis dcs) c (Some frames.Cfr) h = h
knows_frame given now format turn pages (AwaitCfr dis dcs) c (Some frames.Ftt) h = knows_choice given dis (next_step c) (choice dis format (c.step + 1))
knows_frame given now format turn pages (AwaitCfr dis dcs) c (Some (frames.Dis other)) h = knows_if given (nat_lt c.tries 3) (Trains dis dcs (next_try c)) (Closes outcomes.NoReply c) tt tt
knows_frame given now format turn pages (AwaitCfr dis dcs) c (Some frames.Dcn) h = tt
knows_frame given now format turn pages (AwaitCfr dis dcs) c o h = tt
knows_frame given now format turn pages (AwaitMcf dis dcs) c (Some frames.Mcf) h = knows_ack given now pages turn c (Sends dis dcs (next_page c)) h
knows_frame given now format turn pages (AwaitMcf dis dcs) c (Some frames.Rtp) h = knows_ack given now pages turn c (Trains dis dcs (next_page c)) tt
knows_frame given now format turn pages (AwaitMcf dis dcs) c (Some frames.Rtn) h = knows_if given (nat_lt c.refused 2) (Trains dis dcs (one_refused c)) (Closes outcomes.PageRefused c) tt tt
knows_frame given now format turn pages (AwaitMcf dis dcs) c (Some frames.Dcn) h = tt
knows_frame given now format turn pages (AwaitMcf dis dcs) c o h = tt

knows_timer : (given : List Packet) (x y : Bool) (state : State) (c : Counts) → Knows given (on_timers x y state c)
knows_timer given x y Idle c = tt
knows_timer given x y (Closing outcome) c = tt
knows_timer given x y AwaitDis c = knows_if given x (gives_up_dis c) Stays tt tt
knows_timer given x y (AwaitCfr dis dcs) c = knows_if given y (tries_again dis dcs c) Stays (knows_if given (nat_lt c.tries 3) (Trains dis dcs (next_try c)) (Closes outcomes.NoReply c) tt tt) tt
knows_timer given x y (AwaitMcf dis dcs) c = knows_if given y (asks_again c) Stays (knows_if given (nat_lt c.tries 3) (AsksAgain (next_try c)) (Closes outcomes.NoReply c) tt tt) tt

abbrev ToNow : Writing → JobValue → CallerCore → List Packet → Type 0
ToNow writes job a given = NeatTo writes job (PostState a.state) a.waiting given

again_neat : (writes : Writing) (job : JobValue) (state : State) (end : Bool) (turn : Option Format) (given : List Packet) → open_octets given ≡ None → PostState state given → NeatTo writes job (PostState state) (command (command_by end turn)) given
again_neat writes job Idle end turn given h p = plain_neat writes job (λ after. Unit {0}) end turn given h tt
again_neat writes job AwaitDis end turn given h p = plain_neat writes job (λ after. Unit {0}) end turn given h tt
again_neat writes job (Closing o) end turn given h p = plain_neat writes job (λ after. Unit {0}) end turn given h tt
again_neat writes job (AwaitCfr dis dcs) end turn given h p = command_neat writes job dcs end turn given h p
again_neat writes job (AwaitMcf dis dcs) end turn given h p = command_neat writes job dcs end turn given h p

moved_neat : (writes : Writing) (job : JobValue) (a : CallerCore) (m : Move) (given : List Packet) → open_octets given ≡ None → PostState a.state given → Knows given m → ToNow writes job a given → ToNow writes job (moved a m) given
moved_neat writes job a Stays given h p k n = n
moved_neat writes job a (Trains dis dcs c) given h p k n = training_neat writes job dis dcs given h
moved_neat writes job a (Sends dis dcs c) given h p k n = image_neat writes job dis dcs (is_last_page a.pages c.page) (turn_after a.formats c.page) c.page given h k
moved_neat writes job a (AsksAgain c) given h p k n = again_neat writes job a.state (is_last_page a.pages c.page) (turn_after a.formats c.page) given h p
moved_neat writes job a (Turns format t1 c) given h p k n = (h, tt)
moved_neat writes job a (Closes o c) given h p k n = goodbye_neat writes job (λ after. Unit {0}) given h (λ after. tt)
moved_neat writes job a HangsUp given h p k n = (h, tt)

free_neat : (writes : Writing) (job : JobValue) (a : CallerCore) (m : Move) (given : List Packet) → (PostState a.state given → Knows given m) → ToNow writes job a given → ToNow writes job (moved a (if waits a.waiting then Stays else m)) given
free_neat writes job a m given k n = by a.waiting refl
  where
    by : (w : List Due) → a.waiting ≡ w → ToNow writes job (moved a (if waits w then Stays else m)) given
    by [] e =
        let free : NeatTo writes job (PostState a.state) [] given = subst (λ (w : List Due). NeatTo writes job (PostState a.state) w given) e n in
        moved_neat writes job a m given free.0 free.1 (k free.1) n
    by (d ∷ due) e = n

came_neat : (writes : Writing) (job : JobValue) (a : CallerCore) (piece : pieces.Piece) (now : ℕ) (given : List Packet) → ToNow writes job a given → ToNow writes job (came a piece now) given
came_neat writes job a (pieces.Frame octets) now given n =
    let turn : Option Format = turn_after a.formats a.counts.page in
    free_neat writes job a (on_frame now a.format turn a.pages a.state a.counts (frame_of octets)) given (λ p. knows_frame given now a.format turn a.pages a.state a.counts (frame_of octets) p) n
came_neat writes job a (pieces.Start k) now given n = n
came_neat writes job a (pieces.Octets os) now given n = n
came_neat writes job a (pieces.End w) now given n = n
came_neat writes job a pieces.Gap now given n = n

timed_neat : (writes : Writing) (job : JobValue) (a : CallerCore) (now : ℕ) (given : List Packet) → ToNow writes job a given → ToNow writes job (timed a now) given
timed_neat writes job a now given n =
    free_neat writes job a (on_timers (is_due a.t1 now) (is_due a.t4 now) a.state a.counts) given (λ p. knows_timer given (is_due a.t1 now) (is_due a.t4 now) a.state a.counts) n

-- GIVING. Each last part that is given ends zeros or the text of a page; P holds of both.
put_neat : (P : List Packet → List ℕ → Type 0) (p : Packet) (given : List Packet) → ((older : List Packet) (octets : List ℕ) → IsCheck octets → P older octets) → IsPut p given → IsNeat P given → IsNeat P (p ∷ given)
put_neat P (Signals code) given z h n = (h, n)
put_neat P (Tells frame) given z h n = (h, n)
put_neat P (Part kind last os) given z h n = ((h.0, h.1, h.2, λ e. z given (h.0 ++ os) (h.3 e)), n)

record Neat (writes : Writing) (job : JobValue) (P : List Packet → List ℕ → Type 0) (a : CallerCore) (given : List Packet) : Type 0 where
  to : ToNow writes job a given
  neat : IsNeat P given

post_given : (state : State) (given : List Packet) → PostState state given → PostState (state_when_given state) given
post_given Idle given h = tt
post_given AwaitDis given h = tt
post_given (AwaitCfr dis dcs) given h = h
post_given (AwaitMcf dis dcs) given h = h
post_given (Closing o) given h = tt

after_to : (writes : Writing) (job : JobValue) (b : CallerCore) (now : ℕ) (packet : Packet) (due : List Due) (given : List Packet) → NeatTo writes job (PostState b.state) due given → ToNow writes job (after_giving b now packet due) given
after_to writes job b now packet [] given h = (h.0, post_given b.state given h.1)
after_to writes job b now packet (d ∷ due) given h = h

-- where the last part of a text is given, its page is the one emitted last
none_after : (last : Option ℕ) (r : Reply) (page : ℕ) (state : State) (n : ℕ) (dcs : Dcs) (from : ℕ) (before : List elements.Element) → InTurn last r page state (Text n dcs from ∷ []) before → ⊥
none_after last r page Idle n dcs from before t = cc
none_after last r page (Closing o) n dcs from before t = cc
none_after last r page AwaitDis n dcs from before t = t.1
none_after last r page (AwaitCfr dis d) n dcs from before t = t.1
none_after last r page (AwaitMcf dis d) n dcs from before t = t.0.1 before

last_is : (b : CallerCore) (now : ℕ) (packet : Packet) (last new : Option ℕ) (r : Reply) (n : ℕ) (dcs : Dcs) (from : ℕ) (due : List Due) (before : List elements.Element)
    → InTurn last r b.counts.page b.state (Text n dcs from ∷ due) before
    → IsSent new (after_giving b now packet due).counts.page (after_giving b now packet due).state (after_giving b now packet due).waiting → new ≡ Some b.counts.page
last_is b now packet last new r n dcs from [] before t s = absurd (none_after last r b.counts.page b.state n dcs from before t)
last_is b now packet last new r n dcs from (x ∷ due) before t s = by b.state t s
  where
    by : (state : State) → InTurn last r b.counts.page state (Text n dcs from ∷ x ∷ due) before → IsSent new b.counts.page state (x ∷ due) → new ≡ Some b.counts.page
    by Idle t s = cc
    by (Closing o) t s = cc
    by AwaitDis t s = absurd t.1
    by (AwaitCfr dis d) t s = absurd t.1
    by (AwaitMcf dis d) t s = s t.0.0

emits_then : (texts : Texts) (job : JobValue) (b : CallerCore) (now page : ℕ) (packet : Packet) (dcs : Dcs) (from : ℕ) (due : List Due) (marks new : List Mark) → b.waiting ≡ Text page dcs from ∷ due
    → Good texts job b marks → Good texts job (after_giving b now packet due) new → Emits job new (Some page)
emits_then texts job b now page packet dcs from due marks new e g h =
    let s : SafeTo texts job b.counts.page (PostOf b.state) (Text page dcs from ∷ due) (elements_given marks) =
    subst (λ (w : List Due). SafeTo texts job b.counts.page (PostOf b.state) w (elements_given marks)) e g.kept.safe in
    let t : InTurn g.last (replied marks) b.counts.page b.state (Text page dcs from ∷ due) (elements_given marks) =
    subst (λ (w : List Due). InTurn g.last (replied marks) b.counts.page b.state w (elements_given marks)) e g.turn in
    let l : h.last ≡ Some b.counts.page = last_is b now packet g.last h.last (replied marks) page dcs from due (elements_given marks) t h.kept.sent in
    subst (λ (x : Option ℕ). Emits job new x) (l ∙ ap (λ (k : ℕ). Some k) (sym s.0)) h.kept.emits

-- what is known of a tick: the core after it, and that P holds of the image that it ends
abbrev Ends : JobValue → (List Packet → List ℕ → Type 0) → List Packet → List Mark → TickResult → Type 0
Ends job P given marks t =
    (page : ℕ) (dcs : Dcs) (octets : List ℕ) → ends_signal t.given ≡ true → last_dcs given ≡ Some dcs → IsPageOf job page (record { octets = octets; dcs = dcs })
    → Emits job (marks_given t.given marks) (Some page) → P given octets

abbrev After : Texts → JobValue → (List Packet → List ℕ → Type 0) → List Packet → List Mark → TickResult → Type 0
After texts job P given marks t = Good texts job t.core (marks_given t.given marks) × Ends job P given marks t

abbrev NeatTick : Writing → JobValue → (List Packet → List ℕ → Type 0) → List Packet → TickResult → Type 0
NeatTick writes job P given t = Neat writes job P t.core (packets_with t.given given)

abbrev tick_of : CallerCore → ℕ → TakenPart → TickResult
tick_of b now t = record { core = after_giving b now t.packet t.rest; given = Some t.packet }

both : (n : ℕ) (xs : List ℕ) → take n xs ++ drop n xs ≡ xs
both zero xs = refl
both (suc n) [] = refl
both (suc n) (x ∷ xs) = ap (λ (ys : List ℕ). x ∷ ys) (both n xs)

text_neat : (texts : Texts) (job : JobValue) (P : List Packet → List ℕ → Type 0) (b : CallerCore) (now page : ℕ) (dcs : Dcs) (from : ℕ) (due : List Due) (given : List Packet) (marks : List Mark)
    → IsJob job → b.waiting ≡ Text page dcs from ∷ due → Good texts job b marks → NeatTo texts.writes job (PostState b.state) (Text page dcs from ∷ due) given → IsNeat P given
    → After texts job P given marks (tick_of b now (taken_text page dcs from (text_at texts.writes job page dcs) due))
    → NeatTick texts.writes job P given (tick_of b now (taken_text page dcs from (text_at texts.writes job page dcs) due))
text_neat texts job P b now page dcs from due given marks is e g n neat = by (nat_le (length (drop from (text_at texts.writes job page dcs))) (part_length dcs))
  where
    safe : SafeTo texts job b.counts.page (PostOf b.state) (Text page dcs from ∷ due) (elements_given marks)
    safe = subst (λ (w : List Due). SafeTo texts job b.counts.page (PostOf b.state) w (elements_given marks)) e g.kept.safe

    means : IsPageOf job page (record { octets = take from (text_at texts.writes job page dcs) ++ drop from (text_at texts.writes job page dcs); dcs = read_dcs dcs })
    means =
        subst (λ (os : List ℕ). IsPageOf job page (record { octets = os; dcs = read_dcs dcs })) (sym (both from (text_at texts.writes job page dcs)))
        (means_page texts job page dcs is (subst (λ (k : ℕ). k < length job.pages) (sym safe.0) g.kept.within) (subst (λ (k : ℕ). IsFormatOf job k dcs) (sym safe.0) safe.1.format_is))

    by : (t : Bool) →
        let k : TakenPart = if◌then◌else◌ {A = TakenPart} t (record { packet = Part (kind_of dcs.rate) true (drop from (text_at texts.writes job page dcs)); rest = due }) (record { packet = Part (kind_of dcs.rate) false (take (part_length dcs) (drop from (text_at texts.writes job page dcs))); rest = Text page dcs (from + part_length dcs) ∷ due }) in
        After texts job P given marks (tick_of b now k) → NeatTick texts.writes job P given (tick_of b now k)
    by true a =
        record {
          to = after_to texts.writes job b now (Part (kind_of dcs.rate) true (drop from (text_at texts.writes job page dcs))) due (Part (kind_of dcs.rate) true (drop from (text_at texts.writes job page dcs)) ∷ given) (n.1 (Part (kind_of dcs.rate) true (drop from (text_at texts.writes job page dcs)) ∷ given) refl n.0.2);
          neat = (
            (
              take from (text_at texts.writes job page dcs),
              n.0.0,
              n.0.1,
              λ x. a.1 page (read_dcs dcs) (take from (text_at texts.writes job page dcs) ++ drop from (text_at texts.writes job page dcs)) refl n.0.2 means
                  (emits_then texts job b now page (Part (kind_of dcs.rate) true (drop from (text_at texts.writes job page dcs))) dcs from due marks (marks_given (Some (Part (kind_of dcs.rate) true (drop from (text_at texts.writes job page dcs)))) marks) e g a.0),
            ),
            neat,
          );
        }
    by false a =
        let os : List ℕ = take (part_length dcs) (drop from (text_at texts.writes job page dcs)) in
        record {
          to = (
            (ap (option_map (λ (front : List ℕ). front ++ os)) n.0.0 ∙ ap (λ (xs : List ℕ). Some xs) (sym (take-add from (part_length dcs) (text_at texts.writes job page dcs))), n.0.1, n.0.2),
            n.1,
          );
          neat = ((take from (text_at texts.writes job page dcs), n.0.0, n.0.1, λ x. cc), neat);
        }

first_neat : (texts : Texts) (job : JobValue) (P : List Packet → List ℕ → Type 0) (b : CallerCore) (now : ℕ) (w : List Due) (given : List Packet) (marks : List Mark)
    → IsJob job → ((older : List Packet) (octets : List ℕ) → IsCheck octets → P older octets) → b.waiting ≡ w → Good texts job b marks → Neat texts.writes job P b given
    → After texts job P given marks (given_first texts.writes job b now w) → NeatTick texts.writes job P given (given_first texts.writes job b now w)
first_neat texts job P b now [] given marks is z e g n a = n
first_neat texts job P b now (One p ∷ due) given marks is z e g n a =
    let to : NeatTo texts.writes job (PostState b.state) (One p ∷ due) given = subst (λ (w : List Due). NeatTo texts.writes job (PostState b.state) w given) e n.to in
    record { to = after_to texts.writes job b now p due (p ∷ given) to.1; neat = put_neat P p given z to.0 n.neat }
first_neat texts job P b now (Text page dcs from ∷ due) given marks is z e g n a =
    let to : NeatTo texts.writes job (PostState b.state) (Text page dcs from ∷ due) given = subst (λ (w : List Due). NeatTo texts.writes job (PostState b.state) w given) e n.to in
    text_neat texts job P b now page dcs from due given marks is e g to n.neat a

tick_neat : (texts : Texts) (job : JobValue) (P : List Packet → List ℕ → Type 0) (a : CallerCore) (now : ℕ) (given : List Packet) (marks : List Mark)
    → IsJob job → ((older : List Packet) (octets : List ℕ) → IsCheck octets → P older octets) → Good texts job a marks → Neat texts.writes job P a given
    → After texts job P given marks (ticked texts.writes job a now) → NeatTick texts.writes job P given (ticked texts.writes job a now)
tick_neat texts job P a now given marks is z g n =
    let b : CallerCore = timed a now in
    let good : Good texts job b marks = timed_good texts job a now marks g in
    let neat : Neat texts.writes job P b given = record { to = timed_neat texts.writes job a now given n.to; neat = n.neat } in
    by (pace_allows b.pace.last now) b good neat
  where
    by : (t : Bool) (b : CallerCore) → Good texts job b marks → Neat texts.writes job P b given
        → After texts job P given marks (if◌then◌else◌ {A = TickResult} t (given_first texts.writes job b now b.waiting) (record { core = b; given = None }))
        → NeatTick texts.writes job P given (if◌then◌else◌ {A = TickResult} t (given_first texts.writes job b now b.waiting) (record { core = b; given = None }))
    by true b good neat f = first_neat texts job P b now b.waiting given marks is z refl good neat f
    by false b good neat f = neat

-- THE CALL. An image, and the packets that were given before its last part
pub record ComesAfter (writes : Writing) (job : JobValue) (old : List Mark) (begun : CallerCore) (events : List CallEvent) (older : List Packet) (octets : List ℕ) : Type 0 where
  pub image : IsImage writes job old begun events octets
  pub older_is : packets_given writes job begun image.before ≡ older

abbrev pub CheckOrImage : Writing → JobValue → List Mark → CallerCore → List CallEvent → List Packet → List ℕ → Type 0
CheckOrImage writes job old begun events older octets = IsCheck octets ⊎ ComesAfter writes job old begun events older octets

events_neat : (texts : Texts) (job : JobValue) (old : List Mark) (begun : CallerCore) (all later events : List CallEvent) → IsJob job → Good texts job begun (Begins ∷ old) → ToNow texts.writes job begun []
    → all ≡ later ++ events → Neat texts.writes job (CheckOrImage texts.writes job old begun all) (after_events texts.writes job begun events) (packets_given texts.writes job begun events)
events_neat texts job old begun all later [] is g t e = record { to = t; neat = tt }
events_neat texts job old begun all later (Comes piece now ∷ before) is g t e =
    let n = events_neat texts job old begun all (later ++ Comes piece now ∷ []) before is g t (e ∙ sym (append_assoc later (Comes piece now ∷ []) before)) in
    record { to = came_neat texts.writes job (after_events texts.writes job begun before) piece now (packets_given texts.writes job begun before) n.to; neat = n.neat }
events_neat texts job old begun all later (Ticks now ∷ before) is g t e =
    let P : List Packet → List ℕ → Type 0 = CheckOrImage texts.writes job old begun all in
    let a : CallerCore = after_events texts.writes job begun before in
    let given : List Packet = packets_given texts.writes job begun before in
    let n : Neat texts.writes job P a given = events_neat texts job old begun all (later ++ Ticks now ∷ []) before is g t (e ∙ sym (append_assoc later (Ticks now ∷ []) before)) in
    tick_neat texts job P a now given (marks_after texts.writes job old begun before) is (λ older octets c. inl c) (events_good texts job old begun before is g) n (
      events_good texts job old begun (Ticks now ∷ before) is g,
      λ page dcs octets ends told means emitted. inr (record {
        image = record { page = page; dcs = dcs; later = later; now = now; before = before; split = e; ends = ends; told = told; means = means; emitted = emitted };
        older_is = refl;
      }),
    )

-- each signal of the packets that were given
pub signal_given : (writes : Writing) (job : JobValue) (old : List Mark) (core : CallerCore) (start : ℕ) (events : List CallEvent) (place : ℕ) (octets : List ℕ) →
    let begun : CallerCore = started core job start in
    IsWriting writes → IsJob job → signal_at (reverse (map written (packets_given writes job begun events))) place ≡ Some octets
    → IsEnded (CheckOrImage writes job old begun events) (packets_given writes job begun events) place octets
signal_given writes job old core start events place octets w is h =
    let texts : Texts = record { writes = writes; are = w } in
    let begun : CallerCore = started core job start in
    let n = events_neat texts job old begun events [] events is (start_good texts job old core start is) (refl, (refl, tt)) refl in
    at_place (CheckOrImage writes job old begun events) (packets_given writes job begun events) place octets
    (given_fine texts job begun events is (start_good texts job [] core start is) (omega arith, tt)) n.neat h

pub gives_checks_and_pages : GivesChecksAndPages
gives_checks_and_pages writes job old core start events place octets w is h =
    by (signal_given writes job old core start events place octets w is h).older (signal_given writes job old core start events place octets w is h).holds
  where
    by : (older : List Packet) → CheckOrImage writes job old (started core job start) events older octets → IsCheck octets ⊎ IsImage writes job old (started core job start) events octets
    by older (inl c) = inl c
    by older (inr b) = inr b.image
