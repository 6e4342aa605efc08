-- The DCS that a call gives have one format and one coding, as long as it gives no EOM.
use Rattle.std.proofs.Common.{◌≡◌, ℕ, ◌+◌, Bool, true, false, not, ◌&&◌, ◌||◌, nat_lt, nat_le, List, [], ◌∷◌, length, take, drop, Option, Some, None, Result, Ok, Err, ◌⊎◌, inl, inr, refl, sym, ◌∙◌, ap, subst, if◌then◌else◌, slice_get}
use Rattle.std.specs.Prelude.{IfSome}
use Rattle.std.specs.List.{list_any}
use Rattle.fax_runcodes.specs.declared.format.Format.{Format}
use Rattle.fax_runcodes.specs.declared.format.Coding.{Coding}
use Rattle.fax_runcodes.specs.declared.format.Coding.TheVariants.{Mh, Mr}
use Rattle.fax_frames.specs.declared.dis.Dis.{Dis}
use Rattle.fax_frames.specs.declared.dcs.Dcs.{Dcs}
use Rattle.fax_frames.specs.declared.rate.Rate.{Rate}
use Rattle.fax_frames.specs.declared.frame.Frame.{Frame}
use Rattle.fax_frames.specs.declared.frame.Frame.TheVariants as frames
use Rattle.fax_frames.specs.declared.choice.Refusal.{Refusal}
use Rattle.fax_frames.specs.declared.choice.Refusal.TheVariants as refusals
use Rattle.fax_frames.specs.Rates.{kind_of}
use Rattle.fax_frames.specs.FieldBits.{has_bit}
use Rattle.fax_frames.specs.Capabilities.{rates_in, has_width}
use Rattle.fax_frames.specs.Choice.{dcs_at, choice}
use Rattle.fax_frames.specs.Frames.{frame_of}
use Rattle.fax_ifp.specs.Pieces as pieces
use Rattle.fax_jobs.specs.declared.outcome.Outcome.TheVariants as outcomes
use Rattle.fax_jobs.specs.Jobs.{JobValue}
use Rattle.fax_timers.specs.Moments.{is_due}
use Rattle.fax_timers.specs.Paces.{pace_allows}
use Rattle.fax_call.specs.declared.state.State.{State}
use Rattle.fax_call.specs.declared.state.State.TheVariants.{Idle, AwaitDis, AwaitCfr, AwaitMcf, Closing}
use Rattle.fax_call.specs.Writings.{Writing}
use Rattle.fax_call.specs.Replies.{Packet, Signals, Tells, Part, Due, One, Text, part_length, training, training_check, goodbye, is_last_page, turn_after, command_by, command_after, command, waits}
use Rattle.fax_call.specs.Table.{Counts, Move, Stays, Trains, Sends, AsksAgain, Turns, Closes, HangsUp, first_try, next_try, next_step, next_page, one_delivered, one_refused, by_choice, turns_or, tries_again, asks_again, on_frame, on_timers}
use Rattle.fax_call.specs.Calls.{CallerCore, started, moved, heard, timed, text_at, TakenPart, taken_text, taken, state_when_given, after_giving, given_first, TickResult, CallEvent, Comes, Ticks, after_events}
use Rattle.fax_call.specs.Given.{packets_with, packets_given, dcs_in, told_dcs, EachDcs, IsOfKind, tells_eom, GivesOneKind}
use Rattle.fax_call.proofs.PacketsBack.{dcs_back}
use Rattle.fax_call.proofs.Waiting.{AreParts, check_parts}

-- THE CHOICE
abbrev dis_coding : Dis → Coding
dis_coding dis = if has_bit 16 dis.caps.0 then Mr else Mh

abbrev at_rate : Dis → Format → Option Rate → Result Dcs Refusal
at_rate dis format None = Err refusals.RatesSpent
at_rate dis format (Some rate) = Ok (dcs_at dis format rate)

rate_kind : (dis : Dis) (format : Format) (o : Option Rate) (dcs : Dcs) → at_rate dis format o ≡ Ok dcs → IsOfKind format (dis_coding dis) dcs
rate_kind dis format None dcs h = cc
rate_kind dis format (Some rate) dcs h =
    let same : dcs_at dis format rate ≡ dcs = ok_one (dcs_at dis format rate) dcs h in
    subst (λ (d : Dcs). IsOfKind format (dis_coding dis) d) same (record { format_is = refl; coding_is = refl })
  where
    ok_one : (d e : Dcs) → ◌≡◌ {A = Result Dcs Refusal} (Ok d) (Ok e) → d ≡ e
    ok_one d e q = cc

choice_kind : (dis : Dis) (format : Format) (step : ℕ) (dcs : Dcs) → choice dis format step ≡ Ok dcs → IsOfKind format (dis_coding dis) dcs
choice_kind dis format step dcs h =
    let rate : Option Rate = slice_get (rates_in dis.caps.0) step in
    by (not (has_bit 10 dis.caps.0)) (not (has_width format.width dis.caps.0)) (format.fine && not (has_bit 15 dis.caps.0)) (at_rate dis format rate) (rate_kind dis format rate dcs) h
  where
    by : (x y z : Bool) (r : Result Dcs Refusal) → (r ≡ Ok dcs → IsOfKind format (dis_coding dis) dcs) →
        (if x then Err refusals.NotReceiver else if y then Err refusals.WidthLacking else if z then Err refusals.FineLacking else r) ≡ Ok dcs → IsOfKind format (dis_coding dis) dcs
    by true y z r f e = cc
    by false true z r f e = cc
    by false false true r f e = cc
    by false false false r f e = f e

-- WHAT WAITS
abbrev AllDue : (Dcs → Type 0) → List Due → Type 0
AllDue P [] = Unit {0}
AllDue P (One p ∷ due) = IfSome (told_dcs p) P × AllDue P due
AllDue P (Text page dcs from ∷ due) = AllDue P due

abbrev Never : Dcs → Type 0
Never dcs = ⊥

no_dcs : (P : Dcs → Type 0) (packets : List Packet) → EachDcs Never packets → EachDcs P packets
no_dcs P [] h = tt
no_dcs P (p ∷ packets) h = (by (told_dcs p) h.0, no_dcs P packets h.1)
  where
    by : (o : Option Dcs) → IfSome o Never → IfSome o P
    by None k = tt
    by (Some d) k = absurd k

parts_due : (P : Dcs → Type 0) (rate : Rate) (due : List Due) → AreParts rate due → AllDue P due
parts_due P rate [] a = tt
parts_due P rate (One (Part kind last os) ∷ due) a = (tt, parts_due P rate due a.3)
parts_due P rate (One (Signals c) ∷ due) a = absurd a
parts_due P rate (One (Tells f) ∷ due) a = absurd a
parts_due P rate (Text p d f ∷ due) a = absurd a

command_due : (P : Dcs → Type 0) (end : Bool) (turn : Option Format) → AllDue P (command (command_by end turn))
command_due P true turn = (tt, (tt, tt))
command_due P false (Some format) = (tt, (tt, tt))
command_due P false None = (tt, (tt, tt))

goodbye_due : (P : Dcs → Type 0) → AllDue P goodbye
goodbye_due P = (tt, (tt, tt))

training_due : (f : Format) (c : Coding) (dcs : Dcs) → IsOfKind f c dcs → AllDue (IsOfKind f c) (training dcs)
training_due f c dcs k = (
  tt,
  (
    subst (λ (o : Option Frame). IfSome (dcs_in o) (IsOfKind f c)) (sym (dcs_back dcs)) (record { format_is = k.format_is; coding_is = k.coding_is }),
    (tt, parts_due (IsOfKind f c) dcs.rate (training_check dcs) (check_parts dcs)),
  ),
)

-- WHETHER EOM WAITS OR WAS GIVEN
abbrev is_eom_due : List Due → Bool
is_eom_due [] = false
is_eom_due (One p ∷ due) = tells_eom p || is_eom_due due
is_eom_due (Text page dcs from ∷ due) = is_eom_due due

abbrev TellsEom : List Packet → Type 0
TellsEom given = list_any tells_eom given ≡ true

abbrev IsToTell : List Due → List Packet → Type 0
IsToTell due given = (is_eom_due due ≡ true) ⊎ TellsEom given

-- where the next page is of another format, the command of the page that is sent is EOM
abbrev Asks : List Format → (pages : ℕ) → State → Counts → List Due → List Packet → Type 0
Asks formats pages (AwaitMcf dis dcs) c due given = (turn : Format) → turn_after formats c.page ≡ Some turn → is_last_page pages c.page ≡ false → IsToTell due given
Asks formats pages state c due given = Unit {0}

asks_command : (formats : List Format) (pages page : ℕ) (turn : Format) → turn_after formats page ≡ Some turn → is_last_page pages page ≡ false → is_eom_due (command (command_after formats pages page)) ≡ true
asks_command formats pages page turn e l = by (is_last_page pages page) (turn_after formats page) l e
  where
    by : (b : Bool) (t : Option Format) → b ≡ false → t ≡ Some turn → is_eom_due (command (command_by b t)) ≡ true
    by true t l e = cc
    by false None l e = cc
    by false (Some x) l e = refl

-- BEFORE A DCS, AND AFTER THE FIRST
abbrev IsEarly : State → Type 0
IsEarly (AwaitCfr dis dcs) = ⊥
IsEarly (AwaitMcf dis dcs) = ⊥
IsEarly state = Unit {0}

abbrev Known : Format → Coding → Dis → Dcs → Type 0
Known f c dis dcs = (dis_coding dis ≡ c) × IsOfKind f c dcs

abbrev StateKind : Format → Coding → State → Type 0
StateKind f c AwaitDis = ⊥
StateKind f c (AwaitCfr dis dcs) = Known f c dis dcs
StateKind f c (AwaitMcf dis dcs) = Known f c dis dcs
StateKind f c state = Unit {0}

record Early (f : Format) (a : CallerCore) (given : List Packet) : Type 0 where
  format : a.format ≡ f
  state : IsEarly a.state
  due : AllDue Never a.waiting
  given_so : EachDcs Never given

record Late (f : Format) (a : CallerCore) (given : List Packet) : Type 0 where
  coding : Coding
  format : a.format ≡ f
  state : StateKind f coding a.state
  due : AllDue (IsOfKind f coding) a.waiting
  asks : Asks a.formats a.pages a.state a.counts a.waiting given
  given_so : EachDcs (IsOfKind f coding) given

-- and where EOM was given nothing more is told
data Stage (f : Format) (a : CallerCore) (given : List Packet) : Type 0 where
  IsBefore : (early : Early f a given) → Stage f a given
  IsAfter : (late : Late f a given) → Stage f a given
  IsTurned : (told : TellsEom given) → Stage f a given

-- a move
abbrev EarlyMove : Format → Move → Type 0
EarlyMove f (Trains dis dcs c) = IsOfKind f (dis_coding dis) dcs
EarlyMove f (Sends dis dcs c) = ⊥
EarlyMove f (AsksAgain c) = ⊥
EarlyMove f (Turns format t1 c) = ⊥
EarlyMove f m = Unit {0}

abbrev LateMove : Format → Coding → Move → Type 0
LateMove f k (Trains dis dcs c) = Known f k dis dcs
LateMove f k (Sends dis dcs c) = Known f k dis dcs
LateMove f k (Turns format t1 c) = ⊥
LateMove f k m = Unit {0}

early_moved : (f : Format) (a : CallerCore) (given : List Packet) (m : Move) → EarlyMove f m → Early f a given → Stage f (moved a m) given
early_moved f a given Stays h e = IsBefore e
early_moved f a given (Trains dis dcs c) h e =
    IsAfter (record { coding = dis_coding dis; format = e.format; state = (refl, h); due = training_due f (dis_coding dis) dcs h; asks = tt; given_so = no_dcs (IsOfKind f (dis_coding dis)) given e.given_so })
early_moved f a given (Sends dis dcs c) h e = absurd h
early_moved f a given (AsksAgain c) h e = absurd h
early_moved f a given (Turns format t1 c) h e = absurd h
early_moved f a given (Closes outcome c) h e = IsBefore (record { format = e.format; state = tt; due = goodbye_due Never; given_so = e.given_so })
early_moved f a given HangsUp h e = IsBefore (record { format = e.format; state = tt; due = tt; given_so = e.given_so })

asked_again : (a : CallerCore) (c : Counts) (state : State) (given : List Packet) → Asks a.formats a.pages state c (command (command_after a.formats a.pages c.page)) given
asked_again a c Idle given = tt
asked_again a c AwaitDis given = tt
asked_again a c (Closing o) given = tt
asked_again a c (AwaitCfr dis dcs) given = tt
asked_again a c (AwaitMcf dis dcs) given = λ turn e l. inl (asks_command a.formats a.pages c.page turn e l)

late_moved : (f : Format) (a : CallerCore) (given : List Packet) (m : Move) (l : Late f a given) → LateMove f l.coding m → Late f (moved a m) given
late_moved f a given Stays l h = l
late_moved f a given (Trains dis dcs c) l h =
    record { coding = l.coding; format = l.format; state = h; due = training_due f l.coding dcs h.1; asks = tt; given_so = l.given_so }
late_moved f a given (Sends dis dcs c) l h =
    record {
      coding = l.coding;
      format = l.format;
      state = h;
      due = (tt, command_due (IsOfKind f l.coding) (is_last_page a.pages c.page) (turn_after a.formats c.page));
      asks = λ turn e k. inl (asks_command a.formats a.pages c.page turn e k);
      given_so = l.given_so;
    }
late_moved f a given (AsksAgain c) l h =
    record {
      coding = l.coding;
      format = l.format;
      state = l.state;
      due = command_due (IsOfKind f l.coding) (is_last_page a.pages c.page) (turn_after a.formats c.page);
      asks = asked_again a c a.state given;
      given_so = l.given_so;
    }
late_moved f a given (Turns format t1 c) l h = absurd h
late_moved f a given (Closes outcome c) l h = record { coding = l.coding; format = l.format; state = tt; due = goodbye_due (IsOfKind f l.coding); asks = tt; given_so = l.given_so }
late_moved f a given HangsUp l h = record { coding = l.coding; format = l.format; state = tt; due = tt; asks = tt; given_so = l.given_so }

-- the moves of the table; E holds where the table turns
early_choice : (f : Format) (dis : Dis) (c : Counts) (r : Result Dcs Refusal) → ((dcs : Dcs) → r ≡ Ok dcs → IsOfKind f (dis_coding dis) dcs) → EarlyMove f (by_choice dis c r)
early_choice f dis c (Ok dcs) g = g dcs refl
early_choice f dis c (Err e) g = tt

late_choice : (f : Format) (k : Coding) (dis : Dis) (c : Counts) (r : Result Dcs Refusal) → dis_coding dis ≡ k → ((dcs : Dcs) → r ≡ Ok dcs → IsOfKind f (dis_coding dis) dcs) → LateMove f k (by_choice dis c r)
late_choice f k dis c (Ok dcs) e g = (e, subst (λ (x : Coding). IsOfKind f x dcs) e (g dcs refl))
late_choice f k dis c (Err r) e g = tt

late_if : (f : Format) (k : Coding) (b : Bool) (m n : Move) → LateMove f k m → LateMove f k n → LateMove f k (if b then m else n)
late_if f k true m n x y = x
late_if f k false m n x y = y

acked : (E : Type 0) (f : Format) (k : Coding) (now pages : ℕ) (turn : Option Format) (c : Counts) (m : Move) → LateMove f k m → ((t : Format) → turn ≡ Some t → is_last_page pages c.page ≡ false → E)
    → LateMove f k (if is_last_page pages c.page then Closes outcomes.Delivered (one_delivered c) else turns_or now turn c m) ⊎ E
acked E f k now pages turn c m h g = by (is_last_page pages c.page) turn g
  where
    by : (b : Bool) (t : Option Format) → ((x : Format) → t ≡ Some x → b ≡ false → E) → LateMove f k (if b then Closes outcomes.Delivered (one_delivered c) else turns_or now t c m) ⊎ E
    by true t g = inl tt
    by false None g = inl h
    by false (Some x) g = inr (g x refl refl)

early_frame : (f : Format) (now : ℕ) (turn : Option Format) (pages : ℕ) (state : State) (c : Counts) (o : Option Frame) → IsEarly state → EarlyMove f (on_frame now f turn pages state c o)
early_frame f now turn pages AwaitDis c (Some (frames.Dis dis)) h = early_choice f dis (first_try c) (choice dis f c.step) (choice_kind dis f c.step)
early_frame f now turn pages AwaitDis c (Some frames.Dcn) h = tt
early_frame f now turn pages AwaitDis c o h = tt
early_frame f now turn pages Idle c o h = tt
early_frame f now turn pages (Closing outcome) c o h = tt
early_frame f now turn pages (AwaitCfr dis dcs) c o h = absurd h
early_frame f now turn pages (AwaitMcf dis dcs) c o h = absurd h

abbrev Turning : Type 0 → State → Option Format → ℕ → Counts → Type 0
Turning E (AwaitMcf dis dcs) turn pages c = (t : Format) → turn ≡ Some t → is_last_page pages c.page ≡ false → E
Turning E state turn pages c = Unit {0}

late_frame : (E : Type 0) (f : Format) (k : Coding) (now : ℕ) (turn : Option Format) (pages : ℕ) (state : State) (c : Counts) (o : Option Frame) → StateKind f k state → Turning E state turn pages c
    → LateMove f k (on_frame now f turn pages state c o) ⊎ E
late_frame E f k now turn pages AwaitDis c o h g = absurd h
late_frame E f k now turn pages Idle c o h g = inl tt
late_frame E f k now turn pages (Closing outcome) c o h g = inl tt
late_frame E f k now turn pages (AwaitCfr dis dcs) c (Some frames.Cfr) h g = inl h
late_frame E f k now turn pages (AwaitCfr dis dcs) c (Some frames.Ftt) h g = inl (late_choice f k dis (next_step c) (choice dis f (c.step + 1)) h.0 (choice_kind dis f (c.step + 1)))
late_frame E f k now turn pages (AwaitCfr dis dcs) c (Some (frames.Dis other)) h g = inl (late_if f k (nat_lt c.tries 3) (Trains dis dcs (next_try c)) (Closes outcomes.NoReply c) h tt)
late_frame E f k now turn pages (AwaitCfr dis dcs) c (Some frames.Dcn) h g = inl tt
late_frame E f k now turn pages (AwaitCfr dis dcs) c o h g = inl tt
late_frame E f k now turn pages (AwaitMcf dis dcs) c (Some frames.Mcf) h g = acked E f k now pages turn c (Sends dis dcs (next_page c)) h g
late_frame E f k now turn pages (AwaitMcf dis dcs) c (Some frames.Rtp) h g = acked E f k now pages turn c (Trains dis dcs (next_page c)) h g
late_frame E f k now turn pages (AwaitMcf dis dcs) c (Some frames.Rtn) h g = inl (late_if f k (nat_lt c.refused 2) (Trains dis dcs (one_refused c)) (Closes outcomes.PageRefused c) h tt)
late_frame E f k now turn pages (AwaitMcf dis dcs) c (Some frames.Dcn) h g = inl tt
late_frame E f k now turn pages (AwaitMcf dis dcs) c o h g = inl tt

early_timer : (f : Format) (x y : Bool) (state : State) (c : Counts) → IsEarly state → EarlyMove f (on_timers x y state c)
early_timer f x y Idle c h = tt
early_timer f x y (Closing outcome) c h = tt
early_timer f true y AwaitDis c h = tt
early_timer f false y AwaitDis c h = tt
early_timer f x y (AwaitCfr dis dcs) c h = absurd h
early_timer f x y (AwaitMcf dis dcs) c h = absurd h

late_timer : (f : Format) (k : Coding) (x y : Bool) (state : State) (c : Counts) → StateKind f k state → LateMove f k (on_timers x y state c)
late_timer f k x y Idle c h = tt
late_timer f k x y (Closing outcome) c h = tt
late_timer f k x y AwaitDis c h = absurd h
late_timer f k x y (AwaitCfr dis dcs) c h = late_if f k y (tries_again dis dcs c) Stays (late_if f k (nat_lt c.tries 3) (Trains dis dcs (next_try c)) (Closes outcomes.NoReply c) h tt) tt
late_timer f k x y (AwaitMcf dis dcs) c h = late_if f k y (asks_again c) Stays (late_if f k (nat_lt c.tries 3) (AsksAgain (next_try c)) (Closes outcomes.NoReply c) tt tt) tt

early_free : (f : Format) (b : Bool) (m : Move) → EarlyMove f m → EarlyMove f (if b then Stays else m)
early_free f true m h = tt
early_free f false m h = h

late_free : (f : Format) (k : Coding) (b : Bool) (m : Move) → LateMove f k m → LateMove f k (if b then Stays else m)
late_free f k true m h = tt
late_free f k false m h = h

early_heard : (f : Format) (a : CallerCore) (piece : pieces.Piece) (now : ℕ) → a.format ≡ f → IsEarly a.state → EarlyMove f (heard a piece now)
early_heard f a (pieces.Frame octets) now e h =
    let turn : Option Format = turn_after a.formats a.counts.page in
    early_free f (waits a.waiting) (on_frame now a.format turn a.pages a.state a.counts (frame_of octets))
    (subst (λ (x : Format). EarlyMove f (on_frame now x turn a.pages a.state a.counts (frame_of octets))) (sym e) (early_frame f now turn a.pages a.state a.counts (frame_of octets) h))
early_heard f a (pieces.Start k) now e h = tt
early_heard f a (pieces.Octets os) now e h = tt
early_heard f a (pieces.End w) now e h = tt
early_heard f a pieces.Gap now e h = tt

-- where nothing waits, EOM was given
turning : (formats : List Format) (pages : ℕ) (state : State) (c : Counts) (given : List Packet) → Asks formats pages state c [] given → Turning (TellsEom given) state (turn_after formats c.page) pages c
turning formats pages Idle c given h = tt
turning formats pages AwaitDis c given h = tt
turning formats pages (Closing o) c given h = tt
turning formats pages (AwaitCfr dis dcs) c given h = tt
turning formats pages (AwaitMcf dis dcs) c given h = λ t e l. given_so (h t e l)
  where
    given_so : IsToTell [] given → TellsEom given
    given_so (inl x) = cc
    given_so (inr x) = x

late_heard : (f : Format) (a : CallerCore) (piece : pieces.Piece) (now : ℕ) (given : List Packet) (l : Late f a given) → LateMove f l.coding (heard a piece now) ⊎ TellsEom given
late_heard f a (pieces.Frame octets) now given l = by a.waiting refl
  where
    turn : Option Format
    turn = turn_after a.formats a.counts.page

    by : (w : List Due) → a.waiting ≡ w → LateMove f l.coding (if waits w then Stays else on_frame now a.format turn a.pages a.state a.counts (frame_of octets)) ⊎ TellsEom given
    by [] e =
        let free : Asks a.formats a.pages a.state a.counts [] given = subst (λ (w : List Due). Asks a.formats a.pages a.state a.counts w given) e l.asks in
        subst (λ (x : Format). LateMove f l.coding (on_frame now x turn a.pages a.state a.counts (frame_of octets)) ⊎ TellsEom given) (sym l.format)
        (late_frame (TellsEom given) f l.coding now turn a.pages a.state a.counts (frame_of octets) l.state (turning a.formats a.pages a.state a.counts given free))
    by (d ∷ due) e = inl tt
late_heard f a (pieces.Start n) now given l = inl tt
late_heard f a (pieces.Octets os) now given l = inl tt
late_heard f a (pieces.End w) now given l = inl tt
late_heard f a pieces.Gap now given l = inl tt

-- GIVING
record TakenSo (P : Dcs → Type 0) (t : TakenPart) : Type 0 where
  packet : IfSome (told_dcs t.packet) P
  rest : AllDue P t.rest

text_taken : (P : Dcs → Type 0) (page : ℕ) (dcs : Dcs) (from : ℕ) (text : List ℕ) (due : List Due) → AllDue P due → TakenSo P (taken_text page dcs from text due)
text_taken P page dcs from text due h = by (nat_le (length (drop from text)) (part_length dcs))
  where
    by : (t : Bool) → TakenSo P (if◌then◌else◌ {A = TakenPart} t (record { packet = Part (kind_of dcs.rate) true (drop from text); rest = due }) (record { packet = Part (kind_of dcs.rate) false (take (part_length dcs) (drop from text)); rest = Text page dcs (from + part_length dcs) ∷ due }))
    by true = record { packet = tt; rest = h }
    by false = record { packet = tt; rest = h }

all_taken : (P : Dcs → Type 0) (writes : Writing) (job : JobValue) (d : Due) (due : List Due) → AllDue P (d ∷ due) → TakenSo P (taken writes job d due)
all_taken P writes job (One p) due h = record { packet = h.0; rest = h.1 }
all_taken P writes job (Text n dcs from) due h = text_taken P n dcs from (text_at writes job n dcs) due h

after_due : (P : Dcs → Type 0) (a : CallerCore) (now : ℕ) (packet : Packet) (due : List Due) → AllDue P due → AllDue P (after_giving a now packet due).waiting
after_due P a now packet [] h = tt
after_due P a now packet (d ∷ due) h = h

after_format : (a : CallerCore) (now : ℕ) (packet : Packet) (due : List Due) → (after_giving a now packet due).format ≡ a.format
after_format a now packet [] = refl
after_format a now packet (d ∷ due) = refl

early_given : (state : State) → IsEarly state → IsEarly (state_when_given state)
early_given Idle h = tt
early_given AwaitDis h = tt
early_given (AwaitCfr dis dcs) h = h
early_given (AwaitMcf dis dcs) h = h
early_given (Closing o) h = tt

late_given : (f : Format) (k : Coding) (state : State) → StateKind f k state → StateKind f k (state_when_given state)
late_given f k Idle h = tt
late_given f k AwaitDis h = h
late_given f k (AwaitCfr dis dcs) h = h
late_given f k (AwaitMcf dis dcs) h = h
late_given f k (Closing o) h = tt

early_after : (a : CallerCore) (now : ℕ) (packet : Packet) (due : List Due) → IsEarly a.state → IsEarly (after_giving a now packet due).state
early_after a now packet [] h = early_given a.state h
early_after a now packet (d ∷ due) h = h

late_after : (f : Format) (k : Coding) (a : CallerCore) (now : ℕ) (packet : Packet) (due : List Due) → StateKind f k a.state → StateKind f k (after_giving a now packet due).state
late_after f k a now packet [] h = late_given f k a.state h
late_after f k a now packet (d ∷ due) h = h

-- what was to be told is told or is to be told still
any_first : (p : Packet) (given : List Packet) → tells_eom p ≡ true → TellsEom (p ∷ given)
any_first p given e = ap (λ (b : Bool). b || list_any tells_eom given) e

any_rest : (p : Packet) (given : List Packet) → TellsEom given → TellsEom (p ∷ given)
any_rest p given e = by (tells_eom p)
  where
    by : (b : Bool) → (b || list_any tells_eom given) ≡ true
    by true = refl
    by false = e

text_to_tell : (page : ℕ) (dcs : Dcs) (from : ℕ) (text : List ℕ) (due : List Due) (given : List Packet) → IsToTell due given →
    let t : TakenPart = taken_text page dcs from text due in IsToTell t.rest (t.packet ∷ given)
text_to_tell page dcs from text due given h = by (nat_le (length (drop from text)) (part_length dcs)) h
  where
    by : (b : Bool) → IsToTell due given →
        let t : TakenPart = if◌then◌else◌ {A = TakenPart} b (record { packet = Part (kind_of dcs.rate) true (drop from text); rest = due }) (record { packet = Part (kind_of dcs.rate) false (take (part_length dcs) (drop from text)); rest = Text page dcs (from + part_length dcs) ∷ due }) in
        IsToTell t.rest (t.packet ∷ given)
    by true h = h
    by false h = h

taken_to_tell : (writes : Writing) (job : JobValue) (d : Due) (due : List Due) (given : List Packet) → IsToTell (d ∷ due) given →
    let t : TakenPart = taken writes job d due in IsToTell t.rest (t.packet ∷ given)
taken_to_tell writes job (Text n dcs from) due given h = text_to_tell n dcs from (text_at writes job n dcs) due given h
taken_to_tell writes job (One p) due given (inr h) = inr (any_rest p given h)
taken_to_tell writes job (One p) due given (inl h) = by (tells_eom p) refl h
  where
    by : (b : Bool) → tells_eom p ≡ b → (b || is_eom_due due) ≡ true → IsToTell due (p ∷ given)
    by true e k = inr (any_first p given e)
    by false e k = inl k

abbrev AsksOf : CallerCore → List Packet → Type 0
AsksOf a given = Asks a.formats a.pages a.state a.counts a.waiting given

after_asks : (writes : Writing) (job : JobValue) (a : CallerCore) (now : ℕ) (d : Due) (due : List Due) (given : List Packet) → Asks a.formats a.pages a.state a.counts (d ∷ due) given →
    let t : TakenPart = taken writes job d due in AsksOf (after_giving a now t.packet t.rest) (t.packet ∷ given)
after_asks writes job a now d due given h =
    by (taken writes job d due).rest a.state (λ x. taken_to_tell writes job d due given x) h
  where
    packet : Packet
    packet = (taken writes job d due).packet

    of : (rest : List Due) (state : State) → (IsToTell (d ∷ due) given → IsToTell rest (packet ∷ given)) → Asks a.formats a.pages state a.counts (d ∷ due) given → Asks a.formats a.pages state a.counts rest (packet ∷ given)
    of rest Idle g h = tt
    of rest AwaitDis g h = tt
    of rest (Closing o) g h = tt
    of rest (AwaitCfr dis dcs) g h = tt
    of rest (AwaitMcf dis dcs) g h = λ turn e l. g (h turn e l)

    ended : (state : State) → Asks a.formats a.pages state a.counts [] (packet ∷ given) → Asks a.formats a.pages (state_when_given state) a.counts [] (packet ∷ given)
    ended Idle h = tt
    ended AwaitDis h = tt
    ended (Closing o) h = tt
    ended (AwaitCfr dis dcs) h = tt
    ended (AwaitMcf dis dcs) h = h

    by : (rest : List Due) (state : State) → (IsToTell (d ∷ due) given → IsToTell rest (packet ∷ given)) → Asks a.formats a.pages state a.counts (d ∷ due) given
        → AsksOf (after_giving (record a { state = state }) now packet rest) (packet ∷ given)
    by [] state g h = ended state (of [] state g h)
    by (x ∷ rest) state g h = of (x ∷ rest) state g h

abbrev StageAfter : Format → TickResult → List Packet → Type 0
StageAfter f t given = Stage f t.core (packets_with t.given given)

first_stage : (f : Format) (writes : Writing) (job : JobValue) (a : CallerCore) (now : ℕ) (due : List Due) (given : List Packet) → a.waiting ≡ due → Stage f a given → StageAfter f (given_first writes job a now due) given
first_stage f writes job a now [] given e s = s
first_stage f writes job a now (d ∷ due) given e (IsBefore s) =
    let t = all_taken Never writes job d due (subst (AllDue Never) e s.due) in
    let packet : Packet = (taken writes job d due).packet in
    let rest : List Due = (taken writes job d due).rest in
    IsBefore (record { format = after_format a now packet rest ∙ s.format; state = early_after a now packet rest s.state; due = after_due Never a now packet rest t.rest; given_so = (t.packet, s.given_so) })
first_stage f writes job a now (d ∷ due) given e (IsAfter s) =
    let P : Dcs → Type 0 = IsOfKind f s.coding in
    let t = all_taken P writes job d due (subst (AllDue P) e s.due) in
    let packet : Packet = (taken writes job d due).packet in
    let rest : List Due = (taken writes job d due).rest in
    IsAfter (record {
      coding = s.coding;
      format = after_format a now packet rest ∙ s.format;
      state = late_after f s.coding a now packet rest s.state;
      due = after_due P a now packet rest t.rest;
      asks = after_asks writes job a now d due given (subst (λ (w : List Due). Asks a.formats a.pages a.state a.counts w given) e s.asks);
      given_so = (t.packet, s.given_so);
    })
first_stage f writes job a now (d ∷ due) given e (IsTurned s) = IsTurned (any_rest (taken writes job d due).packet given s)

paced_stage : (f : Format) (b : Bool) (a : CallerCore) (t : TickResult) (given : List Packet) → Stage f a given → StageAfter f t given → StageAfter f (if◌then◌else◌ {A = TickResult} b t (record { core = a; given = None })) given
paced_stage f true a t given s h = h
paced_stage f false a t given s h = s

timed_stage : (f : Format) (a : CallerCore) (now : ℕ) (given : List Packet) → Stage f a given → Stage f (timed a now) given
timed_stage f a now given (IsBefore s) = early_moved f a given _ (early_free f (waits a.waiting) _ (early_timer f (is_due a.t1 now) (is_due a.t4 now) a.state a.counts s.state)) s
timed_stage f a now given (IsAfter s) = IsAfter (late_moved f a given _ s (late_free f s.coding (waits a.waiting) _ (late_timer f s.coding (is_due a.t1 now) (is_due a.t4 now) a.state a.counts s.state)))
timed_stage f a now given (IsTurned s) = IsTurned s

came_stage : (f : Format) (a : CallerCore) (piece : pieces.Piece) (now : ℕ) (given : List Packet) → Stage f a given → Stage f (moved a (heard a piece now)) given
came_stage f a piece now given (IsBefore s) = early_moved f a given (heard a piece now) (early_heard f a piece now s.format s.state) s
came_stage f a piece now given (IsAfter s) = by (late_heard f a piece now given s)
  where
    by : LateMove f s.coding (heard a piece now) ⊎ TellsEom given → Stage f (moved a (heard a piece now)) given
    by (inl m) = IsAfter (late_moved f a given (heard a piece now) s m)
    by (inr t) = IsTurned t
came_stage f a piece now given (IsTurned s) = IsTurned s

stage : (f : Format) (writes : Writing) (job : JobValue) (a : CallerCore) (events : List CallEvent) → Stage f a [] → Stage f (after_events writes job a events) (packets_given writes job a events)
stage f writes job a [] s = s
stage f writes job a (Comes piece now ∷ before) s = came_stage f (after_events writes job a before) piece now (packets_given writes job a before) (stage f writes job a before s)
stage f writes job a (Ticks now ∷ before) s =
    let given : List Packet = packets_given writes job a before in
    let b : CallerCore = timed (after_events writes job a before) now in
    let u : Stage f b given = timed_stage f (after_events writes job a before) now given (stage f writes job a before s) in
    paced_stage f (pace_allows b.pace.last now) b (given_first writes job b now b.waiting) given u (first_stage f writes job b now b.waiting given refl u)

one_of : (f : Format) (a : CallerCore) (given : List Packet) → Stage f a given → list_any tells_eom given ≡ false → (coding : Coding) × EachDcs (IsOfKind f coding) given
one_of f a given (IsBefore s) n = (Mh, no_dcs (IsOfKind f Mh) given s.given_so)
one_of f a given (IsAfter s) n = (s.coding, s.given_so)
one_of f a given (IsTurned s) n = let e : true ≡ false = sym s ∙ n in cc

pub gives_one_kind : GivesOneKind
gives_one_kind writes job core start events none =
    let a : CallerCore = started core job start in
    one_of job.format (after_events writes job a events) (packets_given writes job a events)
    (stage job.format writes job a events (IsBefore (record { format = refl; state = tt; due = (tt, tt); given_so = tt }))) none
