-- The next packet, of a procedure and of the core that it stands for.
use Rattle.std.proofs.Common.{◌≡◌, ℕ, zero, suc, ◌+◌, ◌-◌, ◌*◌, ◌/◌, ◌<◌, ◌≤◌, Bool, true, false, ◌&&◌, nat_le, List, [], ◌∷◌, length, take, drop, replicate, slice_get, Option, Some, None, Result, Ok, Err, refl, sym, ◌∙◌, ap, subst, arith, length-drop, if◌then◌else◌}
use Rattle.std.specs.Prelude.{option_map, IsSome}
use Rattle.std.specs.Result.{IfOk, OnOk, OnErr}
use Rattle.std.proofs.Math.Seq.{drop-drop}
use Rattle.std.proofs.lemmas.List.{take-replicate, drop-replicate, length-replicate}
use Rattle.fax_runcodes.specs.declared.format.Format.{Format}
use Rattle.fax_frames.specs.declared.dcs.Dcs.{Dcs}
use Rattle.fax_frames.specs.declared.rate.Rate.{Rate}
use Rattle.fax_frames.specs.declared.rate.Rate.TheVariants.{V27At2400, V27At4800, V29At7200, V29At9600, V17At7200, V17At9600, V17At12000, V17At14400}
use Rattle.fax_frames.specs.declared.writing.Plain.{Plain}
use Rattle.fax_frames.specs.Rates.{bits_a_second, kind_of}
use Rattle.fax_frames.specs.Written.{written_plain, written_dcs}
use Rattle.fax_ifp.specs.Elements.{Slot}
use Rattle.fax_ifp.specs.Tracked.{IsTracked}
use Rattle.fax_timers.specs.Paces.{PaceValue, pace_after, pace_allows}
use Rattle.fax_pagestore.specs.Pages.{PageValue}
use Rattle.fax_pagestore.specs.Writers.{WriterValue, HasLeft}
use Rattle.fax_jobs.specs.declared.outcome.Outcome.{Outcome}
use Rattle.fax_jobs.specs.Jobs.{JobValue}
use Rattle.fax_call.specs.declared.pending.Message.TheVariants as messages
use Rattle.fax_call.specs.declared.pending.Pending.{Pending}
use Rattle.fax_call.specs.declared.pending.Pending.TheVariants as pendings
use Rattle.fax_call.specs.declared.procedure.Procedure.{Procedure}
use Rattle.fax_call.specs.declared.state.State.{State}
use Rattle.fax_call.specs.declared.state.State.TheVariants.{Idle, AwaitDis, AwaitCfr, AwaitMcf, Closing}
use Rattle.fax_call.specs.Writings.{Writing}
use Rattle.fax_call.specs.Replies.{Packet, Tells, Part, written, Due, One, Text, waits, signals_preamble, parts_of, part_length, check_length, training_check, is_last_page, turn_after, command_by, command_after, command, frame_reply}
use Rattle.fax_call.specs.Calls.{CallerCore, formats_of, text_at, TakenPart, taken, state_when_given, outcome_when_given, t4_when_given, after_giving, TickResult, given_first, paced, timed, ticked}
use Rattle.fax_call.specs.Rep.{waiting_of, framed, training_after, check_after, text_part, packet_of, pending_after, FitsPending}
use Rattle.fax_call.specs.Following.{IsFit, HasTextLeft, IsLeft, KeepsTurn, Follows, HasText, HasFormats, after_packet, command_kept, given_by, with_turn, gives_now, GivesNext, GivesPacket}
use Rattle.fax_call.specs.Reached.{Rep, IsReached, IsGiven}
use Rattle.fax_call.proofs.FollowingLemmas.{pending_waits}

-- THE NEXT PAGE'S FORMAT is kept by every packet but the short training indicator, with which it is told
pub turn_named : (s : State) (q : Pending) (formats : List Format) (page : ℕ) (turn : Option Format) → turn ≡ turn_after formats page → KeepsTurn s q formats page turn
turn_named Idle q formats page turn h = tt
turn_named AwaitDis q formats page turn h = tt
turn_named (AwaitCfr dis dcs) q formats page turn h = tt
turn_named (Closing outcome) q formats page turn h = tt
turn_named (AwaitMcf dis dcs) pendings.Nothing formats page turn h = h
turn_named (AwaitMcf dis dcs) pendings.Tone formats page turn h = h
turn_named (AwaitMcf dis dcs) (pendings.Preamble m) formats page turn h = h
turn_named (AwaitMcf dis dcs) (pendings.Frame m) formats page turn h = h
turn_named (AwaitMcf dis dcs) (pendings.Training d) formats page turn h = h
turn_named (AwaitMcf dis dcs) (pendings.Check d given) formats page turn h = h
turn_named (AwaitMcf dis dcs) (pendings.Image d) formats page turn h = tt
turn_named (AwaitMcf dis dcs) (pendings.Text d plain) formats page turn h = h

pub turn_kept : (s : State) (q r : Pending) (formats : List Format) (page : ℕ) (turn : Option Format) → ((dcs : Dcs) → q ≡ pendings.Image dcs → ⊥)
    → KeepsTurn s q formats page turn → KeepsTurn s r formats page turn
turn_kept Idle q r formats page turn other k = tt
turn_kept AwaitDis q r formats page turn other k = tt
turn_kept (AwaitCfr dis dcs) q r formats page turn other k = tt
turn_kept (Closing outcome) q r formats page turn other k = tt
turn_kept (AwaitMcf dis dcs) q r formats page turn other k = turn_named (AwaitMcf dis dcs) r formats page turn (by q other k)
  where
    by : (q : Pending) → ((dcs : Dcs) → q ≡ pendings.Image dcs → ⊥) → KeepsTurn (AwaitMcf dis dcs) q formats page turn → turn ≡ turn_after formats page
    by pendings.Nothing other k = k
    by pendings.Tone other k = k
    by (pendings.Preamble m) other k = k
    by (pendings.Frame m) other k = k
    by (pendings.Training d) other k = k
    by (pendings.Check d given) other k = k
    by (pendings.Image d) other k = absurd (other d refl)
    by (pendings.Text d plain) other k = k

-- THE CORE, after a packet: some packets wait, or none
more_wait : (a : CallerCore) (now : ℕ) (packet : Packet) (due : List Due) → waits due ≡ true → after_giving a now packet due ≡ record a { waiting = due; pace = pace_after (signals_preamble packet) a.pace now }
more_wait a now packet [] w = cc
more_wait a now packet (d ∷ due) w = refl

-- what is given first of what waits, and what is left of it
pub record Gives (writes : Writing) (job : JobValue) (core : CallerCore) (packet : Packet) (rest : List Due) : Type 0 where
  pub d : Due
  pub due : List Due
  pub waiting : core.waiting ≡ d ∷ due
  pub packet_is : (taken writes job d due).packet ≡ packet
  pub rest_is : (taken writes job d due).rest ≡ rest

pub core_after : (writes : Writing) (job : JobValue) (core : CallerCore) (now : ℕ) (packet : Packet) (rest : List Due) → Gives writes job core packet rest
    → (given_first writes job core now core.waiting).core ≡ after_giving core now packet rest
core_after writes job core now packet rest g =
    ap (λ (w : List Due). (given_first writes job core now w).core) g.waiting
    ∙ ap (λ (p : Packet). after_giving core now p (taken writes job g.d g.due).rest) g.packet_is ∙ ap (after_giving core now packet) g.rest_is

pub packet_given : (writes : Writing) (job : JobValue) (core : CallerCore) (now : ℕ) (packet : Packet) (rest : List Due) → Gives writes job core packet rest
    → (given_first writes job core now core.waiting).given ≡ Some packet
packet_given writes job core now packet rest g =
    ap (λ (w : List Due). (given_first writes job core now w).given) g.waiting ∙ ap (λ (p : Packet). Some p) g.packet_is

-- the procedure after a packet, where some wait
some_after : (b : Bool) (q : Pending) (p : Procedure) (now : ℕ) → (q ≡ pendings.Nothing → ⊥) → after_packet b q p now ≡ record p { pending = q; pace = pace_after b p.pace now }
some_after b pendings.Nothing p now some = absurd (some refl)
some_after b pendings.Tone p now some = refl
some_after b (pendings.Preamble m) p now some = refl
some_after b (pendings.Frame m) p now some = refl
some_after b (pendings.Training dcs) p now some = refl
some_after b (pendings.Check dcs given) p now some = refl
some_after b (pendings.Image dcs) p now some = refl
some_after b (pendings.Text dcs plain) p now some = refl

-- what waits, told of what is kept
abbrev waits_in : CallerCore → Procedure → Pending → ℕ → List Due
waits_in core p q from = waiting_of q (command_after core.formats core.pages p.counts.page) p.counts.page from

-- BOTH, where some packets wait after the one that is given
pub follows_more : (writes : Writing) (job : JobValue) (core : CallerCore) (writer left : WriterValue) (p : Procedure) (now from : ℕ) (packet : Packet) (q : Pending)
    → Follows writes job core writer p → (q ≡ pendings.Nothing → ⊥) → waits (waits_in core p q from) ≡ true
    → IsLeft writes job p.counts.page from q left → KeepsTurn p.state q core.formats p.counts.page p.turn
    → Follows writes job (after_giving core now packet (waits_in core p q from)) left (after_packet (signals_preamble packet) q p now)
follows_more writes job core writer left p now from packet q f some w is_left turn =
    subst (λ (n : Procedure). Follows writes job (after_giving core now packet (waits_in core p q from)) left n) (sym (some_after (signals_preamble packet) q p now some))
    (subst (λ (a : CallerCore). Follows writes job a left (record p { pending = q; pace = pace_after (signals_preamble packet) p.pace now })) (sym (more_wait core now packet (waits_in core p q from) w))
    (record {
      state = f.state;
      format = f.format;
      formats = f.formats;
      turn = turn;
      pages = f.pages;
      counts = f.counts;
      from = from;
      waiting = refl;
      left = is_left;
      t1 = f.t1;
      t4 = f.t4;
      pace = ap (λ (v : PaceValue). pace_after (signals_preamble packet) v now) f.pace;
      outcome = f.outcome;
    }))

-- and where none does
pub given_turn : (s : State) (formats : List Format) (page : ℕ) (turn : Option Format) → KeepsTurn s pendings.Nothing formats page turn → KeepsTurn (state_when_given s) pendings.Nothing formats page turn
given_turn Idle formats page turn k = tt
given_turn AwaitDis formats page turn k = tt
given_turn (AwaitCfr dis dcs) formats page turn k = tt
given_turn (AwaitMcf dis dcs) formats page turn k = k
given_turn (Closing outcome) formats page turn k = tt

pub follows_last : (writes : Writing) (job : JobValue) (core : CallerCore) (writer left : WriterValue) (p : Procedure) (now : ℕ) (packet : Packet)
    → Follows writes job core writer p → KeepsTurn p.state pendings.Nothing core.formats p.counts.page p.turn
    → Follows writes job (after_giving core now packet []) left (after_packet (signals_preamble packet) pendings.Nothing p now)
follows_last writes job core writer left p now packet f turn =
    record {
      state = ap state_when_given f.state;
      format = f.format;
      formats = λ on. f.formats (λ e. on (ap state_when_given e));
      turn = given_turn p.state core.formats p.counts.page p.turn turn;
      pages = f.pages;
      counts = f.counts;
      from = 0;
      waiting = refl;
      left = tt;
      t1 = f.t1;
      t4 = ap (λ (s : State). t4_when_given s p.t4 now) f.state ∙ ap (λ (t : Option ℕ). t4_when_given core.state t now) f.t4;
      pace = ap (λ (v : PaceValue). pace_after (signals_preamble packet) v now) f.pace;
      outcome = ap (λ (s : State). outcome_when_given s p.outcome) f.state ∙ ap (λ (o : Option Outcome). outcome_when_given core.state o) f.outcome;
    }

-- THE TRAINING CHECK
pub part_some : (dcs : Dcs) → 1 ≤ part_length dcs
part_some dcs = by_rate dcs.rate
  where
    by_rate : (r : Rate) → 1 ≤ bits_a_second r / 200
    by_rate V27At2400 = omega arith
    by_rate V27At4800 = omega arith
    by_rate V29At7200 = omega arith
    by_rate V29At9600 = omega arith
    by_rate V17At7200 = omega arith
    by_rate V17At9600 = omega arith
    by_rate V17At12000 = omega arith
    by_rate V17At14400 = omega arith

pub check_some : (dcs : Dcs) → 0 < check_length dcs
check_some dcs = by_rate dcs.rate
  where
    by_rate : (r : Rate) → 0 < bits_a_second r * 3 / 16
    by_rate V27At2400 = omega arith
    by_rate V27At4800 = omega arith
    by_rate V29At7200 = omega arith
    by_rate V29At9600 = omega arith
    by_rate V17At7200 = omega arith
    by_rate V17At9600 = omega arith
    by_rate V17At12000 = omega arith
    by_rate V17At14400 = omega arith

same_if : (b : Bool) (x y z : List Due) → (b ≡ false → y ≡ z) → (if b then x else y) ≡ (if b then x else z)
same_if true x y z h = refl
same_if false x y z h = h refl

not_le : (m n : ℕ) → nat_le m n ≡ false → n < m
not_le m n h = grind arith

-- as many parts as there are octets are enough
pub parts_same : (m k kind n : ℕ) (os : List ℕ) → 1 ≤ n → length os ≤ m → length os ≤ k → 1 ≤ m → 1 ≤ k → parts_of m kind n os ≡ parts_of k kind n os
parts_same zero k kind n os some a b x y = absurd (omega arith)
parts_same (suc m) zero kind n os some a b x y = absurd (omega arith)
parts_same (suc m) (suc k) kind n os some a b x y =
    same_if (nat_le (length os) n) (One (Part kind true os) ∷ []) _ _
    (λ h. let more : n < length os = not_le (length os) n h in
    let fewer : length (drop n os) ≡ length os - n = length-drop n os in
    ap (λ (due : List Due). One (Part kind false (take n os)) ∷ due) (parts_same m k kind n (drop n os) some (omega arith) (omega arith) (omega arith) (omega arith)))

-- A TICK
pub rests_now : (writes : Writing) (job : JobValue) (a : CallerCore) (now : ℕ) → gives_now a now ≡ false → paced writes job a now ≡ record { core = a; given = None }
rests_now writes job a now h = by a.waiting (pace_allows a.pace.last now) h
  where
    by : (due : List Due) (b : Bool) → waits due && b ≡ false → (if b then given_first writes job a now due else record { core = a; given = None }) ≡ record { core = a; given = None }
    by [] true h = refl
    by [] false h = refl
    by (d ∷ due) true h = cc
    by (d ∷ due) false h = refl

pub gives_first : (writes : Writing) (job : JobValue) (a : CallerCore) (now : ℕ) → gives_now a now ≡ true → paced writes job a now ≡ given_first writes job a now a.waiting
gives_first writes job a now h = by a.waiting (pace_allows a.pace.last now) h
  where
    by : (due : List Due) (b : Bool) → waits due && b ≡ true → (if b then given_first writes job a now due else record { core = a; given = None }) ≡ given_first writes job a now due
    by [] true h = cc
    by [] false h = cc
    by (d ∷ due) true h = refl
    by (d ∷ due) false h = cc

-- a packet is given where one waits and the pace allows
given_some : (writes : Writing) (job : JobValue) (a : CallerCore) (now : ℕ) (due : List Due) (b : Bool) → waits due && b ≡ true → IsSome (given_first writes job a now due).given
given_some writes job a now [] true h = cc
given_some writes job a now [] false h = cc
given_some writes job a now (d ∷ due) b h = refl

pub given_gives : (writes : Writing) (job : JobValue) (core : CallerCore) (now : ℕ) → gives_now (timed core now) now ≡ true → IsSome (ticked writes job core now).given
given_gives writes job core now h =
    let a : CallerCore = timed core now in
    subst (λ (t : TickResult). IsSome t.given) (sym (gives_first writes job a now h)) (given_some writes job a now a.waiting (pace_allows a.pace.last now) h)

pub on_err : {A E : Type 0} (r : Result A E) {P : Type 0} → P → OnErr r P
on_err (Ok a) p = tt
on_err (Err e) p = p

-- what is left of a training check begins with a part
check_begins : (dcs : Dcs) → training_check dcs ≡ check_after dcs 0
unfolding training_check
check_begins dcs =
    let n : check_length dcs - 0 ≡ check_length dcs = omega arith in
    sym (ap (λ (k : ℕ). parts_of k (kind_of dcs.rate) (part_length dcs) (replicate k 0)) n)

one_part : (k kind n : ℕ) (os : List ℕ) → 0 < k
    → parts_of k kind n os ≡ (if nat_le (length os) n then One (Part kind true os) ∷ [] else One (Part kind false (take n os)) ∷ parts_of (k - 1) kind n (drop n os))
one_part zero kind n os some = absurd (omega arith)
one_part (suc k) kind n os some =
    let same : suc k - 1 ≡ k = omega arith in
    ap (λ (m : ℕ). if nat_le (length os) n then One (Part kind true os) ∷ [] else One (Part kind false (take n os)) ∷ parts_of m kind n (drop n os)) (sym same)

check_step : (dcs : Dcs) (given : ℕ) → given < check_length dcs
    → check_after dcs given ≡ (if nat_le (check_length dcs - given) (part_length dcs)
    then One (Part (kind_of dcs.rate) true (replicate (check_length dcs - given) 0)) ∷ []
    else One (Part (kind_of dcs.rate) false (replicate (part_length dcs) 0)) ∷ check_after dcs (given + part_length dcs))
check_step dcs given h = split (check_length dcs) (part_length dcs) (kind_of dcs.rate) given h (part_some dcs)
  where
    split : (all n kind given : ℕ) → given < all → 1 ≤ n
        → parts_of (all - given) kind n (replicate (all - given) 0) ≡ (if nat_le (all - given) n
        then One (Part kind true (replicate (all - given) 0)) ∷ []
        else One (Part kind false (replicate n 0)) ∷ parts_of (all - (given + n)) kind n (replicate (all - (given + n)) 0))
    split all n kind given h some =
        let k : ℕ = all - given in
        let long : length (replicate {A = ℕ} k 0) ≡ k = length-replicate k 0 in
        one_part k kind n (replicate k 0) (omega arith)
        ∙ ap (λ (l : ℕ). if nat_le l n then One (Part kind true (replicate k 0)) ∷ [] else One (Part kind false (take n (replicate k 0))) ∷ parts_of (k - 1) kind n (drop n (replicate k 0))) long
        ∙ same_if (nat_le k n) (One (Part kind true (replicate k 0)) ∷ []) _ _
        (λ f. let more : n < k = not_le k n f in
        let left : k - n ≡ all - (given + n) = omega arith in
        let rest : drop n (replicate k 0) ≡ replicate (all - (given + n)) 0 = drop-replicate n k 0 ∙ ap (λ (m : ℕ). replicate m 0) left in
        let count : length (replicate {A = ℕ} (all - (given + n)) 0) ≡ all - (given + n) = length-replicate (all - (given + n)) 0 in
        ap (λ (os : List ℕ). One (Part kind false os) ∷ parts_of (k - 1) kind n (drop n (replicate k 0))) (take-replicate n k 0 (omega arith))
        ∙ ap (λ (os : List ℕ). One (Part kind false (replicate n 0)) ∷ parts_of (k - 1) kind n os) rest
        ∙ ap (λ (due : List Due). One (Part kind false (replicate n 0)) ∷ due)
        (parts_same (k - 1) (all - (given + n)) kind n (replicate (all - (given + n)) 0) some (omega arith) (omega arith) (omega arith) (omega arith)))

-- THE NEXT PACKET
abbrev Next : Writing → JobValue → CallerCore → Procedure → ℕ → Packet → WriterValue → Pending → Type 0
Next writes job core p now packet left q = GivesNext writes job core now packet left (after_packet (signals_preamble packet) q p now)

more : (writes : Writing) (job : JobValue) (core : CallerCore) (writer left : WriterValue) (p : Procedure) (now from : ℕ) (packet : Packet) (q : Pending)
    → Follows writes job core writer p → Gives writes job core packet (waits_in core p q from) → (q ≡ pendings.Nothing → ⊥) → FitsPending q
    → IsLeft writes job p.counts.page from q left → KeepsTurn p.state q core.formats p.counts.page p.turn → Next writes job core p now packet left q
more writes job core writer left p now from packet q f g some fits is_left turn =
    record {
      follows =
          subst (λ (a : CallerCore). Follows writes job a left (after_packet (signals_preamble packet) q p now)) (sym (core_after writes job core now packet (waits_in core p q from) g))
          (follows_more writes job core writer left p now from packet q f some (pending_waits q (command_after core.formats core.pages p.counts.page) p.counts.page from fits some) is_left turn);
      given = packet_given writes job core now packet (waits_in core p q from) g;
    }

last : (writes : Writing) (job : JobValue) (core : CallerCore) (writer left : WriterValue) (p : Procedure) (now : ℕ) (packet : Packet)
    → Follows writes job core writer p → Gives writes job core packet [] → KeepsTurn p.state pendings.Nothing core.formats p.counts.page p.turn
    → Next writes job core p now packet left pendings.Nothing
last writes job core writer left p now packet f g turn =
    record {
      follows =
          subst (λ (a : CallerCore). Follows writes job a left (after_packet (signals_preamble packet) pendings.Nothing p now)) (sym (core_after writes job core now packet [] g))
          (follows_last writes job core writer left p now packet f turn);
      given = packet_given writes job core now packet [] g;
    }

gives_one : (writes : Writing) (job : JobValue) (core : CallerCore) (packet : Packet) (due : List Due) → One packet ∷ due ≡ core.waiting → Gives writes job core packet due
gives_one writes job core packet due w = record { d = One packet; due = due; waiting = sym w; packet_is = refl; rest_is = refl }

-- the next page's format is kept, whatever waits
abbrev KeepsTo : CallerCore → Procedure → Type 0
KeepsTo core p = (r : Pending) → KeepsTurn p.state r core.formats p.counts.page p.turn

check_next : (writes : Writing) (job : JobValue) (core : CallerCore) (writer : WriterValue) (p : Procedure) (now : ℕ) (dcs : Dcs) (given : ℕ) (b : Bool)
    → Follows writes job core writer p → (b ≡ false → given + part_length dcs < check_length dcs)
    → (if b then One (Part (kind_of dcs.rate) true (replicate (check_length dcs - given) 0)) ∷ []
    else One (Part (kind_of dcs.rate) false (replicate (part_length dcs) 0)) ∷ check_after dcs (given + part_length dcs)) ≡ core.waiting
    → KeepsTo core p → Next writes job core p now
    (if b then Part (kind_of dcs.rate) true (replicate (check_length dcs - given) 0) else Part (kind_of dcs.rate) false (replicate (part_length dcs) 0))
    writer (if b then pendings.Nothing else pendings.Check dcs (given + part_length dcs))
check_next writes job core writer p now dcs given true f fits w turn = last writes job core writer writer p now _ f (gives_one writes job core _ [] w) (turn pendings.Nothing)
check_next writes job core writer p now dcs given false f fits w turn =
    more writes job core writer writer p now 0 _ (pendings.Check dcs (given + part_length dcs)) f (gives_one writes job core _ _ w) (λ e. cc) (fits refl) tt (turn (pendings.Check dcs (given + part_length dcs)))

text_next : (writes : Writing) (job : JobValue) (core : CallerCore) (writer left : WriterValue) (p : Procedure) (now from : ℕ) (dcs : Dcs) (plain : Plain) (octets : List ℕ) (b : Bool)
    → Follows writes job core writer p → b ≡ nat_le (length octets) (part_length dcs)
    → Text p.counts.page dcs from ∷ frame_reply (written_plain plain true) ≡ core.waiting
    → octets ≡ drop from (text_at writes job p.counts.page dcs) → HasTextLeft writes job p.counts.page dcs (from + part_length dcs) left → KeepsTo core p
    → Next writes job core p now
    (if b then Part (kind_of dcs.rate) true octets else Part (kind_of dcs.rate) false (take (part_length dcs) octets))
    left (if b then pendings.Preamble (messages.Plain plain) else pendings.Text dcs plain)
text_next writes job core writer left p now from dcs plain octets true f e w is has turn =
    more writes job core writer left p now 0 _ (pendings.Preamble (messages.Plain plain)) f
    (record {
      d = Text p.counts.page dcs from;
      due = frame_reply (written_plain plain true);
      waiting = sym w;
      packet_is = ap (λ (t : TakenPart). t.packet) whole ∙ ap (λ (os : List ℕ). Part (kind_of dcs.rate) true os) (sym is);
      rest_is = ap (λ (t : TakenPart). t.rest) whole;
    }) (λ q. cc) tt tt (turn (pendings.Preamble (messages.Plain plain)))
  where
    all : List ℕ
    all = text_at writes job p.counts.page dcs

    by : (b : Bool) (x y : TakenPart) → b ≡ true → (if b then x else y) ≡ x
    by true x y h = refl
    by false x y h = cc

    whole : taken writes job (Text p.counts.page dcs from) (frame_reply (written_plain plain true)) ≡ record { packet = Part (kind_of dcs.rate) true (drop from all); rest = frame_reply (written_plain plain true) }
    whole = by (nat_le (length (drop from all)) (part_length dcs)) _ _ (sym (e ∙ ap (λ (os : List ℕ). nat_le (length os) (part_length dcs)) is))
text_next writes job core writer left p now from dcs plain octets false f e w is has turn =
    more writes job core writer left p now (from + part_length dcs) _ (pendings.Text dcs plain) f
    (record {
      d = Text p.counts.page dcs from;
      due = frame_reply (written_plain plain true);
      waiting = sym w;
      packet_is = ap (λ (t : TakenPart). t.packet) partly ∙ ap (λ (os : List ℕ). Part (kind_of dcs.rate) false (take (part_length dcs) os)) (sym is);
      rest_is = ap (λ (t : TakenPart). t.rest) partly;
    }) (λ q. cc) tt has (turn (pendings.Text dcs plain))
  where
    all : List ℕ
    all = text_at writes job p.counts.page dcs

    by : (b : Bool) (x y : TakenPart) → b ≡ false → (if b then x else y) ≡ y
    by true x y h = cc
    by false x y h = refl

    partly : taken writes job (Text p.counts.page dcs from) (frame_reply (written_plain plain true))
        ≡ record { packet = Part (kind_of dcs.rate) false (take (part_length dcs) (drop from all)); rest = Text p.counts.page dcs (from + part_length dcs) ∷ frame_reply (written_plain plain true) }
    partly = by (nat_le (length (drop from all)) (part_length dcs)) _ _ (sym (e ∙ ap (λ (os : List ℕ). nat_le (length os) (part_length dcs)) is))

next_by : (writes : Writing) (job : JobValue) (core : CallerCore) (writer : WriterValue) (p : Procedure) (now : ℕ) → Follows writes job core writer p → KeepsTo core p
    → (q : Pending) → FitsPending q → (q ≡ pendings.Nothing → ⊥) → ((dcs : Dcs) → q ≡ pendings.Image dcs → ⊥) → ((dcs : Dcs) (asks : Plain) → q ≡ pendings.Text dcs asks → ⊥)
    → (from : ℕ) → waits_in core p q from ≡ core.waiting
    → Next writes job core p now (packet_of q) writer (pending_after q (command_kept p) false)
next_by writes job core writer p now f turn pendings.Nothing fits some other no_text from w = absurd (some refl)
next_by writes job core writer p now f turn pendings.Tone fits some other no_text from w =
    last writes job core writer writer p now (packet_of pendings.Tone) f (gives_one writes job core (packet_of pendings.Tone) [] w) (turn pendings.Nothing)
next_by writes job core writer p now f turn (pendings.Preamble m) fits some other no_text from w =
    more writes job core writer writer p now from (packet_of (pendings.Preamble m)) (pendings.Frame m) f (gives_one writes job core (packet_of (pendings.Preamble m)) (framed m) w) (λ e. cc) fits tt (turn (pendings.Frame m))
next_by writes job core writer p now f turn (pendings.Frame (messages.Dcs dcs)) fits some other no_text from w =
    more writes job core writer writer p now from (Tells (written_dcs dcs)) (pendings.Training dcs) f (gives_one writes job core (Tells (written_dcs dcs)) (training_after dcs) w) (λ e. cc) tt tt (turn (pendings.Training dcs))
next_by writes job core writer p now f turn (pendings.Frame (messages.Plain plain)) fits some other no_text from w =
    last writes job core writer writer p now (Tells (written_plain plain true)) f (gives_one writes job core (Tells (written_plain plain true)) [] w) (turn pendings.Nothing)
next_by writes job core writer p now f turn (pendings.Training dcs) fits some other no_text from w =
    more writes job core writer writer p now 0 (packet_of (pendings.Training dcs)) (pendings.Check dcs 0) f
    (subst (λ (due : List Due). Gives writes job core (packet_of (pendings.Training dcs)) due) (check_begins dcs) (gives_one writes job core (packet_of (pendings.Training dcs)) (training_check dcs) w))
    (λ e. cc) (check_some dcs) tt (turn (pendings.Check dcs 0))
next_by writes job core writer p now f turn (pendings.Check dcs given) fits some other no_text from w =
    check_next writes job core writer p now dcs given (nat_le (check_length dcs - given) (part_length dcs)) f
    (λ h. let more_left : part_length dcs < check_length dcs - given = not_le (check_length dcs - given) (part_length dcs) h in omega arith)
    (sym (check_step dcs given fits) ∙ w) turn
next_by writes job core writer p now f turn (pendings.Image dcs) fits some other no_text from w = absurd (other dcs refl)
next_by writes job core writer p now f turn (pendings.Text dcs plain) fits some other no_text from w = absurd (no_text dcs plain refl)

-- a packet that is no short training indicator and none of a text
pub packet_next : (writes : Writing) (job : JobValue) (core : CallerCore) (writer : WriterValue) (p : Procedure) (now : ℕ) → IsFit p → Follows writes job core writer p
    → (p.pending ≡ pendings.Nothing → ⊥) → ((dcs : Dcs) → p.pending ≡ pendings.Image dcs → ⊥) → ((dcs : Dcs) (asks : Plain) → p.pending ≡ pendings.Text dcs asks → ⊥)
    → GivesNext writes job core now (packet_of p.pending) writer (given_by p false now)
packet_next writes job core writer p now fit f some other no_text =
    next_by writes job core writer p now f (λ r. turn_kept p.state p.pending r core.formats p.counts.page p.turn other f.turn) p.pending fit.pending some other no_text f.from f.waiting

is_at_same : (job : JobValue) (n : ℕ) (page value : PageValue) → slice_get job.pages n ≡ Some page → slice_get job.pages n ≡ Some value → page ≡ value
is_at_same job n page value is at = let e : Some page ≡ Some value = sym is ∙ at in cc

text_of : (writes : Writing) (job : JobValue) (page : ℕ) (dcs : Dcs) (asks : Plain) (from : ℕ) (q : Pending) (writer : WriterValue) → q ≡ pendings.Text dcs asks → IsLeft writes job page from q writer → HasTextLeft writes job page dcs from writer
text_of writes job page dcs asks from q writer e left = subst (λ (r : Pending). IsLeft writes job page from r writer) e left

no_preamble : (b : Bool) (kind : ℕ) (all front : List ℕ) → signals_preamble (if b then Part kind true all else Part kind false front) ≡ false
no_preamble true kind all front = refl
no_preamble false kind all front = refl

abbrev text_after : Dcs → Plain → List ℕ → Pending
text_after dcs asks left = if nat_le (length left) (part_length dcs) then pendings.Preamble (messages.Plain asks) else pendings.Text dcs asks

-- a packet of a text, whatever is left of it to the writer
pub text_gives : (writes : Writing) (job : JobValue) (core : CallerCore) (writer new : WriterValue) (p : Procedure) (now : ℕ) (dcs : Dcs) (asks : Plain) (page : PageValue) (octets : List ℕ) (is_last : Bool)
    → IsFit p → Follows writes job core writer p → p.pending ≡ pendings.Text dcs asks → slice_get job.pages p.counts.page ≡ Some page
    → ((left : List ℕ) → HasLeft page left writer → octets ≡ written (text_part dcs left)) → ((left : List ℕ) → HasLeft page left writer → is_last ≡ nat_le (length left) (part_length dcs))
    → ((left : List ℕ) → HasLeft page left writer → HasLeft page (drop (part_length dcs) left) new)
    → GivesPacket writes job core now (Some octets) new (given_by p is_last now)
text_gives writes job core writer new p now dcs asks page octets is_last fit f e is packet_is last_is left_is =
    record {
      packet = text_part dcs left;
      octets = ap (λ (os : List ℕ). Some os) (packet_is left has);
      next =
          subst (λ (q : Pending). GivesNext writes job core now (text_part dcs left) new (after_packet (signals_preamble (packet_of q)) (pending_after q (command_kept p) is_last) p now)) (sym e)
          (subst (λ (b : Bool). GivesNext writes job core now (text_part dcs left) new (after_packet false (if b then pendings.Preamble (messages.Plain asks) else pendings.Text dcs asks) p now)) (sym (last_is left has))
          (subst (λ (b : Bool). GivesNext writes job core now (text_part dcs left) new (after_packet b (text_after dcs asks left) p now)) (no_preamble (nat_le (length left) (part_length dcs)) (kind_of dcs.rate) left (take (part_length dcs) left))
          (text_next writes job core writer new p now f.from dcs asks left (nat_le (length left) (part_length dcs)) f refl waits_so refl more_so
          (λ r. turn_kept p.state p.pending r core.formats p.counts.page p.turn (λ d k. let both : pendings.Text dcs asks ≡ pendings.Image d = sym e ∙ k in cc) f.turn))));
    }
  where
    left : List ℕ
    left = drop f.from (text_at writes job p.counts.page dcs)

    has : HasLeft page left writer
    has = text_of writes job p.counts.page dcs asks f.from p.pending writer e f.left page is

    waits_so : Text p.counts.page dcs f.from ∷ frame_reply (written_plain asks true) ≡ core.waiting
    waits_so = sym (ap (λ (q : Pending). waits_in core p q f.from) e) ∙ f.waiting

    more_so : HasTextLeft writes job p.counts.page dcs (f.from + part_length dcs) new
    more_so value at =
        subst (λ (v : PageValue). HasLeft v (drop (f.from + part_length dcs) (text_at writes job p.counts.page dcs)) new) (is_at_same job p.counts.page page value is at)
        (subst (λ (os : List ℕ). HasLeft page os new) (drop-drop (part_length dcs) f.from (text_at writes job p.counts.page dcs)) (left_is left has))

-- a short training indicator, after which all of the text is left, and the job tells the next page's format
pub image_next : (writes : Writing) (job : JobValue) (core : CallerCore) (writer made : WriterValue) (p : Procedure) (now : ℕ) (dcs : Dcs) → IsFit p → Follows writes job core writer p
    → p.pending ≡ pendings.Image dcs → HasTextLeft writes job p.counts.page dcs 0 made
    → GivesNext writes job core now (packet_of p.pending) made (given_by (with_turn p job) false now)
image_next writes job core writer made p now dcs fit f e has =
    subst (λ (q : Pending). GivesNext writes job core now (packet_of q) made (after_packet (signals_preamble (packet_of q)) (pending_after q (command_kept told) false) told now)) (sym e)
    (more writes job core writer made told now 0 (packet_of (pendings.Image dcs)) (pendings.Text dcs (command_kept told)) follows
    (gives_one writes job core (packet_of (pendings.Image dcs)) (Text p.counts.page dcs 0 ∷ command (command_kept told)) waits_so) (λ h. cc) tt has
    (turn_named p.state (pendings.Text dcs (command_kept told)) core.formats p.counts.page told.turn turn_so))
  where
    told : Procedure
    told = with_turn p job

    on : core.state ≡ Idle → ⊥
    on s = let none : p.pending ≡ pendings.Nothing = fit.rests (f.state ∙ s) in cc

    turn_so : told.turn ≡ turn_after core.formats p.counts.page
    turn_so = ap (λ (fs : List Format). turn_after fs p.counts.page) (sym (f.formats on))

    asks : command_kept told ≡ command_after core.formats core.pages p.counts.page
    asks = ap (λ (t : Option Format). command_by (is_last_page p.pages p.counts.page) t) turn_so ∙ ap (λ (n : ℕ). command_by (is_last_page n p.counts.page) (turn_after core.formats p.counts.page)) f.pages

    waits_so : One (packet_of (pendings.Image dcs)) ∷ Text p.counts.page dcs 0 ∷ command (command_kept told) ≡ core.waiting
    waits_so =
        ap (λ (plain : Plain). One (packet_of (pendings.Image dcs)) ∷ Text p.counts.page dcs 0 ∷ command plain) asks
        ∙ sym (ap (λ (q : Pending). waits_in core p q f.from) e) ∙ f.waiting

    follows : Follows writes job core writer told
    follows = record {
      state = f.state;
      format = f.format;
      formats = f.formats;
      turn = turn_named p.state p.pending core.formats p.counts.page told.turn turn_so;
      pages = f.pages;
      counts = f.counts;
      from = f.from;
      waiting = f.waiting;
      left = f.left;
      t1 = f.t1;
      t4 = f.t4;
      pace = f.pace;
      outcome = f.outcome;
    }

-- what a tick leaves that gives a packet
pub reached_gives : (writes : Writing) (job : JobValue) (heard : List Slot) (core : CallerCore) (now : ℕ) (packet : Packet) (left : WriterValue) (new : Procedure) (kept : Rep)
    → IsTracked heard kept.tracked → gives_now (timed core now) now ≡ true → GivesNext writes job (timed core now) now packet left new
    → kept.procedure ≡ new → kept.writer ≡ left
    → IsReached writes job heard (ticked writes job core now).core kept × IsGiven (ticked writes job core now) (Some (written packet))
reached_gives writes job heard core now packet left new kept tracked gives next procedure writer =
    let e : ticked writes job core now ≡ given_first writes job (timed core now) now (timed core now).waiting = gives_first writes job (timed core now) now gives in (
      record {
        tracked = tracked;
        follows =
            subst (λ (t : TickResult). Follows writes job t.core kept.writer kept.procedure) (sym e)
            (subst (λ (w : WriterValue). Follows writes job (given_first writes job (timed core now) now (timed core now).waiting).core w kept.procedure) (sym writer)
            (subst (λ (p : Procedure). Follows writes job (given_first writes job (timed core now) now (timed core now).waiting).core left p) (sym procedure) next.follows));
      },
      sym (ap (λ (t : TickResult). option_map written t.given) e ∙ ap (option_map written) next.given),
    )

pub reached_rests : (writes : Writing) (job : JobValue) (heard : List Slot) (core : CallerCore) (now : ℕ) (kept : Rep)
    → IsTracked heard kept.tracked → gives_now (timed core now) now ≡ false → Follows writes job (timed core now) kept.writer kept.procedure
    → IsReached writes job heard (ticked writes job core now).core kept × IsGiven (ticked writes job core now) None
reached_rests writes job heard core now kept tracked gives f =
    let e : ticked writes job core now ≡ record { core = timed core now; given = None } = rests_now writes job (timed core now) now gives in (
      record { tracked = tracked; follows = subst (λ (t : TickResult). Follows writes job t.core kept.writer kept.procedure) (sym e) f },
      sym (ap (λ (t : TickResult). option_map written t.given) e),
    )

pub if_given : {E : Type 0} (r : Result (Option (List ℕ)) E) (P : Option (List ℕ) → Type 0) (x : Option (List ℕ)) (Q : Type 0) → IfOk r (λ a. a ≡ x) → OnOk r Q → (Q → P x) → IfOk r P
if_given (Ok a) P x Q e q f = subst P (sym e) (f q)
if_given (Err a) P x Q e q f = tt

pub on_both : {A E : Type 0} (r : Result A E) (P Q : Type 0) → OnOk r P → OnOk r Q → OnOk r (P × Q)
on_both (Ok a) P Q p q = (p, q)
on_both (Err a) P Q p q = tt

pub if_on : {A E : Type 0} (r : Result A E) (P R : A → Type 0) (Q : Type 0) → IfOk r P → OnOk r Q → ((a : A) → P a → Q → R a) → IfOk r R
if_on (Ok a) P R Q p q f = f a p q
if_on (Err a) P R Q p q f = tt

pub on_given : {A E : Type 0} (r : Result A E) (Q R : Type 0) → OnOk r Q → (Q → R) → OnOk r R
on_given (Ok a) Q R q f = f q
on_given (Err a) Q R q f = tt

-- the job stays that of the call
pub job_kept : (b : Bool) (p : Procedure) (q : Pending) (now : ℕ) (job : JobValue) → KeepsTurn p.state q (formats_of job) p.counts.page p.turn → HasFormats p job
    → HasFormats (after_packet b q p now) job
job_kept b p pendings.Nothing now job turn is = record { pages = is.pages; due = is.due; turn = given_turn p.state (formats_of job) p.counts.page p.turn turn }
job_kept b p pendings.Tone now job turn is = record { pages = is.pages; due = is.due; turn = turn }
job_kept b p (pendings.Preamble m) now job turn is = record { pages = is.pages; due = is.due; turn = turn }
job_kept b p (pendings.Frame m) now job turn is = record { pages = is.pages; due = is.due; turn = turn }
job_kept b p (pendings.Training dcs) now job turn is = record { pages = is.pages; due = is.due; turn = turn }
job_kept b p (pendings.Check dcs given) now job turn is = record { pages = is.pages; due = is.due; turn = turn }
job_kept b p (pendings.Image dcs) now job turn is = record { pages = is.pages; due = is.due; turn = turn }
job_kept b p (pendings.Text dcs plain) now job turn is = record { pages = is.pages; due = is.due; turn = turn }

-- so where a packet is given that is no short training indicator, and where one is
pub packet_job : (p : Procedure) (last : Bool) (now : ℕ) (job : JobValue) → ((dcs : Dcs) → p.pending ≡ pendings.Image dcs → ⊥) → HasFormats p job → HasFormats (given_by p last now) job
packet_job p last now job other is =
    let q : Pending = pending_after p.pending (command_kept p) last in
    job_kept (signals_preamble (packet_of p.pending)) p q now job (turn_kept p.state p.pending q (formats_of job) p.counts.page p.turn other is.turn) is

pub image_job : (p : Procedure) (last : Bool) (now : ℕ) (job : JobValue) → HasFormats p job → HasFormats (given_by (with_turn p job) last now) job
image_job p last now job is =
    let told : Procedure = with_turn p job in
    let q : Pending = pending_after p.pending (command_kept told) last in
    job_kept (signals_preamble (packet_of p.pending)) told q now job (turn_named p.state q (formats_of job) p.counts.page told.turn refl)
    (record { pages = is.pages; due = is.due; turn = turn_named p.state p.pending (formats_of job) p.counts.page told.turn refl })

-- something is left of a text while it is given
pub given_pending : (b : Bool) (q : Pending) (p : Procedure) (now : ℕ) → (after_packet b q p now).pending ≡ q
given_pending b pendings.Nothing p now = refl
given_pending b pendings.Tone p now = refl
given_pending b (pendings.Preamble m) p now = refl
given_pending b (pendings.Frame m) p now = refl
given_pending b (pendings.Training dcs) p now = refl
given_pending b (pendings.Check dcs given) p now = refl
given_pending b (pendings.Image dcs) p now = refl
given_pending b (pendings.Text dcs plain) p now = refl

pub has_after : (q : Pending) (asks : Plain) (writer : WriterValue) → ((dcs : Dcs) → q ≡ pendings.Image dcs → ⊥) → ((dcs : Dcs) (plain : Plain) → q ≡ pendings.Text dcs plain → ⊥)
    → HasText (pending_after q asks false) writer
has_after pendings.Nothing asks writer other no_text = tt
has_after pendings.Tone asks writer other no_text = tt
has_after (pendings.Preamble m) asks writer other no_text = tt
has_after (pendings.Frame (messages.Dcs dcs)) asks writer other no_text = tt
has_after (pendings.Frame (messages.Plain plain)) asks writer other no_text = tt
has_after (pendings.Training dcs) asks writer other no_text = tt
has_after (pendings.Check dcs given) asks writer other no_text = by (nat_le (check_length dcs - given) (part_length dcs))
  where
    by : (b : Bool) → HasText (if b then pendings.Nothing else pendings.Check dcs (given + part_length dcs)) writer
    by true = tt
    by false = tt
has_after (pendings.Image dcs) asks writer other no_text = absurd (other dcs refl)
has_after (pendings.Text dcs plain) asks writer other no_text = absurd (no_text dcs plain refl)
