-- Each confirmed page that a tick gives is a confirmation.
use Rattle.std.proofs.Common.{◌≡◌, ℕ, ◌/◌, Bool, true, false, not, ◌&&◌, List, [], ◌∷◌, ◌++◌, Option, Some, None, refl, sym, ◌∙◌, ap, subst, nat_eq, arith, if◌then◌else◌}
use Rattle.fax_frames.specs.declared.dcs.Dcs.{Dcs}
use Rattle.fax_frames.specs.Rates.{bits_a_second}
use Rattle.fax_frames.specs.Capabilities.{format_of, coding_of}
use Rattle.fax_pagestore.specs.Pages.{PageValue}
use Rattle.fax_pagestore.specs.PageTexts.{MeansPage}
use Rattle.fax_ifp.specs.Pieces as pieces
use Rattle.fax_timers.specs.Moments.{is_due}
use Rattle.fax_timers.specs.Paces.{pace_allows}
use Rattle.fax_answer.specs.declared.command.Command.{Command}
use Rattle.fax_answer.specs.declared.command.Command.TheVariants.{Eom, Mps, Eop}
use Rattle.fax_answer.specs.declared.command.Order.{Order}
use Rattle.fax_answer.specs.declared.command.Order.TheVariants as orders
use Rattle.fax_answer.specs.declared.state.State.{State}
use Rattle.fax_answer.specs.declared.state.State.TheVariants.{Idle, Identify, Listen, Train, Page, Again, Closing}
use Rattle.fax_answer.specs.Orders.{order_of}
use Rattle.fax_answer.specs.History.{Entry, Decision, PassesOver, Trains, HangsUp, GivesCfr, GivesFtt, GivesMcf, GivesRtn, is_answer, since_answer, images, gap, octets_since, last_image, last_whole, repeated, missing_in_training, dcs_asked, dcs_said, trained_dcs, answered_dcs}
use Rattle.fax_answer.specs.Table.{Reading, has_zero_run, judged, is_one_image, is_quiet, is_repeat, on_command_again, on_order, decision, order_asks, asked_of, state_after}
use Rattle.fax_answer.specs.Replies.{ConfirmedPage, is_last, WaitingPacket, reply_to, is_waiting}
use Rattle.fax_answer.specs.Calls.{AnswererCore, rung, came, asked, says_goodbye, identifies_again, identifies_anew, timed_in, timed, state_when_given, TickResult, given_first, paced, ticked, CallEvent, Comes, Ticks, after_events}
use Rattle.fax_answer.specs.Confirmation.{IsConfirmation, IsConfirmedIn, IfAsked, AreRead, GivesConfirmations}
use Rattle.fax_answer.proofs.Neat.{mcf_with_page}
use Rattle.fax_answer.specs.Following.{Rests}
use Rattle.fax_answer.proofs.Rests.{NoneIf, none_if, rests_after, given_rests, fewer_rests}

-- what must hold where a command is accepted with a page
chosen : (b c : Bool) (r : Option PageValue) (asked command : Command) (page : PageValue) →
    (if b then judged asked r else if c then GivesMcf asked None else GivesRtn) ≡ GivesMcf command (Some page) →
    (asked ≡ command) × (b ≡ true) × (r ≡ Some page)
chosen true c (Some p) asked command page h = (cc, refl, cc)
chosen true c None asked command page h = cc
chosen false true r asked command page h = cc
chosen false false r asked command page h = cc

no_page : (b : Bool) (command : Command) (page : PageValue) → (if b then GivesMcf Eom None else GivesRtn) ≡ GivesMcf command (Some page) → ⊥
no_page true command page h = cc
no_page false command page h = cc

again_no_page : (before : List Entry) (asked command : Command) (page : PageValue) → on_command_again before asked ≡ GivesMcf command (Some page) → ⊥
again_no_page before Eom command page h = no_page (is_quiet (since_answer before)) command page h
again_no_page before Mps command page h = cc
again_no_page before Eop command page h = cc

record IsAccepted (read : Reading) (state : State) (before : List Entry) (order : Order) (command : Command) (page : PageValue) : Type 0 where
  dcs : Dcs
  state_is : state ≡ Page dcs
  order_is : order ≡ orders.Judge command
  one_page : is_one_image (since_answer before) ≡ true
  was_read : read ≡ Some page

by_order : (read : Reading) (state : State) (before : List Entry) (order : Order) (command : Command) (page : PageValue) →
    on_order read state before order ≡ GivesMcf command (Some page) → IsAccepted read state before order command page
by_order read Idle before order command page h = cc
by_order read Closing before order command page h = cc
by_order read Identify before (orders.Train d) command page h = cc
by_order read Identify before (orders.Judge c) command page h = cc
by_order read Identify before orders.Disconnect command page h = cc
by_order read Identify before orders.Nothing command page h = cc
by_order read Listen before (orders.Train d) command page h = cc
by_order read Listen before (orders.Judge c) command page h = cc
by_order read Listen before orders.Disconnect command page h = cc
by_order read Listen before orders.Nothing command page h = cc
by_order read (Train dcs) before (orders.Train d) command page h = cc
by_order read (Train dcs) before (orders.Judge c) command page h = cc
by_order read (Train dcs) before orders.Disconnect command page h = cc
by_order read (Train dcs) before orders.Nothing command page h = cc
by_order read (Page dcs) before (orders.Train d) command page h = cc
by_order read Again before (orders.Train d) command page h = cc
by_order read (Page dcs) before orders.Disconnect command page h = cc
by_order read Again before orders.Disconnect command page h = cc
by_order read (Page dcs) before orders.Nothing command page h = cc
by_order read Again before orders.Nothing command page h = cc
by_order read Again before (orders.Judge c) command page h = absurd (again_no_page before c command page h)
by_order read (Page dcs) before (orders.Judge c) command page h =
    let k = chosen (is_one_image (since_answer before)) (is_repeat before c) read c command page h in
    record { dcs = dcs; state_is = refl; order_is = ap orders.Judge k.0; one_page = k.1; was_read = k.2 }

-- the parts of a test
both_true : (a b : Bool) → (a && b) ≡ true → (a ≡ true) × (b ≡ true)
both_true true b h = (refl, h)
both_true false b h = cc

is_one : (n : ℕ) → nat_eq n 1 ≡ true → n ≡ 1
is_one n h = grind (arith)

not_true : (b : Bool) → not b ≡ true → b ≡ false
not_true true h = cc
not_true false h = refl

-- the DCS of Train is that of the last frame that trained, that of Page the one that the last CFR answered, and in Again the
-- last MCF answered an EOM
abbrev pub KnowsDcs : State → List Entry → Type 0
KnowsDcs (Train dcs) history = trained_dcs history ≡ Some dcs
KnowsDcs (Page dcs) history = answered_dcs history ≡ Some dcs
KnowsDcs Again history = repeated history ≡ Some Eom
KnowsDcs state history = Unit {0}

-- what the table's word says of the frame and the state
abbrev FitsMcf : State → Command → Type 0
FitsMcf Again command = command ≡ Eom
FitsMcf state command = Unit {0}

abbrev Fits : State → pieces.Piece → Decision → Type 0
Fits state piece (Trains dcs) = dcs_said piece ≡ Some dcs
Fits state piece (GivesCfr dcs) = state ≡ Train dcs
Fits state piece (GivesMcf command page) = FitsMcf state command
Fits state piece d = Unit {0}

knows_after : (state : State) (history : List Entry) (piece : pieces.Piece) (d : Decision) → Fits state piece d → KnowsDcs state history → KnowsDcs (state_after state d) (record { piece = piece; decision = d } ∷ history)
knows_after state history piece (Trains dcs) f k = f
knows_after state history piece HangsUp f k = tt
knows_after state history piece (GivesCfr dcs) f k = subst (λ (p : State). KnowsDcs p history) f k
knows_after state history piece GivesFtt f k = tt
knows_after Idle history piece PassesOver f k = tt
knows_after Identify history piece PassesOver f k = tt
knows_after Listen history piece PassesOver f k = tt
knows_after (Train d) history piece PassesOver f k = k
knows_after (Page d) history piece PassesOver f k = k
knows_after Again history piece PassesOver f k = k
knows_after Closing history piece PassesOver f k = tt
knows_after state history piece (GivesMcf Eom p) f k = refl
knows_after Idle history piece (GivesMcf Mps p) f k = tt
knows_after Identify history piece (GivesMcf Mps p) f k = tt
knows_after Listen history piece (GivesMcf Mps p) f k = tt
knows_after (Train d) history piece (GivesMcf Mps p) f k = k
knows_after (Page d) history piece (GivesMcf Mps p) f k = k
knows_after Again history piece (GivesMcf Mps p) f k = cc
knows_after Closing history piece (GivesMcf Mps p) f k = tt
knows_after Idle history piece (GivesMcf Eop p) f k = tt
knows_after Identify history piece (GivesMcf Eop p) f k = tt
knows_after Listen history piece (GivesMcf Eop p) f k = tt
knows_after (Train d) history piece (GivesMcf Eop p) f k = k
knows_after (Page d) history piece (GivesMcf Eop p) f k = k
knows_after Again history piece (GivesMcf Eop p) f k = cc
knows_after Closing history piece (GivesMcf Eop p) f k = tt
knows_after Idle history piece GivesRtn f k = tt
knows_after Identify history piece GivesRtn f k = tt
knows_after Listen history piece GivesRtn f k = tt
knows_after (Train d) history piece GivesRtn f k = k
knows_after (Page d) history piece GivesRtn f k = k
knows_after Again history piece GivesRtn f k = k
knows_after Closing history piece GivesRtn f k = tt

command_fits : (b c : Bool) (r : Option PageValue) (asked : Command) (dcs : Dcs) (piece : pieces.Piece) → Fits (Page dcs) piece (if b then judged asked r else if c then GivesMcf asked None else GivesRtn)
command_fits true c (Some p) asked dcs piece = tt
command_fits true c None asked dcs piece = tt
command_fits false true r asked dcs piece = tt
command_fits false false r asked dcs piece = tt

eom_fits : (b : Bool) (piece : pieces.Piece) → Fits Again piece (if b then GivesMcf Eom None else GivesRtn)
eom_fits true piece = refl
eom_fits false piece = tt

again_fits : (before : List Entry) (asked : Command) (piece : pieces.Piece) → Fits Again piece (on_command_again before asked)
again_fits before Eom piece = eom_fits (is_quiet (since_answer before)) piece
again_fits before Mps piece = tt
again_fits before Eop piece = tt

order_fits : (read : Reading) (state : State) (before : List Entry) (octets : List ℕ) (order : Order) → order_of octets ≡ order → Fits state (pieces.Frame octets) (on_order read state before order)
order_fits read Idle before octets order h = tt
order_fits read Closing before octets order h = tt
order_fits read Identify before octets (orders.Train d) h = ap dcs_asked h
order_fits read Identify before octets (orders.Judge c) h = tt
order_fits read Identify before octets orders.Disconnect h = tt
order_fits read Identify before octets orders.Nothing h = tt
order_fits read Listen before octets (orders.Train d) h = ap dcs_asked h
order_fits read Listen before octets (orders.Judge c) h = tt
order_fits read Listen before octets orders.Disconnect h = tt
order_fits read Listen before octets orders.Nothing h = tt
order_fits read (Train dcs) before octets (orders.Train d) h = ap dcs_asked h
order_fits read (Train dcs) before octets (orders.Judge c) h = tt
order_fits read (Train dcs) before octets orders.Disconnect h = tt
order_fits read (Train dcs) before octets orders.Nothing h = tt
order_fits read (Page dcs) before octets (orders.Train d) h = ap dcs_asked h
order_fits read Again before octets (orders.Train d) h = ap dcs_asked h
order_fits read (Page dcs) before octets (orders.Judge c) h = command_fits (is_one_image (since_answer before)) (is_repeat before c) read c dcs (pieces.Frame octets)
order_fits read Again before octets (orders.Judge c) h = again_fits before c (pieces.Frame octets)
order_fits read (Page dcs) before octets orders.Disconnect h = tt
order_fits read Again before octets orders.Disconnect h = tt
order_fits read (Page dcs) before octets orders.Nothing h = tt
order_fits read Again before octets orders.Nothing h = tt

check_fits : (b : Bool) (dcs : Dcs) (piece : pieces.Piece) → Fits (Train dcs) piece (if b then GivesCfr dcs else GivesFtt)
check_fits true dcs piece = refl
check_fits false dcs piece = tt

frame_fits : (read : Reading) (state : State) (waits : Bool) (before : List Entry) (octets : List ℕ) → Fits state (pieces.Frame octets) (decision read state waits before (pieces.Frame octets))
frame_fits read state true before octets = tt
frame_fits read state false before octets = order_fits read state before octets (order_of octets) refl

fits : (read : Reading) (state : State) (waits : Bool) (before : List Entry) (piece : pieces.Piece) → Fits state piece (decision read state waits before piece)
fits read state waits before (pieces.Frame octets) = frame_fits read state waits before octets
fits read Idle waits before (pieces.End whole) = tt
fits read Identify waits before (pieces.End whole) = tt
fits read Listen waits before (pieces.End whole) = tt
fits read (Train dcs) waits before (pieces.End whole) =
    check_fits (whole && (not (missing_in_training before) && has_zero_run (bits_a_second dcs.rate / 8) (octets_since before))) dcs (pieces.End whole)
fits read (Page dcs) waits before (pieces.End whole) = tt
fits read Again waits before (pieces.End whole) = tt
fits read Closing waits before (pieces.End whole) = tt
fits read state waits before (pieces.Start k) = tt
fits read state waits before (pieces.Octets o) = tt
fits read state waits before pieces.Gap = tt

-- what waits with a page is confirmed in the history
abbrev pub IsBacked : List Entry → Option ConfirmedPage → Type 0
IsBacked history None = Unit {0}
IsBacked history (Some confirmed) = IsConfirmedIn history confirmed

abbrev pub AreBacked : List Entry → List WaitingPacket → Type 0
AreBacked history [] = Unit {0}
AreBacked history (w ∷ waiting) = IsBacked history w.confirmed × AreBacked history waiting

backed_later : (e : Entry) (history : List Entry) (o : Option ConfirmedPage) → is_answer e.decision ≡ false → IsBacked history o → IsBacked (e ∷ history) o
backed_later e history None n b = tt
backed_later e history (Some c) n b =
    record {
      later = e ∷ b.later;
      octets = b.octets;
      decision = b.decision;
      before = b.before;
      split = ap (λ (h : List Entry). e ∷ h) b.split;
      confirmation = b.confirmation;
      accepts = b.accepts;
      last = ap (λ (t : Bool). if◌then◌else◌ {A = List Entry} t [] (e ∷ since_answer history)) n ∙ ap (λ (h : List Entry). e ∷ h) b.last;
    }

each_backed_later : (e : Entry) (history : List Entry) (waiting : List WaitingPacket) → is_answer e.decision ≡ false → AreBacked history waiting → AreBacked (e ∷ history) waiting
each_backed_later e history [] n b = tt
each_backed_later e history (w ∷ waiting) n b = (backed_later e history w.confirmed n b.0, each_backed_later e history waiting n b.1)

all_backed_later : (e : Entry) (history : List Entry) (waiting : List WaitingPacket) → NoneIf waiting e.decision → AreBacked history waiting → AreBacked (e ∷ history) waiting
all_backed_later e history [] n b = tt
all_backed_later e history (w ∷ waiting) n b = each_backed_later e history (w ∷ waiting) n b

backed_both : (history : List Entry) (xs ys : List WaitingPacket) → AreBacked history xs → AreBacked history ys → AreBacked history (xs ++ ys)
backed_both history [] ys a b = b
backed_both history (x ∷ xs) ys a b = (a.0, backed_both history xs ys a.1 b)

-- the page of an acceptance is meant, where the reading is right
means_read : (read : Reading) (dcs : Dcs) (octets : List ℕ) (t : Bool) (page : PageValue) → t ≡ true → read ≡ Some page →
    IfAsked (if t then Some (record { octets = octets; dcs = dcs }) else None) read → MeansPage (format_of dcs) (coding_of dcs) octets page
means_read read dcs octets true page h e r =
    subst (λ (x : Reading). IfAsked (Some (record { octets = octets; dcs = dcs })) x) e r
means_read read dcs octets false page h e r = cc

-- the acceptance of a frame is a confirmation
frame_confirms : (read : Reading) (state : State) (before : List Entry) (octets : List ℕ) (command : Command) (page : PageValue) →
    IfAsked (order_asks state before (order_of octets)) read → KnowsDcs state before → IsAccepted read state before (order_of octets) command page →
    (i : IsConfirmation before octets (record { page = page; closes = is_last command })) × (i.command ≡ command)
frame_confirms read state before octets command page right knows a =
    let since = since_answer before in
    let t = both_true (nat_eq (images since) 1) (last_whole since && not (gap since)) a.one_page in
    let u = both_true (last_whole since) (not (gap since)) t.1 in (
      record {
        command = command;
        order = a.order_is;
        closes = refl;
        one_image = is_one (images since) t.0;
        whole = u.0;
        quiet = not_true (gap since) u.1;
        dcs = a.dcs;
        answered = subst (λ (p : State). KnowsDcs p before) a.state_is knows;
        means = means_read read a.dcs (last_image before) (is_one_image since) page a.one_page a.was_read
            (subst (λ (x : State). IfAsked (order_asks x before (orders.Judge command)) read) a.state_is (subst (λ (o : Order). IfAsked (order_asks state before o) read) a.order_is right));
      },
      refl,
    )

-- the reply at a piece is backed by the history with that piece
abbrev ReplyIsBacked : List Entry → pieces.Piece → Decision → Type 0
ReplyIsBacked before piece d = AreBacked (record { piece = piece; decision = d } ∷ before) (reply_to d)

reply_backed : (before : List Entry) (piece : pieces.Piece) (d : Decision) →
    ((command : Command) (page : PageValue) → d ≡ GivesMcf command (Some page) → IsConfirmedIn (record { piece = piece; decision = d } ∷ before) (record { page = page; closes = is_last command })) →
    ReplyIsBacked before piece d
reply_backed before piece PassesOver h = tt
reply_backed before piece (Trains dcs) h = tt
reply_backed before piece HangsUp h = tt
reply_backed before piece (GivesCfr dcs) h = (tt, (tt, tt))
reply_backed before piece GivesFtt h = (tt, (tt, tt))
reply_backed before piece (GivesMcf command None) h = (tt, (tt, tt))
reply_backed before piece (GivesMcf command (Some page)) h = (tt, (h command page refl, tt))
reply_backed before piece GivesRtn h = (tt, (tt, tt))

pub at_frame : (read : Reading) (state : State) (waits : Bool) (before : List Entry) (octets : List ℕ) (command : Command) (page : PageValue) →
    IfAsked (asked_of state waits before (pieces.Frame octets)) read → KnowsDcs state before → decision read state waits before (pieces.Frame octets) ≡ GivesMcf command (Some page) →
    (i : IsConfirmation before octets (record { page = page; closes = is_last command })) × (i.command ≡ command)
at_frame read state true before octets command page right knows h = cc
at_frame read state false before octets command page right knows h =
    frame_confirms read state before octets command page right knows (by_order read state before (order_of octets) command page h)

-- a check of the training accepts nothing
check_passes : (b : Bool) (dcs : Dcs) (command : Command) (page : PageValue) → (if b then GivesCfr dcs else GivesFtt) ≡ GivesMcf command (Some page) → ⊥
check_passes true dcs command page h = cc
check_passes false dcs command page h = cc

pub end_accepts_none : (read : Reading) (state : State) (waits : Bool) (before : List Entry) (whole : Bool) (command : Command) (page : PageValue) →
    decision read state waits before (pieces.End whole) ≡ GivesMcf command (Some page) → ⊥
end_accepts_none read Idle waits before whole command page h = cc
end_accepts_none read Identify waits before whole command page h = cc
end_accepts_none read Listen waits before whole command page h = cc
end_accepts_none read (Train dcs) waits before whole command page h =
    check_passes (whole && (not (missing_in_training before) && has_zero_run (bits_a_second dcs.rate / 8) (octets_since before))) dcs command page h
end_accepts_none read (Page dcs) waits before whole command page h = cc
end_accepts_none read Again waits before whole command page h = cc
end_accepts_none read Closing waits before whole command page h = cc

since_none : (d : Decision) (command : Command) (page : PageValue) (piece : pieces.Piece) (before : List Entry) → d ≡ GivesMcf command (Some page) → since_answer (record { piece = piece; decision = d } ∷ before) ≡ []
since_none d command page piece before h = ap (λ (x : Decision). since_answer (record { piece = piece; decision = x } ∷ before)) h

confirmed_at : (read : Reading) (state : State) (waits : Bool) (before : List Entry) (piece : pieces.Piece) (command : Command) (page : PageValue) →
    IfAsked (asked_of state waits before piece) read → KnowsDcs state before → decision read state waits before piece ≡ GivesMcf command (Some page) →
    IsConfirmedIn (record { piece = piece; decision = decision read state waits before piece } ∷ before) (record { page = page; closes = is_last command })
confirmed_at read state waits before (pieces.Frame octets) command page right knows h =
    record {
      later = [];
      octets = octets;
      decision = decision read state waits before (pieces.Frame octets);
      before = before;
      split = refl;
      confirmation = (at_frame read state waits before octets command page right knows h).0;
      accepts = h ∙ ap (λ (c : Command). GivesMcf c (Some page)) (sym (at_frame read state waits before octets command page right knows h).1);
      last = since_none (decision read state waits before (pieces.Frame octets)) command page (pieces.Frame octets) before h;
    }
confirmed_at read state waits before (pieces.End whole) command page right knows h = absurd (end_accepts_none read state waits before whole command page h)
confirmed_at read state waits before (pieces.Start k) command page right knows h = cc
confirmed_at read state waits before (pieces.Octets o) command page right knows h = cc
confirmed_at read state waits before pieces.Gap command page right knows h = cc

pub record InCall (a : AnswererCore) : Type 0 where
  pub rests : Rests a.state a.waiting
  pub knows : KnowsDcs a.state a.history
  pub backed : AreBacked a.history a.waiting

comes_keeps : (read : Reading) (a : AnswererCore) (piece : pieces.Piece) (now : ℕ) → IfAsked (asked a piece) read → InCall a → InCall (came read a piece now)
comes_keeps read a piece now right i =
    let d : Decision = decision read a.state (is_waiting a.waiting) a.history piece in
    let e : Entry = record { piece = piece; decision = d } in
    record {
      rests = rests_after read a.state a.waiting a.history piece i.rests;
      knows = knows_after a.state a.history piece d (fits read a.state (is_waiting a.waiting) a.history piece) i.knows;
      backed = backed_both (e ∷ a.history) a.waiting (reply_to d) (all_backed_later e a.history a.waiting (none_if read a.state a.waiting a.history piece i.rests) i.backed)
          (reply_backed a.history piece d (λ command page h. confirmed_at read a.state (is_waiting a.waiting) a.history piece command page right i.knows h));
    }

goodbye_keeps : (a : AnswererCore) → InCall (says_goodbye a)
goodbye_keeps a = record { rests = tt; knows = tt; backed = (tt, (tt, tt)) }

again_keeps : (a : AnswererCore) → a.state ≡ Identify → InCall a → InCall (identifies_again a)
again_keeps a e i = record { rests = subst (λ (p : State). Rests p (identifies_again a).waiting) (sym e) tt; knows = i.knows; backed = (tt, (tt, tt)) }

anew_keeps : (a : AnswererCore) (now : ℕ) → InCall (identifies_anew a now)
anew_keeps a now = record { rests = tt; knows = tt; backed = (tt, (tt, tt)) }

either : (b : Bool) (x y : AnswererCore) → InCall x → InCall y → InCall (if b then x else y)
either true x y i j = i
either false x y i j = j

timed_in_keeps : (state : State) (a : AnswererCore) (now : ℕ) → a.state ≡ state → InCall a → InCall (timed_in state a now)
timed_in_keeps Idle a now e i = i
timed_in_keeps Closing a now e i = i
timed_in_keeps Identify a now e i =
    either (is_due a.timers.t1 now) _ _ (goodbye_keeps a) (either (is_due a.timers.t4 now) (identifies_again a) a (again_keeps a e i) i)
timed_in_keeps Listen a now e i = either (is_due a.timers.t2 now) _ _ (goodbye_keeps a) i
timed_in_keeps (Train d) a now e i = either (is_due a.timers.t2 now) _ _ (goodbye_keeps a) i
timed_in_keeps (Page d) a now e i = either (is_due a.timers.t2 now) _ _ (goodbye_keeps a) i
timed_in_keeps Again a now e i = either (is_due a.timers.t2 now) _ _ (anew_keeps a now) i

timed_keeps : (a : AnswererCore) (now : ℕ) → InCall a → InCall (timed a now)
timed_keeps a now i = either (is_waiting a.waiting) a (timed_in a.state a now) i (timed_in_keeps a.state a now refl i)

-- what a tick gives is backed, and the core is as in a call
record TickKeeps (history : List Entry) (t : TickResult) : Type 0 where
  core : InCall t.core
  same : t.core.history ≡ history
  given : (w : WaitingPacket) → t.given ≡ Some w → IsBacked history w.confirmed

knows_when_sent : (state : State) (history : List Entry) → KnowsDcs state history → KnowsDcs (state_when_given state) history
knows_when_sent Idle history k = tt
knows_when_sent Identify history k = tt
knows_when_sent Listen history k = tt
knows_when_sent (Train d) history k = k
knows_when_sent (Page d) history k = k
knows_when_sent Again history k = k
knows_when_sent Closing history k = tt

backed_first : (history : List Entry) (w v : WaitingPacket) → IsBacked history w.confirmed → Some w ≡ Some v → IsBacked history v.confirmed
backed_first history w v b h = let e : w ≡ v = cc in subst (λ (x : WaitingPacket). IsBacked history x.confirmed) e b

first_keeps : (a : AnswererCore) (now : ℕ) (waiting : List WaitingPacket) → Rests a.state waiting → KnowsDcs a.state a.history → AreBacked a.history waiting → InCall a → TickKeeps a.history (given_first a now waiting)
first_keeps a now [] r k b i = record { core = i; same = refl; given = λ w h. cc }
first_keeps a now (w ∷ []) r k b i =
    record { core = record { rests = given_rests a.state; knows = knows_when_sent a.state a.history k; backed = tt }; same = refl; given = λ v h. backed_first a.history w v b.0 h }
first_keeps a now (w ∷ v ∷ rest) r k b i =
    record { core = record { rests = fewer_rests a.state w v rest r; knows = k; backed = b.1 }; same = refl; given = λ u h. backed_first a.history w u b.0 h }

tick_if : (b : Bool) (a : AnswererCore) (t : TickResult) → InCall a → TickKeeps a.history t → TickKeeps a.history (if b then t else record { core = a; given = None; ended = false })
tick_if true a t i k = k
tick_if false a t i k = record { core = i; same = refl; given = λ w h. cc }

paced_keeps : (a : AnswererCore) (now : ℕ) → InCall a → TickKeeps a.history (paced a now)
paced_keeps a now i = tick_if (pace_allows a.pace.last now) a (given_first a now a.waiting) i (first_keeps a now a.waiting i.rests i.knows i.backed i)

-- timers leave the history
same_if : (b : Bool) (h : List Entry) (x y : AnswererCore) → x.history ≡ h → y.history ≡ h → (if b then x else y).history ≡ h
same_if true h x y p q = p
same_if false h x y p q = q

timed_in_history : (state : State) (a : AnswererCore) (now : ℕ) → (timed_in state a now).history ≡ a.history
timed_in_history Idle a now = refl
timed_in_history Closing a now = refl
timed_in_history Identify a now =
    same_if (is_due a.timers.t1 now) a.history _ _ refl (same_if (is_due a.timers.t4 now) a.history (identifies_again a) a refl refl)
timed_in_history Listen a now = same_if (is_due a.timers.t2 now) a.history (says_goodbye a) a refl refl
timed_in_history (Train d) a now = same_if (is_due a.timers.t2 now) a.history (says_goodbye a) a refl refl
timed_in_history (Page d) a now = same_if (is_due a.timers.t2 now) a.history (says_goodbye a) a refl refl
timed_in_history Again a now = same_if (is_due a.timers.t2 now) a.history (identifies_anew a now) a refl refl

pub timed_history : (a : AnswererCore) (now : ℕ) → (timed a now).history ≡ a.history
timed_history a now = same_if (is_waiting a.waiting) a.history a (timed_in a.state a now) refl (timed_in_history a.state a now)

ticked_keeps : (a : AnswererCore) (now : ℕ) → InCall a → TickKeeps a.history (ticked a now)
ticked_keeps a now i = subst (λ (h : List Entry). TickKeeps h (ticked a now)) (timed_history a now) (paced_keeps (timed a now) now (timed_keeps a now i))

pub ticked_history : (a : AnswererCore) (now : ℕ) → (ticked a now).core.history ≡ a.history
ticked_history a now = by (timed a now) (timed_history a now) (pace_allows (timed a now).pace.last now)
  where
    first : (b : AnswererCore) (ws : List WaitingPacket) → (given_first b now ws).core.history ≡ b.history
    first b [] = refl
    first b (w ∷ []) = refl
    first b (w ∷ v ∷ ws) = refl

    by : (b : AnswererCore) → b.history ≡ a.history → (t : Bool) → (if◌then◌else◌ {A = TickResult} t (given_first b now b.waiting) (record { core = b; given = None; ended = false })).core.history ≡ a.history
    by b e true = first b b.waiting ∙ e
    by b e false = e

pub rung_in_call : (a : AnswererCore) (now : ℕ) → InCall (rung a now)
rung_in_call a now = record { rests = tt; knows = tt; backed = (tt, (tt, (tt, tt))) }

pub events_keep : (a : AnswererCore) (events : List CallEvent) → AreRead a events → InCall a → InCall (after_events a events)
events_keep a [] right i = i
events_keep a (Comes piece now read ∷ before) right i = comes_keeps read (after_events a before) piece now right.0 (events_keep a before right.1 i)
events_keep a (Ticks now ∷ before) right i = (ticked_keeps (after_events a before) now (events_keep a before right i)).core

pub gives_confirmations : GivesConfirmations
gives_confirmations core start now events w confirmed right given is =
    let a : AnswererCore = after_events (rung core start) events in
    let k : InCall a = events_keep (rung core start) events right (rung_in_call core start) in
    (mcf_with_page core start now events w confirmed given is, subst (IsBacked a.history) is ((ticked_keeps a now k).given w given))
