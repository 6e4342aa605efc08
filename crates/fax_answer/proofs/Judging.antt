-- What means no page is refused, and one image is judged by what it means.
use Rattle.std.proofs.Common.{◌≡◌, ℕ, ◌<◌, Bool, true, false, not, ◌&&◌, List, [], ◌∷◌, ◌++◌, Option, Some, None, ◌⊎◌, inl, inr, refl, sym, ◌∙◌, ap, subst, nat_eq, arith, if◌then◌else◌}
use Rattle.fax_runcodes.specs.Widths.{elements_of}
use Rattle.fax_frames.specs.declared.dcs.Dcs.{Dcs}
use Rattle.fax_frames.specs.Capabilities.{format_of, coding_of}
use Rattle.fax_pagestore.specs.Pages.{PageValue}
use Rattle.fax_pagestore.specs.PageTexts.{MeansPage}
use Rattle.fax_ifp.specs.Pieces as pieces
use Rattle.fax_answer.specs.declared.command.Command.{Command}
use Rattle.fax_answer.specs.declared.command.Command.TheVariants.{Eom, Mps, Eop}
use Rattle.fax_answer.specs.declared.command.Order.{Order}
use Rattle.fax_answer.specs.declared.command.Order.TheVariants as orders
use Rattle.fax_answer.specs.declared.state.State.{State}
use Rattle.fax_answer.specs.declared.state.State.TheVariants.{Idle, Identify, Listen, Train, Page, Again, Closing}
use Rattle.fax_answer.specs.Orders.{order_of}
use Rattle.fax_answer.specs.History.{Entry, Decision, PassesOver, Trains, HangsUp, GivesCfr, GivesFtt, GivesMcf, GivesRtn, since_answer, images, gap, last_image, repeat_with, repeated, trained_dcs, dcs_with, answered_dcs}
use Rattle.fax_answer.specs.Table.{Reading, Question, judged, is_one_image, same_command, is_repeat, on_command, on_command_again, on_order, decision, order_asks, asked_of}
use Rattle.fax_answer.specs.Replies.{is_waiting}
use Rattle.fax_answer.specs.Calls.{AnswererCore, rung, CallEvent, Comes, Ticks, after_events}
use Rattle.fax_answer.specs.Confirmation.{IsRight, IfAsked, AreRead}
use Rattle.fax_answer.specs.Judging.{MeansNone, IsAnswered, RefusesNoPage, JudgesExactly}
use Rattle.fax_answer.specs.EachCommand.{JudgesEachCommand}
use Rattle.fax_pagestore.proofs.PageLaws.{pages_dont_fail}
use Rattle.fax_runcodes.specs.Rows.{IsWidth}
use Rattle.fax_runcodes.specs.declared.Width.{Width}
use Rattle.fax_runcodes.specs.declared.Width.TheVariants.{W1728, W2048, W2432}
use Rattle.fax_answer.proofs.Confirmations.{KnowsDcs, InCall, events_keep, rung_in_call, ticked_history}

-- what is known of each entry of a history: it was decided in a call
record IsDecided (e : Entry) (before : List Entry) : Type 0 where
  read : Reading
  state : State
  waits : Bool
  knows : KnowsDcs state before
  right : IfAsked (asked_of state waits before e.piece) read
  decided : e.decision ≡ decision read state waits before e.piece

AllDecided : List Entry → Type 0
AllDecided [] = Unit {0}
AllDecided (e ∷ before) = IsDecided e before × AllDecided before

all_decided : (core : AnswererCore) (start : ℕ) (events : List CallEvent) → AreRead (rung core start) events → AllDecided (after_events (rung core start) events).history
unfolding AllDecided
all_decided core start [] right = tt
all_decided core start (Comes piece now read ∷ before) right =
    let a : AnswererCore = after_events (rung core start) before in
    let k : InCall a = events_keep (rung core start) before right.1 (rung_in_call core start) in
    (record { read = read; state = a.state; waits = is_waiting a.waiting; knows = k.knows; right = right.0; decided = refl }, all_decided core start before right.1)
all_decided core start (Ticks now ∷ before) right =
    let a : AnswererCore = after_events (rung core start) before in
    subst AllDecided (sym (ticked_history a now)) (all_decided core start before right)

decided_at : (later : List Entry) (e : Entry) (before : List Entry) → AllDecided (later ++ e ∷ before) → IsDecided e before
unfolding AllDecided
decided_at [] e before a = a.0
decided_at (x ∷ later) e before a = decided_at later e before a.1

-- a command that is not passed over is answered in Page, by the reading of what it asks, or in Again
abbrev asks_page : Dcs → List Entry → Option Question
asks_page dcs before = if is_one_image (since_answer before) then Some (record { octets = last_image before; dcs = dcs }) else None

record InPage (read : Reading) (state : State) (before : List Entry) (command : Command) (d : Decision) : Type 0 where
  dcs : Dcs
  is_page : state ≡ Page dcs
  right : IfAsked (asks_page dcs before) read
  answer : d ≡ on_command read before command

abbrev InAgain : State → List Entry → Command → Decision → Type 0
InAgain state before command d = (state ≡ Again) × (d ≡ on_command_again before command)

abbrev InEither : Reading → State → List Entry → Command → Decision → Type 0
InEither read state before command d = InPage read state before command d ⊎ InAgain state before command d

by_phase : (read : Reading) (state : State) (before : List Entry) (command : Command) → (on_order read state before (orders.Judge command) ≡ PassesOver → ⊥) → IfAsked (order_asks state before (orders.Judge command)) read →
    InEither read state before command (on_order read state before (orders.Judge command))
by_phase read Idle before command n r = absurd (n refl)
by_phase read Identify before command n r = absurd (n refl)
by_phase read Listen before command n r = absurd (n refl)
by_phase read (Train dcs) before command n r = absurd (n refl)
by_phase read (Page dcs) before command n r = inl (record { dcs = dcs; is_page = refl; right = r; answer = refl })
by_phase read Again before command n r = inr (refl, refl)
by_phase read Closing before command n r = absurd (n refl)

by_frame : (read : Reading) (state : State) (waits : Bool) (before : List Entry) (octets : List ℕ) (command : Command) → order_of octets ≡ orders.Judge command →
    (decision read state waits before (pieces.Frame octets) ≡ PassesOver → ⊥) → IfAsked (asked_of state waits before (pieces.Frame octets)) read →
    InEither read state before command (decision read state waits before (pieces.Frame octets))
by_frame read state true before octets command o n r = absurd (n refl)
by_frame read state false before octets command o n r =
    let e : orders.Judge command ≡ order_of octets = sym o in
    subst (λ (x : Order). InEither read state before command (on_order read state before x)) e
    (by_phase read state before command (λ p. n (ap (λ (x : Order). on_order read state before x) o ∙ p)) (subst (λ (x : Order). IfAsked (order_asks state before x) read) o r))

-- a command that was answered: its reading
record Answer (before : List Entry) (command : Command) (d : Decision) (dcs : Dcs) : Type 0 where
  read : Reading
  right : IfAsked (asks_page dcs before) read
  answer : d ≡ on_command read before command

abbrev AnswerAgain : List Entry → Command → Decision → Type 0
AnswerAgain before command d = (repeated before ≡ Some Eom) × (d ≡ on_command_again before command)

answered : (history before : List Entry) (command : Command) (d : Decision) (dcs : Dcs) → AllDecided history → IsAnswered history before command d dcs → Answer before command d dcs ⊎ AnswerAgain before command d
answered history before command d dcs all a =
    let e : Entry = record { piece = pieces.Frame a.octets; decision = d } in
    let i : IsDecided e before = decided_at a.later e before (subst AllDecided a.split all) in
    by i (by_frame i.read i.state i.waits before a.octets command a.order (λ q. a.not_passed (i.decided ∙ q)) i.right)
  where
    by : (i : IsDecided (record { piece = pieces.Frame a.octets; decision = d }) before) → InEither i.read i.state before command (decision i.read i.state i.waits before (pieces.Frame a.octets)) →
        Answer before command d dcs ⊎ AnswerAgain before command d
    by i (inl p) =
        let k : answered_dcs before ≡ Some p.dcs = subst (λ (x : State). KnowsDcs x before) p.is_page i.knows in
        let q : Some p.dcs ≡ Some dcs = sym k ∙ a.dcs_is in
        let same : p.dcs ≡ dcs = cc in
        inl (record { read = i.read; right = subst (λ (x : Dcs). IfAsked (asks_page x before) i.read) same p.right; answer = i.decided ∙ p.answer })
    by i (inr p) = inr (subst (λ (x : State). KnowsDcs x before) p.0 i.knows, i.decided ∙ p.1)

not_zero : (n : ℕ) → 0 < n → nat_eq n 0 ≡ false
not_zero n h = grind (arith)

judged_none : (dcs : Dcs) (before : List Entry) (command : Command) (r : Reading) → IsRight (record { octets = last_image before; dcs = dcs }) r → MeansNone before dcs → judged command r ≡ GivesRtn
judged_none dcs before command None right m = refl
judged_none dcs before command (Some page) right m = absurd (m page right)

refused : (read : Reading) (dcs : Dcs) (before : List Entry) (command : Command) → IfAsked (asks_page dcs before) read → 0 < images (since_answer before) → MeansNone before dcs → on_command read before command ≡ GivesRtn
refused read dcs before command right h m =
    by (is_one_image (since_answer before)) (is_repeat before command) right
    (ap (λ (t : Bool). t && (not (gap (since_answer before)) && same_command (repeated before) command)) (not_zero (images (since_answer before)) h))
  where
    by : (x y : Bool) → IfAsked (if x then Some (record { octets = last_image before; dcs = dcs }) else None) read → y ≡ false → (if x then judged command read else if y then GivesMcf command None else GivesRtn) ≡ GivesRtn
    by true y r e = judged_none dcs before command read r m
    by false true r e = cc
    by false false r e = refl

refused_again : (before : List Entry) (command : Command) → 0 < images (since_answer before) → on_command_again before command ≡ GivesRtn
refused_again before Eom h =
    ap (λ (t : Bool). if t && not (gap (since_answer before)) then GivesMcf Eom None else GivesRtn) (not_zero (images (since_answer before)) h)
refused_again before Mps h = refl
refused_again before Eop h = refl

pub refuses_no_page : RefusesNoPage
refuses_no_page core start events before command d dcs right a h m =
    by (answered (after_events (rung core start) events).history before command d dcs (all_decided core start events right) a)
  where
    by : Answer before command d dcs ⊎ AnswerAgain before command d → d ≡ GivesRtn
    by (inl p) = p.answer ∙ refused p.read dcs before command p.right h m
    by (inr p) = p.1 ∙ refused_again before command h

is_width : (width : Width) → IsWidth (elements_of width)
is_width W1728 = inl refl
is_width W2048 = inr (inl refl)
is_width W2432 = inr (inr refl)

abbrev Judged : Dcs → List Entry → Command → Decision → Type 0
Judged dcs before command d =
    ((d ≡ GivesRtn) × MeansNone before dcs)
    ⊎ ((page : PageValue) × (d ≡ GivesMcf command (Some page)) × MeansPage (format_of dcs) (coding_of dcs) (last_image before) page)

judged_exactly : (dcs : Dcs) (before : List Entry) (command : Command) (r : Reading) → IsRight (record { octets = last_image before; dcs = dcs }) r → Judged dcs before command (judged command r)
judged_exactly dcs before command None right =
    inl (refl, λ page m. pages_dont_fail (elements_of (format_of dcs).width) (coding_of dcs) (last_image before) page.rows right.0 (is_width (format_of dcs).width) m.1 right.1)
judged_exactly dcs before command (Some page) right = inr (page, refl, right)

pub judges_exactly : JudgesExactly
judges_exactly core start events before command d dcs right a page h =
    by (answered (after_events (rung core start) events).history before command d dcs (all_decided core start events right) a)
  where
    by : Answer before command d dcs ⊎ AnswerAgain before command d → Judged dcs before command d
    by (inl p) =
        let q : on_command p.read before command ≡ judged command p.read = ap (λ (t : Bool). if t then judged command p.read else if is_repeat before command then GivesMcf command None else GivesRtn) h in
        let r : IsRight (record { octets = last_image before; dcs = dcs }) p.read =
        subst (λ (t : Bool). IfAsked (if t then Some (record { octets = last_image before; dcs = dcs }) else None) p.read) h p.right in
        subst (Judged dcs before command) (sym (p.answer ∙ q)) (judged_exactly dcs before command p.read r)
    by (inr p) = absurd (page p.0)

-- A PAGE IS ACCEPTED, or a command answered again, in Page and in Again alone
abbrev IsListening : State → Type 0
IsListening state = ((dcs : Dcs) × (state ≡ Page dcs)) ⊎ (state ≡ Again)

mcf_at_order : (read : Reading) (state : State) (before : List Entry) (order : Order) (command : Command) (page : Option PageValue) → on_order read state before order ≡ GivesMcf command page → IsListening state
mcf_at_order read Idle before order command page h = cc
mcf_at_order read Closing before order command page h = cc
mcf_at_order read Identify before (orders.Train d) command page h = cc
mcf_at_order read Identify before (orders.Judge c) command page h = cc
mcf_at_order read Identify before orders.Disconnect command page h = cc
mcf_at_order read Identify before orders.Nothing command page h = cc
mcf_at_order read Listen before (orders.Train d) command page h = cc
mcf_at_order read Listen before (orders.Judge c) command page h = cc
mcf_at_order read Listen before orders.Disconnect command page h = cc
mcf_at_order read Listen before orders.Nothing command page h = cc
mcf_at_order read (Train dcs) before (orders.Train d) command page h = cc
mcf_at_order read (Train dcs) before (orders.Judge c) command page h = cc
mcf_at_order read (Train dcs) before orders.Disconnect command page h = cc
mcf_at_order read (Train dcs) before orders.Nothing command page h = cc
mcf_at_order read (Page dcs) before order command page h = inl (dcs, refl)
mcf_at_order read Again before order command page h = inr refl

check_gives : (b : Bool) (dcs : Dcs) (command : Command) (page : Option PageValue) → (if b then GivesCfr dcs else GivesFtt) ≡ GivesMcf command page → ⊥
check_gives true dcs command page h = cc
check_gives false dcs command page h = cc

mcf_at : (read : Reading) (state : State) (waits : Bool) (before : List Entry) (piece : pieces.Piece) (command : Command) (page : Option PageValue) → decision read state waits before piece ≡ GivesMcf command page → IsListening state
mcf_at read state true before (pieces.Frame octets) command page h = cc
mcf_at read state false before (pieces.Frame octets) command page h = mcf_at_order read state before (order_of octets) command page h
mcf_at read (Train dcs) waits before (pieces.End whole) command page h = absurd (check_gives _ dcs command page h)
mcf_at read (Page dcs) waits before (pieces.End whole) command page h = inl (dcs, refl)
mcf_at read Again waits before (pieces.End whole) command page h = inr refl
mcf_at read Idle waits before (pieces.End whole) command page h = cc
mcf_at read Identify waits before (pieces.End whole) command page h = cc
mcf_at read Listen waits before (pieces.End whole) command page h = cc
mcf_at read Closing waits before (pieces.End whole) command page h = cc
mcf_at read state waits before (pieces.Start k) command page h = cc
mcf_at read state waits before (pieces.Octets o) command page h = cc
mcf_at read state waits before pieces.Gap command page h = cc

-- so after an MCF there was a CFR
abbrev HasDcs : List Entry → Type 0
HasDcs before = (dcs : Dcs) × (answered_dcs before ≡ Some dcs)

dcs_listens : (e : Entry) (before : List Entry) → (i : IsDecided e before) → ((c : Command) → repeated before ≡ Some c → HasDcs before) → IsListening i.state → HasDcs before
dcs_listens e before i again (inl p) = (p.0, subst (λ (x : State). KnowsDcs x before) p.1 i.knows)
dcs_listens e before i again (inr p) = again Eom (subst (λ (x : State). KnowsDcs x before) p i.knows)

dcs_kept : (e : Entry) (before : List Entry) (d : Decision) → dcs_with d (trained_dcs before) (answered_dcs before) ≡ answered_dcs before → e.decision ≡ d → HasDcs before → HasDcs (e ∷ before)
dcs_kept e before d k q p = (p.0, ap (λ (x : Decision). dcs_with x (trained_dcs before) (answered_dcs before)) q ∙ k ∙ p.1)

dcs_after : (e : Entry) (before : List Entry) (command : Command) → (i : IsDecided e before) → ((c : Command) → repeated before ≡ Some c → HasDcs before) →
    (d : Decision) → e.decision ≡ d → repeat_with e.decision (repeated before) ≡ Some command → HasDcs (e ∷ before)
dcs_after e before command i again (GivesMcf c page) q r =
    dcs_kept e before (GivesMcf c page) refl q (dcs_listens e before i again (mcf_at i.read i.state i.waits before e.piece c page (sym i.decided ∙ q)))
dcs_after e before command i again (GivesCfr dcs) q r = let n : None ≡ Some command = sym (ap (λ (x : Decision). repeat_with x (repeated before)) q) ∙ r in cc
dcs_after e before command i again PassesOver q r = dcs_kept e before PassesOver refl q (again command (sym (ap (λ (x : Decision). repeat_with x (repeated before)) q) ∙ r))
dcs_after e before command i again (Trains dcs) q r = dcs_kept e before (Trains dcs) refl q (again command (sym (ap (λ (x : Decision). repeat_with x (repeated before)) q) ∙ r))
dcs_after e before command i again HangsUp q r = dcs_kept e before HangsUp refl q (again command (sym (ap (λ (x : Decision). repeat_with x (repeated before)) q) ∙ r))
dcs_after e before command i again GivesFtt q r = dcs_kept e before GivesFtt refl q (again command (sym (ap (λ (x : Decision). repeat_with x (repeated before)) q) ∙ r))
dcs_after e before command i again GivesRtn q r = dcs_kept e before GivesRtn refl q (again command (sym (ap (λ (x : Decision). repeat_with x (repeated before)) q) ∙ r))

has_dcs : (before : List Entry) (command : Command) → AllDecided before → repeated before ≡ Some command → HasDcs before
unfolding AllDecided
has_dcs [] command all h = cc
has_dcs (e ∷ before) command all h =
    let again : (c : Command) → repeated before ≡ Some c → HasDcs before = λ c r. has_dcs before c all.1 r in
    dcs_after e before command all.0 again e.decision refl h

decided_before : (later : List Entry) (e : Entry) (before : List Entry) → AllDecided (later ++ e ∷ before) → AllDecided before
unfolding AllDecided
decided_before [] e before a = a.1
decided_before (x ∷ later) e before a = decided_before later e before a.1

pub judges_each_command : JudgesEachCommand
judges_each_command core start events later before octets d command right split order n =
    let history : List Entry = (after_events (rung core start) events).history in
    let all : AllDecided history = all_decided core start events right in
    let e : Entry = record { piece = pieces.Frame octets; decision = d } in
    let i : IsDecided e before = decided_at later e before (subst AllDecided split all) in
    let h : HasDcs before = under i (decided_before later e before (subst AllDecided split all)) (by_frame i.read i.state i.waits before octets command order (λ q. n (i.decided ∙ q)) i.right) in
    let a : IsAnswered history before command d h.0 = record { later = later; octets = octets; split = split; order = order; not_passed = n; dcs_is = h.1 } in
    record {
      dcs = h.0;
      answered = a;
      refuses = λ some none. refuses_no_page core start events before command d h.0 right a some none;
      exact = λ page one. judges_exactly core start events before command d h.0 right a page one;
    }
  where
    under : (i : IsDecided (record { piece = pieces.Frame octets; decision = d }) before) → AllDecided before → InEither i.read i.state before command (decision i.read i.state i.waits before (pieces.Frame octets)) → HasDcs before
    under i all (inl p) = (p.dcs, subst (λ (x : State). KnowsDcs x before) p.is_page i.knows)
    under i all (inr p) = has_dcs before Eom all (subst (λ (x : State). KnowsDcs x before) p.0 i.knows)
