-- What a frame is answered by is what the table decides.
use Rattle.std.proofs.Common.{◌≡◌, ℕ, Bool, true, false, List, [], ◌∷◌, Option, Some, None, refl, sym, ◌∙◌, ap, subst, if◌then◌else◌}
use Rattle.std.specs.Option.{is_some}
use Rattle.fax_frames.specs.declared.dcs.Dcs.{Dcs}
use Rattle.fax_frames.specs.Capabilities.{format_of, coding_of}
use Rattle.fax_runcodes.specs.Widths.{elements_of}
use Rattle.fax_pagestore.specs.declared.fault.PageFault.{PageFault}
use Rattle.fax_pagestore.specs.PageTexts.{MeansPage}
use Rattle.fax_pagestore.specs.PageFaults.{FailsPage}
use Rattle.fax_pagestore.specs.Pages.{PageValue}
use Rattle.fax_pagestore.specs.Readers.{ReaderValue}
use Rattle.fax_ifp.specs.Pieces.{Frame}
use Rattle.fax_answer.specs.declared.command.Command.{Command}
use Rattle.fax_answer.specs.declared.command.Order.{Order}
use Rattle.fax_answer.specs.declared.command.Order.TheVariants.{Judge}
use Rattle.fax_answer.specs.declared.decision.Decision as code
use Rattle.fax_answer.specs.declared.decision.Decision.TheVariants as verdicts
use Rattle.fax_answer.specs.declared.image.Accepted.{Accepted}
use Rattle.fax_answer.specs.declared.procedure.Procedure.{Procedure}
use Rattle.fax_answer.specs.declared.state.State.{State}
use Rattle.fax_answer.specs.declared.state.State.TheVariants.{Page, Again}
use Rattle.fax_answer.specs.Orders.{order_of}
use Rattle.fax_answer.specs.History.{Entry, Decision, PassesOver, Trains, HangsUp, GivesCfr, GivesFtt, GivesMcf, GivesRtn, is_answer, since_answer, last_image}
use Rattle.fax_answer.specs.Table.{Reading, is_one_image, is_repeat, judged, on_command, on_command_again, on_order, order_asks, decision, state_after}
use Rattle.fax_answer.specs.Replies.{ConfirmedPage, WaitingPacket, is_last, is_waiting}
use Rattle.fax_answer.specs.Calls.{AnswererCore, decided}
use Rattle.fax_answer.specs.Confirmation.{IfAsked, IsRight}
use Rattle.fax_answer.specs.Rep.{verdict_of}
use Rattle.fax_answer.specs.Images.{ImageValue, Confirms, MeansAt}
use Rattle.fax_answer.specs.Following.{Follows, CanDecide, confirmed_after}
use Rattle.fax_answer.specs.declared.answer.Answer.{Answer}
use Rattle.fax_answer.specs.declared.refusal.Refusal.{Refusal}
use Rattle.fax_answer.specs.declared.refusal.Refusal.TheVariants.{Fault, NotWhole, GapAfter, SeveralImages, NoImage, Untrained}
use Rattle.fax_answer.specs.Refusals.{HasReason, IsReasonInPage, IsWhy}
use Rattle.fax_answer.specs.Reached.{AtRtn, IsFaultOf, Rep, Holds, Stands, Takes, Answers, AnswersAgain, AnswersCommand, AnswersImage}
use Rattle.fax_answer.specs.Watching.{Telling}
use Rattle.fax_answer.proofs.Held.{IsNoCfr, holds_frame, frame_no_cfr, confirms_none}
use Rattle.fax_answer.proofs.HearingLemmas.{Heard, told_as, can_decide, taken, confirms_now, follows_now, reason_now}
use Rattle.fax_answer.proofs.Refused.{at_rtn, reason_after, reason_none, reason_over}

-- one image: it is read
abbrev chosen : Bool → Bool → Command → Reading → Decision
chosen b c command read = if b then judged command read else if c then GivesMcf command None else GivesRtn

fault_why : (dcs : Dcs) (history : List Entry) (told : Option Refusal) → is_one_image (since_answer history) ≡ true → IsFaultOf (last_image history) dcs told → IsWhy (Page dcs) history told
fault_why dcs history None one h = h
fault_why dcs history (Some (Fault fault)) one h = (one, h)
fault_why dcs history (Some NotWhole) one h = absurd h
fault_why dcs history (Some GapAfter) one h = absurd h
fault_why dcs history (Some SeveralImages) one h = absurd h
fault_why dcs history (Some NoImage) one h = absurd h
fault_why dcs history (Some Untrained) one h = absurd h

pub by_image : (dcs : Dcs) (command : Command) (history : List Entry) (octets : List ℕ) (readers : List ReaderValue) (answer : Answer) → is_one_image (since_answer history) ≡ true → octets ≡ last_image history
    → AnswersImage octets dcs command readers answer → AnswersCommand dcs command history readers answer
by_image dcs command history octets readers answer one same a =
    let d : on_command a.read history command ≡ judged command a.read = ap (λ (b : Bool). chosen b (is_repeat history command) command a.read) one in
    record {
      read = a.read;
      right = subst (λ (b : Bool). IfAsked (if b then Some (record { octets = last_image history; dcs = dcs }) else None) a.read) (sym one)
          (subst (λ (os : List ℕ). IsRight (record { octets = os; dcs = dcs }) a.read) same a.right);
      verdict_is = ap verdict_of d ∙ a.verdict_is;
      page_is = subst (λ (x : Decision). Confirms answer.found readers None (confirmed_after x None)) (sym d) a.page_is;
      why = subst (λ (x : Decision). AtRtn x (IsWhy (Page dcs) history answer.refused)) (sym d)
          (at_rtn (judged command a.read) (IsFaultOf octets dcs answer.refused) (IsWhy (Page dcs) history answer.refused)
          (λ h. fault_why dcs history answer.refused one (subst (λ (os : List ℕ). IsFaultOf os dcs answer.refused) same h)) a.why);
    }

-- no one image: a command that repeats none is refused
pub refused_in_page : (dcs : Dcs) (command : Command) (history : List Entry) (readers : List ReaderValue) (refusal : Refusal) (answer : Answer) → is_one_image (since_answer history) ≡ false → is_repeat history command ≡ false
    → IsReasonInPage dcs history refusal → answer ≡ record { decision = verdicts.Rtn; found = None; refused = Some refusal } → AnswersCommand dcs command history readers answer
refused_in_page dcs command history readers refusal answer off once reason is =
    let d : on_command None history command ≡ GivesRtn = ap (λ (b : Bool). chosen b (is_repeat history command) command None) off ∙ ap (λ (b : Bool). chosen false b command None) once in
    subst (λ (x : Answer). AnswersCommand dcs command history readers x) (sym is)
    record {
      read = None;
      right = subst (λ (b : Bool). IfAsked (if b then Some (record { octets = last_image history; dcs = dcs }) else None) None) (sym off) tt;
      verdict_is = ap verdict_of d;
      page_is = subst (λ (x : Decision). Confirms None readers None (confirmed_after x None)) (sym d) refl;
      why = subst (λ (x : Decision). AtRtn x (IsWhy (Page dcs) history (Some refusal))) (sym d) reason;
    }

-- where a command is answered in Page, and in Again
pub in_page : (octets : List ℕ) (core : AnswererCore) (dcs : Dcs) (command : Command) (readers : List ReaderValue) (answer : Answer) → core.state ≡ Page dcs → order_of octets ≡ Judge command
    → AnswersCommand dcs command core.history readers answer → Answers octets core readers answer
in_page octets core dcs command readers answer e o a =
    let h : List Entry = core.history in
    let d : on_order a.read core.state h (order_of octets) ≡ on_command a.read h command =
    ap (λ (x : State). on_order a.read x h (order_of octets)) e ∙ ap (λ (x : Order). on_order a.read (Page dcs) h x) o in
    record {
      read = a.read;
      right = subst (λ (x : State). IfAsked (order_asks x h (order_of octets)) a.read) (sym e) (subst (λ (x : Order). IfAsked (order_asks (Page dcs) h x) a.read) (sym o) a.right);
      verdict_is = ap verdict_of d ∙ a.verdict_is;
      page_is = subst (λ (x : Decision). Confirms answer.found readers None (confirmed_after x None)) (sym d) a.page_is;
      why = subst (λ (x : State). AtRtn (on_order a.read core.state h (order_of octets)) (IsWhy x h answer.refused)) (sym e)
          (subst (λ (x : Decision). AtRtn x (IsWhy (Page dcs) h answer.refused)) (sym d) a.why);
    }

pub in_again : (octets : List ℕ) (core : AnswererCore) (command : Command) (readers : List ReaderValue) (answer : Answer) → core.state ≡ Again → order_of octets ≡ Judge command
    → AnswersAgain command core.history readers answer → Answers octets core readers answer
in_again octets core command readers answer e o a =
    let h : List Entry = core.history in
    let d : on_order None core.state h (order_of octets) ≡ on_command_again h command =
    ap (λ (x : State). on_order None x h (order_of octets)) e ∙ ap (λ (x : Order). on_order None Again h x) o in
    record {
      read = None;
      right = subst (λ (x : State). IfAsked (order_asks x h (order_of octets)) None) (sym e) tt;
      verdict_is = ap verdict_of d ∙ a.verdict_is;
      page_is = subst (λ (x : Decision). Confirms answer.found readers None (confirmed_after x None)) (sym d) a.page_is;
      why = subst (λ (x : State). AtRtn (on_order None core.state h (order_of octets)) (IsWhy x h answer.refused)) (sym e)
          (subst (λ (x : Decision). AtRtn x (IsWhy Again h answer.refused)) (sym d) a.why);
    }

-- a frame that is passed over, since packets wait
pub frame_waits : (Tells : List Telling → Type 0) (core : AnswererCore) (octets : List ℕ) (now : ℕ) (old new : Rep) (procedure : Procedure) (s : Stands core old) → is_waiting core.waiting ≡ true
    → Follows (decided core (Frame octets) PassesOver now) s.confirmed procedure → Heard old new procedure old.image old.refused → Tells (told_as core (Frame octets) verdicts.PassOver) → Takes Tells (Frame octets) now core new
frame_waits Tells core octets now old new procedure s w f n t =
    let d : Decision = decision None core.state (is_waiting core.waiting) core.history (Frame octets) in
    let e : d ≡ PassesOver = ap (λ (b : Bool). if b then PassesOver else on_order None core.state core.history (order_of octets)) w in
    taken Tells core (Frame octets) now None new s.confirmed
    (subst (λ (b : Bool). IfAsked (if b then None else order_asks core.state core.history (order_of octets)) None) (sym w) tt)
    (confirms_now old.image old new s.confirmed n.confirmed n.image_is s.confirms)
    (subst (λ (x : Decision). Follows (decided core (Frame octets) x now) s.confirmed new.procedure) (sym e) (follows_now (decided core (Frame octets) PassesOver now) s.confirmed procedure new n.procedure_is f))
    (subst (λ (x : Decision). HasReason (decided core (Frame octets) x now) new.refused) (sym e)
    (reason_now (decided core (Frame octets) PassesOver now) old.refused new n.refused (reason_over core (Frame octets) now old.refused s.reason)))
    (holds_frame core.state core.history old.image new.image octets d (frame_no_cfr None core.state (is_waiting core.waiting) core.history octets)
    (ap (λ (i : ImageValue). i.readers) n.image_is) (λ q. ap (λ (i : ImageValue). i.accepted) n.image_is) (ap (λ (i : ImageValue). i.run) n.image_is) (ap (λ (i : ImageValue). i.longest) n.image_is) s.holds)
    (subst (λ (v : code.Decision). Tells (told_as core (Frame octets) v)) (sym (ap verdict_of e)) t)

-- a frame that is answered
unanswered_none : (d : Decision) → is_answer d ≡ false → confirmed_after d None ≡ None
unanswered_none PassesOver e = refl
unanswered_none (Trains dcs) e = refl
unanswered_none HangsUp e = refl
unanswered_none (GivesCfr dcs) e = refl
unanswered_none GivesFtt e = refl
unanswered_none (GivesMcf command page) e = cc
unanswered_none GivesRtn e = refl

found_or : (found accepted : Option Accepted) → accepted ≡ None → (if is_some found then found else accepted) ≡ found
found_or None accepted e = e
found_or (Some a) accepted e = refl

abbrev pub accepted_image : Option Accepted → ImageValue → ImageValue
accepted_image found i = record { readers = i.readers; accepted = if is_some found then found else i.accepted; run = i.run; longest = i.longest }

none_waits : (ws : List WaitingPacket) → is_waiting ws ≡ false → ws ≡ []
none_waits [] e = refl
none_waits (w ∷ ws) e = cc

pub frame_free : (Tells : List Telling → Type 0) (core : AnswererCore) (octets : List ℕ) (now : ℕ) (old new : Rep) (procedure : Procedure) (answer : Answer) (s : Stands core old) → is_waiting core.waiting ≡ false → s.confirmed ≡ None
    → Answers octets core old.image.readers answer
    → ((d : Decision) → verdict_of d ≡ answer.decision → CanDecide core d → Follows (decided core (Frame octets) d now) (confirmed_after d s.confirmed) procedure)
    → Heard old new procedure (accepted_image answer.found old.image) answer.refused → Tells (told_as core (Frame octets) answer.decision) → Takes Tells (Frame octets) now core new
frame_free Tells core octets now old new procedure answer s w none a noted n t =
    let found : Option Accepted = answer.found in
    let read : Reading = a.read in
    let d : Decision = on_order read core.state core.history (order_of octets) in
    let decides : Decision = decision read core.state (is_waiting core.waiting) core.history (Frame octets) in
    let e : decides ≡ d = ap (λ (b : Bool). if b then PassesOver else on_order read core.state core.history (order_of octets)) w in
    let can : CanDecide core d = subst (CanDecide core) e (can_decide read core (Frame octets) s.follows.rests) in
    let c : Option ConfirmedPage = confirmed_after d None in
    let f : Follows (decided core (Frame octets) d now) c procedure =
    subst (λ (x : Option ConfirmedPage). Follows (decided core (Frame octets) d now) (confirmed_after d x) procedure) none (noted d a.verdict_is can) in
    let free = confirms_none old.image.accepted old.image.readers old.confirmed (subst (Confirms old.image.accepted old.image.readers old.confirmed) none s.confirms) in
    let is : (accepted_image found old.image).accepted ≡ found = found_or found old.image.accepted free.0 in
    let k : Confirms (accepted_image found old.image).accepted old.image.readers old.confirmed c =
    subst (λ (x : Option Accepted). Confirms x old.image.readers old.confirmed c) (sym is) (subst (λ (x : Option ConfirmedPage). Confirms found old.image.readers x c) (sym free.1) a.page_is) in
    let quiet : is_answer d ≡ false → found ≡ None = λ q. (confirms_none found old.image.readers None (subst (Confirms found old.image.readers None) (unanswered_none d q) a.page_is)).0 in
    let held : Holds (state_after core.state d) (record { piece = Frame octets; decision = d } ∷ core.history) new.image =
    holds_frame core.state core.history old.image new.image octets d (subst IsNoCfr e (frame_no_cfr read core.state (is_waiting core.waiting) core.history octets))
    (ap (λ (i : ImageValue). i.readers) n.image_is) (λ q. ap (λ (i : ImageValue). i.accepted) n.image_is ∙ is ∙ quiet q ∙ sym free.0) (ap (λ (i : ImageValue). i.run) n.image_is) (ap (λ (i : ImageValue). i.longest) n.image_is) s.holds in
    taken Tells core (Frame octets) now read new c
    (subst (λ (b : Bool). IfAsked (if b then None else order_asks core.state core.history (order_of octets)) read) (sym w) a.right)
    (confirms_now (accepted_image found old.image) old new c n.confirmed n.image_is k)
    (subst (λ (x : Decision). Follows (decided core (Frame octets) x now) c new.procedure) (sym e) (follows_now (decided core (Frame octets) d now) c procedure new n.procedure_is f))
    (subst (λ (x : Decision). HasReason (decided core (Frame octets) x now) new.refused) (sym e)
    (reason_now (decided core (Frame octets) d now) answer.refused new n.refused (reason_after core (Frame octets) d now answer.refused can a.why (reason_none core answer.refused (none_waits core.waiting w)))))
    (subst (λ (x : Decision). Holds (state_after core.state x) (record { piece = Frame octets; decision = x } ∷ core.history) new.image) (sym e) held)
    (subst (λ (v : code.Decision). Tells (told_as core (Frame octets) v)) (sym (ap verdict_of e ∙ a.verdict_is)) t)

-- the image that is read
pub accepts : (readers : List ReaderValue) (dcs : Dcs) (octets : List ℕ) (command : Command) (place : ℕ) (closes : Bool) (answer : Answer) → closes ≡ is_last command
    → ((page : PageValue) × MeansAt readers place page × MeansPage (format_of dcs) (coding_of dcs) octets page)
    → answer ≡ record { decision = verdicts.Mcf command; found = Some (record { place = place; closes = closes }); refused = None }
    → AnswersImage octets dcs command readers answer
accepts readers dcs octets command place closes answer e m is =
    subst (λ (x : Answer). AnswersImage octets dcs command readers x) (sym is)
    record { read = Some m.0; right = m.2; verdict_is = refl; page_is = (m.0, m.1, ap (λ (b : Bool). let p : ConfirmedPage = record { page = m.0; closes = b } in Some p) (sym e)); why = tt }

pub refuses : (readers : List ReaderValue) (dcs : Dcs) (octets : List ℕ) (command : Command) (fault : PageFault) (answer : Answer)
    → FailsPage (elements_of (format_of dcs).width) (coding_of dcs) octets fault
    → answer ≡ record { decision = verdicts.Rtn; found = None; refused = Some (Fault fault) }
    → AnswersImage octets dcs command readers answer
refuses readers dcs octets command fault answer m is =
    subst (λ (x : Answer). AnswersImage octets dcs command readers x) (sym is)
    record { read = None; right = (fault, m); verdict_is = refl; page_is = refl; why = m }
