-- How far a call is, step by step: what is carried from stage to stage.
use Rattle.std.proofs.Common.{◌≡◌, ℕ, ◌<◌, ◌==◌, ◌&&◌, not, Bool, true, nat_le, nat_lt, if◌then◌else◌, Option, None, Some}
use Rattle.fax_dialogs.specs.declared.session.Next.{Next}
use Rattle.fax_dialogs.specs.declared.session.Next.TheVariants.{Stay, Again}
use Rattle.fax_dialogs.specs.declared.session.Session.{Session}
use Rattle.fax_dialogs.specs.declared.session.Session.TheVariants.{Confirmed, Accepted, Inviting, Invited, Ending, Ended}
use Rattle.fax_dialogs.specs.declared.session_action.SessionAction.{SessionAction}
use Rattle.fax_dialogs.specs.declared.session_action.SessionAction.TheVariants.{Nothing, SendInvite, SendAnswer, SendAgain, TellInvite, Refuse, Acknowledge, TellAndAcknowledge, TellRefused, SendBye, TellAndSendBye, SendByeAndRefuse, AnswerBye, AnswerByeAndRefuse}
use Rattle.fax_dialogs.specs.declared.session_event.SessionEvent.{SessionEvent}
use Rattle.fax_dialogs.specs.declared.session_event.SessionEvent.TheVariants.{TimePassed, Reinvite, Answer, HangUp, InviteCame, AckCame, ByeCame, Answered, AnsweredAgain, ByeAnswered}
use Rattle.fax_dialogs.specs.Sessions.{accepted, ending, row}
use Rattle.fax_transactions.specs.Spans.{later, timeout}
use Rattle.fax_transactions.proofs.RunProofs.{chosen, le_false}
use Rattle.fax_switch.specs.declared.action.LineAction.TheVariants.{NoWord}
use Rattle.fax_switch.specs.declared.action.SipAction.TheVariants.{Silence, SendOffer, Reject}
use Rattle.fax_switch.specs.declared.call.Call.{Call}
use Rattle.fax_switch.specs.declared.call.Entry.{Entry}
use Rattle.fax_switch.specs.declared.call.Stage.{Stage}
use Rattle.fax_switch.specs.declared.call.Stage.TheVariants.{Asking, Dropped, Placing, Cancelling, Talking, Over}
use Rattle.fax_switch.specs.declared.event.CallEvent.{CallEvent}
use Rattle.fax_switch.specs.declared.event.CallEvent.TheVariants.{InviteAnswered, AnswerRepeated, Reinvited, Acknowledged, ByeReceived, ByeDone, CancelReceived, RefreshDue, Expired}
use Rattle.fax_switch.specs.declared.event.Event.{Event}
use Rattle.fax_switch.specs.declared.event.Event.TheVariants.{Elapsed, Came, Rung, NotRung, Dialled, CallOver, JobOver, Within}
use Rattle.fax_switch.specs.declared.media.Description.{Description}
use Rattle.fax_switch.specs.declared.media.Description.TheVariants.{FaxAt, AudioAt, NothingSaid, Unusable}
use Rattle.fax_switch.specs.declared.media.Media.{Media}
use Rattle.fax_switch.specs.declared.media.Media.TheVariants.{AudioOnly, FaxAgreed, FaxOffered}
use Rattle.fax_switch.specs.declared.media.Offer.{Offer}
use Rattle.fax_switch.specs.declared.media.Offer.TheVariants.{Fax, Audio}
use Rattle.fax_switch.specs.declared.place.Place.{Place}
use Rattle.fax_switch.specs.Calls.{acknowledged_by, agreed_by, answer_in_ack, answer_to, answered_by, call_row, cancelled, connected, entry_of, freed, is_confirmed, is_of_media, media_by, not_rung, other_offer, ours_by, passed, placed, plain, refuse, refused_by, reinvited_by, released, rung, stage_of, taken, talked, within, without_ours}
use Rattle.fax_switch.specs.Places.{called_place, calling_place, holds, holds_leg}

-- of a session that is not over
abbrev pub Lives : (Session → Type 0) → Session → Type 0
Lives S (Confirmed reinvite) = S (Confirmed reinvite)
Lives S (Accepted again pause until next) = S (Accepted again pause until next)
Lives S Inviting = S Inviting
Lives S (Invited reinvite) = S (Invited reinvite)
Lives S (Ending until) = S (Ending until)
Lives S Ended = ⊥

-- what holds before there is a dialog, of a cancelled INVITE, and of a session
abbrev pub StageIs : Type 0 → (ℕ → Type 0) → (Session → Type 0) → Stage → Type 0
StageIs A C S (Asking said until) = A
StageIs A C S (Dropped until) = A
StageIs A C S (Placing offer again) = A
StageIs A C S (Cancelling until) = C until
StageIs A C S (Talking state media) = Lives S state
StageIs A C S Over = Unit {0}

-- what each step of a call leads to, from A, C and S to B, D and T
pub record Steps (now : ℕ) (A : Type 0) (C : ℕ → Type 0) (S : Session → Type 0) (B : Type 0) (D : ℕ → Type 0) (T : Session → Type 0) : Type 0 where
  pub kept : A → B
  pub cancels : A → D (later now timeout)
  pub accepts : A → (next : Next) → T (accepted now next)
  pub confirms : A → (reinvite : Option ℕ) → T (Confirmed reinvite)
  pub refuses : A → T (ending now)
  pub waits : (until : ℕ) → C until → now < until → D until
  pub answers : (until : ℕ) → C until → now < until → T (ending now)
  pub moves : (state : Session) (event : SessionEvent) → S state → T (row state now event).0
  pub again : (state : Session) (event : SessionEvent) → T state → T (row state now event).0
  pub hung_up : (state : Session) → T state → is_confirmed state ≡ true → T (ending now)
  pub drops : (reinvite : Option ℕ) → T (Invited reinvite) → T (Invited None)

pub alive : (S : Session → Type 0) (state : Session) → Lives S state → S state
alive S (Confirmed reinvite) lives = lives
alive S (Accepted again pause until next) lives = lives
alive S Inviting lives = lives
alive S (Invited reinvite) lives = lives
alive S (Ending until) lives = lives
alive S Ended lives = absurd lives

pub stage_has : (B : Type 0) (D : ℕ → Type 0) (T : Session → Type 0) (state : Session) (media : Media) → T state → StageIs B D T (stage_of state media)
stage_has B D T (Confirmed reinvite) media t = t
stage_has B D T (Accepted again pause until next) media t = t
stage_has B D T Inviting media t = t
stage_has B D T (Invited reinvite) media t = t
stage_has B D T (Ending until) media t = t
stage_has B D T Ended media t = tt

-- the stage of an entry
abbrev pub EntryIs : Type 0 → (ℕ → Type 0) → (Session → Type 0) → Entry → Type 0
EntryIs B D T entry = StageIs B D T entry.call.stage

pub plain_by : (B : Type 0) (D : ℕ → Type 0) (T : Session → Type 0) (call : Call) (media : Media) (state : Session) (action : SessionAction) → T state → EntryIs B D T (plain call media state action)
plain_by B D T call media state Nothing t = stage_has B D T state media t
plain_by B D T call media state SendInvite t = stage_has B D T state media t
plain_by B D T call media state SendAnswer t = stage_has B D T state media t
plain_by B D T call media state SendAgain t = stage_has B D T state media t
plain_by B D T call media state TellInvite t = stage_has B D T state media t
plain_by B D T call media state (Refuse status) t = stage_has B D T state media t
plain_by B D T call media state Acknowledge t = stage_has B D T state media t
plain_by B D T call media state TellAndAcknowledge t = stage_has B D T state media t
plain_by B D T call media state (TellRefused status) t = stage_has B D T state media t
plain_by B D T call media state SendBye t = stage_has B D T state media t
plain_by B D T call media state TellAndSendBye t = stage_has B D T state media t
plain_by B D T call media state SendByeAndRefuse t = stage_has B D T state media t
plain_by B D T call media state AnswerBye t = stage_has B D T state media t
plain_by B D T call media state AnswerByeAndRefuse t = stage_has B D T state media t

agreed_leads : (B : Type 0) (D : ℕ → Type 0) (T : Session → Type 0) (call : Call) (media : Media) (now : ℕ) (state : Session) (said : Description) → T state → T (ending now)
    → EntryIs B D T (agreed_by call media now state said)
agreed_leads B D T call media now state (FaxAt end) t e = stage_has B D T state FaxAgreed t
agreed_leads B D T call media now state other t e = e

refused_leads : (B : Type 0) (D : ℕ → Type 0) (T : Session → Type 0) (call : Call) (media : Media) (now : ℕ) (state : Session) → T state → T (ending now)
    → EntryIs B D T (refused_by call media now state)
refused_leads B D T call FaxAgreed now state t e = stage_has B D T state FaxAgreed t
refused_leads B D T call AudioOnly now state t e = e
refused_leads B D T call FaxOffered now state t e = e

answered_leads : (B : Type 0) (D : ℕ → Type 0) (T : Session → Type 0) (call : Call) (media : Media) (now : ℕ) (said : Description) (state : Session) (action : SessionAction)
    → T state → (is_confirmed state ≡ true → T (ending now)) → EntryIs B D T (answered_by call media now said state action)
answered_leads B D T call media now said state TellAndAcknowledge t e =
    chosen (EntryIs B D T) (is_confirmed state) (agreed_by call media now state said) (plain call media state TellAndAcknowledge)
    (λ is. agreed_leads B D T call media now state said t (e is)) (λ _. plain_by B D T call media state TellAndAcknowledge t)
answered_leads B D T call media now said state (TellRefused status) t e =
    chosen (EntryIs B D T) (is_confirmed state) (refused_by call media now state) (plain call media state (TellRefused status))
    (λ is. refused_leads B D T call media now state t (e is)) (λ _. plain_by B D T call media state (TellRefused status) t)
answered_leads B D T call media now said state other t e = plain_by B D T call media state other t

ack_leads : (B : Type 0) (D : ℕ → Type 0) (T : Session → Type 0) (call : Call) (media : Media) (now : ℕ) (state : Session) (said : Description) → T state → T (ending now)
    → EntryIs B D T (answer_in_ack call media now state said)
ack_leads B D T call AudioOnly now state said t e = stage_has B D T state AudioOnly t
ack_leads B D T call FaxAgreed now state (FaxAt end) t e = stage_has B D T state FaxAgreed t
ack_leads B D T call FaxOffered now state (FaxAt end) t e = stage_has B D T state FaxAgreed t
ack_leads B D T call FaxAgreed now state other t e = stage_has B D T state FaxAgreed t
ack_leads B D T call FaxOffered now state other t e = e

acknowledged_leads : (B : Type 0) (D : ℕ → Type 0) (T : Session → Type 0) (call : Call) (media : Media) (now : ℕ) (said : Description) (state : Session) (action : SessionAction)
    → T state → (is_confirmed state ≡ true → T (ending now)) → EntryIs B D T (acknowledged_by call media now said state action)
acknowledged_leads B D T call media now said state Nothing t e =
    chosen (EntryIs B D T) (is_confirmed state) (answer_in_ack call media now state said) (plain call media state Nothing)
    (λ is. ack_leads B D T call media now state said t (e is)) (λ _. plain_by B D T call media state Nothing t)
acknowledged_leads B D T call media now said state other t e = plain_by B D T call media state other t

dropped : (T : Session → Type 0) → ((reinvite : Option ℕ) → T (Invited reinvite) → T (Invited None)) → (state : Session) → T state → T (without_ours state)
dropped T drops (Confirmed reinvite) t = t
dropped T drops (Accepted again pause until next) t = t
dropped T drops Inviting t = t
dropped T drops (Invited reinvite) t = drops reinvite t
dropped T drops (Ending until) t = t
dropped T drops Ended t = t

ours_lead : (T : Session → Type 0) → ((reinvite : Option ℕ) → T (Invited reinvite) → T (Invited None)) → (said : Description) (state : Session) → T state → T (ours_by said state)
ours_lead T drops (FaxAt end) state t = dropped T drops state t
ours_lead T drops NothingSaid state t = dropped T drops state t
ours_lead T drops (AudioAt address) state t = t
ours_lead T drops Unusable state t = t

reinvited_leads : (B : Type 0) (D : ℕ → Type 0) (T : Session → Type 0) (call : Call) (media : Media) (now : ℕ) (said : Description) (state : Session) (action : SessionAction)
    → T state → T (ours_by said state) → ((before : Session) (event : SessionEvent) → T before → T (row before now event).0)
    → EntryIs B D T (reinvited_by call media now said state action)
reinvited_leads B D T call media now said state TellInvite t ours next =
    stage_has B D T (row (ours_by said state) now (Answer (answer_to media said))).0 (media_by media said) (next (ours_by said state) (Answer (answer_to media said)) ours)
reinvited_leads B D T call media now said state other t ours next = plain_by B D T call media state other t

pub talked_by :
    (now : ℕ) (A : Type 0) (C : ℕ → Type 0) (S : Session → Type 0) (B : Type 0) (D : ℕ → Type 0) (T : Session → Type 0) → Steps now A C S B D T
    → (call : Call) (state : Session) (media : Media) (event : CallEvent) → S state → EntryIs B D T (talked call state media now event)
talked_by now A C S B D T steps call state media (InviteAnswered status pause said) s =
    let t : T (row state now (Answered status pause)).0 = steps.moves state (Answered status pause) s in
    answered_leads B D T call media now said (row state now (Answered status pause)).0 (row state now (Answered status pause)).1 t
    (λ is. steps.hung_up (row state now (Answered status pause)).0 t is)
talked_by now A C S B D T steps call state media AnswerRepeated s =
    plain_by B D T call media (row state now AnsweredAgain).0 (row state now AnsweredAgain).1 (steps.moves state AnsweredAgain s)
talked_by now A C S B D T steps call state media (Reinvited said) s =
    let t : T (row state now InviteCame).0 = steps.moves state InviteCame s in
    reinvited_leads B D T call media now said (row state now InviteCame).0 (row state now InviteCame).1 t (ours_lead T steps.drops said (row state now InviteCame).0 t)
    (λ before event has. steps.again before event has)
talked_by now A C S B D T steps call state media (Acknowledged said) s =
    let t : T (row state now AckCame).0 = steps.moves state AckCame s in
    acknowledged_leads B D T call media now said (row state now AckCame).0 (row state now AckCame).1 t (λ is. steps.hung_up (row state now AckCame).0 t is)
talked_by now A C S B D T steps call state media ByeReceived s = plain_by B D T call media (row state now ByeCame).0 (row state now ByeCame).1 (steps.moves state ByeCame s)
talked_by now A C S B D T steps call state media ByeDone s = plain_by B D T call media (row state now ByeAnswered).0 (row state now ByeAnswered).1 (steps.moves state ByeAnswered s)
talked_by now A C S B D T steps call state media CancelReceived s = plain_by B D T call media (row state now TimePassed).0 (row state now TimePassed).1 (steps.moves state TimePassed s)
talked_by now A C S B D T steps call state media RefreshDue s = plain_by B D T call media (row state now Reinvite).0 (row state now Reinvite).1 (steps.moves state Reinvite s)
talked_by now A C S B D T steps call state media Expired s = plain_by B D T call media (row state now HangUp).0 (row state now HangUp).1 (steps.moves state HangUp s)

connected_by :
    (now : ℕ) (A : Type 0) (C : ℕ → Type 0) (S : Session → Type 0) (B : Type 0) (D : ℕ → Type 0) (T : Session → Type 0) → Steps now A C S B D T
    → (call : Call) (offer : Offer) (said : Description) → A → EntryIs B D T (connected call offer now said)
connected_by now A C S B D T steps call offer (FaxAt end) a = steps.confirms a None
connected_by now A C S B D T steps call Audio (AudioAt address) a = steps.confirms a (Some (later now 4000))
connected_by now A C S B D T steps call Fax (AudioAt address) a = steps.refuses a
connected_by now A C S B D T steps call offer NothingSaid a = steps.refuses a
connected_by now A C S B D T steps call offer Unusable a = steps.refuses a

placed_by :
    (now : ℕ) (A : Type 0) (C : ℕ → Type 0) (S : Session → Type 0) (B : Type 0) (D : ℕ → Type 0) (T : Session → Type 0) → Steps now A C S B D T
    → (call : Call) (offer : Offer) (second : Bool) (event : CallEvent) → A → EntryIs B D T (placed call offer second now event)
placed_by now A C S B D T steps call offer second (InviteAnswered status pause said) a =
    chosen (EntryIs B D T) (nat_lt status 200) (entry_of call call.place (Placing offer second) Silence NoWord) _ (λ _. steps.kept a)
    (λ _. chosen (EntryIs B D T) (nat_lt status 300) (connected call offer now said) _ (λ _. connected_by now A C S B D T steps call offer said a)
    (λ _. chosen (EntryIs B D T) (is_of_media status && not second)
    (entry_of call call.place (Placing (other_offer offer) true) (SendOffer call.route (other_offer offer)) NoWord) (entry_of call None Over Silence (refuse call.place status))
    (λ _. steps.kept a) (λ _. tt)))
placed_by now A C S B D T steps call offer second other a = steps.kept a

cancelled_by :
    (now : ℕ) (A : Type 0) (C : ℕ → Type 0) (S : Session → Type 0) (B : Type 0) (D : ℕ → Type 0) (T : Session → Type 0) → Steps now A C S B D T
    → (call : Call) (until : ℕ) (event : CallEvent) → C until → now < until → EntryIs B D T (cancelled call until now event)
cancelled_by now A C S B D T steps call until (InviteAnswered status pause said) c early =
    chosen (EntryIs B D T) (nat_lt status 200) (entry_of call None (Cancelling until) Silence NoWord) _ (λ _. steps.waits until c early)
    (λ _. chosen (EntryIs B D T) (nat_lt status 300) _ (entry_of call None Over Silence NoWord) (λ _. steps.answers until c early) (λ _. tt))
cancelled_by now A C S B D T steps call until other c early = steps.waits until c early

pub passed_by :
    (now : ℕ) (A : Type 0) (C : ℕ → Type 0) (S : Session → Type 0) (B : Type 0) (D : ℕ → Type 0) (T : Session → Type 0) → Steps now A C S B D T
    → (call : Call) (stage : Stage) → StageIs A C S stage → EntryIs B D T (passed call now stage)
passed_by now A C S B D T steps call (Asking said until) a =
    chosen (EntryIs B D T) (nat_le until now) (entry_of call None Over (Reject 480) NoWord) (entry_of call call.place (Asking said until) Silence NoWord) (λ _. tt) (λ _. steps.kept a)
passed_by now A C S B D T steps call (Dropped until) a =
    chosen (EntryIs B D T) (nat_le until now) (entry_of call None Over Silence NoWord) (entry_of call call.place (Dropped until) Silence NoWord) (λ _. tt) (λ _. steps.kept a)
passed_by now A C S B D T steps call (Placing offer second) a = steps.kept a
passed_by now A C S B D T steps call (Cancelling until) c =
    chosen (EntryIs B D T) (nat_le until now) (entry_of call None Over Silence NoWord) (entry_of call None (Cancelling until) Silence NoWord) (λ _. tt)
    (λ e. steps.waits until c (le_false until now e))
passed_by now A C S B D T steps call (Talking state media) s =
    plain_by B D T call media (row state now TimePassed).0 (row state now TimePassed).1 (steps.moves state TimePassed (alive S state s))
passed_by now A C S B D T steps call Over o = tt

pub within_by :
    (now : ℕ) (A : Type 0) (C : ℕ → Type 0) (S : Session → Type 0) (B : Type 0) (D : ℕ → Type 0) (T : Session → Type 0) → Steps now A C S B D T
    → (call : Call) (stage : Stage) (event : CallEvent) → StageIs A C S stage → EntryIs B D T (within call now stage event)
within_by now A C S B D T steps call (Asking said until) CancelReceived a = steps.kept a
within_by now A C S B D T steps call (Asking said until) other a = passed_by now A C S B D T steps call (Asking said until) a
within_by now A C S B D T steps call (Dropped until) event a = passed_by now A C S B D T steps call (Dropped until) a
within_by now A C S B D T steps call (Placing offer second) event a = placed_by now A C S B D T steps call offer second event a
within_by now A C S B D T steps call (Cancelling until) event c =
    chosen (EntryIs B D T) (nat_le until now) (entry_of call None Over Silence NoWord) (cancelled call until now event) (λ _. tt)
    (λ e. cancelled_by now A C S B D T steps call until event c (le_false until now e))
within_by now A C S B D T steps call (Talking state media) event s = talked_by now A C S B D T steps call state media event (alive S state s)
within_by now A C S B D T steps call Over event o = tt

pub released_by :
    (now : ℕ) (A : Type 0) (C : ℕ → Type 0) (S : Session → Type 0) (B : Type 0) (D : ℕ → Type 0) (T : Session → Type 0) → Steps now A C S B D T
    → (call : Call) (stage : Stage) → StageIs A C S stage → EntryIs B D T (released call now stage)
released_by now A C S B D T steps call (Asking said until) a = tt
released_by now A C S B D T steps call (Dropped until) a = tt
released_by now A C S B D T steps call (Placing offer second) a = steps.cancels a
released_by now A C S B D T steps call (Cancelling until) c = passed_by now A C S B D T steps (freed call) (Cancelling until) c
released_by now A C S B D T steps call (Talking state media) s =
    plain_by B D T (freed call) media (row state now HangUp).0 (row state now HangUp).1 (steps.moves state HangUp (alive S state s))
released_by now A C S B D T steps call Over o = tt

taken_by :
    (now : ℕ) (A : Type 0) (C : ℕ → Type 0) (S : Session → Type 0) (B : Type 0) (D : ℕ → Type 0) (T : Session → Type 0) → Steps now A C S B D T
    → (call : Call) (place : Place) (said : Description) → A → EntryIs B D T (taken call now place said)
taken_by now A C S B D T steps call place (FaxAt end) a = steps.accepts a Stay
taken_by now A C S B D T steps call place (AudioAt address) a = steps.accepts a (Again now)
taken_by now A C S B D T steps call place NothingSaid a = steps.accepts a Stay
taken_by now A C S B D T steps call place Unusable a = tt

let_go_by :
    (now : ℕ) (A : Type 0) (C : ℕ → Type 0) (S : Session → Type 0) (B : Type 0) (D : ℕ → Type 0) (T : Session → Type 0) → Steps now A C S B D T
    → (call : Call) (stage : Stage) (b : Bool) → StageIs A C S stage → EntryIs B D T (if b then released call now stage else passed call now stage)
let_go_by now A C S B D T steps call stage b is =
    chosen (EntryIs B D T) b (released call now stage) (passed call now stage)
    (λ _. released_by now A C S B D T steps call stage is) (λ _. passed_by now A C S B D T steps call stage is)

rung_by :
    (now : ℕ) (A : Type 0) (C : ℕ → Type 0) (S : Session → Type 0) (B : Type 0) (D : ℕ → Type 0) (T : Session → Type 0) → Steps now A C S B D T
    → (call : Call) (place : Place) (stage : Stage) → StageIs A C S stage → EntryIs B D T (rung call now place stage)
rung_by now A C S B D T steps call place (Asking said until) a = taken_by now A C S B D T steps call place said a
rung_by now A C S B D T steps call place (Dropped until) a = tt
rung_by now A C S B D T steps call place (Placing offer second) a = let_go_by now A C S B D T steps call (Placing offer second) (holds_leg call.place place) a
rung_by now A C S B D T steps call place (Cancelling until) c = let_go_by now A C S B D T steps call (Cancelling until) (holds_leg call.place place) c
rung_by now A C S B D T steps call place (Talking state media) s = let_go_by now A C S B D T steps call (Talking state media) (holds_leg call.place place) s
rung_by now A C S B D T steps call place Over o = let_go_by now A C S B D T steps call Over (holds_leg call.place place) o

not_rung_by :
    (now : ℕ) (A : Type 0) (C : ℕ → Type 0) (S : Session → Type 0) (B : Type 0) (D : ℕ → Type 0) (T : Session → Type 0) → Steps now A C S B D T
    → (call : Call) (status : ℕ) (stage : Stage) → StageIs A C S stage → EntryIs B D T (not_rung call now status stage)
not_rung_by now A C S B D T steps call status (Asking said until) a = tt
not_rung_by now A C S B D T steps call status (Dropped until) a = tt
not_rung_by now A C S B D T steps call status (Placing offer second) a = passed_by now A C S B D T steps call (Placing offer second) a
not_rung_by now A C S B D T steps call status (Cancelling until) c = passed_by now A C S B D T steps call (Cancelling until) c
not_rung_by now A C S B D T steps call status (Talking state media) s = passed_by now A C S B D T steps call (Talking state media) s
not_rung_by now A C S B D T steps call status Over o = tt

pub row_by :
    (now : ℕ) (A : Type 0) (C : ℕ → Type 0) (S : Session → Type 0) (B : Type 0) (D : ℕ → Type 0) (T : Session → Type 0) → Steps now A C S B D T
    → (call : Call) (event : Event) → StageIs A C S call.stage → EntryIs B D T (call_row call now event)
row_by now A C S B D T steps call Elapsed is = passed_by now A C S B D T steps call call.stage is
row_by now A C S B D T steps call (Came route said) is = passed_by now A C S B D T steps call call.stage is
row_by now A C S B D T steps call (Rung id on) is =
    chosen (EntryIs B D T) (id == call.id) (rung call now (calling_place on) call.stage) _ (λ _. rung_by now A C S B D T steps call (calling_place on) call.stage is)
    (λ _. let_go_by now A C S B D T steps call call.stage (holds_leg call.place (calling_place on)) is)
row_by now A C S B D T steps call (NotRung id status) is =
    chosen (EntryIs B D T) (id == call.id) (not_rung call now status call.stage) (passed call now call.stage)
    (λ _. not_rung_by now A C S B D T steps call status call.stage is) (λ _. passed_by now A C S B D T steps call call.stage is)
row_by now A C S B D T steps call (Dialled on choice) is = let_go_by now A C S B D T steps call call.stage (holds_leg call.place (called_place on)) is
row_by now A C S B D T steps call (CallOver on) is = let_go_by now A C S B D T steps call call.stage (holds call.place (calling_place on)) is
row_by now A C S B D T steps call (JobOver on) is = let_go_by now A C S B D T steps call call.stage (holds call.place (called_place on)) is
row_by now A C S B D T steps call (Within id event) is =
    chosen (EntryIs B D T) (id == call.id) (within call now call.stage event) (passed call now call.stage)
    (λ _. within_by now A C S B D T steps call call.stage event is) (λ _. passed_by now A C S B D T steps call call.stage is)
