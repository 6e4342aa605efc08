-- What stays of a call in which something happens: its number, its route, and its leg or none.
use Rattle.std.proofs.Common.{◌≡◌, ℕ, ◌&&◌, not, Bool, true, false, nat_le, nat_lt, Option, None, Some, refl}
use Rattle.fax_dialogs.specs.declared.session.Session.{Session}
use Rattle.fax_dialogs.specs.declared.session_action.SessionAction.{SessionAction}
use Rattle.fax_dialogs.specs.declared.session_action.SessionAction.TheVariants.{Nothing, SendInvite, SendAnswer, SendAgain, TellInvite, Refuse, Acknowledge, TellAndAcknowledge, TellRefused, SendBye, TellAndSendBye, SendByeAndRefuse, AnswerBye, AnswerByeAndRefuse}
use Rattle.fax_dialogs.specs.declared.session_event.SessionEvent.TheVariants.{TimePassed, Reinvite, HangUp, InviteCame, AckCame, ByeCame, Answered, AnsweredAgain, ByeAnswered}
use Rattle.fax_dialogs.specs.Sessions.{row}
use Rattle.fax_transactions.proofs.RunProofs.{chosen}
use Rattle.fax_switch.specs.declared.action.LineAction.{LineAction}
use Rattle.fax_switch.specs.declared.action.LineAction.TheVariants.{NoWord, RingAny, Peer, AudioOn, AudioOff, RefuseCall, HangUpLeg}
use Rattle.fax_switch.specs.declared.action.SipAction.{SipAction}
use Rattle.fax_switch.specs.declared.action.SipAction.TheVariants.{Silence, SendOffer, Accept, AcceptAgain, Reject, Ack, InviteAgain, Bye, ByeAndReject, AcceptBye, AcceptByeAndReject}
use Rattle.fax_switch.specs.declared.call.Call.{Call}
use Rattle.fax_switch.specs.declared.call.Entry.{Entry}
use Rattle.fax_switch.specs.declared.call.Stage.{Stage}
use Rattle.fax_switch.specs.declared.call.Stage.TheVariants.{Asking, Dropped, Placing, Cancelling, Talking, Over}
use Rattle.fax_switch.specs.declared.event.CallEvent.{CallEvent}
use Rattle.fax_switch.specs.declared.event.CallEvent.TheVariants.{InviteAnswered, AnswerRepeated, Reinvited, Acknowledged, ByeReceived, ByeDone, CancelReceived, RefreshDue, Expired}
use Rattle.fax_switch.specs.declared.media.Description.{Description}
use Rattle.fax_switch.specs.declared.media.Description.TheVariants.{FaxAt, AudioAt, NothingSaid, Unusable}
use Rattle.fax_switch.specs.declared.media.FaxEnd.{FaxEnd}
use Rattle.fax_switch.specs.declared.media.Media.{Media}
use Rattle.fax_switch.specs.declared.media.Media.TheVariants.{AudioOnly, FaxAgreed, FaxOffered}
use Rattle.fax_switch.specs.declared.media.Offer.{Offer}
use Rattle.fax_switch.specs.declared.media.Offer.TheVariants.{Fax, Audio}
use Rattle.fax_switch.specs.declared.place.Leg.{Leg}
use Rattle.fax_switch.specs.declared.place.Leg.TheVariants.{Calling, Called}
use Rattle.fax_switch.specs.declared.place.Place.{Place}
use Rattle.fax_switch.specs.Calls.{acknowledged_by, agreed_by, answer_in_ack, answered_by, answered_with, cancelled, connected, end_word, entry_of, freed, hang_up, is_agreed, is_confirmed, is_of_media, not_rung, other_offer, passed, peer, placed, plain, plainly, refuse, refused_by, reinvited_by, released, silence, stage_of, talked, within, word_by}
use Rattle.fax_switch.specs.Histories.{fax_in, fax_said, reinvites}

-- a leg is kept, or let go
abbrev pub IsKept : Option Place → Option Place → Type 0
IsKept held None = Unit {0}
IsKept held (Some place) = held ≡ Some place

pub kept_itself : (held : Option Place) → IsKept held held
kept_itself None = tt
kept_itself (Some place) = refl

-- a peer is that of the leg that is held, and was told
abbrev pub WordIs : Option Place → Option FaxEnd → LineAction → Type 0
WordIs held told (Peer place end moved) = (held ≡ Some place) × (told ≡ Some end)
WordIs held told NoWord = Unit {0}
WordIs held told RingAny = Unit {0}
WordIs held told (AudioOn place address) = Unit {0}
WordIs held told (AudioOff place) = Unit {0}
WordIs held told (RefuseCall place status) = Unit {0}
WordIs held told (HangUpLeg place) = Unit {0}

-- 200 answers a re-INVITE, and an INVITE goes over the call's route
abbrev pub SipIs : Bool → ℕ → SipAction → Type 0
SipIs again route (Accept offer) = again ≡ true
SipIs again route (SendOffer over offer) = over ≡ route
SipIs again route other = Unit {0}

abbrev pub Keeps : Call → Option FaxEnd → Bool → Entry → Type 0
Keeps call told again entry =
    (entry.call.id ≡ call.id) × (entry.call.route ≡ call.route) × IsKept call.place entry.call.place × WordIs call.place told entry.line
    × SipIs again entry.call.route entry.sip

pub end_words : (held : Option Place) (told : Option FaxEnd) (leg : Leg) (place : Place) (agreed : Bool) → WordIs held told (end_word leg place agreed)
end_words held told Calling place agreed = tt
end_words held told Called place true = tt
end_words held told Called place false = tt

pub hang_words : (held : Option Place) (told : Option FaxEnd) (media : Media) → WordIs held told (hang_up held media)
hang_words None told media = tt
hang_words (Some place) told media = end_words (Some place) told place.leg place (is_agreed media)

pub refuse_words : (held : Option Place) (told : Option FaxEnd) (status : ℕ) → WordIs held told (refuse held status)
refuse_words None told status = tt
refuse_words (Some place) told status = tt

pub peer_words : (held : Option Place) (media : Media) (end : FaxEnd) → WordIs held (Some end) (peer held media end)
peer_words None media end = tt
peer_words (Some place) media end = (refl, refl)

pub silence_words : (held other : Option Place) (told : Option FaxEnd) (media : Media) → WordIs other told (silence held media)
silence_words None other told media = tt
silence_words (Some place) other told media = chosen (WordIs other told) (is_agreed media) NoWord (AudioOff place) (λ _. tt) (λ _. tt)

-- the leg is kept, and nothing is told; it is let go
pub stays : (call : Call) (told : Option FaxEnd) (again : Bool) (stage : Stage) (sip : SipAction) → SipIs again call.route sip → Keeps call told again (entry_of call call.place stage sip NoWord)
stays call told again stage sip ok = (refl, refl, kept_itself call.place, tt, ok)

pub ends : (call : Call) (told : Option FaxEnd) (again : Bool) (stage : Stage) (sip : SipAction) (media : Media) → SipIs again call.route sip
    → Keeps call told again (entry_of call None stage sip (hang_up call.place media))
ends call told again stage sip media ok = (refl, refl, tt, hang_words call.place told media, ok)

pub leaves : (call : Call) (told : Option FaxEnd) (again : Bool) (stage : Stage) (sip : SipAction) → SipIs again call.route sip → Keeps call told again (entry_of call None stage sip NoWord)
leaves call told again stage sip ok = (refl, refl, tt, tt, ok)

pub plain_keeps : (call : Call) (told : Option FaxEnd) (again : Bool) (media : Media) (state : Session) (action : SessionAction) → Keeps call told again (plain call media state action)
plain_keeps call told again media state Nothing = stays call told again (stage_of state media) Silence tt
plain_keeps call told again media state SendInvite = stays call told again (stage_of state media) InviteAgain tt
plain_keeps call told again media state SendAnswer = stays call told again (stage_of state media) Silence tt
plain_keeps call told again media state SendAgain = stays call told again (stage_of state media) AcceptAgain tt
plain_keeps call told again media state TellInvite = stays call told again (stage_of state media) Silence tt
plain_keeps call told again media state (Refuse status) = stays call told again (stage_of state media) (Reject status) tt
plain_keeps call told again media state Acknowledge = stays call told again (stage_of state media) Ack tt
plain_keeps call told again media state TellAndAcknowledge = stays call told again (stage_of state media) Ack tt
plain_keeps call told again media state (TellRefused status) = stays call told again (stage_of state media) Silence tt
plain_keeps call told again media state SendBye = ends call told again (stage_of state media) Bye media tt
plain_keeps call told again media state TellAndSendBye = ends call told again (stage_of state media) Bye media tt
plain_keeps call told again media state SendByeAndRefuse = ends call told again (stage_of state media) ByeAndReject media tt
plain_keeps call told again media state AnswerBye = ends call told again (stage_of state media) AcceptBye media tt
plain_keeps call told again media state AnswerByeAndRefuse = ends call told again (stage_of state media) AcceptByeAndReject media tt

pub agreed_keeps : (call : Call) (again : Bool) (media : Media) (now : ℕ) (state : Session) (said : Description) → Keeps call (fax_said said) again (agreed_by call media now state said)
agreed_keeps call again media now state (FaxAt end) = (refl, refl, kept_itself call.place, peer_words call.place media end, tt)
agreed_keeps call again media now state other = (refl, refl, tt, hang_words call.place (fax_said other) media, tt)

pub refused_keeps : (call : Call) (told : Option FaxEnd) (again : Bool) (media : Media) (now : ℕ) (state : Session) → Keeps call told again (refused_by call media now state)
refused_keeps call told again FaxAgreed now state = stays call told again (stage_of state FaxAgreed) Silence tt
refused_keeps call told again AudioOnly now state = (refl, refl, tt, hang_words call.place told AudioOnly, tt)
refused_keeps call told again FaxOffered now state = (refl, refl, tt, hang_words call.place told FaxOffered, tt)

pub answered_keeps :
    (call : Call) (again : Bool) (media : Media) (now : ℕ) (said : Description) (state : Session) (action : SessionAction)
    → Keeps call (fax_said said) again (answered_by call media now said state action)
answered_keeps call again media now said state TellAndAcknowledge =
    chosen (Keeps call (fax_said said) again) (is_confirmed state) (agreed_by call media now state said) (plain call media state TellAndAcknowledge)
    (λ _. agreed_keeps call again media now state said) (λ _. plain_keeps call (fax_said said) again media state TellAndAcknowledge)
answered_keeps call again media now said state (TellRefused status) =
    chosen (Keeps call (fax_said said) again) (is_confirmed state) (refused_by call media now state) (plain call media state (TellRefused status))
    (λ _. refused_keeps call (fax_said said) again media now state) (λ _. plain_keeps call (fax_said said) again media state (TellRefused status))
answered_keeps call again media now said state other = plain_keeps call (fax_said said) again media state other

pub word_keeps : (held : Option Place) (media : Media) (said : Description) → WordIs held (fax_said said) (word_by held media said)
word_keeps held media (FaxAt end) = peer_words held media end
word_keeps None AudioOnly (AudioAt address) = tt
word_keeps (Some place) AudioOnly (AudioAt address) = tt
word_keeps held FaxAgreed (AudioAt address) = tt
word_keeps held FaxOffered (AudioAt address) = tt
word_keeps held media NothingSaid = tt
word_keeps held media Unusable = tt

pub answer_keeps : (route : ℕ) (media : Media) (said : Description) → SipIs true route (answered_with media said)
answer_keeps route media (FaxAt end) = refl
answer_keeps route AudioOnly (AudioAt address) = refl
answer_keeps route FaxAgreed (AudioAt address) = tt
answer_keeps route FaxOffered (AudioAt address) = tt
answer_keeps route media NothingSaid = refl
answer_keeps route media Unusable = tt

pub reinvited_keeps :
    (call : Call) (media : Media) (now : ℕ) (said : Description) (state : Session) (action : SessionAction)
    → Keeps call (fax_said said) true (reinvited_by call media now said state action)
reinvited_keeps call media now said state TellInvite = (refl, refl, kept_itself call.place, word_keeps call.place media said, answer_keeps call.route media said)
reinvited_keeps call media now said state other = plain_keeps call (fax_said said) true media state other

pub ack_keeps : (call : Call) (again : Bool) (media : Media) (now : ℕ) (state : Session) (said : Description) → Keeps call (fax_said said) again (answer_in_ack call media now state said)
ack_keeps call again AudioOnly now state said = stays call (fax_said said) again (stage_of state AudioOnly) Silence tt
ack_keeps call again FaxAgreed now state (FaxAt end) = (refl, refl, kept_itself call.place, peer_words call.place FaxAgreed end, tt)
ack_keeps call again FaxOffered now state (FaxAt end) = (refl, refl, kept_itself call.place, peer_words call.place FaxOffered end, tt)
ack_keeps call again FaxAgreed now state other = stays call (fax_said other) again (stage_of state FaxAgreed) Silence tt
ack_keeps call again FaxOffered now state other = (refl, refl, tt, hang_words call.place (fax_said other) FaxOffered, tt)

pub acknowledged_keeps :
    (call : Call) (again : Bool) (media : Media) (now : ℕ) (said : Description) (state : Session) (action : SessionAction)
    → Keeps call (fax_said said) again (acknowledged_by call media now said state action)
acknowledged_keeps call again media now said state Nothing =
    chosen (Keeps call (fax_said said) again) (is_confirmed state) (answer_in_ack call media now state said) (plain call media state Nothing)
    (λ _. ack_keeps call again media now state said) (λ _. plain_keeps call (fax_said said) again media state Nothing)
acknowledged_keeps call again media now said state other = plain_keeps call (fax_said said) again media state other

pub plainly_keeps : (call : Call) (told : Option FaxEnd) (again : Bool) (media : Media) (r : Session × SessionAction) → Keeps call told again (plainly call media r)
plainly_keeps call told again media r = plain_keeps call told again media r.0 r.1

pub talked_keeps :
    (call : Call) (state : Session) (media : Media) (now : ℕ) (event : CallEvent) → Keeps call (fax_in event) (reinvites event) (talked call state media now event)
talked_keeps call state media now (InviteAnswered status pause said) =
    answered_keeps call false media now said (row state now (Answered status pause)).0 (row state now (Answered status pause)).1
talked_keeps call state media now AnswerRepeated = plainly_keeps call None false media (row state now AnsweredAgain)
talked_keeps call state media now (Reinvited said) = reinvited_keeps call media now said (row state now InviteCame).0 (row state now InviteCame).1
talked_keeps call state media now (Acknowledged said) = acknowledged_keeps call false media now said (row state now AckCame).0 (row state now AckCame).1
talked_keeps call state media now ByeReceived = plainly_keeps call None false media (row state now ByeCame)
talked_keeps call state media now ByeDone = plainly_keeps call None false media (row state now ByeAnswered)
talked_keeps call state media now CancelReceived = plainly_keeps call None false media (row state now TimePassed)
talked_keeps call state media now RefreshDue = plainly_keeps call None false media (row state now Reinvite)
talked_keeps call state media now Expired = plainly_keeps call None false media (row state now HangUp)

pub connected_keeps : (call : Call) (offer : Offer) (now : ℕ) (said : Description) → Keeps call (fax_said said) false (connected call offer now said)
connected_keeps call offer now (FaxAt end) = (refl, refl, kept_itself call.place, peer_words call.place AudioOnly end, tt)
connected_keeps call Audio now (AudioAt address) = (refl, refl, kept_itself call.place, word_keeps call.place AudioOnly (AudioAt address), tt)
connected_keeps call Fax now (AudioAt address) = (refl, refl, tt, refuse_words call.place None 488, tt)
connected_keeps call offer now NothingSaid = (refl, refl, tt, refuse_words call.place None 488, tt)
connected_keeps call offer now Unusable = (refl, refl, tt, refuse_words call.place None 488, tt)

pub placed_keeps :
    (call : Call) (offer : Offer) (again : Bool) (now : ℕ) (event : CallEvent) → Keeps call (fax_in event) (reinvites event) (placed call offer again now event)
placed_keeps call offer again now (InviteAnswered status pause said) =
    chosen (Keeps call (fax_said said) false) (nat_lt status 200) (entry_of call call.place (Placing offer again) Silence NoWord) _
    (λ _. stays call (fax_said said) false (Placing offer again) Silence tt)
    (λ _. chosen (Keeps call (fax_said said) false) (nat_lt status 300) (connected call offer now said) _ (λ _. connected_keeps call offer now said)
    (λ _. chosen (Keeps call (fax_said said) false) (is_of_media status && not again)
    (entry_of call call.place (Placing (other_offer offer) true) (SendOffer call.route (other_offer offer)) NoWord) (entry_of call None Over Silence (refuse call.place status))
    (λ _. stays call (fax_said said) false (Placing (other_offer offer) true) (SendOffer call.route (other_offer offer)) refl)
    (λ _. (refl, refl, tt, refuse_words call.place (fax_said said) status, tt))))
placed_keeps call offer again now other = stays call (fax_in other) (reinvites other) (Placing offer again) Silence tt

pub cancelled_keeps : (call : Call) (until now : ℕ) (event : CallEvent) → Keeps call (fax_in event) (reinvites event) (cancelled call until now event)
cancelled_keeps call until now (InviteAnswered status pause said) =
    chosen (Keeps call (fax_said said) false) (nat_lt status 200) (entry_of call None (Cancelling until) Silence NoWord) _ (λ _. leaves call (fax_said said) false (Cancelling until) Silence tt)
    (λ _. chosen (Keeps call (fax_said said) false) (nat_lt status 300) _ (entry_of call None Over Silence NoWord)
    (λ _. (refl, refl, tt, tt, tt)) (λ _. leaves call (fax_said said) false Over Silence tt))
cancelled_keeps call until now other = leaves call (fax_in other) (reinvites other) (Cancelling until) Silence tt

pub passed_keeps : (call : Call) (told : Option FaxEnd) (again : Bool) (now : ℕ) (stage : Stage) → Keeps call told again (passed call now stage)
passed_keeps call told again now (Asking said until) =
    chosen (Keeps call told again) (nat_le until now) (entry_of call None Over (Reject 480) NoWord) (entry_of call call.place (Asking said until) Silence NoWord)
    (λ _. leaves call told again Over (Reject 480) tt) (λ _. stays call told again (Asking said until) Silence tt)
passed_keeps call told again now (Dropped until) =
    chosen (Keeps call told again) (nat_le until now) (entry_of call None Over Silence NoWord) (entry_of call call.place (Dropped until) Silence NoWord)
    (λ _. leaves call told again Over Silence tt) (λ _. stays call told again (Dropped until) Silence tt)
passed_keeps call told again now (Placing offer second) = stays call told again (Placing offer second) Silence tt
passed_keeps call told again now (Cancelling until) =
    chosen (Keeps call told again) (nat_le until now) (entry_of call None Over Silence NoWord) (entry_of call None (Cancelling until) Silence NoWord)
    (λ _. leaves call told again Over Silence tt) (λ _. leaves call told again (Cancelling until) Silence tt)
passed_keeps call told again now (Talking state media) = plainly_keeps call told again media (row state now TimePassed)
passed_keeps call told again now Over = leaves call told again Over Silence tt

pub within_keeps : (call : Call) (now : ℕ) (stage : Stage) (event : CallEvent) → Keeps call (fax_in event) (reinvites event) (within call now stage event)
within_keeps call now (Asking said until) CancelReceived = stays call None false (Dropped until) (Reject 487) tt
within_keeps call now (Asking said until) other = passed_keeps call (fax_in other) (reinvites other) now (Asking said until)
within_keeps call now (Dropped until) event = passed_keeps call (fax_in event) (reinvites event) now (Dropped until)
within_keeps call now (Placing offer again) event = placed_keeps call offer again now event
within_keeps call now (Cancelling until) event =
    chosen (Keeps call (fax_in event) (reinvites event)) (nat_le until now) (entry_of call None Over Silence NoWord) (cancelled call until now event)
    (λ _. leaves call (fax_in event) (reinvites event) Over Silence tt) (λ _. cancelled_keeps call until now event)
within_keeps call now (Talking state media) event = talked_keeps call state media now event
within_keeps call now Over event = passed_keeps call (fax_in event) (reinvites event) now Over

pub released_keeps : (call : Call) (told : Option FaxEnd) (again : Bool) (now : ℕ) (stage : Stage) → Keeps (freed call) told again (released call now stage)
released_keeps call told again now (Asking said until) = (refl, refl, tt, tt, tt)
released_keeps call told again now (Dropped until) = (refl, refl, tt, tt, tt)
released_keeps call told again now (Placing offer second) = (refl, refl, tt, tt, tt)
released_keeps call told again now (Cancelling until) = passed_keeps (freed call) told again now (Cancelling until)
released_keeps call told again now (Talking state media) =
    let kept : Keeps (freed call) told again (plainly (freed call) media (row state now HangUp)) = plainly_keeps (freed call) told again media (row state now HangUp) in
    (kept.0, kept.1, kept.2, silence_words call.place None told media, kept.4)
released_keeps call told again now Over = passed_keeps (freed call) told again now Over

pub not_rung_keeps : (call : Call) (told : Option FaxEnd) (again : Bool) (now status : ℕ) (stage : Stage) → Keeps call told again (not_rung call now status stage)
not_rung_keeps call told again now status (Asking said until) = leaves call told again Over (Reject status) tt
not_rung_keeps call told again now status (Dropped until) = leaves call told again Over Silence tt
not_rung_keeps call told again now status (Placing offer second) = passed_keeps call told again now (Placing offer second)
not_rung_keeps call told again now status (Cancelling until) = passed_keeps call told again now (Cancelling until)
not_rung_keeps call told again now status (Talking state media) = passed_keeps call told again now (Talking state media)
not_rung_keeps call told again now status Over = passed_keeps call told again now Over
