-- What is kept says why a page is refused, where the RTN frame waits.
use Rattle.std.proofs.Common.{◌≡◌, ℕ, ◌/◌, ◌&&◌, not, Bool, true, false, List, [], ◌∷◌, ◌++◌, Option, Some, None, ◌⊎◌, inl, inr, refl, sym, ◌∙◌, ap, subst, if◌then◌else◌}
use Rattle.std.proofs.lemmas.List.{append-nil}
use Rattle.fax_frames.specs.declared.dcs.Dcs.{Dcs}
use Rattle.fax_frames.specs.declared.writing.Plain.TheVariants.{Cfr, Ftt, Eom, Mps, Eop, Mcf, Rtn, Dcn}
use Rattle.fax_frames.specs.Capabilities.{our_dis}
use Rattle.fax_frames.specs.Rates.{bits_a_second}
use Rattle.fax_frames.specs.Written.{written_dis, written_plain}
use Rattle.fax_ifp.specs.Pieces.{Piece, End}
use Rattle.fax_ifp.specs.WrittenPackets.{written_after}
use Rattle.fax_timers.specs.Moments.{is_due}
use Rattle.fax_answer.specs.declared.pending.Pending.{Pending}
use Rattle.fax_answer.specs.declared.pending.Pending.TheVariants.{Nothing, Tone, Preamble, Frame}
use Rattle.fax_answer.specs.declared.pending.Reply.TheVariants.{Dis, Plain}
use Rattle.fax_answer.specs.declared.refusal.Refusal.{Refusal}
use Rattle.fax_answer.specs.declared.state.State.{State}
use Rattle.fax_answer.specs.declared.state.State.TheVariants.{Idle, Identify, Listen, Train, Page, Again, Closing}
use Rattle.fax_answer.specs.History.{Entry, Decision, PassesOver, Trains, HangsUp, GivesCfr, GivesFtt, GivesMcf, GivesRtn, octets_since, missing_in_training}
use Rattle.fax_answer.specs.Table.{has_zero_run, decision}
use Rattle.fax_answer.specs.Replies.{ConfirmedPage, WaitingPacket, called_tone, confirmed_if, frame_packet, frame_reply, plain_reply, preamble, is_waiting}
use Rattle.fax_answer.specs.Calls.{AnswererCore, dis_reply, rung, decided, says_goodbye, identifies_again, identifies_anew, timed_in, timed, state_when_given, TickResult, given_first}
use Rattle.fax_answer.specs.Pending.{packet_text}
use Rattle.fax_answer.specs.EachRtn.{rtn_packet}
use Rattle.fax_answer.specs.Following.{CanDecide}
use Rattle.fax_answer.specs.Refusals.{AwaitsRtn, HasReason, IsRtn, IsWhy, SaysWhy, TellsWhy}
use Rattle.fax_answer.specs.Reached.{AtRtn}
use Rattle.fax_answer.proofs.EachRtn.{has_rtn, is_same}

-- PACKETS that are not that of the RTN frame
other : (packet : List ℕ) → has_rtn packet ≡ false → packet ≡ rtn_packet → ⊥
other packet off is = let yes : has_rtn packet ≡ true = ap has_rtn is ∙ is_same rtn_packet in let k : true ≡ false = sym yes ∙ off in cc

replies_none : (frame : List ℕ) (c : Option ConfirmedPage) → has_rtn preamble ≡ false → has_rtn (frame_packet frame) ≡ false → AwaitsRtn (frame_reply frame c) → ⊥
replies_none frame c a b (inl is) = other preamble a is
replies_none frame c a b (inr (inl is)) = other (frame_packet frame) b is
replies_none frame c a b (inr (inr h)) = h

no_dis : AwaitsRtn dis_reply → ⊥
unfolding written_after
no_dis h = replies_none (written_dis our_dis) None refl refl h

no_dcn : AwaitsRtn (plain_reply Dcn None) → ⊥
unfolding written_after
no_dcn h = replies_none (written_plain Dcn false) None refl refl h

no_cfr : AwaitsRtn (plain_reply Cfr None) → ⊥
unfolding written_after
no_cfr h = replies_none (written_plain Cfr false) None refl refl h

no_ftt : AwaitsRtn (plain_reply Ftt None) → ⊥
unfolding written_after
no_ftt h = replies_none (written_plain Ftt false) None refl refl h

no_mcf : (c : Option ConfirmedPage) → AwaitsRtn (plain_reply Mcf c) → ⊥
unfolding written_after
no_mcf c h = replies_none (written_plain Mcf false) c refl refl h

rung_awaits_none : (a : AnswererCore) (now : ℕ) → AwaitsRtn (rung a now).waiting → ⊥
unfolding written_after
rung_awaits_none a now (inl is) = other called_tone refl is
rung_awaits_none a now (inr h) = no_dis h

pub rtn_pending : (p : Pending) → packet_text p ≡ rtn_packet → p ≡ Frame (Plain Rtn)
unfolding written_after
rtn_pending Nothing is = absurd (other _ refl is)
rtn_pending Tone is = absurd (other _ refl is)
rtn_pending (Preamble reply) is = absurd (other _ refl is)
rtn_pending (Frame Dis) is = absurd (other _ refl is)
rtn_pending (Frame (Plain Cfr)) is = absurd (other _ refl is)
rtn_pending (Frame (Plain Ftt)) is = absurd (other _ refl is)
rtn_pending (Frame (Plain Eom)) is = absurd (other _ refl is)
rtn_pending (Frame (Plain Mps)) is = absurd (other _ refl is)
rtn_pending (Frame (Plain Eop)) is = absurd (other _ refl is)
rtn_pending (Frame (Plain Mcf)) is = absurd (other _ refl is)
rtn_pending (Frame (Plain Rtn)) is = refl
rtn_pending (Frame (Plain Dcn)) is = absurd (other _ refl is)

-- A CALL that begins, and none
pub reason_none : (a : AnswererCore) (told : Option Refusal) → a.waiting ≡ [] → HasReason a told
reason_none a told empty h = absurd (subst AwaitsRtn empty h)

pub reason_rung : (a : AnswererCore) (now : ℕ) (told : Option Refusal) → HasReason (rung a now) told
reason_rung a now told h = absurd (rung_awaits_none a now h)

-- A PIECE that is passed over
pub reason_over : (a : AnswererCore) (piece : Piece) (now : ℕ) (told : Option Refusal) → HasReason a told → HasReason (decided a piece PassesOver now) told
reason_over a piece now told r h = r (subst AwaitsRtn (append-nil a.waiting) h)

-- and one at which something is decided
none_left : (ws : List WaitingPacket) → ws ++ [] ≡ [] → AwaitsRtn (ws ++ []) → ⊥
none_left ws empty h = subst AwaitsRtn empty h

no_reply : (ws reply : List WaitingPacket) → (AwaitsRtn reply → ⊥) → (ws ≡ []) ⊎ (reply ≡ []) → (reply ≡ [] → ⊥) → AwaitsRtn (ws ++ reply) → ⊥
no_reply ws reply none (inl empty) some h = none (subst (λ (x : List WaitingPacket). AwaitsRtn (x ++ reply)) empty h)
no_reply ws reply none (inr empty) some h = some empty

pub reason_after : (a : AnswererCore) (piece : Piece) (d : Decision) (now : ℕ) (told : Option Refusal) → CanDecide a d → AtRtn d (IsWhy a.state a.history told) → HasReason a told → HasReason (decided a piece d now) told
reason_after a piece PassesOver now told can why r h = reason_over a piece now told r h
reason_after a piece (Trains dcs) now told can why r h = absurd (none_left a.waiting can.rests h)
reason_after a piece HangsUp now told can why r h = absurd (none_left a.waiting can.rests h)
reason_after a piece (GivesCfr dcs) now told can why r h = absurd (no_reply a.waiting (plain_reply Cfr None) no_cfr can.free (λ e. cc) h)
reason_after a piece GivesFtt now told can why r h = absurd (no_reply a.waiting (plain_reply Ftt None) no_ftt can.free (λ e. cc) h)
reason_after a piece (GivesMcf command page) now told can why r h =
    absurd (no_reply a.waiting (plain_reply Mcf (confirmed_if command page)) (no_mcf (confirmed_if command page)) can.free (λ e. cc) h)
reason_after a piece GivesRtn now told can why r h = why

-- no RTN is decided where an image ends
check_at : (b : Bool) (dcs : Dcs) (P : Type 0) → AtRtn (if b then GivesCfr dcs else GivesFtt) P
check_at true dcs P = tt
check_at false dcs P = tt

pub end_at : (s : State) (waits : Bool) (before : List Entry) (whole : Bool) (P : Type 0) → AtRtn (decision None s waits before (End whole)) P
end_at Idle waits before whole P = tt
end_at Identify waits before whole P = tt
end_at Listen waits before whole P = tt
end_at (Train dcs) waits before whole P = check_at (whole && (not (missing_in_training before) && has_zero_run (bits_a_second dcs.rate / 8) (octets_since before))) dcs P
end_at (Page dcs) waits before whole P = tt
end_at Again waits before whole P = tt
end_at Closing waits before whole P = tt

pub at_rtn : (d : Decision) (P Q : Type 0) → (P → Q) → AtRtn d P → AtRtn d Q
at_rtn PassesOver P Q f h = tt
at_rtn (Trains dcs) P Q f h = tt
at_rtn HangsUp P Q f h = tt
at_rtn (GivesCfr dcs) P Q f h = tt
at_rtn GivesFtt P Q f h = tt
at_rtn (GivesMcf command page) P Q f h = tt
at_rtn GivesRtn P Q f h = f h

-- TIMERS
either : (b : Bool) (x y : AnswererCore) (told : Option Refusal) → HasReason x told → HasReason y told → HasReason (if b then x else y) told
either true x y told p q = p
either false x y told p q = q

reason_goodbye : (a : AnswererCore) (told : Option Refusal) → HasReason (says_goodbye a) told
reason_goodbye a told h = absurd (no_dcn h)

reason_again : (a : AnswererCore) (told : Option Refusal) → HasReason (identifies_again a) told
reason_again a told h = absurd (no_dis h)

reason_anew : (a : AnswererCore) (now : ℕ) (told : Option Refusal) → HasReason (identifies_anew a now) told
reason_anew a now told h = absurd (no_dis h)

reason_timed_in : (state : State) (a : AnswererCore) (now : ℕ) (told : Option Refusal) → HasReason a told → HasReason (timed_in state a now) told
reason_timed_in Idle a now told r = r
reason_timed_in Closing a now told r = r
reason_timed_in Identify a now told r =
    either (is_due a.timers.t1 now) (says_goodbye a) (if is_due a.timers.t4 now then identifies_again a else a) told (reason_goodbye a told)
    (either (is_due a.timers.t4 now) (identifies_again a) a told (reason_again a told) r)
reason_timed_in Listen a now told r = either (is_due a.timers.t2 now) (says_goodbye a) a told (reason_goodbye a told) r
reason_timed_in (Train d) a now told r = either (is_due a.timers.t2 now) (says_goodbye a) a told (reason_goodbye a told) r
reason_timed_in (Page d) a now told r = either (is_due a.timers.t2 now) (says_goodbye a) a told (reason_goodbye a told) r
reason_timed_in Again a now told r = either (is_due a.timers.t2 now) (identifies_anew a now) a told (reason_anew a now told) r

pub reason_timed : (a : AnswererCore) (now : ℕ) (told : Option Refusal) → HasReason a told → HasReason (timed a now) told
reason_timed a now told r = either (is_waiting a.waiting) a (timed_in a.state a now) told r (reason_timed_in a.state a now told r)

-- PACKETS that are given
first_left : (a : AnswererCore) (now : ℕ) (ws : List WaitingPacket) (told : Option Refusal) → (AwaitsRtn ws → SaysWhy a.state a.history told) → HasReason a told → HasReason (given_first a now ws).core told
first_left a now [] told f r = r
first_left a now (w ∷ []) told f r = λ h. absurd h
first_left a now (w ∷ v ∷ ws) told f r = λ h. f (inr h)

pub reason_left : (a : AnswererCore) (now : ℕ) (told : Option Refusal) → HasReason a told → HasReason (given_first a now a.waiting).core told
reason_left a now told r = first_left a now a.waiting told r r

closing_says : (history : List Entry) (told : Option Refusal) → SaysWhy Closing history told → SaysWhy Idle history told
closing_says history None h = h
closing_says history (Some refusal) h = h

says_given : (state : State) (history : List Entry) (told : Option Refusal) → SaysWhy state history told → SaysWhy (state_when_given state) history told
says_given Idle history told h = h
says_given Identify history told h = h
says_given Listen history told h = h
says_given (Train d) history told h = h
says_given (Page d) history told h = h
says_given Again history told h = h
says_given Closing history told h = closing_says history told h

first_says : (a : AnswererCore) (now : ℕ) (ws : List WaitingPacket) (told : Option Refusal) → (AwaitsRtn ws → SaysWhy a.state a.history told)
    → IsRtn (given_first a now ws).given → SaysWhy (given_first a now ws).core.state (given_first a now ws).core.history told
first_says a now [] told f h = absurd h
first_says a now (w ∷ []) told f h = says_given a.state a.history told (f (inl h))
first_says a now (w ∷ v ∷ ws) told f h = f (inl h)

-- a packet is given, of what is next: why is told where it is that of the RTN frame
pub first_tells : (a : AnswererCore) (now : ℕ) (p : Pending) (kept told : Option Refusal) (c : Option ConfirmedPage) → HasReason a kept
    → (given_first a now a.waiting).given ≡ Some (record { packet = packet_text p; confirmed = c })
    → (p ≡ Frame (Plain Rtn) → told ≡ kept) → ((p ≡ Frame (Plain Rtn) → ⊥) → told ≡ None)
    → TellsWhy (given_first a now a.waiting) told
first_tells a now p kept told c r given rtn none =
    let w : WaitingPacket = record { packet = packet_text p; confirmed = c } in
    let t : TickResult = given_first a now a.waiting in
    record {
      rtn = λ h.
          let is : p ≡ Frame (Plain Rtn) = rtn_pending p (subst IsRtn given h) in
          subst (λ (x : Option Refusal). SaysWhy t.core.state t.core.history x) (sym (rtn is)) (first_says a now a.waiting kept r h);
      silent = λ off. none (λ is. off (subst IsRtn (sym given) (ap packet_text is)));
    }
