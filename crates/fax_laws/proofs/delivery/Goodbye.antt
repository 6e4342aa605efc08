-- The end of a call: MCF comes for the last page, and DCN goes.
use Rattle.std.proofs.Common.{◌≡◌, true, ℕ, ◌+◌, ◌*◌, ◌<◌, ◌≤◌, min, Bool, false, List, [], ◌∷◌, length, Option, Some, None, refl, sym, ap, subst, arith, if◌then◌else◌}
use Rattle.fax_runcodes.specs.declared.format.Format.{Format}
use Rattle.fax_frames.specs.declared.dcs.Dcs.{Dcs}
use Rattle.fax_frames.specs.Capabilities.{our_dis}
use Rattle.fax_timers.specs.Paces.{PaceValue}
use Rattle.fax_timers.specs.declared.pace.LastPacket.{LastPacket}
use Rattle.fax_ifp.specs.Elements.{Slot}
use Rattle.fax_ifp.specs.Pieces.{Frame}
use Rattle.fax_jobs.specs.declared.outcome.Outcome.TheVariants as outcomes
use Rattle.fax_answer.specs.declared.command.Order.{Order}
use Rattle.fax_answer.specs.declared.command.Order.TheVariants as orders
use Rattle.fax_answer.specs.declared.state.State.TheVariants as answering
use Rattle.fax_answer.specs.Calls as answer
use Rattle.fax_answer.specs.Calls.{AnswererCore, no_timers}
use Rattle.fax_answer.specs.History.{Entry, HangsUp}
use Rattle.fax_answer.specs.Orders.{order_of}
use Rattle.fax_answer.specs.Replies.{ConfirmedPage}
use Rattle.fax_answer.specs.Table.{Reading, on_order}
use Rattle.fax_call.specs.declared.state.State.TheVariants as calling
use Rattle.fax_call.specs.Calls as call
use Rattle.fax_call.specs.Delivery.{is_over}
use Rattle.fax_call.specs.Calls.{CallerCore, formats_of}
use Rattle.fax_call.specs.Replies.{One, Signals, Tells, written, goodbye, is_last_page, turn_after}
use Rattle.fax_call.specs.Table.{Move, Closes, Sends, next_page, turns_or}
use Rattle.fax_gateway.specs.CallingLegs.{is_idle}
use Rattle.fax_laws.specs.delivery.Jobs.{AreDelivered, all_kept}
use Rattle.fax_laws.specs.delivery.Links.{read_by, turned, Link}
use Rattle.fax_laws.proofs.delivery.Pieces.{IsClosed, after_preamble, after_frame, preamble_brings, frame_brings}
use Rattle.fax_laws.proofs.delivery.Turns.{Env, job_in, link, allowed, caller_gives, caller_turn, answerer_turn, none_brings, round_is, both_rest, play, Gets, gets_now, gets_more, gets_step, caller_waits}
use Rattle.fax_laws.proofs.delivery.Talk.{dcs_for, spaced, paused, calling_core, one_try, one_more, calls_no_more, answering_core, only_t2, page_rests, answers_no_more, mcf, dcn}

-- IT IS OVER: the job is delivered, and no round changes anything
pub record Ends (e : Env) (now : ℕ) (l : Link) : Type 0 where
  pub delivered : AreDelivered e.job l
  pub stays : (t : ℕ) → play e t l ≡ l

-- and in the round before it was not
pub record Last (e : Env) (now : ℕ) (l : Link) : Type 0 where
  pub on : is_over l.caller.state ≡ false
  pub awake : is_idle l.answerer.state ≡ false
  pub kept_so : l.kept ≡ all_kept e.job.pages []
  pub ends : Ends e (now + 40) (play e now l)

-- this page, of this number, was the last of them, and all are confirmed
pub record IsAll (e : Env) (n : ℕ) (kept : List ConfirmedPage) : Type 0 where
  pub last : is_last_page (length e.job.pages) n ≡ true
  pub many : n + 1 ≡ length e.job.pages
  pub kept_so : kept ≡ all_kept e.job.pages []

over_now : (e : Env) (f : Format) (n : ℕ) (kept : List ConfirmedPage) (now : ℕ) (ts : List Slot) (h : List Entry) (us : List Slot) (t4 : Option ℕ) (p q : PaceValue) → IsAll e n kept
    → Ends e now (link (calling_core e f calling.Idle (one_more n) [] None t4 p (Some outcomes.Delivered)) ts (answering_core answering.Idle h [] no_timers q) us None kept)
over_now e f n kept now ts h us t4 p q all =
    record {
      delivered = record { caller_over = refl; outcome = refl; delivered = all.many; answerer_over = refl; kept = all.kept_so };
      stays = λ t. both_rest e t (calling_core e f calling.Idle (one_more n) [] None t4 p (Some outcomes.Delivered)) ts (answering_core answering.Idle h [] no_timers q) us kept
          (calls_no_more e f t (one_more n) None t4 p (Some outcomes.Delivered)) (answers_no_more h t q);
    }

-- the DCN asks the answerer to go
dcn_hangs_up : order_of dcn ≡ orders.Disconnect
unfolding order_of
dcn_hangs_up = refl

dcn_came : (read : Reading) (d : Dcs) (h : List Entry) (at now : ℕ) (q : PaceValue)
    → answer.came read (answering_core (answering.Page d) h [] (only_t2 at) q) (Frame dcn) now ≡ answering_core answering.Idle (record { piece = Frame dcn; decision = HangsUp } ∷ h) [] no_timers q
dcn_came read d h at now q =
    ap (λ (o : Order). answer.decided (answering_core (answering.Page d) h [] (only_t2 at) q) (Frame dcn) (on_order read (answering.Page d) h o) now) dcn_hangs_up

-- THE DCN is given
says_goodbye : (e : Env) (f : Format) (n : ℕ) (kept : List ConfirmedPage) (now : ℕ) (ts : List Slot) (h : List Entry) (us : List Slot) (pause before at : ℕ) (q : PaceValue) (d : Dcs) → IsAll e n kept
    → before + min pause 2000 ≤ now
    → Gets e 1 now (link (calling_core e f (calling.Closing outcomes.Delivered) (one_more n) (One (Tells dcn) ∷ []) None None (paused pause before) None) ts
    (answering_core (answering.Page d) h [] (only_t2 at) q) (after_preamble us) None kept) (Last e)
says_goodbye e f n kept now ts h us pause before at q d all may =
    let a : CallerCore = calling_core e f (calling.Closing outcomes.Delivered) (one_more n) (One (Tells dcn) ∷ []) None None (paused pause before) None in
    let b : AnswererCore = answering_core (answering.Page d) h [] (only_t2 at) q in
    let l : Link = link a ts b (after_preamble us) None kept in
    let last : LastPacket = record { at = before; span = min pause 2000 } in
    let c : call.TickResult = call.given_first e.writes (job_in e) a now (One (Tells dcn) ∷ []) in
    let new : List Entry = record { piece = Frame dcn; decision = HangsUp } ∷ h in
    let gone : AnswererCore = answering_core answering.Idle new [] no_timers q in
    let t : answer.TickResult = record { core = gone; given = None; ended = false } in
    let goes : play e now l ≡ turned l c t =
    round_is e now l c t
    (caller_turn e.writes (job_in e) now l [] a c (none_brings _ ts) refl (caller_gives e.writes (job_in e) a now (One (Tells dcn)) [] refl (allowed last now may)))
    (answerer_turn e.reads now (Some (written (Tells dcn))) l (Frame dcn ∷ []) gone t (frame_brings dcn us (omega arith) (omega arith))
    (dcn_came (read_by e.reads (answer.first_asked b (Frame dcn ∷ []) now)) d h at now q) (answers_no_more new now q)) in
    gets_more e 0 1 now l (Last e) (omega arith)
    (gets_now e now l (Last e) (record {
      on = refl;
      awake = refl;
      kept_so = all.kept_so;
      ends = subst (λ (x : Link). Ends e (now + 40) x) (sym goes) (over_now e f n kept (now + 40) ts new (after_frame dcn us) None (spaced pause now) q all);
    }))

-- the last MCF closes the call
last_mcf : (e : Env) (f : Format) (n now : ℕ) (d : Dcs) (t4 : Option ℕ) (q : PaceValue) → is_last_page (length e.job.pages) n ≡ true
    → call.came_all (calling_core e f (calling.AwaitMcf our_dis d) (one_try n) [] None t4 q None) (Frame mcf ∷ []) now ≡ calling_core e f (calling.Closing outcomes.Delivered) (one_more n) goodbye None None q None
last_mcf e f n now d t4 q last =
    let a : CallerCore = calling_core e f (calling.AwaitMcf our_dis d) (one_try n) [] None t4 q None in
    ap (λ (b : Bool). call.moved a (if◌then◌else◌ {A = Move} b (Closes outcomes.Delivered (one_more n)) (turns_or now (turn_after (formats_of e.job) n) (one_try n) (Sends our_dis d (next_page (one_try n)))))) last

-- MCF COMES, and the preamble before the DCN is given
pub hears_mcf : (e : Env) (f : Format) (n : ℕ) (kept : List ConfirmedPage) (now : ℕ) (ts : List Slot) (h : List Entry) (us : List Slot) (t4 : Option ℕ) (pause before at : ℕ) (q : PaceValue) (d : Dcs) → IsAll e n kept
    → before + 40 ≤ now → IsClosed us → now ≤ at + 40 → now + 40 * 51 < 18446744073709551615
    → Gets e 51 now (link (calling_core e f (calling.AwaitMcf our_dis (dcs_for f)) (one_try n) [] None t4 (spaced pause before) None) (after_preamble ts)
    (answering_core (answering.Page d) h [] (only_t2 at) q) us (Some (written (Tells mcf))) kept) (Last e)
hears_mcf e f n kept now ts h us t4 pause before at q d all may closed soon fits =
    let a : CallerCore = calling_core e f (calling.AwaitMcf our_dis (dcs_for f)) (one_try n) [] None t4 (spaced pause before) None in
    let moved : CallerCore = calling_core e f (calling.Closing outcomes.Delivered) (one_more n) goodbye None None (spaced pause before) None in
    let b : AnswererCore = answering_core (answering.Page d) h [] (only_t2 at) q in
    let l : Link = link a (after_preamble ts) b us (Some (written (Tells mcf))) kept in
    let last : LastPacket = record { at = before; span = 40 } in
    let next : LastPacket = record { at = now; span = min pause 2000 } in
    let c : call.TickResult = call.given_first e.writes (job_in e) moved now (One (Signals 3) ∷ One (Tells dcn) ∷ []) in
    let t : answer.TickResult = record { core = b; given = None; ended = false } in
    gets_step e 50 now l _ (Last e)
    (round_is e now l c t
    (caller_turn e.writes (job_in e) now l (Frame mcf ∷ []) moved c (frame_brings mcf ts (omega arith) (omega arith)) (last_mcf e f n now (dcs_for f) t4 (spaced pause before) all.last)
    (caller_gives e.writes (job_in e) moved now (One (Signals 3)) (One (Tells dcn) ∷ []) refl (allowed last now may)))
    (answerer_turn e.reads now (Some (written (Signals 3))) l [] b t (preamble_brings us closed) refl (page_rests d h at now q (omega arith) (omega arith))))
    (caller_waits e 1 (now + 40) (calling_core e f (calling.Closing outcomes.Delivered) (one_more n) (One (Tells dcn) ∷ []) None None (paused pause now) None) (after_frame mcf ts) b (after_preamble us)
    kept (One (Tells dcn)) [] next (Last e) refl refl (omega arith)
    (λ t lo hi. page_rests d h at t q (omega (arith, lo, hi)) (omega (arith, lo, hi)))
    (λ later lo hi enough. says_goodbye e f n kept later (after_frame mcf ts) h us pause now at q d all enough))
