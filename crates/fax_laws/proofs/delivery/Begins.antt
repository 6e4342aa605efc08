-- A DIS, and what answers it; and a call begins: the tones before it.
use Rattle.std.proofs.Common.{◌≡◌, ℕ, ◌+◌, ◌*◌, ◌<◌, ◌≤◌, min, nat_le, true, false, List, [], ◌∷◌, length, Option, Some, None, Result, refl, ◌∙◌, ap, arith}
use Rattle.fax_frames.specs.declared.dcs.Dcs.{Dcs}
use Rattle.fax_frames.specs.declared.frame.Frame.{Frame as FrameValue}
use Rattle.fax_frames.specs.declared.choice.Refusal.{Refusal}
use Rattle.fax_frames.specs.Capabilities.{our_dis}
use Rattle.fax_frames.specs.Written.{written_dis, written_dcs}
use Rattle.fax_frames.proofs.ReadBack.{written_dis_are_themselves}
use Rattle.fax_pagestore.specs.Pages.{PageValue}
use Rattle.fax_timers.specs.Paces.{PaceValue, pace_allows, allowed_from}
use Rattle.fax_timers.specs.Spans as spans
use Rattle.fax_timers.specs.declared.pace.LastPacket.{LastPacket}
use Rattle.fax_timers.proofs.DueMoments.{allows_is}
use Rattle.fax_ifp.specs.Elements.{Slot}
use Rattle.fax_ifp.specs.Pieces.{Frame}
use Rattle.fax_answer.specs.declared.state.State.TheVariants as answering
use Rattle.fax_answer.specs.declared.timers.Timers.{Timers}
use Rattle.fax_answer.specs.Calls as answer
use Rattle.fax_answer.specs.Calls.{AnswererCore}
use Rattle.fax_answer.specs.History.{Entry}
use Rattle.fax_answer.specs.Replies.{WaitingPacket, silent, called_tone, preamble, frame_packet}
use Rattle.fax_call.specs.declared.state.State.TheVariants as calling
use Rattle.fax_call.specs.Calls as call
use Rattle.fax_call.specs.Calls.{CallerCore, formats_of}
use Rattle.fax_call.specs.Replies.{Due, One, Signals, Tells, written, training, training_check, turn_after}
use Rattle.fax_call.specs.Table.{first_try, by_choice, on_frame}
use Rattle.fax_laws.specs.delivery.Delivered.{MayBegin}
use Rattle.fax_laws.specs.delivery.Links.{Link, begun}
use Rattle.fax_laws.proofs.delivery.Pieces.{IsClosed, after_preamble, after_frame, preamble_brings, signal_brings, signal_opens, frame_brings, frame_closes}
use Rattle.fax_laws.proofs.delivery.Turns.{Env, job_in, link, allowed, caller_gives, answerer_gives, answerer_alone, caller_turn, answerer_turn, none_brings, round_is, Gets, gets_step, caller_waits, answerer_waits}
use Rattle.fax_laws.proofs.delivery.Talk.{dcs_for, choice_is, spaced, paused, calling_core, before_try, one_try, timer, awaits_dis, answering_core, identified, identify_rests}
use Rattle.fax_laws.proofs.delivery.Goodbye.{Last}
use Rattle.fax_laws.proofs.delivery.Places.{Place, IsPlace, first_place}
use Rattle.fax_laws.proofs.delivery.Confirms.{After, text_in}
use Rattle.fax_laws.proofs.delivery.Trainings.{rounds_of_check, gives_dcs}

abbrev dis : List ℕ
dis = written_dis our_dis

-- THE CALLER awaits a DIS for the page that is due
abbrev pub awaiting : Env → Place → (tries start p before : ℕ) → CallerCore
awaiting e k tries start p before = calling_core e k.format calling.AwaitDis (before_try k.at tries) [] (timer start spans.t1) None (spaced p before) None

-- THE DIS COMES to it, and it chooses a DCS
dis_came : (e : Env) (k : Place) (now tries start p before : ℕ) → call.came_all (awaiting e k tries start p before) (Frame dis ∷ []) now
    ≡ calling_core e k.format (calling.AwaitCfr our_dis (dcs_for k.format)) (one_try k.at) (training (dcs_for k.format)) None None (spaced p before) None
dis_came e k now tries start p before =
    let a : CallerCore = awaiting e k tries start p before in
    ap (λ (f : Option FrameValue). call.moved a (on_frame now k.format (turn_after (formats_of e.job) k.at) (length e.job.pages) calling.AwaitDis (before_try k.at tries) f)) (written_dis_are_themselves our_dis (omega arith))
    ∙ ap (λ (r : Result Dcs Refusal). call.moved a (by_choice our_dis (first_try (before_try k.at tries)) r)) (choice_is k.format)

abbrev pub rounds_of_training : (size most : ℕ) → ℕ
rounds_of_training size most = 1 + (49 + (1 + rounds_of_check size most))

hears_dis : (e : Env) (k : Place) (most now : ℕ) (ts : List Slot) (h : List Entry) (us : List Slot) (tries start p before began at pause : ℕ) → IsPlace e.job k → 1 ≤ length (text_in e k) → before + 40 ≤ now → IsClosed us → at + 40 ≡ now
    → now + 40 ≤ began + 2200 → now + 40 * rounds_of_training (length (text_in e k)) most < 18446744073709551615 → After e k most
    → Gets e (rounds_of_training (length (text_in e k)) most) now
    (link (awaiting e k tries start p before) (after_preamble ts) (answering_core answering.Identify h [] (identified began at) (spaced pause at)) us (Some (written (Tells dis))) k.kept) (Last e)
hears_dis e k most now ts h us tries start p before began at pause place text may closed same early fits next =
    let d : Dcs = dcs_for k.format in
    let due : List Due = One (Tells (written_dcs d)) ∷ One (Signals 15) ∷ training_check d in
    let a : CallerCore = awaiting e k tries start p before in
    let moved : CallerCore = calling_core e k.format (calling.AwaitCfr our_dis d) (one_try k.at) (One (Signals 3) ∷ due) None None (spaced p before) None in
    let after : CallerCore = calling_core e k.format (calling.AwaitCfr our_dis d) (one_try k.at) due None None (paused p now) None in
    let b : AnswererCore = answering_core answering.Identify h [] (identified began at) (spaced pause at) in
    let l : Link = link a (after_preamble ts) b us (Some (written (Tells dis))) k.kept in
    let last : LastPacket = record { at = before; span = 40 } in
    let given : LastPacket = record { at = now; span = min p 2000 } in
    let c : call.TickResult = call.given_first e.writes (job_in e) moved now (One (Signals 3) ∷ due) in
    let t : answer.TickResult = record { core = b; given = None; ended = false } in
    gets_step e (49 + (1 + rounds_of_check (length (text_in e k)) most)) now l _ (Last e)
    (round_is e now l c t
    (caller_turn e.writes (job_in e) now l (Frame dis ∷ []) moved c (frame_brings dis ts (omega arith) (omega arith)) (dis_came e k now tries start p before)
    (caller_gives e.writes (job_in e) moved now (One (Signals 3)) due refl (allowed last now may)))
    (answerer_turn e.reads now (Some (written (Signals 3))) l [] b t (preamble_brings us closed) refl (identify_rests h began at now (spaced pause at) (omega arith) (omega arith) (omega arith))))
    (caller_waits e (1 + rounds_of_check (length (text_in e k)) most) (now + 40) after (after_frame dis ts) b (after_preamble us) k.kept (One (Tells (written_dcs d))) (One (Signals 15) ∷ training_check d) given (Last e) refl refl (omega arith)
    (λ t lo hi. identify_rests h began at t (spaced pause at) (omega arith) (omega arith) (omega arith))
    (λ later lo hi enough. gives_dcs e k most later (after_frame dis ts) h us p now began at pause at place text enough (frame_closes dis ts (omega arith) (omega arith)) (omega arith) (omega arith) next))

-- THE DIS waits after its preamble, and is given
abbrev pub identifying : WaitingPacket
identifying = record { packet = frame_packet dis; confirmed = None }

-- T1 alone
abbrev pub only_t1 : (at : ℕ) → Timers
only_t1 at = record { t1 = timer at spans.t1; t2 = None; t4 = None }

abbrev pub rounds_of_dis : (size most : ℕ) → ℕ
rounds_of_dis size most = 49 + (1 + rounds_of_training size most)

pub gives_dis : (e : Env) (k : Place) (most now : ℕ) (heard : List Slot) (h : List Entry) (us : List Slot) (tries start p before began pause said : ℕ) → IsPlace e.job k → 1 ≤ length (text_in e k) → now ≤ start + 10000 → before + 40 ≤ now
    → now ≤ began + 80 → said + 40 ≡ now → IsClosed heard → IsClosed us → now + 40 * rounds_of_dis (length (text_in e k)) most < 18446744073709551615 → After e k most
    → Gets e (rounds_of_dis (length (text_in e k)) most) now
    (link (awaiting e k tries start p before) heard (answering_core answering.Identify h (identifying ∷ []) (only_t1 began) (paused pause said)) us (Some (written (Signals 3))) k.kept) (Last e)
gives_dis e k most now heard h us tries start p before began pause said place text waits may first same quiet closed fits next =
    let a : CallerCore = awaiting e k tries start p before in
    let b : AnswererCore = answering_core answering.Identify h (identifying ∷ []) (only_t1 began) (paused pause said) in
    let last : LastPacket = record { at = said; span = min pause 2000 } in
    answerer_waits e (1 + rounds_of_training (length (text_in e k)) most) now a heard b us (Some (written (Signals 3))) k.kept identifying [] last (after_preamble heard) (Last e) (preamble_brings heard quiet) refl refl refl (omega arith)
    (λ t lo hi. awaits_dis e k.format start t (before_try k.at tries) None (spaced p before) (omega arith) (omega arith))
    (λ later r ts lo hi enough silent all.
    let l : Link = link a ts b us r k.kept in
    let t : answer.TickResult = answer.given_first b later (identifying ∷ []) in
    gets_step e (rounds_of_training (length (text_in e k)) most) later l _ (Last e)
    (answerer_alone e later l t silent (awaits_dis e k.format start later (before_try k.at tries) None (spaced p before) (omega arith) (omega arith)) (answerer_gives b later identifying [] refl (allowed last later enough))
    ∙ ap (λ (hs : List Slot). link a hs (answering_core answering.Identify h [] (identified began later) (spaced pause later)) us (Some (written (Tells dis))) k.kept) all)
    (hears_dis e k most (later + 40) heard h us tries start p before began later pause place text (omega arith) closed refl (omega arith) (omega arith) next))

-- THE PREAMBLE before it
begins_dis : (e : Env) (k : Place) (most now : ℕ) (us : List Slot) (p start pause : ℕ) → IsPlace e.job k → 1 ≤ length (text_in e k) → start + 40 ≡ now → IsClosed us → now + 40 * (1 + rounds_of_dis (length (text_in e k)) most) < 18446744073709551615
    → After e k most
    → Gets e (1 + rounds_of_dis (length (text_in e k)) most) now
    (link (awaiting e k 0 start p start) [] (answering_core answering.Identify [] (silent preamble ∷ identifying ∷ []) (only_t1 start) (spaced pause start)) us (Some (written (Signals 2))) k.kept) (Last e)
begins_dis e k most now us p start pause place text first closed fits next =
    let a : CallerCore = awaiting e k 0 start p start in
    let b : AnswererCore = answering_core answering.Identify [] (silent preamble ∷ identifying ∷ []) (only_t1 start) (spaced pause start) in
    let l : Link = link a [] b us (Some (written (Signals 2))) k.kept in
    let last : LastPacket = record { at = start; span = 40 } in
    let t : answer.TickResult = answer.given_first b now (silent preamble ∷ identifying ∷ []) in
    gets_step e (rounds_of_dis (length (text_in e k)) most) now l _ (Last e)
    (answerer_alone e now l t (signal_brings 2 [] (omega arith) refl) (awaits_dis e k.format start now (before_try k.at 0) None (spaced p start) (omega arith) (omega arith))
    (answerer_gives b now (silent preamble) (identifying ∷ []) refl (allowed last now (omega arith))))
    (gives_dis e k most (now + 40) (Some (written (Signals 2)) ∷ []) [] us 0 start p start start pause now place text (omega arith) (omega arith) (omega arith) refl (signal_opens 2 [] (omega arith)) closed (omega arith) next)

-- THE TONES
abbrev pub rounds_of_call : (size most : ℕ) → ℕ
rounds_of_call size most = 1 + (1 + rounds_of_dis size most)

may_give : (pace : PaceValue) (now : ℕ) → allowed_from pace.last ≤ now → pace_allows pace.last now ≡ true
may_give pace now h = allows_is pace.last now ∙ le_so (allowed_from pace.last) now h
  where
    le_so : (m n : ℕ) → m ≤ n → nat_le m n ≡ true
    le_so m n h = grind (arith)

pub begins : (e : Env) (page : PageValue) (rest : List PageValue) (most now : ℕ) (caller : CallerCore) (answerer : AnswererCore) →
    let k : Place = first_place e.job page rest in
    IsPlace e.job k → 1 ≤ length (text_in e k) → MayBegin caller.pace now → MayBegin answerer.pace now → now + 40 * rounds_of_call (length (text_in e k)) most < 18446744073709551615 → After e k most
    → Gets e (rounds_of_call (length (text_in e k)) most) now (begun (job_in e) caller answerer now) (Last e)
begins e page rest most now caller answerer place text may also fits next =
    let k : Place = first_place e.job page rest in
    let a : CallerCore = call.started caller (job_in e) now in
    let b : AnswererCore = answer.rung answerer now in
    let l : Link = begun (job_in e) caller answerer now in
    let c : call.TickResult = call.given_first e.writes (job_in e) a now (One (Signals 1) ∷ []) in
    let t : answer.TickResult = answer.given_first b now (silent called_tone ∷ silent preamble ∷ identifying ∷ []) in
    gets_step e (1 + rounds_of_dis (length (text_in e k)) most) now l _ (Last e)
    (round_is e now l c t
    (caller_turn e.writes (job_in e) now l [] a c (none_brings _ []) refl (caller_gives e.writes (job_in e) a now (One (Signals 1)) [] refl (may_give caller.pace now may.allowed)))
    (answerer_turn e.reads now (Some (written (Signals 1))) l [] b t (signal_brings 1 [] (omega arith) refl) refl
    (answerer_gives b now (silent called_tone) (silent preamble ∷ identifying ∷ []) refl (may_give answerer.pace now also.allowed))))
    (begins_dis e k most (now + 40) (Some (written (Signals 1)) ∷ []) caller.pace.pause now answerer.pace.pause place text refl (signal_opens 1 [] (omega arith)) (omega arith) next)
