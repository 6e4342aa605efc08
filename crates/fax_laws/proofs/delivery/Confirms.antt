-- After an image: its command goes, and MCF comes back.
use Rattle.std.proofs.Common.{◌≡◌, ℕ, ◌+◌, ◌*◌, ◌<◌, ◌≤◌, min, Bool, true, false, List, [], ◌∷◌, Option, Some, None, inl, inr, refl, ◌∙◌, ap, subst, arith, if◌then◌else◌}
use Rattle.fax_runcodes.specs.declared.Width.{Width}
use Rattle.fax_runcodes.specs.declared.Width.TheVariants.{W1728, W2048, W2432}
use Rattle.fax_runcodes.specs.declared.format.Coding.TheVariants.{Mr}
use Rattle.fax_runcodes.specs.declared.format.Format.{Format}
use Rattle.fax_runcodes.specs.Rows.{Elements, IsWidth}
use Rattle.fax_runcodes.specs.Widths.{elements_of}
use Rattle.fax_frames.specs.declared.dcs.Dcs.{Dcs}
use Rattle.fax_frames.specs.Capabilities.{our_dis}
use Rattle.fax_timers.specs.Paces.{PaceValue, pace_after}
use Rattle.fax_timers.specs.Spans as spans
use Rattle.fax_timers.specs.declared.pace.LastPacket.{LastPacket}
use Rattle.fax_pagestore.specs.Pages.{PageValue}
use Rattle.fax_pagestore.specs.PageTexts.{MeansRows}
use Rattle.fax_pagestore.proofs.PageLaws.{pages_are_unique, pages_dont_fail}
use Rattle.fax_pagestore.proofs.WrittenLemmas.{written_pages_mean}
use Rattle.fax_ifp.specs.Elements.{Slot}
use Rattle.fax_ifp.specs.Pieces.{Frame}
use Rattle.fax_answer.specs.declared.command.Command.{Command}
use Rattle.fax_answer.specs.declared.command.Command.TheVariants as commands
use Rattle.fax_answer.specs.declared.command.Order.{Order}
use Rattle.fax_answer.specs.declared.state.State.TheVariants as answering
use Rattle.fax_answer.specs.Calls as answer
use Rattle.fax_answer.specs.Calls.{AnswererCore, no_timers, or_else}
use Rattle.fax_answer.specs.Confirmation.{IsRight}
use Rattle.fax_answer.specs.History.{Entry, GivesMcf, GivesRtn, since_answer, last_image, Decision}
use Rattle.fax_answer.specs.Replies.{WaitingPacket, silent, preamble, frame_packet, is_last, is_preamble}
use Rattle.fax_answer.specs.Table.{Reading, Question, is_one_image, is_repeat, judged, on_order, order_asks, state_after_mcf}
use Rattle.fax_call.specs.declared.state.State.TheVariants as calling
use Rattle.fax_call.specs.Calls as call
use Rattle.fax_call.specs.Calls.{CallerCore}
use Rattle.fax_call.specs.Replies.{One, Signals, Tells, written}
use Rattle.fax_call.specs.Writings.{IsWrittenAs}
use Rattle.fax_laws.specs.delivery.Links.{read_by, Link}
use Rattle.fax_laws.proofs.delivery.Pieces.{IsClosed, after_preamble, after_frame, preamble_brings, frame_brings, frame_closes}
use Rattle.fax_laws.proofs.delivery.Turns.{Env, job_in, link, allowed, caller_gives, answerer_gives, answerer_alone, caller_turn, answerer_turn, none_brings, round_is, Gets, gets_step, caller_waits, answerer_waits}
use Rattle.fax_laws.proofs.delivery.Talk.{dcs_for, heard_dcs, spaced, paused, calling_core, one_try, timer, awaits_mcf, answering_core, only_t2, page_rests, mcf}
use Rattle.fax_laws.proofs.delivery.Places.{Place, IsPlace, frame_for, command_judges, some_octet, few_octets, kept_on}
use Rattle.fax_laws.proofs.delivery.Goodbye.{Last}

abbrev pub text_in : Env → Place → List ℕ
text_in e k = e.writes k.page Mr 0

-- WHAT IS READ of the page's text is the page
is_width : (width : Width) → IsWidth (elements_of width)
is_width W1728 = inl refl
is_width W2048 = inr (inl refl)
is_width W2432 = inr (inr refl)

abbrev pub asked_in : Env → Place → Question
asked_in e k = record { octets = text_in e k; dcs = heard_dcs k.format }

means : (e : Env) (k : Place) → IsPlace e.job k → MeansRows (elements_of k.page.format.width) Mr (text_in e k) k.page.rows
means e k i =
    let w : IsWrittenAs k.page Mr 0 (text_in e k) = e.is_writing k.page Mr 0 i.is_page in
    written_pages_mean (elements_of k.page.format.width) Mr k.page.format.fine 0 k.page.rows w.text (text_in e k) (is_width k.page.format.width) i.is_page w.writes w.padded

pub reads_the_page : (e : Env) (k : Place) → IsPlace e.job k → e.reads (asked_in e k) ≡ Some k.page
reads_the_page e k i =
    subst (λ (f : Format). e.reads (record { octets = text_in e k; dcs = heard_dcs f }) ≡ Some k.page) i.same
    (by (e.reads (record { octets = text_in e k; dcs = heard_dcs k.page.format })) (e.is_reader (record { octets = text_in e k; dcs = heard_dcs k.page.format })))
  where
    by : (r : Reading) → IsRight (record { octets = text_in e k; dcs = heard_dcs k.page.format }) r → r ≡ Some k.page
    by None wrong = absurd (pages_dont_fail (elements_of k.page.format.width) Mr (text_in e k) k.page.rows wrong.0 (is_width k.page.format.width) (means e k i) wrong.1)
    by (Some page) right =
        let rows : page.rows ≡ k.page.rows =
        pages_are_unique (elements_of k.page.format.width) Mr (text_in e k) page.rows k.page.rows (is_width k.page.format.width) right.1 (means e k i) in
        let format : page.format ≡ k.page.format = right.0 in
        let one : page ≡ record { format = k.page.format; rows = page.rows } = ap (λ f. let p : PageValue = record { format = f; rows = page.rows } in p) format in
        ap (λ (p : PageValue). Some p) (one ∙ ap (λ (rs : List Elements). let p : PageValue = record { format = k.page.format; rows = rs } in p) rows)

-- one image came since the last answer, whole, which is the page's text
pub record HasImage (e : Env) (k : Place) (h : List Entry) : Type 0 where
  pub one : is_one_image (since_answer h) ≡ true
  pub image : last_image h ≡ text_in e k

-- WHAT FOLLOWS AFTER THE MCF for this page, which comes to the caller, in at most so many rounds
abbrev pub After : Env → Place → (most : ℕ) → Type 0
After e k most =
    (now : ℕ) (ts : List Slot) (h : List Entry) (us : List Slot) (t4 : Option ℕ) (p before at pause : ℕ) → before + 40 ≤ now → IsClosed us → at + 40 ≡ now → since_answer h ≡ []
    → now + 40 * most < 18446744073709551615
    → Gets e most now
    (link (calling_core e k.format (calling.AwaitMcf our_dis (dcs_for k.format)) (one_try k.at) [] None t4 (spaced p before) None) (after_preamble ts)
    (answering_core (state_after_mcf k.command (answering.Page (heard_dcs k.format))) h [] (only_t2 at) (spaced pause at)) us (Some (written (Tells mcf))) (kept_on k)) (Last e)

-- THE MCF waits after its preamble, is given, and comes to the caller
abbrev confirming : Place → WaitingPacket
confirming k = record { packet = frame_packet mcf; confirmed = Some (record { page = k.page; closes = is_last k.command }) }

given_is : (c : Command) (d : Dcs) (h : List Entry) (w : WaitingPacket) (now pause asked : ℕ) → w.packet ≡ frame_packet mcf
    → answer.given_first (answering_core (state_after_mcf c (answering.Page d)) h (w ∷ []) no_timers (paused pause asked)) now (w ∷ [])
    ≡ record { core = answering_core (state_after_mcf c (answering.Page d)) h [] (only_t2 now) (spaced pause now); given = Some w; ended = false }
given_is c d h w now pause asked is =
    by c
    ∙ ap (λ (octets : List ℕ). let t : answer.TickResult = record {
      core = answering_core (state_after_mcf c (answering.Page d)) h [] (only_t2 now) (pace_after (is_preamble octets) (paused pause asked) now);
      given = Some w;
      ended = false;
    } in t) is
  where
    by : (x : Command) → answer.given_first (answering_core (state_after_mcf x (answering.Page d)) h (w ∷ []) no_timers (paused pause asked)) now (w ∷ [])
        ≡ record { core = answering_core (state_after_mcf x (answering.Page d)) h [] (only_t2 now) (pace_after (is_preamble w.packet) (paused pause asked) now); given = Some w; ended = false }
    by commands.Eom = refl
    by commands.Mps = refl
    by commands.Eop = refl

abbrev pub mcf_rounds : ℕ → ℕ
mcf_rounds most = 49 + (1 + most)

gives_mcf : (e : Env) (k : Place) (most now : ℕ) (heard : List Slot) (h : List Entry) (us : List Slot) (p asked pause : ℕ) → now ≡ asked + 40 → IsClosed heard → IsClosed us → since_answer h ≡ []
    → now + 40 * mcf_rounds most < 18446744073709551615 → After e k most
    → Gets e (mcf_rounds most) now
    (link (calling_core e k.format (calling.AwaitMcf our_dis (dcs_for k.format)) (one_try k.at) [] None (timer asked spans.t4) (spaced p asked) None) heard
    (answering_core (state_after_mcf k.command (answering.Page (heard_dcs k.format))) h (confirming k ∷ []) no_timers (paused pause asked)) us (Some (written (Signals 3))) k.kept) (Last e)
gives_mcf e k most now heard h us p asked pause is quiet closed none fits next =
    let d : Dcs = heard_dcs k.format in
    let a : CallerCore = calling_core e k.format (calling.AwaitMcf our_dis (dcs_for k.format)) (one_try k.at) [] None (timer asked spans.t4) (spaced p asked) None in
    let b : AnswererCore = answering_core (state_after_mcf k.command (answering.Page d)) h (confirming k ∷ []) no_timers (paused pause asked) in
    let last : LastPacket = record { at = asked; span = min pause 2000 } in
    answerer_waits e (1 + most) now a heard b us (Some (written (Signals 3))) k.kept (confirming k) [] last (after_preamble heard) (Last e) (preamble_brings heard quiet) refl refl refl (omega arith)
    (λ t lo hi. awaits_mcf e k.format asked t (dcs_for k.format) (one_try k.at) (spaced p asked) (omega arith) (omega arith))
    (λ later r ts lo hi enough silent same.
    let l : Link = link a ts b us r k.kept in
    let t : answer.TickResult = record { core = answering_core (state_after_mcf k.command (answering.Page d)) h [] (only_t2 later) (spaced pause later); given = Some (confirming k); ended = false } in
    gets_step e most later l _ (Last e)
    (answerer_alone e later l t silent (awaits_mcf e k.format asked later (dcs_for k.format) (one_try k.at) (spaced p asked) (omega arith) (omega arith))
    (answerer_gives b later (confirming k) [] refl (allowed last later enough) ∙ given_is k.command d h (confirming k) later pause asked refl)
    ∙ ap (λ (hs : List Slot). link a hs (answering_core (state_after_mcf k.command (answering.Page d)) h [] (only_t2 later) (spaced pause later)) us (Some (written (Tells mcf))) (kept_on k)) same)
    (next (later + 40) heard h us (timer asked spans.t4) p asked later pause (omega arith) closed refl none (omega arith)))

-- THE COMMAND asks what the image before it means, and the page is confirmed
abbrev accepted : Place → List Entry → List Entry
accepted k h = record { piece = Frame (frame_for k.command); decision = GivesMcf k.command (Some k.page) } ∷ h

command_asks : (e : Env) (k : Place) (h : List Entry) (at now : ℕ) (q : PaceValue) → HasImage e k h
    → answer.first_asked (answering_core (answering.Page (heard_dcs k.format)) h [] (only_t2 at) q) (Frame (frame_for k.command) ∷ []) now ≡ Some (asked_in e k)
command_asks e k h at now q i =
    ap (λ (o : Order). or_else (order_asks (answering.Page (heard_dcs k.format)) h o) None) (command_judges k.command)
    ∙ ap (λ (b : Bool). or_else (if◌then◌else◌ {A = Option Question} b (Some (record { octets = last_image h; dcs = heard_dcs k.format })) None) None) i.one
    ∙ ap (λ (octets : List ℕ). let asked : Question = record { octets = octets; dcs = heard_dcs k.format } in Some asked) i.image

command_came : (e : Env) (k : Place) (h : List Entry) (at now : ℕ) (q : PaceValue) → IsPlace e.job k → HasImage e k h →
    let b : AnswererCore = answering_core (answering.Page (heard_dcs k.format)) h [] (only_t2 at) q in
    answer.came_all (read_by e.reads (answer.first_asked b (Frame (frame_for k.command) ∷ []) now)) b (Frame (frame_for k.command) ∷ []) now
    ≡ answering_core (state_after_mcf k.command (answering.Page (heard_dcs k.format))) (accepted k h) (silent preamble ∷ confirming k ∷ []) no_timers q
command_came e k h at now q is i =
    let b : AnswererCore = answering_core (answering.Page (heard_dcs k.format)) h [] (only_t2 at) q in
    let frame : List ℕ = frame_for k.command in
    ap (λ (o : Option Question). answer.came_all (read_by e.reads o) b (Frame frame ∷ []) now) (command_asks e k h at now q i)
    ∙ ap (λ (r : Reading). answer.came_all r b (Frame frame ∷ []) now) (reads_the_page e k is)
    ∙ ap (λ (o : Order). answer.decided b (Frame frame) (on_order (Some k.page) (answering.Page (heard_dcs k.format)) h o) now) (command_judges k.command)
    ∙ ap (λ (x : Bool). answer.decided b (Frame frame) (if◌then◌else◌ {A = Decision} x (judged k.command (Some k.page)) (if is_repeat h k.command then GivesMcf k.command None else GivesRtn)) now) i.one

abbrev pub command_rounds : ℕ → ℕ
command_rounds most = 1 + mcf_rounds most

gives_command : (e : Env) (k : Place) (most now : ℕ) (ts : List Slot) (h : List Entry) (us : List Slot) (p before at pause said : ℕ) → IsPlace e.job k → before + min p 2000 ≤ now → IsClosed ts → said + 40 ≤ now → HasImage e k h
    → now + 40 * command_rounds most < 18446744073709551615 → After e k most
    → Gets e (command_rounds most) now
    (link (calling_core e k.format (calling.AwaitMcf our_dis (dcs_for k.format)) (one_try k.at) (One (Tells (frame_for k.command)) ∷ []) None None (paused p before) None) ts
    (answering_core (answering.Page (heard_dcs k.format)) h [] (only_t2 at) (spaced pause said)) (after_preamble us) None k.kept) (Last e)
gives_command e k most now ts h us p before at pause said is may quiet free i fits next =
    let frame : List ℕ = frame_for k.command in
    let a : CallerCore = calling_core e k.format (calling.AwaitMcf our_dis (dcs_for k.format)) (one_try k.at) (One (Tells frame) ∷ []) None None (paused p before) None in
    let b : AnswererCore = answering_core (answering.Page (heard_dcs k.format)) h [] (only_t2 at) (spaced pause said) in
    let l : Link = link a ts b (after_preamble us) None k.kept in
    let last : LastPacket = record { at = before; span = min p 2000 } in
    let own : LastPacket = record { at = said; span = 40 } in
    let c : call.TickResult = call.given_first e.writes (job_in e) a now (One (Tells frame) ∷ []) in
    let asked : AnswererCore = answering_core (state_after_mcf k.command (answering.Page (heard_dcs k.format))) (accepted k h) (silent preamble ∷ confirming k ∷ []) no_timers (spaced pause said) in
    let t : answer.TickResult = answer.given_first asked now (silent preamble ∷ confirming k ∷ []) in
    gets_step e (mcf_rounds most) now l _ (Last e)
    (round_is e now l c t
    (caller_turn e.writes (job_in e) now l [] a c (none_brings _ ts) refl (caller_gives e.writes (job_in e) a now (One (Tells frame)) [] refl (allowed last now may)))
    (answerer_turn e.reads now (Some (written (Tells frame))) l (Frame frame ∷ []) asked t (frame_brings frame us (some_octet k.command) (few_octets k.command)) (command_came e k h at now (spaced pause said) is i)
    (answerer_gives asked now (silent preamble) (confirming k ∷ []) refl (allowed own now free))))
    (gives_mcf e k most (now + 40) ts (accepted k h) (after_frame frame us) p now pause refl quiet (frame_closes frame us (some_octet k.command) (few_octets k.command)) refl (omega arith) next)

abbrev pub asks_rounds : ℕ → ℕ
asks_rounds most = 1 + (49 + command_rounds most)

-- AFTER THE IMAGE the caller asks: the preamble, and the command after it
pub asks : (e : Env) (k : Place) (most now : ℕ) (ts : List Slot) (h : List Entry) (us : List Slot) (p before at pause said : ℕ) → IsPlace e.job k → before + 40 ≤ now → IsClosed ts → IsClosed us → said + 40 ≤ now → now ≤ at + 40
    → HasImage e k h → now + 40 * asks_rounds most < 18446744073709551615 → After e k most
    → Gets e (asks_rounds most) now
    (link (calling_core e k.format (calling.AwaitMcf our_dis (dcs_for k.format)) (one_try k.at) (One (Signals 3) ∷ One (Tells (frame_for k.command)) ∷ []) None None (spaced p before) None) ts
    (answering_core (answering.Page (heard_dcs k.format)) h [] (only_t2 at) (spaced pause said)) us None k.kept) (Last e)
asks e k most now ts h us p before at pause said is may quiet closed free soon i fits next =
    let frame : List ℕ = frame_for k.command in
    let a : CallerCore = calling_core e k.format (calling.AwaitMcf our_dis (dcs_for k.format)) (one_try k.at) (One (Signals 3) ∷ One (Tells frame) ∷ []) None None (spaced p before) None in
    let b : AnswererCore = answering_core (answering.Page (heard_dcs k.format)) h [] (only_t2 at) (spaced pause said) in
    let l : Link = link a ts b us None k.kept in
    let last : LastPacket = record { at = before; span = 40 } in
    let after : LastPacket = record { at = now; span = min p 2000 } in
    let c : call.TickResult = call.given_first e.writes (job_in e) a now (One (Signals 3) ∷ One (Tells frame) ∷ []) in
    let t : answer.TickResult = record { core = b; given = None; ended = false } in
    gets_step e (49 + command_rounds most) now l _ (Last e)
    (round_is e now l c t
    (caller_turn e.writes (job_in e) now l [] a c (none_brings _ ts) refl (caller_gives e.writes (job_in e) a now (One (Signals 3)) (One (Tells frame) ∷ []) refl (allowed last now may)))
    (answerer_turn e.reads now (Some (written (Signals 3))) l [] b t (preamble_brings us closed) refl (page_rests (heard_dcs k.format) h at now (spaced pause said) (omega arith) (omega arith))))
    (caller_waits e (command_rounds most) (now + 40) (calling_core e k.format (calling.AwaitMcf our_dis (dcs_for k.format)) (one_try k.at) (One (Tells frame) ∷ []) None None (paused p now) None) ts b (after_preamble us) k.kept
    (One (Tells frame)) [] after (Last e) refl refl (omega arith)
    (λ t lo hi. page_rests (heard_dcs k.format) h at t (spaced pause said) (omega arith) (omega arith))
    (λ later lo hi enough. gives_command e k most later ts h us p now at pause said is enough quiet (omega arith) i (omega arith) next))
