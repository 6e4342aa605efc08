-- Between two pages of a job, and after the last one: what follows after an MCF.
use Rattle.std.proofs.Common.{◌≡◌, ℕ, ◌+◌, ◌*◌, ◌<◌, ◌≤◌, min, nat_le, Bool, true, false, List, [], ◌∷◌, ◌++◌, length, replicate, Option, Some, None, refl, sym, ◌∙◌, ap, arith, append_assoc, if◌then◌else◌}
use Rattle.fax_bits.specs.Bits.{bits_of}
use Rattle.fax_bits.specs.Writing.{IsPadded}
use Rattle.fax_runcodes.specs.declared.format.Coding.TheVariants.{Mr}
use Rattle.fax_runcodes.specs.declared.format.Format.{Format}
use Rattle.fax_frames.specs.Capabilities.{our_dis}
use Rattle.fax_frames.specs.declared.dcs.Dcs.{Dcs}
use Rattle.fax_frames.specs.declared.writing.Plain.{Plain}
use Rattle.fax_timers.specs.Moments.{moment_after, is_due}
use Rattle.fax_timers.specs.Paces.{PaceValue}
use Rattle.fax_timers.specs.declared.pace.LastPacket.{LastPacket}
use Rattle.fax_pagestore.specs.PageTexts.{end_of_line}
use Rattle.fax_pagestore.specs.Pages.{PageValue}
use Rattle.fax_pagestore.specs.WrittenPages.{WritesPage, tag_bits, ends_of_line}
use Rattle.fax_ifp.specs.Elements.{Slot}
use Rattle.fax_ifp.specs.Pieces.{Frame}
use Rattle.fax_answer.specs.declared.command.Command.{Command}
use Rattle.fax_answer.specs.declared.command.Command.TheVariants as commands
use Rattle.fax_answer.specs.declared.state.State.TheVariants as answering
use Rattle.fax_answer.specs.Calls as answer
use Rattle.fax_answer.specs.Calls.{AnswererCore}
use Rattle.fax_answer.specs.History.{Entry}
use Rattle.fax_answer.specs.Replies.{ConfirmedPage, silent, preamble}
use Rattle.fax_call.specs.declared.state.State.TheVariants as calling
use Rattle.fax_call.specs.Calls as call
use Rattle.fax_call.specs.Calls.{CallerCore, formats_of}
use Rattle.fax_call.specs.Replies.{Tells, written, image, is_last_page, same_format, turn_after}
use Rattle.fax_call.specs.Table.{Closes, Move, Sends, next_page, one_delivered, turns_or}
use Rattle.fax_jobs.specs.declared.outcome.Outcome.TheVariants as outcomes
use Rattle.fax_call.specs.Writings.{IsWrittenAs, Writing}
use Rattle.fax_call.proofs.Due.{same_format_is}
use Rattle.fax_laws.specs.delivery.Links.{Link}
use Rattle.fax_laws.proofs.delivery.Pieces.{IsClosed, after_preamble, after_frame, frame_brings, frame_closes}
use Rattle.fax_laws.proofs.delivery.Turns.{Env, job_in, link, allowed, answerer_alone, at_rest, both_rest, caller_turn, answerer_turn, none_brings, round_is, run, stays, Gets, gets_on, gets_from, gets_more, gets_step, Wait, wait_for}
use Rattle.fax_laws.proofs.delivery.Talk.{dcs_for, heard_dcs, spaced, paused, calling_core, before_try, one_try, awaits_dis, answering_core, only_t2, again_rests, mcf}
use Rattle.fax_laws.proofs.delivery.Places.{Place, IsPlace, command_for, command_is, is_next, kept_on, last_is, many_left, next_place, none_last, turn_is}
use Rattle.fax_laws.proofs.delivery.Goodbye.{IsAll, Last, hears_mcf}
use Rattle.fax_laws.proofs.delivery.Confirms.{After, text_in}
use Rattle.fax_laws.proofs.delivery.Images.{image_begins, image_due, rounds_with}
use Rattle.fax_laws.proofs.delivery.Begins.{awaiting, gives_dis, identifying, only_t1, rounds_of_dis}

-- a text begins with an EOL, so it has an octet
begins_so : (more : List Bool) → bits_of [] ≡ end_of_line ++ more → ⊥
unfolding bits_of end_of_line
begins_so more h = cc

some_octet : (octets : List ℕ) (more : List Bool) → bits_of octets ≡ end_of_line ++ more → 1 ≤ length octets
some_octet [] more h = absurd (begins_so more h)
some_octet (o ∷ octets) more h = omega arith

pub text_some : (e : Env) (k : Place) → IsPlace e.job k → 1 ≤ length (text_in e k)
text_some e k i = let w : IsWrittenAs k.page Mr 0 (text_in e k) = e.is_writing k.page Mr 0 i.is_page in by (text_in e k) w.text w.writes w.padded
  where
    by : (octets : List ℕ) (text : List Bool) → WritesPage Mr k.page.format.fine 0 k.page.rows text → IsPadded octets text → 1 ≤ length octets
    by octets text (lines, rows, is) (zeros, few, p) =
        let rest : List Bool = tag_bits Mr true ++ (lines ++ ends_of_line Mr 5) in
        some_octet octets (rest ++ replicate zeros false) (p ∙ ap (λ (bits : List Bool). bits ++ replicate zeros false) is ∙ append_assoc end_of_line rest (replicate zeros false))

-- a place, by what stands there
abbrev a_place : ℕ → PageValue → List PageValue → Format → Command → List ConfirmedPage → Place
a_place at page rest format c kept = record { at = at; page = page; rest = rest; format = format; command = c; kept = kept }

-- what the caller does at an MCF where pages are left
mcf_moves : (e : Env) (f : Format) (n now : ℕ) (t4 : Option ℕ) (q : PaceValue) (d : Dcs) (turn : Option Format) → is_last_page (length e.job.pages) n ≡ false → turn_after (formats_of e.job) n ≡ turn →
    let a : CallerCore = calling_core e f (calling.AwaitMcf our_dis d) (one_try n) [] None t4 q None in
    call.came_all a (Frame mcf ∷ []) now ≡ call.moved a (turns_or now turn (one_try n) (Sends our_dis d (next_page (one_try n))))
mcf_moves e f n now t4 q d turn none turns =
    let a : CallerCore = calling_core e f (calling.AwaitMcf our_dis d) (one_try n) [] None t4 q None in
    ap (λ (b : Bool). call.moved a (if◌then◌else◌ {A = Move} b (Closes outcomes.Delivered (one_delivered (one_try n))) (turns_or now (turn_after (formats_of e.job) n) (one_try n) (Sends our_dis d (next_page (one_try n)))))) none
    ∙ ap (λ (t : Option Format). call.moved a (turns_or now t (one_try n) (Sends our_dis d (next_page (one_try n))))) turns

either_turn : (b t : Bool) (f : Format) → b ≡ t → (if◌then◌else◌ {A = Option Format} b None (Some f)) ≡ (if◌then◌else◌ {A = Option Format} t None (Some f))
either_turn b t f is = ap (λ (x : Bool). if◌then◌else◌ {A = Option Format} x None (Some f)) is

-- ---- AFTER MPS the next page's image goes, under the same DCS
mps_after : (e : Env) (at : ℕ) (page next : PageValue) (rest : List PageValue) (format : Format) (kept : List ConfirmedPage) (most : ℕ) →
    let k : Place = a_place at page (next ∷ rest) format commands.Mps kept in
    let further : Place = next_place k next rest format in
    IsPlace e.job k → same_format page.format next.format ≡ true → After e further most → After e k (rounds_with (length (text_in e further)) most)
mps_after e at page next rest format kept most i same after now ts h us t4 p before heard pause may closed soon none fits =
    let k : Place = a_place at page (next ∷ rest) format commands.Mps kept in
    let further : Place = next_place k next rest format in
    let is : IsPlace e.job further = is_next e.job at page next rest format format commands.Mps kept i (same_format_is page.format next.format same ∙ i.same) in
    let a : CallerCore = calling_core e format (calling.AwaitMcf our_dis (dcs_for format)) (one_try at) [] None t4 (spaced p before) None in
    let goes : call.came_all a (Frame mcf ∷ []) now ≡ image_due e further p before =
    mcf_moves e format at now t4 (spaced p before) (dcs_for format) None (none_last e.job.pages at page next rest i.left)
    (turn_is e.job at page next rest i.left ∙ either_turn (same_format page.format next.format) true next.format same)
    ∙ ap (λ (c : Plain). calling_core e format (calling.AwaitMcf our_dis (dcs_for format)) (one_try (at + 1)) (image c (at + 1) (dcs_for format)) None None (spaced p before) None) (command_is e.job further is) in
    image_begins e further a mcf most now ts h us p before heard pause is refl goes (omega arith) (omega arith) (text_some e further is) may closed none soon fits after

-- ---- AFTER EOM a DIS is awaited, and the answerer waits for T2
le_so : (m n : ℕ) → m ≤ n → nat_le m n ≡ true
le_so m n h = grind (arith)

is_due_so : (at ms now : ℕ) → at + ms ≤ now → is_due (Some (moment_after at ms)) now ≡ true
is_due_so at ms now h = le_so (min (at + ms) 18446744073709551615) now (omega arith)

wakes : (h : List Entry) (at now pause : ℕ) → at + 6000 ≤ now →
    answer.ticked (answering_core answering.Again h [] (only_t2 at) (spaced pause at)) now
    ≡ record { core = answering_core answering.Identify h (identifying ∷ []) (only_t1 now) (paused pause now); given = Some (silent preamble); ended = false }
wakes h at now pause soon =
    let b : AnswererCore = answering_core answering.Again h [] (only_t2 at) (spaced pause at) in
    let own : LastPacket = record { at = at; span = 40 } in
    let anew : AnswererCore = answer.identifies_anew b now in
    ap (λ (x : Bool). answer.paced (if◌then◌else◌ {A = AnswererCore} x (answer.identifies_anew b now) b) now) (is_due_so at 6000 now soon)
    ∙ ap (λ (x : Bool). if◌then◌else◌ {A = answer.TickResult} x (answer.given_first anew now anew.waiting) (at_rest anew)) (allowed own now (omega arith))

abbrev pub rounds_of_turn : (size most : ℕ) → ℕ
rounds_of_turn size most = 1 + (150 + (1 + rounds_of_dis size most))

waits_again : (e : Env) (k : Place) (most now : ℕ) (ts : List Slot) (h : List Entry) (us : List Slot) (start p before at pause : ℕ) → IsPlace e.job k → before + 40 ≤ now → IsClosed ts → IsClosed us → at + 80 ≡ now → start + 40 ≡ now
    → now + 40 * (150 + (1 + rounds_of_dis (length (text_in e k)) most)) < 18446744073709551615 → After e k most
    → Gets e (150 + (1 + rounds_of_dis (length (text_in e k)) most)) now
    (link (awaiting e k 1 start p before) ts (answering_core answering.Again h [] (only_t2 at) (spaced pause at)) us None k.kept) (Last e)
waits_again e k most now ts h us start p before at pause i may quiet closed soon early fits next =
    let a : CallerCore = awaiting e k 1 start p before in
    let b : AnswererCore = answering_core answering.Again h [] (only_t2 at) (spaced pause at) in
    let l : Link = link a ts b us None k.kept in
    let wait : Wait (at + 6000) now 150 = wait_for (at + 6000) now 150 (omega arith) in
    let few : wait.many ≤ 150 = wait.few in
    let held : run e wait.many now l ≡ l =
    stays e wait.many now l
    (λ j m. both_rest e (now + 40 * j) a ts b us k.kept
    (awaits_dis e k.format start (now + 40 * j) (before_try k.at 1) None (spaced p before) (omega (arith, m)) (omega (arith, m)))
    (again_rests h at (now + 40 * j) (spaced pause at) (wait.before j m) (omega (arith, m)))) in
    gets_on e 150 (1 + rounds_of_dis (length (text_in e k)) most) now l (λ t x. (at + 6000 ≤ t) × (x ≡ l)) (Last e) (record { many = wait.many; few = few; there = (wait.enough, held) })
    (λ later x lo hi q. gets_from e (1 + rounds_of_dis (length (text_in e k)) most) later x l (Last e) q.1
    (let due : at + 6000 ≤ later = q.0 in
    gets_step e (rounds_of_dis (length (text_in e k)) most) later l _ (Last e)
    (answerer_alone e later l (record { core = answering_core answering.Identify h (identifying ∷ []) (only_t1 later) (paused pause later); given = Some (silent preamble); ended = false }) (none_brings _ ts)
    (awaits_dis e k.format start later (before_try k.at 1) None (spaced p before) (omega arith) (omega arith)) (wakes h at later pause q.0))
    (gives_dis e k most (later + 40) ts h us 1 start p before later pause later i (text_some e k i) (omega arith) (omega arith) (omega arith) refl quiet closed (omega arith) next)))

eom_after : (e : Env) (at : ℕ) (page next : PageValue) (rest : List PageValue) (format : Format) (kept : List ConfirmedPage) (most : ℕ) →
    let k : Place = a_place at page (next ∷ rest) format commands.Eom kept in
    let further : Place = next_place k next rest next.format in
    IsPlace e.job k → same_format page.format next.format ≡ false → After e further most → After e k (rounds_of_turn (length (text_in e further)) most)
eom_after e at page next rest format kept most i other after now ts h us t4 p before heard pause may closed soon none fits =
    let k : Place = a_place at page (next ∷ rest) format commands.Eom kept in
    let further : Place = next_place k next rest next.format in
    let is : IsPlace e.job further = is_next e.job at page next rest format next.format commands.Eom kept i refl in
    let a : CallerCore = calling_core e format (calling.AwaitMcf our_dis (dcs_for format)) (one_try at) [] None t4 (spaced p before) None in
    let moved : CallerCore = awaiting e further 1 now p before in
    let b : AnswererCore = answering_core answering.Again h [] (only_t2 heard) (spaced pause heard) in
    let l : Link = link a (after_preamble ts) b us (Some (written (Tells mcf))) (kept_on k) in
    let c : call.TickResult = record { core = moved; given = None } in
    let goes : call.came_all a (Frame mcf ∷ []) now ≡ moved =
    mcf_moves e format at now t4 (spaced p before) (dcs_for format) (Some next.format) (none_last e.job.pages at page next rest i.left)
    (turn_is e.job at page next rest i.left ∙ either_turn (same_format page.format next.format) false next.format other) in
    gets_step e (150 + (1 + rounds_of_dis (length (text_in e further)) most)) now l _ (Last e)
    (round_is e now l c (at_rest b)
    (caller_turn e.writes (job_in e) now l (Frame mcf ∷ []) moved c (frame_brings mcf ts (omega arith) (omega arith)) goes
    (awaits_dis e next.format now now (before_try (at + 1) 1) None (spaced p before) (omega arith) (omega arith)))
    (answerer_turn e.reads now None l [] b (at_rest b) (none_brings _ us) refl (again_rests h heard now (spaced pause heard) (omega arith) (omega arith))))
    (waits_again e further most (now + 40) (after_frame mcf ts) h us now p before heard pause is (omega arith) (frame_closes mcf ts (omega arith) (omega arith)) closed (omega arith) refl (omega arith) after)

-- ---- AFTER EACH PAGE

-- so many rounds are left after an MCF, where these pages are left
abbrev pub rounds_after : Writing → List PageValue → ℕ
rounds_after writes [] = 51
rounds_after writes (next ∷ rest) = rounds_of_turn (length (writes next Mr 0)) (rounds_after writes rest)

after_more : (e : Env) (k : Place) (m n : ℕ) → m ≤ n → After e k m → After e k n
after_more e k m n few after now ts h us t4 p before at pause may closed soon none fits =
    gets_more e m n now _ (Last e) few (after now ts h us t4 p before at pause may closed soon none (omega arith))

not_last : (b : Bool) → commands.Eop ≡ (if◌then◌else◌ {A = Command} b commands.Mps commands.Eom) → ⊥
not_last true h = cc
not_last false h = cc

mps_so : (b : Bool) → commands.Mps ≡ (if◌then◌else◌ {A = Command} b commands.Mps commands.Eom) → b ≡ true
mps_so true h = refl
mps_so false h = cc

eom_so : (b : Bool) → commands.Eom ≡ (if◌then◌else◌ {A = Command} b commands.Mps commands.Eom) → b ≡ false
eom_so true h = cc
eom_so false h = refl

eop_so : (c : Command) → c ≡ commands.Eop → (c ≡ commands.Eom → ⊥) × (c ≡ commands.Mps → ⊥)
eop_so c is = (λ h. let clash : commands.Eom ≡ commands.Eop = sym h ∙ is in cc, λ h. let clash : commands.Mps ≡ commands.Eop = sym h ∙ is in cc)

pub sends_on : (rest : List PageValue) (e : Env) (at : ℕ) (page : PageValue) (format : Format) (c : Command) (kept : List ConfirmedPage) → IsPlace e.job (a_place at page rest format c kept)
    → After e (a_place at page rest format c kept) (rounds_after e.writes rest)
sends_on [] e at page format commands.Eom kept i = absurd ((eop_so commands.Eom i.asks).0 refl)
sends_on [] e at page format commands.Mps kept i = absurd ((eop_so commands.Mps i.asks).1 refl)
sends_on [] e at page format commands.Eop kept i =
    let m : at + 1 + 0 ≡ length e.job.pages = many_left e.job.pages at page [] i.left in
    let all : IsAll e at (record { page = page; closes = true } ∷ kept) = record { last = last_is e.job.pages at page i.left; many = omega (arith, m); kept_so = i.kept_so } in
    λ now ts h us t4 p before heard pause may closed soon none fits.
    hears_mcf e format at (record { page = page; closes = true } ∷ kept) now ts h us t4 p before heard (spaced pause heard) (heard_dcs format) all may closed (omega (arith, soon)) fits
sends_on (next ∷ rest) e at page format commands.Eop kept i = absurd (not_last (same_format page.format next.format) i.asks)
sends_on (next ∷ rest) e at page format commands.Mps kept i =
    let k : Place = a_place at page (next ∷ rest) format commands.Mps kept in
    let same : same_format page.format next.format ≡ true = mps_so (same_format page.format next.format) i.asks in
    let is : IsPlace e.job (next_place k next rest format) = is_next e.job at page next rest format format commands.Mps kept i (same_format_is page.format next.format same ∙ i.same) in
    after_more e k (rounds_with (length (e.writes next Mr 0)) (rounds_after e.writes rest)) (rounds_of_turn (length (e.writes next Mr 0)) (rounds_after e.writes rest)) (omega arith)
    (mps_after e at page next rest format kept (rounds_after e.writes rest) i same (sends_on rest e (at + 1) next format (command_for next.format rest) (record { page = page; closes = false } ∷ kept) is))
sends_on (next ∷ rest) e at page format commands.Eom kept i =
    let k : Place = a_place at page (next ∷ rest) format commands.Eom kept in
    let other : same_format page.format next.format ≡ false = eom_so (same_format page.format next.format) i.asks in
    let is : IsPlace e.job (next_place k next rest next.format) = is_next e.job at page next rest format next.format commands.Eom kept i refl in
    eom_after e at page next rest format kept (rounds_after e.writes rest) i other (sends_on rest e (at + 1) next next.format (command_for next.format rest) (record { page = page; closes = false } ∷ kept) is)
