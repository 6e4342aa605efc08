-- CFR comes, or MCF for the page before, and the image goes, part by part.
use Rattle.std.proofs.Common.{◌≡◌, ℕ, zero, suc, ◌+◌, ◌-◌, ◌*◌, ◌/◌, ◌<◌, ◌≤◌, nat_eq, nat_le, Bool, true, false, not, ◌&&◌, List, [], ◌∷◌, ◌++◌, length, take, drop, Option, Some, None, refl, sym, ◌∙◌, ap, arith, if◌then◌else◌, length-drop, append_assoc}
use Rattle.std.proofs.lemmas.List.{drop-drop, take-append-drop, length-take-le}
use Rattle.fax_frames.specs.Capabilities.{our_dis}
use Rattle.fax_frames.specs.declared.writing.Plain.{Plain}
use Rattle.fax_timers.specs.declared.pace.LastPacket.{LastPacket}
use Rattle.fax_pagestore.specs.Pages.{PageValue}
use Rattle.fax_ifp.specs.Elements.{Slot}
use Rattle.fax_ifp.specs.Pieces.{Piece, Frame, Start, Octets, End}
use Rattle.fax_answer.specs.declared.state.State.TheVariants as answering
use Rattle.fax_answer.specs.Calls as answer
use Rattle.fax_answer.specs.Calls.{AnswererCore, no_timers}
use Rattle.fax_answer.specs.History.{Entry, PassesOver, since_answer, images, octets_since}
use Rattle.fax_call.specs.declared.state.State.TheVariants as calling
use Rattle.fax_call.specs.Calls as call
use Rattle.fax_call.specs.Calls.{CallerCore, TakenPart, formats_of, taken, taken_text, text_if}
use Rattle.fax_call.specs.Delivery.{is_over}
use Rattle.fax_call.specs.Replies.{Due, One, Text, Signals, Tells, Part, image, written}
use Rattle.fax_laws.specs.delivery.Links.{Link, pieces_with, slots_with}
use Rattle.fax_laws.proofs.delivery.Pieces.{IsClosed, IsImaging, after_preamble, after_frame, signal_brings, signal_opens, frame_brings, frame_closes, part_brings, part_goes_on, end_brings, end_closes}
use Rattle.fax_laws.proofs.delivery.Turns.{Env, job_in, link, allowed, caller_gives, caller_turn, answerer_turn, none_brings, round_is, Gets, gets_step, gets_more}
use Rattle.fax_laws.proofs.delivery.Talk.{dcs_for, heard_dcs, spaced, calling_core, one_try, answering_core, only_t2, page_rests, cfr}
use Rattle.fax_laws.proofs.delivery.Places.{Place, IsPlace, frame_for, is_at, command_is}
use Rattle.fax_laws.proofs.delivery.Goodbye.{Last}
use Rattle.fax_laws.proofs.delivery.Confirms.{text_in, HasImage, After, asks_rounds, asks}

-- an image is under way since the last answer: these octets came
pub record InImage (h : List Entry) (octets : List ℕ) : Type 0 where
  pub none : images (since_answer h) ≡ 0
  pub came : octets_since h ≡ octets

abbrev piece_came : Piece → List Entry → List Entry
piece_came piece h = record { piece = piece; decision = PassesOver } ∷ h

part_came : (h : List Entry) (begun octets : List ℕ) → InImage h begun → InImage (piece_came (Octets octets) h) (begun ++ octets)
part_came h begun octets i =
    record {
      none = ap (λ (n : ℕ). 0 + n) i.none;
      came = ap (λ (xs : List ℕ). xs ++ octets) i.came;
    }

end_came : (e : Env) (k : Place) (h : List Entry) (begun octets : List ℕ) → InImage h begun → begun ++ octets ≡ text_in e k → HasImage e k (piece_came (End true) (piece_came (Octets octets) h))
end_came e k h begun octets i whole =
    record {
      one = ap (λ (n : ℕ). nat_eq (1 + (0 + n)) 1 && (true && not false)) i.none;
      image = ap (λ (xs : List ℕ). xs ++ octets) i.came ∙ whole;
    }

-- THE TEXT, part by part
abbrev asking : Place → List Due
asking k = One (Signals 3) ∷ One (Tells (frame_for k.command)) ∷ []

abbrev sending : Env → Place → ℕ → ℕ → ℕ → CallerCore
sending e k from p before = calling_core e k.format (calling.AwaitMcf our_dis (dcs_for k.format)) (one_try k.at) (Text k.at (dcs_for k.format) from ∷ asking k) None None (spaced p before) None

abbrev listening : Place → List Entry → ℕ → ℕ → ℕ → AnswererCore
listening k h at pause said = answering_core (answering.Page (heard_dcs k.format)) h [] (only_t2 at) (spaced pause said)

le_true : (m n : ℕ) → nat_le m n ≡ true → m ≤ n
le_true m n h = grind (arith)

le_false : (m n : ℕ) → nat_le m n ≡ false → n < m
le_false m n h = grind (arith)

abbrev last_part : Env → Place → ℕ → TakenPart
last_part e k from = record { packet = Part 8 true (drop from (text_in e k)); rest = asking k }

abbrev one_part : Env → Place → ℕ → TakenPart
one_part e k from = record { packet = Part 8 false (take 72 (drop from (text_in e k))); rest = Text k.at (dcs_for k.format) (from + 72) ∷ asking k }

taken_is : (e : Env) (k : Place) (from : ℕ) (x : Bool) → IsPlace e.job k → nat_le (length (drop from (text_in e k))) 72 ≡ x
    → taken e.writes (job_in e) (Text k.at (dcs_for k.format) from) (asking k) ≡ if◌then◌else◌ {A = TakenPart} x (last_part e k from) (one_part e k from)
taken_is e k from x i is =
    ap (λ (o : Option PageValue). taken_text k.at (dcs_for k.format) from (text_if e.writes (dcs_for k.format) o) (asking k)) (is_at e.job k i)
    ∙ ap (λ (b : Bool). if◌then◌else◌ {A = TakenPart} b (last_part e k from) (one_part e k from)) is

-- so many rounds are left for so many octets, and those of the command after them
abbrev pub rounds_for : (left most : ℕ) → ℕ
rounds_for left most = left / 72 + 1 + asks_rounds most

sends_last : (e : Env) (k : Place) (most from now : ℕ) (ts : List Slot) (h : List Entry) (us : List Slot) (begun : List ℕ) (p before at pause said : ℕ) → IsPlace e.job k → nat_le (length (drop from (text_in e k))) 72 ≡ true
    → 1 ≤ length (drop from (text_in e k)) → before + 40 ≤ now → IsClosed ts → IsImaging us → InImage h begun → begun ++ drop from (text_in e k) ≡ text_in e k → said + 40 ≤ now → now ≤ at + 40
    → now + 40 * (1 + asks_rounds most) < 18446744073709551615 → After e k most
    → Gets e (1 + asks_rounds most) now (link (sending e k from p before) ts (listening k h at pause said) us None k.kept) (Last e)
sends_last e k most from now ts h us begun p before at pause said is few some may quiet imaging i whole free soon fits next =
    let octets : List ℕ = drop from (text_in e k) in
    let bound : length (drop from (text_in e k)) ≤ 72 = le_true (length (drop from (text_in e k))) 72 few in
    let a : CallerCore = sending e k from p before in
    let b : AnswererCore = listening k h at pause said in
    let l : Link = link a ts b us None k.kept in
    let last : LastPacket = record { at = before; span = 40 } in
    let part : TakenPart = last_part e k from in
    let c : call.TickResult = record { core = call.after_giving a now part.packet part.rest; given = Some part.packet } in
    let new : List Entry = piece_came (End true) (piece_came (Octets octets) h) in
    let heard : AnswererCore = listening k new now pause said in
    let t : answer.TickResult = record { core = heard; given = None; ended = false } in
    gets_step e (asks_rounds most) now l _ (Last e)
    (round_is e now l c t
    (caller_turn e.writes (job_in e) now l [] a c (none_brings _ ts) refl
    (caller_gives e.writes (job_in e) a now (Text k.at (dcs_for k.format) from) (asking k) refl (allowed last now may)
    ∙ ap (λ (x : TakenPart). let r : call.TickResult = record { core = call.after_giving a now x.packet x.rest; given = Some x.packet } in r) (taken_is e k from true is few)))
    (answerer_turn e.reads now (Some (written (Part 8 true octets))) l (Octets octets ∷ End true ∷ []) heard t (end_brings octets us some (omega arith) imaging) refl
    (page_rests (heard_dcs k.format) new now now (spaced pause said) (omega arith) (omega arith))))
    (asks e k most (now + 40) ts new (Some (written (Part 8 true octets)) ∷ us) p now now pause said is (omega arith) quiet (end_closes octets us some (omega arith) imaging) (omega arith) (omega arith)
    (end_came e k h begun octets i whole) (omega arith) next)

-- after one part of it
abbrev one_sent : Env → Place → ℕ → ℕ → List Slot → List Entry → List Slot → ℕ → ℕ → ℕ → Link
one_sent e k from now ts h us p pause said =
    let octets : List ℕ = take 72 (drop from (text_in e k)) in
    link (sending e k (from + 72) p now) ts (listening k (piece_came (Octets octets) h) now pause said) (Some (written (Part 8 false octets)) ∷ us) None k.kept

-- what is left after it
record IsRest (left rest : List ℕ) : Type 0 where
  is : rest ≡ drop 72 left
  many : length rest + 72 ≡ length left
  part : length (take 72 left) ≡ 72

rest_of : (text : List ℕ) (from : ℕ) → nat_le (length (drop from text)) 72 ≡ false → IsRest (drop from text) (drop (from + 72) text)
rest_of text from many =
    let bound : 72 < length (drop from text) = le_false (length (drop from text)) 72 many in
    let rest : drop (from + 72) text ≡ drop 72 (drop from text) = sym (drop-drop 72 from text) in
    let shorter : length (drop (from + 72) text) ≡ length (drop from text) - 72 = ap (λ (xs : List ℕ). length xs) rest ∙ length-drop 72 (drop from text) in
    record { is = rest; many = omega arith; part = length-take-le 72 (drop from text) (omega arith) }

sends_part : (e : Env) (k : Place) (most from now : ℕ) (ts : List Slot) (h : List Entry) (us : List Slot) (p before at pause said : ℕ) → IsPlace e.job k → nat_le (length (drop from (text_in e k))) 72 ≡ false
    → before + 40 ≤ now → IsImaging us → now < 18446744073709551615
    → Gets e (rounds_for (length (drop (from + 72) (text_in e k))) most) (now + 40) (one_sent e k from now ts h us p pause said) (Last e)
    → Gets e (rounds_for (length (drop from (text_in e k))) most) now (link (sending e k from p before) ts (listening k h at pause said) us None k.kept) (Last e)
sends_part e k most from now ts h us p before at pause said is many may imaging fits next =
    let octets : List ℕ = take 72 (drop from (text_in e k)) in
    let r : IsRest (drop from (text_in e k)) (drop (from + 72) (text_in e k)) = rest_of (text_in e k) from many in
    let shorter : length (drop (from + 72) (text_in e k)) + 72 ≡ length (drop from (text_in e k)) = r.many in
    let size : length (take 72 (drop from (text_in e k))) ≡ 72 = r.part in
    let a : CallerCore = sending e k from p before in
    let b : AnswererCore = listening k h at pause said in
    let l : Link = link a ts b us None k.kept in
    let last : LastPacket = record { at = before; span = 40 } in
    let part : TakenPart = one_part e k from in
    let c : call.TickResult = record { core = call.after_giving a now part.packet part.rest; given = Some part.packet } in
    let new : List Entry = piece_came (Octets octets) h in
    let heard : AnswererCore = listening k new now pause said in
    let t : answer.TickResult = record { core = heard; given = None; ended = false } in
    gets_more e (1 + rounds_for (length (drop (from + 72) (text_in e k))) most) (rounds_for (length (drop from (text_in e k))) most) now l (Last e) (omega arith)
    (gets_step e (rounds_for (length (drop (from + 72) (text_in e k))) most) now l _ (Last e)
    (round_is e now l c t
    (caller_turn e.writes (job_in e) now l [] a c (none_brings _ ts) refl
    (caller_gives e.writes (job_in e) a now (Text k.at (dcs_for k.format) from) (asking k) refl (allowed last now may)
    ∙ ap (λ (x : TakenPart). let y : call.TickResult = record { core = call.after_giving a now x.packet x.rest; given = Some x.packet } in y) (taken_is e k from false is many)))
    (answerer_turn e.reads now (Some (written (Part 8 false octets))) l (Octets octets ∷ []) heard t (part_brings octets us (omega arith) (omega arith) imaging) refl
    (page_rests (heard_dcs k.format) new now now (spaced pause said) (omega arith) fits)))
    next)

sends_text : (fuel : ℕ) (e : Env) (k : Place) (most from now : ℕ) (ts : List Slot) (h : List Entry) (us : List Slot) (begun : List ℕ) (p before at pause said : ℕ) → IsPlace e.job k → length (drop from (text_in e k)) ≤ fuel
    → 1 ≤ length (drop from (text_in e k)) → before + 40 ≤ now → IsClosed ts → IsImaging us → InImage h begun → begun ++ drop from (text_in e k) ≡ text_in e k → said + 40 ≤ now → now ≤ at + 40
    → now + 40 * rounds_for (length (drop from (text_in e k))) most < 18446744073709551615 → After e k most
    → Gets e (rounds_for (length (drop from (text_in e k))) most) now (link (sending e k from p before) ts (listening k h at pause said) us None k.kept) (Last e)
sends_text zero e k most from now ts h us begun p before at pause said is enough some may quiet imaging i whole free soon fits next = absurd (omega arith)
sends_text (suc fuel) e k most from now ts h us begun p before at pause said is enough some may quiet imaging i whole free soon fits next =
    by (nat_le (length (drop from (text_in e k))) 72) refl
    (λ many.
    let octets : List ℕ = take 72 (drop from (text_in e k)) in
    let r : IsRest (drop from (text_in e k)) (drop (from + 72) (text_in e k)) = rest_of (text_in e k) from many in
    let shorter : length (drop (from + 72) (text_in e k)) + 72 ≡ length (drop from (text_in e k)) = r.many in
    let size : length (take 72 (drop from (text_in e k))) ≡ 72 = r.part in
    let bound : 72 < length (drop from (text_in e k)) = le_false (length (drop from (text_in e k))) 72 many in
    sends_text fuel e k most (from + 72) (now + 40) ts (piece_came (Octets octets) h) (Some (written (Part 8 false octets)) ∷ us) (begun ++ octets) p now now pause said is (omega arith) (omega arith)
    (omega arith) quiet (part_goes_on octets us (omega arith) (omega arith) imaging) (part_came h begun octets i)
    (ap (λ (xs : List ℕ). (begun ++ octets) ++ xs) r.is ∙ append_assoc begun octets (drop 72 (drop from (text_in e k)))
    ∙ ap (λ (xs : List ℕ). begun ++ xs) (take-append-drop 72 (drop from (text_in e k))) ∙ whole)
    (omega arith) (omega arith) (omega arith) next)
  where
    by : (x : Bool) → nat_le (length (drop from (text_in e k))) 72 ≡ x
        → (nat_le (length (drop from (text_in e k))) 72 ≡ false → Gets e (rounds_for (length (drop (from + 72) (text_in e k))) most) (now + 40) (one_sent e k from now ts h us p pause said) (Last e))
        → Gets e (rounds_for (length (drop from (text_in e k))) most) now (link (sending e k from p before) ts (listening k h at pause said) us None k.kept) (Last e)
    by true few more =
        gets_more e (1 + asks_rounds most) (rounds_for (length (drop from (text_in e k))) most) now (link (sending e k from p before) ts (listening k h at pause said) us None k.kept) (Last e) (omega arith)
        (sends_last e k most from now ts h us begun p before at pause said is few some may quiet imaging i whole free soon (omega arith) next)
    by false many more = sends_part e k most from now ts h us p before at pause said is many may imaging (omega arith) (more many)

-- A FRAME COMES at which the image begins
abbrev pub rounds_with : (left most : ℕ) → ℕ
rounds_with left most = 1 + rounds_for left most

abbrev pub image_due : Env → Place → ℕ → ℕ → CallerCore
image_due e k p before = calling_core e k.format (calling.AwaitMcf our_dis (dcs_for k.format)) (one_try k.at) (One (Signals 14) ∷ Text k.at (dcs_for k.format) 0 ∷ asking k) None None (spaced p before) None

pub image_begins : (e : Env) (k : Place) (a : CallerCore) (frame : List ℕ) (most now : ℕ) (ts : List Slot) (h : List Entry) (us : List Slot) (p before at pause : ℕ) → IsPlace e.job k → is_over a.state ≡ false
    → call.came_all a (Frame frame ∷ []) now ≡ image_due e k p before → 1 ≤ length frame → length frame ≤ 256 → 1 ≤ length (text_in e k) → before + 40 ≤ now → IsClosed us → since_answer h ≡ [] → at + 40 ≡ now
    → now + 40 * rounds_with (length (text_in e k)) most < 18446744073709551615 → After e k most
    → Gets e (rounds_with (length (text_in e k)) most) now (link a (after_preamble ts) (listening k h at pause at) us (Some (written (Tells frame))) k.kept) (Last e)
image_begins e k a frame most now ts h us p before at pause is on came one few some may closed none same fits next =
    let moved : CallerCore = image_due e k p before in
    let b : AnswererCore = listening k h at pause at in
    let l : Link = link a (after_preamble ts) b us (Some (written (Tells frame))) k.kept in
    let last : LastPacket = record { at = before; span = 40 } in
    let due : List Due = Text k.at (dcs_for k.format) 0 ∷ asking k in
    let c : call.TickResult = call.given_first e.writes (job_in e) moved now (One (Signals 14) ∷ due) in
    let new : List Entry = piece_came (Start 8) h in
    let heard : AnswererCore = listening k new now pause at in
    let t : answer.TickResult = record { core = heard; given = None; ended = false } in
    gets_step e (rounds_for (length (text_in e k)) most) now l _ (Last e)
    (round_is e now l c t
    (caller_turn e.writes (job_in e) now l (Frame frame ∷ []) moved c
    (ap (λ (x : Bool). pieces_with (Some (written (Tells frame))) x (after_preamble ts)) on ∙ frame_brings frame ts one few) came
    (caller_gives e.writes (job_in e) moved now (One (Signals 14)) due refl (allowed last now may)))
    (answerer_turn e.reads now (Some (written (Signals 14))) l (Start 8 ∷ []) heard t (signal_brings 14 us (omega arith) closed) refl
    (page_rests (heard_dcs k.format) new now now (spaced pause at) (omega arith) (omega arith)))
    ∙ ap (λ (x : Bool). link (sending e k 0 p now) (slots_with (Some (written (Tells frame))) x (after_preamble ts)) heard (Some (written (Signals 14)) ∷ us) None k.kept) on)
    (sends_text (length (text_in e k)) e k most 0 (now + 40) (after_frame frame ts) new (Some (written (Signals 14)) ∷ us) [] p now now pause at is (omega arith) some (omega arith)
    (frame_closes frame ts one few) (record { started = false; shown = signal_opens 14 us (omega arith) })
    (record { none = ap (λ (es : List Entry). 0 + images es) none; came = refl }) refl (omega arith) (omega arith) (omega arith) next)

-- THE CFR COMES
pub hears_cfr : (e : Env) (k : Place) (most now : ℕ) (ts : List Slot) (h : List Entry) (us : List Slot) (t4 : Option ℕ) (p before at pause : ℕ) → IsPlace e.job k → 1 ≤ length (text_in e k) → before + 40 ≤ now → IsClosed us
    → since_answer h ≡ [] → at + 40 ≡ now → now + 40 * rounds_with (length (text_in e k)) most < 18446744073709551615 → After e k most
    → Gets e (rounds_with (length (text_in e k)) most) now
    (link (calling_core e k.format (calling.AwaitCfr our_dis (dcs_for k.format)) (one_try k.at) [] None t4 (spaced p before) None) (after_preamble ts) (listening k h at pause at) us (Some (written (Tells cfr))) k.kept) (Last e)
hears_cfr e k most now ts h us t4 p before at pause is some may closed none same fits next =
    let a : CallerCore = calling_core e k.format (calling.AwaitCfr our_dis (dcs_for k.format)) (one_try k.at) [] None t4 (spaced p before) None in
    image_begins e k a cfr most now ts h us p before at pause is refl
    (ap (λ (c : Plain). calling_core e k.format (calling.AwaitMcf our_dis (dcs_for k.format)) (one_try k.at) (image c k.at (dcs_for k.format)) None None (spaced p before) None) (command_is e.job k is))
    (omega arith) (omega arith) some may closed none same fits next
