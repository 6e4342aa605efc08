-- The DCS goes, and the training check after it; CFR comes back.
use Rattle.std.proofs.Common.{◌≡◌, ℕ, zero, suc, ◌+◌, ◌-◌, ◌*◌, ◌/◌, ◌<◌, ◌≤◌, min, max, nat_le, Bool, true, false, not, ◌&&◌, List, [], ◌∷◌, ◌++◌, length, take, drop, replicate, Some, None, refl, sym, ◌∙◌, ap, subst, arith, if◌then◌else◌, length-drop, append_assoc}
use Rattle.std.proofs.lemmas.List.{take-append-drop, length-take-le, length-replicate}
use Rattle.fax_runcodes.specs.declared.format.Format.{Format}
use Rattle.fax_frames.specs.Capabilities.{our_dis}
use Rattle.fax_frames.specs.Written.{written_dcs}
use Rattle.fax_frames.proofs.ReadBack.{written_dcs_are_read}
use Rattle.fax_timers.specs.Paces.{PaceValue}
use Rattle.fax_timers.specs.Spans as spans
use Rattle.fax_timers.specs.declared.pace.LastPacket.{LastPacket}
use Rattle.fax_ifp.specs.Elements.{Slot}
use Rattle.fax_ifp.specs.Pieces.{Piece, Frame, Start, Octets, End}
use Rattle.fax_answer.specs.declared.command.Order.{Order}
use Rattle.fax_answer.specs.declared.command.Order.TheVariants as orders
use Rattle.fax_answer.specs.declared.state.State.TheVariants as answering
use Rattle.fax_answer.specs.Calls as answer
use Rattle.fax_answer.specs.Calls.{AnswererCore, no_timers}
use Rattle.fax_answer.specs.History.{Entry, Decision, PassesOver, Trains, GivesCfr, GivesFtt, octets_since, missing_in_training}
use Rattle.fax_answer.specs.Orders.{order_by, order_of}
use Rattle.fax_answer.specs.Replies.{WaitingPacket, silent, preamble, frame_packet}
use Rattle.fax_answer.specs.Table.{Reading, zeros, longest_zeros, has_zero_run, on_order}
use Rattle.fax_call.specs.declared.state.State.TheVariants as calling
use Rattle.fax_call.specs.Calls as call
use Rattle.fax_call.specs.Calls.{CallerCore}
use Rattle.fax_call.specs.Replies.{Due, One, Signals, Tells, Part, written, parts_of, training_check}
use Rattle.fax_laws.specs.delivery.Links.{read_by, Link}
use Rattle.fax_laws.proofs.delivery.Pieces.{IsClosed, IsImaging, after_preamble, after_frame, preamble_brings, signal_brings, signal_opens, frame_brings, frame_closes, part_brings, part_goes_on, end_brings, end_closes}
use Rattle.fax_laws.proofs.delivery.Turns.{Env, job_in, link, allowed, caller_gives, answerer_gives, answerer_alone, caller_turn, answerer_turn, none_brings, round_is, Gets, gets_step, gets_more, answerer_waits}
use Rattle.fax_laws.proofs.delivery.Talk.{dcs_for, heard_dcs, spaced, paused, calling_core, one_try, timer, awaits_cfr, answering_core, only_t2, identified, train_rests, cfr}
use Rattle.fax_laws.proofs.delivery.Goodbye.{Last}
use Rattle.fax_laws.proofs.delivery.Places.{Place, IsPlace}
use Rattle.fax_laws.proofs.delivery.Confirms.{After, text_in}
use Rattle.fax_laws.proofs.delivery.Images.{rounds_with, hears_cfr}

-- A SECOND OF ZEROS stands in so many
zeros_are : (n : ℕ) → zeros (replicate n 0) ≡ n
zeros_are zero = refl
zeros_are (suc n) = ap (λ (m : ℕ). suc m) (zeros_are n)

longest_is : (n : ℕ) → n ≤ longest_zeros (replicate n 0)
longest_is zero = omega arith
longest_is (suc n) =
    let z : zeros (replicate (suc n) 0) ≡ suc n = zeros_are (suc n) in
    let m : longest_zeros (replicate (suc n) 0) ≡ max (zeros (replicate (suc n) 0)) (longest_zeros (replicate n 0)) = refl in
    omega (arith, z, m)

has_run : (octets : List ℕ) → octets ≡ replicate 2700 0 → has_zero_run 1800 octets ≡ true
has_run octets is =
    let long : 2700 ≤ longest_zeros octets = subst (λ (xs : List ℕ). 2700 ≤ longest_zeros xs) (sym is) (longest_is 2700) in
    le_so 1800 (longest_zeros octets) (omega arith)
  where
    le_so : (m n : ℕ) → m ≤ n → nat_le m n ≡ true
    le_so m n h = grind (arith)

-- THE TRAINING CHECK, as parts
record Check (f : Format) : Type 0 where
  fuel : ℕ
  octets : List ℕ
  is : training_check (dcs_for f) ≡ parts_of fuel 8 72 octets
  enough : length octets ≤ fuel
  many : length octets ≡ 2700
  zeros : octets ≡ replicate 2700 0

check : (f : Format) → Check f
unfolding training_check
check f = let zeros : List ℕ = replicate 2700 0 in let size : length zeros ≡ 2700 = length-replicate {A = ℕ} 2700 0 in let fits : length zeros ≤ 2700 = omega (arith, size) in record { fuel = 2700; octets = replicate 2700 0; is = refl; enough = fits; many = size; zeros = refl }

-- a training is under way: nothing was missing since the DCS, and these octets came
pub record InTraining (h : List Entry) (octets : List ℕ) : Type 0 where
  pub whole : missing_in_training h ≡ false
  pub came : octets_since h ≡ octets

abbrev piece_came : Piece → List Entry → List Entry
piece_came piece h = record { piece = piece; decision = PassesOver } ∷ h

part_came : (h : List Entry) (begun octets : List ℕ) → InTraining h begun → InTraining (piece_came (Octets octets) h) (begun ++ octets)
part_came h begun octets i = record { whole = i.whole; came = ap (λ (xs : List ℕ). xs ++ octets) i.came }

-- THE CFR waits after its preamble, and is given
abbrev confirming : WaitingPacket
confirming = silent (frame_packet cfr)

abbrev trained : Format → List Entry → List Entry
trained f h = record { piece = End true; decision = GivesCfr (heard_dcs f) } ∷ h

abbrev pub rounds_on : (size most : ℕ) → ℕ
rounds_on size most = rounds_with size most

gives_cfr : (e : Env) (k : Place) (most now : ℕ) (heard : List Slot) (h : List Entry) (us : List Slot) (p asked pause : ℕ) → IsPlace e.job k → 1 ≤ length (text_in e k) → now ≡ asked + 40 → IsClosed heard → IsClosed us
    → now + 40 * (50 + rounds_on (length (text_in e k)) most) < 18446744073709551615 → After e k most
    → Gets e (50 + rounds_on (length (text_in e k)) most) now
    (link (calling_core e k.format (calling.AwaitCfr our_dis (dcs_for k.format)) (one_try k.at) [] None (timer asked spans.t4) (spaced p asked) None) heard
    (answering_core (answering.Page (heard_dcs k.format)) (trained k.format h) (confirming ∷ []) no_timers (paused pause asked)) us (Some (written (Signals 3))) k.kept) (Last e)
gives_cfr e k most now heard h us p asked pause place some is quiet closed fits next =
    let a : CallerCore = calling_core e k.format (calling.AwaitCfr our_dis (dcs_for k.format)) (one_try k.at) [] None (timer asked spans.t4) (spaced p asked) None in
    let b : AnswererCore = answering_core (answering.Page (heard_dcs k.format)) (trained k.format h) (confirming ∷ []) no_timers (paused pause asked) in
    let last : LastPacket = record { at = asked; span = min pause 2000 } in
    gets_more e (49 + (1 + rounds_on (length (text_in e k)) most)) (50 + rounds_on (length (text_in e k)) most) now _ (Last e) (omega arith)
    (answerer_waits e (1 + rounds_on (length (text_in e k)) most) now a heard b us (Some (written (Signals 3))) k.kept confirming [] last (after_preamble heard) (Last e) (preamble_brings heard quiet) refl refl refl (omega arith)
    (λ t lo hi. awaits_cfr e k.format asked t (dcs_for k.format) (one_try k.at) (spaced p asked) (omega arith) (omega arith))
    (λ later r ts lo hi enough silent same.
    let l : Link = link a ts b us r k.kept in
    let t : answer.TickResult = answer.given_first b later (confirming ∷ []) in
    gets_step e (rounds_on (length (text_in e k)) most) later l _ (Last e)
    (answerer_alone e later l t silent (awaits_cfr e k.format asked later (dcs_for k.format) (one_try k.at) (spaced p asked) (omega arith) (omega arith))
    (answerer_gives b later confirming [] refl (allowed last later enough))
    ∙ ap (λ (hs : List Slot). link a hs (answering_core (answering.Page (heard_dcs k.format)) (trained k.format h) [] (only_t2 later) (spaced pause later)) us (Some (written (Tells cfr))) k.kept) same)
    (hears_cfr e k most (later + 40) heard (trained k.format h) us (timer asked spans.t4) p asked later pause place some (omega arith) closed refl refl (omega arith) next)))

-- THE CHECK, part by part
abbrev training : Env → Place → List Due → ℕ → ℕ → CallerCore
training e k due p before = calling_core e k.format (calling.AwaitCfr our_dis (dcs_for k.format)) (one_try k.at) due None None (spaced p before) None

abbrev listening : Place → List Entry → ℕ → ℕ → ℕ → AnswererCore
listening k h at pause said = answering_core (answering.Train (heard_dcs k.format)) h [] (only_t2 at) (spaced pause said)

le_so : (m n : ℕ) → nat_le m n ≡ true → m ≤ n
le_so m n h = grind (arith)

gt_so : (m n : ℕ) → nat_le m n ≡ false → n < m
gt_so m n h = grind (arith)

check_end : (f : Format) (read : Reading) (h : List Entry) (begun octets : List ℕ) (at now pause said : ℕ) → InTraining h begun → has_zero_run 1800 (begun ++ octets) ≡ true →
    answer.came_all read (answering_core (answering.Train (heard_dcs f)) h [] (only_t2 at) (spaced pause said)) (Octets octets ∷ End true ∷ []) now
    ≡ answering_core (answering.Page (heard_dcs f)) (trained f (piece_came (Octets octets) h)) (silent preamble ∷ confirming ∷ []) no_timers (spaced pause said)
check_end f read h begun octets at now pause said i run =
    let b : AnswererCore = answering_core (answering.Train (heard_dcs f)) (piece_came (Octets octets) h) [] (only_t2 now) (spaced pause said) in
    ap (λ (m : Bool). answer.decided b (End true) (if◌then◌else◌ {A = Decision} (true && (not m && has_zero_run 1800 (octets_since h ++ octets))) (GivesCfr (heard_dcs f)) GivesFtt) now) i.whole
    ∙ ap (λ (xs : List ℕ). answer.decided b (End true) (if◌then◌else◌ {A = Decision} (has_zero_run 1800 (xs ++ octets)) (GivesCfr (heard_dcs f)) GivesFtt) now) i.came
    ∙ ap (λ (x : Bool). answer.decided b (End true) (if◌then◌else◌ {A = Decision} x (GivesCfr (heard_dcs f)) GivesFtt) now) run

-- so many rounds are left for so many octets
abbrev rounds_for : (size most left : ℕ) → ℕ
rounds_for size most left = left / 72 + 1 + (50 + rounds_on size most)

sends_last : (e : Env) (k : Place) (most now : ℕ) (ts : List Slot) (h : List Entry) (us : List Slot) (begun octets : List ℕ) (due : List Due) (p before at pause said : ℕ) → IsPlace e.job k → 1 ≤ length (text_in e k) → due ≡ One (Part 8 true octets) ∷ []
    → 1 ≤ length octets → length octets ≤ 72 → before + 40 ≤ now → IsClosed ts → IsImaging us → InTraining h begun → has_zero_run 1800 (begun ++ octets) ≡ true → said + 40 ≤ now
    → now + 40 * (51 + rounds_on (length (text_in e k)) most) < 18446744073709551615 → After e k most
    → Gets e (51 + rounds_on (length (text_in e k)) most) now (link (training e k due p before) ts (listening k h at pause said) us None k.kept) (Last e)
sends_last e k most now ts h us begun octets due p before at pause said place text is some few may quiet imaging i run free fits next =
    let a : CallerCore = training e k due p before in
    let b : AnswererCore = listening k h at pause said in
    let l : Link = link a ts b us None k.kept in
    let last : LastPacket = record { at = before; span = 40 } in
    let own : LastPacket = record { at = said; span = 40 } in
    let c : call.TickResult =
    record { core = calling_core e k.format (calling.AwaitCfr our_dis (dcs_for k.format)) (one_try k.at) [] None (timer now spans.t4) (spaced p now) None; given = Some (Part 8 true octets) } in
    let heard : AnswererCore = answering_core (answering.Page (heard_dcs k.format)) (trained k.format (piece_came (Octets octets) h)) (silent preamble ∷ confirming ∷ []) no_timers (spaced pause said) in
    let t : answer.TickResult = answer.given_first heard now (silent preamble ∷ confirming ∷ []) in
    gets_more e (1 + (50 + rounds_on (length (text_in e k)) most)) (51 + rounds_on (length (text_in e k)) most) now l (Last e) (omega arith)
    (gets_step e (50 + rounds_on (length (text_in e k)) most) now l _ (Last e)
    (round_is e now l c t
    (caller_turn e.writes (job_in e) now l [] a c (none_brings _ ts) refl (caller_gives e.writes (job_in e) a now (One (Part 8 true octets)) [] is (allowed last now may)))
    (answerer_turn e.reads now (Some (written (Part 8 true octets))) l (Octets octets ∷ End true ∷ []) heard t (end_brings octets us some (omega arith) imaging)
    (check_end k.format (read_by e.reads (answer.first_asked b (Octets octets ∷ End true ∷ []) now)) h begun octets at now pause said i run)
    (answerer_gives heard now (silent preamble) (confirming ∷ []) refl (allowed own now free))))
    (gives_cfr e k most (now + 40) ts (piece_came (Octets octets) h) (Some (written (Part 8 true octets)) ∷ us) p now pause place text refl quiet (end_closes octets us some (omega arith) imaging) (omega arith) next))

-- what waits after a part: some is left
record Left (due : List Due) : Type 0 where
  first : Due
  others : List Due
  is : due ≡ first ∷ others

some_left : (m : ℕ) (octets : List ℕ) → 1 ≤ m → Left (parts_of m 8 72 octets)
some_left zero octets h = absurd (omega (arith, h))
some_left (suc m) octets h = by (nat_le (length octets) 72)
  where
    by : (x : Bool) → Left (if x then One (Part 8 true octets) ∷ [] else One (Part 8 false (take 72 octets)) ∷ parts_of m 8 72 (drop 72 octets))
    by true = record { first = One (Part 8 true octets); others = []; is = refl }
    by false = record { first = One (Part 8 false (take 72 octets)); others = parts_of m 8 72 (drop 72 octets); is = refl }

after_part : (e : Env) (k : Place) (due old : List Due) (octets : List ℕ) (p before now : ℕ) → Left due → call.after_giving (training e k old p before) now (Part 8 false octets) due ≡ training e k due p now
after_part e k due old octets p before now left =
    ap (λ (ds : List Due). call.after_giving (training e k old p before) now (Part 8 false octets) ds) left.is ∙ ap (λ (ds : List Due). training e k ds p now) (sym left.is)

-- after one part of it
abbrev one_sent : Env → Place → ℕ → ℕ → List Slot → List Entry → List Slot → List ℕ → ℕ → ℕ → ℕ → Link
one_sent e k fuel now ts h us octets p pause said =
    link (training e k (parts_of fuel 8 72 (drop 72 octets)) p now) ts (listening k (piece_came (Octets (take 72 octets)) h) now pause said) (Some (written (Part 8 false (take 72 octets))) ∷ us) None k.kept

sends_part : (e : Env) (k : Place) (most fuel now : ℕ) (ts : List Slot) (h : List Entry) (us : List Slot) (octets : List ℕ) (due : List Due) (p before at pause said : ℕ) → nat_le (length octets) 72 ≡ false → 1 ≤ fuel
    → due ≡ One (Part 8 false (take 72 octets)) ∷ parts_of fuel 8 72 (drop 72 octets) → before + 40 ≤ now → IsImaging us → now < 18446744073709551615
    → Gets e (rounds_for (length (text_in e k)) most (length (drop 72 octets))) (now + 40) (one_sent e k fuel now ts h us octets p pause said) (Last e)
    → Gets e (rounds_for (length (text_in e k)) most (length octets)) now (link (training e k due p before) ts (listening k h at pause said) us None k.kept) (Last e)
sends_part e k most fuel now ts h us octets due p before at pause said many further is may imaging fits next =
    let part : List ℕ = take 72 octets in
    let bound : 72 < length octets = gt_so (length octets) 72 many in
    let size : length (take 72 octets) ≡ 72 = length-take-le 72 octets (omega arith) in
    let shorter : length (drop 72 octets) ≡ length octets - 72 = length-drop 72 octets in
    let a : CallerCore = training e k due p before in
    let b : AnswererCore = listening k h at pause said in
    let l : Link = link a ts b us None k.kept in
    let last : LastPacket = record { at = before; span = 40 } in
    let rest : List Due = parts_of fuel 8 72 (drop 72 octets) in
    let c : call.TickResult = record { core = training e k rest p now; given = Some (Part 8 false part) } in
    let new : List Entry = piece_came (Octets part) h in
    let heard : AnswererCore = listening k new now pause said in
    let t : answer.TickResult = record { core = heard; given = None; ended = false } in
    gets_more e (1 + rounds_for (length (text_in e k)) most (length (drop 72 octets))) (rounds_for (length (text_in e k)) most (length octets)) now l (Last e) (omega arith)
    (gets_step e (rounds_for (length (text_in e k)) most (length (drop 72 octets))) now l _ (Last e)
    (round_is e now l c t
    (caller_turn e.writes (job_in e) now l [] a c (none_brings _ ts) refl
    (caller_gives e.writes (job_in e) a now (One (Part 8 false part)) rest is (allowed last now may)
    ∙ ap (λ (x : CallerCore). let r : call.TickResult = record { core = x; given = Some (Part 8 false part) } in r) (after_part e k rest due part p before now (some_left fuel (drop 72 octets) further))))
    (answerer_turn e.reads now (Some (written (Part 8 false part))) l (Octets part ∷ []) heard t (part_brings part us (omega arith) (omega arith) imaging) refl
    (train_rests (heard_dcs k.format) new now now (spaced pause said) (omega arith) fits)))
    next)

sends_check : (fuel : ℕ) (e : Env) (k : Place) (most now : ℕ) (ts : List Slot) (h : List Entry) (us : List Slot) (begun octets : List ℕ) (p before at pause said : ℕ) → IsPlace e.job k → 1 ≤ length (text_in e k)
    → 1 ≤ length octets → length octets ≤ fuel → before + 40 ≤ now → IsClosed ts → IsImaging us → InTraining h begun → has_zero_run 1800 (begun ++ octets) ≡ true → said + 40 ≤ now
    → now + 40 * rounds_for (length (text_in e k)) most (length octets) < 18446744073709551615 → After e k most
    → Gets e (rounds_for (length (text_in e k)) most (length octets)) now (link (training e k (parts_of fuel 8 72 octets) p before) ts (listening k h at pause said) us None k.kept) (Last e)
sends_check zero e k most now ts h us begun octets p before at pause said place text some enough may quiet imaging i run free fits next = absurd (omega arith)
sends_check (suc fuel) e k most now ts h us begun octets p before at pause said place text some enough may quiet imaging i run free fits next =
    by (nat_le (length octets) 72) refl
    (λ many.
    let part : List ℕ = take 72 octets in
    let bound : 72 < length octets = gt_so (length octets) 72 many in
    let size : length (take 72 octets) ≡ 72 = length-take-le 72 octets (omega arith) in
    let shorter : length (drop 72 octets) ≡ length octets - 72 = length-drop 72 octets in
    sends_check fuel e k most (now + 40) ts (piece_came (Octets part) h) (Some (written (Part 8 false part)) ∷ us) (begun ++ part) (drop 72 octets) p now now pause said place text (omega arith) (omega arith) (omega arith) quiet
    (part_goes_on part us (omega arith) (omega arith) imaging) (part_came h begun part i)
    (ap (λ (xs : List ℕ). has_zero_run 1800 xs) (append_assoc begun part (drop 72 octets) ∙ ap (λ (xs : List ℕ). begun ++ xs) (take-append-drop 72 octets)) ∙ run) (omega arith) (omega arith) next)
  where
    by : (x : Bool) → nat_le (length octets) 72 ≡ x
        → (nat_le (length octets) 72 ≡ false → Gets e (rounds_for (length (text_in e k)) most (length (drop 72 octets))) (now + 40) (one_sent e k fuel now ts h us octets p pause said) (Last e))
        → Gets e (rounds_for (length (text_in e k)) most (length octets)) now (link (training e k (parts_of (suc fuel) 8 72 octets) p before) ts (listening k h at pause said) us None k.kept) (Last e)
    by true few more =
        let bound : length octets ≤ 72 = le_so (length octets) 72 few in
        gets_more e (51 + rounds_on (length (text_in e k)) most) (rounds_for (length (text_in e k)) most (length octets)) now (link (training e k (parts_of (suc fuel) 8 72 octets) p before) ts (listening k h at pause said) us None k.kept) (Last e) (omega arith)
        (sends_last e k most now ts h us begun octets (parts_of (suc fuel) 8 72 octets) p before at pause said place text
        (ap (λ (x : Bool). if◌then◌else◌ {A = List Due} x (One (Part 8 true octets) ∷ []) (One (Part 8 false (take 72 octets)) ∷ parts_of fuel 8 72 (drop 72 octets))) few)
        some bound may quiet imaging i run free (omega arith) next)
    by false many more =
        let bound : 72 < length octets = gt_so (length octets) 72 many in
        sends_part e k most fuel now ts h us octets (parts_of (suc fuel) 8 72 octets) p before at pause said many (omega arith)
        (ap (λ (x : Bool). if◌then◌else◌ {A = List Due} x (One (Part 8 true octets) ∷ []) (One (Part 8 false (take 72 octets)) ∷ parts_of fuel 8 72 (drop 72 octets))) many)
        may imaging (omega arith) (more many)

-- THE DCS is given, and after it the signal begins
abbrev pub rounds_of_check : (size most : ℕ) → ℕ
rounds_of_check size most = 1 + (38 + (50 + rounds_on size most))

pub begins_check : (e : Env) (k : Place) (most now : ℕ) (ts : List Slot) (h : List Entry) (us : List Slot) (p before at pause said : ℕ) → IsPlace e.job k → 1 ≤ length (text_in e k) → before + 40 ≤ now → IsClosed ts → IsClosed us
    → missing_in_training h ≡ false → said + 40 ≤ now → now + 40 * rounds_of_check (length (text_in e k)) most < 18446744073709551615 → After e k most
    → Gets e (rounds_of_check (length (text_in e k)) most) now (link (training e k (One (Signals 15) ∷ training_check (dcs_for k.format)) p before) ts (listening k h at pause said) us None k.kept) (Last e)
begins_check e k most now ts h us p before at pause said place text may quiet closed whole free fits next = by (check k.format)
  where
    by : Check k.format → Gets e (rounds_of_check (length (text_in e k)) most) now (link (training e k (One (Signals 15) ∷ training_check (dcs_for k.format)) p before) ts (listening k h at pause said) us None k.kept) (Last e)
    by x =
        let octets : List ℕ = x.octets in
        let size : length x.octets ≡ 2700 = x.many in
        let enough : length x.octets ≤ x.fuel = x.enough in
        let rest : List Due = parts_of x.fuel 8 72 x.octets in
        let some : Left rest = some_left x.fuel x.octets (omega arith) in
        let a : CallerCore = training e k (One (Signals 15) ∷ training_check (dcs_for k.format)) p before in
        let b : AnswererCore = listening k h at pause said in
        let l : Link = link a ts b us None k.kept in
        let last : LastPacket = record { at = before; span = 40 } in
        let c : call.TickResult = record { core = training e k rest p now; given = Some (Signals 15) } in
        let new : List Entry = piece_came (Start 8) h in
        let heard : AnswererCore = listening k new now pause said in
        let t : answer.TickResult = record { core = heard; given = None; ended = false } in
        let after : call.after_giving a now (Signals 15) (training_check (dcs_for k.format)) ≡ training e k rest p now =
        ap (λ (ds : List Due). call.after_giving a now (Signals 15) ds) (x.is ∙ some.is) ∙ ap (λ (ds : List Due). training e k ds p now) (sym some.is) in
        gets_step e (38 + (50 + rounds_on (length (text_in e k)) most)) now l _ (Last e)
        (round_is e now l c t
        (caller_turn e.writes (job_in e) now l [] a c (none_brings _ ts) refl
        (caller_gives e.writes (job_in e) a now (One (Signals 15)) (training_check (dcs_for k.format)) refl (allowed last now may)
        ∙ ap (λ (y : CallerCore). let r : call.TickResult = record { core = y; given = Some (Signals 15) } in r) after))
        (answerer_turn e.reads now (Some (written (Signals 15))) l (Start 8 ∷ []) heard t (signal_brings 15 us (omega arith) closed) refl
        (train_rests (heard_dcs k.format) new now now (spaced pause said) (omega arith) (omega arith))))
        (gets_more e (rounds_for (length (text_in e k)) most (length x.octets)) (38 + (50 + rounds_on (length (text_in e k)) most)) (now + 40) _ (Last e) (omega arith)
        (sends_check x.fuel e k most (now + 40) ts new (Some (written (Signals 15)) ∷ us) [] x.octets p now now pause said place text (omega arith) enough (omega arith) quiet
        (record { started = false; shown = signal_opens 15 us (omega arith) }) (record { whole = whole; came = refl }) (has_run x.octets x.zeros) (omega arith) (omega arith) next))

dcs_trains : (f : Format) → order_of (written_dcs (dcs_for f)) ≡ orders.Train (heard_dcs f)
unfolding order_of
dcs_trains f = ap order_by (written_dcs_are_read (dcs_for f) (4, omega arith, refl))

dcs_came : (f : Format) (read : Reading) (h : List Entry) (start at now : ℕ) (q : PaceValue)
    → answer.came read (answering_core answering.Identify h [] (identified start at) q) (Frame (written_dcs (dcs_for f))) now
    ≡ answering_core (answering.Train (heard_dcs f)) (record { piece = Frame (written_dcs (dcs_for f)); decision = Trains (heard_dcs f) } ∷ h) [] (only_t2 now) q
dcs_came f read h start at now q =
    ap (λ (o : Order). answer.decided (answering_core answering.Identify h [] (identified start at) q) (Frame (written_dcs (dcs_for f))) (on_order read answering.Identify h o) now) (dcs_trains f)

pub gives_dcs : (e : Env) (k : Place) (most now : ℕ) (ts : List Slot) (h : List Entry) (us : List Slot) (p before start at pause said : ℕ) → IsPlace e.job k → 1 ≤ length (text_in e k) → before + min p 2000 ≤ now → IsClosed ts
    → said + 40 ≤ now → now + 40 * (1 + rounds_of_check (length (text_in e k)) most) < 18446744073709551615 → After e k most
    → Gets e (1 + rounds_of_check (length (text_in e k)) most) now
    (link (calling_core e k.format (calling.AwaitCfr our_dis (dcs_for k.format)) (one_try k.at) (One (Tells (written_dcs (dcs_for k.format))) ∷ One (Signals 15) ∷ training_check (dcs_for k.format)) None None (paused p before) None) ts
    (answering_core answering.Identify h [] (identified start at) (spaced pause said)) (after_preamble us) None k.kept) (Last e)
gives_dcs e k most now ts h us p before start at pause said place text may quiet free fits next =
    let frame : List ℕ = written_dcs (dcs_for k.format) in
    let due : List Due = One (Signals 15) ∷ training_check (dcs_for k.format) in
    let a : CallerCore = calling_core e k.format (calling.AwaitCfr our_dis (dcs_for k.format)) (one_try k.at) (One (Tells frame) ∷ due) None None (paused p before) None in
    let b : AnswererCore = answering_core answering.Identify h [] (identified start at) (spaced pause said) in
    let l : Link = link a ts b (after_preamble us) None k.kept in
    let last : LastPacket = record { at = before; span = min p 2000 } in
    let c : call.TickResult = call.given_first e.writes (job_in e) a now (One (Tells frame) ∷ due) in
    let new : List Entry = record { piece = Frame frame; decision = Trains (heard_dcs k.format) } ∷ h in
    let heard : AnswererCore = listening k new now pause said in
    let t : answer.TickResult = record { core = heard; given = None; ended = false } in
    gets_step e (rounds_of_check (length (text_in e k)) most) now l _ (Last e)
    (round_is e now l c t
    (caller_turn e.writes (job_in e) now l [] a c (none_brings _ ts) refl (caller_gives e.writes (job_in e) a now (One (Tells frame)) due refl (allowed last now may)))
    (answerer_turn e.reads now (Some (written (Tells frame))) l (Frame frame ∷ []) heard t (frame_brings frame us (omega arith) (omega arith))
    (dcs_came k.format (read_by e.reads (answer.first_asked b (Frame frame ∷ []) now)) h start at now (spaced pause said))
    (train_rests (heard_dcs k.format) new now now (spaced pause said) (omega arith) (omega arith))))
    (begins_check e k most (now + 40) ts new (after_frame frame us) p now now pause said place text (omega arith) quiet (frame_closes frame us (omega arith) (omega arith)) refl (omega arith) (omega arith) next)
