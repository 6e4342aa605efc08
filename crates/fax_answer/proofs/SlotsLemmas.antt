-- The slots that come, one after another.
use Rattle.std.proofs.Common.{◌≡◌, ℕ, zero, suc, ◌+◌, ◌<◌, ◌&&◌, not, Bool, true, false, List, [], ◌∷◌, ◌++◌, length, take, reverse, replicate, map, Option, Some, None, Result, Ok, Err, get_or, refl, sym, ◌∙◌, ap, subst, arith, append_assoc, if◌then◌else◌}
use Rattle.std.proofs.lemmas.List.{append-nil, reverse-append, length-append, map-append, take_more}
use Rattle.std.specs.Borrow.{Bor}
use Rattle.std.specs.Option.{is_some}
use Rattle.fax_bits.specs.declared.memory.NoMemory.{NoMemory}
use Rattle.fax_frames.specs.declared.dcs.Dcs.{Dcs}
use Rattle.fax_pagestore.specs.Pages.{PageValue}
use Rattle.fax_pagestore.specs.Readers.{ReaderValue}
use Rattle.std.specs.Result.{OnOk, is_err}
use Rattle.fax_ifp.specs.declared.piece.Piece as code_pieces
use Rattle.fax_ifp.specs.Shown.{piece_of, pieces_shown}
use Rattle.fax_udptl.specs.Reading.{texts}
use Rattle.fax_udptl.specs.Taking.{DecidedValue, slots_in}
use Rattle.fax_ifp.specs.Elements.{Slot}
use Rattle.fax_ifp.specs.Pieces.{Piece, Octets, Gap, pieces}
use Rattle.fax_ifp.specs.Tracked.{TrackState, IsTracked, TracksRun, GivesRun, Tracks, Gives, lost_slots, with_octets}
use Rattle.fax_answer.specs.declared.procedure.Procedure.{Procedure}
use Rattle.fax_answer.specs.declared.timers.Timers.{Timers}
use Rattle.fax_timers.specs.Moments.{moment_after}
use Rattle.fax_timers.specs.Spans as spans
use Rattle.fax_answer.specs.declared.counts.Counts.{Counts}
use Rattle.fax_answer.specs.declared.counts.Images.{Images}
use Rattle.fax_answer.specs.declared.image.Accepted.{Accepted}
use Rattle.fax_answer.specs.declared.state.State.{State}
use Rattle.fax_answer.specs.History.{Entry, PassesOver, since_answer, images, octets_since, last_image, last_whole, repeated}
use Rattle.fax_answer.specs.Table.{is_one_image}
use Rattle.fax_answer.specs.Replies.{ConfirmedPage, is_waiting}
use Rattle.fax_answer.specs.Calls.{AnswererCore, decided, came, timers_after}
use Rattle.fax_answer.specs.Watching.{Telling, TellsNothing, CameTold, telling, telling_with}
use Rattle.fax_answer.specs.Rep.{seen}
use Rattle.fax_answer.specs.Images.{ImageValue, HasOpen, HasEnded, MeansAt, Confirms}
use Rattle.fax_answer.specs.Following.{Rests, Follows, readers_wanted}
use Rattle.fax_answer.specs.Reached.{Rep, Holds, HoldsPage, Stands, IsReached, Takes, TakesAll, Hears, HearsTold, HearsSo}
use Rattle.fax_answer.specs.declared.refusal.Refusal.{Refusal}
use Rattle.fax_answer.specs.Refusals.{HasReason}
use Rattle.fax_answer.proofs.Held.{holds_gap}
use Rattle.fax_answer.proofs.Refused.{reason_over}
use Rattle.fax_answer.proofs.ReachedLemmas.{settled_follows}
use Rattle.fax_answer.proofs.Tellings.{came_told_one, came_told_append, tellings_join}

-- PIECES, one after another
pub takes_none : (Tells : List Telling → Type 0) (core : AnswererCore) (now : ℕ) (old : Rep) → Tells [] → Stands core old → TakesAll Tells [] now core old
takes_none Tells core now old t s = record { after = core; told = []; came = (refl, refl); tells = t; stands = s }

-- this is told, and then that
abbrev pub Joins : (First Then Both : List Telling → Type 0) → Type 0
Joins First Then Both = (s t : List Telling) → First s → Then t → Both (s ++ t)

pub takes_more : (First Then Both : List Telling → Type 0) (joins : Joins First Then Both) (core : AnswererCore) (now : ℕ) (ps : List Piece) (p : Piece) (mid new : Rep) → TakesAll First ps now core mid
    → ((a : AnswererCore) → Stands a mid → Takes Then p now a new) → TakesAll Both (ps ++ p ∷ []) now core new
takes_more First Then Both joins core now ps p mid new t f =
    let n : Takes Then p now t.after new = f t.after t.stands in
    let after : AnswererCore = came n.read t.after p now in
    let later : List Telling = telling_with p (telling n.read t.after p) [] in
    record {
      after = after;
      told = t.told ++ later;
      came = came_told_append core t.after after ps (p ∷ []) now t.told later t.came (came_told_one t.after p now n.read n.right);
      tells = joins t.told later t.tells n.tells;
      stands = n.stands;
    }

pub takes_one : (Tells : List Telling → Type 0) (core : AnswererCore) (now : ℕ) (p : Piece) (mid new : Rep) → ((a : AnswererCore) → Stands a mid → Stands a new) → Takes Tells p now core mid → TakesAll Tells (p ∷ []) now core new
takes_one Tells core now p mid new f t =
    let after : AnswererCore = came t.read core p now in
    record { after = after; told = telling_with p (telling t.read core p) []; came = came_told_one core p now t.read t.right; tells = t.tells; stands = f after t.stands }

-- LOST SLOTS
gapped : AnswererCore → ℕ → AnswererCore
gapped core now = decided core Gap PassesOver now

abbrev gaps : ℕ → AnswererCore → ℕ → AnswererCore
gaps zero core now = core
gaps (suc n) core now = gaps n (decided core Gap PassesOver now) now

came_gaps : (n : ℕ) (core : AnswererCore) (now : ℕ) → CameTold core (replicate n Gap) now (gaps n core now) []
came_gaps zero core now = (refl, refl)
came_gaps (suc n) core now = (None, tt, [], refl, came_gaps n (decided core Gap PassesOver now) now)

holds_gaps : (n : ℕ) (core : AnswererCore) (now : ℕ) (i : ImageValue) → Holds core.state core.history i → Holds (gaps n core now).state (gaps n core now).history i
holds_gaps zero core now i h = h
holds_gaps (suc n) core now i h = holds_gaps n (decided core Gap PassesOver now) now i (holds_gap core.state core.history i h)

reason_gaps : (n : ℕ) (core : AnswererCore) (now : ℕ) (told : Option Refusal) → HasReason core told → HasReason (gaps n core now) told
reason_gaps zero core now told r = r
reason_gaps (suc n) core now told r = reason_gaps n (decided core Gap PassesOver now) now told (reason_over core Gap now told r)

and_false : (b : Bool) → (b && false) ≡ false
and_false true = refl
and_false false = refl

no_timers_moved : (a : AnswererCore) (now : ℕ) → timers_after a Gap PassesOver now ≡ a.timers
no_timers_moved a now =
    let moved : Timers = record { t1 = a.timers.t1; t2 = Some (moment_after now spans.t2); t4 = a.timers.t4 } in
    ap (λ (b : Bool). if◌then◌else◌ {A = Timers} b moved a.timers) (and_false (not (is_waiting a.waiting)))

seen_again : (n : ℕ) → seen (0 + (0 + n)) ≡ seen (0 + n)
seen_again n = let e : 0 + (0 + n) ≡ 0 + n = omega arith in ap seen e

gap_again : (core : AnswererCore) (now : ℕ) (c : Option ConfirmedPage) (p : Procedure) → Follows (decided core Gap PassesOver now) c p → Follows (decided (decided core Gap PassesOver now) Gap PassesOver now) c p
gap_again core now c p f =
    let once : AnswererCore = decided core Gap PassesOver now in
    let same : once.waiting ++ [] ≡ once.waiting = append-nil once.waiting in
    record {
      state = f.state;
      counts = f.counts ∙ ap (λ (x : Images). let k : Counts = record { images = x; gap = true; whole = last_whole (since_answer core.history); repeat = repeated core.history; missing = true } in k) (sym (seen_again (images (since_answer core.history))));
      waiting = f.waiting ∙ sym same;
      quiet = f.quiet;
      timers = f.timers ∙ sym (no_timers_moved once now);
      pace = f.pace;
      rests = subst (Rests once.state) (sym same) f.rests;
    }

gaps_follow : (n : ℕ) (core : AnswererCore) (now : ℕ) (c : Option ConfirmedPage) (p : Procedure) → Follows (decided core Gap PassesOver now) c p → Follows (gaps n (decided core Gap PassesOver now) now) c p
gaps_follow zero core now c p f = f
gaps_follow (suc n) core now c p f = gaps_follow n (decided core Gap PassesOver now) now c p (gap_again core now c p f)

-- where no packet comes all slots are lost ones
pub empty_lost : (d : DecidedValue) → slots_in d ≡ [] → slots_in d ≡ lost_slots d.lost
empty_lost d e = by d.lost e
  where
    by : (n : ℕ) → replicate n None ++ map (λ (p : List ℕ). Some p) d.packets ≡ [] → replicate n None ++ map (λ (p : List ℕ). Some p) d.packets ≡ replicate n None
    by zero e = e
    by (suc n) e = cc

pub packetless_lost : (d : DecidedValue) → d.packets ≡ [] → slots_in d ≡ lost_slots d.lost
packetless_lost d e = ap (λ (ps : List (List ℕ)). replicate d.lost None ++ map (λ (p : List ℕ). Some p) ps) e ∙ append-nil (replicate d.lost None)

-- the same lost slots, the newest first
more_lost : (n : ℕ) → lost_slots n ++ None ∷ [] ≡ None ∷ lost_slots n
more_lost zero = refl
more_lost (suc n) = ap (λ (s : List Slot). None ∷ s) (more_lost n)

reversed_lost : (n : ℕ) → reverse (lost_slots n) ≡ lost_slots n
reversed_lost zero = refl
reversed_lost (suc n) = reverse-append (None ∷ []) (lost_slots n) ∙ ap (λ (s : List Slot). s ++ None ∷ []) (reversed_lost n) ∙ more_lost n

abbrev pub LosesSo : ℕ → ℕ → AnswererCore → Rep → Rep → Type 0
LosesSo count now core old new = (count ≡ 0 → new.procedure ≡ old.procedure) × (0 < count → Follows (decided core Gap PassesOver now) old.confirmed new.procedure)

followed : (count : ℕ) (now : ℕ) (core : AnswererCore) (old new : Rep) → Follows core old.confirmed old.procedure → LosesSo count now core old new → Follows (gaps count core now) old.confirmed new.procedure
followed zero now core old new f l = subst (λ (p : Procedure). Follows core old.confirmed p) (sym (l.0 refl)) f
followed (suc n) now core old new f l = gaps_follow n core now old.confirmed new.procedure (l.1 (omega arith))

pub loses : (count now : ℕ) (heard : List Slot) (core : AnswererCore) (old new : Rep) → IsReached heard core old → TracksRun (lost_slots count) old.tracked new.tracked → GivesRun (lost_slots count) old.tracked (replicate count Gap)
    → new.image ≡ old.image → new.confirmed ≡ old.confirmed → new.refused ≡ old.refused → LosesSo count now core old new → HearsSo TellsNothing (lost_slots count) now heard core new
loses count now heard core old new r tracks gives image confirmed refused l =
    let back : reverse (lost_slots count) ≡ lost_slots count = reversed_lost count in
    record {
      given = replicate count Gap;
      pieces = ap (λ (s : List Slot). pieces (s ++ heard)) back ∙ gives heard r.tracked;
      after = gaps count core now;
      told = [];
      came = came_gaps count core now;
      tells = refl;
      tracked = subst (λ (s : List Slot). IsTracked (s ++ heard) new.tracked) (sym back) (tracks heard r.tracked);
      stands = record {
        confirmed = old.confirmed;
        confirms = subst (λ (i : ImageValue). Confirms i.accepted i.readers new.confirmed old.confirmed) (sym image)
            (subst (λ (a : Option Accepted). Confirms a old.image.readers new.confirmed old.confirmed) (sym r.settled) (sym confirmed));
        follows = followed count now core old new (settled_follows heard core old r) l;
        reason = subst (HasReason (gaps count core now)) (sym refused) (reason_gaps count core now old.refused r.stands.reason);
        holds = subst (λ (i : ImageValue). Holds (gaps count core now).state (gaps count core now).history i) (sym image) (holds_gaps count core now old.image r.stands.holds);
      };
    }

-- A PACKET in the next slot
pub hears_more : (First Then Both : List Telling → Type 0) (joins : Joins First Then Both) (slots : List Slot) (packet : List ℕ) (now : ℕ) (heard : List Slot) (core : AnswererCore) (mid new : Rep) (tracked : TrackState) (given : List Piece) → HearsSo First slots now heard core mid
    → Tracks (Some packet) mid.tracked tracked → Gives (Some packet) mid.tracked given → new.tracked ≡ tracked → ((a : AnswererCore) → Stands a mid → TakesAll Then given now a new)
    → HearsSo Both (slots ++ Some packet ∷ []) now heard core new
hears_more First Then Both joins slots packet now heard core mid new tracked given h tracks gives same takes =
    let back : reverse (slots ++ Some packet ∷ []) ++ heard ≡ Some packet ∷ (reverse slots ++ heard) = ap (λ (s : List Slot). s ++ heard) (reverse-append slots (Some packet ∷ [])) in
    let t : TakesAll Then given now h.after new = takes h.after h.stands in
    record {
      given = h.given ++ given;
      pieces = ap pieces back ∙ gives (reverse slots ++ heard) h.tracked ∙ ap (λ (ps : List Piece). ps ++ given) h.pieces ∙ append_assoc (pieces heard) h.given given;
      after = t.after;
      told = h.told ++ t.told;
      came = came_told_append core h.after t.after h.given given now h.told t.told h.came t.came;
      tells = joins h.told t.told h.tells t.tells;
      tracked = subst (λ (s : List Slot). IsTracked s new.tracked) (sym back) (subst (λ (k : TrackState). IsTracked (Some packet ∷ (reverse slots ++ heard)) k) (sym same) (tracks (reverse slots ++ heard) h.tracked));
      stands = t.stands;
    }

-- no slot yet
hears_none : (now : ℕ) (heard : List Slot) (core : AnswererCore) (old : Rep) → IsReached heard core old → HearsSo TellsNothing [] now heard core old
hears_none now heard core old r = record { given = []; pieces = sym (append-nil (pieces heard)); after = core; told = []; came = (refl, refl); tells = refl; tracked = r.tracked; stands = r.stands }

-- the one slot of a packet that gives octets of the open image and nothing else
after_nothing : (Tells : List Telling → Type 0) → Joins TellsNothing Tells Tells
after_nothing Tells s t e h = subst (λ (k : List Telling). Tells (k ++ t)) (sym e) h

-- the same, where more is said of what was told
pub hears_so : (Tells Says : List Telling → Type 0) (slots : List Slot) (now : ℕ) (heard : List Slot) (core : AnswererCore) (new : Rep) → ((told : List Telling) → Tells told → Says told) → HearsSo Tells slots now heard core new
    → HearsSo Says slots now heard core new
hears_so Tells Says slots now heard core new f h =
    record { given = h.given; pieces = h.pieces; after = h.after; told = h.told; came = h.came; tells = f h.told h.tells; tracked = h.tracked; stands = h.stands }

pub hears_alone : (Tells : List Telling → Type 0) (r : Result (Unit {0}) NoMemory) (slots : List Slot) (packet octets : List ℕ) (now : ℕ) (old new : Rep) → slots ≡ Some packet ∷ []
    → Tracks (Some packet) old.tracked (with_octets old.tracked) → Gives (Some packet) old.tracked (Octets octets ∷ []) → OnOk r (new.tracked ≡ with_octets old.tracked)
    → OnOk r ((a : AnswererCore) → Stands a old → TakesAll Tells (Octets octets ∷ []) now a new) → OnOk r ((heard : List Slot) (core : AnswererCore) → IsReached heard core old → HearsSo Tells slots now heard core new)
hears_alone Tells (Ok u) slots packet octets now old new one tracks gives same takes = λ heard core r.
    subst (λ (s : List Slot). HearsSo Tells s now heard core new) (sym one)
    (hears_more TellsNothing Tells Tells (after_nothing Tells) [] packet now heard core old new (with_octets old.tracked) (Octets octets ∷ []) (hears_none now heard core old r) tracks gives same takes)
hears_alone Tells (Err e) slots packet octets now old new one tracks gives same takes = tt

-- A LIST of what came, with one more
pub shown_more : (ps : List code_pieces.Piece) (i : ℕ) (p : code_pieces.Piece) → i < length ps → p ≡ get_or ps i p → pieces_shown (take i ps) ++ piece_of p ∷ [] ≡ pieces_shown (take (i + 1) ps)
shown_more ps i p h e =
    sym (ap pieces_shown (take_more ps i p h ∙ ap (λ (x : code_pieces.Piece). take i ps ++ x ∷ []) (sym e)) ∙ map-append piece_of (take i ps) (p ∷ []))

pub slots_more : (lost : ℕ) (packets : List (Bor (List ℕ))) (packet : Bor (List ℕ)) → (lost_slots lost ++ map (λ (x : List ℕ). Some x) (texts packets)) ++ Some packet.now ∷ [] ≡ lost_slots lost ++ map (λ (x : List ℕ). Some x) (texts (packets ++ packet ∷ []))
slots_more lost packets packet =
    append_assoc (lost_slots lost) (map (λ (x : List ℕ). Some x) (texts packets)) (Some packet.now ∷ [])
    ∙ ap (λ (s : List Slot). lost_slots lost ++ s) (sym (ap (map (λ (x : List ℕ). Some x)) (map-append (λ (p : Bor (List ℕ)). p.now) packets (packet ∷ [])) ∙ map-append (λ (x : List ℕ). Some x) (texts packets) (packet.now ∷ [])))

pub if_right : {A E : Type 0} → (r : Result A E) (P : Type 0) → is_err r ≡ false → OnOk r P → P
if_right (Ok x) P e p = p
if_right (Err x) P e p = cc

-- slots that were heard piece by piece were heard by one reading
pub hears_joined : (Tells : List Telling → Type 0) (slots : List Slot) (now : ℕ) (heard : List Slot) (core : AnswererCore) (mid new : Rep) → HearsSo Tells slots now heard core mid → new.tracked ≡ mid.tracked
    → ((a : AnswererCore) → Stands a mid → Stands a new) → new.image.accepted ≡ None → HearsTold Tells slots now heard core new
hears_joined Tells slots now heard core mid new h tracked stands settled =
    let j = tellings_join core h.given now h.after h.told h.came in
    let there : IsReached (reverse slots ++ heard) h.after new = record {
      tracked = subst (λ (t : TrackState). IsTracked (reverse slots ++ heard) t) (sym tracked) h.tracked;
      stands = stands h.after h.stands;
      settled = settled;
    } in
    record {
      hears = record { given = h.given; pieces = h.pieces; read = j.0; right = j.1; reached = subst (λ (a : AnswererCore). IsReached (reverse slots ++ heard) a new) (sym j.2.0) there };
      told = subst Tells (sym j.2.1) h.tells;
    }

-- what is heard, whatever is told of it
pub hears_alike : {E : Type 0} → (Tells : List Telling → Type 0) (r : Result Bool E) (slots : List Slot) (now : ℕ) (old new : Rep) → OnOk r ((heard : List Slot) (core : AnswererCore) → IsReached heard core old → HearsTold Tells slots now heard core new)
    → OnOk r ((heard : List Slot) (core : AnswererCore) → IsReached heard core old → Hears slots now heard core new)
hears_alike Tells (Ok u) slots now old new h = λ heard core r. (h heard core r).hears
hears_alike Tells (Err e) slots now old new h = tt

-- what is left of readers where the one that is accepted is let go
abbrev pub Left : Option Accepted → List ReaderValue → List ReaderValue → Type 0
Left None old new = new ≡ old
Left (Some a) old new =
    (u r : ReaderValue) × (later before : List ReaderValue) × (old ≡ u ∷ (later ++ r ∷ before)) × (a.place ≡ length before) × (new ≡ u ∷ (later ++ before))

left_open : (accepted : Option Accepted) (dcs : Dcs) (octets : List ℕ) (old new : List ReaderValue) → Left accepted old new → HasOpen dcs octets old → HasOpen dcs octets new
left_open None dcs octets old new l h = subst (HasOpen dcs octets) (sym l) h
left_open (Some a) dcs octets old new l h =
    let there : HasOpen dcs octets (l.0 ∷ (l.2 ++ l.1 ∷ l.3)) = subst (HasOpen dcs octets) l.4 h in
    let here : HasOpen dcs octets (l.0 ∷ (l.2 ++ l.3)) = there in
    subst (HasOpen dcs octets) (sym l.6) here

ended_before : (dcs : Dcs) (octets : List ℕ) (u r : ReaderValue) (later before : List ReaderValue) → 0 < length later → HasEnded dcs octets (u ∷ (later ++ r ∷ before)) → HasEnded dcs octets (u ∷ (later ++ before))
ended_before dcs octets u r [] before n h = absurd (omega arith)
ended_before dcs octets u r (l ∷ later) before n h = h

left_ended : (accepted : Option Accepted) (dcs : Dcs) (octets : List ℕ) (old new : List ReaderValue) → Left accepted old new → ((a : Accepted) → accepted ≡ Some a → a.place + 2 < length old) → HasEnded dcs octets old → HasEnded dcs octets new
left_ended None dcs octets old new l f h = subst (HasEnded dcs octets) (sym l) h
left_ended (Some a) dcs octets old new l f h =
    let few : a.place + 2 < length old = f a refl in
    let long : length old ≡ suc (length l.2 + suc (length l.3)) = ap length l.4 ∙ ap suc (length-append l.2 (l.1 ∷ l.3)) in
    let is : a.place ≡ length l.3 = l.5 in
    subst (HasEnded dcs octets) (sym l.6) (ended_before dcs octets l.0 l.1 l.2 l.3 (omega arith) (subst (HasEnded dcs octets) l.4 h))

taken_open : (dcs : Dcs) (octets : List ℕ) (n : ℕ) (xs : List ReaderValue) → HasOpen dcs octets xs → HasOpen dcs octets (take (suc n) xs)
taken_open dcs octets n [] h = absurd h
taken_open dcs octets n (x ∷ xs) h = h

taken_ended : (dcs : Dcs) (octets : List ℕ) (xs : List ReaderValue) → HasEnded dcs octets xs → HasEnded dcs octets (take 2 xs)
taken_ended dcs octets [] h = absurd h
taken_ended dcs octets (x ∷ []) h = absurd h
taken_ended dcs octets (x ∷ y ∷ xs) h = h

wanted_open : (dcs : Dcs) (octets : List ℕ) (b : Bool) (xs : List ReaderValue) → HasOpen dcs octets xs → HasOpen dcs octets (take (if b then 2 else 1) xs)
wanted_open dcs octets true xs h = taken_open dcs octets 1 xs h
wanted_open dcs octets false xs h = taken_open dcs octets 0 xs h

pub holds_settled : (s : State) (h : List Entry) (i j : ImageValue) (left : List ReaderValue) (count : ℕ) → Left i.accepted i.readers left → count ≡ readers_wanted s (since_answer h) → j.readers ≡ take count left → j.accepted ≡ None → j.run ≡ i.run → j.longest ≡ i.longest
    → Holds s h i → Holds s h j
holds_settled s h i j left count l c readers accepted run longest x =
    record {
      run = run ∙ x.run;
      longest = longest ∙ x.longest;
      page = λ dcs e.
          let p : HoldsPage dcs h i = x.page dcs e in
          let n : count ≡ (if is_one_image (since_answer h) then 2 else 1) = c ∙ ap (λ (t : State). readers_wanted t (since_answer h)) e in
          let are : j.readers ≡ take (if is_one_image (since_answer h) then 2 else 1) left = readers ∙ ap (λ (k : ℕ). take k left) n in
          record {
            openly = subst (HasOpen dcs (octets_since h)) (sym are) (wanted_open dcs (octets_since h) (is_one_image (since_answer h)) left (left_open i.accepted dcs (octets_since h) i.readers left l p.openly));
            last = λ one.
                let both : j.readers ≡ take 2 left = are ∙ ap (λ (b : Bool). take (if b then 2 else 1) left) one in
                subst (HasEnded dcs (last_image h)) (sym both)
                (taken_ended dcs (last_image h) left (left_ended i.accepted dcs (last_image h) i.readers left l (λ a q. p.apart a q one) (p.last one)));
            apart = λ a q one. let none : None ≡ Some a = sym accepted ∙ q in cc;
          };
    }

-- the page that is stored then
keeps_shown : {S : Type 0} → (new old found : Option S) (view : Option S → Option ConfirmedPage) (p : ConfirmedPage) → view None ≡ None → new ≡ (if is_some found then found else old) → view found ≡ Some p → view new ≡ Some p
keeps_shown new old None view p z e f = let n : None ≡ Some p = sym z ∙ f in cc
keeps_shown new old (Some x) view p z e f = ap view e ∙ f

keeps_old : {S : Type 0} → (new old found : Option S) (view : Option S → Option ConfirmedPage) → new ≡ (if is_some found then found else old) → found ≡ None → view new ≡ view old
keeps_old new old None view e f = ap view e
keeps_old new old (Some x) view e f = cc

-- the page that is confirmed, and the readers that are left, where the accepted one is finished
abbrev pub Finishes : {S : Type 0} → Option Accepted → List ReaderValue → Option S → (Option S → Option ConfirmedPage) → List ReaderValue → Type 0
Finishes accepted readers found view left =
    (accepted ≡ None → (found ≡ None) × (left ≡ readers))
    × ((a : Accepted) (page : PageValue) → accepted ≡ Some a → (at : MeansAt readers a.place page)
    → (view found ≡ Some (record { page = page; closes = a.closes })) × (left ≡ at.under_way ∷ (at.later ++ at.before)))

pub finish_left : {S : Type 0} → (accepted : Option Accepted) (readers left : List ReaderValue) (new old found : Option S) (view : Option S → Option ConfirmedPage) (c : Option ConfirmedPage) → view None ≡ None → new ≡ (if is_some found then found else old)
    → Confirms accepted readers (view old) c → Finishes accepted readers found view left → (Left accepted readers left) × (c ≡ view new)
finish_left None readers left new old found view c z e k f = let n = f.0 refl in (n.1, k ∙ sym (keeps_old new old found view e n.0))
finish_left (Some a) readers left new old found view c z e k f =
    let at : MeansAt readers a.place k.0 = k.1 in
    let n = f.1 a k.0 refl at in
    ((at.under_way, at.reader, at.later, at.before, at.are, at.place_is, n.1), k.2 ∙ sym (keeps_shown new old found view (record { page = k.0; closes = a.closes }) z e n.0))
