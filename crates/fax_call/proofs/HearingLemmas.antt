-- Slots and pieces that come, one after another.
use Rattle.std.proofs.Common.{◌≡◌, ℕ, zero, suc, ◌+◌, ◌<◌, false, List, [], ◌∷◌, ◌++◌, length, take, reverse, replicate, map, Some, None, Result, Ok, Err, get_or, refl, sym, ◌∙◌, ap, subst, append_assoc}
use Rattle.std.proofs.lemmas.List.{append-nil, reverse-append, map-append, take_more}
use Rattle.std.specs.Borrow.{Bor}
use Rattle.std.specs.Result.{OnOk, is_err}
use Rattle.fax_ifp.specs.declared.piece.Piece as code_pieces
use Rattle.fax_ifp.specs.Elements.{Slot}
use Rattle.fax_ifp.specs.Pieces.{Piece, Gap, pieces}
use Rattle.fax_ifp.specs.Shown.{piece_of, pieces_shown}
use Rattle.fax_ifp.specs.Tracked.{TrackState, IsTracked, TracksRun, GivesRun, Tracks, Gives, lost_slots}
use Rattle.fax_udptl.specs.Reading.{texts}
use Rattle.fax_jobs.specs.Jobs.{JobValue}
use Rattle.fax_pagestore.specs.Writers.{WriterValue}
use Rattle.fax_call.specs.declared.procedure.Procedure.{Procedure}
use Rattle.fax_call.specs.Writings.{Writing}
use Rattle.fax_call.specs.Calls.{CallerCore, came, came_all}
use Rattle.fax_call.specs.Following.{Follows}
use Rattle.fax_call.specs.Reached.{Rep, IsReached, Hears, HearsTold}
use Rattle.fax_call.specs.Watching.{Telling, TellsNothing, telling, telling_with, tellings}
use Rattle.fax_call.proofs.Tellings.{tellings_append}

pub came_append : (core : CallerCore) (xs ys : List Piece) (now : ℕ) → came_all core (xs ++ ys) now ≡ came_all (came_all core xs now) ys now
came_append core [] ys now = refl
came_append core (x ∷ xs) ys now = came_append (came core x now) xs ys now

pub came_more : (core : CallerCore) (xs : List Piece) (p : Piece) (now : ℕ) → came_all core (xs ++ p ∷ []) now ≡ came (came_all core xs now) p now
came_more core xs p now = came_append core xs (p ∷ []) now

came_gaps : (n : ℕ) (core : CallerCore) (now : ℕ) → came_all core (replicate n Gap) now ≡ core
came_gaps zero core now = refl
came_gaps (suc n) core now = came_gaps n core now

told_gaps : (n : ℕ) (core : CallerCore) (now : ℕ) → tellings core (replicate n Gap) now ≡ []
told_gaps zero core now = refl
told_gaps (suc n) core now = told_gaps n core now

pub shown_more : (ps : List code_pieces.Piece) (i : ℕ) (p : code_pieces.Piece) → i < length ps → p ≡ get_or ps i p → pieces_shown (take i ps) ++ piece_of p ∷ [] ≡ pieces_shown (take (i + 1) ps)
shown_more ps i p h e =
    sym (ap pieces_shown (take_more ps i p h ∙ ap (λ (x : code_pieces.Piece). take i ps ++ x ∷ []) (sym e)) ∙ map-append piece_of (take i ps) (p ∷ []))

pub slots_more : (lost : ℕ) (packets : List (Bor (List ℕ))) (packet : Bor (List ℕ)) → (lost_slots lost ++ map (λ (x : List ℕ). Some x) (texts packets)) ++ Some packet.now ∷ [] ≡ lost_slots lost ++ map (λ (x : List ℕ). Some x) (texts (packets ++ packet ∷ []))
slots_more lost packets packet =
    append_assoc (lost_slots lost) (map (λ (x : List ℕ). Some x) (texts packets)) (Some packet.now ∷ [])
    ∙ ap (λ (s : List Slot). lost_slots lost ++ s) (sym (ap (map (λ (x : List ℕ). Some x)) (map-append (λ (p : Bor (List ℕ)). p.now) packets (packet ∷ [])) ∙ map-append (λ (x : List ℕ). Some x) (texts packets) (packet.now ∷ [])))

pub if_right : {A E : Type 0} → (r : Result A E) (P : Type 0) → is_err r ≡ false → OnOk r P → P
if_right (Ok x) P e p = p
if_right (Err x) P e p = cc

-- a list of lost slots is the same in both orders
one_more_lost : (n : ℕ) → lost_slots n ++ None ∷ [] ≡ None ∷ lost_slots n
one_more_lost zero = refl
one_more_lost (suc n) = ap (λ (s : List Slot). None ∷ s) (one_more_lost n)

reversed_lost : (n : ℕ) → reverse (lost_slots n) ≡ lost_slots n
reversed_lost zero = refl
reversed_lost (suc n) = reverse-append (None ∷ []) (lost_slots n) ∙ ap (λ (s : List Slot). s ++ None ∷ []) (reversed_lost n) ∙ one_more_lost n

-- LOST SLOTS bring nothing about
pub loses : (writes : Writing) (job : JobValue) (count now : ℕ) (heard : List Slot) (core : CallerCore) (old new : Rep) → IsReached writes job heard core old
    → TracksRun (lost_slots count) old.tracked new.tracked → GivesRun (lost_slots count) old.tracked (replicate count Gap)
    → new.procedure ≡ old.procedure → new.writer ≡ old.writer → HearsTold TellsNothing writes job (lost_slots count) now heard core new
loses writes job count now heard core old new r tracks gives procedure writer =
    let back : reverse (lost_slots count) ≡ lost_slots count = reversed_lost count in
    record {
      told = told_gaps count core now;
      hears = record {
        given = replicate count Gap;
        pieces = ap (λ (s : List Slot). pieces (s ++ heard)) back ∙ gives heard r.tracked;
        reached = record {
          tracked = subst (λ (s : List Slot). IsTracked (s ++ heard) new.tracked) (sym back) (tracks heard r.tracked);
          follows =
              subst (λ (a : CallerCore). Follows writes job a new.writer new.procedure) (sym (came_gaps count core now))
              (subst (λ (w : WriterValue). Follows writes job core w new.procedure) (sym writer)
              (subst (λ (p : Procedure). Follows writes job core old.writer p) (sym procedure) r.follows));
        };
      };
    }

-- this is told, and then that
abbrev pub Joins : (First Then Both : List Telling → Type 0) → Type 0
Joins First Then Both = (s t : List Telling) → First s → Then t → Both (s ++ t)

-- A PACKET in the next slot
pub hears_more : (First Then Both : List Telling → Type 0) (joins : Joins First Then Both) (writes : Writing) (job : JobValue) (slots : List Slot) (now : ℕ) (packet : List ℕ) (heard : List Slot) (core : CallerCore) (mid new : Rep) (tracked : TrackState) (given : List Piece)
    → HearsTold First writes job slots now heard core mid → Tracks (Some packet) mid.tracked tracked → Gives (Some packet) mid.tracked given → new.tracked ≡ tracked
    → ((a : CallerCore) → Follows writes job a mid.writer mid.procedure → Follows writes job (came_all a given now) new.writer new.procedure)
    → ((a : CallerCore) → Follows writes job a mid.writer mid.procedure → Then (tellings a given now))
    → HearsTold Both writes job (slots ++ Some packet ∷ []) now heard core new
hears_more First Then Both joins writes job slots now packet heard core mid new tracked given t tracks gives same takes told =
    let h : Hears writes job slots now heard core mid = t.hears in
    let back : reverse (slots ++ Some packet ∷ []) ++ heard ≡ Some packet ∷ (reverse slots ++ heard) = ap (λ (s : List Slot). s ++ heard) (reverse-append slots (Some packet ∷ [])) in
    record {
      told = subst Both (sym (tellings_append core h.given given now)) (joins _ _ t.told (told (came_all core h.given now) h.reached.follows));
      hears = record {
        given = h.given ++ given;
        pieces = ap pieces back ∙ gives (reverse slots ++ heard) h.reached.tracked ∙ ap (λ (ps : List Piece). ps ++ given) h.pieces ∙ append_assoc (pieces heard) h.given given;
        reached = record {
          tracked = subst (λ (s : List Slot). IsTracked s new.tracked) (sym back) (subst (λ (k : TrackState). IsTracked (Some packet ∷ (reverse slots ++ heard)) k) (sym same) (tracks (reverse slots ++ heard) h.reached.tracked));
          follows = subst (λ (a : CallerCore). Follows writes job a new.writer new.procedure) (sym (came_append core h.given given now)) (takes (came_all core h.given now) h.reached.follows);
        };
      };
    }

-- the slot of a packet alone
pub hears_one : (Tells : List Telling → Type 0) (writes : Writing) (job : JobValue) (now : ℕ) (packet : List ℕ) (heard : List Slot) (core : CallerCore) (old new : Rep) (tracked : TrackState) (given : List Piece)
    → IsReached writes job heard core old → Tracks (Some packet) old.tracked tracked → Gives (Some packet) old.tracked given → new.tracked ≡ tracked
    → ((a : CallerCore) → Follows writes job a old.writer old.procedure → Follows writes job (came_all a given now) new.writer new.procedure)
    → ((a : CallerCore) → Follows writes job a old.writer old.procedure → Tells (tellings a given now))
    → HearsTold Tells writes job (Some packet ∷ []) now heard core new
hears_one Tells writes job now packet heard core old new tracked given r tracks gives same takes told =
    let none : HearsTold TellsNothing writes job [] now heard core old = record { hears = record { given = []; pieces = sym (append-nil (pieces heard)); reached = r }; told = refl } in
    hears_more TellsNothing Tells Tells (λ s t e h. subst (λ (k : List Telling). Tells (k ++ t)) (sym e) h) writes job [] now packet heard core old new tracked given none tracks gives same takes told

-- the same, where more is said of what was told
pub hears_so : (Tells Says : List Telling → Type 0) (writes : Writing) (job : JobValue) (slots : List Slot) (now : ℕ) (heard : List Slot) (core : CallerCore) (new : Rep) → ((told : List Telling) → Tells told → Says told)
    → HearsTold Tells writes job slots now heard core new → HearsTold Says writes job slots now heard core new
hears_so Tells Says writes job slots now heard core new f h = record { hears = h.hears; told = f _ h.told }
