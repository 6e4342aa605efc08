-- Calls worked through on the definitions: what a tick gives after these events, computed. The newest event stands first.
use Rattle.std.proofs.Common.{◌≡◌, ℕ, zero, suc, ◌+◌, nat_le, Bool, true, false, List, [], ◌∷◌, length, take, replicate, Option, Some, None, option_map, refl, sym, ◌∙◌, ap, subst, arith, if◌then◌else◌}
use Rattle.std.proofs.lemmas.List.Elements.{All-from_recursion}
use Rattle.fax_runcodes.specs.declared.Width.TheVariants.{W1728}
use Rattle.fax_runcodes.specs.declared.Colour.TheVariants.{White}
use Rattle.fax_runcodes.specs.declared.format.Format.{Format}
use Rattle.fax_runcodes.specs.declared.format.Coding.TheVariants.{Mr}
use Rattle.fax_pagestore.specs.Pages.{PageValue, IsPage}
use Rattle.fax_frames.specs.declared.dcs.Dcs.{Dcs}
use Rattle.fax_frames.specs.declared.dcs.Length.TheVariants.{Unlimited}
use Rattle.fax_frames.specs.declared.rate.Rate.TheVariants.{V17At14400}
use Rattle.fax_frames.specs.declared.writing.Plain.TheVariants.{Eop}
use Rattle.fax_ifp.specs.Pieces.{Frame}
use Rattle.fax_ifp.specs.WrittenPackets.{written_after}
use Rattle.fax_jobs.specs.declared.outcome.Outcome.TheVariants as outcomes
use Rattle.fax_jobs.specs.Jobs.{JobValue, IsJob}
use Rattle.fax_call.specs.declared.state.State.TheVariants.{Idle, AwaitDis, AwaitMcf, Closing}
use Rattle.fax_call.specs.Writings.{Writing}
use Rattle.fax_call.specs.Replies.{written, Part, Text, training_check, command}
use Rattle.fax_call.specs.Calls.{CallerCore, new_calling, started, TakenPart, after_giving, ticked, CallEvent, Comes, Ticks, after_events}

-- a job of one page with one white row
standard : Format
standard = record { width = W1728; fine = false }

page : PageValue
page = record { format = standard; rows = replicate 1728 White ∷ [] }

job : JobValue
job = record { call = 7; format = standard; pages = page ∷ [] }

begun : CallerCore
begun = started (new_calling 40 standard) job 0

-- a frame comes, at a moment
frame_at : ℕ → ℕ → List ℕ → CallEvent
frame_at now field info = Comes (Frame (0xFF ∷ 0xC8 ∷ field ∷ info)) now

-- where that moment does not matter
frame : ℕ → List ℕ → CallEvent
frame = frame_at 0

-- so many ticks, one each 40 ms
ticks : ℕ → ℕ → List CallEvent → List CallEvent
ticks zero now before = before
ticks (suc n) now before = ticks n (now + 40) (Ticks now ∷ before)

-- the octets that a tick gives
given_at : Writing → ℕ → List CallEvent → Option (List ℕ)
given_at writes now events = option_map written (ticked writes job (after_events writes job begun events) now).given

-- CNG is given, and a DIS of the octets 00 77 5E comes
called : List CallEvent
called = frame 0x01 (0x00 ∷ 0x77 ∷ 0x5E ∷ []) ∷ Ticks 0 ∷ []

-- the training is given, and CFR comes
trained : List CallEvent
trained = frame 0x21 [] ∷ ticks 41 40 called

gives_cng : (writes : Writing) → given_at writes 0 [] ≡ Some (0x02 ∷ [])
unfolding given_at begun job page standard
gives_cng writes = refl

gives_preamble : (writes : Writing) → given_at writes 40 called ≡ Some (0x06 ∷ [])
unfolding given_at begun job page standard called frame frame_at training_check
gives_preamble writes = refl

gives_dcs : (writes : Writing) → given_at writes 80 (ticks 1 40 called) ≡ Some (0xC0 ∷ 0x02 ∷ 0x80 ∷ 0x00 ∷ 0x05 ∷ 0xFF ∷ 0xC8 ∷ 0xC1 ∷ 0x00 ∷ 0x45 ∷ 0x1E ∷ 0x40 ∷ [])
unfolding given_at begun job page standard called frame frame_at ticks training_check written_after
gives_dcs writes = refl

gives_training : (writes : Writing) → given_at writes 120 (ticks 2 40 called) ≡ Some (0x1E ∷ [])
unfolding given_at begun job page standard called frame frame_at ticks training_check written_after
gives_training writes = refl

-- the image, after CFR
gives_image : (writes : Writing) → given_at writes 1680 trained ≡ Some (0x1C ∷ [])
unfolding given_at begun job page standard trained called frame frame_at ticks training_check written_after
gives_image writes = refl

-- what is left after the image's indicator
dcs : Dcs
dcs = record { rate = V17At14400; fine = false; two_d = true; width = W1728; length = Unlimited; scan_ms = 0 }

imaging : CallerCore
imaging =
    record {
      state = AwaitMcf (record { caps = record { 0 = 0x00_77_5E } }) dcs;
      format = standard;
      formats = standard ∷ [];
      pages = 1;
      counts = record { page = 0; step = 0; tries = 1; refused = 0; delivered = 0 };
      waiting = Text 0 dcs 0 ∷ command Eop;
      t1 = None;
      t4 = None;
      pace = record { pause = 40; last = Some (record { at = 1680; span = 40 }) };
      outcome = None;
    }

leaves_image : (writes : Writing) → after_events writes job begun (Ticks 1680 ∷ trained) ≡ imaging
unfolding imaging dcs begun job page standard trained called frame frame_at ticks training_check
leaves_image writes = refl

-- the text goes in one packet, where it has 72 octets at most
asking : CallerCore
asking = after_giving imaging 1720 (Part 8 true []) (command Eop)

leaves_command : (writes : Writing) → nat_le (length (writes page Mr 0)) 72 ≡ true → (ticked writes job imaging 1720).core ≡ asking
unfolding asking imaging dcs job
leaves_command writes short =
    let one : TakenPart = record { packet = Part 8 true (writes page Mr 0); rest = command Eop } in
    let more : TakenPart = record { packet = Part 8 false (take 72 (writes page Mr 0)); rest = Text 0 dcs 72 ∷ command Eop } in
    ap (λ (t : Bool). let k : TakenPart = if◌then◌else◌ {A = TakenPart} t one more in after_giving imaging 1720 k.packet k.rest) short

-- EOP is given, MCF comes, and the preamble is given: what is left then, and after the DCN
ending : Writing → CallerCore → CallerCore
ending writes a = after_events writes job a (Ticks 1840 ∷ frame 0x31 [] ∷ Ticks 1800 ∷ Ticks 1760 ∷ [])

gives_dcn : (writes : Writing) → option_map written (ticked writes job (ending writes asking) 1880).given ≡ Some (0xC0 ∷ 0x02 ∷ 0x80 ∷ 0x00 ∷ 0x02 ∷ 0xFF ∷ 0xC8 ∷ 0xDF ∷ 0x40 ∷ [])
unfolding ending asking imaging dcs job frame frame_at written_after
gives_dcn writes = refl

-- the call is over, and the page is delivered
abbrev IsDelivered : CallerCore → Type 0
IsDelivered a = (a.state ≡ Idle) × (a.outcome ≡ Some outcomes.Delivered) × (a.counts.delivered ≡ 1)

then_delivered : (writes : Writing) → IsDelivered (ticked writes job (ending writes asking) 1880).core
unfolding ending asking imaging dcs job frame frame_at
then_delivered writes = (refl, refl, refl)

-- so in one call
answered : List CallEvent
answered = Ticks 1840 ∷ frame 0x31 [] ∷ Ticks 1800 ∷ Ticks 1760 ∷ Ticks 1720 ∷ Ticks 1680 ∷ trained

leaves_dcn : (writes : Writing) → nat_le (length (writes page Mr 0)) 72 ≡ true → after_events writes job begun answered ≡ ending writes asking
unfolding answered ending
leaves_dcn writes short =
    ap (λ (a : CallerCore). ending writes (ticked writes job a 1720).core) (leaves_image writes)
    ∙ ap (ending writes) (leaves_command writes short)

is_delivered : (writes : Writing) → nat_le (length (writes page Mr 0)) 72 ≡ true → IsDelivered (after_events writes job begun (Ticks 1880 ∷ answered))
is_delivered writes short = subst (λ (a : CallerCore). IsDelivered (ticked writes job a 1880).core) (sym (leaves_dcn writes short)) (then_delivered writes)

-- the job is one
is_job : IsJob job
unfolding job page standard
is_job = record {
  some = omega arith;
  few = omega arith;
  of_first = refl;
  are_pages = All-from_recursion IsPage (page ∷ []) (record { some = omega arith; few = omega arith; each = All-from_recursion (λ row. length row ≡ 1728) (replicate 1728 White ∷ []) (refl, tt) }, tt);
}

-- A JOB OF TWO PAGES, of which the second is fine. In place of their texts stand fifteen octets.
fine : Format
fine = record { width = W1728; fine = true }

fine_page : PageValue
fine_page = record { format = fine; rows = replicate 1728 White ∷ [] }

two_pages : JobValue
two_pages = record { call = 7; format = standard; pages = page ∷ fine_page ∷ [] }

fifteen : Writing
fifteen p coding least = replicate 15 0

both_begun : CallerCore
both_begun = started (new_calling 40 standard) two_pages 0

given_of_two : ℕ → List CallEvent → Option (List ℕ)
given_of_two now events = option_map written (ticked fifteen two_pages (after_events fifteen two_pages both_begun events) now).given

-- a DIS of the octets 00 42 00 comes: one of 2400 bit/s, with fine pages; CFR comes after the training
slow_trained : List CallEvent
slow_trained = frame 0x21 [] ∷ ticks 41 40 (frame 0x01 (0x00 ∷ 0x42 ∷ 0x00 ∷ []) ∷ Ticks 0 ∷ [])

gives_standard_dcs : given_of_two 80 (ticks 1 40 (frame 0x01 (0x00 ∷ 0x42 ∷ 0x00 ∷ []) ∷ Ticks 0 ∷ [])) ≡ Some (0xC0 ∷ 0x02 ∷ 0x80 ∷ 0x00 ∷ 0x05 ∷ 0xFF ∷ 0xC8 ∷ 0xC1 ∷ 0x00 ∷ 0x40 ∷ 0x00 ∷ 0x40 ∷ [])
unfolding given_of_two fine_page two_pages both_begun page standard fine fifteen frame frame_at ticks training_check written_after
gives_standard_dcs = refl

-- the command after the first page is EOM
gives_eom : given_of_two 1840 (ticks 4 1680 slow_trained) ≡ Some (0xC0 ∷ 0x02 ∷ 0x80 ∷ 0x00 ∷ 0x02 ∷ 0xFF ∷ 0xC8 ∷ 0xF1 ∷ 0x40 ∷ [])
unfolding given_of_two slow_trained fine_page two_pages both_begun page standard fine fifteen frame frame_at ticks training_check written_after
gives_eom = refl

-- MCF comes, and a DIS is awaited until T1
first_confirmed : List CallEvent
first_confirmed = frame_at 1850 0x31 [] ∷ ticks 5 1680 slow_trained

abbrev IsTurned : CallerCore → Type 0
IsTurned a = (a.state ≡ AwaitDis) × (a.format ≡ fine) × (a.t1 ≡ Some 36850) × (a.t4 ≡ None) × (a.counts.delivered ≡ 1)

then_turned : IsTurned (after_events fifteen two_pages both_begun first_confirmed)
unfolding first_confirmed slow_trained fine_page two_pages both_begun page standard fine fifteen frame frame_at ticks training_check
then_turned = (refl, refl, refl, refl, refl)

-- a DIS that lacks fine pages ends the call so, and none at all ends it with NoReply
fine_lacking : (after_events fifteen two_pages both_begun (frame_at 1860 0x01 (0x00 ∷ 0x40 ∷ 0x00 ∷ []) ∷ first_confirmed)).state ≡ Closing outcomes.FineLacking
unfolding first_confirmed slow_trained fine_page two_pages both_begun page standard fine fifteen frame frame_at ticks training_check
fine_lacking = refl

no_reply : (after_events fifteen two_pages both_begun (Ticks 36850 ∷ first_confirmed)).state ≡ Closing outcomes.NoReply
unfolding first_confirmed slow_trained fine_page two_pages both_begun page standard fine fifteen frame frame_at ticks training_check
no_reply = refl

-- the same DIS again: the DCS is a fine one, and EOP stands after the second page
turned : List CallEvent
turned = frame_at 1860 0x01 (0x00 ∷ 0x42 ∷ 0x00 ∷ []) ∷ first_confirmed

gives_fine_dcs : given_of_two 1920 (ticks 1 1880 turned) ≡ Some (0xC0 ∷ 0x02 ∷ 0x80 ∷ 0x00 ∷ 0x05 ∷ 0xFF ∷ 0xC8 ∷ 0xC1 ∷ 0x00 ∷ 0x42 ∷ 0x00 ∷ 0x40 ∷ [])
unfolding given_of_two turned first_confirmed slow_trained fine_page two_pages both_begun page standard fine fifteen frame frame_at ticks training_check written_after
gives_fine_dcs = refl

fine_trained : List CallEvent
fine_trained = frame 0x21 [] ∷ ticks 41 1880 turned

gives_eop : given_of_two 3680 (ticks 4 3520 fine_trained) ≡ Some (0xC0 ∷ 0x02 ∷ 0x80 ∷ 0x00 ∷ 0x02 ∷ 0xFF ∷ 0xC8 ∷ 0xF4 ∷ 0x40 ∷ [])
unfolding given_of_two fine_trained turned first_confirmed slow_trained fine_page two_pages both_begun page standard fine fifteen frame frame_at ticks training_check written_after
gives_eop = refl

-- after MCF and DCN both pages are delivered
both_delivered : List CallEvent
both_delivered = ticks 2 3720 (frame 0x31 [] ∷ ticks 5 3520 fine_trained)

abbrev AreDelivered : CallerCore → Type 0
AreDelivered a = (a.state ≡ Idle) × (a.outcome ≡ Some outcomes.Delivered) × (a.counts.delivered ≡ 2)

then_both_delivered : AreDelivered (after_events fifteen two_pages both_begun both_delivered)
unfolding both_delivered fine_trained turned first_confirmed slow_trained fine_page two_pages both_begun page standard fine fifteen frame frame_at ticks training_check
then_both_delivered = (refl, refl, refl)

-- the job is one
are_job : IsJob two_pages
unfolding two_pages page fine_page standard fine
are_job = record {
  some = omega arith;
  few = omega arith;
  of_first = refl;
  are_pages = All-from_recursion IsPage (page ∷ fine_page ∷ []) (
    record { some = omega arith; few = omega arith; each = All-from_recursion (λ row. length row ≡ 1728) (replicate 1728 White ∷ []) (refl, tt) },
    (record { some = omega arith; few = omega arith; each = All-from_recursion (λ row. length row ≡ 1728) (replicate 1728 White ∷ []) (refl, tt) }, tt),
  );
}
