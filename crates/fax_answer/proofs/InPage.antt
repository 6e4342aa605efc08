-- In Page all octets of the image under way came since the last CFR.
use Rattle.std.proofs.Common.{◌≡◌, ℕ, Bool, true, false, List, [], ◌∷◌, refl, sym, ◌∙◌, ap, if◌then◌else◌}
use Rattle.fax_frames.specs.declared.dcs.Dcs.{Dcs}
use Rattle.fax_ifp.specs.Pieces.{Piece, Frame, Start, Octets, End, Gap}
use Rattle.fax_answer.specs.declared.state.State.{State}
use Rattle.fax_answer.specs.declared.state.State.TheVariants.{Page}
use Rattle.fax_answer.specs.History.{Entry, Decision, PassesOver, Trains, HangsUp, GivesCfr, GivesFtt, GivesMcf, GivesRtn, octets_with, octets_since}
use Rattle.fax_answer.specs.Table.{Reading, decision}
use Rattle.fax_answer.specs.Replies.{is_waiting}
use Rattle.fax_answer.specs.Calls.{AnswererCore, rung, came, ticked, CallEvent, Comes, Ticks, after_events}
use Rattle.fax_answer.specs.InPage.{is_cfr, since_cfr, BeginsInPage}
use Rattle.fax_answer.proofs.Confirmations.{ticked_history}
use Rattle.fax_answer.proofs.Held.{IsNoCfr, in_page, frame_no_cfr}
use Rattle.fax_answer.proofs.ReachedLemmas.{ticked_page}

abbrev Begins : AnswererCore → Type 0
Begins a = (dcs : Dcs) → a.state ≡ Page dcs → octets_since a.history ≡ octets_since (since_cfr a.history)

no_cfr : (d : Decision) → is_cfr d ≡ false → IsNoCfr d
no_cfr PassesOver e = tt
no_cfr (Trains dcs) e = tt
no_cfr HangsUp e = tt
no_cfr (GivesCfr dcs) e = cc
no_cfr GivesFtt e = tt
no_cfr (GivesMcf command page) e = tt
no_cfr GivesRtn e = tt

is_no_cfr : (d : Decision) → IsNoCfr d → is_cfr d ≡ true → ⊥
is_no_cfr PassesOver n e = cc
is_no_cfr (Trains dcs) n e = cc
is_no_cfr HangsUp n e = cc
is_no_cfr (GivesCfr dcs) n e = n
is_no_cfr GivesFtt n e = cc
is_no_cfr (GivesMcf command page) n e = cc
is_no_cfr GivesRtn n e = cc

-- a CFR is decided where a signal ends
cfr_ends : (read : Reading) (s : State) (waits : Bool) (h : List Entry) (piece : Piece) (octets : List ℕ) → is_cfr (decision read s waits h piece) ≡ true → octets_with piece octets ≡ []
cfr_ends read s waits h (Frame frame) octets e = absurd (is_no_cfr (decision read s waits h (Frame frame)) (frame_no_cfr read s waits h frame) e)
cfr_ends read s waits h (Start kind) octets e = refl
cfr_ends read s waits h (Octets more) octets e = cc
cfr_ends read s waits h (End whole) octets e = refl
cfr_ends read s waits h Gap octets e = cc

begins_on : (read : Reading) (a : AnswererCore) (piece : Piece) (now : ℕ) → Begins a → Begins (came read a piece now)
begins_on read a piece now i dcs e = by (is_cfr d) refl
  where
    d : Decision
    d = decision read a.state (is_waiting a.waiting) a.history piece

    by : (b : Bool) → is_cfr d ≡ b → octets_with piece (octets_since a.history) ≡ octets_since (if◌then◌else◌ {A = List Entry} b [] (record { piece = piece; decision = d } ∷ since_cfr a.history))
    by true c = cfr_ends read a.state (is_waiting a.waiting) a.history piece (octets_since a.history) c
    by false c = ap (octets_with piece) (i dcs (in_page a.state d dcs (no_cfr d c) e))

begins_ticked : (a : AnswererCore) (now : ℕ) → Begins a → Begins (ticked a now).core
begins_ticked a now i dcs e =
    let same : (ticked a now).core.history ≡ a.history = ticked_history a now in
    ap octets_since same ∙ i dcs (ticked_page a now dcs e) ∙ sym (ap (λ (h : List Entry). octets_since (since_cfr h)) same)

pub begins_always : (core : AnswererCore) (start : ℕ) (events : List CallEvent) → Begins (after_events (rung core start) events)
begins_always core start [] dcs e = cc
begins_always core start (Comes piece now read ∷ before) dcs e = begins_on read (after_events (rung core start) before) piece now (begins_always core start before) dcs e
begins_always core start (Ticks now ∷ before) dcs e = begins_ticked (after_events (rung core start) before) now (begins_always core start before) dcs e

pub begins_in_page : BeginsInPage
begins_in_page core start events dcs e = begins_always core start events dcs e
