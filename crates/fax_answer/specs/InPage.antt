-- An image that ends in Page began in Page, so that it is read under the DCS that the last CFR answered.
use Rattle.std.specs.Prelude.{◌≡◌, ℕ, Bool, true, false, List, [], ◌∷◌, if◌then◌else◌}
use Rattle.fax_frames.specs.declared.dcs.Dcs.{Dcs}
use Rattle.fax_answer.specs.declared.state.State.TheVariants.{Page}
use Rattle.fax_answer.specs.History.{Entry, Decision, GivesCfr, octets_since}
use Rattle.fax_answer.specs.Calls.{AnswererCore, rung, CallEvent, after_events}

abbrev pub is_cfr : Decision → Bool
is_cfr (GivesCfr dcs) = true
is_cfr decision = false

-- the entries since the last CFR was decided
abbrev pub since_cfr : List Entry → List Entry
since_cfr [] = []
since_cfr (e ∷ before) = if is_cfr e.decision then [] else e ∷ since_cfr before

-- In every call, in Page, all octets of the image under way came since the last CFR.
abbrev pub BeginsInPage : Type 0
BeginsInPage =
    (core : AnswererCore) (start : ℕ) (events : List CallEvent) (dcs : Dcs) →
    let a : AnswererCore = after_events (rung core start) events in
    a.state ≡ Page dcs → octets_since a.history ≡ octets_since (since_cfr a.history)
