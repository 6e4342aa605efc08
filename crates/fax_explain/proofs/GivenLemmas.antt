-- A listener to what is given to the called machine.
use Rattle.std.proofs.Common.{◌≡◌, List, refl, sym, ◌∙◌, subst}
use Rattle.fax_udptl.specs.Datagrams.{DatagramValue}
use Rattle.fax_explain.specs.Given.{KeepsToCalled, giving, to_called}
use Rattle.fax_explain.specs.declared.listener.Listener.{Listener}
use Rattle.fax_explain.specs.declared.mark.Signal.{Signal}
use Rattle.fax_explain.specs.Heard.{IsEar, IsHearing, KeepsEar}

-- what a listener has heard, whatever is given from now on
pub hearing_giving : (arrived : List DatagramValue) (signal : Signal) (l : Listener) → IsHearing arrived l → IsHearing arrived (giving signal l)
hearing_giving arrived signal l h = record { after = h.after; heard = record { tracked = h.heard.tracked; counted = h.heard.counted } }

-- a listener to what is given to the called machine hears on so
pub keeps_to : (old mid new : Listener) → new.lane ≡ mid.lane → new.is_outside ≡ mid.is_outside → KeepsToCalled old mid → KeepsToCalled old new
keeps_to old mid new lane outside keeps = λ arrived h to signal. record {
  lane = lane ∙ (keeps arrived h to signal).lane;
  is_outside = outside ∙ (keeps arrived h to signal).is_outside;
  usual = refl;
}

pub keeps_giving : (signal : Signal) (old mid new : Listener) → mid ≡ giving signal old → KeepsEar mid new → KeepsToCalled old new
keeps_giving signal old mid new is stays = λ arrived h to.
    let at : IsEar (to_called signal) mid = subst (λ (l : Listener). IsEar (to_called signal) l) (sym is) (to signal) in
    let on : IsEar (to_called signal) new = stays (to_called signal) at arrived (subst (λ (l : Listener). IsHearing arrived l) (sym is) (hearing_giving arrived signal old h)) in
    λ other. record { lane = on.lane; is_outside = on.is_outside; usual = refl }
