-- No image goes out that the called machine could not receive.
use Rattle.std.specs.Prelude.{◌≡◌, ℕ, List, ◌∷◌, Option, Some}
use Rattle.fax_frames.specs.declared.dis.Dis.{Dis}
use Rattle.fax_call.specs.Writings.{Writing, IsWriting}
use Rattle.fax_call.specs.Emission.{Emission, Mark, IsPageOf}
use Rattle.fax_call.specs.Refusals.{dis_taken, Allows}
use Rattle.fax_gateway.specs.Setups.{Setup}
use Rattle.fax_gateway.specs.Events.{Event, Tick, Given}
use Rattle.fax_gateway.specs.CalledLegs.{CalledLeg, begun_core}
use Rattle.fax_gateway.specs.BothLegs.{in_tick}
use Rattle.fax_gateway.specs.Traces.{IsTrace}
use Rattle.fax_gateway.specs.Told.{elements_told, leg_marks, marks_before, EachEmission}

-- In the call that is on, the image means a page of the job, and the DIS that Await DIS took last has its width and its
-- resolution.
pub record IsAllowed (writes : Writing)
    (leg : Option CalledLeg) (marks : List Mark) (emission : Emission) : Type 0 where
  pub l : CalledLeg
  pub is_leg : leg ≡ Some l
  pub n : ℕ
  pub is_page : IsPageOf l.job n emission
  pub dis : Dis
  pub taken : dis_taken writes l.job (begun_core l) l.events ≡ Some dis
  pub allows : Allows dis is_page.page.format

abbrev pub NoneIsLacking : Type 0
NoneIsLacking = (setup : Setup) (writes : Writing) (earlier : List Event) (at : ℕ) (given : Given)
    → IsWriting writes → IsTrace setup writes (Tick at given ∷ earlier)
    → EachEmission (IsAllowed writes (in_tick setup writes earlier at).leg) (marks_before
    setup writes earlier at (leg_marks setup writes earlier)) (elements_told given.on_called)
