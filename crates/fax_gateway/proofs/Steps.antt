-- One more event leads a gateway on.
use Rattle.std.proofs.Common.{◌≡◌, ℕ, max, Bool, true, false, not, ◌&&◌, List, Option, Some, None, Result, Ok, Err, refl, sym, ◌∙◌, ap, subst, if◌then◌else◌}
use Rattle.std.specs.Result.{IfOk}
use Rattle.fax_jobs.specs.Books.{Book, closed}
use Rattle.fax_jobs.specs.Pasts.{Step, new_past, after_steps}
use Rattle.fax_answer.specs.Table.{Reading}
use Rattle.fax_call.specs.Writings.{Writing}
use Rattle.fax_gateway.specs.Setups.{HasSettings, Setup}
use Rattle.fax_gateway.specs.declared.settings.Settings.{Settings}
use Rattle.fax_gateway.specs.declared.caller_endpoint.CallerEndpoint.{CallerEndpoint}
use Rattle.fax_gateway.specs.Events.{Event, FromCalling, clock}
use Rattle.fax_gateway.specs.CallingLegs.{CallingLeg, idle_after, calling_after, calling_leg, decided_calling}
use Rattle.fax_gateway.specs.BothLegs.{book_of, both_legs, ends_if}
use Rattle.fax_gateway.specs.Reached.{IsCalling, IsCalled, heard_on, GatewayValue, IsReachedBy, refusing}
use Rattle.fax_answer.specs.Watching.{Telling}
use Rattle.fax_gateway.specs.EachTrace.{AdvancesByHearing, AdvancesByHearingTold}
use Rattle.fax_gateway.specs.Watched.{HearsCallingTold, HearsFromTold}

-- a refusal is no event
pub reached_refusing : (setup : Setup) (writes : Writing) (trace : List Event) (g : GatewayValue) → IsReachedBy setup writes trace g → IsReachedBy setup writes trace (refusing g)
reached_refusing setup writes trace g r = record { is_trace = r.is_trace; set = r.set; at = r.at; rung = r.rung; calling = r.calling; called = r.called; book = r.book }

-- a call that ends closes the open job
ended_book : (b : Bool) (steps : List Step) → (after_steps new_past (ends_if b steps)).book ≡ (if b then closed (after_steps new_past steps).book else (after_steps new_past steps).book)
ended_book true steps = refl
ended_book false steps = refl

heard_same : (setup : Setup) (leg : Option CallingLeg) (now : ℕ) (octets : List ℕ) (at : ℕ) (decided : Bool) (read : Reading) → heard_on setup leg now octets read ≡ calling_after setup leg now (FromCalling octets at decided read)
heard_same setup None now octets at decided read = refl
heard_same setup (Some l) now octets at decided read = refl

pub hears_from : (Tells : List Telling → Type 0) (setup : Setup) (writes : Writing) (trace : List Event) (octets : List ℕ) (at : ℕ) (decided ends : Bool) (old new : GatewayValue) → IsReachedBy setup writes trace old → new.clock ≡ max at old.clock → new.rings ≡ old.rings → new.settings ≡ old.settings
    → new.called ≡ old.called → decided ≡ decided_calling (calling_leg setup trace) octets → HearsCallingTold Tells setup (calling_leg setup trace) new.clock octets new.calling
    → ((leg : Option CallingLeg) → IsCalling setup leg new.calling → ends ≡ (not (idle_after (calling_leg setup trace)) && idle_after leg))
    → new.book ≡ (if ends then closed old.book else old.book)
    → HearsFromTold Tells setup writes trace octets at decided new
hears_from Tells setup writes trace octets at decided ends old new r later rung set same answer hears ended book =
    let now : new.clock ≡ max at (clock trace) = later ∙ ap (λ (m : ℕ). max at m) r.at in
    let both : HearsCallingTold Tells setup (calling_leg setup trace) (max at (clock trace)) octets new.calling = subst (λ (m : ℕ). HearsCallingTold Tells setup (calling_leg setup trace) m octets new.calling) now hears in
    let h = both.hears in
    let leg : IsCalling setup (calling_after setup (calling_leg setup trace) (max at (clock trace)) (FromCalling octets at decided h.read)) new.calling =
    subst (λ (o : Option CallingLeg). IsCalling setup o new.calling) (heard_same setup (calling_leg setup trace) (max at (clock trace)) octets at decided h.read) h.calling in
    let steps : List Step = (both_legs setup writes trace).steps in
    let ends_is : Bool = not (idle_after (calling_leg setup trace)) && idle_after (calling_after setup (calling_leg setup trace) (max at (clock trace)) (FromCalling octets at decided h.read)) in
    record {
      told = both.told;
      hears = record {
        read = h.read;
        reached = record {
          is_trace = ((answer, h.right), r.is_trace);
          at = now;
          set = subst (λ (x : Settings). HasSettings setup x) (sym set) r.set;
          rung = rung ∙ r.rung;
          calling = leg;
          called = subst (λ (s : CallerEndpoint). IsCalled setup writes (both_legs setup writes trace).leg s) (sym same) r.called;
          book =
              book ∙ ap (λ (b : Book). if ends then closed b else b) r.book
              ∙ ap (λ (b : Bool). if b then closed (book_of (both_legs setup writes trace)) else book_of (both_legs setup writes trace)) (ended _ leg)
              ∙ sym (ended_book ends_is steps);
        };
      };
    }

-- what is heard, whatever is told of it
pub heard_alike : {E : Type 0} → (Tells : List Telling → Type 0) (r : Result Bool E) (octets : List ℕ) (now : ℕ) (old new : GatewayValue) → IfOk r (λ decided. AdvancesByHearingTold Tells old octets now decided new)
    → IfOk r (λ decided. AdvancesByHearing old octets now decided new)
heard_alike Tells (Ok decided) octets now old new h = λ setup writes trace r. (h setup writes trace r).hears
heard_alike Tells (Err e) octets now old new h = tt
