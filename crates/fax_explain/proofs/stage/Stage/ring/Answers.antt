use Rattle.std.proofs.Common.{◌≡◌, ℕ, Bool, true, false, List, [], ◌∷◌, ◌++◌, Result, Err, codes, inl, inr, refl, sym, ◌∙◌, ap, ap₂, append-nil}
use Rattle.fax_command.proofs.PutLemmas.{OnOk-then}
use Rattle.fax_gateway.specs.Events.{Ring}
use Rattle.fax_gateway.specs.declared.fault.RingFault.{RingFault}
use Rattle.fax_gateway.specs.declared.fault.RingFault.TheVariants.{NoNumber}
use Rattle.fax_gateway.specs.CallingLegs.{calling_leg, idle_after}
use Rattle.fax_trace.specs.declared.event.ScriptEvent.TheVariants as script
use Rattle.fax_descriptions.specs.declared.lane.Lane.TheVariants.{FromCaller}
use Rattle.fax_descriptions.specs.Tales.{inside}
use Rattle.fax_descriptions.specs.Tellings.{Description}
use Rattle.fax_explain.proofs.StagedLemmas.{gives_rung, hears_rung, outside_new}
use Rattle.fax_explain.proofs.PlayLemmas.{accepted_on, refused_on}
use Rattle.fax_explain.proofs.stage.Stage.ring.Goals as goal

pub returns-in_ok-words-in-Ok : goal.returns-in_ok-words-in-Ok
returns-in_ok-words-in-Ok c = OnOk-then c.tell.result c.tell.ensures (λ told setup writes old at reached.
    accepted_on setup writes old script.Ring _ _ (Ring c.args.moment c.in-Ok.call) refl at
    (told ∙ ap₂ (λ (a : List Description) (b : List ℕ). a ++ inside b ∷ []) c.requires (c.as_str.ensures.value ∙ c.in_ok-words-in-Ok.ensures.ok))
    (record {
      reached = c.in-Ok.ensures.rung setup writes old.trace reached.reached;
      hears = hears_rung setup (calling_leg setup old.trace) _ c.args.moment c.in-Ok.call _ c.new.ensures.ear c.new.ensures.hearing;
      hears_job = reached.hears_job;
      caller_outside = outside_new FromCaller _ c.new.ensures.ear c.new.ensures.hearing;
      called_outside = reached.called_outside;
      gives = gives_rung setup (calling_leg setup old.trace) _ c.args.moment c.in-Ok.call _ c.new.ensures.ours c.new.ensures.giving;
      gives_job = reached.gives_job;
      pages = c.new.ensures.pages;
    }))

pub returns-in-Err-Busy : goal.returns-in-Err-Busy
returns-in-Err-Busy c = OnOk-then c.tell-in-Err-Busy.result c.tell-in-Err-Busy.ensures (λ told setup writes old at reached.
    let busy = (c.in-Err-Busy.ensures.busy setup writes old.trace reached.reached).0 (ap Err c.in-Err-Busy.field-0-is) in
    refused_on setup writes old script.Ring _ _ (codes "ring refused 1 Busy") (codes ": a call is on") (inl (busy, refl))
    (told ∙ ap (λ (a : List Description). a ++ inside (codes "ring refused 1 Busy: a call is on") ∷ []) c.requires) (record { reached = rw c.in-Err-Busy.ensures.err reached.reached; hears = reached.hears; hears_job = reached.hears_job; caller_outside = reached.caller_outside; called_outside = reached.called_outside; gives = reached.gives; gives_job = reached.gives_job; pages = reached.pages }))

-- a test that is never false is true
true_if_never : (b : Bool) → (b ≡ false → ⊥) → b ≡ true
true_if_never true never = refl
true_if_never false never = absurd (never refl)

pub returns-in-Err-NoNumber : goal.returns-in-Err-NoNumber
returns-in-Err-NoNumber c = OnOk-then c.tell-in-Err-NoNumber.result c.tell-in-Err-NoNumber.ensures (λ told setup writes old at reached.
    let line : List ℕ = codes "ring refused 2 NoNumber" in
    let cause : ◌≡◌ {A = Result ℕ RingFault} (Err c.in-Err-NoNumber.field-0) (Err NoNumber) = ap Err c.in-Err-NoNumber.field-0-is in
    let idle : idle_after (calling_leg setup old.trace) ≡ true =
    true_if_never (idle_after (calling_leg setup old.trace)) (λ busy. let told = (c.in-Err-NoNumber.ensures.busy setup writes old.trace reached.reached).1 busy in cc) in
    let none = (c.in-Err-NoNumber.ensures.no_number setup writes old.trace reached.reached idle).0 cause in
    refused_on setup writes old script.Ring _ _ line [] (inr (idle, none, refl))
    (told ∙ ap₂ (λ (a : List Description) (b : List ℕ). a ++ inside b ∷ []) c.requires (sym (append-nil line))) (record { reached = rw c.in-Err-NoNumber.ensures.err reached.reached; hears = reached.hears; hears_job = reached.hears_job; caller_outside = reached.caller_outside; called_outside = reached.called_outside; gives = reached.gives; gives_job = reached.gives_job; pages = reached.pages }))
