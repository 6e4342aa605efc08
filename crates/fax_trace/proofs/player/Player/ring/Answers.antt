use Rattle.std.proofs.Common.{◌≡◌, ℕ, Bool, true, false, Result, Err, codes, inl, inr, refl, ap}
use Rattle.fax_gateway.specs.declared.fault.RingFault.{RingFault}
use Rattle.fax_gateway.specs.declared.fault.RingFault.TheVariants.{NoNumber}
use Rattle.fax_gateway.specs.CallingLegs.{calling_leg, idle_after}
use Rattle.fax_trace.specs.declared.event.ScriptEvent.TheVariants as script
use Rattle.fax_trace.proofs.PlayLemmas.{answers_refused}
use Rattle.fax_trace.proofs.player.Player.ring.Goals as goal

pub returns-in_ok-from_slice-in-Err-Busy-clause-answered :
    goal.returns-in_ok-from_slice-in-Err-Busy-clause-answered
returns-in_ok-from_slice-in-Err-Busy-clause-answered c = λ setup writes old is.
    let busy = (c.in-Err-Busy.ensures.busy setup writes old.trace is.reached).0 (ap Err c.in-Err-Busy.field-0-is) in
    answers_refused setup writes old script.Ring _ _ (codes "ring refused 1 Busy") (inl (busy, refl)) (rw c.in-Err-Busy.ensures.err is.reached) is.at
    c.in_ok-from_slice-in-Err-Busy.ensures.items

-- a test that is never false is true
true_if_never : (b : Bool) → (b ≡ false → ⊥) → b ≡ true
true_if_never true never = refl
true_if_never false never = absurd (never refl)

pub returns-in_ok-from_slice-in-Err-NoNumber-clause-answered :
    goal.returns-in_ok-from_slice-in-Err-NoNumber-clause-answered
returns-in_ok-from_slice-in-Err-NoNumber-clause-answered c = λ setup writes old is.
    let cause : ◌≡◌ {A = Result ℕ RingFault} (Err c.in-Err-NoNumber.field-0) (Err NoNumber) = ap Err c.in-Err-NoNumber.field-0-is in
    let idle : idle_after (calling_leg setup old.trace) ≡ true =
    true_if_never (idle_after (calling_leg setup old.trace)) (λ busy. let told = (c.in-Err-NoNumber.ensures.busy setup writes old.trace is.reached).1 busy in cc) in
    let none = (c.in-Err-NoNumber.ensures.no_number setup writes old.trace is.reached idle).0 cause in
    answers_refused setup writes old script.Ring _ _ (codes "ring refused 2 NoNumber") (inr (idle, none, refl)) (rw c.in-Err-NoNumber.ensures.err is.reached) is.at
    c.in_ok-from_slice-in-Err-NoNumber.ensures.items
