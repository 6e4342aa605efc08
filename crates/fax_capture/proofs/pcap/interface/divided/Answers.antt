use Rattle.std.proofs.Common.{◌≡◌, subst, ◌/◌, ◌^◌, ◌+◌, ◌*◌, ◌≤◌, ℕ, suc, sym, ◌∙◌, ap, arith}
use Rattle.std.proofs.Math.Nat.{div-div-eq-div-mul, div-le_self, pow-suc}
use Rattle.fax_capture.proofs.pcap.interface.divided.Goals as goal

pub loop-preserved : goal.loop-preserved
loop-preserved c =
    let next : c.loop.counter + 1 ≡ suc c.loop.counter = omega arith in
    ap (λ (q : ℕ). q / c.args.base) c.loop.invariant
    ∙ div-div-eq-div-mul c.args.number (c.args.base ^ c.loop.counter) c.args.base
    ∙ ap (λ (n : ℕ). c.args.number / n) (sym (ap (λ (k : ℕ). c.args.base ^ k) next ∙ pow-suc c.args.base c.loop.counter))

pub returns-clause-less : goal.returns-clause-less
returns-clause-less c =
    subst (λ (q : ℕ). q ≤ c.args.number) (sym c.loop.invariant) (div-le_self c.args.number (c.args.base ^ c.loop.counter))
