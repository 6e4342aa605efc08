use Rattle.std.proofs.Common.{arith, subst, sym}
use Rattle.fax_bits.specs.Writing.{IsPadded}
use Rattle.fax_pagestore.proofs.WaitingLemmas.{AreHeld-all, held_is}
use Rattle.fax_pagestore.proofs.writer.waiting.Waiting.of.Goals as goal
use Rattle.fax_pagestore.proofs.writer.waiting.Waiting.of.Goals.{After-into_vec}

padded : (c : After-into_vec) → IsPadded c.into_vec.result.items c.args.writer
padded c = subst (λ o. IsPadded o c.args.writer) (sym c.into_vec.ensures) c.finish.ensures

pub invariant_of-result : goal.invariant_of-result
invariant_of-result c =
    let held = AreHeld-all c.into_vec.result.items c.args.writer c.bits-bits.result c.bits-bits.ensures (padded c) in
    (omega arith, held.within, held.padded)

pub returns : goal.returns
returns c = held_is c.into_vec.result.items c.args.writer c.bits-bits.result c.bits-bits.ensures (padded c)
