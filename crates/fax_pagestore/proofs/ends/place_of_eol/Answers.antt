use Rattle.std.proofs.Common.{◌≡◌, ℕ, ◌+◌, List, length, sym, subst, arith}
use Rattle.std.proofs.lemmas.Nat.{trailing_le}
use Rattle.fax_pagestore.proofs.FirstEolLemmas.{NoneSoFar, NoneSoFar-none, NoneSoFar-zero, NoneSoFar-octet, NoneSoFar-no_eol}
use Rattle.fax_pagestore.proofs.ends.place_of_eol.Goals as goal
use Rattle.fax_pagestore.proofs.ends.place_of_eol.Goals.{then-octet-eq0, else-octet-eq0+else-zeros-octet-ge-EOL_ZEROS}

pub loop-place-init : goal.loop-place-init
loop-place-init c = NoneSoFar-none c.args.octets.now

pub loop-place-preserved : goal.loop-place-preserved
loop-place-preserved c =
    let octets : List ℕ = c.args.octets.now in
    let place : ℕ = c.loop-place.place in
    elim c.if-octet-eq0.branch [
      | then-octet-eq0 w ↦
          NoneSoFar-zero octets place c.loop-place.zeros c.if-octet-eq0.zeros (omega arith) (omega (arith, w.if-octet-eq0.true)) (omega (arith, w.zeros-is, w.min-zeros.ensures)) c.loop-place.invariant
      | else-octet-eq0+else-zeros-octet-ge-EOL_ZEROS w ↦
          subst (NoneSoFar octets (place + 1)) (sym w.zeros-is)
          (NoneSoFar-octet octets place c.loop-place.zeros (omega arith) (omega (arith, c.type_inv.octets place)) (omega (arith, w.if-octet-eq0.false)) (omega (arith, w.if-zeros-octet-ge-EOL_ZEROS.false))
          (trailing_le 8 _) c.loop-place.invariant)
    ]

pub returns-then-zeros-octet-ge-EOL_ZEROS-clause-none : goal.returns-then-zeros-octet-ge-EOL_ZEROS-clause-none
returns-then-zeros-octet-ge-EOL_ZEROS-clause-none c = NoneSoFar-no_eol c.args.octets.now c.loop-place.place c.loop-place.zeros c.loop-place.invariant

pub returns-clause-none : goal.returns-clause-none
returns-clause-none c =
    let all : c.loop-place.place ≡ length c.args.octets.now = omega arith in
    NoneSoFar-no_eol c.args.octets.now (length c.args.octets.now) c.loop-place.zeros (subst (λ n. NoneSoFar c.args.octets.now n c.loop-place.zeros) all c.loop-place.invariant)
