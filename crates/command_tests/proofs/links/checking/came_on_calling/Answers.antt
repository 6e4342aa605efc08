use Rattle.std.proofs.Common.{ℕ, List, [], ◌∷◌, refl, subst, arith, take_all}
use Rattle.std.specs.Prelude.{All, Contains}
use Rattle.std.specs.List.{AllByRecursion}
use Rattle.std.proofs.lemmas.List.Elements.{All-append, All-more, All-nil, recursion_from_All}
use Rattle.fax_gateway.specs.declared.leg.Leg.TheVariants as legs
use Rattle.fax_gateway.specs.Wires as wires
use Rattle.fax_gateway.specs.Wires.{Receipt}
use Rattle.fax_loop.specs.Links.{came_calling}
use Rattle.command_tests.proofs.links.checking.came_on_calling.Goals as goal

abbrev IsFrom : List (List ℕ) → Receipt → Type 0
IsFrom sent r = All (Contains sent) (came_calling (r ∷ []))

all_from : (sent : List (List ℕ)) (rs : List Receipt) → AllByRecursion (IsFrom sent) rs → All (Contains sent) (came_calling rs)
all_from sent [] a = All-nil (Contains sent)
all_from sent (wires.Came legs.Calling room octets ∷ rs) a = All-append (Contains sent) (octets ∷ []) (came_calling rs) a.0 (all_from sent rs a.1)
all_from sent (wires.Came legs.Called room octets ∷ rs) a = all_from sent rs a.1
all_from sent (wires.Nothing at room ∷ rs) a = all_from sent rs a.1
all_from sent (wires.Failed at room ∷ rs) a = all_from sent rs a.1

pub loop-receipt-preserved : goal.loop-receipt-preserved
loop-receipt-preserved c =
    All-more (IsFrom c.args.sent.now) c.args.receipts.now c.loop-receipt.receipt-index c.receipt-item.result (omega arith) c.loop-receipt.invariant
    (subst (IsFrom c.args.sent.now) c.receipt-item.is (c.if-not-is_from.ensures.calling refl refl))

pub returns : goal.returns
returns c = λ t.
    let sent : List (List ℕ) = c.args.sent.now in
    let receipts : List Receipt = c.args.receipts.now in
    let each : All (IsFrom sent) receipts = rw (take_all c.loop-receipt.receipt-index receipts (omega arith)) at c.loop-receipt.invariant in
    all_from sent receipts (recursion_from_All (IsFrom sent) receipts each)
