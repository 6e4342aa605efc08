use Rattle.std.proofs.Common.{Bool, nat_eq, slice_index_or, subst}
use Rattle.fax_line.specs.Operations.{IsFreed}
use Rattle.fax_line.proofs.laws.others_stay.Goals as goal

pub returns : goal.returns
returns c = λ line what answer old new frees number other there is.
    subst (λ (b : Bool). IsFreed b what answer (slice_index_or old number other) (slice_index_or new number other)) is (frees.each number other there)
