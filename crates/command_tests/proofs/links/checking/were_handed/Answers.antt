use Rattle.std.proofs.Common.{refl, ◌∙◌, subst, arith, take_all}
use Rattle.std.specs.Prelude.{Contains}
use Rattle.std.proofs.lemmas.List.Elements.{All-more}
use Rattle.fax_loop.specs.Links.{handed_called}
use Rattle.command_tests.proofs.links.checking.were_handed.Goals as goal

pub loop-octets-preserved : goal.loop-octets-preserved
loop-octets-preserved c = All-more (Contains (handed_called c.args.handed.now)) c.args.came.now c.loop-octets.octets-index c.octets-item.result (omega arith) c.loop-octets.invariant
    (subst (Contains (handed_called c.args.handed.now)) (c.as_slice.ensures ∙ c.octets-item.is) (c.if-not-was_handed.ensures refl))

pub returns : goal.returns
returns c = λ t. rw (take_all c.loop-octets.octets-index c.args.came.now (omega arith)) at c.loop-octets.invariant
