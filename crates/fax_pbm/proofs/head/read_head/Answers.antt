use Rattle.std.proofs.Common.{◌≡◌, drop, Err, Result, sym, ◌∙◌, ap, subst}
use Rattle.std.proofs.lemmas.Bool.{cond-false, cond-true}
use Rattle.fax_pbm.specs.declared.fault.PbmFault.{PbmFault}
use Rattle.fax_pbm.specs.declared.fault.PbmFault.TheVariants.{NoHead}
use Rattle.fax_pbm.specs.Pictures.{Gives, Head, begins_as_picture, head_after, head_of, head_shown}
use Rattle.fax_pbm.proofs.head.read_head.Goals as goal

pub returns-in-None : goal.returns-in-None
unfolding head_of
returns-in-None c = cond-false (begins_as_picture c.args.octets.now) (head_after (drop 2 c.args.octets.now)) (Err NoHead) c.in-None.ensures.cases

pub returns-in-Some : goal.returns-in-Some
unfolding head_of
returns-in-Some c =
    let cases = c.in-Some.ensures.cases in
    let whole : head_of c.args.octets.now ≡ head_after c.in-Some.rest.now =
    cond-true (begins_as_picture c.args.octets.now) (head_after (drop 2 c.args.octets.now)) (Err NoHead) cases.0 ∙ ap head_after (sym cases.1) in
    subst (λ (read : Result Head PbmFault). Gives head_shown c.read_numbers.result read) (sym whole) c.read_numbers.ensures
