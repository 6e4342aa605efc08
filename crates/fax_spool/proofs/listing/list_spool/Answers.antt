use Rattle.std.proofs.Common.{◌≡◌, refl, ◌∙◌, ap, arith}
use Rattle.fax_spool.specs.Spools.{epoch_of}
use Rattle.fax_spool.specs.Torn.{damaged}
use Rattle.fax_spool.proofs.Recovery.{file_found}
use Rattle.fax_spool.proofs.Openings.{first_if_ok, is_before, is_not_before, reads, second_if_ok, tells}
use Rattle.fax_spool.proofs.listing.list_spool.Goals as goal

pub returns-then-first_epoch : goal.returns-then-first_epoch
returns-then-first_epoch c =
    let ones = c.in_ok-ones.ones.items in
    let others = c.in_ok-others.others.items in
    let one_found = file_found c.args.one.now c.in_ok-first.first c.in_ok-first.ensures c.args.one.now refl in
    let other_found = file_found c.args.other.now c.in_ok-second.second c.in_ok-second.ensures c.args.other.now refl in
    let one_epoch : c.first_epoch.result ≡ epoch_of ones = c.first_epoch.ensures ∙ ap epoch_of c.as_slice-5.ensures.value in
    let other_epoch : c.first_epoch-2.result ≡ epoch_of others = c.first_epoch-2.ensures ∙ ap epoch_of c.as_slice-6.ensures.value in
    second_if_ok _ _ ones others
    (tells _ c.in_ok-first.first ones one_found.stands (reads c.in_ok-first.first c.as_slice.result.now ones ones c.as_slice.ensures.value c.in_ok-ones.ensures refl))
    (tells _ c.in_ok-second.second others other_found.stands (reads c.in_ok-second.second c.as_slice-2.result.now others others c.as_slice-2.ensures.value c.in_ok-others.ensures refl))
    c.harm_of-one.result c.harm_of-other.result _ _ (c.harm_of-one.ensures.damaged ∙ ap damaged c.as_slice-3.ensures.value) (c.harm_of-other.ensures.damaged ∙ ap damaged c.as_slice-4.ensures.value)
    (c.harm_of-one.ensures.passed_over ∙ one_found.passed_over) (c.harm_of-other.ensures.passed_over ∙ other_found.passed_over) one_found.destroyed other_found.destroyed
    c.list.result (is_not_before (epoch_of ones) (epoch_of others) (omega (arith, one_epoch, other_epoch, c.if-first_epoch.true)))
    c.list.ensures.pages c.list.ensures.torn c.list.ensures.one c.list.ensures.other

pub returns : goal.returns
returns c =
    let ones = c.in_ok-ones.ones.items in
    let others = c.in_ok-others.others.items in
    let one_found = file_found c.args.one.now c.in_ok-first.first c.in_ok-first.ensures c.args.one.now refl in
    let other_found = file_found c.args.other.now c.in_ok-second.second c.in_ok-second.ensures c.args.other.now refl in
    let one_epoch : c.first_epoch.result ≡ epoch_of ones = c.first_epoch.ensures ∙ ap epoch_of c.as_slice-5.ensures.value in
    let other_epoch : c.first_epoch-2.result ≡ epoch_of others = c.first_epoch-2.ensures ∙ ap epoch_of c.as_slice-6.ensures.value in
    first_if_ok _ _ ones others
    (tells _ c.in_ok-first.first ones one_found.stands (reads c.in_ok-first.first c.as_slice.result.now ones ones c.as_slice.ensures.value c.in_ok-ones.ensures refl))
    (tells _ c.in_ok-second.second others other_found.stands (reads c.in_ok-second.second c.as_slice-2.result.now others others c.as_slice-2.ensures.value c.in_ok-others.ensures refl))
    c.harm_of-one.result c.harm_of-other.result _ _ (c.harm_of-one.ensures.damaged ∙ ap damaged c.as_slice-3.ensures.value) (c.harm_of-other.ensures.damaged ∙ ap damaged c.as_slice-4.ensures.value)
    (c.harm_of-one.ensures.passed_over ∙ one_found.passed_over) (c.harm_of-other.ensures.passed_over ∙ other_found.passed_over) one_found.destroyed other_found.destroyed
    c.list-2.result (is_before (epoch_of ones) (epoch_of others) (omega (arith, one_epoch, other_epoch, c.if-first_epoch.false)))
    c.list-2.ensures.pages c.list-2.ensures.torn c.list-2.ensures.one c.list-2.ensures.other
