use Rattle.std.proofs.Common.{◌≡◌, refl, ◌∙◌, ap, arith}
use Rattle.fax_spool.specs.Spools.{epoch_of}
use Rattle.fax_spool.proofs.Openings.{first_is_older, is_before, is_not_before, reads, destroyed_are, second_is_older, tells}
use Rattle.fax_spool.proofs.opening.open_spool.Goals as goal

pub returns-then-first_epoch : goal.returns-then-first_epoch
returns-then-first_epoch g c = record {
  opened = λ are_clean.
      let clean = c.in_ok-begin.ensures.clean are_clean in
      let ones = c.in_ok-ones.ones.items in
      let others = c.in_ok-others.others.items in
      let ones_read = reads c.in_ok-first.first c.as_slice.result.now ones ones c.as_slice.ensures.value c.in_ok-ones.ensures refl in
      let others_read = reads c.in_ok-second.second c.as_slice-2.result.now others others c.as_slice-2.ensures.value c.in_ok-others.ensures refl in
      let one_epoch : c.first_epoch.result ≡ epoch_of ones = c.first_epoch.ensures ∙ ap epoch_of c.as_slice-3.ensures.value in
      let other_epoch : c.first_epoch-2.result ≡ epoch_of others = c.first_epoch-2.ensures ∙ ap epoch_of c.as_slice-4.ensures.value in
      second_is_older _ _ _ _ _ c.in_ok-begin.field-0 ones others
      (tells _ c.in_ok-first.first ones (c.in_ok-first.ensures.found clean.1).stands ones_read)
      (tells _ c.in_ok-second.second others (c.in_ok-second.ensures.found clean.0).stands others_read)
      (is_not_before (epoch_of ones) (epoch_of others) (omega (arith, one_epoch, other_epoch, c.if-first_epoch.true)))
      (c.in_ok-begin.ensures.begun (c.in_ok-second.ensures.settled clean.0) others_read (c.in_ok-first.ensures.settled clean.1) ones_read)
      c.in_ok-begin.ensures.older_epochs c.in_ok-begin.ensures.newer_epochs c.in_ok-begin.ensures.pages (c.in_ok-begin.ensures.torn ∙ destroyed_are _ _ _ _ _ _ (c.in_ok-second.ensures.found clean.0).destroyed (c.in_ok-first.ensures.found clean.1).destroyed) c.in_ok-begin.ensures.older_damaged c.in_ok-begin.ensures.newer_damaged
      (c.in_ok-begin.ensures.older_passed_over ∙ (c.in_ok-second.ensures.found clean.0).passed_over) (c.in_ok-begin.ensures.newer_passed_over ∙ (c.in_ok-first.ensures.found clean.1).passed_over);
  accepts = c.in_ok-begin.ensures.accepts;
}

pub returns : goal.returns
returns g c = record {
  opened = λ are_clean.
      let clean = c.in_ok-begin-2.ensures.clean are_clean in
      let ones = c.in_ok-ones.ones.items in
      let others = c.in_ok-others.others.items in
      let ones_read = reads c.in_ok-first.first c.as_slice.result.now ones ones c.as_slice.ensures.value c.in_ok-ones.ensures refl in
      let others_read = reads c.in_ok-second.second c.as_slice-2.result.now others others c.as_slice-2.ensures.value c.in_ok-others.ensures refl in
      let one_epoch : c.first_epoch.result ≡ epoch_of ones = c.first_epoch.ensures ∙ ap epoch_of c.as_slice-3.ensures.value in
      let other_epoch : c.first_epoch-2.result ≡ epoch_of others = c.first_epoch-2.ensures ∙ ap epoch_of c.as_slice-4.ensures.value in
      first_is_older _ _ _ _ _ c.in_ok-begin-2.field-0 ones others
      (tells _ c.in_ok-first.first ones (c.in_ok-first.ensures.found clean.0).stands ones_read)
      (tells _ c.in_ok-second.second others (c.in_ok-second.ensures.found clean.1).stands others_read)
      (is_before (epoch_of ones) (epoch_of others) (omega (arith, one_epoch, other_epoch, c.if-first_epoch.false)))
      (c.in_ok-begin-2.ensures.begun (c.in_ok-first.ensures.settled clean.0) ones_read (c.in_ok-second.ensures.settled clean.1) others_read)
      c.in_ok-begin-2.ensures.older_epochs c.in_ok-begin-2.ensures.newer_epochs c.in_ok-begin-2.ensures.pages (c.in_ok-begin-2.ensures.torn ∙ destroyed_are _ _ _ _ _ _ (c.in_ok-first.ensures.found clean.0).destroyed (c.in_ok-second.ensures.found clean.1).destroyed) c.in_ok-begin-2.ensures.older_damaged c.in_ok-begin-2.ensures.newer_damaged
      (c.in_ok-begin-2.ensures.older_passed_over ∙ (c.in_ok-first.ensures.found clean.0).passed_over) (c.in_ok-begin-2.ensures.newer_passed_over ∙ (c.in_ok-second.ensures.found clean.1).passed_over);
  accepts = c.in_ok-begin-2.ensures.accepts;
}
