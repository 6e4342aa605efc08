use Rattle.std.proofs.Common.{◌≡◌, subst, sym, ◌∙◌}
use Rattle.std.proofs.lemmas.Bool.{eq-eqb, eqb-true}
use Rattle.fax_pagestore.specs.Writers.{WriterValue, HasLeft}
use Rattle.fax_pagestore.specs.declared.writer.Place.TheVariants.{End}
use Rattle.fax_pagestore.proofs.WriterLemmas.{none_left, all_given}
use Rattle.fax_pagestore.proofs.writer.PageWriter.ended.Goals as goal
use Rattle.fax_pagestore.proofs.writer.PageWriter.ended.Goals.{in-End, in_default}

pub returns-then-matches-clause-left : goal.returns-then-matches-clause-left
returns-then-matches-clause-left c = λ page octets has.
    let end : c.self.inside.place ≡ End = elim c.match-matches.branch [
      | in-End w ↦ w.in-End.is
      | in_default w ↦ absurd (cc)
    ] in
    let w : WriterValue = record { format = c.self.inside.format; coding = c.self.inside.coding; least = c.self.inside.least_bits; place = c.self.inside.place; waiting = c.self.inside.waiting } in
    let here : HasLeft page octets w = subst (HasLeft page octets) (sym c.self.view_is) has in (
      λ t. all_given page octets w end (sym c.bits.ensures ∙ eqb-true c.bits.result 0 t) here,
      λ none. eq-eqb c.bits.result 0 (c.bits.ensures ∙ (none_left page w (subst (λ o. HasLeft page o w) none here)).1),
    )

pub returns-else-matches-clause-left : goal.returns-else-matches-clause-left
returns-else-matches-clause-left c = λ page octets has.
    let w : WriterValue = record { format = c.self.inside.format; coding = c.self.inside.coding; least = c.self.inside.least_bits; place = c.self.inside.place; waiting = c.self.inside.waiting } in
    let here : HasLeft page octets w = subst (HasLeft page octets) (sym c.self.view_is) has in (
      λ t. absurd (cc),
      λ none. (
          let end : c.self.inside.place ≡ End = (none_left page w (subst (λ o. HasLeft page o w) none here)).0 in
          elim c.match-matches.branch [
            | in-End w ↦ w.matches-is
            | in_default w ↦ absurd (w.in_default.not-End end)
          ]),
    )
