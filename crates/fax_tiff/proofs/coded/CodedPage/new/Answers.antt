use Rattle.std.proofs.Common.{◌≤◌, ℕ, List, length, sym, ◌∙◌, ap, subst}
use Rattle.fax_tiff.specs.Strips.{IsStripOf, strip_in}
use Rattle.fax_tiff.proofs.StripLemmas.{text_has_nine, text_has_strip}
use Rattle.fax_tiff.proofs.coded.CodedPage.new.Goals as goal

pub strip_of-requires : goal.strip_of-requires
strip_of-requires g c =
    subst (λ (o : List ℕ). 9 ≤ length o) (sym c.into_vec.ensures) (text_has_nine c.args.page.now c.in_ok-text.text c.rows.ensures.are_rows.some c.in_ok-text.ensures)

pub returns : goal.returns
returns g c = record {
  format_is = c.format.ensures;
  height_is = c.len.ensures ∙ ap length c.rows.ensures.same;
  strip_is = subst (IsStripOf c.args.page.now) (sym (c.in_ok-strip_of.ensures ∙ ap strip_in c.into_vec.ensures))
      (text_has_strip c.args.page.now c.in_ok-text.text c.rows.ensures.are_rows.some c.in_ok-text.ensures);
}
