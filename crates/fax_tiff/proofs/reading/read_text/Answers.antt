use Rattle.std.proofs.Common.{ℕ, List, ap, subst, ◌∙◌}
use Rattle.fax_tiff.specs.declared.fault.TiffFault.TheVariants.{BadPage}
use Rattle.fax_tiff.specs.ReadTiffs.{FailsText, PageText}
use Rattle.fax_tiff.proofs.reading.read_text.Goals as goal

pub returns-in_default : goal.returns-in_default
returns-in_default c =
    let shown : List ℕ → PageText = λ octets. record { format = c.text.inside.format; coding = c.text.inside.coding; height = c.text.inside.height; text = octets } in
    record {
      ok = tt;
      fault = λ apart.
          subst (λ (t : PageText). FailsText t (BadPage c.in-Err.fault)) (ap shown c.as_slice.ensures.value ∙ c.text.view_is) (c.in-Err.ensures.fault (λ e. c.in_default.not-NoMemory (cc)));
    }
