use Rattle.std.proofs.Common.{◌≡◌, ℕ, List, sym, subst}
use Rattle.std.proofs.lemmas.Result.{err_from_is_err_and}
use Rattle.fax_runcodes.specs.declared.format.Coding.{Coding}
use Rattle.fax_runcodes.specs.Widths.{elements_of}
use Rattle.fax_pagestore.specs.PageFaults.{HasNoEol}
use Rattle.fax_c.specs.declared.outcome.Refusal.TheVariants.{Page}
use Rattle.fax_c.specs.Calls.{RefusesText, coding_by}
use Rattle.fax_c.proofs.RunsLemmas.{RefusesText-page}
use Rattle.fax_c.proofs.reading.read_text.Goals as goal

pub returns-in_err-page-clause-refusal : goal.returns-in_err-page-clause-refusal
returns-in_err-page-clause-refusal c =
    let p = err_from_is_err_and c.from_residual-in_err-page.result c.from_residual-in_err-page.ensures.1 in
    let octets = c.args.octets.now in
    let fault = c.in_err-page.field-0.0 in
    let width = c.in_ok-width_of.field-0 in
    let wide : elements_of width ≡ c.args.width = c.in_ok-width_of.ensures.width in
    let coded : c.coding_of.result ≡ coding_by c.args.two_dimensional = c.coding_of.ensures in
    let refused = RefusesText-page (elements_of width) c.coding_of.result octets fault c.in_err-page.ensures.fault in
    let as_coded = subst (λ (coding : Coding). RefusesText (elements_of width) coding octets (Page fault)) coded refused in
    let as_wide = subst (λ (n : ℕ). RefusesText n (coding_by c.args.two_dimensional) octets (Page fault)) wide as_coded in
    let told : RefusesText c.args.width (coding_by c.args.two_dimensional) octets p.0 = rw p.2 as_wide in
    rw p.1 told

-- the coding of the page is the one that the clauses speak of
as_coded : (is wanted : Coding) (octets : List ℕ) → is ≡ wanted → HasNoEol wanted octets → HasNoEol is octets
as_coded is wanted octets same none = subst (λ (coding : Coding). HasNoEol coding octets) (sym same) none

pub returns-in_err-page-clause-no_eol_next : goal.returns-in_err-page-clause-no_eol_next
returns-in_err-page-clause-no_eol_next c = λ width none.
    let p = err_from_is_err_and c.from_residual-in_err-page.result c.from_residual-in_err-page.ensures.1 in
    let told = c.in_err-page.ensures.no_eol (as_coded c.coding_of.result (coding_by c.args.two_dimensional) c.args.octets.now c.coding_of.ensures none) in
    cc (p.1, p.2, told)

pub returns-clause-no_eol_next : goal.returns-clause-no_eol_next
returns-clause-no_eol_next c = λ width none.
    let told = c.in_ok-page.ensures.no_eol (as_coded c.coding_of.result (coding_by c.args.two_dimensional) c.args.octets.now c.coding_of.ensures none) in
    cc told
