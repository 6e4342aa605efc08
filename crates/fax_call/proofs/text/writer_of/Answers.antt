use Rattle.std.proofs.Common.{◌≡◌, ℕ, List, Some, length, slice_get, sym, ◌∙◌, subst, get_or, refl}
use Rattle.std.proofs.lemmas.Option.{slice_get_read}
use Rattle.fax_runcodes.specs.declared.format.Coding.{Coding}
use Rattle.fax_runcodes.specs.declared.format.Format.{Format}
use Rattle.fax_pagestore.specs.Pages.{PageValue, IsPage}
use Rattle.fax_frames.specs.Capabilities.{coding_of, least_bits_of}
use Rattle.fax_call.proofs.TextLemmas.{HasAll, all_left}
use Rattle.fax_call.proofs.text.writer_of.Goals as goal

pub returns-clause-left : goal.returns-clause-left
returns-clause-left g c writes writing =
    let page : PageValue = c.index-as_slice-page.result in
    let pages : c.as_slice.result.now ≡ c.args.job.now.pages = c.as_slice.ensures ∙ c.pages.ensures.same in
    let is_at : page ≡ get_or c.args.job.now.pages c.args.page page = subst (λ (xs : List PageValue). page ≡ get_or xs c.args.page page) pages c.index-as_slice-page.is in
    let at : slice_get c.args.job.now.pages c.args.page ≡ Some page = slice_get_read c.args.job.now.pages (length c.args.job.now.pages) c.args.page page refl c.requires is_at in
    let is : IsPage page = subst IsPage (sym is_at) (c.pages.ensures.is_job.are_pages c.args.page page c.requires) in
    all_left writes c.args.job.now c.args.page page c.args.dcs c.new.result writing is at
    (subst (λ (f : Format). HasAll f (coding_of c.args.dcs) (least_bits_of c.args.dcs) c.new.result) c.format-format.ensures
    (subst (λ (k : Coding). HasAll c.format-format.result k (least_bits_of c.args.dcs) c.new.result) c.coding.ensures
    (subst (λ (n : ℕ). HasAll c.format-format.result c.coding.result n c.new.result) c.least_bits.ensures c.new.ensures.left)))
