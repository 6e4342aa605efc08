use Rattle.std.proofs.Common.{◌≡◌, ◌≢◌, ℕ, List, IfErr, sym, ◌∙◌, ap, subst}
use Rattle.fax_runcodes.specs.declared.format.Coding.TheVariants.{Mr}
use Rattle.fax_runcodes.specs.declared.format.Format.{Format}
use Rattle.fax_runcodes.specs.Widths.{elements_of}
use Rattle.fax_pagestore.specs.declared.fault.PageFault.TheVariants.{NoMemory}
use Rattle.fax_pagestore.specs.PageTexts.{MeansPage}
use Rattle.fax_pagestore.specs.PageFaults.{FailsPage}
use Rattle.fax_spool.specs.RecordOctets.{PageValue as RecordValue}
use Rattle.fax_spool_folder.proofs.pages.read_waiting_page.Goals as goal

pub returns-clause-reads : goal.returns-clause-reads
returns-clause-reads c = λ page means.
    let octets : c.as_slice.result.now ≡ c.args.waits.now.text = c.as_slice.ensures.value ∙ ap (λ (p : RecordValue). p.text) c.waits.view_is in
    let format : c.waits.inside.format ≡ c.args.waits.now.format = ap (λ (p : RecordValue). p.format) c.waits.view_is in
    c.read_page.ensures.reads page
    (subst (λ (l : List ℕ). MeansPage c.waits.inside.format Mr l page) (sym octets) (subst (λ (f : Format). MeansPage f Mr c.args.waits.now.text page) (sym format) means))

pub returns-clause-fault : goal.returns-clause-fault
returns-clause-fault c =
    let octets : c.as_slice.result.now ≡ c.args.waits.now.text = c.as_slice.ensures.value ∙ ap (λ (p : RecordValue). p.text) c.waits.view_is in
    let format : c.waits.inside.format ≡ c.args.waits.now.format = ap (λ (p : RecordValue). p.format) c.waits.view_is in
    subst (λ (l : List ℕ). IfErr c.read_page.result (λ fault. fault ≢ NoMemory → FailsPage (elements_of c.args.waits.now.format.width) Mr l fault)) octets
    (subst (λ (f : Format). IfErr c.read_page.result (λ fault. fault ≢ NoMemory → FailsPage (elements_of f.width) Mr c.as_slice.result.now fault)) format c.read_page.ensures.fault)
