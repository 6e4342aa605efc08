use Rattle.std.proofs.Common.{◌+◌, ◌++◌, List, map, refl, subst, sym, take}
use Rattle.std.proofs.lemmas.Result.{err_from_is_err_and}
use Rattle.fax_pagestore.specs.Pages.{PageValue}
use Rattle.fax_send_receive.specs.Files.{ArePagesOfFiles}
use Rattle.fax_send_receive.specs.Runs.{pages_of}
use Rattle.fax_send_receive.proofs.FileLemmas.{job_made, no_page, of_file, of_pages, pages_more}
use Rattle.fax_send_receive.proofs.job_files.read_job.Goals as goal

-- no file was read
pub loop-name-init : goal.loop-name-init
loop-name-init g c = record { begun = tt; pages = refl }

-- the fault of a file
pub returns-in_err-pages-clause-fault : goal.returns-in_err-pages-clause-fault
returns-in_err-pages-clause-fault g c =
    let p = err_from_is_err_and c.from_residual.result c.from_residual.ensures.1 in
    rw (p.1, p.2) (of_file _ _ _ c.args.names.now c.loop-name.name-index _ _ c.loop-name-test.true c.in_err-pages.ensures.fault)

-- too many pages
pub returns-in_err-job-clause-fault : goal.returns-in_err-job-clause-fault
returns-in_err-job-clause-fault g c =
    let p = err_from_is_err_and c.from_residual-in_err-job.result c.from_residual-in_err-job.ensures.1 in
    let holds = g.F.NamedFiles.holds c.args.files.now in
    let so_far = c.loop-name.invariant in
    rw (p.1, p.2)
    (of_pages holds c.args.reading.format c.args.reading.coding (map (λ name. name.now) c.args.names.now) (c.loop-name.name-index + 1) (pages_of c.loop-name.job ++ c.in_ok-pages.pages.items) _
    (pages_more holds c.args.reading.format c.args.reading.coding c.args.names.now c.loop-name.name-index _ (pages_of c.loop-name.job) c.in_ok-pages.pages.items c.loop-name-test.true so_far.pages
    c.in_ok-pages.ensures.ok) c.in_err-job.ensures.fault)

-- the pages of one file more
pub loop-name-preserved : goal.loop-name-preserved
loop-name-preserved g c =
    let holds = g.F.NamedFiles.holds c.args.files.now in
    let so_far = c.loop-name.invariant in
    record {
      begun = c.in_ok-job.ensures.begun;
      pages =
          subst (λ (pages : List PageValue). ArePagesOfFiles holds c.args.reading.format c.args.reading.coding (take (c.loop-name.name-index + 1) (map (λ name. name.now) c.args.names.now)) pages)
          (sym c.in_ok-job.ensures.ok)
          (pages_more holds c.args.reading.format c.args.reading.coding c.args.names.now c.loop-name.name-index _ (pages_of c.loop-name.job) c.in_ok-pages.pages.items c.loop-name-test.true so_far.pages
          c.in_ok-pages.ensures.ok);
    }

-- each file had its pages
pub returns-in-Some-clause-ok : goal.returns-in-Some-clause-ok
returns-in-Some-clause-ok g c =
    let so_far = c.loop-name.invariant in
    job_made _ _ _ c.args.names.now c.loop-name.name-index c.loop-name.job c.in-Some.job c.loop-name-test.false c.in-Some.is so_far.begun so_far.pages

-- or there was none
pub returns-in-None-clause-fault : goal.returns-in-None-clause-fault
returns-in-None-clause-fault g c = no_page _ _ _ c.args.names.now c.loop-name.name-index c.loop-name.job c.loop-name-test.false c.in-None.is c.loop-name.invariant.pages
