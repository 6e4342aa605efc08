use Rattle.fax_spool_folder.proofs.folder.open_pair.Goals as goal

-- the files are as they were as they were opened
pub returns-clause-opened : goal.returns-clause-opened
returns-clause-opened g c = λ clean.
    let fresh = c.in_ok-files.ensures.fresh in
    rw (fresh.1.0, fresh.1.1, fresh.0.0, fresh.0.1) at (c.in_ok-open_spool.ensures.opened clean)
