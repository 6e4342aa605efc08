use Rattle.fax_queue.proofs.store.SpoolStoreRunStore.end_jobs.Goals as goal

pub returns : goal.returns
returns g c = c.end_all.ensures.ends.0
