use Rattle.fax_queue.proofs.PastRuns.{runs_make_history}
use Rattle.fax_queue.proofs.laws.histories.runs_make_history.Goals as goal

pub returns : goal.returns
returns g c =
    runs_make_history _ _ _ _ _ c.turns_tell_both.ensures c.confirms_the_newest.ensures c.jobs_are_of_their_calls.ensures c.pages_are_written.ensures c.written_pages_mean.ensures c.pages_are_unique.ensures c.what_is_owed_is_restored.ensures
