use Rattle.fax_runs.proofs.restarts.WholePasts.{new_files_whole, whole_runs_cross}
use Rattle.fax_runs.proofs.restarts.laws.whole_runs_cross.Goals as goal

pub returns-clause-begins : goal.returns-clause-begins
returns-clause-begins g c = new_files_whole c.new_spools_tell_none.ensures c.restarts_find_what_is_left.ensures.begins

pub returns-clause-crosses : goal.returns-clause-crosses
returns-clause-crosses g c =
    whole_runs_cross _ _ _ _ _ c.openings_find_what_waits.ensures c.runs_note_all.ensures c.crashes_leave_what_waits.ensures
