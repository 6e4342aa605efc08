use Rattle.fax_queue.proofs.NotedPasts.{new_lines_have_whole_pasts, restarts_find_what_is_left}
use Rattle.fax_queue.proofs.laws.histories.restarts_find_what_is_left.Goals as goal

pub returns-clause-found : goal.returns-clause-found
returns-clause-found c = restarts_find_what_is_left c.what_is_owed_is_restored.ensures c.servers_lose_none.ensures

pub returns-clause-begins : goal.returns-clause-begins
returns-clause-begins c = new_lines_have_whole_pasts
