-- What a restart finds after a past in which all was put and noted.
use Rattle.std.proofs.Common.{◌≡◌, ◌∙◌, true, List, [], ◌++◌, map, refl, sym, ap, subst}
use Rattle.fax_gateway.specs.Lives.{all_ended}
use Rattle.fax_gateway.specs.Restored.{CallPage, RestoredCall, call_shown, pages_restored}
use Rattle.fax_spool.specs.RecordOctets as spool
use Rattle.fax_spool.specs.Opened.{closed}
use Rattle.fax_queue.specs.Restorations.{Restores}
use Rattle.fax_queue.specs.Lives.{OwedIsRestored, owed}
use Rattle.fax_queue.specs.Book.{ServersLoseNone, page_of}
use Rattle.fax_queue.specs.NotedRuns.{NewLinesHaveWholePasts, RestartsFindWhatIsLeft}
use Rattle.fax_queue.proofs.BookEntries.{restored_pages}

pub restarts_find_what_is_left : OwedIsRestored → ServersLoseNone → RestartsFindWhatIsLeft
restarts_find_what_is_left owed_is lose writes line lives puts pages restored whole restores =
    let past = whole.past in
    let none = lose writes past.actions lives past.are whole.all in
    let calls = owed_is line past.actions past.state restored past.done (subst (λ (p : List spool.PageValue). Restores line (closed p) restored) (sym past.there) restores) in
    let found : pages_restored (map call_shown restored.calls.items) ≡ map page_of (owed past.actions) = ap (λ (c : List RestoredCall). pages_restored c) calls ∙ restored_pages (owed past.actions) in record {
      found = found ∙ none.owed_are;
      once = none.none_is_lost ∙ ap (λ (p : List CallPage). all_ended writes lives ++ p) (sym found);
    }

pub new_lines_have_whole_pasts : NewLinesHaveWholePasts
new_lines_have_whole_pasts writes line pages none = record {
  past = record { actions = []; state = record { waits = []; notes = true; pages = pages }; done = (refl, none); there = refl; are = record { traces = tt; same = refl }; put = refl };
  all = tt;
}
