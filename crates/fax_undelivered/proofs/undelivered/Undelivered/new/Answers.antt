use Rattle.std.proofs.Common.{[], List, ◌∙◌, ap}
use Rattle.fax_spool.specs.RecordOctets.{PageValue}
use Rattle.fax_undelivered.specs.Calls.{CallValue, calls_after}
use Rattle.fax_undelivered.proofs.Closing.{closed_tell}
use Rattle.fax_undelivered.proofs.undelivered.Undelivered.new.Goals as goal

pub returns-clause-keeps : goal.returns-clause-keeps
returns-clause-keeps g c = λ waits wait same. record {
  wait = wait;
  listed = c.in_ok-add_pages.ensures
      ∙ ap (λ (l : List CallValue). calls_after l c.as_slice-2.result.now) c.new-calls.ensures.items
      ∙ ap (λ (l : List PageValue). calls_after [] l) (c.as_slice-2.ensures.value ∙ c.in_ok-records.ensures ∙ c.as_slice.ensures.value ∙ same)
      ∙ closed_tell waits [];
}
