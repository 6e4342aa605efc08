use Rattle.std.proofs.Common.{List, ◌∙◌, sym, ap, []}
use Rattle.fax_spool.specs.RecordOctets.{PageValue}
use Rattle.fax_spool.specs.Waits.{waiting_after}
use Rattle.fax_spool.specs.Opened.{closed}
use Rattle.fax_spool.proofs.Shares.{follows}
use Rattle.fax_spool.proofs.opening.pages_of.Goals as goal

pub returns : goal.returns
returns c =
    c.in_ok-closed.ensures
    ∙ ap (λ (l : List PageValue). closed l)
    (c.as_slice.ensures.value ∙ c.in_ok-follow_all.ensures ∙ ap (λ (l : List PageValue). waiting_after l c.args.news.now) c.in_ok-pages.ensures ∙ sym (follows [] c.args.olds.now c.args.news.now))
