use Rattle.std.proofs.Common.{refl}
use Rattle.fax_spool.specs.Waits.{left_after, waiting}
use Rattle.fax_spool.proofs.KnownPages.{same_kept}
use Rattle.fax_spool.proofs.ReadBack.{ended_both, is_read}
use Rattle.fax_spool.proofs.spool.Spool.pages_ended_by.Goals as goal

pub returns-clause-found : goal.returns-clause-found
returns-clause-found g c = λ clean olds news k.
    ended_both c.args.ended.now olds news _ _ _
    c.new-found.ensures.items
    (c.in_ok-push_ended.ensures.found clean.0 k.older_items (left_after (waiting olds) news) k.older (same_kept _ _ _ _ _ c.as_slice-older_pages.ensures.value refl k.older_waits))
    (c.in_ok-push_ended-2.ensures.found clean.1 k.newer_items (waiting news) k.newer (same_kept _ _ _ _ _ c.as_slice-newer_pages.ensures.value refl k.newer_waits))

pub returns-then-self-clause-read : goal.returns-then-self-clause-read
returns-then-self-clause-read g c = is_read _ _ _ c.args.self.now c.args.self.now.older c.args.self.now.newer (λ rs s. s) (λ rs s. s) (λ l left. left) (λ l left. left)

pub returns-in_err-push_ended-clause-read : goal.returns-in_err-push_ended-clause-read
returns-in_err-push_ended-clause-read g c = is_read _ _ _ c.args.self.now c.push_ended.new.file c.args.self.now.newer c.push_ended.ensures.settled (λ rs s. s) c.push_ended.ensures.crash (λ l left. left)

pub returns-in_err-push_ended-2-clause-read : goal.returns-in_err-push_ended-2-clause-read
returns-in_err-push_ended-2-clause-read g c = is_read _ _ _ c.args.self.now c.push_ended.new.file c.push_ended-2.new.file c.push_ended.ensures.settled c.push_ended-2.ensures.settled c.push_ended.ensures.crash c.push_ended-2.ensures.crash

pub returns-clause-read : goal.returns-clause-read
returns-clause-read g c = is_read _ _ _ c.args.self.now c.push_ended.new.file c.push_ended-2.new.file c.push_ended.ensures.settled c.push_ended-2.ensures.settled c.push_ended.ensures.crash c.push_ended-2.ensures.crash
