use Rattle.std.proofs.Common.{◌≡◌, ◌∙◌, ◌&&◌, ◌++◌, ℕ, List, OnOk, false, true, not, nat_eq, length, subst}
use Rattle.std.specs.Str.{is_utf8}
use Rattle.fax_spool.specs.RecordOctets as spool
use Rattle.fax_queue.specs.Restorations.{own_tag}
use Rattle.fax_queue.proofs.Tags.{no_tag_more, tag_more}
use Rattle.fax_queue.proofs.restored.set_tag.Goals as goal

pub returns-in_default-clause-tags : goal.returns-in_default-clause-tags
returns-in_default-clause-tags c =
    let i = c.page.inside in
    let none : (is_utf8 i.tag.items && not (nat_eq (length i.tag.items) 0)) ≡ false =
    subst (λ (l : List ℕ). (is_utf8 l && not (nat_eq (length l) 0)) ≡ false) c.as_slice.ensures.value c.in_default.ensures in
    subst (λ (p : spool.PageValue). c.args.queue.now.tags ≡ c.args.queue.now.tags ++ own_tag p) c.page.view_is
    (no_tag_more (record { life = i.life; call = i.call; number = i.number; format = i.format; closes = i.closes; line = i.line.items; tag = i.tag.items; text = i.text.items }) c.args.queue.now.tags none)

pub returns-clause-tags : goal.returns-clause-tags
returns-clause-tags c =
    let i = c.page.inside in
    let some : (is_utf8 i.tag.items && not (nat_eq (length i.tag.items) 0)) ≡ true =
    subst (λ (l : List ℕ). (is_utf8 l && not (nat_eq (length l) 0)) ≡ true) c.as_slice.ensures.value c.in-Some.ensures.1 in
    subst (λ (p : spool.PageValue). OnOk c.set_tag.result (c.set_tag.new.self.tags ≡ c.args.queue.now.tags ++ own_tag p)) c.page.view_is
    (tag_more c.set_tag.result (record { life = i.life; call = i.call; number = i.number; format = i.format; closes = i.closes; line = i.line.items; tag = i.tag.items; text = i.text.items }) c.args.queue.now.tags c.set_tag.new.self.tags c.in-Some.tag.now some (c.in-Some.ensures.0 ∙ c.as_slice.ensures.value) c.set_tag.ensures.tags)
