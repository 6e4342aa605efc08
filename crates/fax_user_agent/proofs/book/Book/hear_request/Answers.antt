use Rattle.std.proofs.Common.{IfSome, sym, subst, ◌∙◌}
use Rattle.fax_sip.specs.Messages.{message_text}
use Rattle.fax_user_agent.specs.Events.{Brings, MayBeRequest}
use Rattle.fax_user_agent.proofs.book.Book.hear_request.Goals as goal

-- the method is that of its word, in each case
pub returns-in-Ack : goal.returns-in-Ack
returns-in-Ack c = subst (λ asked. IfSome c.acknowledged.result (MayBeRequest c.args.profile.now.routes.items c.args.incoming.now.uri.now (message_text c.args.incoming.now.message.now) asked)) (sym c.in-Ack.is ∙ c.of_word.ensures) (c.acknowledged.ensures c.args.profile.now.routes.items)

pub returns-in-Cancel : goal.returns-in-Cancel
returns-in-Cancel c = subst (λ asked. Brings (MayBeRequest c.args.profile.now.routes.items c.args.incoming.now.uri.now (message_text c.args.incoming.now.message.now) asked) c.cancelled.result) (sym c.in-Cancel.is ∙ c.of_word.ensures) (c.cancelled.ensures c.args.profile.now.routes.items)

pub returns-then-is_within : goal.returns-then-is_within
returns-then-is_within c = subst (λ asked. Brings (MayBeRequest c.args.profile.now.routes.items c.args.incoming.now.uri.now (message_text c.args.incoming.now.message.now) asked) c.invited_again.result) (sym c.in-Invite.is ∙ c.of_word.ensures) (c.invited_again.ensures c.args.profile.now.routes.items (sym c.is_within.ensures ∙ c.if-is_within.true))

pub returns-in-Bye : goal.returns-in-Bye
returns-in-Bye c = subst (λ asked. Brings (MayBeRequest c.args.profile.now.routes.items c.args.incoming.now.uri.now (message_text c.args.incoming.now.message.now) asked) c.ended.result) (sym c.in-Bye.is ∙ c.of_word.ensures) (c.ended.ensures c.args.profile.now.routes.items)
