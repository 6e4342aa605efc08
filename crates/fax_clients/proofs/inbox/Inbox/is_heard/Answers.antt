use Rattle.std.proofs.Common.{◌≡◌, [], subst}
use Rattle.fax_clients.specs.Clients.{ClientInput}
use Rattle.fax_clients.proofs.InboxLemmas.{heard_all}
use Rattle.fax_clients.proofs.inbox.Inbox.is_heard.Goals as goal

pub returns : goal.returns
returns c is = subst (λ (s : ClientInput). s.unheard ≡ []) c.self.view_is (heard_all c.self.inside.octets c.self.inside.start c.self.inside.end is)
