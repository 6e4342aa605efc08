use Rattle.std.proofs.Common.{◌≡◌, List, length, map, ap, ◌∙◌, arith}
use Rattle.fax_clients.specs.Clients.{ClientValue, ClientsValue}
use Rattle.fax_clients.proofs.ClientLemmas.{told_same}
use Rattle.fax_clients.proofs.WaitLemmas.{slice_back}
use Rattle.fax_clients.proofs.clients.Clients.hear.Goals as goal

pub returns-clause-told : goal.returns-clause-told
returns-clause-told c =
    let old : List ClientValue = c.self.inside.clients.items in
    let new : List ClientValue = c.hear-heard.new.clients in
    let whole : c.self.inside.clients.len ≡ length old = omega (arith, c.as_mut_slice.ensures.len, ap length c.as_mut_slice.ensures.value) in
    let as_many : length new ≡ length old = omega (arith, c.hear-heard.auto.clients, ap length c.as_mut_slice.ensures.value) in
    ap (λ (l : List ClientValue). map (λ client. client.told) l) (slice_back c.self.inside.clients.len new old whole as_many)
    ∙ told_same c.hear-heard.result c.as_mut_slice.result.now new c.hear-heard.ensures.none c.hear-heard.ensures.heard
    ∙ ap (λ (l : List ClientValue). map (λ client. client.told) l) c.as_mut_slice.ensures.value
    ∙ ap (λ (v : ClientsValue). map (λ (client : ClientValue). client.told) v.clients) c.self.view_is
