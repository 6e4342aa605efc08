use Rattle.std.proofs.Common.{◌≡◌, List, length, map, ap, ◌∙◌, arith}
use Rattle.std.specs.List.{items_where_true}
use Rattle.fax_clients.specs.Clients.{ClientValue, ClientsValue, counted}
use Rattle.fax_clients.proofs.WaitLemmas.{counted_all, slice_back}
use Rattle.fax_clients.proofs.clients.Clients.forget.Goals as goal

pub returns-clause-clients : goal.returns-clause-clients
returns-clause-clients c =
    let old : List ClientValue = c.self.inside.clients.items in
    let new : List ClientValue = c.take_lost-lost.new.clients in
    let whole : c.self.inside.clients.len ≡ length old = omega (arith, c.as_mut_slice.ensures.len, ap length c.as_mut_slice.ensures.value) in
    let as_many : length new ≡ length old = omega (arith, c.take_lost-lost.auto.clients, ap length c.as_mut_slice.ensures.value) in
    let stays = c.retain.ensures.filtered.0 in
    record {
      stays = stays;
      left = c.retain.ensures.filtered.4
          ∙ ap (λ (l : List ClientValue). items_where_true stays l) (slice_back c.self.inside.clients.len new old whole as_many
          ∙ counted_all c.as_mut_slice.result.now new c.take_lost-lost.ensures
          ∙ ap (λ (l : List ClientValue). map counted l) c.as_mut_slice.ensures.value
          ∙ ap (λ (v : ClientsValue). map counted v.clients) c.self.view_is);
    }
