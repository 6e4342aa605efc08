use Rattle.std.proofs.Common.{◌≡◌, List, length, ap, subst, ◌∙◌, arith}
use Rattle.fax_clients.specs.Clients.{AreLeft, AreServed, ClientValue, ClientsValue}
use Rattle.fax_clients.proofs.WaitLemmas.{left_none, left_one, slice_back}
use Rattle.fax_clients.proofs.clients.Clients.wait_for_clients.Goals as goal

pub returns-then-is_ready-clause-clients : goal.returns-then-is_ready-clause-clients
returns-then-is_ready-clause-clients c =
    let old : List ClientValue = c.self.inside.clients.items in
    let new : List ClientValue = c.wait_for.new.clients in
    let whole : c.self.inside.clients.len ≡ length old = omega (arith, c.as_mut_slice.ensures.len, ap length c.as_mut_slice.ensures.value) in
    let as_many : length new ≡ length old = omega (arith, c.wait_for.auto.clients, ap length c.as_mut_slice.ensures.value) in
    left_one c.args.self.now.clients new c.forget.new.self.clients c.let_in.new.self.clients
    (subst (λ (l : List ClientValue). AreServed l new) (c.as_mut_slice.ensures.value ∙ ap (λ (v : ClientsValue). v.clients) c.self.view_is) c.wait_for.ensures)
    (subst (λ (l : List ClientValue). AreLeft l c.forget.new.self.clients) (slice_back c.self.inside.clients.len new old whole as_many) c.forget.ensures.clients)
    c.let_in.ensures.one

pub returns-else-is_ready-clause-clients : goal.returns-else-is_ready-clause-clients
returns-else-is_ready-clause-clients c =
    let old : List ClientValue = c.self.inside.clients.items in
    let new : List ClientValue = c.wait_for.new.clients in
    let whole : c.self.inside.clients.len ≡ length old = omega (arith, c.as_mut_slice.ensures.len, ap length c.as_mut_slice.ensures.value) in
    let as_many : length new ≡ length old = omega (arith, c.wait_for.auto.clients, ap length c.as_mut_slice.ensures.value) in
    left_none c.args.self.now.clients new c.forget.new.self.clients
    (subst (λ (l : List ClientValue). AreServed l new) (c.as_mut_slice.ensures.value ∙ ap (λ (v : ClientsValue). v.clients) c.self.view_is) c.wait_for.ensures)
    (subst (λ (l : List ClientValue). AreLeft l c.forget.new.self.clients) (slice_back c.self.inside.clients.len new old whole as_many) c.forget.ensures.clients)
