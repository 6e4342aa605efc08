use Rattle.std.proofs.Common.{◌≡◌, ◌≤◌, ◌++◌, ℕ, List, length, take, drop, IfSome, sym, subst, arith}
use Rattle.fax_control.specs.ClientStreams.{EndsALine, fitting, octets_of_heard}
use Rattle.fax_clients.specs.Clients.{ClientInput, IsHeard}
use Rattle.fax_clients.proofs.InboxLemmas.{heard_of}
use Rattle.fax_clients.proofs.inbox.Inbox.hear.Goals as goal

pub returns-clause-heard : goal.returns-clause-heard
returns-clause-heard c =
    let octets : List ℕ = c.self.inside.octets in
    let stop : ℕ = c.self.inside.end in
    let rest : List ℕ = c.hear-heard.result.1.now in
    let old : ClientInput = record { more = c.self.inside.is_open; unheard = drop c.self.inside.start (take stop octets); begun = c.self.inside.lines } in
    let new : ℕ → ClientInput = λ (n : ℕ). record { more = c.self.inside.is_open; unheard = drop n (take stop octets); begun = c.hear-heard.new.self } in
    let within : stop ≤ length octets = omega (arith, c.self.told, c.self.invariant.1) in
    subst (λ (s : ClientInput). IfSome c.hear-heard.result.0 (λ heard. IsHeard heard s (new c.saturating_sub-self-inside.result))) c.self.view_is
    (subst (λ (n : ℕ). IfSome c.hear-heard.result.0 (λ heard. IsHeard heard old (new n))) (sym c.saturating_sub-self-inside.ensures)
    (heard_of c.hear-heard.result.0 octets c.self.inside.start stop c.self.inside.lines c.hear-heard.new.self rest c.self.inside.is_open c.self.invariant.0 within
    (subst (λ (l : List ℕ). IfSome c.hear-heard.result.0 (λ heard. (end : List ℕ) × EndsALine l end rest
    × ((part : List ℕ) → c.self.inside.lines ≡ fitting part → octets_of_heard heard ≡ fitting (part ++ end)))) c.part-unheard.ensures c.hear-heard.ensures.line)
    c.hear-heard.ensures.begins))
