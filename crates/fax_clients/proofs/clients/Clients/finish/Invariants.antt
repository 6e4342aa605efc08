use Rattle.std.proofs.Common.{◌≡◌, ◌≤◌, false, length}
use Rattle.fax_clients.proofs.clients.Clients.finish.Given as goal

abbrev pub invariant-loop : goal.invariant-loop
invariant-loop l = record {
  socket : l.self.has_socket ≡ l.initial.self.has_socket;
  lost : l.initial.self.lost ≤ l.self.lost;
  no_more : l.initial.self.has_socket ≡ false → length l.self.clients ≤ length l.initial.self.clients;
}
