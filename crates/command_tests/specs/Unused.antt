-- Lines over which nothing went.
use Rattle.std.specs.Prelude.{◌≡◌, [], Some}
use Rattle.fax_loop.specs.Exchanges.{Lines}

pub record IsUnused (lines : Lines) : Type 0 where
  pub caller_sent : lines.caller.sent ≡ Some []
  pub wire_received : lines.wire.received ≡ Some []
  pub wire_sent : lines.wire.sent ≡ Some []
  pub answerer_received : lines.answerer.received ≡ Some []
  pub answerer_sent : lines.answerer.sent ≡ Some []
