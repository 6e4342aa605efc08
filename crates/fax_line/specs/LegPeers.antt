-- What becomes of the peers of a line's legs. (This project's profile.)
use Rattle.std.specs.Prelude.{◌≡◌, ℕ, Bool, true, false, Option, Some, None, Result, Ok, Err}
use Rattle.fax_gateway.specs.declared.leg.Leg.{Leg}
use Rattle.fax_gateway.specs.declared.leg.Leg.TheVariants as legs
use Rattle.fax_wires.specs.repeat.Peers.{HearsWhere, Peers, bounded, change_on, cut_off, gone, no_bounds, said, settled}
use Rattle.fax_line.specs.declared.asked.LineAnswer.{LineAnswer}
use Rattle.fax_line.specs.declared.asked.LineAnswer.TheVariants as answered
use Rattle.fax_line.specs.declared.asked.LineRequest.{LineRequest}
use Rattle.fax_line.specs.declared.asked.LineRequest.TheVariants as asked

-- the peer of each leg stays, or is heard
pub record HearBoth (old new : Peers) : Type 0 where
  pub calling : HearsWhere old.calling new.calling
  pub called : HearsWhere old.called new.called

-- a leg is cut, or not
abbrev pub cut_if : Leg → Bool → Peers → Peers
cut_if at true peers = change_on at cut_off peers
cut_if at false peers = peers

-- both are settled: a call is on on the calling leg or not, and a job is being sent or not
abbrev pub settled_both : Bool → Bool → Peers → Peers
settled_both is_on is_sending peers =
    change_on legs.Called (settled is_sending) (change_on legs.Calling (settled is_on) peers)

-- BY A TURN, before which calls are on or not, and in which a job is reported or not, both peers are settled and then stay, or are heard;
-- and then the called leg is cut where a job was reported.
pub record TurnsPeers (has_report is_on is_sending : Bool) (old new : Peers) : Type 0 where
  pub between : Peers
  pub hear : HearBoth (settled_both is_on is_sending old) between
  pub after : new ≡ cut_if legs.Called has_report between

-- AFTER WHAT WAS ASKED OF A LINE, which it answered so, the peers are what that made of them: where there was no way to a peer, and where
-- no call began by a ring or for want of a machine, what they were.
abbrev pub peers_after : LineRequest → Option LineAnswer → Peers → Peers
peers_after (asked.Ring ringing) (Some (answered.Rung (Ok number))) old =
    change_on legs.Calling (bounded ringing.bounds) (cut_if legs.Calling ringing.forgets_peer old)
peers_after (asked.Peer peering) (Some answered.Done) old =
    change_on peering.leg (said peering.peer) old
peers_after (asked.Connect connecting) (Some (answered.Placed (Ok done))) old =
    change_on legs.Called (bounded no_bounds) (change_on legs.Called (said connecting.peer) old)
peers_after (asked.Connect connecting) (Some (answered.Placed (Err fault))) old =
    change_on legs.Called cut_off (change_on legs.Called (said connecting.peer) old)
peers_after asked.NotConnected (Some (answered.Placed (Ok done))) old =
    change_on legs.Called cut_off old
peers_after (asked.HangUp hanging_up) (Some answered.Done) old = change_on hanging_up.leg gone old
peers_after what answer old = old
