use Rattle.std.proofs.Common.{◌≡◌, ◌∙◌, ap, is_some, sym}
use Rattle.fax_gateway.specs.declared.leg.Leg.TheVariants as legs
use Rattle.fax_gateway.specs.declared.turn_report.TurnReport.{TurnReport}
use Rattle.fax_gateway.specs.Reached.{GatewayValue}
use Rattle.fax_gateway.specs.BothLegs.{job_asked}
use Rattle.fax_gateway.specs.Turns.{call_asked, call_dialled, call_ended, call_if_new, call_of_rep}
use Rattle.fax_line.specs.LegPeers.{cut_if}
use Rattle.fax_line.proofs.Heard.{goes_between, turn_between}
use Rattle.fax_line.proofs.line.Line.turn.Goals as goal

pub returns-clause-goes : goal.returns-clause-goes
returns-clause-goes g c =
    goes_between c.args.now c.args.self.now c.settle_peers.new.self c.drive.new.self c.cut_if.new.self c.settle_peers.ensures.tells c.drive.ensures.goes c.cut_if.ensures.tells

pub returns-clause-tells : goal.returns-clause-tells
returns-clause-tells g c =
    turn_between c.args.now c.args.self.now c.settle_peers.new.self c.drive.new.self c.cut_if.new.self c.settle_peers.ensures.tells c.settle_peers.ensures.peers c.drive.ensures.drives c.cut_if.ensures.tells
    (c.cut_if.ensures.peers ∙ ap (λ b. cut_if legs.Called b c.drive.new.self.peers) c.has_report-has_report.ensures)

pub returns-clause-ended : goal.returns-clause-ended
returns-clause-ended g c =
    ap (λ (x : TurnReport). x.ended) c.cut_if.ensures.tells.turned ∙ c.drive.ensures.ended
    ∙ ap (λ (x : GatewayValue). call_ended (call_of_rep x.calling) (call_of_rep c.drive.new.self.gateway.calling)) c.settle_peers.ensures.tells.gateway
    ∙ ap (λ (x : GatewayValue). call_ended (call_of_rep c.args.self.now.gateway.calling) (call_of_rep x.calling)) (sym c.cut_if.ensures.tells.gateway)

pub returns-clause-dialled : goal.returns-clause-dialled
returns-clause-dialled g c =
    ap (λ (x : TurnReport). x.dialled) c.cut_if.ensures.tells.turned ∙ c.drive.ensures.dialled
    ∙ ap (λ (x : GatewayValue). call_dialled (is_some x.book.sending) c.drive.new.self.gateway.book.sending) c.settle_peers.ensures.tells.gateway
    ∙ ap (λ (x : GatewayValue). call_dialled (is_some c.args.self.now.gateway.book.sending) x.book.sending) (sym c.cut_if.ensures.tells.gateway)

pub returns-clause-asked : goal.returns-clause-asked
returns-clause-asked g c =
    let was = c.args.self.now.gateway in
    let is = c.drive.new.self.gateway in
    ap (λ (x : TurnReport). x.asked) c.cut_if.ensures.tells.turned ∙ c.drive.ensures.asked
    ∙ ap (λ (x : GatewayValue). call_if_new (call_asked (job_asked x.settings.asks x.book)) (call_asked (job_asked is.settings.asks is.book))) c.settle_peers.ensures.tells.gateway
    ∙ ap (λ (x : GatewayValue). call_if_new (call_asked (job_asked was.settings.asks was.book)) (call_asked (job_asked x.settings.asks x.book))) (sym c.cut_if.ensures.tells.gateway)
