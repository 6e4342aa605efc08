use Rattle.fax_sip_service.proofs.ServiceLemmas.{collects}
use Rattle.fax_sip_service.proofs.service.SipService.collect.Goals as goal

pub returns : goal.returns
returns c =
    collects c.args.now _ _ c.args.self.now _ _ _ _ c.orders-orders.ensures.given c.orders-orders.ensures.rest c.take_orders.ensures c.agent_news-news.ensures.told c.agent_news-news.ensures.rest c.take_news.ensures
