use Rattle.fax_explain.proofs.OpenedLemmas.{image_heard}
use Rattle.fax_explain.proofs.listener.Listener.words_of_image.Goals as goal

pub returns : goal.returns
returns c = image_heard c.octets-octets.result c.args.self.now.image.octets c.args.whole _ _ _ _ c.octets-octets.ensures c.in_ok-wholeness.ensures c.in_ok-format.ensures.ok
