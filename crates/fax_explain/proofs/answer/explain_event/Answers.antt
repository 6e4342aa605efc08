use Rattle.fax_explain.proofs.PlayLemmas.{each_ok}
use Rattle.fax_explain.proofs.answer.explain_event.Goals as goal

pub returns : goal.returns
returns c = each_ok c.paragraph.result c.paragraph.ensures (λ own is. record {
  told = c.in_ok-scene.scene.tale;
  text_is = is;
  plays = λ setup writes old written at reached. c.in_ok-scene.ensures setup writes old written at reached;
})
