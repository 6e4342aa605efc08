use Rattle.fax_http.proofs.TextLemmas.{text_is_only_text}
use Rattle.fax_http.proofs.laws.text_is_only_text.Goals as goal

pub returns : goal.returns
returns c = text_is_only_text
