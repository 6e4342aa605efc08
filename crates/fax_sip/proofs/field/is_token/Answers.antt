use Rattle.std.proofs.Common.{◌∙◌, sym}
use Rattle.fax_sip.proofs.FieldLemmas.{token_none, token_some}
use Rattle.fax_sip.proofs.TextLemmas.{long_text}
use Rattle.fax_sip.proofs.field.is_token.Goals as goal

pub returns-then-is_empty : goal.returns-then-is_empty
returns-then-is_empty c = sym (token_none c.args.word.now c.is_empty.result c.is_empty.ensures c.if-is_empty.true)

pub returns : goal.returns
returns c =
    c.has_token_octets_alone.ensures ∙ sym (token_some c.args.word.now (long_text c.args.word.now c.is_empty.result c.is_empty.ensures c.if-is_empty.false))
