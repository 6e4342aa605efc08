use Rattle.fax_http.specs.declared.undelivered.TheConstants.{WORD_END}
use Rattle.fax_http.specs.Undelivered.{name_part, word_part}
use Rattle.fax_http.proofs.PartLemmas.{three}
use Rattle.fax_http.proofs.undelivered.put_word.Goals as goal

pub returns : goal.returns
unfolding word_part
returns c =
    three c.put-2.result c.args.octets.now.items c.args.word.now (name_part c.args.call.now) WORD_END.now
    _ _ _
    c.in_ok-put.ensures c.in_ok-put_call_name.ensures c.put-2.ensures
