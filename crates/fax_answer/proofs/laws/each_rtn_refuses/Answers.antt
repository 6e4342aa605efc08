use Rattle.fax_answer.proofs.EachRtn.{each_rtn}
use Rattle.fax_answer.proofs.laws.each_rtn_refuses.Goals as goal

pub returns : goal.returns
returns c = each_rtn
