use Rattle.std.proofs.Common.{rules}
use Rattle.fax_answer.specs.Orders.{order_of}
use Rattle.fax_answer.proofs.command.Order.read.Goals as goal

pub returns-in-Some-Dcs : goal.returns-in-Some-Dcs
unfolding order_of
returns-in-Some-Dcs c = search rules

pub returns-in-Some-Eom : goal.returns-in-Some-Eom
unfolding order_of
returns-in-Some-Eom c = search rules

pub returns-in-Some-Mps : goal.returns-in-Some-Mps
unfolding order_of
returns-in-Some-Mps c = search rules

pub returns-in-Some-Eop : goal.returns-in-Some-Eop
unfolding order_of
returns-in-Some-Eop c = search rules

pub returns-in-Some-Dcn : goal.returns-in-Some-Dcn
unfolding order_of
returns-in-Some-Dcn c = search rules

pub returns-in_default : goal.returns-in_default
unfolding order_of
returns-in_default c = search rules

pub returns-in_default-2 : goal.returns-in_default-2
unfolding order_of
returns-in_default-2 c = search rules
