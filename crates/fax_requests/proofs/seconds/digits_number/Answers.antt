use Rattle.std.proofs.Common.{◌∙◌, sym, ap}
use Rattle.std.specs.Result.{result_ok}
use Rattle.fax_sip.proofs.TextLemmas.{number_parsed}
use Rattle.fax_requests.proofs.seconds.digits_number.Goals as goal

pub returns-in-Ok : goal.returns-in-Ok
returns-in-Ok c = sym (number_parsed c.args.digits.now c.parse.result c.requires c.parse.ensures.value.0 ∙ ap result_ok c.in-Ok.is)

pub returns-in-Err : goal.returns-in-Err
returns-in-Err c = sym (number_parsed c.args.digits.now c.parse.result c.requires c.parse.ensures.value.0 ∙ ap result_ok c.in-Err.is)
