use Rattle.std.proofs.Common.{refl, rules, arith}
use Rattle.std.proofs.lemmas.Grind.{common_steps}
use Rattle.fax_send_receive.proofs.job_files.tiff_pages_in.Goals as goal

-- it is not for want of memory
pub returns-in-Err : goal.returns-in-Err
returns-in-Err c = record {
  ok = tt;
  file = λ format coding known are. (refl, c.args.octets.now, are, record { begins = c.requires; refused = c.in-Err.ensures.fault (first_of (search rules, grind (arith, common_steps))) });
}
