use Rattle.fax_frames.proofs.ReadBack.{written_dis_are_read, written_dis_are_themselves, read_dis_has_24_bits}
use Rattle.fax_frames.proofs.laws.written_dis_are_read.Goals as goal

pub returns : goal.returns
returns c = record { written = written_dis_are_read; themselves = written_dis_are_themselves; read = read_dis_has_24_bits }
