use Rattle.fax_ifp.proofs.WritingLemmas.{indicator_length, frame_length, image_length}
use Rattle.fax_ifp.proofs.laws.packets_have_their_lengths.Goals as goal

pub returns : goal.returns
returns c = record { indicator = indicator_length; frame = frame_length; image = image_length }
