use Rattle.fax_ifp.proofs.SentFrames.{frames_are_sent}
use Rattle.fax_ifp.proofs.laws.frames_are_sent.Goals as goal

pub returns : goal.returns
returns c = frames_are_sent
