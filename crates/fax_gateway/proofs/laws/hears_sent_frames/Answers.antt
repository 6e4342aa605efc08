use Rattle.fax_gateway.proofs.SentPages.{leg_hears_sent_frames}
use Rattle.fax_gateway.proofs.laws.hears_sent_frames.Goals as goal

pub returns : goal.returns
returns c = leg_hears_sent_frames
