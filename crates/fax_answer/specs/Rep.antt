-- What is kept of a call in place of its history. No law speaks of this module.
use Rattle.std.specs.Prelude.{ℕ, nat_eq, List, if◌then◌else◌}
use Rattle.fax_ifp.specs.Pieces as pieces
use Rattle.fax_answer.specs.declared.command.Order.{Order}
use Rattle.fax_answer.specs.declared.command.Order.TheVariants.{Train, Disconnect}
use Rattle.fax_answer.specs.declared.counts.Counts.{Counts}
use Rattle.fax_answer.specs.declared.counts.Images.{Images}
use Rattle.fax_answer.specs.declared.counts.Images.TheVariants.{Zero, One, More}
use Rattle.fax_answer.specs.declared.decision.Decision as code
use Rattle.fax_answer.specs.declared.decision.Decision.TheVariants as verdicts
use Rattle.fax_frames.specs.declared.writing.Plain.TheVariants.{Cfr, Ftt, Mcf, Rtn}
use Rattle.fax_answer.specs.declared.pending.Reply.TheVariants.{Plain}
use Rattle.fax_answer.specs.declared.pending.Pending.{Pending}
use Rattle.fax_answer.specs.declared.pending.Pending.TheVariants.{Nothing, Preamble}
use Rattle.fax_answer.specs.History.{Entry, Decision, PassesOver, Trains, HangsUp, GivesCfr, GivesFtt, GivesMcf, GivesRtn, since_answer, images, gap, last_whole, repeated, missing_in_training, gap_with, whole_with}

-- a decision without the page of an MCF
abbrev pub verdict_of : Decision → code.Decision
verdict_of PassesOver = verdicts.PassOver
verdict_of (Trains dcs) = verdicts.Train dcs
verdict_of HangsUp = verdicts.HangUp
verdict_of (GivesCfr dcs) = verdicts.Cfr dcs
verdict_of GivesFtt = verdicts.Ftt
verdict_of (GivesMcf command page) = verdicts.Mcf command
verdict_of GivesRtn = verdicts.Rtn

-- none, one, or more
abbrev pub seen : ℕ → Images
seen n = if nat_eq n 0 then Zero else if nat_eq n 1 then One else More

abbrev pub one_more : Images → Images
one_more Zero = One
one_more One = More
one_more More = More

abbrev pub counts_of : List Entry → Counts
counts_of history =
    record {
      images = seen (images (since_answer history));
      gap = gap (since_answer history);
      whole = last_whole (since_answer history);
      repeat = repeated history;
      missing = missing_in_training history;
    }

-- the counts with a piece after the last CFR or MCF
abbrev pub images_with : pieces.Piece → Images → Images
images_with (pieces.End whole) before = one_more before
images_with piece before = before

abbrev pub counted : Counts → pieces.Piece → Counts
counted counts piece =
    record {
      images = images_with piece counts.images;
      gap = gap_with piece counts.gap;
      whole = whole_with piece counts.whole;
      repeat = counts.repeat;
      missing = counts.missing;
    }

-- what is decided in a call at a frame that is no command, or at a command outside of Page and Again
abbrev pub decided_outside : Order → code.Decision
decided_outside (Train dcs) = verdicts.Train dcs
decided_outside Disconnect = verdicts.HangUp
decided_outside order = verdicts.PassOver

-- what waits after a decision, where nothing waited
abbrev pub pending_reply : code.Decision → Pending
pending_reply (verdicts.Cfr dcs) = Preamble (Plain Cfr)
pending_reply verdicts.Ftt = Preamble (Plain Ftt)
pending_reply (verdicts.Mcf command) = Preamble (Plain Mcf)
pending_reply verdicts.Rtn = Preamble (Plain Rtn)
pending_reply verdict = Nothing
