use Rattle.std.proofs.Common.{codes, map}
use Rattle.std.proofs.lemmas.Bool.Decides.{same_from_decides}
use Rattle.std.specs.Char.{to_ascii_lowercase}
use Rattle.std.specs.Cmp.Lexicographic.{bytes_decides}
use Rattle.fax_sip.specs.Texts.{is_word}
use Rattle.fax_user_agent.proofs.agreeing.is_timer.Goals as goal

pub returns : goal.returns
unfolding is_word
returns c =
    same_from_decides c.eq_ignore_ascii_case.result _ c.eq_ignore_ascii_case.ensures.test
    (bytes_decides (map to_ascii_lowercase c.args.word.now) (map to_ascii_lowercase (codes "timer")))
