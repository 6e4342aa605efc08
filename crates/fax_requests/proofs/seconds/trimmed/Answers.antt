use Rattle.std.proofs.Common.{refl}
use Rattle.std.proofs.lemmas.Str.Ascii.{trim_ascii_is}
use Rattle.fax_sip.specs.Texts.{from_word, trimmed}
use Rattle.fax_requests.proofs.seconds.trimmed.Goals as goal

pub returns : goal.returns
unfolding trimmed
returns c = trim_ascii_is c.args.text.now c.trim_ascii.result.now (from_word c.args.text.now) refl c.trim_ascii.ensures.value
