use Rattle.std.proofs.Common.{lit<, ◌∙◌, ap, sym}
use Rattle.std.proofs.lemmas.Str.Pattern.{strip_suffix_char}
use Rattle.fax_sdp.specs.Texts.{without_return}
use Rattle.fax_sdp.proofs.TextLemmas.{without_return_at, without_return_none}
use Rattle.fax_sdp.proofs.lines.bare.Goals as goal

pub returns-in-Some : goal.returns-in-Some
returns-in-Some c =
    let parts = rw c.in-Some.is at (strip_suffix_char 13 c.args.line.now c.strip_suffix.result c.strip_suffix.ensures.cases (lit< tt)) in
    sym (ap without_return parts ∙ without_return_at _)

pub returns-in-None : goal.returns-in-None
returns-in-None c =
    let none = rw c.in-None.is at (strip_suffix_char 13 c.args.line.now c.strip_suffix.result c.strip_suffix.ensures.cases (lit< tt)) in
    sym (without_return_none _ none)
